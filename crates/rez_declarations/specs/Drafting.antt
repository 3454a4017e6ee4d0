use Rattle.std.specs.Prelude.{ℕ, ◌+◌, ◌/◌, ◌%◌, ◌==◌, nat_lt, Bool, not, ◌&&◌, ◌||◌, Option, Some, None}
use Rattle.std.specs.Prelude.{Result, Ok, Err, List, [], ◌∷◌, ◌++◌, length, if◌then◌else◌}
use Rattle.std.specs.List.{position, list_any}
use Rattle.rez_declarations.specs.declared.unsound.Unsound.{Unsound}
use Rattle.rez_declarations.specs.declared.unsound.Unsound.TheVariants as fault
use Rattle.rez_types.specs.Fields.{Part, Constant, FillBits, ArrayEnd, Fixed, Counted, Before, Resource}
use Rattle.rez_types.specs.Fields.{Field, Run, Fill, Array}
use Rattle.rez_declarations.specs.Results.{◌>>=◌, unless}
use Rattle.rez_types.specs.Decoding.{width_of}
use Rattle.rez_declarations.specs.Sound.{is_name}

-- The fields of a block, as they are declared one after another.

-- An array of which the next field has to say how it ends: its name, and the block of its elements.
pub record Waiting : Type 0 where
  pub name : List ℕ
  pub block : ℕ

-- The fields so far; the parts of the run that is not yet whole, and how many bits they have; the names of the arrays that have
-- counts, in the order of the counts; the names of the arrays; and the array that waits for its end.
pub record Draft : Type 0 where
  pub fields : List Field
  pub parts : List Part
  pub bits : ℕ
  pub counts : List (List ℕ)
  pub names : List (List ℕ)
  pub waiting : Option Waiting

-- Before the first field.
abbrev pub no_draft : Draft
no_draft = record { fields = []; parts = []; bits = 0; counts = []; names = []; waiting = None }

-- One more field.
abbrev pub with_field : Field → Draft → Draft
with_field f d = record d { fields = d.fields ++ f ∷ [] }

-- The array that waits ends so.
abbrev pub ending : ArrayEnd → Waiting → Draft → Draft
ending end w d = record (with_field (Array w.name end w.block) d) { waiting = None }

-- A field that is not part of a run: no bits wait for a whole byte, and no array for its end.
abbrev pub whole_at : Option Waiting → Draft → Result Draft Unsound
whole_at None d = unless (not (d.bits == 0)) fault.PartialBytes d
whole_at (Some w) d = Err fault.EndlessArray

abbrev pub whole : Draft → Result Draft Unsound
whole d = whole_at d.waiting d

-- A constant of whole bytes ends the array that waits.
abbrev pub ended_by : Part → Waiting → Draft → Result Draft Unsound
ended_by (Constant width pattern is_key) w d =
    unless (not (width % 8 == 0)) fault.EndlessArray (ending (Before (width / 8) pattern) w d)
ended_by p w d = Err fault.EndlessArray

abbrev pub before_part : Part → Option Waiting → Draft → Result Draft Unsound
before_part p None d = Ok d
before_part p (Some w) d = ended_by p w d

-- A part in its run, which is whole at its first whole byte, and has at most 32 bits.
abbrev pub in_run : Part → ℕ → Draft → Result Draft Unsound
in_run p bits d =
    if nat_lt 32 bits then Err fault.PartialBytes
    else if bits % 8 == 0
    then Ok (record (with_field (Run (bits / 8) (d.parts ++ p ∷ [])) d) { parts = []; bits = 0 })
    else Ok (record d { parts = d.parts ++ p ∷ []; bits = bits })

abbrev pub with_part : Part → Draft → Result Draft Unsound
with_part p d = before_part p d.waiting d >>= λ e. in_run p (e.bits + width_of p) e

-- A fill of so many bits that are whole bytes.
abbrev pub with_bytes : ℕ → Draft → Result Draft Unsound
with_bytes bits d =
    whole d >>= λ e. unless (nat_lt 2048 bits) fault.LongFill e >>= λ f. Ok (with_field (Fill (bits / 8)) f)

-- A fill of so many bits: of whole bytes where it begins at one, else part of a run.
abbrev pub with_fill : ℕ → Draft → Result Draft Unsound
with_fill bits d =
    if d.bits == 0 && bits % 8 == 0 then with_bytes bits d
    else if bits == 0 || nat_lt 32 bits then Err fault.PartialBytes
    else with_part (FillBits bits) d

-- A name stands among names.
abbrev pub is_among : List ℕ → List (List ℕ) → Bool
is_among name names = list_any (is_name name) names

-- The count of an array of this name.
abbrev pub with_count : List ℕ → Part → Draft → Result Draft Unsound
with_count name p d =
    unless (is_among name d.counts) fault.CountWithoutArray d
    >>= λ e. with_part p e >>= λ f. Ok (record f { counts = f.counts ++ name ∷ [] })

-- An array that ends by its length, if one is stated, or by its count, if it has one, or as the next field says.
abbrev pub array_ending : Option ℕ → Option ℕ → Waiting → Draft → Result Draft Unsound
array_ending (Some n) None w d = Ok (ending (Fixed n) w d)
array_ending (Some n) (Some place) w d = Err fault.CountWithoutArray
array_ending None (Some place) w d = Ok (ending (Counted place) w d)
array_ending None None w d = Ok (record d { waiting = Some w })

-- No array before it has the name of an array; one without a name has no bytes as its name.
abbrev pub once_named : List ℕ → Draft → Result Draft Unsound
once_named name d = unless (not (length name == 0) && is_among name d.names) fault.TwoNames d

-- One more name of an array.
abbrev pub with_name : List ℕ → Draft → Draft
with_name name d = record d { names = d.names ++ name ∷ [] }

-- An array has a name at most once in its block. An array without a name has no bytes as its name.
abbrev pub with_array : Option ℕ → Waiting → Draft → Result Draft Unsound
with_array size w d =
    whole d
    >>= λ e. unless (not (length w.name == 0) && is_among w.name e.names) fault.TwoNames e
    >>= λ f. array_ending size (position (is_name w.name) f.counts) w (record f { names = f.names ++ w.name ∷ [] })

-- All fields: an array that waits ends with the resource.
abbrev pub closed_at : Option Waiting → Draft → Draft
closed_at None d = d
closed_at (Some w) d = ending Resource w d

abbrev pub closed : Draft → Result (List Field) Unsound
closed d = unless (not (d.bits == 0)) fault.PartialBytes (closed_at d.waiting d).fields
