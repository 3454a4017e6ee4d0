use Rattle.std.specs.Prelude.{ℕ, zero, suc, ◌+◌, ◌-◌, ◌*◌, ◌%◌, ◌^◌, min, max, ◌==◌, nat_lt, nat_le, Bool, true, false}
use Rattle.std.specs.Prelude.{not, ◌&&◌, ◌||◌, Option, Some, None, Result, Ok, Err, List, [], ◌∷◌, ◌++◌, length, map}
use Rattle.std.specs.Prelude.{slice_get, option_and_then, if◌then◌else◌}
use Rattle.std.specs.List.{list_any}
use Rattle.std.specs.Str.{str_eq_ignore_ascii_case}
use Rattle.rez_types.specs.declared.declaration.TextEnd.{TextEnd}
use Rattle.rez_types.specs.declared.declaration.TextEnd.TheVariants as end
use Rattle.rez_declarations.specs.declared.unsound.Unsound.{Unsound}
use Rattle.rez_declarations.specs.declared.unsound.Unsound.TheVariants as fault
use Rattle.rez_declarations.specs.declared.shape.Shape.{Shape}
use Rattle.rez_types.specs.Fields.{NamedNumber, NamedText, Part, Integer, Constant, Count, FillBits}
use Rattle.rez_types.specs.Fields.{ArrayEnd, Fixed, Counted, Before, Resource, KeyPlace, Case}
use Rattle.rez_types.specs.Fields.{Field, Run, Fill, Align, Text, Point, Rect, Array, Switch, Declaration}
use Rattle.rez_declarations.specs.Results.{◌>>=◌, unless}
use Rattle.rez_types.specs.Decoding.{width_of, has_key}
use Rattle.rez_types.specs.Encoding.{has_no_zero}

-- What it is for a declaration in the language of Rez to be sound, so that its fields say where each value begins and ends:
-- Macintosh Programmer's Workshop: Building and Managing Programs in MPW, chapter Rez.

-- Fields before the first one.
abbrev pub no_fields : Shape
no_fields = record {
  least = 0;
  fields = 0;
  depth = 0;
  states = false;
  is_open = false;
  after_fill = false;
  counts = 0;
}

-- A number of bytes, or one more than a resource can have; and a number of fields, or one more than a declaration may have.
abbrev pub bytes_at_most : ℕ → ℕ
bytes_at_most n = min n 16777217

abbrev pub fields_at_most : ℕ → ℕ
fields_at_most n = min n 513

-- So many bytes more at least.
abbrev pub longer : ℕ → Shape → Shape
longer bytes s = record s { least = bytes_at_most (s.least + bytes) }

-- One more field.
abbrev pub one_more : Shape → Shape
one_more s = record s { fields = fields_at_most (s.fields + 1) }

-- Something is stated after a fill.
abbrev pub stating : Shape → Shape
stating s = record s { states = true; after_fill = false }

-- A fill: never after another with nothing stated between them.
abbrev pub filling : Shape → Result Shape Unsound
filling s = unless s.after_fill fault.FillAfterFill (record s { after_fill = true })

-- Two names are one, whatever their case.
abbrev pub is_name : List ℕ → List ℕ → Bool
is_name a b = str_eq_ignore_ascii_case a b

-- Some name is there twice.
abbrev pub has_twins : List (List ℕ) → Bool
has_twins [] = false
has_twins (name ∷ names) = list_any (is_name name) names || has_twins names

-- A number has more than so many bits.
abbrev pub is_wide : ℕ → ℕ → Bool
is_wide width number = nat_le (2 ^ width) number

-- The names of constants and of cases.
abbrev pub number_names : List NamedNumber → List (List ℕ)
number_names constants = map (λ (n : NamedNumber). n.name) constants

abbrev pub text_names : List NamedText → List (List ℕ)
text_names constants = map (λ (n : NamedText). n.name) constants

abbrev pub case_names : List Case → List (List ℕ)
case_names cases = map (λ (c : Case). c.name) cases

-- Some constant has more than so many bits.
abbrev pub has_wide : ℕ → List NamedNumber → Bool
has_wide width constants = list_any (λ (n : NamedNumber). is_wide width n.pattern) constants

-- A part of a run.
abbrev pub part_judged : Part → Shape → Result Shape Unsound
part_judged (Integer width form constants) s =
    unless (has_twins (number_names constants)) fault.TwoNames s
    >>= λ t. unless (has_wide width constants) fault.WideConstant (stating t)
part_judged (Constant width pattern is_key) s = unless (is_wide width pattern) fault.WideConstant s
part_judged (Count width is_less_one) s = Ok (record s { counts = fields_at_most (s.counts + 1) })
part_judged (FillBits width) s = filling s

-- The parts of a run in turn.
abbrev pub parts_judged : List Part → Shape → Result Shape Unsound
parts_judged [] s = Ok s
parts_judged (p ∷ parts) s = part_judged p (one_more s) >>= λ t. parts_judged parts t

-- Parts after so many bits are so many bits together, and come to no whole byte before.
abbrev pub is_run : ℕ → ℕ → List Part → Bool
is_run bits all [] = false
is_run bits all (p ∷ []) = bits + width_of p == all
is_run bits all (p ∷ parts) =
    not ((bits + width_of p) % 8 == 0 || nat_le all (bits + width_of p)) && is_run (bits + width_of p) all parts

-- A run of so many bytes, at most four: it ends with its first whole byte.
abbrev pub run_judged : ℕ → List Part → Shape → Result Shape Unsound
run_judged bytes parts s =
    unless (nat_lt 4 bytes || not (is_run 0 (8 * bytes) parts)) fault.PartialBytes s
    >>= λ t. parts_judged parts t >>= λ u. Ok (longer bytes u)

-- A fill of 1 to 256 bytes.
abbrev pub fill_judged : ℕ → Shape → Result Shape Unsound
fill_judged bytes s =
    unless (bytes == 0 || nat_lt 256 bytes) fault.LongFill s >>= λ t. filling t >>= λ u. Ok (one_more (longer bytes u))

-- A string may end so.
abbrev pub is_text : TextEnd → List ℕ → Bool
is_text end.Pascal text = nat_le (length text) 255
is_text end.C text = has_no_zero text
is_text end.Char text = length text == 1
is_text (end.Fixed n) text = length text == n
is_text end.Resource text = true

-- The fewest bytes of a string.
abbrev pub least_text : TextEnd → ℕ
least_text end.Pascal = 1
least_text end.C = 1
least_text end.Char = 1
least_text (end.Fixed n) = n
least_text end.Resource = 0

-- A string ends with the resource.
abbrev pub is_last : TextEnd → Bool
is_last end.Resource = true
is_last e = false

-- Some constant is no string that may end so.
abbrev pub has_wrong : TextEnd → List NamedText → Bool
has_wrong e constants = list_any (λ (n : NamedText). not (is_text e n.text)) constants

-- A string.
abbrev pub text_judged : TextEnd → List NamedText → Shape → Result Shape Unsound
text_judged e constants s =
    unless (has_twins (text_names constants)) fault.TwoNames s
    >>= λ t. unless (has_wrong e constants) fault.WrongText t
    >>= λ u. Ok (record (one_more (longer (least_text e) (stating u))) { is_open = is_last e })

-- An array ends by the count at this place.
abbrev pub is_counted : ℕ → Field → Bool
is_counted place (Array name (Counted k) block) = k == place
is_counted place f = false

-- How many arrays of a block end by it.
abbrev pub uses_of : ℕ → List Field → ℕ
uses_of place [] = 0
uses_of place (f ∷ fields) = if is_counted place f then suc (uses_of place fields) else uses_of place fields

-- Each of so many counts ends one array.
abbrev pub each_counts : ℕ → List Field → Bool
each_counts zero fields = true
each_counts (suc n) fields = uses_of n fields == 1 && each_counts n fields

-- The first of the fields is a constant of so many bytes.
abbrev pub begins_with : ℕ → ℕ → List Field → Bool
begins_with bytes pattern (Run n (Constant width p is_key ∷ []) ∷ fields) =
    n == bytes && width == 8 * bytes && p == pattern
begins_with bytes pattern fields = false

-- An array ends so, where `rest` are the fields after it: its elements have at least so many bytes.
abbrev pub end_judged : ArrayEnd → ℕ → List Field → Shape → Result Shape Unsound
end_judged (Fixed n) least rest s = unless (n == 0) fault.NoLength (longer (n * least) s)
end_judged (Counted place) least rest s = unless (nat_le s.counts place) fault.CountWithoutArray s
end_judged (Before bytes pattern) least rest s =
    unless (not (begins_with bytes pattern rest)) fault.EndlessArray s
    >>= λ t. unless (nat_lt least bytes) fault.LongConstant t
end_judged Resource least rest s = Ok (record s { is_open = true })

-- The fields of a block within others: at most 8 deep.
abbrev pub within : Shape → Shape → Result Shape Unsound
within inner s =
    unless (nat_le 8 inner.depth) fault.TooDeep
    (record s { depth = max s.depth (inner.depth + 1); fields = fields_at_most (s.fields + inner.fields) })

-- The elements of an array: each has a byte at least, states something, and ends before the resource does.
abbrev pub element_judged : Shape → Shape → Result Shape Unsound
element_judged inner s =
    unless inner.is_open fault.NotLast s
    >>= λ t. unless (inner.least == 0) fault.NoElementBytes t
    >>= λ u. unless (not inner.states) fault.NothingStated u
    >>= λ v. within inner v

-- The shape of a block that stands before.
abbrev pub shape_at : ℕ → List Shape → Result Shape Unsound
shape_at block shapes = elim (slice_get shapes block) [ None ↦ Err fault.NoBlock | Some inner ↦ Ok inner ]

-- An array.
abbrev pub array_judged : List Shape → ArrayEnd → ℕ → List Field → Shape → Result Shape Unsound
array_judged shapes end block rest s =
    shape_at block shapes >>= λ inner. element_judged inner s >>= λ t. end_judged end inner.least rest (one_more (stating t))

-- How many bytes a field has, where it always has as many.
abbrev pub fixed_length : Field → Option ℕ
fixed_length (Run bytes parts) = Some bytes
fixed_length (Fill bytes) = Some bytes
fixed_length (Text end.Char is_hex constants) = Some 1
fixed_length (Text (end.Fixed n) is_hex constants) = Some n
fixed_length Point = Some 4
fixed_length Rect = Some 8
fixed_length f = None

-- A part is a key.
abbrev pub is_key : Part → Bool
is_key (Constant width pattern key) = key
is_key p = false

-- What a constant is.
abbrev pub pattern_of : Part → ℕ
pattern_of (Constant width pattern key) = pattern
pattern_of p = 0

-- The key of a case: where it stands, and what it is.
pub record Key : Type 0 where
  pub place : KeyPlace
  pub pattern : ℕ

-- The key among the parts of a run, of which `left` bits are left. Before the run stand so many bytes of its case, and it has
-- so many.
abbrev pub key_among : ℕ → ℕ → ℕ → List Part → Option Key
key_among before bytes left [] = None
key_among before bytes left (p ∷ parts) =
    if is_key p
    then Some (record {
      place = record { before = before; bytes = bytes; below = left - width_of p; width = width_of p };
      pattern = pattern_of p;
    })
    else key_among before bytes (left - width_of p) parts

-- The key in a field, after so many bytes of its case.
abbrev pub key_in_field : ℕ → Field → Option Key
key_in_field before (Run bytes parts) = key_among before bytes (8 * bytes) parts
key_in_field before f = None

-- The key of a case, from a field on, after so many bytes: all before it always have as many bytes.
abbrev pub key_after : ℕ → List Field → Option Key
key_after before [] = None
key_after before (f ∷ fields) = elim (key_in_field before f) [
  | Some key ↦ Some key
  | None ↦ elim (fixed_length f) [ None ↦ None | Some n ↦ key_after (bytes_at_most (before + n)) fields ]
]

-- Two places are one.
abbrev pub is_place : KeyPlace → KeyPlace → Bool
is_place k l = k.before == l.before && k.bytes == l.bytes && k.below == l.below && k.width == l.width

-- The key that a case has is the one that it is known by.
abbrev pub key_judged : KeyPlace → ℕ → Option Key → Shape → Result Shape Unsound
key_judged key pattern None s = Err fault.NoKey
key_judged key pattern (Some k) s = unless (not (is_place key k.place && k.pattern == pattern)) fault.KeysApart s

-- A case, with its key at the place of all keys.
abbrev pub case_judged : List (List Field) → List Shape → KeyPlace → Case → Shape → Result Shape Unsound
case_judged blocks shapes key c s =
    shape_at c.block shapes
    >>= λ inner. key_judged key c.pattern (option_and_then (λ fields. key_after 0 fields) (slice_get blocks c.block)) s
    >>= λ t. within inner (record t { is_open = t.is_open || inner.is_open })

-- Cases in turn.
abbrev pub cases_judged : List (List Field) → List Shape → KeyPlace → List Case → Shape → Result Shape Unsound
cases_judged blocks shapes key [] s = Ok s
cases_judged blocks shapes key (c ∷ cases) s =
    case_judged blocks shapes key c s >>= λ t. cases_judged blocks shapes key cases t

-- The fewest bytes of a block.
abbrev pub least_at : List Shape → ℕ → ℕ
least_at shapes block = elim (slice_get shapes block) [ None ↦ 0 | Some inner ↦ inner.least ]

-- The fewest bytes of a case, and at most so many.
abbrev pub least_case : ℕ → List Shape → List Case → ℕ
least_case least shapes [] = least
least_case least shapes (c ∷ cases) = least_case (min least (least_at shapes c.block)) shapes cases

-- A case has this key.
abbrev pub is_key_among : ℕ → List Case → Bool
is_key_among pattern cases = list_any (has_key pattern) cases

-- Some case has the same key as another.
abbrev pub has_twin_keys : List Case → Bool
has_twin_keys [] = false
has_twin_keys (c ∷ cases) = is_key_among c.pattern cases || has_twin_keys cases

-- A switch.
abbrev pub switch_judged : List (List Field) → List Shape → KeyPlace → List Case → Shape → Result Shape Unsound
switch_judged blocks shapes key cases s =
    unless (length cases == 0) fault.NoCase s
    >>= λ t. unless (has_twins (case_names cases)) fault.TwoNames t
    >>= λ u. unless (has_twin_keys cases) fault.TwoKeys u
    >>= λ v. cases_judged blocks shapes key cases v
    >>= λ w. Ok (one_more (longer (least_case 16777217 shapes cases) (stating w)))

-- A field, where `rest` are those after it.
abbrev pub kind_judged : List (List Field) → List Shape → Field → List Field → Shape → Result Shape Unsound
kind_judged blocks shapes (Run bytes parts) rest s = run_judged bytes parts s
kind_judged blocks shapes (Fill bytes) rest s = fill_judged bytes s
kind_judged blocks shapes (Align boundary) rest s = filling (one_more s)
kind_judged blocks shapes (Text e is_hex constants) rest s = text_judged e constants s
kind_judged blocks shapes Point rest s = Ok (one_more (longer 4 (stating s)))
kind_judged blocks shapes Rect rest s = Ok (one_more (longer 8 (stating s)))
kind_judged blocks shapes (Array name end block) rest s = array_judged shapes end block rest s
kind_judged blocks shapes (Switch key cases) rest s = switch_judged blocks shapes key cases s

-- Nothing stands after what ends with the resource.
abbrev pub field_judged : List (List Field) → List Shape → Field → List Field → Shape → Result Shape Unsound
field_judged blocks shapes f rest s = unless s.is_open fault.NotLast s >>= λ t. kind_judged blocks shapes f rest t

-- Fields in turn.
abbrev pub fields_judged : List (List Field) → List Shape → List Field → Shape → Result Shape Unsound
fields_judged blocks shapes [] s = Ok s
fields_judged blocks shapes (f ∷ fields) s =
    field_judged blocks shapes f fields s >>= λ t. fields_judged blocks shapes fields t

-- The limits of a declaration: 512 fields, and 16 MB.
abbrev pub limits_judged : Shape → Result Shape Unsound
limits_judged s =
    unless (nat_lt 512 s.fields) fault.ManyFields s >>= λ t. unless (nat_lt 16777216 t.least) fault.LongResource t

-- The fields of a block, or of the declaration. `blocks` are all blocks, `shapes` those of the blocks that stand before it.
unfoldable pub block_judged : List (List Field) → List Shape → List Field → Result Shape Unsound
block_judged blocks shapes fields =
    fields_judged blocks shapes fields no_fields
    >>= λ s. unless (not (each_counts s.counts fields)) fault.CountWithoutArray s
    >>= λ t. limits_judged t

-- The shapes of blocks in turn, after those of the blocks before them.
abbrev pub shapes_of : List (List Field) → List (List Field) → List Shape → Result (List Shape) Unsound
shapes_of blocks [] shapes = Ok shapes
shapes_of blocks (fields ∷ rest) shapes =
    block_judged blocks shapes fields >>= λ s. shapes_of blocks rest (shapes ++ s ∷ [])

-- A declaration.
unfoldable pub judged : Declaration → Result Shape Unsound
judged d = shapes_of d.blocks d.blocks [] >>= λ shapes. block_judged d.blocks shapes d.fields

-- The fault of a judgement.
abbrev pub fault_in : {A : Type 0} → Result A Unsound → Option Unsound
fault_in (Ok x) = None
fault_in (Err fault) = Some fault

-- What is wrong with a declaration: nothing with a sound one.
abbrev pub fault_of : Declaration → Option Unsound
fault_of d = fault_in (judged d)
