use Rattle.std.specs.Prelude.{◌≡◌, ℕ, ℤ, ◌+◌, ◌-◌, ◌*◌, Bool, false, ◌&&◌, ◌==◌, Option, Some, None, List, [], ◌∷◌, if◌then◌else◌}
use Rattle.std.specs.Prelude.{option_map, nat_le, nat_lt, min, ◌<◌, ◌≤◌, ◌^◌, ◌/◌, ◌%◌, IfSome, length}
use Rattle.std.specs.List.{sum_by}
use Rattle.std.specs.Int.{cast_signed, cast_unsigned, w32}
use Rattle.std.specs.List.Sorted.{IsNonDecreasingBy}
use Rattle.std.specs.Ordering.{int_eq}
use Rattle.res_map.specs.Split.{split, place}
use Rattle.res_map.specs.Print.{print}
use Rattle.res_map.specs.Map.{Reference}
use Rattle.res_map.specs.declared.index.Row.{Row}

-- An index of references: rows, each with the place of a reference, that stand in an order by type and key. The key is
-- an ID, or the print of a name. In the index by handle, type and key are the two halves of a handle's number.

-- The number of a type and key in the order of the rows.
abbrev pub rank : ℕ → ℤ → ℕ
rank kind key = kind * 4294967296 + cast_unsigned w32 key

-- The number of a row's type and key.
abbrev pub rank_of : Row → ℕ
rank_of row = rank row.kind row.key

-- The row is of the type and key.
abbrev pub is_row : ℕ → ℤ → Row → Bool
is_row kind key row = row.kind == kind && int_eq row.key key

-- The place in the first row of the type and key, if there is such a row.
abbrev pub place_in : ℕ → ℤ → List Row → Option ℕ
place_in kind key [] = None
place_in kind key (row ∷ rows) = if is_row kind key row then Some row.place else place_in kind key rows

-- The place of the first item that passes the test.
abbrev pub first_place : {A : Type 0} → (A → Bool) → List A → Option ℕ
first_place test xs = option_map place (split test xs)

-- The rows are in order.
abbrev pub IsRising : List Row → Type 0
IsRising rows = IsNonDecreasingBy rank_of rows

-- The rows are in order, and record for each type and key the place of the first reference that passes the test for
-- them.
pub record IsIndex (test : ℕ → ℤ → Reference → Bool) (rows : List Row) (references : List Reference) : Type 0 where
  pub rising : IsRising rows
  pub tells : (kind : ℕ) (key : ℤ) → place_in kind key rows ≡ first_place (test kind key) references

-- The reference passes the test for the type and key, and for no others.
abbrev pub IsAt : (ℕ → ℤ → Reference → Bool) → ℕ → ℤ → Reference → Type 0
IsAt test kind key r = (k : ℕ) (i : ℤ) → test k i r ≡ (kind == k && int_eq key i)

-- The reference passes the test for the type and key of its row, and for no others; with no row, for none.
abbrev pub is_own : Option Row → ℕ → ℤ → Bool
is_own None k i = false
is_own (Some row) k i = row.kind == k && int_eq row.key i

abbrev pub IsRowOf : (ℕ → ℤ → Reference → Bool) → Option Row → Reference → Type 0
IsRowOf test row r = (k : ℕ) (i : ℤ) → test k i r ≡ is_own row k i

-- The reference has a name, and it is of the type and its name has the print.
abbrev pub has_print : ℤ → Option (List ℕ) → Bool
has_print key None = false
has_print key (Some name) = int_eq (print name) key

abbrev pub is_printed : ℕ → ℤ → Reference → Bool
is_printed kind key r = r.kind == kind && has_print key r.stored.name

-- The row by name of a reference at a place, if it has a name.
abbrev pub named_row : ℕ → ℕ → Option (List ℕ) → Option Row
named_row place kind None = None
named_row place kind (Some name) = Some (record { kind = kind; key = print name; place = place })

-- The row of a handle that the reference at a place has: the upper and the lower 32 bits of the handle's number.
abbrev pub handle_row : ℕ → ℕ → Row
handle_row place h =
    record { kind = h / 4294967296; key = cast_signed w32 (h % 4294967296); place = place }

-- The row by handle of a reference at a place, if it has a handle.
abbrev pub held_row : ℕ → Option ℕ → Option Row
held_row place handle = option_map (handle_row place) handle

-- The reference has the handle whose halves these are.
abbrev pub is_held : ℕ → ℤ → Reference → Bool
is_held kind key r = is_own (held_row 0 r.handle) kind key

-- What a row weighs, where types and keys have weights; with no row, nothing.
abbrev pub weight : (ℕ → ℤ → ℕ) → Option Row → ℕ
weight f None = 0
weight f (Some row) = f row.kind row.key

-- What the rows weigh together, and the handles of the references.
abbrev pub row_weights : (ℕ → ℤ → ℕ) → List Row → ℕ
row_weights f rows = sum_by (λ (row : Row). f row.kind row.key) rows

abbrev pub held_weights : (ℕ → ℤ → ℕ) → List Reference → ℕ
held_weights f references = sum_by (λ (r : Reference). weight f (held_row 0 r.handle)) references

-- There is a row for each reference that has a handle, and no other: whatever types and keys weigh, the rows weigh what
-- the handles do.
abbrev pub IsEach : List Row → List Reference → Type 0
IsEach rows references = (f : ℕ → ℤ → ℕ) → row_weights f rows ≡ held_weights f references

-- The rows are those of the references, and a row more of this type and key.
abbrev pub IsEachAnd : Row → List Row → List Reference → Type 0
IsEachAnd row rows references =
    (f : ℕ → ℤ → ℕ) → row_weights f rows ≡ held_weights f references + f row.kind row.key

-- The rows are an index of the references by handle, with a row for each that has a handle, in a vector with room for a
-- row for each reference.
pub record IsHolding (rows : List Row) (capacity : ℕ) (references : List Reference) : Type 0 where
  pub index : IsIndex is_held rows references
  pub each : IsEach rows references
  pub room : length references ≤ capacity

-- The rows of one that may be there.
abbrev pub rows_in : Option Row → List Row
rows_in None = []
rows_in (Some row) = row ∷ []

-- The new rows record this place, or none, for the type and key, and for all others what the old ones record.
abbrev pub IsToldAs : ℕ → ℤ → Option ℕ → List Row → List Row → Type 0
IsToldAs kind key place old new = (k : ℕ) (i : ℤ) → place_in k i new
    ≡ (if kind == k && int_eq key i then place else place_in k i old)

-- Each place that the rows record is below n.
abbrev pub IsWithin : ℕ → List Row → Type 0
IsWithin n rows = (kind : ℕ) (key : ℤ) → IfSome (place_in kind key rows) (λ p. p < n)

-- The row with another place.
abbrev pub moved : (ℕ → ℕ) → Row → Row
moved f row = record row { place = f row.place }

-- A place once an item was put in at a place, and the same for a number of 64 bits; once the item at a place was taken
-- out.
abbrev pub raised : ℕ → ℕ → ℕ
raised from p = if nat_le from p then p + 1 else p

abbrev pub raised_within : ℕ → ℕ → ℕ
raised_within from p = if nat_le from p then min (p + 1) (2 ^ 64 - 1) else p

abbrev pub lowered : ℕ → ℕ → ℕ
lowered from p = if nat_lt from p then p - 1 else p

-- The sooner of a place and of the one that is recorded, if one is.
abbrev pub sooner : ℕ → Option ℕ → Option ℕ
sooner at None = Some at
sooner at (Some p) = if nat_lt p at then Some p else Some at

-- The first place of an item that passes, once an item was put in at a place: one that passes itself, or not.
abbrev pub entered : Bool → ℕ → Option ℕ → Option ℕ
entered passes at found = if passes then sooner at found else option_map (raised at) found
