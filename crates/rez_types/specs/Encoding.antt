use Rattle.std.specs.Prelude.{ℕ, zero, suc, ◌+◌, ◌-◌, ◌*◌, ◌%◌, ◌^◌, ◌==◌, nat_lt, nat_le, Bool, true, false, not}
use Rattle.std.specs.Prelude.{Option, Some, None, List, [], ◌∷◌, ◌++◌, length, drop, replicate, slice_get, if◌then◌else◌}
use Rattle.std.specs.List.{list_all}
use Rattle.byteorder.specs.Endian.{big_bytes}
use Rattle.rez_types.specs.declared.declaration.TextEnd.{TextEnd}
use Rattle.rez_types.specs.declared.declaration.TextEnd.TheVariants as end
use Rattle.rez_types.specs.Fields.{Part, Integer, Constant, Count, FillBits}
use Rattle.rez_types.specs.Fields.{ArrayEnd, Fixed, Counted, Before, Case}
use Rattle.rez_types.specs.Fields.{Field, Run, Fill, Align, Text, Point, Rect, Array, Switch, Declaration}
use Rattle.rez_types.specs.Values as value
use Rattle.rez_types.specs.Values.{Value}
use Rattle.rez_types.specs.Options.{◌>>=◌, given}
use Rattle.rez_types.specs.Decoding.{width_of, multiple, padding, begins, is_zero}

-- The bytes of a resource's values, by a declaration in the language of Rez: Macintosh Programmer's Workshop: Building and
-- Managing Programs in MPW, chapter Rez.

-- How far the values are written: those that follow, the bytes so far, and the counts of the block so far.
pub record Encoding : Type 0 where
  pub values : List Value
  pub bytes : List ℕ
  pub counts : List ℕ

-- A resource of so many bytes may have so many more: it has at most 2 ^ 24.
abbrev pub has_room : ℕ → ℕ → Bool
has_room bytes more = nat_le (bytes + more) 16777216

-- More bytes.
unfoldable pub write : List ℕ → Encoding → Option Encoding
write more s = given (has_room (length s.bytes) (length more)) (record s { bytes = s.bytes ++ more })

-- The next value.
unfoldable pub next_value : Encoding → Option (Value × Encoding)
next_value s = elim s.values [ [] ↦ None | v ∷ values ↦ Some (v, record s { values = values }) ]

-- The number, the count, the string, the bytes of a fill, or the case of a value, where it is one.
abbrev pub number_in : Value → Option ℕ
number_in (value.Number n) = Some n
number_in v = None

abbrev pub count_in : Value → Option ℕ
count_in (value.Count n) = Some n
count_in v = None

abbrev pub text_in : Value → Option (List ℕ)
text_in (value.Text bytes) = Some bytes
text_in v = None

abbrev pub filled_in : Value → Option (List ℕ)
filled_in (value.Filled bytes) = Some bytes
filled_in v = None

abbrev pub case_in : Value → Option ℕ
case_in (value.Case place) = Some place
case_in v = None

-- The next value, where it is of a kind.
abbrev pub next_of : {A : Type 0} → (Value → Option A) → Encoding → Option (A × Encoding)
next_of kind s = next_value s >>= λ (v, t). kind v >>= λ x. Some (x, t)

-- The next number, which has at most so many bits.
unfoldable pub next_number : ℕ → Encoding → Option (ℕ × Encoding)
next_number width s = next_of number_in s >>= λ (n, t). given (nat_lt n (2 ^ width)) (n, t)

-- The bits with which a count of so many bits states a number of elements.
abbrev pub stated : ℕ → Bool → ℕ → ℕ
stated width true n = (n + (2 ^ width - 1)) % 2 ^ width
stated width false n = n

-- The next count, as so many bits state it. Fewer elements than the bits have values can be counted.
unfoldable pub next_count : ℕ → Bool → Encoding → Option (ℕ × Encoding)
next_count width is_less_one s =
    next_of count_in s
    >>= λ (n, t). given (nat_lt n (2 ^ width)) (stated width is_less_one n, record t { counts = t.counts ++ n ∷ [] })

-- The bits of a part of a run.
abbrev pub encoded_part : Part → Encoding → Option (ℕ × Encoding)
encoded_part (Integer width form constants) s = next_number width s
encoded_part (Constant width pattern is_key) s = Some (pattern, s)
encoded_part (Count width is_less_one) s = next_count width is_less_one s
encoded_part (FillBits width) s = next_number width s

-- The number of a run so far with one more part of so many bits.
abbrev pub joined : ℕ → ℕ → ℕ → ℕ
joined number width bits = (number * 2 ^ width + bits) % 2 ^ 32

-- The number of a run so far with that of the parts in turn.
abbrev pub encoded_parts : ℕ → List Part → Encoding → Option (ℕ × Encoding)
encoded_parts number [] s = Some (number, s)
encoded_parts number (p ∷ parts) s =
    encoded_part p s >>= λ (bits, t). encoded_parts (joined number (width_of p) bits) parts t

-- A run of so many bytes.
unfoldable pub encoded_run : ℕ → List Part → Encoding → Option Encoding
encoded_run bytes parts s = encoded_parts 0 parts s >>= λ (number, t). write (big_bytes bytes number) t

-- The n bytes of a fill or an alignment: those that the next value states, where it states as many; else bytes of 0.
unfoldable pub encoded_fill : ℕ → Encoding → Option Encoding
encoded_fill n s =
    next_of filled_in s >>= λ (bytes, t). write (if length bytes == n then bytes else replicate n 0) t

-- No byte of a string is 0.
abbrev pub has_no_zero : List ℕ → Bool
has_no_zero text = list_all (λ b. not (is_zero b)) text

-- A string of n bytes.
abbrev pub written_fixed : ℕ → List ℕ → Encoding → Option Encoding
written_fixed n text s = if length text == n then write text s else None

-- The bytes of a string.
abbrev pub written_text : TextEnd → List ℕ → Encoding → Option Encoding
written_text end.Pascal text s =
    if nat_lt 255 (length text) then None else (write (length text ∷ []) s >>= λ t. write text t)
written_text end.C text s = if has_no_zero text then (write text s >>= λ t. write (0 ∷ []) t) else None
written_text end.Char text s = written_fixed 1 text s
written_text (end.Fixed n) text s = written_fixed n text s
written_text end.Resource text s = write text s

-- A string.
unfoldable pub encoded_text : TextEnd → Encoding → Option Encoding
encoded_text end s = next_of text_in s >>= λ (text, t). written_text end text t

-- n coordinates.
abbrev pub encoded_coordinates : ℕ → Encoding → Option Encoding
encoded_coordinates zero s = Some s
encoded_coordinates (suc n) s =
    next_number 16 s >>= λ (here, t). write (big_bytes 2 here) t >>= λ u. encoded_coordinates n u

-- The bytes of an element do not end its array.
abbrev pub is_element : ArrayEnd → List ℕ → Bool
is_element (Before n number) bytes = not (begins n number bytes)
is_element end bytes = true

-- An element.
abbrev pub encoded_element : (Encoding → Option Encoding) → ArrayEnd → Encoding → Option Encoding
encoded_element element end s =
    element s >>= λ t. given (is_element end (drop (length s.bytes) t.bytes)) t

-- Another element follows, or none does.
abbrev pub more_in : Value → Option Bool
more_in value.Element = Some true
more_in value.NoElement = Some false
more_in v = None

-- At most n - 1 elements up to the end of an array, and how many they are with the `count` ones before them.
abbrev pub encoded_elements : (Encoding → Option Encoding) → ArrayEnd → ℕ → ℕ → Encoding → Option (ℕ × Encoding)
encoded_elements element end count zero s = None
encoded_elements element end count (suc n) s =
    next_of more_in s
    >>= λ (more, t). if more then (encoded_element element end t >>= λ u. encoded_elements element end (count + 1) n u)
    else Some (count, t)

-- An array that ends so may have so many elements, where its block has these counts.
abbrev pub may_have : ArrayEnd → List ℕ → ℕ → Bool
may_have (Fixed n) counts count = count == n
may_have (Counted place) counts count = elim (slice_get counts place) [ None ↦ false | Some n ↦ count == n ]
may_have end counts count = true

-- The elements of an array.
unfoldable pub encoded_array : (Encoding → Option Encoding) → ArrayEnd → Encoding → Option Encoding
encoded_array element end s =
    encoded_elements element end 0 (length s.values) s >>= λ (count, t). given (may_have end t.counts count) t

-- A switch: the case that the next value states. `inner` writes a block.
unfoldable pub encoded_switch : (ℕ → Encoding → Option Encoding) → List Case → Encoding → Option Encoding
encoded_switch inner cases s =
    next_of case_in s >>= λ (place, t). slice_get cases place >>= λ c. inner c.block t

-- A field. `inner` writes a block.
abbrev pub encoded_field : (ℕ → Encoding → Option Encoding) → Field → Encoding → Option Encoding
encoded_field inner (Run bytes parts) s = encoded_run bytes parts s
encoded_field inner (Fill bytes) s = encoded_fill bytes s
encoded_field inner (Align to) s = encoded_fill (padding (multiple to) (length s.bytes)) s
encoded_field inner (Text end is_hex constants) s = encoded_text end s
encoded_field inner Point s = encoded_coordinates 2 s
encoded_field inner Rect s = encoded_coordinates 4 s
encoded_field inner (Array name end block) s = encoded_array (inner block) end s
encoded_field inner (Switch key cases) s = encoded_switch inner cases s

-- Fields in turn.
abbrev pub encoded_fields : (ℕ → Encoding → Option Encoding) → List Field → Encoding → Option Encoding
encoded_fields inner [] s = Some s
encoded_fields inner (f ∷ fields) s = encoded_field inner f s >>= λ t. encoded_fields inner fields t

-- The counts of another block.
abbrev pub with_counts : List ℕ → Encoding → Encoding
with_counts counts s = record s { counts = counts }

-- The fields of a block, which has counts of its own.
abbrev pub encoded_alone : (ℕ → Encoding → Option Encoding) → List Field → Encoding → Option Encoding
encoded_alone inner fields s =
    encoded_fields inner fields (with_counts [] s) >>= λ t. Some (with_counts s.counts t)

-- A block, in which blocks stand at most `depth - 1` deep.
abbrev pub encoded : ℕ → List (List Field) → ℕ → Encoding → Option Encoding
encoded zero blocks block s = None
encoded (suc depth) blocks block s =
    slice_get blocks block >>= λ fields. encoded_alone (encoded depth blocks) fields s

-- Before the first value.
abbrev pub unwritten : List Value → Encoding
unwritten values = record { values = values; bytes = []; counts = [] }

-- The bytes of a resource: all the values are written, with blocks at most 8 deep.
unfoldable pub datum_of_values : Declaration → List Value → Option (List ℕ)
datum_of_values d values =
    encoded_fields (encoded 8 d.blocks) d.fields (unwritten values) >>= λ s. given (length s.values == 0) s.bytes
