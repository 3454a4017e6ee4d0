use Rattle.std.specs.Prelude.{ℕ, zero, suc, ◌+◌, ◌-◌, ◌/◌, ◌%◌, ◌^◌, ◌==◌, nat_lt, nat_le, Bool, true, false, ◌*◌, ◌&&◌}
use Rattle.std.specs.Prelude.{Option, Some, None, List, [], ◌∷◌, ◌++◌, length, take, drop, slice_get, if◌then◌else◌}
use Rattle.std.specs.List.{position}
use Rattle.byteorder.specs.Endian.{big_number}
use Rattle.rez_types.specs.declared.declaration.Boundary.{Boundary}
use Rattle.rez_types.specs.declared.declaration.Boundary.TheVariants as boundary
use Rattle.rez_types.specs.declared.declaration.TextEnd.{TextEnd}
use Rattle.rez_types.specs.declared.declaration.TextEnd.TheVariants as end
use Rattle.rez_types.specs.Fields.{Part, Integer, Constant, Count, FillBits}
use Rattle.rez_types.specs.Fields.{ArrayEnd, Fixed, Counted, Before, Resource, KeyPlace, Case}
use Rattle.rez_types.specs.Fields.{Field, Run, Fill, Align, Text, Point, Rect, Array, Switch, Declaration}
use Rattle.rez_types.specs.Values as value
use Rattle.rez_types.specs.Values.{Value}
use Rattle.rez_types.specs.Options.{◌>>=◌, given}

-- The values of a resource's bytes, by a declaration in the language of Rez: Macintosh Programmer's Workshop: Building and
-- Managing Programs in MPW, chapter Rez.

-- How far the bytes are read: how many bytes past a multiple of four that is, the bytes that follow, the values so far, and the
-- counts of the block so far.
pub record Decoding : Type 0 where
  pub at : ℕ
  pub rest : List ℕ
  pub values : List Value
  pub counts : List ℕ

-- One more value. A resource has at most 2 ^ 20 of them.
unfoldable pub put : Value → Decoding → Option Decoding
put v s = given (nat_lt (length s.values) 1048576) (record s { values = s.values ++ v ∷ [] })

-- The next n bytes, and how far the bytes are then read.
unfoldable pub next : ℕ → Decoding → Option (List ℕ × Decoding)
next n s = given (nat_le n (length s.rest)) (take n s.rest, record s { at = (s.at + n % 4) % 4; rest = drop n s.rest })

-- The next n bytes as a number, the highest first.
unfoldable pub next_number : ℕ → Decoding → Option (ℕ × Decoding)
next_number n s = next n s >>= λ (here, t). Some (big_number n here, t)

-- How many bits a part has.
abbrev pub width_of : Part → ℕ
width_of (Integer width form constants) = width
width_of (Constant width pattern is_key) = width
width_of (Count width is_less_one) = width
width_of (FillBits width) = width

-- So many bits of a number, above its lowest `below` ones.
abbrev pub bits_of : ℕ → ℕ → ℕ → ℕ
bits_of width below number = number / 2 ^ below % 2 ^ width

-- The number of elements that a count states.
abbrev pub counted : ℕ → Bool → ℕ → ℕ
counted width true bits = (bits + 1) % 2 ^ width
counted width false bits = bits

-- One more count of the block.
abbrev pub with_count : ℕ → Decoding → Decoding
with_count n s = record s { counts = s.counts ++ n ∷ [] }

-- A part of a run, by its bits.
abbrev pub decoded_part : Part → ℕ → Decoding → Option Decoding
decoded_part (Integer width form constants) bits s = put (value.Number bits) s
decoded_part (Constant width pattern is_key) bits s = given (bits == pattern) s
decoded_part (Count width is_less_one) bits s =
    put (value.Count (counted width is_less_one bits)) (with_count (counted width is_less_one bits) s)
decoded_part (FillBits width) bits s = put (value.Number bits) s

-- The parts of a run in turn, from the number of its lowest `left` bits.
abbrev pub decoded_parts : ℕ → ℕ → List Part → Decoding → Option Decoding
decoded_parts number left [] s = Some s
decoded_parts number left (p ∷ parts) s =
    decoded_part p (bits_of (width_of p) (left - width_of p) number) s
    >>= λ t. decoded_parts number (left - width_of p) parts t

-- A run of so many bytes.
unfoldable pub decoded_run : ℕ → List Part → Decoding → Option Decoding
decoded_run bytes parts s = next_number bytes s >>= λ (number, t). decoded_parts number (8 * bytes) parts t

-- n bytes of a fill or an alignment.
unfoldable pub decoded_fill : ℕ → Decoding → Option Decoding
decoded_fill n s = next n s >>= λ (here, t). put (value.Filled here) t

-- The boundary is a multiple of so many bytes.
abbrev pub multiple : Boundary → ℕ
multiple boundary.Word = 2
multiple boundary.Long = 4

-- How many bytes there are from a place to the next multiple of a number.
abbrev pub padding : ℕ → ℕ → ℕ
padding number at = (number - at % number) % number

-- A string of n bytes.
unfoldable pub decoded_bytes : ℕ → Decoding → Option Decoding
decoded_bytes n s = next n s >>= λ (here, t). put (value.Text here) t

-- A string after a byte with its length.
unfoldable pub decoded_pstring : Decoding → Option Decoding
decoded_pstring s = next_number 1 s >>= λ (count, t). decoded_bytes count t

-- A byte is 0.
abbrev pub is_zero : ℕ → Bool
is_zero b = b == 0

-- A string that a byte of 0 ends.
unfoldable pub decoded_cstring : Decoding → Option Decoding
decoded_cstring s =
    position is_zero s.rest >>= λ n. decoded_bytes n s >>= λ t. next_number 1 t >>= λ (mark, u). Some u

-- A string.
abbrev pub decoded_text : TextEnd → Decoding → Option Decoding
decoded_text end.Pascal s = decoded_pstring s
decoded_text end.C s = decoded_cstring s
decoded_text end.Char s = decoded_bytes 1 s
decoded_text (end.Fixed n) s = decoded_bytes n s
decoded_text end.Resource s = decoded_bytes (length s.rest) s

-- n coordinates.
abbrev pub decoded_coordinates : ℕ → Decoding → Option Decoding
decoded_coordinates zero s = Some s
decoded_coordinates (suc n) s =
    next_number 2 s >>= λ (here, t). put (value.Number here) t >>= λ u. decoded_coordinates n u

-- n elements, each read so.
abbrev pub decoded_elements : (Decoding → Option Decoding) → ℕ → Decoding → Option Decoding
decoded_elements element zero s = put value.NoElement s
decoded_elements element (suc n) s =
    put value.Element s >>= λ t. element t >>= λ u. decoded_elements element n u

-- The bytes begin with a number of n bytes.
abbrev pub begins : ℕ → ℕ → List ℕ → Bool
begins n number bytes = nat_le n (length bytes) && big_number n bytes == number

-- An array ends before these bytes.
abbrev pub ends_before : ArrayEnd → List ℕ → Bool
ends_before (Before n number) bytes = begins n number bytes
ends_before end bytes = length bytes == 0

-- Elements up to where the array ends; at most n.
abbrev pub decoded_until : (Decoding → Option Decoding) → ArrayEnd → ℕ → Decoding → Option Decoding
decoded_until element end zero s = if ends_before end s.rest then put value.NoElement s else None
decoded_until element end (suc n) s =
    if ends_before end s.rest then put value.NoElement s
    else (put value.Element s >>= λ t. element t >>= λ u. decoded_until element end n u)

-- The elements of an array.
abbrev pub decoded_array : (Decoding → Option Decoding) → ArrayEnd → Decoding → Option Decoding
decoded_array element (Fixed n) s = decoded_elements element n s
decoded_array element (Counted place) s = slice_get s.counts place >>= λ n. decoded_elements element n s
decoded_array element (Before n number) s = decoded_until element (Before n number) (length s.rest) s
decoded_array element Resource s = decoded_until element Resource (length s.rest) s

-- The key of the bytes of a case.
abbrev pub key_in : KeyPlace → List ℕ → Option ℕ
key_in key bytes =
    given (nat_le (key.before + key.bytes) (length bytes))
    (bits_of key.width key.below (big_number key.bytes (drop key.before bytes)))

-- A case has this key.
abbrev pub has_key : ℕ → Case → Bool
has_key pattern c = c.pattern == pattern

-- A switch: the place of its first case with the key that stands there, and the values of the case. `inner` reads a block.
unfoldable pub decoded_switch : (ℕ → Decoding → Option Decoding) → KeyPlace → List Case → Decoding → Option Decoding
decoded_switch inner key cases s =
    key_in key s.rest >>= λ pattern. position (has_key pattern) cases
    >>= λ place. slice_get cases place >>= λ c. put (value.Case place) s >>= λ t. inner c.block t

-- A field. `inner` reads a block.
abbrev pub decoded_field : (ℕ → Decoding → Option Decoding) → Field → Decoding → Option Decoding
decoded_field inner (Run bytes parts) s = decoded_run bytes parts s
decoded_field inner (Fill bytes) s = decoded_fill bytes s
decoded_field inner (Align to) s = decoded_fill (padding (multiple to) s.at) s
decoded_field inner (Text end is_hex constants) s = decoded_text end s
decoded_field inner Point s = decoded_coordinates 2 s
decoded_field inner Rect s = decoded_coordinates 4 s
decoded_field inner (Array name end block) s = decoded_array (inner block) end s
decoded_field inner (Switch key cases) s = decoded_switch inner key cases s

-- Fields in turn.
abbrev pub decoded_fields : (ℕ → Decoding → Option Decoding) → List Field → Decoding → Option Decoding
decoded_fields inner [] s = Some s
decoded_fields inner (f ∷ fields) s = decoded_field inner f s >>= λ t. decoded_fields inner fields t

-- The counts of another block.
abbrev pub with_counts : List ℕ → Decoding → Decoding
with_counts counts s = record s { counts = counts }

-- The fields of a block, which has counts of its own.
abbrev pub decoded_alone : (ℕ → Decoding → Option Decoding) → List Field → Decoding → Option Decoding
decoded_alone inner fields s =
    decoded_fields inner fields (with_counts [] s) >>= λ t. Some (with_counts s.counts t)

-- A block, in which blocks stand at most `depth - 1` deep.
abbrev pub decoded : ℕ → List (List Field) → ℕ → Decoding → Option Decoding
decoded zero blocks block s = None
decoded (suc depth) blocks block s =
    slice_get blocks block >>= λ fields. decoded_alone (decoded depth blocks) fields s

-- Before the first byte.
abbrev pub unread : List ℕ → Decoding
unread bytes = record { at = 0; rest = bytes; values = []; counts = [] }

-- The values of a resource: all its bytes are read, with blocks at most 8 deep.
unfoldable pub values_of_datum : Declaration → List ℕ → Option (List Value)
values_of_datum d bytes =
    decoded_fields (decoded 8 d.blocks) d.fields (unread bytes) >>= λ s. given (length s.rest == 0) s.values
