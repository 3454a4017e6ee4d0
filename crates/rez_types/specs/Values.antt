use Rattle.std.specs.Prelude.{ℕ, List}

-- What a statement of a resource states, in the order of the fields of its declaration.

-- An integer, a bit string or a fill of bits, by its bits, or a coordinate of a point or a rectangle, as 16 bits; how many elements the
-- array of a count has, where the count stands; a string; the bytes of a fill or an alignment; another element of an array
-- follows; none follows; and the place of a case among those of its switch.
pub data Value : Type 0 where
  Number : (pattern : ℕ) → Value
  Count : (count : ℕ) → Value
  Text : (bytes : List ℕ) → Value
  Filled : (bytes : List ℕ) → Value
  Element : Value
  NoElement : Value
  Case : (place : ℕ) → Value
