use Rattle.std.specs.Prelude.{ℕ, Bool, List}
use Rattle.rez_types.specs.declared.declaration.Form.{Form}
use Rattle.rez_types.specs.declared.declaration.Boundary.{Boundary}
use Rattle.rez_types.specs.declared.declaration.TextEnd.{TextEnd}

-- Declarations of types in the language of Rez: Macintosh Programmer's Workshop: Building and Managing Programs in MPW, chapter
-- Rez. The fields of the elements of an array, and those of a case, stand in a list of their own: a block, which the array or the
-- case names by its place among the blocks of the declaration.

-- A name for a number, which is given by its bits.
pub record NamedNumber : Type 0 where
  pub name : List ℕ
  pub pattern : ℕ

-- A name for a string.
pub record NamedText : Type 0 where
  pub name : List ℕ
  pub text : List ℕ

-- What stands in a run, by how many bits it has: an integer, which a statement states; a constant, which none states, and
-- which may be the key of a case; how many elements an array of the block has, or one less; and a fill.
pub data Part : Type 0 where
  Integer : (width : ℕ) → (form : Form) → (constants : List NamedNumber) → Part
  Constant : (width : ℕ) → (pattern : ℕ) → (is_key : Bool) → Part
  Count : (width : ℕ) → (is_less_one : Bool) → Part
  FillBits : (width : ℕ) → Part

-- How an array ends: after so many elements; after as many as the count at this place among the counts of its block says; before
-- a constant of so many bytes; or with the resource.
pub data ArrayEnd : Type 0 where
  Fixed : (count : ℕ) → ArrayEnd
  Counted : (place : ℕ) → ArrayEnd
  Before : (bytes : ℕ) → (pattern : ℕ) → ArrayEnd
  Resource : ArrayEnd

-- Where the key of a case stands: after so many bytes, in a run of so many bytes, with so many bits of the run after it.
pub record KeyPlace : Type 0 where
  pub before : ℕ
  pub bytes : ℕ
  pub below : ℕ
  pub width : ℕ

-- A case of a switch: its name, its key, and the block of its fields.
pub record Case : Type 0 where
  pub name : List ℕ
  pub pattern : ℕ
  pub block : ℕ

-- A field: integers, bit strings and fills side by side that are whole bytes; a fill of bytes; an alignment; a string; a
-- point; a rectangle; an array of elements with the fields of a block; a switch.
pub data Field : Type 0 where
  Run : (bytes : ℕ) → (parts : List Part) → Field
  Fill : (bytes : ℕ) → Field
  Align : (boundary : Boundary) → Field
  Text : (end : TextEnd) → (is_hex : Bool) → (constants : List NamedText) → Field
  Point : Field
  Rect : Field
  Array : (name : List ℕ) → (end : ArrayEnd) → (block : ℕ) → Field
  Switch : (key : KeyPlace) → (cases : List Case) → Field

-- A declaration: the fields of a resource, and the blocks.
pub record Declaration : Type 0 where
  pub fields : List Field
  pub blocks : List (List Field)
