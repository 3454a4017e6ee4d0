use Rattle.std.specs.Prelude.{ℕ, List}

-- The tokens of a source of Rez: Macintosh Programmer's Workshop: Building and Managing Programs in MPW, chapter Rez.

-- A word; a number; a string; a hexadecimal string; characters between single quotes; a function, as `$$CountOf`, by its name; a
-- mark, or another byte that begins no token; and a comment that states the bytes of a fill.
pub data Lexeme : Type 0 where
  Word : (bytes : List ℕ) → Lexeme
  Number : (number : ℕ) → Lexeme
  Text : (bytes : List ℕ) → Lexeme
  Hex : (bytes : List ℕ) → Lexeme
  Literal : (bytes : List ℕ) → Lexeme
  Function : (bytes : List ℕ) → Lexeme
  Mark : (byte : ℕ) → Lexeme
  Filled : (bytes : List ℕ) → Lexeme

-- A token, and the line on which it begins.
pub record Token : Type 0 where
  pub line : ℕ
  pub lexeme : Lexeme
