-- The words of a zone: four bytes each, the highest first (Inside Macintosh: Memory, chapter 2, "Block Headers").
use Rattle.std.specs.Prelude.{ℕ, ◌++◌, List}
use Rattle.byteorder.specs.Endian.{big_bytes, big_number}
use Rattle.memory_windows.specs.Writes.{piece}

-- The word at a place.
unfoldable pub word_at : ℕ → List ℕ → ℕ
word_at at xs = big_number 4 (piece at 4 xs)

-- The four bytes of a word.
unfoldable pub word : ℕ → List ℕ
word n = big_bytes 4 n

-- The sixteen bytes of the four words of a header.
-- See decision 140 (a header is four big-endian words, and a slot one).
abbrev pub header : ℕ → ℕ → ℕ → ℕ → List ℕ
header a b c d = word a ++ (word b ++ (word c ++ word d))
