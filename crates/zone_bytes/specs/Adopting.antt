-- A nonrelocatable block that becomes the block of a handle.
use Rattle.std.specs.Prelude.{◌≡◌, ℕ, ◌+◌, ◌==◌, List, ◌∷◌, length}
use Rattle.mac_words.specs.Size.{padded}
use Rattle.memory_windows.specs.Writes.{written}
use Rattle.block_headers.specs.Words.{word, word_at, header}
use Rattle.block_store.specs.declared.flags.Flags.{Flags}
use Rattle.block_store.specs.Block.{Block, Relocatable}
use Rattle.zone_bytes.specs.Layout.{flag_word}
use Rattle.zone_bytes.specs.Stepping.{left_in, IsOnWay}

-- The header and content of the block of a handle that was empty. The slot's word says whether the block is a
-- resource.
abbrev pub named_header : ℕ → Flags → List ℕ → List ℕ → List ℕ
named_header slot flags content xs =
    header (padded (length content) + 3) (length content) slot (flag_word flags (word_at slot xs == 18))

-- The bytes in which the nonrelocatable block at `place` has become the block of the slot.
abbrev pub adopted : ℕ → Flags → ℕ → List ℕ → List ℕ → List ℕ
adopted slot flags place content xs = written slot (word place) (written place (named_header slot flags content xs) xs)

-- The word of the slot holds the place of its block, a relocatable block with these flags and this content.
pub record LeadsHere (slot : ℕ) (xs : List ℕ) : Type 0 where
  pub flags : Flags
  pub content : List ℕ
  pub above : List Block
  pub way : IsOnWay (word_at slot xs) xs
  pub is : left_in (word_at slot xs) xs ≡ Relocatable slot flags content ∷ above
