-- A block that is laid at a place, and what is left of the bytes above it.
use Rattle.std.specs.Prelude.{◌≡◌, ℕ, ◌+◌, ◌-◌, ◌%◌, ◌≤◌, nat_lt, if◌then◌else◌, List, [], ◌∷◌, length, replicate}
use Rattle.memory_windows.specs.Writes.{written}
use Rattle.block_headers.specs.Words.{word}
use Rattle.block_headers.specs.Headers.{header_bytes}
use Rattle.block_headers.specs.declared.header.Header.{Header}
use Rattle.block_store.specs.Block.{Block, Free, Nonrelocatable, Masters, Relocatable, free_of}
use Rattle.block_store.specs.declared.measures.TheConstants.{GREATEST_ZONE}
use Rattle.mac_words.specs.Size.{padded}
use Rattle.block_headers.specs.declared.header.Tag.TheVariants as tag

-- The bytes in which those from `at` up to `top` are one free block, if there are any.
abbrev pub left_over : ℕ → ℕ → List ℕ → List ℕ
left_over at top xs = if nat_lt at top then written at (word (top - at)) xs else xs

-- The bytes with a header and its content at `bottom`: the first `held` bytes of the content keep their values, and
-- the others are 0.
abbrev pub headed : Header → ℕ → ℕ → List ℕ → List ℕ
headed header bottom held xs =
    written (bottom + 16 + held) (replicate (header.logical - held) 0) (written bottom (header_bytes header) xs)

-- The bytes with a block at `bottom`, and a free block of what is left up to `top`.
abbrev pub laid : Header → ℕ → ℕ → ℕ → List ℕ → List ℕ
laid header bottom top held xs = left_over (bottom + header.size) top (headed header bottom held xs)

-- The header of a new relocatable block of `size` bytes.
abbrev pub new_header : ℕ → ℕ → ℕ → Header
new_header slot size flags =
    record { size = padded size; tag = tag.Relocatable; logical = size; slot = slot; flags = flags }

-- A block with this header may be laid from `bottom` up to `top`.
pub record MayLay (header : Header) (bottom top held : ℕ) (xs : List ℕ) : Type 0 where
  pub even : (bottom % 16 ≡ 0) × (top % 16 ≡ 0) × (header.size % 16 ≡ 0)
  pub inside : top ≤ length xs
  pub small : length xs ≤ GREATEST_ZONE
  pub room : bottom + header.size ≤ top
  pub whole : 16 + header.logical ≤ header.size
  pub fits : bottom + 16 + held ≤ top

-- The bytes of the first block if it is a free block, else 0.
abbrev pub free_first : List Block → ℕ
free_first [] = 0
free_first (b ∷ above) = free_of b

-- The blocks above the first block if it is a free block, else all blocks.
abbrev pub past_free : List Block → List Block
past_free [] = []
past_free (Free n ∷ above) = above
past_free (Nonrelocatable id content ∷ above) = Nonrelocatable id content ∷ above
past_free (Masters ∷ above) = Masters ∷ above
past_free (Relocatable id flags content ∷ above) = Relocatable id flags content ∷ above
