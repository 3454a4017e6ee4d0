-- The blocks that bytes spell.
use Rattle.std.specs.Prelude.{ℕ, ◌+◌, ◌-◌, ◌%◌, zero, suc, List, [], ◌∷◌, drop, length, nat_le}
use Rattle.memory_windows.specs.Writes.{piece}
use Rattle.block_headers.specs.Words.{word_at}
use Rattle.block_store.specs.declared.flags.Flags.{Flags}
use Rattle.block_store.specs.Block.{Block, Free, Nonrelocatable, Masters, Relocatable, size}

abbrev pub flags_of : ℕ → Flags
flags_of n = record { locked = nat_le 128 n; purgeable = nat_le 64 (n % 128) }

-- The block of a kind whose header is at the front of `xs`, at the place `o`.
abbrev pub block_of_kind : ℕ → ℕ → ℕ → List ℕ → Block
block_of_kind zero n o xs = Free n
block_of_kind (suc zero) n o xs = Nonrelocatable o (piece 16 (word_at 4 xs) xs)
block_of_kind (suc (suc zero)) n o xs = Masters
block_of_kind (suc (suc (suc k))) n o xs = Relocatable (word_at 8 xs) (flags_of (word_at 12 xs))
    (piece 16 (word_at 4 xs) xs)

abbrev pub block_in : ℕ → List ℕ → Block
block_in o xs = block_of_kind (word_at 0 xs % 16) (word_at 0 xs - word_at 0 xs % 16) o xs

-- The blocks that begin at the front of `xs`, at the place `o`: at most `k` of them.
unfoldable pub blocks_in : ℕ → ℕ → List ℕ → List Block
blocks_in zero o xs = []
blocks_in (suc k) o [] = []
blocks_in (suc k) o (x ∷ xs) = block_in o (x ∷ xs) ∷ blocks_in k (o + size (block_in o (x ∷ xs)))
    (drop (size (block_in o (x ∷ xs))) (x ∷ xs))

-- The blocks of a zone.
unfoldable pub zone_in : List ℕ → List Block
zone_in xs = blocks_in (length xs) 0 xs
