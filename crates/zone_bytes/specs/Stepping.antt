-- A walk over the blocks that bytes spell, from a place on.
use Rattle.std.specs.Prelude.{◌≡◌, ℕ, ◌+◌, ◌≤◌, ◌<◌, ◌^◌, zero, suc, Bool, List, ◌∷◌, length, drop}
use Rattle.block_store.specs.Block.{Block, size}
use Rattle.block_store.specs.Seen.{seen}
use Rattle.block_store.specs.declared.sparing.Seen.{Seen}
use Rattle.block_store.specs.declared.sparing.Seen.TheVariants as see
use Rattle.zone_bytes.specs.Layout.{names, Each, ArePlaced}
use Rattle.zone_bytes.specs.Decode.{flags_of, blocks_in}
use Rattle.zone_bytes.specs.Walking.{Walk}
use Rattle.block_store.specs.declared.measures.TheConstants.{GREATEST_ZONE}

-- The block that the words of a header describe: `n` is its physical size, `c` its logical size, `s` its slot, and `f`
-- its flags.
abbrev pub header_seen : ℕ → ℕ → ℕ → ℕ → ℕ → Seen
header_seen zero n c s f = see.Free n
header_seen (suc zero) n c s f = see.Nonrelocatable c
header_seen (suc (suc zero)) n c s f = see.Masters
header_seen (suc (suc (suc k))) n c s f = see.Relocatable s (flags_of f) c

-- The blocks from the place `at` on.
abbrev pub left_in : ℕ → List ℕ → List Block
left_in at xs = blocks_in (length xs) at (drop at xs)

-- Blocks lie from the place `at` on to the end of the bytes.
pub record IsOnWay (at : ℕ) (xs : List ℕ) : Type 0 where
  pub resource : ℕ → Bool
  pub rest : List Block
  pub walk : Walk resource at xs rest
  pub placed : ArePlaced at rest
  pub words : Each (λ s. s < 2 ^ 32) (names rest)
  pub small : length xs ≤ GREATEST_ZONE

-- A block with this description is from the place `at` to `end`.
pub record Steps (at : ℕ) (block : Seen) (end : ℕ) (xs : List ℕ) : Type 0 where
  pub here : Block
  pub is : left_in at xs ≡ here ∷ left_in end xs
  pub told : seen here ≡ block
  pub up : at + size here ≡ end
  pub way : IsOnWay end xs
  pub some : at < end
