use Rattle.std.specs.Prelude.{◌≡◌, ℕ, Bool, false, Option, Some, None, IsSomeAnd}
use Rattle.block_store.specs.Run.{segments, has_free}
use Rattle.block_store.specs.Room.{Spot, purge, count_of}
use Rattle.block_store.specs.Sparing.{spared}
use Rattle.block_store.specs.declared.sparing.Sparing.{Sparing}

-- What has to be known of a zone for a search in it.

-- `most` is the number of blocks that may be purged from the run above a spot.
abbrev pub IsMost : ℕ → Sparing → Option Spot → Type 0
IsMost most sparing o = IsSomeAnd o (λ s. most ≡ count_of (spared sparing) (segments s.above).first)

-- Whether the run above a spot has d free bytes after k purges in it.
abbrev pub enough_above : ℕ → ℕ → Sparing → Option Spot → Bool
enough_above d k sparing None = false
enough_above d k sparing (Some s) = has_free d (purge k (spared sparing) (segments s.above).first)
