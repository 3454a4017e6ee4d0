-- A pass over a zone that purges its lowest purgeable blocks and joins free blocks that stand side by side.
use Rattle.std.specs.Prelude.{◌≡◌, ℕ, ◌+◌, ◌-◌, ◌≤◌, List, ◌∷◌, ◌++◌}
use Rattle.block_store.specs.Block.{Block, sizes, free, free_sum, tidy}
use Rattle.block_store.specs.Room.{lowest_purged}
use Rattle.block_store.specs.Slot.{Slot}
use Rattle.block_store.specs.Sparing.{spared, opened}
use Rattle.block_store.specs.Inner.Joining.{Closed}
use Rattle.block_store.specs.declared.sparing.Sparing.{Sparing}
use Rattle.zone_bytes.specs.Decode.{zone_in}
use Rattle.zone_bytes.specs.Joining.{Freeing}
use Rattle.zone_bytes.specs.Changes.{Replaced}
use Rattle.zone_bytes.specs.Table.{Lays, slot_in}

-- The place from which a pass may change blocks; the zone before the pass; the zone that the pass is to leave, before
-- free blocks that stand side by side are joined; the zone's slots; and its free bytes before the pass.
pub record Purge : Type 0 where
  pub from : ℕ
  pub zone : List Block
  pub goal : List Block
  pub slots : ℕ → Slot
  pub unused : List ℕ
  pub free : ℕ

-- The blocks below `start` are done, free bytes are from `start` to `at`, and the other blocks are as they were;
-- `left` purges are left, and `freed` bytes became free. Of the blocks that are done, those of `below` are as they were
-- too, and the blocks of `was` became those of `now`, with the free bytes above them.
pub record Purging (p : Purge) (n : Sparing) (start at left freed : ℕ) (xs : List ℕ) : Type 0 where
  pub done : List Block
  pub rest : List Block
  pub lays : Lays xs (done ++ (free (at - start) ++ rest)) p.slots p.unused
  pub low : sizes done ≡ start
  pub up : start ≤ at
  pub tidied : tidy done ≡ done
  pub closed : Closed done
  pub will : tidy (done ++ (free (at - start) ++ lowest_purged left (spared n) (opened n rest))) ≡ tidy p.goal
  pub count : free_sum (done ++ (free (at - start) ++ rest)) ≡ p.free + freed
  pub apart : tidy rest ≡ rest
  pub below : List Block
  pub was : List Block
  pub now : List Block
  pub zone_is : p.zone ≡ below ++ (was ++ rest)
  pub done_is : done ≡ below ++ now
  pub base : sizes below ≡ p.from
  pub span : p.from + sizes was ≡ at

-- A pass ended at the place `stop`, and blocks from the pass's place on up to there became others.
pub record Purged (p : Purge) (stop freed : ℕ) (xs : List ℕ) : Type 0 where
  pub lays : Lays xs (tidy p.goal) p.slots p.unused
  pub count : free_sum (tidy p.goal) ≡ p.free + freed
  pub replaced : Replaced p.from stop p.zone (tidy p.goal)

-- A block is at `place` in a zone with no two free blocks side by side.
pub record MayPurge (f : Freeing) (place : ℕ) (xs : List ℕ) : Type 0 where
  pub lays : Lays xs (f.below ++ f.here ∷ f.above) f.slots f.unused
  pub low : sizes f.below ≡ place
  pub tidied : tidy (f.below ++ f.here ∷ f.above) ≡ f.below ++ f.here ∷ f.above

-- The pass over the zone that bytes spell, from the place `from` on.
abbrev pub purge_zone : ℕ → List ℕ → List ℕ → ℕ → Sparing → Purge
purge_zone from xs unused purges n = record {
  from = from;
  zone = zone_in xs;
  goal = lowest_purged purges (spared n) (opened n (zone_in xs));
  slots = slot_in xs;
  unused = unused;
  free = free_sum (zone_in xs);
}

-- The pass over the blocks above a block, from the place `from` on.
abbrev pub purge_above : ℕ → Freeing → ℕ → Sparing → Purge
purge_above from f purges n = record {
  from = from;
  zone = f.below ++ f.here ∷ f.above;
  goal = f.below ++ f.here ∷ lowest_purged purges (spared n) f.above;
  slots = f.slots;
  unused = f.unused;
  free = free_sum (f.below ++ f.here ∷ f.above);
}
