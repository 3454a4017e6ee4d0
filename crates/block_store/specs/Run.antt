use Rattle.std.specs.Prelude.{ℕ, ◌-◌, ◌==◌, Bool, true, false, not, ◌&&◌, Option, Some, None, List, [], ◌∷◌, ◌++◌}
use Rattle.std.specs.Prelude.{filter, map, if◌then◌else◌, nat_le}
use Rattle.std.specs.Option.{option_map}
use Rattle.std.specs.List.{list_any}
use Rattle.block_store.specs.Block.{Block, Free, Nonrelocatable, Masters, Relocatable, size, sizes, free_sum, is_mover}
use Rattle.block_store.specs.Block.{free}

-- The block may be part of a run of movable blocks: it is a free block or an unlocked relocatable block.
abbrev pub in_run : Block → Bool
in_run (Free n) = true
in_run (Nonrelocatable id content) = false
in_run Masters = false
in_run (Relocatable id flags content) = not flags.locked

-- A block that ends a run (a barrier), and the run above it.
pub record Stretch : Type 0 where
  pub barrier : Block
  pub run : List Block

-- A zone cut into its first run, and each barrier with the run above it.
pub record Segments : Type 0 where
  pub first : List Block
  pub rest : List Stretch

-- The segments of a zone with one block more at its bottom.
abbrev pub put_below : Block → Segments → Segments
put_below b s = if in_run b then record { first = b ∷ s.first; rest = s.rest }
    else record { first = []; rest = record { barrier = b; run = s.first } ∷ s.rest }

-- The zone cut at its barriers.
abbrev pub segments : List Block → Segments
segments [] = record { first = []; rest = [] }
segments (b ∷ above) = put_below b (segments above)

-- The runs of a zone, lowest first.
abbrev pub runs : List Block → List (List Block)
runs zone = (segments zone).first ∷ map (λ p. p.run) (segments zone).rest

-- A run, and the barriers and runs above it, as one list of blocks.
abbrev pub joined : List Block → List Stretch → List Block
joined run [] = run
joined run (p ∷ parts) = run ++ p.barrier ∷ joined p.run parts

-- A run of a zone, with the blocks below it and the blocks above it.
pub record RunSpot : Type 0 where
  pub below : List Block
  pub run : List Block
  pub above : List Block

-- The run in its place, with more blocks at the bottom of the zone.
abbrev pub run_raised : List Block → RunSpot → RunSpot
run_raised blocks r = record r { below = blocks ++ r.below }

-- The lowest run that passes, of a run and the runs above it, in its place.
abbrev pub lowest_run : (List Block → Bool) → List Block → List Stretch → Option RunSpot
lowest_run passes run [] = if passes run then Some (record { below = []; run = run; above = [] }) else None
lowest_run passes run (p ∷ parts) =
    if passes run then Some (record { below = []; run = run; above = p.barrier ∷ joined p.run parts })
    else option_map (run_raised (run ++ p.barrier ∷ [])) (lowest_run passes p.run parts)

-- The lowest run of the zone that passes, in its place.
abbrev pub run_spot : (List Block → Bool) → List Block → Option RunSpot
run_spot passes zone = lowest_run passes (segments zone).first (segments zone).rest

-- The zone with the run in this place changed.
abbrev pub with_run : (List Block → List Block) → RunSpot → List Block
with_run change r = r.below ++ change r.run ++ r.above

-- The zone with the lowest run that passes changed; none where no run passes.
abbrev pub change_run : (List Block → Bool) → (List Block → List Block) → List Block → Option (List Block)
change_run passes change zone = option_map (with_run change) (run_spot passes zone)

-- The run whose bottom is at this distance from the bottom of the lowest run.
abbrev pub run_from : ℕ → List Block → List Stretch → Option RunSpot
run_from place run [] = if place == 0 then Some (record { below = []; run = run; above = [] }) else None
run_from place run (p ∷ parts) =
    if place == 0 then Some (record { below = []; run = run; above = p.barrier ∷ joined p.run parts })
    else (if nat_le (sizes (run ++ p.barrier ∷ [])) place then option_map (run_raised (run ++ p.barrier ∷ []))
    (run_from (place - sizes (run ++ p.barrier ∷ [])) p.run parts) else None)

-- The run of the zone whose bottom is at this place.
abbrev pub run_at : ℕ → List Block → Option RunSpot
run_at place zone = run_from place (segments zone).first (segments zone).rest

-- The run has at least p free bytes.
abbrev pub has_free : ℕ → List Block → Bool
has_free p run = nat_le p (free_sum run)

-- A block of the run passes the test.
abbrev pub has : (Block → Bool) → List Block → Bool
has test run = list_any test run

-- The relocatable blocks of a run, in order.
abbrev pub movers : List Block → List Block
movers run = filter is_mover run

-- The relocatable blocks of a run that don't pass the test, in order.
abbrev pub others : (Block → Bool) → List Block → List Block
others test run = filter (λ b. is_mover b && not (test b)) run

-- The run compacted: its relocatable blocks in order, then one free block.
abbrev pub settle : List Block → List Block
settle run = movers run ++ free (free_sum run)

-- The run with a new block at its bottom: the new block, the relocatable blocks in order, then one free block.
abbrev pub low : Block → List Block → List Block
low new run = new ∷ movers run ++ free (free_sum run - size new)

-- The run with the block that passes at its top: the other relocatable blocks in order, the free block, then the block
-- that passes.
abbrev pub high : (Block → Bool) → List Block → List Block
high test run = others test run ++ free (free_sum run) ++ filter test run

-- The run compacted with the block that passes as its last: the other relocatable blocks in order, the block that
-- passes, then the free block.
abbrev pub last : (Block → Bool) → List Block → List Block
last test run = settle (high test run)
