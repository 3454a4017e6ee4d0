-- A run whose relocatable blocks are being moved down.
use Rattle.std.specs.Prelude.{◌≡◌, ℕ, ◌+◌, ◌-◌, ◌≤◌, ◌<◌, ◌⊎◌, zero, suc, Bool, true, false, nat_le, nat_lt}
use Rattle.std.specs.Prelude.{if◌then◌else◌, List, []}
use Rattle.std.specs.Prelude.{◌∷◌, ◌++◌, length, take, drop}
use Rattle.memory_windows.specs.Writes.{piece}
use Rattle.block_store.specs.Block.{Block, free_of, free_sum, is_mover, size, sizes}
use Rattle.block_store.specs.Run.{in_run, movers, settle}
use Rattle.block_store.specs.Inner.Packing.{Loose}
use Rattle.zone_bytes.specs.Layout.{head_of, Tiles, IsSlot, names, Leads, Apart, Each, Pairs}
use Rattle.block_store.specs.declared.measures.TheConstants.{GREATEST_ZONE}

-- The number of relocatable blocks of a run that move down when the run is packed and `gap` free bytes are below it.
abbrev pub lowered_in_run_from : ℕ → List Block → ℕ
lowered_in_run_from gap [] = 0
lowered_in_run_from gap (b ∷ blocks) = (if is_mover b then (if nat_lt 0 gap then 1 else 0) else 0) + lowered_in_run_from
    (gap + free_of b) blocks

-- A zone with one of its runs, and the bytes in which the zone lies.
pub record Lay : Type 0 where
  pub resource : ℕ → Bool
  pub below : List Block
  pub run : List Block
  pub above : List Block
  pub bytes : List ℕ

abbrev pub all : Lay → List Block
all lay = lay.below ++ (lay.run ++ lay.above)

-- The blocks lie in `xs`, and the slot of each relocatable block leads to the block.
pub record Lies (resource : ℕ → Bool) (blocks : List Block) (xs : List ℕ) : Type 0 where
  pub tiles : Tiles (head_of resource) xs blocks
  pub leads : Leads 0 blocks xs

-- The slots of blocks are slots of master pointer blocks, and no two blocks have the same slot.
pub record HasSlots (blocks : List Block) : Type 0 where
  pub slots : Each (λ s. IsSlot s blocks) (names blocks)
  pub apart : Pairs Apart (names blocks)

-- There are no blocks, or the first of them ends a run.
abbrev pub EndsRun : List Block → Type 0
EndsRun [] = Unit {0}
EndsRun (b ∷ above) = in_run b ≡ false

-- Reports whether a block belongs to a run, by the number of its kind and the flags in its header.
abbrev pub runs_on : ℕ → ℕ → Bool
runs_on zero f = true
runs_on (suc zero) f = false
runs_on (suc (suc zero)) f = false
runs_on (suc (suc (suc k))) f = nat_lt f 128

-- The run of `lay` is from `place` to `stop`.
pub record IsRunFrom (lay : Lay) (place stop : ℕ) : Type 0 where
  pub lies : Lies lay.resource (all lay) lay.bytes
  pub slots : HasSlots (all lay)
  pub bottom : sizes lay.below ≡ place
  pub top : place + sizes lay.run ≡ stop
  pub in_run : Loose lay.run
  pub small : length lay.bytes ≤ GREATEST_ZONE

-- The slots that lead to none of the blocks hold the words that they held before.
abbrev pub SameOthers : List Block → List ℕ → List ℕ → Type 0
SameOthers blocks old new = (s : ℕ) → IsSlot s blocks → Each (Apart s) (names blocks) → piece s 4 new ≡ piece s 4 old

-- The zone `was` in the bytes `old` became `now` in `new`, and no slot changed that leads to no block.
pub record Relaid (resource : ℕ → Bool) (was now : List Block) (old new : List ℕ) : Type 0 where
  pub lies : Lies resource now new
  pub others : SameOthers was old new
  pub kept : length new ≡ length old

-- The blocks `gone` of the run, which end at `from`, were passed, and now lie below `to` as `moved`; the blocks `rest`
-- of the run lie as they did. The slots of the blocks that were passed lead to the places `gap` above them.
pub record Passing (lay : Lay) (gap from to : ℕ) (xs : List ℕ) (gone moved rest : List Block) : Type 0 where
  pub split : gone ++ rest ≡ lay.run
  pub named : names moved ≡ names gone
  pub low : Tiles (head_of lay.resource) (take to xs) (lay.below ++ moved)
  pub high : Tiles (head_of lay.resource) (drop from xs) (rest ++ lay.above)
  pub up : sizes lay.below + sizes gone ≡ from
  pub down : to ≤ from
  pub kept : length xs ≡ length lay.bytes
  pub lead_low : Leads 0 lay.below xs
  pub lead_moved : Leads (sizes lay.below + gap) moved xs
  pub lead_high : Leads (sizes lay.below + sizes lay.run) lay.above xs
  pub others : SameOthers (all lay) lay.bytes xs

-- The blocks `gone` of the run were packed below `to`, and `moves` of them moved down.
pub record Packing (lay : Lay) (gap from to moves : ℕ) (xs : List ℕ) (gone : List Block) : Type 0 where
  pub rest : List Block
  pub state : Passing lay gap from to xs gone (movers gone) rest
  pub leads : Leads from rest xs
  pub count : moves ≡ lowered_in_run_from 0 gone

-- The run's relocatable blocks lie one after another from its bottom on, with one free block above them, and their
-- slots lead to the places `gap` above them.
pub record Packed (lay : Lay) (gap moves : ℕ) (xs : List ℕ) : Type 0 where
  pub tiles : Tiles (head_of lay.resource) xs (lay.below ++ (settle lay.run ++ lay.above))
  pub low : Leads 0 lay.below xs
  pub leads : Leads (sizes lay.below + gap) (movers lay.run) xs
  pub high : Leads (sizes lay.below + sizes lay.run) lay.above xs
  pub others : SameOthers (all lay) lay.bytes xs
  pub moved : moves ≡ lowered_in_run_from 0 lay.run
  pub kept : length xs ≡ length lay.bytes

-- The first blocks of a run as a run, with the other blocks of the run above them.
abbrev pub cut : Lay → List Block → List Block → Lay
cut lay gone rest = record {
  resource = lay.resource;
  below = lay.below;
  run = gone;
  above = rest ++ lay.above;
  bytes = lay.bytes;
}

-- The blocks of a list that lie in its first `n` bytes, and the blocks after them.
abbrev pub first_in : ℕ → List Block → List Block
first_in n [] = []
first_in n (b ∷ blocks) = if nat_le (size b) n then b ∷ first_in (n - size b) blocks else []

abbrev pub left_behind : ℕ → List Block → List Block
left_behind n [] = []
left_behind n (b ∷ blocks) = if nat_le (size b) n then left_behind (n - size b) blocks else b ∷ blocks

-- The blocks of a run below a place, and the other blocks of the run.
abbrev pub gone_to : Lay → ℕ → List Block
gone_to lay stop = first_in (stop - sizes lay.below) lay.run

abbrev pub rest_from : Lay → ℕ → List Block
rest_from lay stop = left_behind (stop - sizes lay.below) lay.run

-- The first blocks of a run are packed, up to `top`, with one free block above them, up to `stop`. They are all blocks
-- of the run, or as many as have `enough` free bytes among them.
pub record UntilAt (lay : Lay) (place gap enough moves top stop : ℕ) (xs : List ℕ) (gone rest : List Block) : Type 0
  where
    pub split : gone ++ rest ≡ lay.run
    pub packed : Packed (cut lay gone rest) gap moves xs
    pub top_at : top ≡ place + sizes (movers gone)
    pub stop_at : stop ≡ place + sizes gone
    pub ended : (rest ≡ []) ⊎ ((place < top) × (enough ≤ free_sum gone))

abbrev pub PackedUntil : Lay → ℕ → ℕ → ℕ → ℕ → ℕ → ℕ → List ℕ → Type 0
PackedUntil lay place gap enough moves top stop xs =
    UntilAt lay place gap enough moves top stop xs (gone_to lay stop) (rest_from lay stop)

-- The run is packed, and the slot of each relocatable block leads to the block.
pub record Settled (lay : Lay) (moves : ℕ) (xs : List ℕ) : Type 0 where
  pub zone : Relaid lay.resource (all lay) (lay.below ++ (settle lay.run ++ lay.above)) lay.bytes xs
  pub moved : moves ≡ lowered_in_run_from 0 lay.run
