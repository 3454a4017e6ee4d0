use Rattle.std.specs.Prelude.{◌≡◌, ℕ, ◌+◌, ◌≤◌, ◌%◌, zero, suc, Bool, true, false, Option, Some, None, List, []}
use Rattle.std.specs.Prelude.{◌∷◌, ◌++◌}
use Rattle.std.specs.Prelude.{length, max, nat_lt, ◌==◌, if◌then◌else◌}
use native.Mathlib.Nat.{ℕ_set}
use Rattle.std.specs.Option.{option_map}
use Rattle.mac_words.specs.Size.{padded}
use Rattle.block_store.specs.declared.measures.TheConstants.{MASTERS_SIZE, UNIT}
use Rattle.block_store.specs.Block.{Block, Free, Nonrelocatable, Masters, Relocatable, count, size, sizes, free_of}
use Rattle.block_store.specs.Block.{free_sum, is_room, is_relocatable}
use Rattle.block_store.specs.Run.{Stretch, RunSpot, segments, runs, joined, has, settle}
use Rattle.block_store.specs.Room.{spot}
use Rattle.block_store.specs.Rest.{lowered_in_run}

-- The largest block that can be allocated, and compaction. Inside Macintosh: Memory, chapter 2, "Freeing Memory":
-- MaxBlock and CompactMem.

-- The largest of the numbers of the items; 0 where there is no item.
abbrev pub largest : {A : Type 0} → (A → ℕ) → List A → ℕ
largest of [] = 0
largest of (x ∷ xs) = max (of x) (largest of xs)

-- The size of the largest free block of the zone; 0 where there is no free block.
abbrev pub largest_free : List Block → ℕ
largest_free zone = largest free_of zone

-- The greatest number of free bytes in one run of the zone.
abbrev pub largest_run : List Block → ℕ
largest_run zone = largest free_sum (runs zone)

-- The blocks that follow a run.
abbrev pub beyond : List Stretch → List Block
beyond [] = []
beyond (p ∷ parts) = p.barrier ∷ joined p.run parts

-- The place above the first of the blocks that begin at a place; none where there is no block.
abbrev pub place_behind : ℕ → List Block → Option ℕ
place_behind place [] = None
place_behind place (b ∷ above) = Some (place + size b)

-- The place of the run above a run: above the block that ends the run.
abbrev pub next_run : RunSpot → Option ℕ
next_run r = place_behind (sizes r.below + sizes r.run) r.above

-- A run and what stands above it, with the k lowest runs compacted.
abbrev pub settled_runs : ℕ → List Block → List Stretch → List Block
settled_runs zero run parts = joined run parts
settled_runs (suc k) run [] = settle run
settled_runs (suc k) run (p ∷ parts) = settle run ++ p.barrier ∷ settled_runs k p.run parts

-- The zone with its k lowest runs compacted.
abbrev pub settled : ℕ → List Block → List Block
settled k zone = settled_runs k (segments zone).first (segments zone).rest

-- The number of blocks that move when the k lowest runs are compacted.
abbrev pub lowered_in_runs : ℕ → List (List Block) → ℕ
lowered_in_runs zero runs = 0
lowered_in_runs (suc k) [] = 0
lowered_in_runs (suc k) (run ∷ runs) = lowered_in_run run + lowered_in_runs k runs

-- Whether a run has a block. A run without a block stands between two neighbouring blocks that stay.
abbrev pub has_block : List Block → Bool
has_block [] = false
has_block (b ∷ run) = true

-- How many of the k lowest runs have a block.
abbrev pub stretches : ℕ → List (List Block) → ℕ
stretches zero runs = 0
stretches (suc k) [] = 0
stretches (suc k) (run ∷ runs) = (if has_block run then 1 else 0) + stretches k runs

-- How many of the runs have a block; none where compaction of all of them moves a block.
abbrev pub packed_stretches : List (List Block) → Option ℕ
packed_stretches runs = if lowered_in_runs (length runs) runs == 0 then Some (stretches (length runs) runs) else None

-- The least of 0 .. n that passes the test; n where none of them does.
abbrev pub least_or_last : (ℕ → Bool) → ℕ → ℕ
least_or_last test zero = 0
least_or_last test (suc n) = if test 0 then 0 else suc (least_or_last (λ k. test (suc k)) n)

-- The zone has a free block of at least p bytes; where no size is given, it has none.
abbrev pub has_room : Option ℕ → List Block → Bool
has_room None zone = false
has_room (Some p) zone = has (is_room p) zone

-- The number of runs that are compacted, lowest first, until there is a free block of at least p bytes: at most all.
abbrev pub runs_settled : Option ℕ → List Block → ℕ
runs_settled p zone = least_or_last (λ k. has_room p (settled k zone)) (length (runs zone))

-- The zone compacted until there is a free block of at least p bytes.
-- See decision 27 (`CompactMem` takes every run in turn).
abbrev pub compacted : Option ℕ → List Block → List Block
compacted p zone = settled (runs_settled p zone) zone

-- The distance of the block of a master pointer from the bottom of the zone.
abbrev pub distance : ℕ → List Block → Option ℕ
distance number zone = option_map (λ s. sizes s.below) (spot (is_relocatable number) zone)

-- There are both distances, and the first is less than the second.
abbrev pub is_less : Option ℕ → Option ℕ → Bool
is_less None was = false
is_less (Some is) None = false
is_less (Some is) (Some was) = nat_lt is was

-- The relocatable block stands lower in the new list than in the old one.
abbrev pub stands_lower : List Block → List Block → Block → Bool
stands_lower old new (Free n) = false
stands_lower old new (Nonrelocatable id content) = false
stands_lower old new Masters = false
stands_lower old new (Relocatable id flags content) = is_less (distance id new) (distance id old)

-- The number of relocatable blocks of the old list that stand lower in the new one.
abbrev pub lowered : List Block → List Block → ℕ
lowered old new = count (stands_lower old new) old

-- No relocatable block stands higher in the new list than in the old one.
abbrev pub NoneRises : List Block → List Block → Type 0
NoneRises old new = (number was is : ℕ) → distance number old ≡ Some was → distance number new ≡ Some is → is ≤ was

-- The size of each free block is a multiple of 16 bytes; the physical size of any other block is one by its definition.
abbrev pub Aligned : List Block → Type 0
Aligned [] = Unit {0}
Aligned (b ∷ above) = (free_of b % UNIT ≡ 0) × Aligned above

pub Aligned-prop : (zone : List Block) → IsProp (Aligned zone)
Aligned-prop [] = hlevel
Aligned-prop (b ∷ above) = hlevel (Aligned-prop above, ℕ_set)

-- Each nonrelocatable block is named by its own place, where the blocks begin at this place.
abbrev pub Placed : ℕ → List Block → Type 0
Placed place [] = Unit {0}
Placed place (Free n ∷ above) = Placed (place + n) above
Placed place (Nonrelocatable id content ∷ above) = (id ≡ place) × Placed (place + padded (length content)) above
Placed place (Masters ∷ above) = Placed (place + MASTERS_SIZE) above
Placed place (Relocatable id flags content ∷ above) = Placed (place + padded (length content)) above

pub Placed-prop : (place : ℕ) (zone : List Block) → IsProp (Placed place zone)
Placed-prop place [] = hlevel
Placed-prop place (Free n ∷ above) = Placed-prop (place + n) above
Placed-prop place (Nonrelocatable id content ∷ above) = hlevel (Placed-prop (place + padded (length content)) above, ℕ_set)
Placed-prop place (Masters ∷ above) = Placed-prop (place + MASTERS_SIZE) above
Placed-prop place (Relocatable id flags content ∷ above) = Placed-prop (place + padded (length content)) above
