use Rattle.std.specs.Prelude.{◌≡◌, ℕ, ◌<◌, Bool, true, ◌&&◌, Option, Some, None, List, is_some, IsSomeAnd, IfSome}
use Rattle.std.specs.Option.{option_map}
use Rattle.block_store.specs.Block.{Block, Masters, size, resized, is_relocatable}
use Rattle.block_store.specs.Run.{has, has_free}
use Rattle.block_store.specs.Room.{Spot, spot, place}
use Rattle.block_store.specs.Grow.{growth, grow_up, grow_mover}
use Rattle.block_store.specs.Find.{FindsLowestRun}
use Rattle.block_store.specs.Sparing.{spared}
use Rattle.block_store.specs.declared.sparing.Sparing.{Sparing}
use Rattle.heap_calls.specs.Inner.Search.{FindsPlacement}
use Rattle.heap_calls.specs.declared.growing.Growth.{Growth}
use Rattle.heap_calls.specs.declared.growing.Growth.TheVariants as grows

-- The block at a spot, with n bytes of content.
abbrev pub grown : ℕ → Option Spot → Block
grown n None = Masters
grown n (Some s) = resized n s.here

-- How the block that passes a test grows in a zone to the block `new`, by the first way that serves; `None` where
-- none does.
abbrev pub FindsGrowth : (Block → Bool) → Block → List Block → Option Growth → Type 0
FindsGrowth test new zone None = grow_mover test new zone ≡ None
FindsGrowth test new zone (Some grows.Up) = (s : Spot) × (spot test zone ≡ Some s) × (is_some (grow_up new s) ≡ true)
FindsGrowth test new zone (Some (grows.Away placement)) = (s : Spot) × (spot test zone ≡ Some s)
    × (grow_up new s ≡ None)
    × FindsPlacement (size new) zone (Some placement)
FindsGrowth test new zone (Some (grows.Last run)) =
    (s : Spot) × (spot test zone ≡ Some s) × (grow_up new s ≡ None) × (place (size new) zone ≡ None)
    × FindsLowestRun (λ run. has test run && has_free (growth new s) run) zone (Some run)

-- The blocks that pass a test are not purged.
abbrev pub Spares : Sparing → (Block → Bool) → Type 0
Spares sparing test = (b : Block) → test b ≡ true → spared sparing b ≡ true

-- The block that passes a test is there, and is to grow to n bytes of content.
abbrev pub IsToGrow : (Block → Bool) → ℕ → List Block → Type 0
IsToGrow test n zone = IsSomeAnd (spot test zone) (λ s. size s.here < size (resized n s.here))

-- The block that a slot leads to.
abbrev pub block_of : ℕ → List Block → Option Block
block_of number zone = option_map (λ (s : Spot). s.here) (spot (is_relocatable number) zone)

-- Each slot leads to the same block as before.
abbrev pub SameBlocks : List Block → List Block → Type 0
SameBlocks old new = (number : ℕ) → block_of number new ≡ block_of number old

-- The block that passes a test can grow to n bytes of content into the free block above it.
abbrev pub CanGrowUp : (Block → Bool) → ℕ → List Block → Type 0
CanGrowUp test n zone = (s : Spot) × (spot test zone ≡ Some s) × (size s.here < size (resized n s.here))
    × (is_some (grow_up (resized n s.here) s) ≡ true)

-- The block that passes a test has grown to n bytes of content into the free block above it.
abbrev pub GrewUp : (Block → Bool) → ℕ → List Block → List Block → Type 0
GrewUp test n old new = IfSome (spot test old) (λ s. grow_up (resized n s.here) s ≡ Some new)
