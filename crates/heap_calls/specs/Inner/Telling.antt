use Rattle.std.specs.Prelude.{◌≡◌, ◌⊎◌, ◌≤◌, ◌<◌, ℕ, Option, Some, None, List, [], ◌∷◌, ◌++◌, length}
use Rattle.std.specs.Prelude.{if◌then◌else◌, zero, suc}
use Rattle.block_store.specs.Block.{Block, rename_block}
use Rattle.block_store.specs.Room.{Spot, spot_at, may_be_purged}
use Rattle.block_store.specs.Sparing.{spared}
use Rattle.block_store.specs.Inner.Stretch.{opened_block}
use Rattle.block_store.specs.declared.sparing.Sparing.{Sparing}
use Rattle.heap_calls.specs.Gone.{Gone, gone_of, Tells, TellsNothing}
use Rattle.heap_calls.specs.Inner.Numbered.{handle_number, pointer_number}
use Rattle.heap_calls.specs.Inner.NewSlot.{seek_unused, zone_slotted, HasMore}
use Rattle.block_store.specs.Rest.{Rest, IsRest}
use Rattle.heap_calls.specs.Inner.Went.{told_along}
use Rattle.heap_calls.specs.declared.anchor.Anchor.{Anchor}

-- How a store's blocks, which the store names by slot, are reported to a sink.

-- The number of the first entry of a slot's handle; `None` where the slot has no handle.
abbrev pub IsNumberOf : ℕ → List Anchor → Option ℕ → Type 0
IsNumberOf slot entries None = length entries ≤ handle_number entries slot
IsNumberOf slot entries (Some number) = (handle_number entries slot ≡ number) × (number < length entries)

-- A block of a store, by the number of its handle.
abbrev pub gone_named : List Anchor → Block → List Gone
gone_named entries b = gone_of (length entries) (rename_block (handle_number entries) (pointer_number entries) b)

-- The k lowest blocks of a store that may be purged, by the numbers of their handles.
abbrev pub gone_from : List Anchor → Sparing → ℕ → List Block → List Gone
gone_from entries sparing zero blocks = []
gone_from entries sparing (suc k) [] = []
gone_from entries sparing (suc k) (b ∷ above) =
    if may_be_purged (spared sparing) (opened_block sparing b)
    then gone_named entries b ++ gone_from entries sparing k above
    else gone_from entries sparing (suc k) above

-- The blocks from a spot on.
abbrev pub from_spot : Option Spot → List Block
from_spot None = []
from_spot (Some s) = s.here ∷ s.above

abbrev pub blocks_from : ℕ → List Block → List Block
blocks_from place zone = from_spot (spot_at place zone)

-- The blocks of a store that are purged for an unused slot, by the number of slots that are unused.
abbrev pub zone_slot_gone : List Anchor → Sparing → ℕ → List Block → List Gone
zone_slot_gone entries sparing n zone = told_along entries (spared sparing) (seek_unused sparing n zone) zone

-- No block counts as free for the search.
abbrev pub OpensNone : Sparing → Type 0
OpensNone sparing = (b : Block) → opened_block sparing b ≡ b

-- What is left of a store and a sink where the sink finds the host out of memory as a slot is taken for a new block,
-- and the block's place is sought: all as it was; or the slot is unused again, and the master pointer block that was
-- made for it stays, whose purges were reported to the sink.
abbrev pub LeavesSlot : {A : Type 0} → (A → List Gone → Type 0) → List Anchor → Sparing → List Block → Rest → List Block
    → Rest → A → A → Type 0
LeavesSlot told entries sparing zone rest zone' rest' old new =
    ((zone' ≡ zone) × IsRest rest rest' × TellsNothing told old new)
    ⊎ ((zone_slotted sparing rest.unused zone ≡ Some zone') × HasMore rest rest' × (rest'.moves ≡ rest.moves)
    × Tells told (zone_slot_gone entries sparing rest.unused zone) old new)
