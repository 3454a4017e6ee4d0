use Rattle.std.specs.Prelude.{◌≡◌, ℕ, ◌+◌, ◌-◌, List, [], ◌∷◌, min}
use denote.RawPtr.{Ptr}
use Rattle.memory_windows.specs.declared.Window.{Window}
use Rattle.block_store.specs.Block.{Block, Free, Nonrelocatable, Masters, Relocatable, is_mover, count}
use Rattle.block_store.specs.Slot.{Slot, set_slot, AreSlots}

-- Where a store lies: in a window of the memory that begins at the address `home`.
-- See decision 16 (each call of a store keeps the place where the store lies).
pub record Site : Type 0 where
  pub home : Ptr
  pub window : Window

-- The state of a store beside its blocks: the state of each number as a master pointer, the number of unused master
-- pointers and of all master pointers, the number of times that a block was moved down, the number of placings (a run was
-- raised, or a relocatable block was hoisted, moved to a free block, or made), and where the store lies.
pub record Rest : Type 0 where
  pub slots : ℕ → Slot
  pub unused : ℕ
  pub all : ℕ
  pub moves : ℕ
  pub placed : ℕ
  pub window : Site

-- The state of a store beside its blocks is as expected.
pub record IsRest (expected : Rest) (found : Rest) : Type 0 where
  pub slots : AreSlots expected.slots found.slots
  pub unused : found.unused ≡ expected.unused
  pub all : found.all ≡ expected.all
  pub moves : found.moves ≡ expected.moves
  pub placed : found.placed ≡ expected.placed
  pub window : found.window ≡ expected.window

-- The state with one master pointer in another state, and another number of unused master pointers.
abbrev pub with_slot : ℕ → Slot → ℕ → Rest → Rest
with_slot number state unused r = record r { slots = set_slot r.slots number state; unused = unused }

-- A counter after `more` more, of which it counts as many as are left to its greatest value.
abbrev pub counted : ℕ → ℕ → ℕ
counted n more = n + min more (18446744073709551615 - n)

-- The state with n moves more.
abbrev pub with_moves : ℕ → Rest → Rest
with_moves n r = record r { moves = counted r.moves n }

-- The state after n placings more.
abbrev pub with_placed : ℕ → Rest → Rest
with_placed n r = record r { placed = counted r.placed n }

-- The number of relocatable blocks of a run that have free bytes below them: the blocks that compaction of the run
-- moves.
abbrev pub lowered_in_run : List Block → ℕ
lowered_in_run [] = 0
lowered_in_run (Free n ∷ run) = count is_mover run
lowered_in_run (Nonrelocatable id content ∷ run) = lowered_in_run run
lowered_in_run (Masters ∷ run) = lowered_in_run run
lowered_in_run (Relocatable id flags content ∷ run) = lowered_in_run run

-- The master pointers, their numbers, and where the store lies are as they were.
abbrev pub KeepsSlots : Rest → Rest → Type 0
KeepsSlots old new = IsRest (record old { moves = new.moves; placed = new.placed }) new
