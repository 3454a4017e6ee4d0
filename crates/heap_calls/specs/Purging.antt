use Rattle.std.specs.Prelude.{ℕ, ◌+◌, ◌-◌, ◌/◌, ◌%◌, ◌==◌, Bool, true, false, Option, Some, None, Ok, Err, List, length}
use Rattle.std.specs.Prelude.{if◌then◌else◌}
use Rattle.mac_words.specs.Size.{phys}
use Rattle.mac_words.specs.declared.code.TheConstants.OsErr.{MEM_FULL, PURGED}
use Rattle.block_store.specs.Block.{Block, Free, Nonrelocatable, Masters, Relocatable, free_sum, is_mover, is_relocatable}
use Rattle.block_store.specs.Block.{tidy}
use Rattle.block_store.specs.Run.{runs}
use Rattle.block_store.specs.Room.{Spot, spot, purge, count_of}
use Rattle.block_store.specs.Grow.{freed}
use Rattle.block_store.specs.Compact.{largest_free, least_or_last, has_room, settled}
use Rattle.heap_calls.specs.State.{Role, Plain, Resource, SystemResource, State}
use Rattle.heap_calls.specs.Answer.{Answer, refused, for_found, on_block, handle_at, change_flags, nothing}
use Rattle.block_store.specs.declared.measures.TheConstants.{HEADER_SIZE}

-- Properties of blocks, empty handles, and purging. Inside Macintosh: Memory, chapter 2, "Setting the Properties of
-- Relocatable Blocks" and "Purging".

-- HPurge and HNoPurge: make a handle's block purgeable, and unpurgeable.
abbrev pub h_purge : Option ℕ → State → Answer (Unit {0})
h_purge handle s = change_flags (λ f. record f { purgeable = true }) handle s

abbrev pub h_no_purge : Option ℕ → State → Answer (Unit {0})
h_no_purge handle s = change_flags (λ f. record f { purgeable = false }) handle s

-- The bits of a handle's state: n where a property is set, for a role, and for a block.
abbrev pub bit : ℕ → Bool → ℕ
bit n set = if set then n else 0

abbrev pub is_resource : Role → Bool
is_resource Plain = false
is_resource Resource = true
is_resource SystemResource = true

abbrev pub block_bits : Block → ℕ
block_bits (Free n) = 0
block_bits (Nonrelocatable id content) = 0
block_bits Masters = 0
block_bits (Relocatable id flags content) = bit 128 flags.locked + bit 64 flags.purgeable

-- HGetState: the properties of a handle's block as bits: 128 for locked, 64 for purgeable, 32 for a resource's
-- handle.
abbrev pub h_get_state : Option ℕ → State → Answer ℕ
h_get_state handle s = for_found (handle_at handle s) s (λ k. on_block handle s
    (λ held. (Ok (block_bits held.at.here + bit 32 (is_resource k.role)), s)))

-- HSetState: sets whether a handle's block is locked and purgeable, by bits 128 and 64 of a byte; the other bits have
-- no effect.
abbrev pub h_set_state : Option ℕ → ℕ → State → Answer (Unit {0})
h_set_state handle byte s = change_flags (λ f. record { locked = byte / 128 % 2 == 1; purgeable = byte / 64 % 2 == 1 })
    handle s

-- The heap after the block of a handle is freed; -112 (memPurErr) where the block is locked. A handle that is empty
-- stays as it is.
-- See decision 29 (`EmptyHandle` of an empty handle is 0).
abbrev pub emptied_at : ℕ → Option Spot → State → Answer (Unit {0})
emptied_at h None s = (Ok tt, s)
emptied_at h (Some at) s = if is_mover at.here then (Ok tt, record s { zone = tidy (freed (is_relocatable h) s.zone) })
    else refused PURGED s

-- EmptyHandle: frees a handle's block and leaves the handle empty.
abbrev pub empty_handle : Option ℕ → State → Answer (Unit {0})
empty_handle handle s = for_found (handle_at handle s) s (λ k. emptied_at k.number
    (spot (is_relocatable k.number) s.zone) s)

-- Whether a handle has no block that is locked.
abbrev pub is_loose : Option Spot → Bool
is_loose None = true
is_loose (Some at) = is_mover at.here

-- The number of blocks that may be purged.
abbrev pub purgeable : List Block → ℕ
purgeable zone = count_of nothing zone

-- The number of blocks that are purged, lowest first, until a free block of p bytes stands; all that may be purged
-- where none stands even then.
abbrev pub blocks_purged : Option ℕ → List Block → ℕ
blocks_purged p zone = least_or_last (λ k. has_room p (purge k nothing zone)) (purgeable zone)

-- PurgeMem: purges blocks, lowest first, until a block of n bytes has room, and moves nothing; -108 (memFullErr)
-- where there is still no room. What was purged stays purged.
-- See decision 32 (a refused `PurgeMem` leaves purged what it purged).
abbrev pub purge_mem : ℕ → State → Answer (Unit {0})
purge_mem n s = (if has_room (phys n) zone then Ok tt else Err MEM_FULL, record s { zone = zone })
  where
    zone : List Block
    zone = purge (blocks_purged (phys n) s.zone) nothing s.zone

-- The zone with every block purged that may be purged.
abbrev pub purged_all : List Block → List Block
purged_all zone = purge (purgeable zone) nothing zone

-- PurgeSpace: the number of bytes that are free or may be purged, and the largest number of bytes that one block
-- could then have where nothing moves.
abbrev pub purge_space : State → Answer (ℕ × ℕ)
purge_space s = (Ok (free_sum (purged_all s.zone), largest_free (purged_all s.zone) - HEADER_SIZE), s)

-- MaxMem: purges every block that may be purged and compacts all runs; the reply is the largest number of bytes that
-- one block can then have.
abbrev pub max_mem : State → Answer ℕ
max_mem s = (Ok (largest_free zone - HEADER_SIZE), record s { zone = zone })
  where
    zone : List Block
    zone = settled (length (runs (purged_all s.zone))) (purged_all s.zone)
