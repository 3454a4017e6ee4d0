use Rattle.std.specs.Prelude.{ℕ, Bool, false, Option, Some, None, Result, Ok, Err, List, [], ◌∷◌, ◌++◌, length}
use Rattle.std.specs.Prelude.{slice_set, if◌then◌else◌}
use Rattle.mac_words.specs.declared.code.OsErr.{OsErr}
use Rattle.block_store.specs.declared.flags.Flags.{Flags}
use Rattle.block_store.specs.Block.{Relocatable, is_relocatable}
use Rattle.block_store.specs.Run.{has}
use Rattle.moves.specs.Moves.{Put}
use Rattle.moves.specs.Seeking.{seek, if_fits, seek_slot}
use Rattle.heap_calls.specs.State.{Role, Plain, Resource, SystemResource, Handle, State}
use Rattle.heap_calls.specs.State.{Memory}
use Rattle.heap_calls.specs.Answer.{Known, nothing, handle_at, without, h_unlock, h_lock_hi}
use Rattle.heap_calls.specs.Slots.{is_unused}
use Rattle.heap_calls.specs.Gone.{Gone}
use Rattle.heap_calls.specs.Rows.{Done, made, given, changed, for_found, doing_silently, purges_made}
use Rattle.heap_calls.specs.Purging.{is_resource, h_purge}

-- What the Resource Manager does with the handles of resources. None of these steps sets the code that MemError
-- returns, and no busy name bars one. More Macintosh Toolbox, chapter 1, "Using the Resource Manager".

-- A new handle in this role, with a block of these flags and bytes.
abbrev pub new_filled : Role → Flags → List ℕ → State → Done ℕ
new_filled role flags x s = made (Handle role) nothing (λ zone. if_fits (length x)
    (seek (Put (Relocatable (length s.names) flags x)) nothing zone)) s

-- A new handle in this role that is empty.
abbrev pub new_empty : Role → State → Done ℕ
new_empty role s = given (Handle role) nothing (seek_slot (is_unused s) nothing s.zone) s

-- A new block of these flags and bytes for an empty handle, which keeps its role.
abbrev pub refill : ℕ → Flags → List ℕ → State → Done (Unit {0})
refill h flags x s = for_found (handle_at (Some h) s) s (λ k. changed nothing (if_fits (length x)
    (seek (Put (Relocatable k.number flags x)) nothing s.zone)) s)

-- The heap after a handle, of whatever role, and its block are disposed of; the heap as it is where there is no such
-- handle.
abbrev pub released_as : Result Known OsErr → State → State
released_as (Err code) s = s
released_as (Ok k) s = without k.number s

abbrev pub released : ℕ → State → State
released h s = released_as (handle_at (Some h) s) s

-- The heap with a handle in another role; the heap as it is where there is no such handle.
abbrev pub cast_as : (Role → Role) → Result Known OsErr → State → State
cast_as change (Err code) s = s
cast_as change (Ok k) s = record s { names = slice_set s.names k.number (Handle (change k.role)) }

abbrev pub cast : (Role → Role) → ℕ → State → State
cast change h s = cast_as change (handle_at (Some h) s) s

-- The role of a resource's handle, guarded or not.
abbrev pub resource_role : Bool → Role
resource_role guarded = if guarded then SystemResource else Resource

-- The change of role that makes a handle a resource's or an application's own, and the one that guards a resource's
-- handle or ends the guard.
abbrev pub owned_as : Bool → Role → Role
owned_as resource role = if resource then Resource else Plain

abbrev pub guarded_as : Bool → Role → Role
guarded_as guarded Plain = Plain
guarded_as guarded Resource = resource_role guarded
guarded_as guarded SystemResource = resource_role guarded

-- Whether a handle that was looked up is a resource's.
abbrev pub is_owned : Result Known OsErr → Bool
is_owned (Err code) = false
is_owned (Ok k) = is_resource k.role

-- Whether a handle has a block.
abbrev pub has_block : ℕ → State → Bool
has_block h s = has (is_relocatable h) s.zone

-- The same steps in a memory: with the searches for room that they take, and the blocks that packing moves down.
-- See decision 40 (the Resource Manager's own steps set no code).
abbrev pub new_inside : Role → Flags → List ℕ → Memory → Result ℕ OsErr × Memory
new_inside role flags x m = doing_silently (new_filled role flags x) m

abbrev pub new_empty_inside : Role → Memory → Result ℕ OsErr × Memory
new_empty_inside role m = doing_silently (new_empty role) m

abbrev pub refill_inside : ℕ → Flags → List ℕ → Memory → Result (Unit {0}) OsErr × Memory
refill_inside h flags x m = doing_silently (refill h flags x) m

-- The number of the handle that was made, if one was made.
abbrev pub number_if : Result ℕ OsErr → Option ℕ
number_if (Ok number) = Some number
number_if (Err code) = None

-- New resources with these flags and bytes, one after another and none of them guarded: the number of each, `None`
-- for each whose block finds no room.
abbrev pub new_all : List (Flags × List ℕ) → Memory → List (Option ℕ) × Memory
new_all [] m = ([], m)
new_all (w ∷ wanted) m = (
  number_if (new_inside Resource w.0 w.1 m).0 ∷ (new_all wanted (new_inside Resource w.0 w.1 m).1).0,
  (new_all wanted (new_inside Resource w.0 w.1 m).1).1,
)

-- The blocks that are purged for these, for one after another.
abbrev pub all_gone : List (Flags × List ℕ) → Memory → List Gone
all_gone [] m = []
all_gone (w ∷ wanted) m =
    purges_made (new_filled Resource w.0 w.1) m.heap ++ all_gone wanted (new_inside Resource w.0 w.1 m).1

-- A change of a heap for which no search for room is made.
abbrev pub inside : (State → State) → Memory → Memory
inside change m = record m { heap = change m.heap }

-- What the Segment Manager does with the block of a segment as the segment is loaded: the block is moved to the top
-- of its run, and locked there. A block that is locked stays as it is, and so does an empty handle. Inside Macintosh:
-- Processes, chapter 7, "Loading and Unloading Segments".
abbrev pub held_high : ℕ → State → State
held_high h s = (h_lock_hi (Some h) s).1

-- What the Segment Manager does with the block of a segment as the segment is unloaded: the block is unlocked, and
-- made purgeable.
abbrev pub loosened : ℕ → State → State
loosened h s = (h_purge (Some h) (h_unlock (Some h) s).1).1
