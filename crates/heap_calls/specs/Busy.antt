use Rattle.std.specs.Prelude.{◌≢◌, ℕ, ◌==◌, ◌||◌, Bool, true, false, Option, Some, None, Result, Ok, Err, List, []}
use Rattle.std.specs.Prelude.{◌∷◌, map, slice_get, if◌then◌else◌}
use Rattle.std.specs.Option.{option_or}
use Rattle.mac_words.specs.declared.code.OsErr.{OsErr}
use Rattle.mac_words.specs.declared.code.TheConstants.OsErr.{LOCKED, PROFILE}
use Rattle.heap_calls.specs.State.{Role, Plain, Resource, SystemResource, Meaning, Handle, Pointer, Disposed}
use Rattle.heap_calls.specs.State.{State, Memory}
use Rattle.heap_calls.specs.Answer.{Known, Held, handle_at, look_up}
use Rattle.heap_calls.specs.Pointers.{block_named}

-- Busy names: the handles and pointers that a waiting call names, while a grow-zone script runs. Inside Macintosh:
-- Memory, chapter 1, "Low-Memory Conditions" and "Grow-Zone Functions".

-- Places for three numbers: a call names at most two handles or pointers, and reads a resource's stored data into the
-- block of at most one.
-- See decision 35 (three numbers can be busy).
abbrev pub Places : Type 0
Places = List (Option ℕ)

-- No number is busy.
abbrev pub idle : Places
idle = None ∷ None ∷ None ∷ []

-- Whether a place holds this number.
abbrev pub holds : ℕ → Option ℕ → Bool
holds n None = false
holds n (Some k) = k == n

-- Whether a number is busy.
abbrev pub is_busy : ℕ → Places → Bool
is_busy n [] = false
is_busy n (place ∷ places) = holds n place || is_busy n places

-- The places with one more busy number, in the first empty place; as they are where no place is empty.
abbrev pub busied : ℕ → Places → Places
busied n [] = []
busied n (None ∷ places) = Some n ∷ places
busied n (Some k ∷ places) = Some k ∷ busied n places

-- The places with a number idle again: none of them holds it.
abbrev pub eased_place : ℕ → Option ℕ → Option ℕ
eased_place n place = if holds n place then None else place

abbrev pub eased : ℕ → Places → Places
eased n places = map (eased_place n) places

-- The heap with these numbers busy.
abbrev pub with_busy : Places → Memory → Memory
with_busy places m = record m { log = record m.log { busy = places } }

-- The code of a busy name: -117 (memLockedErr).
abbrev pub bar : Bool → Option OsErr
bar true = Some LOCKED
bar false = None

-- The code with which a handle that was looked up bars a call. A number that is no handle's bars nothing: the call's
-- row refuses it.
abbrev pub known_bars : Places → Result Known OsErr → Option OsErr
known_bars busy (Err code) = None
known_bars busy (Ok known) = bar (is_busy known.number busy)

-- The code with which a number bars a call on a pointer, by what the number stands for.
abbrev pub pointer_bars : Places → ℕ → Option Meaning → Option OsErr
pointer_bars busy p None = None
pointer_bars busy p (Some (Handle role)) = None
pointer_bars busy p (Some Pointer) = bar (is_busy p busy)
pointer_bars busy p (Some Disposed) = None

-- The code with which a number bars a call on a handle or a pointer, by what the number stands for.
abbrev pub either_bars : Places → ℕ → Option Meaning → Option OsErr
either_bars busy n None = None
either_bars busy n (Some (Handle role)) = bar (is_busy n busy)
either_bars busy n (Some Pointer) = bar (is_busy n busy)
either_bars busy n (Some Disposed) = None

-- The code with which the handle that a name is bound to bars a call.
abbrev pub barred : Option ℕ → Memory → Option OsErr
barred handle m = known_bars m.log.busy (handle_at handle m.heap)

-- The code of a handle by its role: -30001 (profileErr) for a System resource's, whose bytes and size cannot be
-- changed.
-- See decision 38 (a System resource's handle bars the calls that change it).
abbrev pub guard : Role → Option OsErr
guard Plain = None
guard Resource = None
guard SystemResource = Some PROFILE

-- The code with which a handle that was looked up bars a call that changes its block's bytes or size.
abbrev pub known_guards : Places → Result Known OsErr → Option OsErr
known_guards busy (Err code) = None
known_guards busy (Ok known) = option_or (bar (is_busy known.number busy)) (guard known.role)

-- The code with which the handle that a name is bound to bars a call that changes its block's bytes or size.
abbrev pub change_barred : Option ℕ → Memory → Option OsErr
change_barred handle m = known_guards m.log.busy (handle_at handle m.heap)

-- No handle is a System resource's.
abbrev pub NoneGuarded : State → Type 0
NoneGuarded s = (h : ℕ) → slice_get s.names h ≢ Some (Handle SystemResource)

-- The code with which the pointer that a name is bound to bars a call.
abbrev pub pointer_barred : Option ℕ → Memory → Option OsErr
pointer_barred None m = None
pointer_barred (Some p) m = pointer_bars m.log.busy p (slice_get m.heap.names p)

-- The code with which the handle or the pointer that a name is bound to bars a call.
abbrev pub either_barred : Option ℕ → Memory → Option OsErr
either_barred None m = None
either_barred (Some n) m = either_bars m.log.busy n (slice_get m.heap.names n)

-- The code with which a number bars a call that changes the bytes of its block, by what the number stands for.
abbrev pub either_guards : Places → ℕ → Option Meaning → Option OsErr
either_guards busy n None = None
either_guards busy n (Some (Handle role)) = option_or (bar (is_busy n busy)) (guard role)
either_guards busy n (Some Pointer) = bar (is_busy n busy)
either_guards busy n (Some Disposed) = None

-- The code with which the handle or the pointer that a name is bound to bars a call that changes its block's bytes.
abbrev pub either_change_barred : Option ℕ → Memory → Option OsErr
either_change_barred None m = None
either_change_barred (Some n) m = either_guards m.log.busy n (slice_get m.heap.names n)

-- The code of a second handle, which is looked up only where the first has a block.
abbrev pub next_barred : Result Held OsErr → Option OsErr → Option OsErr
next_barred (Err code) other = None
next_barred (Ok held) other = other

-- The code with which the first or the second of two handles bars a call.
abbrev pub both_barred : Option ℕ → Option ℕ → Memory → Option OsErr
both_barred from to m = option_or (barred from m) (next_barred (look_up from m.heap) (change_barred to m))

-- The code with which the first or the second of two handles or pointers bars a call that copies bytes of the first into
-- the second.
abbrev pub move_barred : Option ℕ → Option ℕ → Memory → Option OsErr
move_barred from to m =
    option_or (either_barred from m) (next_barred (block_named from m.heap) (either_change_barred to m))

-- The heap after a call that set this code.
abbrev pub keep_code : OsErr → Memory → Memory
keep_code code m = record m { log = record m.log { code = code } }

-- The answer of a method, unless the call is barred.
abbrev pub unless : {T : Type 0} → Option OsErr → (Memory → Result T OsErr × Memory) → Memory → Result T OsErr × Memory
unless None call m = call m
unless (Some code) call m = (Err code, keep_code code m)

-- The answer of a method, unless the call is barred, for a call that does not set the code that MemError returns.
abbrev pub unless_silent : {T : Type 0} → Option OsErr → (Memory → Result T OsErr × Memory) → Memory
    → Result T OsErr × Memory
unless_silent None call m = call m
unless_silent (Some code) call m = (Err code, m)
