use Rattle.std.specs.Prelude.{◌≡◌, ℕ, Option, Some, None, List, [], ◌∷◌}
use Rattle.mac_words.specs.Told.{Told}
use Rattle.mac_words.specs.declared.code.TheConstants.OsErr.{NO_ERR}
use Rattle.heap_calls.specs.State.{Memory}
use Rattle.heap_calls.specs.Table.{Asked}
use Rattle.heap_calls.specs.Serving.{Zeros}
use Rattle.heap_calls.specs.Table as asks
use Rattle.heap_calls.specs.Table.{served}
use Rattle.applications.specs.Names.{Bindings, bound_to, bind}
use Rattle.applications.specs.Step.{number_given}
use Rattle.applications.specs.Trying.{code_told}
use Rattle.zone_scripts.specs.Lines.{Line, MoreMasters, NewHandle, NewPtr, HLock, HPurge, HUnlock, DisposePtr}

-- The calls of a script, one after the other, in a heap where names are bound to numbers.

-- A call of the table, where names are bound so.
abbrev pub asked_by : Line → Bindings → Asked
asked_by MoreMasters names = asks.MoreMasters
asked_by (NewHandle name size) names = asks.NewHandle (Zeros size)
asked_by (NewPtr name size) names = asks.NewPtr size
asked_by (HLock name) names = asks.HLock (bound_to name names)
asked_by (HPurge name) names = asks.HPurge (bound_to name names)
asked_by (HUnlock name) names = asks.HUnlock (bound_to name names)
asked_by (DisposePtr name) names = asks.DisposePtr (bound_to name names)

-- The names where a name is bound to the number that a call has given, if it has given one.
abbrev pub bound_anew : List ℕ → Option ℕ → Bindings → Bindings
bound_anew name None names = names
bound_anew name (Some n) names = bind name n names

-- The names after a call with this reply.
abbrev pub bound_by : Line → Told → Bindings → Bindings
bound_by MoreMasters told names = names
bound_by (NewHandle name size) told names = bound_anew name (number_given told) names
bound_by (NewPtr name size) told names = bound_anew name (number_given told) names
bound_by (HLock name) told names = names
bound_by (HPurge name) told names = names
bound_by (HUnlock name) told names = names
bound_by (DisposePtr name) told names = names

-- Each call is done, one after the other, and this then holds of the heap and of the names.
abbrev pub Runs : List Line → Memory → Bindings → (Memory → Bindings → Type 0) → Type 0
Runs [] m names holds = holds m names
Runs (l ∷ lines) m names holds = (code_told (served (asked_by l names) m).0 ≡ NO_ERR)
    × Runs lines (served (asked_by l names) m).1 (bound_by l (served (asked_by l names) m).0 names) holds
