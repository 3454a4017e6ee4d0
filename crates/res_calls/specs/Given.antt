use Rattle.std.specs.Prelude.{◌≡◌, ℕ, Bool, Option, Result, Ok, Err, IsOk, List, [], ◌∷◌, if◌then◌else◌}
use Rattle.mac_words.specs.declared.code.OsErr.{OsErr}
use Rattle.heap_calls.specs.State.{Memory}
use Rattle.heap_calls.specs.Inner.Given.{last_after}
use Rattle.heap_calls.specs.declared.refusal.Refusal.{Refusal}
use Rattle.heap_calls.specs.declared.refusal.Refusal.TheVariants.{Code, HostMemory}
use Rattle.res_calls.specs.Files.{OpenFile, Resources}
use Rattle.res_calls.specs.Fetch.{Managers, Answer}
use Rattle.res_calls.specs.Fetch as fetch
use Rattle.res_calls.specs.Rows.{loaded_if, with_loaded}
use Rattle.res_calls.specs.declared.fetched.Fetched.{Fetched}
use Rattle.res_calls.specs.declared.fetched.Unread.{Unread}

-- How the results of the methods of `Resources` correspond to the answers of the definitions.

-- A heap and the resources that have handles in the heap.
abbrev pub managers : Resources → Memory → Managers
managers resources memory = record { memory = memory; resources = resources }

-- The returned value, seen as a value of the definitions, and the managers after the call are the answer. Nothing is
-- promised where the host is out of memory.
abbrev pub IsAnswered : {T V : Type 0} → (V → T) → Answer T → Result V Refusal → Managers → Type 0
IsAnswered seen answer (Ok value) after = (answer.reply ≡ Ok (seen value)) × (answer.after ≡ after)
IsAnswered seen answer (Err (Code code)) after = (answer.reply ≡ Err code) × (answer.after ≡ after)
IsAnswered seen answer (Err HostMemory) after = Unit {0}

-- The same correspondence for a call whose value is left out.
abbrev pub IsAnsweredUnseen : {T : Type 0} → Answer T → Result (Unit {0}) Refusal → Managers → Type 0
IsAnsweredUnseen answer (Ok u) after = IsOk answer.reply × (answer.after ≡ after)
IsAnsweredUnseen answer (Err (Code code)) after = (answer.reply ≡ Err code) × (answer.after ≡ after)
IsAnsweredUnseen answer (Err HostMemory) after = Unit {0}

-- The returned value is the reply. Nothing is promised where the host is out of memory.
abbrev pub IsReply : {T : Type 0} → Result T OsErr → Result T Refusal → Type 0
IsReply reply (Ok value) = reply ≡ Ok value
IsReply reply (Err (Code code)) = reply ≡ Err code
IsReply reply (Err HostMemory) = Unit {0}

-- The resources where ResError returns the code of `result`. Where the host is out of memory, the code stays as it was.
abbrev pub noted : {T : Type 0} → Result T Refusal → Resources → Resources
noted result r = record r { error = last_after result r.error }

-- The first of the open files has its resources preloaded, where loading is on.
abbrev pub IsLoadedFirst : Bool → List OpenFile → Memory → List OpenFile → Memory → Type 0
IsLoadedFirst loading [] m after m' = (after ≡ []) × (m' ≡ m)
IsLoadedFirst loading (f ∷ older) m after m' =
    (after ≡ with_loaded (loaded_if loading f.map.references m) f ∷ older)
    × (m' ≡ (loaded_if loading f.map.references m).memory)

-- A fetched handle, as a value of the definitions.
abbrev pub seen_fetched : Fetched → fetch.Fetched
seen_fetched f = record { handle = f.handle; read = if f.read then 1 else 0 }

-- The same correspondence for a fetch, which also reports the empty handle that would have been read again.
abbrev pub IsUnread : Answer fetch.Fetched → Refusal → Option ℕ → Managers → Type 0
IsUnread answer (Code code) reading after =
    (answer.reply ≡ Err code) × (answer.reading ≡ reading) × (answer.after ≡ after)
IsUnread answer HostMemory reading after = Unit {0}

abbrev pub IsFetched : Answer fetch.Fetched → Result Fetched Unread → Managers → Type 0
IsFetched answer (Ok f) after = (answer.reply ≡ Ok (seen_fetched f)) × (answer.after ≡ after)
IsFetched answer (Err u) after = IsUnread answer u.refusal u.reading after
