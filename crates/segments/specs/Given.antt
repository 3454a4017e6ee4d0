use Rattle.std.specs.Prelude.{◌≡◌, ℕ, Bool, Option, Result, Ok, Err, List, if◌then◌else◌}
use Rattle.mac_words.specs.declared.code.OsErr.{OsErr}
use Rattle.mac_words.specs.declared.code.TheConstants.OsErr.{LOCKED}
use Rattle.heap_calls.specs.State.{Memory}
use Rattle.heap_calls.specs.declared.refusal.Refusal.{Refusal}
use Rattle.heap_calls.specs.declared.refusal.Refusal.TheVariants.{Code, HostMemory}
use Rattle.res_calls.specs.Files.{Resources}
use Rattle.res_calls.specs.Fetch as fetch
use Rattle.res_calls.specs.Given.{managers}
use Rattle.segments.specs.declared.loaded.Called.{Called as CalledSegment}
use Rattle.segments.specs.declared.loaded.Shown.{Shown as ShownEntry}
use Rattle.segments.specs.declared.loaded.Unloaded.{Unloaded}
use Rattle.segments.specs.Table.{Entry}
use Rattle.segments.specs.Calls.{Program, Answer, Called, Shown}

-- How the results of the methods of `JumpTable` are the answers of the definitions.

-- An application with this jump table, these resources and this heap.
abbrev pub program : List Entry → Resources → Memory → Program
program table resources memory = record { managers = managers resources memory; table = table }

-- The answer of a fetch.
abbrev pub Fetch : Type 0
Fetch = fetch.Answer fetch.Fetched

-- Done, unless a busy name bars the call: then -117 (memLockedErr).
abbrev pub done_if : Bool → Result (Unit {0}) OsErr
done_if barred = if barred then Err LOCKED else Ok tt

-- How often stored data was read.
abbrev pub times : Bool → ℕ
times read = if read then 1 else 0

-- How often the resource of a segment was read to fetch it.
abbrev pub reads_of : Result fetch.Fetched OsErr → Result ℕ OsErr
reads_of (Ok f) = Ok f.read
reads_of (Err code) = Err code

-- A segment that was called, and an entry, as the methods return them.
abbrev pub seen_called : CalledSegment → Called
seen_called c = record { segment = c.segment; read = times c.read }

abbrev pub seen_shown : ShownEntry → Shown
seen_shown e = record { segment = e.segment; loaded = e.loaded }

abbrev pub shown_as : Result ShownEntry OsErr → Result Shown OsErr
shown_as (Ok e) = Ok (seen_shown e)
shown_as (Err code) = Err code

-- A segment was not loaded: the code, the empty handle into whose block it would have been read again, whether there
-- was no room, and the application afterwards are those of the answer; nothing is said where the host was out of
-- memory.
abbrev pub IsUnloaded : {T : Type 0} → Answer T → Refusal → Option ℕ → Bool → Program → Type 0
IsUnloaded answer (Code code) reading wants after =
    (answer.reply ≡ Err code) × (answer.reading ≡ reading) × (answer.wants ≡ wants) × (answer.after ≡ after)
IsUnloaded answer HostMemory reading wants after = Unit {0}

-- Whether a segment was read to be loaded, and the application afterwards, are those of the answer.
abbrev pub IsLoaded : Answer fetch.Fetched → Result Bool Unloaded → Program → Type 0
IsLoaded answer (Ok read) after = (reads_of answer.reply ≡ Ok (times read)) × (answer.after ≡ after)
IsLoaded answer (Err u) after = IsUnloaded answer u.refusal u.reading u.wants_room after

-- The segment that was called, and the application afterwards, are those of the answer.
abbrev pub IsCalled : Answer Called → Result CalledSegment Unloaded → Program → Type 0
IsCalled answer (Ok c) after = (answer.reply ≡ Ok (seen_called c)) × (answer.after ≡ after)
IsCalled answer (Err u) after = IsUnloaded answer u.refusal u.reading u.wants_room after

-- The host was out of memory.
abbrev pub WantsHost : {T : Type 0} → Result T Unloaded → Type 0
WantsHost (Ok value) = ⊥
WantsHost (Err u) = u.refusal ≡ HostMemory
