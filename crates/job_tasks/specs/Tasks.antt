use Rattle.std.specs.Prelude.{◌≡◌, ◌⊎◌, ℕ, Bool, true, false, not, Option, Err, List, codes}
use Rattle.std.specs.Io.KnownBytes.{append_known}
use Rattle.script_text.specs.declared.fault.FaultKind.{FaultKind}
use Rattle.script_text.specs.declared.fault.FaultKind.TheVariants as kinds
use Rattle.script_text.specs.Script.{script_of}
use Rattle.fork_commands.specs.Opening.{opened}
use Rattle.fork_commands.specs.Reading.{content_in}
use Rattle.fork_commands.specs.States.{has_content}
use Rattle.fork_tasks.specs.Accesses.{Access, IsUnwritten}
use Rattle.job_tasks.specs.Dumping.{IsAnswer, IsDumpFault}
use Rattle.fork_tasks.specs.Ending.{ending_of}
use Rattle.fork_tasks.specs.Fault.{Message, Usage, CannotRead, Script, Fork, CannotWrite, HostMemory, NotLaunched, Dump}
use Rattle.fork_tasks.specs.Fault.{IsForkFault}
use Rattle.fork_format.specs.View.{view}
use Rattle.real_zone_view.specs.Answers.{is_good}
use Rattle.fork_tasks.specs.Listing.{listing}
use Rattle.fork_tasks.specs.Printing.{PrintsFront}
use Rattle.job_tasks.specs.Work.{IsTranscriptOf, IsZoneOf, IsListingOf, IsFormText, IsDescription}
use Rattle.fork_tasks.specs.declared.ending.Ending.{Ending}
use Rattle.fork_tasks.specs.declared.ending.Ending.TheVariants.{Done}
use Rattle.job_tasks.specs.declared.tasks.Description.{Description}
use Rattle.job_tasks.specs.declared.tasks.Description.TheVariants as said
use Rattle.job_tasks.specs.declared.tasks.Work.{Work}
use Rattle.job_tasks.specs.declared.tasks.Work.TheVariants as work

-- A task: what is printed of its file's bytes, and what is printed on the standard error if the bytes are faulty.

-- The fault of a script, with the script's path.
abbrev pub script_message : List ℕ → ℕ → FaultKind → Message
script_message path line kinds.HostMemory = HostMemory
script_message path line kinds.UnknownCall = Script path line kinds.UnknownCall
script_message path line kinds.BadArgument = Script path line kinds.BadArgument
script_message path line kinds.NotAllowed = Script path line kinds.NotAllowed
script_message path line kinds.LongLine = Script path line kinds.LongLine

-- The fault of a script's text is its first faulty line; if the host is out of memory nothing is said of the text.
abbrev pub IsScriptFault : List ℕ → List ℕ → Message → Type 0
IsScriptFault path text HostMemory = Unit {0}
IsScriptFault path text (Script named line kind) = (named ≡ path) × (script_of text ≡ Err (line, kind))
IsScriptFault path text (Usage message) = ⊥
IsScriptFault path text (CannotRead named) = ⊥
IsScriptFault path text (Fork named fault) = ⊥
IsScriptFault path text (CannotWrite named) = ⊥
IsScriptFault path text (NotLaunched named app) = ⊥
IsScriptFault path text (Dump named why) = ⊥

-- What is printed of a file's bytes.
abbrev pub IsPrinted : Work → List ℕ → List ℕ → Type 0
IsPrinted (work.Script size) bytes out = IsTranscriptOf size.bytes bytes out
IsPrinted (work.Heap asked) bytes out = IsZoneOf asked bytes out
IsPrinted (work.Map spelling) bytes out = IsListingOf spelling bytes out
IsPrinted (work.Describe spelling) bytes out = IsDescription spelling bytes out
IsPrinted work.Check bytes out = IsFormText bytes out
IsPrinted (work.Zone asked) bytes out = IsAnswer asked bytes out

-- The fault of a file's bytes.
abbrev pub IsFault : Work → List ℕ → List ℕ → Message → Type 0
IsFault (work.Script size) path bytes message = IsScriptFault path bytes message
IsFault (work.Heap asked) path bytes message = IsScriptFault path bytes message
IsFault (work.Map spelling) path bytes message = IsForkFault path (content_in bytes) message
IsFault (work.Describe spelling) path bytes message = IsForkFault path (opened bytes) message
IsFault work.Check path bytes message = IsForkFault path (content_in bytes) message
IsFault (work.Zone asked) path bytes message = IsDumpFault path asked bytes message

-- What is said of a file, and whether it is its state.
abbrev pub description_text : Description → List ℕ
description_text (said.Listing l) = listing l.spelling l.info.items (view l.content)
description_text (said.State text) = text.items

abbrev pub is_state : Description → Bool
is_state (said.Listing l) = false
is_state (said.State text) = true

-- How a task ends: the description of a file that has no fork with a content says so, and so does the check of a zone that is damaged,
-- and the search of a dump in which no zone stands.
abbrev pub ending_for : Work → List ℕ → Ending
ending_for (work.Script size) bytes = Done
ending_for (work.Heap asked) bytes = Done
ending_for (work.Map spelling) bytes = Done
ending_for (work.Describe spelling) bytes = ending_of (not (has_content bytes))
ending_for work.Check bytes = Done
ending_for (work.Zone asked) bytes = ending_of (not (is_good asked bytes))

-- All that a task prints of a file's bytes was printed.
abbrev pub Prints : Work → List ℕ → Option (List ℕ) → Option (List ℕ) → Type 0
Prints w bytes old new = (out : List ℕ) × IsPrinted w bytes out × (new ≡ append_known old out)

-- A front of what a task prints of a file's bytes was printed.
abbrev pub PrintsPart : Work → List ℕ → Option (List ℕ) → Option (List ℕ) → Type 0
PrintsPart w bytes old new = (out : List ℕ) × IsPrinted w bytes out × PrintsFront out old new

-- The reason why a task was not done, or not to its end, and what was printed before. `p` and `q` are the bytes that have
-- been printed before and after, `old` and `new` the accesses to files.
abbrev pub IsRefusal : Work → List ℕ → List ℕ → Option (List ℕ) → Option (List ℕ)
    → Option (List Access) → Option (List Access) → Message → Type 0
IsRefusal w path bytes p q old new (CannotWrite named) =
    PrintsPart w bytes p q × IsUnwritten (codes "-") old new (CannotWrite named)
IsRefusal w path bytes p q old new HostMemory =
    ((q ≡ p) ⊎ PrintsPart w bytes p q) × IsUnwritten (codes "-") old new HostMemory
IsRefusal w path bytes p q old new message = IsFault w path bytes message × (q ≡ p) × (new ≡ old)
