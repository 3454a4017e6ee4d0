use Rattle.applications.proofs.Cited.{ℕ, List, and_left, Line, Resources, Managers, preloaded-busy, fresh_memory, Holds, locked_place}
use Rattle.applications.proofs.Cited.{pointer_place, holds-known, Blocks, launched_with, nowhere, Event, course_of, put_at_launch, EachTry}
use Rattle.applications.proofs.Cited.{Linked, ShowsPut, HoldsPut, KeepsLocked, KeepsNonrelocatable, PurgesOnlyPurgeable, SearchesFew}
use Rattle.applications.proofs.Cited.{RefusedLeaves, RefusedCosts, RefusedBinds, NothingBusy, GoesByRule, KeepsResources, KeepsFiles}
use Rattle.applications.proofs.Cited.{KeepsTable, is_answered, frees, drops, freed_by, dropped_by, LockedStay, NonrelocatableStay}
use Rattle.applications.proofs.TryLaws.{sound-launched, once-shows, once-holds, once-locked, once-nonrelocatable, once-purgeable}
use Rattle.applications.proofs.TryLaws.{once-searches, once-refused, once-costs, once-keeps-resources, once-keeps-files}
use Rattle.applications.proofs.TryLaws.{once-keeps-table}
use Rattle.applications.proofs.Carrying.{run-goes}
use Rattle.applications.proofs.Lines.{run-lines}
use Rattle.applications.proofs.StepLaws.{binds-no-name}
use Rattle.applications.proofs.Marking.{nothing-busy}
use Rattle.applications.proofs.Ending.{goes-by-rule}

-- The laws of a run, whatever the resources of its application are, and whichever lines of a script it takes.

-- as it is launched each handle with a block holds what was read into it
pub any_launch_holds : (resources : Resources) (n : ℕ)
    → Holds (launched_with resources n nowhere).memory.heap (put_at_launch resources n)
any_launch_holds resources n = holds-known (launched_with resources n nowhere).memory.heap
    (put_at_launch resources n) (sound-launched resources n).known

-- the tries of some lines in a fresh partition of n bytes
abbrev pub tries : Resources → ℕ → Blocks → List Line → List Event
tries resources n blocks lines = (course_of blocks lines (launched_with resources n nowhere)).events

-- each of them keeps a law
abbrev pub Keeps : ((ℕ → List ℕ) → Event → Type 0) → Resources → ℕ → Blocks → List Line → Type 0
Keeps P resources n blocks lines = EachTry P (put_at_launch resources n) (tries resources n blocks lines)

-- of each try nothing more is said
abbrev Any : (ℕ → List ℕ) → Event → Type 0
Any bytes e = Unit {0}

pub any_linked : (resources : Resources) (n : ℕ) (blocks : Blocks) (lines : List Line)
    → Linked (launched_with resources n nowhere).memory.heap (tries resources n blocks lines)
any_linked resources n blocks lines = (run-goes Any (λ blocks l r bytes sound. tt) blocks lines
    (launched_with resources n nowhere) (put_at_launch resources n) (sound-launched resources n)).linked

pub any_shows_put : (resources : Resources) (n : ℕ) (blocks : Blocks) (lines : List Line)
    → Keeps ShowsPut resources n blocks lines
any_shows_put resources n blocks lines = (run-goes ShowsPut once-shows blocks lines
    (launched_with resources n nowhere) (put_at_launch resources n) (sound-launched resources n)).each

pub any_holds_put : (resources : Resources) (n : ℕ) (blocks : Blocks) (lines : List Line)
    → Keeps HoldsPut resources n blocks lines
any_holds_put resources n blocks lines = (run-goes HoldsPut once-holds blocks lines
    (launched_with resources n nowhere) (put_at_launch resources n) (sound-launched resources n)).each

pub any_locked_stays : (resources : Resources) (n : ℕ) (blocks : Blocks) (lines : List Line)
    → Keeps KeepsLocked resources n blocks lines
any_locked_stays resources n blocks lines = (run-goes KeepsLocked once-locked blocks lines
    (launched_with resources n nowhere) (put_at_launch resources n) (sound-launched resources n)).each

pub any_nonrelocatable_stays : (resources : Resources) (n : ℕ) (blocks : Blocks) (lines : List Line)
    → Keeps KeepsNonrelocatable resources n blocks lines
any_nonrelocatable_stays resources n blocks lines = (run-goes KeepsNonrelocatable once-nonrelocatable blocks lines
    (launched_with resources n nowhere) (put_at_launch resources n) (sound-launched resources n)).each

pub any_only_purgeable_go : (resources : Resources) (n : ℕ) (blocks : Blocks) (lines : List Line)
    → Keeps PurgesOnlyPurgeable resources n blocks lines
any_only_purgeable_go resources n blocks lines = (run-goes PurgesOnlyPurgeable once-purgeable blocks lines
    (launched_with resources n nowhere) (put_at_launch resources n) (sound-launched resources n)).each

pub any_searches_few : (resources : Resources) (n : ℕ) (blocks : Blocks) (lines : List Line)
    → Keeps SearchesFew resources n blocks lines
any_searches_few resources n blocks lines = (run-goes SearchesFew once-searches blocks lines
    (launched_with resources n nowhere) (put_at_launch resources n) (sound-launched resources n)).each

pub any_refused_leave : (resources : Resources) (n : ℕ) (blocks : Blocks) (lines : List Line)
    → Keeps RefusedLeaves resources n blocks lines
any_refused_leave resources n blocks lines = (run-goes RefusedLeaves once-refused blocks lines
    (launched_with resources n nowhere) (put_at_launch resources n) (sound-launched resources n)).each

pub any_refused_cost : (resources : Resources) (n : ℕ) (blocks : Blocks) (lines : List Line)
    → Keeps RefusedCosts resources n blocks lines
any_refused_cost resources n blocks lines = (run-goes RefusedCosts once-costs blocks lines
    (launched_with resources n nowhere) (put_at_launch resources n) (sound-launched resources n)).each

pub any_resources_stay : (resources : Resources) (n : ℕ) (blocks : Blocks) (lines : List Line)
    → Keeps KeepsResources resources n blocks lines
any_resources_stay resources n blocks lines = (run-goes KeepsResources once-keeps-resources blocks lines
    (launched_with resources n nowhere) (put_at_launch resources n) (sound-launched resources n)).each

pub any_files_stay : (resources : Resources) (n : ℕ) (blocks : Blocks) (lines : List Line)
    → Keeps KeepsFiles resources n blocks lines
any_files_stay resources n blocks lines = (run-goes KeepsFiles once-keeps-files blocks lines
    (launched_with resources n nowhere) (put_at_launch resources n) (sound-launched resources n)).each

pub any_table_stays : (resources : Resources) (n : ℕ) (blocks : Blocks) (lines : List Line)
    → Keeps KeepsTable resources n blocks lines
any_table_stays resources n blocks lines = (run-goes KeepsTable once-keeps-table blocks lines
    (launched_with resources n nowhere) (put_at_launch resources n) (sound-launched resources n)).each

-- from line to line locked blocks and pointers' blocks stay where they are
pub any_locked_lines : (resources : Resources) (n : ℕ) (blocks : Blocks) (lines : List Line)
    → LockedStay (launched_with resources n nowhere).memory.heap
    (course_of blocks lines (launched_with resources n nowhere)).lines
    (course_of blocks lines (launched_with resources n nowhere)).line_ends
any_locked_lines resources n blocks lines = run-lines locked_place freed_by once-locked
    (λ h e refused. and_left (is_answered e.told) (frees h e.deed e.before) refused) blocks lines
    (launched_with resources n nowhere) (put_at_launch resources n) (sound-launched resources n)

pub any_nonrelocatable_lines : (resources : Resources) (n : ℕ) (blocks : Blocks) (lines : List Line)
    → NonrelocatableStay (launched_with resources n nowhere).memory.heap
    (course_of blocks lines (launched_with resources n nowhere)).lines
    (course_of blocks lines (launched_with resources n nowhere)).line_ends
any_nonrelocatable_lines resources n blocks lines = run-lines pointer_place dropped_by once-nonrelocatable
    (λ p e refused. and_left (is_answered e.told) (drops p e.deed) refused) blocks lines
    (launched_with resources n nowhere) (put_at_launch resources n) (sound-launched resources n)

pub any_goes_by_rule : (resources : Resources) (n : ℕ) (blocks : Blocks) (lines : List Line)
    → GoesByRule blocks lines (launched_with resources n nowhere)
any_goes_by_rule resources n blocks lines = goes-by-rule blocks lines (launched_with resources n nowhere)
    (put_at_launch resources n) (sound-launched resources n)

pub any_refused_bind : (resources : Resources) (n : ℕ) (blocks : Blocks) (lines : List Line)
    → RefusedBinds blocks lines (launched_with resources n nowhere)
any_refused_bind resources n blocks lines = binds-no-name blocks lines (launched_with resources n nowhere)

pub any_nothing_stays_busy : (resources : Resources) (n : ℕ) (blocks : Blocks) (lines : List Line)
    → NothingBusy blocks lines (launched_with resources n nowhere)
any_nothing_stays_busy resources n blocks lines =
    let s : Managers = record { memory = fresh_memory n nowhere; resources = resources } in
    nothing-busy blocks lines (launched_with resources n nowhere) (preloaded-busy s)
