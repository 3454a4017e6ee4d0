use Rattle.zone_script_laws.proofs.Cited.{◌≡◌, ℕ, ◌+◌, ◌≤◌, zero, suc, Bool, true, false, List, [], ◌∷◌, ◌++◌, refl, sym, ◌∙◌, ap, cond}
use Rattle.zone_script_laws.proofs.Cited.{map, Some, None, Result, Ok, Err, arith, replicate, append_assoc, flat_map, find, AllByRecursion}
use Rattle.zone_script_laws.proofs.Cited.{option_map, lines, cond-false, each-append, Form, FaultKind, ScriptParts, Said, Statement}
use Rattle.zone_script_laws.proofs.Cited.{Spelled, Above, statement, said_as, spelled, sets_missing, lesser, unless_unfinished, after_all}
use Rattle.zone_script_laws.proofs.Cited.{no_lines, read_from, script_of, Part, Relocated, Fixed, Gap, logical, bytes_of, partition_of}
use Rattle.zone_script_laws.proofs.Cited.{more_masters, Line, MoreMasters, NewHandle, NewPtr, HLock, HPurge, HUnlock, DisposePtr, named}
use Rattle.zone_script_laws.proofs.Cited.{making, ending, lines_of, notes_text, head_text, lines_text, script_text, said_of, States}
use Rattle.zone_script_laws.proofs.Cited.{stated_from, first_line}
use Rattle.script_text.specs.declared.script.Line.{Line as Step}
use Rattle.zone_script_laws.proofs.Words.{IsName, named-so}
use Rattle.zone_script_laws.proofs.Written.{Readable, above, all-read}
use Rattle.zone_script_laws.proofs.Heading.{notes-read, head-read}

-- The text of a script states its calls.

-- the calls for parts that have room in a partition are readable
all-flat : (f : Part → List Line) → ((p : Part) → logical p ≤ 2147483647 → AllByRecursion Readable (f p)) → (parts : List Part)
    → bytes_of parts ≤ 134217728 → AllByRecursion Readable (flat_map f parts)
all-flat f each [] small = tt
all-flat f each (p ∷ parts) small =
    each-append Readable (f p) (flat_map f parts) (each p (omega arith)) (all-flat f each parts (omega arith))

masters-readable : (n : ℕ) → AllByRecursion Readable (replicate n MoreMasters)
masters-readable zero = tt
masters-readable (suc n) = (tt, masters-readable n)

handle-name : (address : ℕ) → IsName (named 104 address)
handle-name address = named-so 104 address refl refl

pointer-name : (address : ℕ) → IsName (named 112 address)
pointer-name address = named-so 112 address refl refl

gap-name : (address : ℕ) → IsName (named 102 address)
gap-name address = named-so 102 address refl refl

making-readable : (p : Part) → logical p ≤ 2147483647 → AllByRecursion Readable (making p)
making-readable (Relocated master flags size) small = ((handle-name master, small), (handle-name master, purge flags.purgeable))
  where
    purge : (t : Bool) → AllByRecursion Readable (cond t (HPurge (named 104 master) ∷ []) [])
    purge true = (handle-name master, tt)
    purge false = tt
making-readable (Fixed address size) small = ((pointer-name address, small), tt)
making-readable (Gap address size) small = ((gap-name address, small), tt)

ending-readable : (p : Part) → logical p ≤ 2147483647 → AllByRecursion Readable (ending p)
ending-readable (Relocated master flags size) small = unlock flags.locked
  where
    unlock : (t : Bool) → AllByRecursion Readable (cond t [] (HUnlock (named 104 master) ∷ []))
    unlock true = tt
    unlock false = (handle-name master, tt)
ending-readable (Fixed address size) small = tt
ending-readable (Gap address size) small = (gap-name address, tt)

lines-readable : (parts : List Part) → partition_of parts ≤ 134217728 → AllByRecursion Readable (lines_of parts)
lines-readable parts small =
    let bytes : bytes_of parts ≤ 134217728 = omega arith in
    each-append Readable (replicate (more_masters parts) MoreMasters ++ flat_map making parts) (flat_map ending parts)
    (each-append Readable (replicate (more_masters parts) MoreMasters) (flat_map making parts) (masters-readable (more_masters parts))
    (all-flat making making-readable parts bytes))
    (all-flat ending ending-readable parts bytes)

-- no call sets a grow-zone script
sets-none : (a : Above) (l : Line) → sets_missing a (said_of l) ≡ false
sets-none a MoreMasters = refl
sets-none a (NewHandle name size) = refl
sets-none a (NewPtr name size) = refl
sets-none a (HLock name) = refl
sets-none a (HPurge name) = refl
sets-none a (HUnlock name) = refl
sets-none a (DisposePtr name) = refl

none-missing : (a : Above) (n : ℕ) (calls : List Line) → find (λ s. sets_missing a s.said) (stated_from n calls) ≡ None
none-missing a n [] = refl
none-missing a n (l ∷ calls) =
    cond-false (sets_missing a (said_of l)) (Some (record { line = n; said = said_of l }))
    (find (λ s. sets_missing a s.said) (stated_from (n + 1) calls)) (sets-none a l)
    ∙ none-missing a (n + 1) calls

-- what the reader reads in the text
pub text_is_read : (form : Form) (zone : ℕ) (parts : List Part) → partition_of parts ≤ 134217728
    → script_of (script_text form zone parts) ≡ Ok (record { steps = stated_from first_line (lines_of parts); blocks = [] })
unfolding script_of
text_is_read form zone parts small =
    ap after_all (
    ap (λ t. read_from 1 no_lines (lines t))
    (append_assoc (head_text form zone (partition_of parts)) notes_text (lines_text (lines_of parts)))
    ∙ head-read form zone (partition_of parts) 1 no_lines (notes_text ++ lines_text (lines_of parts)) (omega arith)
    ∙ notes-read 2 no_lines (lines_text (lines_of parts))
    ∙ all-read (lines_of parts) first_line [] (lines-readable parts small))
    ∙ ap (λ o. unless_unfinished (lesser (option_map (λ (s : Statement). s.line) o) None) (above (stated_from first_line (lines_of parts))))
    (none-missing (above (stated_from first_line (lines_of parts))) first_line (lines_of parts))

-- so the steps of a script that was read in it state its calls
abbrev said-by : Statement → Said
said-by s = s.said

steps-said : (steps : List Step) → map said-by (map statement steps) ≡ map (λ (step : Step). said_as step.call) steps
steps-said [] = refl
steps-said (step ∷ steps) = ap (λ l. said_as step.call ∷ l) (steps-said steps)

calls-said : (n : ℕ) (calls : List Line) → map said-by (stated_from n calls) ≡ map said_of calls
calls-said n [] = refl
calls-said n (l ∷ calls) = ap (λ s. said_of l ∷ s) (calls-said (n + 1) calls)

abbrev steps-in : Result Spelled (ℕ × FaultKind) → List Statement
steps-in (Ok s) = s.steps
steps-in (Err fault) = []

pub text-states : (form : Form) (zone : ℕ) (parts : List Part) (script : ScriptParts) → partition_of parts ≤ 134217728
    → script_of (script_text form zone parts) ≡ Ok (spelled script) → States (lines_of parts) script.steps
text-states form zone parts script small read =
    sym (steps-said script.steps)
    ∙ ap (λ r. map said-by (steps-in r)) (sym read ∙ text_is_read form zone parts small)
    ∙ calls-said first_line (lines_of parts)
