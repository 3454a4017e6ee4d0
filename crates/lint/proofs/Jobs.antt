-- The faulty lines of a job.
use Rattle.lint.proofs.Cited.{◌≡◌, ℕ, ◌+◌, Bool, true, false, List, [], ◌∷◌, ◌++◌, Option, Some, None, Result, Ok, Err, refl, sym, ap, ◌∙◌}
use Rattle.lint.proofs.Cited.{map, length, arith, ◌==◌, append_assoc, lines, FaultKind, BadArgument, Job, with_line, with_lines}
use Rattle.lint.proofs.Cited.{with_memory, nothing, job_of, at_line, noted, first, fault, job_faults_from, or_of_whole, job_faults}
use Rattle.lint.proofs.Cited.{FirstIsTheJobReaders, after_line, line_fault, left_by, memory_stated, seen, Fault}
use Rattle.script_text.specs.Job.{Above, after_all}

-- a line and those after it, by what it leaves and its fault
pub split_line : (n : ℕ) (above : Above) (line : List ℕ) (more : List (List ℕ))
    → line_fault n (with_line above line) ++ job_faults_from (n + 1) (after_line above (with_line above line)) more
    ≡ job_faults_from n above (line ∷ more)
split_line n above line more = cases (with_line above line)
  where
    cases : (read : Result Above FaultKind)
        → line_fault n read ++ job_faults_from (n + 1) (after_line above read) more
        ≡ noted n above read (λ next. job_faults_from (n + 1) next more)
    cases (Ok next) = refl
    cases (Err e) = refl

-- the first fault of lines is the reader's
first_of_lines : (n : ℕ) (above : Above) (text : List (List ℕ))
    → first (job_faults_from n above text) ≡ fault (with_lines n above text)
first_of_lines n above [] = refl
first_of_lines n above (line ∷ more) = cases (λ next. first_of_lines (n + 1) next more) (with_line above line)
  where
    cases : ((next : Above) → first (job_faults_from (n + 1) next more) ≡ fault (with_lines (n + 1) next more))
        → (read : Result Above FaultKind)
        → first (noted n above read (λ next. job_faults_from (n + 1) next more))
        ≡ fault (at_line n read (λ next. with_lines (n + 1) next more))
    cases rest (Ok next) = rest next
    cases rest (Err e) = refl

-- what lines leave of which none is faulty is what the reader reads
pub none_faulty : (n : ℕ) (above : Above) (text : List (List ℕ)) → job_faults_from n above text ≡ []
    → with_lines n above text ≡ Ok (left_by above text)
none_faulty n above [] none = refl
none_faulty n above (line ∷ more) none =
    cases (λ next none. none_faulty (n + 1) next more none) (with_line above line) none
  where
    cases : ((next : Above) → job_faults_from (n + 1) next more ≡ []
        → with_lines (n + 1) next more ≡ Ok (left_by next more)) → (read : Result Above FaultKind)
        → noted n above read (λ next. job_faults_from (n + 1) next more) ≡ []
        → at_line n read (λ next. with_lines (n + 1) next more) ≡ Ok (left_by (after_line above read) more)
    cases rest (Ok next) none = rest next none
    cases rest (Err e) none = absurd (cc)

-- the fault of the whole is that of the first line, where there is one
first_of_whole : (faults : List (ℕ × FaultKind)) (read : Result Above (ℕ × FaultKind)) → first faults ≡ fault read
    → first (or_of_whole faults (after_all read)) ≡ fault (after_all read)
first_of_whole [] (Ok above) same = cases above.memory
  where
    none : List (ℕ × FaultKind)
    none = []

    cases : (memory : Option ℕ) → first (or_of_whole none (with_memory memory above)) ≡ fault (with_memory memory above)
    cases None = refl
    cases (Some n) = refl
first_of_whole [] (Err f) same = absurd (cc)
first_of_whole (f ∷ faults) (Ok above) same = absurd (cc)
first_of_whole (f ∷ faults) (Err g) same = same

pub first_is : FirstIsTheJobReaders
unfolding job_faults job_of
first_is text =
    first_of_whole (job_faults_from 1 nothing (lines text)) (with_lines 1 nothing (lines text))
    (first_of_lines 1 nothing (lines text))

-- a line's fault after those so far
pub step_said : (n : ℕ) (above : Above) (line : List ℕ) (more : List (List ℕ)) (front new : List (ℕ × FaultKind))
    → new ≡ front ++ line_fault n (with_line above line)
    → new ++ job_faults_from (n + 1) (after_line above (with_line above line)) more
    ≡ front ++ job_faults_from n above (line ∷ more)
step_said n above line more front new made =
    rw made (append_assoc front (line_fault n (with_line above line))
    (job_faults_from (n + 1) (after_line above (with_line above line)) more)
    ∙ ap (λ faults. front ++ faults) (split_line n above line more))

-- where lines are faulty, nothing is said of the whole
pub or_some : {A : Type 0} (items : List Fault) (whole : Result A (ℕ × FaultKind)) → (length items == 0) ≡ false
    → map seen items ≡ or_of_whole (map seen items) whole
or_some [] whole some = absurd (cc)
or_some (f ∷ items) whole some = refl

-- nor is anything where the memory is stated
pub or_stated : (items : List Fault) (n : ℕ) → map seen items ≡ or_of_whole (map seen items) (memory_stated (Some n))
or_stated [] n = refl
or_stated (f ∷ items) n = refl

-- the faults of lines, or that of the memory, are all faults
pub whole : (text : List ℕ) (faults : List (ℕ × FaultKind)) → faults ≡ job_faults_from 1 nothing (lines text)
    → or_of_whole faults (memory_stated (left_by nothing (lines text)).memory) ≡ job_faults text
unfolding job_faults job_of
whole text [] same = rw (sym same, none_faulty 1 nothing (lines text) (sym same))
    (cases (left_by nothing (lines text)) (left_by nothing (lines text)).memory)
  where
    none : List (ℕ × FaultKind)
    none = []

    cases : (above : Above) (memory : Option ℕ)
        → or_of_whole none (memory_stated memory) ≡ or_of_whole none (with_memory memory above)
    cases above None = refl
    cases above (Some n) = refl
whole text (f ∷ faults) same = rw (sym same) refl
