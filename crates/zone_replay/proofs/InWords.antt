use Rattle.zone_replay.proofs.Cited.{◌≡◌, ◌∙◌, ◌++◌, ◌||◌, ℕ, Bool, true, false, cond, List, [], ◌∷◌, Option, is_some, refl, sym, ap, ◌-◌}
use Rattle.zone_replay.proofs.Cited.{append_assoc, append-nil, length, take, drop, Vec, Result, IfOk, subst, Global, nat_lt, AllocError}
use Rattle.zone_replay.proofs.Cited.{Site, ScriptParts, Line, Resources, ending, first_steps, moved, course_elsewhere, end_if, exit_of}
use Rattle.zone_replay.proofs.Cited.{Course, step, joined, course_of, Blocks, Running, launched_with, nowhere, Exit, step-elsewhere}
use Rattle.zone_replay.proofs.Cited.{launched-elsewhere, launched_course, end_if-elsewhere, ending-told, over-of, source, launch_words}
use Rattle.zone_replay.proofs.Cited.{step_told_in, steps_told, then_told, end_told_in, told_alone, told_between}
use Rattle.applications.proofs.Rounds.{rest_of as left_of}

-- The transcript of an application in words.

-- where the partition lies is no matter
steps-elsewhere : (site : Site) (lines : List (List ℕ)) (blocks : Blocks) (steps : List Line) (r : Running)
    → steps_told lines blocks steps (moved site r) ≡ steps_told lines blocks steps r
steps-elsewhere site lines blocks [] r = refl
steps-elsewhere site lines blocks (l ∷ steps) r =
    ap (λ (c : Course). step_told_in lines c (moved site r) ++ cond c.over [] (steps_told lines blocks steps c.after))
    (step-elsewhere site blocks l r)
    ∙ ap (λ (later : List ℕ). step_told_in lines (step blocks l r) r ++ cond (step blocks l r).over [] later)
    (steps-elsewhere site lines blocks steps (step blocks l r).after)

-- the course of a step, and of those that are left where it doesn't end the application
whole-of : (blocks : Blocks) (ls rest : List Line) (l : Line) (r : Running) (over : Bool) → ls ≡ l ∷ rest
    → (step blocks l r).over ≡ over → left_of blocks rest (step blocks l r) over ≡ course_of blocks ls r
whole-of blocks ls rest l r over is ends =
    sym (ap (λ (x : List Line). course_of blocks x r) is ∙ ap (left_of blocks rest (step blocks l r)) ends)

-- where the application ends with a step, it ends as the run does, and nothing more is told
pub told_ends : (lines : List (List ℕ)) (blocks : Blocks) (ls rest : List Line) (l : Line) (r : Running)
    (exit : Option Exit) (text new goal : List ℕ) (all : Course)
    → ls ≡ l ∷ rest → exit ≡ exit_of (step blocks l r) → is_some exit ≡ true
    → new ≡ text ++ step_told_in lines (step blocks l r) r
    → text ++ steps_told lines blocks ls r ≡ goal → exit_of (course_of blocks ls r) ≡ exit_of all
    → (new ≡ goal) × (exit ≡ exit_of all)
told_ends lines blocks ls rest l r exit text new goal all is ends some said told same =
    let c : Course = step blocks l r in
    let first : List ℕ = step_told_in lines c r in
    let over : c.over ≡ true = sym (over-of c) ∙ ap is_some (sym ends) ∙ some in (
      said ∙ ap (λ (x : List ℕ). text ++ x) (sym (append-nil first))
          ∙ ap (λ (b : Bool). text ++ (first ++ cond b [] (steps_told lines blocks rest c.after))) (sym over)
          ∙ ap (λ (x : List Line). text ++ steps_told lines blocks x r) (sym is) ∙ told,
      ends ∙ ap exit_of (whole-of blocks ls rest l r true is over) ∙ same,
    )

-- where it goes on, what is told of the steps that are left follows, and these end as all do
pub told_goes_on : (lines : List (List ℕ)) (blocks : Blocks) (ls rest : List Line) (l : Line) (r after : Running)
    (exit : Option Exit) (text new goal : List ℕ) (all : Course)
    → ls ≡ l ∷ rest → exit ≡ exit_of (step blocks l r) → is_some exit ≡ false
    → new ≡ text ++ step_told_in lines (step blocks l r) r → after ≡ (step blocks l r).after
    → text ++ steps_told lines blocks ls r ≡ goal
    → exit_of (course_of blocks ls r) ≡ exit_of all → (course_of blocks ls r).after ≡ all.after
    → (new ++ steps_told lines blocks rest after ≡ goal)
    × (exit_of (course_of blocks rest after) ≡ exit_of all) × ((course_of blocks rest after).after ≡ all.after)
told_goes_on lines blocks ls rest l r after exit text new goal all is ends none said went told same came =
    let c : Course = step blocks l r in
    let first : List ℕ = step_told_in lines c r in
    let later : Running → List ℕ = steps_told lines blocks rest in
    let next : Running → Course = course_of blocks rest in
    let over : c.over ≡ false = sym (over-of c) ∙ ap is_some (sym ends) ∙ none in
    let whole : joined c (next c.after) ≡ course_of blocks ls r = whole-of blocks ls rest l r false is over in (
      ap (λ (x : List ℕ). x ++ later after) said ∙ append_assoc text first (later after)
          ∙ ap (λ (x : Running). text ++ (first ++ later x)) went
          ∙ ap (λ (b : Bool). text ++ (first ++ cond b [] (later c.after))) (sym over)
          ∙ ap (λ (x : List Line). text ++ steps_told lines blocks x r) (sym is) ∙ told,
      ap (λ (x : Running). exit_of (next x)) went ∙ ap exit_of whole ∙ same,
      ap (λ (x : Running). (next x).after) went ∙ ap (λ (x : Course). x.after) whole ∙ came,
    )

-- what is told of an application in a fresh zone is what is told of it alone
pub words-alone : (resources : Resources) (n : ℕ) (parts : ScriptParts) (text : List ℕ) (count : ℕ) (quit : Bool)
    (r : Running) (site : Site) (steps : List Line) (asked : Bool) (lines : List (List ℕ)) (start whole : List ℕ)
    → r ≡ launched_with resources n site → steps ≡ take count parts.steps
    → asked ≡ (nat_lt (length parts.steps) count || quit) → lines ≡ source text → start ≡ launch_words n
    → whole ≡ start ++ steps_told lines parts.blocks steps r
    ++ end_told_in (end_if (exit_of (course_of parts.blocks steps r)) asked (course_of parts.blocks steps r).after)
    → whole ≡ told_alone resources n parts text count quit
words-alone resources n parts text count quit r site steps asked lines start whole is first asks spelled begins said =
    said ∙ (λ i. begins i ++ told i ++ end_told_in (ends i))
  where
    c : Course
    c = first_steps resources n parts count

    same : course_of parts.blocks steps r ≡ course_elsewhere site c
    same = ap (λ (ls : List Line). course_of parts.blocks ls r) first
        ∙ launched_course resources r site n parts.blocks (take count parts.steps) is

    told : steps_told lines parts.blocks steps r
        ≡ steps_told (source text) parts.blocks (take count parts.steps) (launched_with resources n nowhere)
    told = (λ i. steps_told (spelled i) parts.blocks (first i) (is i))
        ∙ ap (steps_told (source text) parts.blocks (take count parts.steps)) (launched-elsewhere resources n site)
        ∙ steps-elsewhere site (source text) parts.blocks (take count parts.steps) (launched_with resources n nowhere)

    ends : end_if (exit_of (course_of parts.blocks steps r)) asked (course_of parts.blocks steps r).after
        ≡ ending resources n parts count quit
    ends = (λ i. end_if (exit_of (same i)) (asks i) (same i).after)
        ∙ end_if-elsewhere site (exit_of c) (nat_lt (length parts.steps) count || quit) c.after
        ∙ ending-told (nat_lt (length parts.steps) count || quit) c

-- and so what is told of some of its steps
pub words-between : (resources : Resources) (n : ℕ) (parts : ScriptParts) (text : List ℕ) (from to : ℕ) (r : Running)
    (site : Site) (steps later : List Line) (lines : List (List ℕ)) (result : Result (Vec ℕ Global) AllocError)
    → r ≡ launched_with resources n site → steps ≡ take from parts.steps
    → later ≡ take (to - from) (drop from parts.steps) → lines ≡ source text
    → IfOk result (λ out. out.items ≡ then_told (course_of parts.blocks steps r) (steps_told lines parts.blocks later))
    → IfOk result (λ out. out.items ≡ told_between resources n parts text from to)
words-between resources n parts text from to r site steps later lines result is first follows spelled told =
    let c : Course = first_steps resources n parts from in
    let rest : List Line = take (to - from) (drop from parts.steps) in
    let same : course_of parts.blocks steps r ≡ course_elsewhere site c =
    ap (λ (ls : List Line). course_of parts.blocks ls r) first
    ∙ launched_course resources r site n parts.blocks (take from parts.steps) is in
    let alike : then_told (course_of parts.blocks steps r) (steps_told lines parts.blocks later)
    ≡ told_between resources n parts text from to =
    (λ i. then_told (same i) (steps_told (spelled i) parts.blocks (follows i)))
    ∙ ap (λ (later : List ℕ). cond c.over [] later) (steps-elsewhere site (source text) parts.blocks rest c.after) in
    subst (λ (what : List ℕ). IfOk result (λ out. out.items ≡ what)) alike told
