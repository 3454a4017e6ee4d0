use Rattle.applications.proofs.Cited.{◌≡◌, ◌∙◌, ◌+◌, ◌<◌, ◌++◌, ℕ, zero, suc, Bool, true, false, List, [], ◌∷◌, Option, Some, None, ◌≤◌}
use Rattle.applications.proofs.Cited.{refl, sym, ap, subst, arith, cond, take, length, get_or, append_assoc, append-nil, take_more}
use Rattle.applications.proofs.Cited.{append_known, known-append, Site, ScriptParts, Line, Resources, Running, Blocks, launched_with}
use Rattle.applications.proofs.Cited.{nowhere, Shown, Course, nothing_yet, joined, step, course_of, lines_told, Came, exit_of, report}
use Rattle.applications.proofs.Cited.{reports, steps_taken, steps_alone, moved, Exit}
use Rattle.std.proofs.Common.{is_some}
use Rattle.applications.proofs.Rounds.{over-of, two-texts}
use Rattle.applications.proofs.Counting.{run-then, over-goes_on}
use Rattle.applications.proofs.Elsewhere.{step-elsewhere, launched-elsewhere}

-- A run counted step by step: what its first steps leave, how many it takes, and what its watch hears.

pub heard-nothing : (known : Option (List ℕ)) → append_known known [] ≡ known
heard-nothing None = refl
heard-nothing (Some xs) = ap Some (append-nil xs)

reports-more : (i of : ℕ) → reports (i + 1) of ≡ reports i of ++ report (i + 1) of
reports-more i of = let next : i + 1 ≡ suc i = omega arith in rw next refl

-- one step more is told
pub heard-more : (old now new : Option (List ℕ)) (done i of : ℕ) → done ≡ i → now ≡ append_known old (reports i of)
    → new ≡ append_known now (report (done + 1) of) → new ≡ append_known old (reports (i + 1) of)
heard-more old now new done i of same before after =
    after ∙ ap (λ (n : ℕ). append_known now (report (n + 1) of)) same
    ∙ ap (λ (x : Option (List ℕ)). append_known x (report (i + 1) of)) before
    ∙ known-append old (reports i of) (report (i + 1) of)
    ∙ ap (append_known old) (sym (reports-more i of))

-- before the first step all are left
pub from-nothing : (n : ℕ) → 0 + n ≡ n
from-nothing n = omega arith

-- how a step counts that ends the application, or doesn't
counted : (blocks : Blocks) (ls rest : List Line) (l : Line) (r : Running) (exit : Option Exit) (over : Bool)
    → ls ≡ l ∷ rest → exit ≡ exit_of (step blocks l r) → is_some exit ≡ over
    → steps_taken blocks ls r ≡ suc (cond over zero (steps_taken blocks rest (step blocks l r).after))
counted blocks ls rest l r exit over is ends some =
    ap (λ (x : List Line). steps_taken blocks x r) is
    ∙ ap (λ (t : Bool). suc (cond t zero (steps_taken blocks rest (step blocks l r).after)))
    (sym (over-of (step blocks l r)) ∙ sym (ap is_some ends) ∙ some)

pub count-over : (blocks : Blocks) (ls rest : List Line) (l : Line) (r : Running) (exit : Option Exit) (i all : ℕ)
    → ls ≡ l ∷ rest → exit ≡ exit_of (step blocks l r) → is_some exit ≡ true
    → i + steps_taken blocks ls r ≡ all → i + 1 ≡ all
count-over blocks ls rest l r exit i all is ends some sum =
    let one = counted blocks ls rest l r exit true is ends some in omega arith

pub count-more : (blocks : Blocks) (ls rest : List Line) (l : Line) (r after : Running) (exit : Option Exit) (i all : ℕ)
    → ls ≡ l ∷ rest → exit ≡ exit_of (step blocks l r) → is_some exit ≡ false → after ≡ (step blocks l r).after
    → i + steps_taken blocks ls r ≡ all → i + 1 + steps_taken blocks rest after ≡ all
count-more blocks ls rest l r after exit i all is ends none went sum =
    let one = counted blocks ls rest l r exit false is ends none in
    let same = ap (steps_taken blocks rest) went in
    omega arith

-- where a line is left, a step is left
pub count-left : (blocks : Blocks) (ls rest : List Line) (l : Line) (r : Running) (i all : ℕ) → ls ≡ l ∷ rest
    → i + steps_taken blocks ls r ≡ all → i < all
count-left blocks ls rest l r i all is sum =
    let one = counted blocks ls rest l r (exit_of (step blocks l r)) (is_some (exit_of (step blocks l r))) is refl refl in
    omega arith

-- the first steps of a run, and one more that doesn't end the application
pub first-more : (blocks : Blocks) (lines : List Line) (i : ℕ) (l : Line) (r q after : Running) (exit : Option Exit)
    (start text new : List ℕ)
    → i < length lines → l ≡ get_or lines i l
    → (course_of blocks (take i lines) r).over ≡ false → Came (course_of blocks (take i lines) r) start text q
    → exit ≡ exit_of (step blocks l q) → is_some exit ≡ false → Came (step blocks l q) text new after
    → ((course_of blocks (take (i + 1) lines) r).over ≡ false) × Came (course_of blocks (take (i + 1) lines) r) start new after
first-more blocks lines i l r q after exit start text new within is goes came ends none stepped =
    let c : Course = course_of blocks (take i lines) r in
    let s : Course = step blocks l c.after in
    let same : step blocks l q ≡ s = ap (step blocks l) came.1 in
    let further : s.over ≡ false =
    sym (over-of s) ∙ ap (λ (x : Course). is_some (exit_of x)) (sym same) ∙ sym (ap is_some ends) ∙ none in
    let whole : course_of blocks (take (i + 1) lines) r ≡ joined c (joined s (nothing_yet s.after)) =
    ap (λ (ls : List Line). course_of blocks ls r)
    (take_more lines i l within ∙ ap (λ (x : Line). take i lines ++ x ∷ []) (sym is))
    ∙ run-then blocks (take i lines) (l ∷ []) r ∙ over-goes_on c (course_of blocks (l ∷ [])) goes
    ∙ ap (joined c) (over-goes_on s (course_of blocks []) further) in (
      ap (λ (x : Course). x.over) whole,
      (
        stepped.0 ∙ ap (λ (x : List ℕ). x ++ lines_told (step blocks l q).lines) came.0
            ∙ ap (λ (x : Course). (start ++ lines_told c.lines) ++ lines_told x.lines) same
            ∙ append_assoc start (lines_told c.lines) (lines_told s.lines)
            ∙ ap (λ (x : List ℕ). start ++ x) (sym (two-texts c.lines s.lines))
            ∙ ap (λ (x : List Shown). start ++ lines_told (c.lines ++ x)) (sym (append-nil s.lines))
            ∙ ap (λ (x : Course). start ++ lines_told x.lines) (sym whole),
        stepped.1 ∙ ap (λ (x : Course). x.after) same ∙ ap (λ (x : Course). x.after) (sym whole),
      ),
    )

-- how many steps are taken doesn't hang on where the partition lies
steps-elsewhere : (site : Site) (blocks : Blocks) (lines : List Line) (r : Running)
    → steps_taken blocks lines (moved site r) ≡ steps_taken blocks lines r
steps-elsewhere site blocks [] r = refl
steps-elsewhere site blocks (l ∷ lines) r =
    ap (λ (c : Course). suc (cond c.over zero (steps_taken blocks lines c.after))) (step-elsewhere site blocks l r)
    ∙ ap (λ (n : ℕ). suc (cond (step blocks l r).over zero n)) (steps-elsewhere site blocks lines (step blocks l r).after)

pub steps-alone : (resources : Resources) (size : ℕ) (script : ScriptParts) (n : ℕ) (lines : List Line) (r : Running)
    (site : Site) → r ≡ launched_with resources size site → lines ≡ take n script.steps
    → steps_taken script.blocks lines r ≡ steps_alone resources size script n
steps-alone resources size script n lines r site is first =
    ap (λ (ls : List Line). steps_taken script.blocks ls r) first
    ∙ ap (steps_taken script.blocks (take n script.steps)) (is ∙ launched-elsewhere resources size site)
    ∙ steps-elsewhere site script.blocks (take n script.steps) (launched_with resources size nowhere)

-- and so do the reports of an application that runs alone
module _ (resources : Resources) (size : ℕ) (script : ScriptParts) (n : ℕ) (lines : List Line) (r : Running) (site : Site)
    (old new : Option (List ℕ)) (is : r ≡ launched_with resources size site) (first : lines ≡ take n script.steps)
  where
    pub heard-alone : new ≡ append_known old (reports (steps_taken script.blocks lines r) (length lines))
        → new ≡ append_known old (reports (steps_alone resources size script n) (length (take n script.steps)))
    heard-alone heard =
        heard ∙ (λ i. append_known old
        (reports (steps-alone resources size script n lines r site is first i) (length (first i))))

    pub stopped-alone : (k : ℕ) × (k ≤ steps_taken script.blocks lines r)
        × (new ≡ append_known old (reports k (length lines)))
        → (k : ℕ) × (k ≤ steps_alone resources size script n)
        × (new ≡ append_known old (reports k (length (take n script.steps))))
    stopped-alone s = (
      s.0,
      subst (λ (most : ℕ). s.0 ≤ most) (steps-alone resources size script n lines r site is first) s.1,
      s.2 ∙ ap (λ (ls : List Line). append_known old (reports s.0 (length ls))) first,
    )
