use Rattle.applications.proofs.Cited.{◌≡◌, ◌∙◌, ◌++◌, ℕ, suc, Bool, true, false, refl, sym, ap, subst, List, [], ◌∷◌, cond, Option}
use Rattle.applications.proofs.Cited.{flat_map-append, flat_map-cons, Line, Running, Blocks, Tried, once, code_told, last_code, nat_lt}
use Rattle.applications.proofs.Cited.{ease, Shown, Course, Round, Ends, Again, grown, grown_for, asked_for, after_asking, ended, stands}
use Rattle.applications.proofs.Cited.{made_room, kept_anew, round, continued, step_in, step, joined, course_of, line_told, lines_told, Came}
use Rattle.applications.proofs.Cited.{CameRound, exit_as, exit_of, Exit}
use Rattle.std.proofs.Common.{is_some}
use Rattle.std.proofs.lemmas.List.{append_assoc, append-nil}
use Rattle.applications.specs.declared.stepping.Next.TheVariants as next

-- Lines of a transcript, one call after the other.

-- the lines of a list with one before it
pub one-line : (s : Shown) (lines : List Shown) → lines_told (s ∷ lines) ≡ line_told s ++ lines_told lines
one-line s lines = flat_map-cons line_told s lines

-- and those of two lists
pub two-texts : (a b : List Shown) → lines_told (a ++ b) ≡ lines_told a ++ lines_told b
two-texts a b = flat_map-append line_told a b

-- a text with the line of one call of a grow-zone script more
pub one_more : (blocks : Blocks) (ls rest : List Line) (l : Line) (r next after : Running) (text new goal : List ℕ)
    → ls ≡ l ∷ rest → next ≡ (once blocks l.call r).after
    → new ≡ text ++ line_told (record { grown = true; line = l; told = (once blocks l.call r).told })
    → text ++ lines_told (grown blocks ls r).lines ≡ goal → (grown blocks ls r).after ≡ after
    → (new ++ lines_told (grown blocks rest next).lines ≡ goal) × ((grown blocks rest next).after ≡ after)
one_more blocks ls rest l r next after text new goal is went said lines ends =
    let t : Tried = once blocks l.call r in
    let s : Shown = record { grown = true; line = l; told = t.told } in
    let all : (grown blocks ls r).lines ≡ s ∷ (grown blocks rest t.after).lines =
    ap (λ (x : List Line). (grown blocks x r).lines) is in (
      ap (λ (x : List ℕ). x ++ lines_told (grown blocks rest next).lines) said
          ∙ ap (λ (x : Running). (text ++ line_told s) ++ lines_told (grown blocks rest x).lines) went
          ∙ append_assoc text (line_told s) (lines_told (grown blocks rest t.after).lines)
          ∙ ap (λ (x : List ℕ). text ++ x) (sym (one-line s (grown blocks rest t.after).lines))
          ∙ ap (λ (x : List Shown). text ++ lines_told x) (sym all)
          ∙ lines,
      ap (λ (x : Running). (grown blocks rest x).after) went ∙ ap (λ (x : List Line). (grown blocks x r).after) (sym is)
          ∙ ends,
    )

-- a call that ends with its try
pub ended_round : (blocks : Blocks) (l : Line) (r after : Running) (exit : Option Exit) (text new : List ℕ)
    → (once blocks l.call r).wants ≡ false
    → exit ≡ exit_as (once blocks l.call r).over (code_told (once blocks l.call r).told)
    → new ≡ text ++ line_told (record { grown = false; line = l; told = (once blocks l.call r).told })
    → after ≡ (ended l r (once blocks l.call r)).after
    → CameRound (round blocks l r) (next.Ended exit) text new after
ended_round blocks l r after exit text new wants ends said went =
    let t : Tried = once blocks l.call r in
    let s : Shown = record { grown = false; line = l; told = t.told } in
    let P : Bool → Type 0 = λ w. CameRound (cond w (after_asking l t (asked_for blocks l r t)) (Ends (ended l r t)))
    (next.Ended exit) text new after in
    subst P (sym wants) (
      ends,
      (said ∙ ap (λ (x : List ℕ). text ++ x) (sym (one-line s [] ∙ append-nil (line_told s))), went),
    )

-- a call whose answer stands although its grow-zone script was run
pub stood_round : (blocks : Blocks) (l : Line) (r given came after : Running) (reading : Option ℕ)
    (exit : Option Exit) (text between new : List ℕ)
    → (once blocks l.call r).wants ≡ true → given ≡ (once blocks l.call r).after
    → reading ≡ (once blocks l.call r).reading → Came (grown_for blocks l reading given) text between came
    → nat_lt (ease (once blocks l.call r).after.memory.heap.zone) (ease came.memory.heap.zone) ≡ false
    → exit ≡ exit_as (once blocks l.call r).over (code_told (once blocks l.call r).told)
    → new ≡ between ++ line_told (record { grown = false; line = l; told = (once blocks l.call r).told })
    → after ≡ kept_anew l.call (code_told (once blocks l.call r).told) came
    → CameRound (round blocks l r) (next.Ended exit) text new after
stood_round blocks l r given came after reading exit text between new wants went again script rose ends said kept =
    let t : Tried = once blocks l.call r in
    let s : Shown = record { grown = false; line = l; told = t.told } in
    let all : Course = asked_for blocks l r t in
    let same : grown_for blocks l reading given ≡ grown_for blocks l t.reading t.after =
    ap (λ (x : Option ℕ). grown_for blocks l x given) again ∙ ap (grown_for blocks l t.reading) went in
    let after_script : came ≡ all.after = script.1 ∙ ap (λ (c : Course). c.after) same in
    let lines : between ≡ text ++ lines_told all.lines =
    script.0 ∙ ap (λ (c : Course). text ++ lines_told c.lines) same in
    let stays : made_room t all ≡ false =
    ap (λ (x : Running). nat_lt (ease t.after.memory.heap.zone) (ease x.memory.heap.zone)) (sym after_script) ∙ rose in
    let P : Bool → Bool → Type 0 = λ w m. CameRound
    (cond w (cond m (Again all) (Ends (joined all (stands l t all.after)))) (Ends (ended l r t))) (next.Ended exit) text
    new after in
    subst (λ w. P w (made_room t all)) (sym wants) (subst (P true) (sym stays) (
      ends,
      (
        said ∙ ap (λ (x : List ℕ). x ++ line_told s) lines ∙ append_assoc text (lines_told all.lines) (line_told s)
            ∙ ap (λ (x : List ℕ). text ++ x) (ap (λ (x : List ℕ). lines_told all.lines ++ x)
            (sym (one-line s [] ∙ append-nil (line_told s))) ∙ sym (two-texts all.lines (s ∷ []))),
        kept ∙ ap (kept_anew l.call (code_told t.told)) after_script,
      ),
    ))

-- a text with a course, where it goes on with what follows
abbrev With : Course → List ℕ → List ℕ → Running → Type 0
With all start text after = (text ≡ start ++ lines_told all.lines) × (after ≡ all.after)

-- where a call ends with a round, its step has ended
pub step_ends : (blocks : Blocks) (l : Line) (n k : ℕ) (r after : Running) (exit : Option Exit)
    (text new start : List ℕ) (all : Course)
    → n ≡ suc k → CameRound (round blocks l r) (next.Ended exit) text new after
    → text ++ lines_told (step_in n blocks l r).lines ≡ start ++ lines_told all.lines
    → (step_in n blocks l r).after ≡ all.after → exit_of (step_in n blocks l r) ≡ exit_of all
    → (exit ≡ exit_of all) × With all start new after
step_ends blocks l n k r after exit text new start all more came lines went ends =
    by_round (round blocks l r) came
    (ap (λ (x : ℕ). text ++ lines_told (step_in x blocks l r).lines) (sym more) ∙ lines)
    (ap (λ (x : ℕ). (step_in x blocks l r).after) (sym more) ∙ went)
    (ap (λ (x : ℕ). exit_of (step_in x blocks l r)) (sym more) ∙ ends)
  where
    next_rounds : Running → Course
    next_rounds = step_in k blocks l

    by_round : (x : Round) → CameRound x (next.Ended exit) text new after
        → text ++ lines_told (continued x next_rounds).lines ≡ start ++ lines_told all.lines
        → (continued x next_rounds).after ≡ all.after → exit_of (continued x next_rounds) ≡ exit_of all
        → (exit ≡ exit_of all) × With all start new after
    by_round (Ends c) came lines went ends = (came.0 ∙ ends, (came.1.0 ∙ lines, came.1.1 ∙ went))
    by_round (Again c) came lines went ends = absurd came

-- where it is tried again, the rounds that are left are those of the step
pub step_goes_on : (blocks : Blocks) (l : Line) (n k : ℕ) (r after : Running) (text new goal : List ℕ) (all : Course)
    → n ≡ suc k → CameRound (round blocks l r) next.Again text new after
    → text ++ lines_told (step_in n blocks l r).lines ≡ goal
    → (step_in n blocks l r).after ≡ all.after → exit_of (step_in n blocks l r) ≡ exit_of all
    → (new ++ lines_told (step_in k blocks l after).lines ≡ goal)
    × ((step_in k blocks l after).after ≡ all.after) × (exit_of (step_in k blocks l after) ≡ exit_of all)
step_goes_on blocks l n k r after text new goal all more came lines went ends =
    by_round (round blocks l r) came
    (ap (λ (x : ℕ). text ++ lines_told (step_in x blocks l r).lines) (sym more) ∙ lines)
    (ap (λ (x : ℕ). (step_in x blocks l r).after) (sym more) ∙ went)
    (ap (λ (x : ℕ). exit_of (step_in x blocks l r)) (sym more) ∙ ends)
  where
    next_rounds : Running → Course
    next_rounds = step_in k blocks l

    by_round : (x : Round) → CameRound x next.Again text new after
        → text ++ lines_told (continued x next_rounds).lines ≡ goal
        → (continued x next_rounds).after ≡ all.after → exit_of (continued x next_rounds) ≡ exit_of all
        → (new ++ lines_told (next_rounds after).lines ≡ goal)
        × ((next_rounds after).after ≡ all.after) × (exit_of (next_rounds after) ≡ exit_of all)
    by_round (Ends c) came lines went ends = absurd came
    by_round (Again c) came lines went ends = (
      ap (λ (x : List ℕ). x ++ lines_told (next_rounds after).lines) came.0
          ∙ append_assoc text (lines_told c.lines) (lines_told (next_rounds after).lines)
          ∙ ap (λ (x : Running). text ++ (lines_told c.lines ++ lines_told (next_rounds x).lines)) came.1
          ∙ ap (λ (x : List ℕ). text ++ x) (sym (two-texts c.lines (next_rounds c.after).lines))
          ∙ lines,
      ap (λ (x : Running). (next_rounds x).after) came.1 ∙ went,
      ap (λ (x : Running). exit_of (next_rounds x)) came.1 ∙ ends,
    )

-- a course says by how it ends whether it ends the application
pub over-of : (c : Course) → is_some (exit_of c) ≡ c.over
over-of c = by_over c.over
  where
    by_over : (over : Bool) → is_some (exit_as over (last_code c.told)) ≡ over
    by_over true = refl
    by_over false = refl

abbrev pub rest_of : Blocks → List Line → Course → Bool → Course
rest_of blocks rest c over = cond over c (joined c (course_of blocks rest c.after))

whole-of : (blocks : Blocks) (ls rest : List Line) (l : Line) (r : Running) (over : Bool) → ls ≡ l ∷ rest
    → is_some (exit_of (step blocks l r)) ≡ over → course_of blocks ls r ≡ rest_of blocks rest (step blocks l r) over
whole-of blocks ls rest l r over is ends =
    ap (λ (x : List Line). course_of blocks x r) is
    ∙ ap (rest_of blocks rest (step blocks l r)) (sym (over-of (step blocks l r)) ∙ ends)

-- where the application ends with a step, so does the run
pub run_ends : (blocks : Blocks) (ls rest : List Line) (l : Line) (r : Running) (exit : Option Exit) (all : Course)
    → ls ≡ l ∷ rest → exit ≡ exit_of (step blocks l r) → is_some exit ≡ true
    → exit_of (course_of blocks ls r) ≡ exit_of all → exit ≡ exit_of all
run_ends blocks ls rest l r exit all is ends some same =
    ends ∙ sym (ap exit_of (whole-of blocks ls rest l r true is (sym (ap is_some ends) ∙ some))) ∙ same

-- where it goes on, the steps that are left are those of the run
pub run_goes_on : (blocks : Blocks) (ls rest : List Line) (l : Line) (r after : Running) (exit : Option Exit)
    (text new goal : List ℕ) (all : Course)
    → ls ≡ l ∷ rest → exit ≡ exit_of (step blocks l r) → is_some exit ≡ false
    → Came (step blocks l r) text new after
    → text ++ lines_told (course_of blocks ls r).lines ≡ goal
    → (course_of blocks ls r).after ≡ all.after → exit_of (course_of blocks ls r) ≡ exit_of all
    → (new ++ lines_told (course_of blocks rest after).lines ≡ goal)
    × ((course_of blocks rest after).after ≡ all.after) × (exit_of (course_of blocks rest after) ≡ exit_of all)
run_goes_on blocks ls rest l r after exit text new goal all is ends none came lines went same =
    let c : Course = step blocks l r in
    let next : Running → Course = course_of blocks rest in
    let whole : course_of blocks ls r ≡ joined c (next c.after) =
    whole-of blocks ls rest l r false is (sym (ap is_some ends) ∙ none) in (
      ap (λ (x : List ℕ). x ++ lines_told (next after).lines) came.0
          ∙ append_assoc text (lines_told c.lines) (lines_told (next after).lines)
          ∙ ap (λ (x : Running). text ++ (lines_told c.lines ++ lines_told (next x).lines)) came.1
          ∙ ap (λ (x : List ℕ). text ++ x) (sym (two-texts c.lines (next c.after).lines))
          ∙ ap (λ (x : Course). text ++ lines_told x.lines) (sym whole)
          ∙ lines,
      ap (λ (x : Running). (next x).after) came.1 ∙ ap (λ (x : Course). x.after) (sym whole) ∙ went,
      ap (λ (x : Running). exit_of (next x)) came.1 ∙ ap exit_of (sym whole) ∙ same,
    )
