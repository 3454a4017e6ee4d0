use Rattle.zone_replay.proofs.Cited.{◌≡◌, ◌∙◌, ◌++◌, Bool, true, false, Option, None, List, [], ◌∷◌, ℕ, ap, cond, is_some, map, refl, sym}
use Rattle.zone_replay.proofs.Cited.{map_push, OsErr, Reply, word_of, Number, bytes_shown, name_shown, type_shown, values_of, Line}
use Rattle.zone_replay.proofs.Cited.{CallWord, Glance, exit_of, Course, step, Blocks, Running, Exit, over-of, Moment, gathered_inside}
use Rattle.zone_replay.proofs.Cited.{glance_line, glance_moment, in_words, step_added, try_line, try_of, view_try}
use Rattle.zone_replay.specs.declared.inside.Try as seen

-- Tries as lines of a transcript, and in words.

-- a reply of a code has no values
pub no-values : (r : Reply) → r.numbers.items ≡ [] → r.ty ≡ None → r.name ≡ None → values_of r None ≡ []
no-values r numbers ty name =
    λ i. map Number (numbers i) ++ type_shown (ty i) ++ name_shown (name i) ++ bytes_shown None

-- so its line is that of the try
pub glanced : (g : Glance) (l : Line) (grown : Bool) (word : CallWord) (r : Reply) (code : OsErr) (text : List ℕ)
    → word ≡ word_of l.call → r.code ≡ code → values_of r None ≡ []
    → text ≡ try_line grown l.number word r.code.0 (values_of r None)
    → g.grown ≡ grown → g.line ≡ l → g.code ≡ code → text ≡ glance_line g
glanced g l grown word r code text spelled says none is same line coded =
    is ∙ (λ i. try_line grown l.number (spelled i) (says i).0 (none i))
    ∙ sym (λ i. try_line (same i) (line i).number (word_of (line i).call) (coded i).0 [])

-- what is seen after others
pub looked : (old new : List seen.Try) (x : seen.Try) (before : List Glance) (g : Glance) → new ≡ old ++ (x ∷ [])
    → view_try x ≡ try_of g → map view_try old ≡ map try_of before
    → map view_try new ≡ map try_of (before ++ (g ∷ []))
looked old new x before g is same so_far = ap (map view_try) is ∙ map_push view_try old x
    ∙ (λ i. so_far i ++ (same i ∷ [])) ∙ sym (map_push try_of before g)

-- what was seen, in words
pub seen_words : (written : List (List ℕ)) (gs : List Glance)
    → map (in_words written) (map try_of gs) ≡ map (glance_moment written) gs
seen_words written [] = refl
seen_words written (g ∷ gs) = ap (λ (later : List Moment). glance_moment written g ∷ later) (seen_words written gs)

-- whether the application ends with a step is seen by how it ends
over-as : (c : Course) (exit : Option Exit) (over : Bool) → exit ≡ exit_of c → is_some exit ≡ over → c.over ≡ over
over-as c exit over ends is = sym (over-of c) ∙ ap is_some (sym ends) ∙ is

-- where the application ends with a step, no moment follows
pub inside-ends : (written : List (List ℕ)) (blocks : Blocks) (all : Bool) (ls rest : List Line) (l : Line) (r : Running)
    (exit : Option Exit) (ms new goal : List Moment) → ls ≡ l ∷ rest → exit ≡ exit_of (step blocks l r) → is_some exit ≡ true
    → new ≡ step_added written blocks all ms l r → gathered_inside written blocks all ms ls r ≡ goal → new ≡ goal
inside-ends written blocks all ls rest l r exit ms new goal is ends some added so_far =
    let more : List Moment = step_added written blocks all ms l r in
    let over = over-as (step blocks l r) exit true ends some in
    added ∙ sym (λ i. cond {A = List Moment} (over i) more (gathered_inside written blocks all more rest (step blocks l r).after))
    ∙ ap (λ (x : List Line). gathered_inside written blocks all ms x r) (sym is) ∙ so_far

-- where it goes on, the moments of the lines that are left follow
pub inside-goes-on : (written : List (List ℕ)) (blocks : Blocks) (all : Bool) (ls rest : List Line) (l : Line) (r next : Running)
    (exit : Option Exit) (ms new goal : List Moment) → ls ≡ l ∷ rest → exit ≡ exit_of (step blocks l r) → is_some exit ≡ false
    → new ≡ step_added written blocks all ms l r → next ≡ (step blocks l r).after
    → gathered_inside written blocks all ms ls r ≡ goal → gathered_inside written blocks all new rest next ≡ goal
inside-goes-on written blocks all ls rest l r next exit ms new goal is ends none added went so_far =
    let more : List Moment = step_added written blocks all ms l r in
    let over = over-as (step blocks l r) exit false ends none in
    (λ i. gathered_inside written blocks all (added i) rest (went i))
    ∙ sym (λ i. cond {A = List Moment} (over i) more (gathered_inside written blocks all more rest (step blocks l r).after))
    ∙ ap (λ (x : List Line). gathered_inside written blocks all ms x r) (sym is) ∙ so_far
