use Rattle.zone_replay.proofs.Cited.{◌≡◌, ◌∙◌, ◌-◌, ◌++◌, ℕ, Bool, true, false, cond, List, [], ◌∷◌, Vec, Result, refl, ap, subst, map}
use Rattle.zone_replay.proofs.Cited.{take, drop, IfOk, Global, AllocError, Site, ScriptParts, launch_line, Line, Resources, first_steps}
use Rattle.zone_replay.proofs.Cited.{lines_told, moved, course_elsewhere, Course, step, course_of, Blocks, Running, launched_with, Glance}
use Rattle.zone_replay.proofs.Cited.{glances, glance_elsewhere, glances-elsewhere, step-elsewhere, launched_course, added_with, inside}
use Rattle.zone_replay.proofs.Cited.{gathered, Moment, steps_svg, source, drawn_behind, moments_svg, gathered_inside, glance_moment}
use Rattle.zone_replay.proofs.Cited.{inside_behind, step_added, unless_ended, tag, moment, moments_of, moments_behind, step_moment}
use Rattle.zone_replay.proofs.Cited.{words_after, zone_lines, Strips}

-- The moments of an application, one after another.

-- where the partition lies is no matter
moments-elsewhere : (site : Site) (written : List (List ℕ)) (blocks : Blocks) (lines : List Line) (r : Running)
    → moments_of written blocks lines (moved site r) ≡ moments_of written blocks lines r
moments-elsewhere site written blocks [] r = refl
moments-elsewhere site written blocks (l ∷ lines) r =
    ap (λ (c : Course). step_moment written l c ∷ cond c.over [] (moments_of written blocks lines c.after))
    (step-elsewhere site blocks l r)
    ∙ ap (λ (later : List Moment). step_moment written l (step blocks l r) ∷ cond (step blocks l r).over [] later)
    (moments-elsewhere site written blocks lines (step blocks l r).after)

behind-elsewhere : (site : Site) (written : List (List ℕ)) (blocks : Blocks) (n : ℕ) (lines : List Line) (told : List ℕ) (c : Course)
    → moments_behind written blocks n lines told (course_elsewhere site c) ≡ moments_behind written blocks n lines told c
behind-elsewhere site written blocks n lines told c =
    ap (λ (later : List Moment). moment 0 (words_after written n told) c.after ∷ cond c.over [] later)
    (moments-elsewhere site written blocks lines c.after)

-- nor is it of what is seen inside a step
glances-alike : (site : Site) (written : List (List ℕ)) (gs : List Glance)
    → map (glance_moment written) (map (glance_elsewhere site) gs) ≡ map (glance_moment written) gs
glances-alike site written [] = refl
glances-alike site written (g ∷ gs) = ap (λ (later : List Moment). glance_moment written g ∷ later) (glances-alike site written gs)

added-elsewhere : (site : Site) (written : List (List ℕ)) (blocks : Blocks) (all : Bool) (ms : List Moment) (l : Line) (r : Running)
    → step_added written blocks all ms l (moved site r) ≡ step_added written blocks all ms l r
added-elsewhere site written blocks all ms l r =
    ap (λ (c : Course). added_with all ms (inside all (zone_lines (tag r) r.memory.heap.zone)
    (map (glance_moment written) (glances blocks l (moved site r))) (step_moment written l c)) (step_moment written l c))
    (step-elsewhere site blocks l r)
    ∙ ap (λ (seen : List Moment). added_with all ms (inside all (zone_lines (tag r) r.memory.heap.zone) seen
    (step_moment written l (step blocks l r))) (step_moment written l (step blocks l r)))
    (ap (map (glance_moment written)) (glances-elsewhere site blocks l r) ∙ glances-alike site written (glances blocks l r))

inside-elsewhere : (site : Site) (written : List (List ℕ)) (blocks : Blocks) (all : Bool) (lines : List Line) (ms : List Moment)
    (r : Running) → gathered_inside written blocks all ms lines (moved site r) ≡ gathered_inside written blocks all ms lines r
inside-elsewhere site written blocks all [] ms r = refl
inside-elsewhere site written blocks all (l ∷ lines) ms r =
    ap (λ (c : Course). unless_ended c (step_added written blocks all ms l (moved site r))
    (gathered_inside written blocks all (step_added written blocks all ms l (moved site r)) lines)) (step-elsewhere site blocks l r)
    ∙ ap (λ (more : List Moment). cond (step blocks l r).over more
    (gathered_inside written blocks all more lines (moved site (step blocks l r).after)))
    (added-elsewhere site written blocks all ms l r)
    ∙ ap (λ (later : List Moment). cond (step blocks l r).over (step_added written blocks all ms l r) later)
    (inside-elsewhere site written blocks all lines (step_added written blocks all ms l r) (step blocks l r).after)

drawn-elsewhere : (site : Site) (s : Strips) (written : List (List ℕ)) (blocks : Blocks) (n : ℕ) (lines : List Line) (told : List ℕ)
    (c : Course) → drawn_behind s written blocks n lines told (course_elsewhere site c) ≡ drawn_behind s written blocks n lines told c
drawn-elsewhere site s written blocks n lines told c = by_inside s.inside
  where
    first : List Moment
    first = moment 0 (words_after written n told) c.after ∷ []

    by_inside : (deep : Bool) → cond deep (inside_behind written blocks s.all n lines told (course_elsewhere site c))
        (gathered s.all [] (moments_behind written blocks n lines told (course_elsewhere site c)))
        ≡ cond deep (inside_behind written blocks s.all n lines told c) (gathered s.all [] (moments_behind written blocks n lines told c))
    by_inside true = ap (λ (later : List Moment). cond c.over first later)
        (inside-elsewhere site written blocks s.all lines first c.after)
    by_inside false = ap (gathered s.all []) (behind-elsewhere site written blocks n lines told c)

pub moments-alone : (resources : Resources) (n : ℕ) (parts : ScriptParts) (text : List ℕ) (from to : ℕ) (s : Strips) (r : Running)
    (site : Site) (lines later : List Line) (written : List (List ℕ)) (start : List ℕ) (result : Result (Vec ℕ Global) AllocError)
    → r ≡ launched_with resources n site → lines ≡ take from parts.steps
    → later ≡ take (to - from) (drop from parts.steps) → written ≡ source text → start ≡ launch_line n
    → IfOk result (λ out. out.items ≡ steps_svg s.part (drawn_behind s written parts.blocks from later
    (start ++ lines_told (course_of parts.blocks lines r).lines) (course_of parts.blocks lines r)))
    → IfOk result (λ out. out.items ≡ moments_svg s resources n parts text from to)
moments-alone resources n parts text from to s r site lines later written start result is first follows spelled begins shown =
    let c : Course = first_steps resources n parts from in
    let same : course_of parts.blocks lines r ≡ course_elsewhere site c =
    ap (λ (ls : List Line). course_of parts.blocks ls r) first
    ∙ launched_course resources r site n parts.blocks (take from parts.steps) is in
    let alike : drawn_behind s written parts.blocks from later (start ++ lines_told (course_of parts.blocks lines r).lines)
    (course_of parts.blocks lines r)
    ≡ drawn_behind s (source text) parts.blocks from (take (to - from) (drop from parts.steps))
    (launch_line n ++ lines_told c.lines) c =
    (λ i. drawn_behind s (spelled i) parts.blocks from (follows i) (begins i ++ lines_told (same i).lines) (same i))
    ∙ drawn-elsewhere site s (source text) parts.blocks from (take (to - from) (drop from parts.steps))
    (launch_line n ++ lines_told c.lines) c in
    subst (λ (what : List ℕ). IfOk result (λ out. out.items ≡ what))
    (ap (λ (ms : List Moment). steps_svg s.part ms) alike) shown
