use Rattle.zone_replay.proofs.Cited.{◌≡◌, ◌∙◌, ◌++◌, ℕ, Option, List, Vec, Result, sym, ap, subst, map, take, IfOk, Global, AllocError}
use Rattle.zone_replay.proofs.Cited.{Site, ScriptParts, launch_line, Resources, first_steps, lines_told, course_elsewhere, Bindings, Course}
use Rattle.zone_replay.proofs.Cited.{course_of, Running, launched_with, launched_course, widest, zone_text, view_line, BlockLine, Listing}
use Rattle.zone_replay.proofs.Cited.{Largest, step_told, zone_behind, lines_shown, listing_of, zone_shown, Details, Form}
use Rattle.script_text.specs.declared.script.Line as script
use Rattle.zone_drawing.specs.declared.style.Style.TheVariants as style
use Rattle.zone_replay.specs.declared.form.Form.TheVariants as form

-- A zone in a form, and the zone of an application alone.

pub columns-shown : (f : Form) (d : Details) (names : Bindings) (contents : ℕ → Option (List ℕ)) (ls items : List BlockLine) (w : ℕ)
    (x : Listing) (largest : Largest) (behind old new : List ℕ)
    → f ≡ form.Columns d → ls ≡ items → w ≡ widest (map view_line ls) → x ≡ listing_of names d (style.Columns w)
    → new ≡ old ++ zone_text x (map view_line ls) largest behind
    → new ≡ old ++ lines_shown f names contents (map view_line items) largest behind
columns-shown f d names contents ls items w x largest behind old new is same wide listed written =
    written ∙ ap (λ y. old ++ zone_text y (map view_line ls) largest behind)
    (listed ∙ ap (λ n. listing_of names d (style.Columns n)) wide)
    ∙ ap (λ l. old ++ lines_shown (form.Columns d) names contents (map view_line l) largest behind) same
    ∙ ap (λ g. old ++ lines_shown g names contents (map view_line items) largest behind) (sym is)

pub tabs-shown : (f : Form) (d : Details) (names : Bindings) (contents : ℕ → Option (List ℕ)) (ls items : List BlockLine) (x : Listing)
    (largest : Largest) (behind old new : List ℕ)
    → f ≡ form.Tabs d → ls ≡ items → x ≡ listing_of names d style.Tabs
    → new ≡ old ++ zone_text x (map view_line ls) largest behind
    → new ≡ old ++ lines_shown f names contents (map view_line items) largest behind
tabs-shown f d names contents ls items x largest behind old new is same listed written =
    written ∙ ap (λ y. old ++ zone_text y (map view_line ls) largest behind) listed
    ∙ ap (λ l. old ++ lines_shown (form.Tabs d) names contents (map view_line l) largest behind) same
    ∙ ap (λ g. old ++ lines_shown g names contents (map view_line items) largest behind) (sym is)

-- where the partition lies is no matter
pub shown-alone : (f : Form) (resources : Resources) (n : ℕ) (parts : ScriptParts) (steps : ℕ) (r : Running) (site : Site)
    (lines : List script.Line) (start : List ℕ) (result : Result (Vec ℕ Global) AllocError)
    → r ≡ launched_with resources n site → lines ≡ take steps parts.steps → start ≡ launch_line n
    → IfOk result (λ text. text.items ≡ zone_shown f (course_of parts.blocks lines r).after
    (step_told (start ++ lines_told (course_of parts.blocks lines r).lines)))
    → IfOk result (λ text. text.items ≡ zone_behind f resources n parts steps)
shown-alone f resources n parts steps r site lines start result is first begins shown =
    let c : Course = first_steps resources n parts steps in
    let same : course_of parts.blocks lines r ≡ course_elsewhere site c =
    ap (λ (ls : List script.Line). course_of parts.blocks ls r) first
    ∙ launched_course resources r site n parts.blocks (take steps parts.steps) is in
    let alike : zone_shown f (course_of parts.blocks lines r).after
    (step_told (start ++ lines_told (course_of parts.blocks lines r).lines)) ≡ zone_behind f resources n parts steps =
    (λ i. zone_shown f (same i).after (step_told (begins i ++ lines_told (same i).lines))) in
    subst (λ (what : List ℕ). IfOk result (λ text. text.items ≡ what)) alike shown
