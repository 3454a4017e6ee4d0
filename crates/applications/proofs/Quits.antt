use Rattle.applications.proofs.Cited.{◌≡◌, ◌∙◌, ◌≤◌, ◌+◌, ◌++◌, ◌||◌, arith, zero, suc, ℕ, Bool, true, false, refl, sym, ap, List, [], ◌∷◌}
use Rattle.applications.proofs.Cited.{cond, length, take, Option, Some, None, nat_lt, OsErr, NO_ERR, Site, Memory, ScriptParts, Line}
use Rattle.applications.proofs.Cited.{launch_line, Split, OpenFile, Resources, Managers, is_system, handles_of, closed, update, FilesClosed}
use Rattle.applications.proofs.Cited.{updated_or, update_code, left_file, first_code, last_opened, leave_files, releases-place, Running}
use Rattle.applications.proofs.Cited.{launched_with, launched, own_resources, nowhere, managers_of, last_code, is_fatal, Course, course_of}
use Rattle.applications.proofs.Cited.{lines_told, Ending, alone, quits, ending_of, first_steps, run_alone, end_told, files_after, has_quit}
use Rattle.applications.proofs.Cited.{left_after, stops, heap_alone, Came, exit_of, end_by, end_if, has_ended, left_if, Exit, Quits, Stops}
use Rattle.applications.proofs.Cited.{moved, course_elsewhere}
use Rattle.res_calls.proofs.Walks.Place.{moved as managers_moved}
use Rattle.applications.proofs.Elsewhere.{launched-elsewhere, launched_course}

-- How an application ends, which doesn't hang on where its partition lies, and what it gives alone.

-- a file is left elsewhere
left-elsewhere : (site : Site) (at : Split OpenFile) (s : Managers)
    → left_file at (managers_moved site s) ≡ managers_moved site (left_file at s)
left-elsewhere site at s = ap (λ (m : Memory). let left : Managers = record {
  memory = m;
  resources = closed at (updated_or (update s.memory.heap at s.resources) s.resources);
} in left) (releases-place site (handles_of at.here.map.references) s.memory)

abbrev left_moved : Site → FilesClosed → FilesClosed
left_moved site l = record { code = l.code; after = managers_moved site l.after }

leave-elsewhere : (site : Site) (chain : List OpenFile) (s : Managers)
    → leave_files chain (managers_moved site s) ≡ left_moved site (leave_files chain s)
leave-elsewhere site [] s = refl
leave-elsewhere site (f ∷ older) s = by_system
    (ap (leave_files older) (left-elsewhere site (last_opened f older) s)
    ∙ leave-elsewhere site older (left_file (last_opened f older) s)) (is_system f)
  where
    at : Split OpenFile
    at = last_opened f older

    code : OsErr
    code = update_code (update s.memory.heap at s.resources)

    first : FilesClosed → FilesClosed
    first rest = record { code = first_code code rest.code; after = rest.after }

    by_system : leave_files older (left_file at (managers_moved site s))
        ≡ left_moved site (leave_files older (left_file at s)) → (t : Bool)
        → cond t (record { code = NO_ERR; after = managers_moved site s })
        (first (leave_files older (left_file at (managers_moved site s))))
        ≡ left_moved site (cond t (record { code = NO_ERR; after = s }) (first (leave_files older (left_file at s))))
    by_system behind true = refl
    by_system behind false = ap first behind

-- a quit comes to the same elsewhere
quits-elsewhere : (site : Site) (r : Running) → quits (moved site r) ≡ quits r
quits-elsewhere site r = ap (λ (l : FilesClosed). let e : Ending = record {
  code = l.code;
  files = l.after.resources.files;
} in e) (leave-elsewhere site r.resources.chain (managers_of r))

-- and so does what it leaves
quit-elsewhere : (site : Site) (r : Running) → has_quit (moved site r) ≡ moved site (has_quit r)
quit-elsewhere site r = ap (λ (l : FilesClosed). let q : Running = record r {
  memory = l.after.memory;
  resources = l.after.resources;
} in q) (leave-elsewhere site r.resources.chain (managers_of r))

pub end-elsewhere : (site : Site) (exit : Option Exit) (r : Running) → end_by exit (moved site r) ≡ end_by exit r
end-elsewhere site None r = quits-elsewhere site r
end-elsewhere site (Some Quits) r = quits-elsewhere site r
end-elsewhere site (Some Stops) r = refl

-- an application that has quit lies where it lay
pub ended-elsewhere : (site : Site) (exit : Option Exit) (r : Running)
    → has_ended exit (moved site r) ≡ moved site (has_ended exit r)
ended-elsewhere site None r = quit-elsewhere site r
ended-elsewhere site (Some Quits) r = quit-elsewhere site r
ended-elsewhere site (Some Stops) r = refl

-- and so does any end
pub end_if-elsewhere : (site : Site) (exit : Option Exit) (asked : Bool) (r : Running)
    → end_if exit asked (moved site r) ≡ end_if exit asked r
end_if-elsewhere site None true r = ap Some (quits-elsewhere site r)
end_if-elsewhere site None false r = refl
end_if-elsewhere site (Some Quits) asked r = ap Some (quits-elsewhere site r)
end_if-elsewhere site (Some Stops) asked r = refl

-- the end that a course comes to is the one that it tells
pub ending-told : (asked : Bool) (c : Course) → end_if (exit_of c) asked c.after ≡ ending_of asked c
ending-told asked c = by_over c.over (is_fatal (last_code c.told))
  where
    by_over : (over fatal : Bool)
        → end_if (cond over (Some (cond fatal Stops Quits)) None) asked c.after
        ≡ cond over (Some (cond fatal (end_by (Some Stops) c.after) (quits c.after)))
        (cond asked (Some (quits c.after)) None)
    by_over true true = refl
    by_over true false = refl
    by_over false fatal = refl

-- the application that a course comes to is the one that it leaves
left-told : (asked : Bool) (c : Course) → left_if (exit_of c) asked c.after ≡ left_after asked c
left-told asked c = by_over c.over (is_fatal (last_code c.told))
  where
    by_over : (over fatal : Bool)
        → left_if (cond over (Some (cond fatal Stops Quits)) None) asked c.after
        ≡ cond over (cond fatal c.after (has_quit c.after)) (cond asked (has_quit c.after) c.after)
    by_over true true = refl
    by_over true false = refl
    by_over false fatal = refl

-- what an application comes to that takes lines, and ends where one ends it or where it is asked to
pub gives_so : (asked : Bool) (c : Course) (exit : Option Exit) (start text whole : List ℕ) (mid after : Running)
    → exit ≡ exit_of c → Came c start text mid → whole ≡ text ++ end_told (end_if exit asked mid)
    → after ≡ left_if exit asked mid
    → (whole ≡ start ++ lines_told c.lines ++ end_told (ending_of asked c)) × (after ≡ left_after asked c)
gives_so asked c exit start text whole mid after ends came said left = (
  said ∙ ap (λ (x : Option Exit). text ++ end_told (end_if x asked mid)) ends
      ∙ ap (λ (r : Running). text ++ end_told (end_if (exit_of c) asked r)) came.1
      ∙ ap (λ (e : Option Ending). text ++ end_told e) (ending-told asked c)
      ∙ ap (λ (x : List ℕ). x ++ end_told (ending_of asked c)) came.0,
  left ∙ ap (λ (x : Option Exit). left_if x asked mid) ends ∙ ap (left_if (exit_of c) asked) came.1
      ∙ left-told asked c,
)

-- a course elsewhere ends alike, and leaves the same application there
ending-elsewhere : (site : Site) (asked : Bool) (c : Course)
    → ending_of asked (course_elsewhere site c) ≡ ending_of asked c
ending-elsewhere site asked c =
    sym (ending-told asked (course_elsewhere site c)) ∙ end_if-elsewhere site (exit_of c) asked c.after
    ∙ ending-told asked c

left-elsewhere_after : (site : Site) (asked : Bool) (c : Course)
    → left_after asked (course_elsewhere site c) ≡ moved site (left_after asked c)
left-elsewhere_after site asked c = by_over c.over (is_fatal (last_code c.told)) asked
  where
    by_over : (over fatal asks : Bool)
        → cond over (cond fatal (moved site c.after) (has_quit (moved site c.after)))
        (cond asks (has_quit (moved site c.after)) (moved site c.after))
        ≡ moved site (cond over (cond fatal c.after (has_quit c.after)) (cond asks (has_quit c.after) c.after))
    by_over true true asks = refl
    by_over true false asks = quit-elsewhere site c.after
    by_over false fatal true = quit-elsewhere site c.after
    by_over false fatal false = refl

-- the files that it has then are those of its end
left-files : (asked : Bool) (c : Course) → (left_after asked c).resources.files ≡ files_after (ending_of asked c) c.after
left-files asked c = by_over c.over (is_fatal (last_code c.told)) asked
  where
    by_over : (over fatal asks : Bool)
        → (cond over (cond fatal c.after (has_quit c.after)) (cond asks (has_quit c.after) c.after)).resources.files
        ≡ files_after (cond over (Some (cond fatal (stops c.after) (quits c.after)))
        (cond asks (Some (quits c.after)) None)) c.after
    by_over true true asks = refl
    by_over true false asks = refl
    by_over false fatal true = refl
    by_over false fatal false = refl

-- an application lies where it was launched
pub launched-lies : (resources : Resources) (n : ℕ) (r : Running) (site : Site) → r ≡ launched_with resources n site
    → r.memory.window ≡ site
launched-lies resources n r site is = ap (λ (x : Running). x.memory.window) (is ∙ launched-elsewhere resources n site)

-- what came of an application in a fresh zone is what it gives alone
module _ (resources : Resources) (n : ℕ) (script : ScriptParts) (steps : ℕ) (quit : Bool) where
  abbrev pub c : Course
  c = first_steps resources n script steps

  abbrev pub asks : Bool
  asks = nat_lt (length script.steps) steps || quit

  pub record Gave (r after : Running) (start whole : List ℕ) : Type 0 where
    pub transcript : whole ≡ (alone resources n script steps quit).transcript
    pub files : after.resources.files ≡ (alone resources n script steps quit).files
    pub heap : after.memory.heap ≡ heap_alone resources n script steps quit

  pub given_alone : (r after : Running) (site : Site) (lines : List Line) (asked : Bool) (start whole : List ℕ)
      → r ≡ launched_with resources n site → start ≡ launch_line n → asked ≡ asks → lines ≡ take steps script.steps
      → whole ≡ start ++ lines_told (course_of script.blocks lines r).lines ++ end_told
      (ending_of asked (course_of script.blocks lines r))
      → after ≡ left_after asked (course_of script.blocks lines r) → Gave r after start whole
  given_alone r after site lines asked start whole is begins asked_is first said left =
      let same : course_of script.blocks lines r ≡ course_elsewhere site c =
      ap (λ (ls : List Line). course_of script.blocks ls r) first ∙ launched_course resources r site n script.blocks
      (take steps script.steps) is in
      let went : after ≡ moved site (left_after asks c) =
      left ∙ (λ i. left_after (asked_is i) (same i)) ∙ left-elsewhere_after site asks c in
      record {
        transcript = said ∙ (λ i. begins i ++ lines_told (same i).lines ++ end_told (ending_of (asked_is i) (same i)))
            ∙ ap (λ (e : Option Ending). launch_line n ++ lines_told c.lines ++ end_told e) (ending-elsewhere site asks c);
        files = ap (λ (x : Running). x.resources.files) went ∙ left-files asks c;
        heap = ap (λ (x : Running). x.memory.heap) went;
      }

-- the first lines of a list, more than it has, are all its lines
take-past : (n : ℕ) (lines : List Line) → length lines ≤ n → take n lines ≡ lines
take-past zero [] fits = refl
take-past zero (l ∷ lines) fits = absurd (omega (arith, fits))
take-past (suc n) [] fits = refl
take-past (suc n) (l ∷ lines) fits = ap (λ (x : List Line). l ∷ x) (take-past n lines (omega (arith, fits)))

-- a script alone takes all its steps
pub all_steps : (n : ℕ) (script : ScriptParts)
    → first_steps own_resources n script (length script.steps + 1) ≡ run_alone n script
all_steps n script = ap (λ (lines : List Line). course_of script.blocks lines (launched n nowhere))
    (take-past (length script.steps + 1) script.steps (omega arith))
