-- A job is read and run, and then the zone of one of its applications is shown.
use Rattle.job_tasks.proofs.Cited.{◌≡◌, ◌∙◌, ◌∷◌, ◌<◌, ℕ, true, List, [], Option, Some, None, Result, Ok, refl, sym, ap, subst, length, map}
use Rattle.job_tasks.proofs.Cited.{slice_get, slice_index_or, is_ok, Bor, IsItemAt, slice_get-map, slice_get_read, slice_get_past, OsErr}
use Rattle.job_tasks.proofs.Cited.{Content, Resources, App, Job, AppOutcome, leaves_seen, told_seen, Launched, AppResult, Outcome, Law}
use Rattle.job_tasks.proofs.Cited.{OfEachApp, start_with, has_started, Printed, JobZone, Access, Read, and_then, Stops, Delivers}
use Rattle.job_tasks.proofs.Cited.{IsUndelivered, Message, nothing_given, with_inputs, reads_of, system_path, IsStop, Stated, Taken}
use Rattle.job_tasks.proofs.Cited.{number_of, launched_of, launched_at, launched_with, launched_as, IsShown, IsZoneLeft, IsJobZone, Sees}
use Rattle.job_tasks.proofs.Cited.{IsZoneFault, IsUnseen, Ungathered, NotThere, Shows, IsUnshown, Unprinted, stops_from}
use Rattle.std.proofs.Common.{option_map}
use Rattle.desk.specs.declared.outcome.Launched as leaving
use Rattle.job_tasks.proofs.Jobs.{both_read, all_read}

-- an application that was launched had resources with which it was launched
pub is_started : (P : Law) (system : Result Content OsErr) (apps : List App) (message : List AppResult) (i : ℕ) (app : App)
    (l : Launched) → slice_get apps i ≡ Some app → launched_at i message ≡ Some l → OfEachApp P system apps message
    → is_ok (start_with system app) ≡ true
is_started P system apps message i app l given is so = by_result (slice_get message i) refl is
  where
    by_result : (o : Option AppResult) → slice_get message i ≡ o → launched_of o ≡ Some l
        → is_ok (start_with system app) ≡ true
    by_result None here is = cc
    by_result (Some t) here is =
        let started = has_started P system apps message i app t l given here is so in
        ap (λ (r : Result Resources OsErr). is_ok r) started.1

-- what an application of a run left, by its number
launched-some : (ys : List AppOutcome) (i : ℕ) (x : AppOutcome) → i < length ys → x ≡ slice_index_or ys i x
    → launched_at i (map told_seen ys) ≡ option_map leaves_seen x.launched
launched-some ys i x lt is = ap launched_of
    (slice_get-map told_seen ys i ∙ ap (option_map told_seen) (slice_get_read ys (length ys) i x refl lt is))

lent : (o : Option (Bor leaving.Launched))
    → option_map (λ (l : Bor leaving.Launched). leaves_seen l.now) o
    ≡ option_map leaves_seen (option_map (λ (l : Bor leaving.Launched). l.now) o)
lent None = refl
lent (Some l) = refl

pub left_some : (ys zs : List AppOutcome) (i : ℕ) (x : AppOutcome) (o : Option (Bor leaving.Launched)) → zs ≡ ys
    → i < length zs → x ≡ slice_index_or zs i x → option_map (λ (l : Bor leaving.Launched). l.now) o ≡ x.launched
    → option_map (λ (l : Bor leaving.Launched). leaves_seen l.now) o ≡ launched_at i (map told_seen ys)
left_some ys zs i x o all lt is same = lent o ∙ ap (option_map leaves_seen) same ∙ sym (launched-some zs i x lt is)
    ∙ ap (λ (xs : List AppOutcome). launched_at i (map told_seen xs)) all

pub left_none : (ys zs : List AppOutcome) (i : ℕ) (r : Option (Bor AppOutcome)) → zs ≡ ys → IsItemAt zs i r → r ≡ None
    → launched_at i (map told_seen ys) ≡ None
left_none ys zs i r all item is = ap (λ (xs : List AppOutcome). launched_at i (map told_seen xs)) (sym all)
    ∙ ap launched_of
    (slice_get-map told_seen zs i
    ∙ ap (option_map told_seen) (slice_get_past zs i (subst (λ q. IsItemAt zs i q) is item).3))

-- an application of a job, by its number
pub app_there : (apps : List App) (i : ℕ) (app : App) → i < length apps → app ≡ slice_index_or apps i app
    → slice_get apps i ≡ Some app
app_there apps i app lt is = slice_get_read apps (length apps) i app refl lt is

-- the application of that name, and what it left
pub named_so : (name : List ℕ) (apps : List App) (message : List AppResult) (i : ℕ) (l : Launched)
    → Some i ≡ number_of name apps → Some l ≡ launched_at i message → launched_as name apps message ≡ Some (i, l)
named_so name apps message i l number is =
    subst (λ (o : Option ℕ). launched_with o message ≡ Some (i, l)) number
    (ap (λ (o : Option Launched). option_map (λ (l : Launched). (i, l)) o) (sym is))

-- the job's text was read, and then what its lines name
pub ungathered_zone : (asked : JobZone) (stated : Stated) (texts : List (List (List ℕ))) (a b d : Option (List Access))
    (message : Message) → b ≡ and_then a (Read asked.job.now stated.text ∷ [])
    → Stops (and_then b (reads_of stated.lines.inputs texts)) d message
    → IsStop (with_inputs nothing_given stated.lines.inputs texts) message → IsUnseen asked a d message
ungathered_zone asked stated texts a b d message first second stops =
    Ungathered stated texts (stops_from _ _ d message (both_read asked.job.now stated texts a b first) second) stops

pub not_there : (asked : JobZone) (system : List ℕ) (t : Taken) (a b d : Option (List Access)) (message : Message)
    → system ≡ system_path t.stated.lines.inputs → b ≡ and_then a (Read asked.job.now t.stated.text ∷ [])
    → d ≡ and_then b (reads_of t.stated.lines.inputs t.texts) → IsZoneFault system asked t.job message
    → IsUnseen asked a d message
not_there asked system t a b d message is first second fault =
    NotThere t (all_read asked.job.now t.stated t.texts a b d first second)
    (subst (λ s. IsZoneFault s asked t.job message) is fault)

pub sees : (asked : JobZone) (out : List ℕ) (t : Taken) (a b d : Option (List Access))
    → b ≡ and_then a (Read asked.job.now t.stated.text ∷ [])
    → d ≡ and_then b (reads_of t.stated.lines.inputs t.texts) → IsJobZone asked t.job out → Sees asked out a d
sees asked out t a b d first second zone =
    (t, zone, all_read asked.job.now t.stated t.texts a b d first second)

-- the zone was printed, or not to its end
pub shows : (asked : JobZone) (out sent : List ℕ) (p mid q : Option (List ℕ)) (old then new : Option (List Access))
    → mid ≡ p → sent ≡ out → Sees asked out old then → Delivers Printed sent mid q then new → Shows asked p q old new
shows asked out sent p mid q old then new silent all seen h = (
  out,
  then,
  seen,
  subst (λ x. Delivers Printed x p q then new) all
      (subst (λ x. Delivers Printed sent x q then new) silent h),
)

pub unprinted : (asked : JobZone) (out sent : List ℕ) (p mid q : Option (List ℕ)) (old then new : Option (List Access))
    (message : Message) → mid ≡ p → sent ≡ out → Sees asked out old then
    → IsUndelivered Printed sent mid q then new message → IsUnshown asked p q old new message
unprinted asked out sent p mid q old then new message silent all seen h =
    Unprinted out then seen (subst (λ x. IsUndelivered Printed x p q then new message) all
    (subst (λ x. IsUndelivered Printed sent x q then new message) silent h))
