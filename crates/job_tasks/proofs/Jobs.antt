-- A job is read, and then it is run.
use Rattle.job_tasks.proofs.Cited.{◌≡◌, ◌∷◌, ◌∙◌, ℕ, List, [], Option, ap, subst, Message, Access, Read, and_then, Stops, GivenSource}
use Rattle.job_tasks.proofs.Cited.{nothing_given, with_inputs, reads_of, system_path, IsStop, sources_unless, Job, Errand, IsSized}
use Rattle.job_tasks.proofs.Cited.{IsUnnamed, Stated, Taken, reads_for, sources_for, Leaves, IsUnleft, Runs, IsStopped, Unnamed, Unleft}
use Rattle.job_tasks.proofs.Cited.{one_more, stops_from}
use Rattle.job_tasks.specs.Running.{Ungathered}

-- the job's text was read, and then what its lines name
pub both_read : (path : List ℕ) (stated : Stated) (texts : List (List (List ℕ))) (a b : Option (List Access))
    → b ≡ and_then a (Read path stated.text ∷ [])
    → and_then b (reads_of stated.lines.inputs texts) ≡ and_then a (reads_for path stated texts)
both_read path stated texts a b first = ap (λ x. and_then x (reads_of stated.lines.inputs texts)) first
    ∙ one_more a (Read path stated.text ∷ []) (reads_of stated.lines.inputs texts)

pub all_read : (path : List ℕ) (stated : Stated) (texts : List (List (List ℕ))) (a b d : Option (List Access))
    → b ≡ and_then a (Read path stated.text ∷ []) → d ≡ and_then b (reads_of stated.lines.inputs texts)
    → d ≡ and_then a (reads_for path stated texts)
all_read path stated texts a b d first second = second ∙ both_read path stated texts a b first

pub ungathered : (errand : Errand) (h k : Option (List ℕ)) (stated : Stated) (texts : List (List (List ℕ)))
    (a b d : Option (List Access)) (message : Message) → k ≡ h → b ≡ and_then a (Read errand.job.now stated.text ∷ [])
    → Stops (and_then b (reads_of stated.lines.inputs texts)) d message
    → IsStop (with_inputs nothing_given stated.lines.inputs texts) message → IsStopped errand h k a d message
ungathered errand h k stated texts a b d message silent first second stops =
    Ungathered stated texts silent (stops_from _ _ d message (both_read errand.job.now stated texts a b first) second) stops

pub unleft : (errand : Errand) (system : List ℕ) (h k : Option (List ℕ)) (t : Taken) (job : Job) (scripts : List (List ℕ))
    (sources : List GivenSource) (a b d e : Option (List Access)) (message : Message)
    → IsSized errand.sizes.items t.job job → scripts ≡ t.scripts → sources ≡ t.sources
    → system ≡ system_path t.stated.lines.inputs
    → b ≡ and_then a (Read errand.job.now t.stated.text ∷ []) → d ≡ and_then b (reads_of t.stated.lines.inputs t.texts)
    → IsUnleft system errand job scripts (sources_unless errand.bare sources) h k d e message
    → IsStopped errand h k a e message
unleft errand system h k t job scripts sources a b d e message sized told from is first second u =
    let before : Option (List Access) = and_then a (reads_for errand.job.now t.stated t.texts) in
    Unleft t job sized (subst (λ s. IsUnleft s errand job t.scripts (sources_for errand t) h k before e message) is
    (subst (λ x. IsUnleft system errand job t.scripts (sources_for errand t) h k x e message)
    (all_read errand.job.now t.stated t.texts a b d first second)
    (subst (λ ts. IsUnleft system errand job ts (sources_for errand t) h k d e message) told
    (subst (λ ss. IsUnleft system errand job scripts (sources_unless errand.bare ss) h k d e message) from u))))

pub unnamed : (errand : Errand) (h k : Option (List ℕ)) (t : Taken) (a b d : Option (List Access)) (message : Message)
    → k ≡ h → b ≡ and_then a (Read errand.job.now t.stated.text ∷ []) → d ≡ and_then b (reads_of t.stated.lines.inputs t.texts)
    → IsUnnamed errand.job.now errand.sizes.items t.job message → IsStopped errand h k a d message
unnamed errand h k t a b d message silent first second u =
    Unnamed t silent (all_read errand.job.now t.stated t.texts a b d first second) u

pub runs : (errand : Errand) (h k : Option (List ℕ)) (t : Taken) (job : Job) (scripts : List (List ℕ))
    (sources : List GivenSource) (a b d e : Option (List Access)) → IsSized errand.sizes.items t.job job
    → scripts ≡ t.scripts → sources ≡ t.sources → b ≡ and_then a (Read errand.job.now t.stated.text ∷ [])
    → d ≡ and_then b (reads_of t.stated.lines.inputs t.texts)
    → Leaves errand job scripts (sources_unless errand.bare sources) h k d e → Runs errand h k a e
runs errand h k t job scripts sources a b d e sized told from first second left = (
  t,
  job,
  sized,
  subst (λ x. Leaves errand job t.scripts (sources_for errand t) h k x e)
      (all_read errand.job.now t.stated t.texts a b d first second)
      (subst (λ ts. Leaves errand job ts (sources_for errand t) h k d e) told
      (subst (λ ss. Leaves errand job scripts (sources_unless errand.bare ss) h k d e) from left)),
)
