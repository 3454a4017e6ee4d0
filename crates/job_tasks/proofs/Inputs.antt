-- The lines of a job, gathered one after the other.
use Rattle.job_tasks.proofs.Cited.{◌≡◌, ◌∷◌, ◌++◌, ◌∙◌, ℕ, List, [], Option, Result, Ok, Err, refl, sym, ap, subst, append_assoc}
use Rattle.job_tasks.proofs.Cited.{append-nil, Input, ToolFault, message_of, Access, and_then, reads_at, Stops, nothing_given, with_input}
use Rattle.job_tasks.proofs.Cited.{with_inputs, given_then, paths_of, reads_of, ReadsOf, IsStop, IsGiven, none, one_more, ends_err}
use Rattle.job_tasks.proofs.Cited.{stops_from}
use Rattle.job_tasks.specs.Gathering.{Given}
use Rattle.job_tasks.proofs.Stops.{stop_then, stop_given}

-- Of these lines all but the rest are gathered: with the texts so far, the whole is what the rest gives.
pub record Come (inputs rest : List Input) (old new : Option (List Access)) (given : Given) : Type 0 where
  pub texts : List (List (List ℕ))
  pub reads : (more : List (List (List ℕ))) → and_then new (reads_of rest more) ≡ and_then old (reads_of inputs (texts ++ more))
  pub gives : (more : List (List (List ℕ)))
      → with_inputs nothing_given inputs (texts ++ more) ≡ with_inputs given rest more

pub begun : (inputs : List Input) (a : Option (List Access)) → Come inputs inputs a a nothing_given
begun inputs a = record { texts = []; reads = λ more. refl; gives = λ more. refl }

last : {X : Type 0} (xs : List X) (x : X) (more : List X) → (xs ++ x ∷ []) ++ more ≡ xs ++ x ∷ more
last xs x more = append_assoc xs (x ∷ []) more

pub further : (inputs rest : List Input) (i : Input) (old mid new : Option (List Access)) (given next : Given)
    (t : List (List ℕ)) → Come inputs (i ∷ rest) old mid given → new ≡ and_then mid (reads_at (paths_of i) t)
    → with_input given i t ≡ Ok next → Come inputs rest old new next
further inputs rest i old mid new given next t come read is = record {
  texts = come.texts ++ t ∷ [];
  reads = λ more. ap (λ a. and_then a (reads_of rest more)) read
      ∙ one_more mid (reads_at (paths_of i) t) (reads_of rest more)
      ∙ come.reads (t ∷ more)
      ∙ ap (λ ts. and_then old (reads_of inputs ts)) (sym (last come.texts t more));
  gives = λ more. ap (λ ts. with_inputs nothing_given inputs ts) (last come.texts t more)
      ∙ come.gives (t ∷ more)
      ∙ ap (λ r. given_then r (λ g. with_inputs g rest more)) is;
}

pub stopped : {X : Type 0} (view : X → Given) (inputs rest : List Input) (i : Input) (old mid new : Option (List Access))
    (given : Given) (t : List (List ℕ)) (result : Result X ToolFault) (fault : ToolFault)
    → Come inputs (i ∷ rest) old mid given → Stops (and_then mid (reads_at (paths_of i) t)) new (message_of fault)
    → result ≡ Err fault
    → IsStop (with_input given i t) (message_of fault)
    → ReadsOf inputs old new result (λ texts. IsGiven view (with_inputs nothing_given inputs texts) result)
stopped view inputs rest i old mid new given t result fault come read is stops = (
  come.texts ++ t ∷ [],
  ends_err (and_then old (reads_of inputs (come.texts ++ t ∷ []))) new result fault is
      (stops_from _ _ new (message_of fault)
      (ap (λ xs. and_then mid xs) (sym (append-nil (reads_at (paths_of i) t))) ∙ come.reads (t ∷ [])) read),
  stop_given view (with_inputs nothing_given inputs (come.texts ++ t ∷ [])) result fault is
      (subst (λ r. IsStop r (message_of fault)) (sym (come.gives (t ∷ [])))
      (stop_then (with_input given i t) (λ g. with_inputs g rest []) (message_of fault) stops)),
)

pub ended : (inputs : List Input) (old new : Option (List Access)) (given : Given) → Come inputs [] old new given
    → (texts : List (List (List ℕ))) × (new ≡ and_then old (reads_of inputs texts))
    × (with_inputs nothing_given inputs texts ≡ Ok given)
ended inputs old new given come = (
  come.texts,
  none new ∙ come.reads [] ∙ ap (λ ts. and_then old (reads_of inputs ts)) (append-nil come.texts),
  ap (λ ts. with_inputs nothing_given inputs ts) (sym (append-nil come.texts)) ∙ come.gives [],
)
