-- What a walk of `src/raw.rt` has of its parameters at exit, and what its clauses say there. Assumes `Logic`.
use Rattle.raw_region.proofs.Cited.{List, [], ◌∷◌, ℕ}
use base.Logic.{emp}
use contract.Monad.{fact, fact_i}
use denote.Signature.{Slot}
use denote.Triple.Clauses.{Ended}
use denote.Triple.End.{Kepts}
use denote.Triple.Walked.{Stays, stay_dropped}
use seplogic.Ra.Ura.{Ura}
use types.Kit.{Goal, Item, Step, raw, use0}
use types.Logic.{Logic}

abbrev stays : {n : ℕ} (ss : List (Slot n)) (ks : Kepts ss) → Stays ss ks
stays [] ks = tt
stays (s ∷ ss) ks = (stay_dropped s ks.0, stays ss ks.1)

-- nothing is had of any parameter
abbrev pub all_gone : (f : Ended) → Stays f.signature.params f.kept
all_gone f = stays f.signature.params f.kept

-- what a clause says stands in the context
pub shown : {M : Type 1} {𝓤 : Ura M} (𝓛 : Logic 𝓤) {K : Type 0} {Γ : List (Item 𝓤)} {G : Goal 𝓤 𝓛.H} (φ : Type 0) → φ
    → Step K 𝓛 (raw (fact 𝓤 φ) ∷ Γ) G Γ G
shown {𝓤 = 𝓤} 𝓛 φ x = use0 𝓛 (raw (fact 𝓤 φ)) (fact_i 𝓤 φ (emp 𝓤) x)
