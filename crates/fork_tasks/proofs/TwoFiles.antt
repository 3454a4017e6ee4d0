-- Two files that were read, and what was made of them.
use Rattle.fork_tasks.proofs.Cited.{◌≡◌, ◌∷◌, ◌∙◌, ℕ, Bool, List, [], Option, Result, refl, sym, ap, subst, FileFault, Place, PairFault}
use Rattle.fork_tasks.proofs.Cited.{Gives, combined, StopsPair, Combination, Ending, Access, Read, and_then, IsUnread, IsPairFault}
use Rattle.fork_tasks.proofs.Cited.{pair_message, names_of, reads_both, Combines, IsUncombined, SecondUnread, Delivers, IsUndelivered}
use Rattle.fork_tasks.proofs.Cited.{ending_of, Message}
use Rattle.fork_commands.specs.declared.pair.PairFault.TheVariants as pair_fault
use Rattle.fork_tasks.specs.Combining.{Unmade}
use Rattle.fork_tasks.specs.Combining.{Undelivered}
use Rattle.fork_tasks.proofs.Accesses.{one_more}

-- the fault of the bytes is reported with the path of the file
pub pair_stopped : {A : Type 0} (first second : List ℕ) (fault : PairFault) (wanted : Result A (Place × FileFault))
    (message : Message) → StopsPair fault wanted → message ≡ pair_message first second fault
    → IsPairFault first second wanted message
pair_stopped first second pair_fault.HostMemory wanted message stops is =
    subst (λ m. IsPairFault first second wanted m) (sym is) tt
pair_stopped first second (pair_fault.File place fault) wanted message stops is =
    subst (λ m. IsPairFault first second wanted m) (sym is) (place, refl, stops)

-- one file was read, and then the other
pub both : (c : Combination) (first second : List ℕ) (old mid new : Option (List Access))
    → mid ≡ and_then old (Read c.first.now first ∷ []) → new ≡ and_then mid (Read c.second.now second ∷ [])
    → new ≡ and_then old (reads_both c first second)
both c first second old mid new one two =
    two ∙ ap (λ a. and_then a (Read c.second.now second ∷ [])) one
    ∙ one_more old (Read c.first.now first ∷ []) (Read c.second.now second ∷ [])

-- the second file can't be read
pub second_unread : (c : Combination) (first : List ℕ) (p mid q : Option (List ℕ)) (old then new : Option (List Access))
    (message : Message) → mid ≡ p → q ≡ mid → then ≡ and_then old (Read c.first.now first ∷ [])
    → IsUnread c.second.now then new message → IsUncombined c p q old new message
second_unread c first p mid q old then new message silent quiet is fault =
    SecondUnread first (quiet ∙ silent) (subst (λ a. IsUnread c.second.now a new message) is fault)

-- nothing was made of the bytes
pub unmade : (c : Combination) (a b first second : List ℕ) (p q : Option (List ℕ)) (old new : Option (List Access))
    (message : Message) → q ≡ p → new ≡ and_then old (reads_both c first second) → a ≡ first → b ≡ second
    → IsPairFault c.first.now c.second.now (combined c.work a b) message → IsUncombined c p q old new message
unmade c a b first second p q old new message silent is one two fault =
    Unmade first second silent is
    (subst (λ x. IsPairFault c.first.now c.second.now (combined c.work first x) message) two
    (subst (λ x. IsPairFault c.first.now c.second.now (combined c.work x b) message) one fault))

-- what was made is made of the bytes that were read
made_of : (c : Combination) (a b first second out : List ℕ) (differs : Bool) → a ≡ first → b ≡ second
    → Gives (names_of c) (combined c.work a b) out differs → Gives (names_of c) (combined c.work first second) out differs
made_of c a b first second out differs one two is =
    subst (λ x. Gives (names_of c) (combined c.work first x) out differs) two
    (subst (λ x. Gives (names_of c) (combined c.work x b) out differs) one is)

-- what was made of them was not delivered
pub undelivered : (c : Combination) (a b first second out sent : List ℕ) (differs : Bool) (p mid q : Option (List ℕ))
    (old then new : Option (List Access)) (message : Message) → mid ≡ p
    → then ≡ and_then old (reads_both c first second) → a ≡ first → b ≡ second → sent ≡ out
    → Gives (names_of c) (combined c.work a b) out differs → IsUndelivered c.target sent mid q then new message
    → IsUncombined c p q old new message
undelivered c a b first second out sent differs p mid q old then new message silent is one two all made_so h =
    Undelivered first second out differs (made_of c a b first second out differs one two made_so)
    (subst (λ x. IsUndelivered c.target x p q (and_then old (reads_both c first second)) new message) all
    (subst (λ x. IsUndelivered c.target sent p q x new message) is
    (subst (λ x. IsUndelivered c.target sent x q then new message) silent h)))

-- what was made of them was delivered
pub combines : (c : Combination) (ending : Ending) (a b first second out sent : List ℕ) (differs : Bool)
    (p mid q : Option (List ℕ)) (old then new : Option (List Access)) → mid ≡ p
    → then ≡ and_then old (reads_both c first second) → a ≡ first → b ≡ second → sent ≡ out
    → Gives (names_of c) (combined c.work a b) out differs → ending ≡ ending_of differs → Delivers c.target sent mid q then new
    → Combines c ending p q old new
combines c ending a b first second out sent differs p mid q old then new silent is one two all made_so end h = (
  first,
  second,
  out,
  differs,
  made_of c a b first second out differs one two made_so,
  end,
  subst (λ x. Delivers c.target x p q (and_then old (reads_both c first second)) new) all
      (subst (λ x. Delivers c.target sent p q x new) is
      (subst (λ x. Delivers c.target sent x q then new) silent h)),
)
