-- A file that was read, and what was made of it.
use Rattle.fork_tasks.proofs.Cited.{◌≡◌, ◌∷◌, ℕ, List, [], Option, Ok, subst, made, Conversion, Target, Printed, NewFile, Access, Read}
use Rattle.fork_tasks.proofs.Cited.{and_then, Converts, IsUnconverted, Unmade, Delivers, IsUndelivered, Message, IsForkFault, IsQuiet}
use Rattle.fork_tasks.specs.Converting.{Undelivered}
use Rattle.fork_tasks.proofs.Faults.{loud_write}

-- nothing is said of what was printed where bytes were not delivered
pub quiet_undelivered : (target : Target) (bytes : List ℕ) (p mid q : Option (List ℕ)) (old new : Option (List Access))
    (message : Message) → IsUndelivered target bytes mid q old new message → IsQuiet p q message
quiet_undelivered Printed bytes p mid q old new message h = loud_write _ p q old new message h.1
quiet_undelivered (NewFile path) bytes p mid q old new message (same, (between, front, fault)) =
    loud_write _ p q between new message fault

-- nothing was made of the file's bytes
pub unmade : (c : Conversion) (bytes read : List ℕ) (p q : Option (List ℕ)) (old new : Option (List Access)) (message : Message)
    → q ≡ p → new ≡ and_then old (Read c.path.now read ∷ []) → bytes ≡ read
    → IsForkFault c.path.now (made c.work bytes) message → IsUnconverted c p q old new message
unmade c bytes read p q old new message silent is same fault =
    Unmade read silent is (subst (λ b. IsForkFault c.path.now (made c.work b) message) same fault)

-- what was made of them was not delivered
pub undelivered : (c : Conversion) (bytes read out sent : List ℕ) (p mid q : Option (List ℕ))
    (old then new : Option (List Access)) (message : Message) → mid ≡ p → then ≡ and_then old (Read c.path.now read ∷ [])
    → bytes ≡ read → sent ≡ out → made c.work bytes ≡ Ok out → IsUndelivered c.target sent mid q then new message
    → IsUnconverted c p q old new message
undelivered c bytes read out sent p mid q old then new message silent is same all made_so h =
    Undelivered read out (subst (λ b. made c.work b ≡ Ok out) same made_so)
    (subst (λ x. IsUndelivered c.target x p q (and_then old (Read c.path.now read ∷ [])) new message) all
    (subst (λ a. IsUndelivered c.target sent p q a new message) is
    (subst (λ x. IsUndelivered c.target sent x q then new message) silent h)))

-- what was made of them was delivered
pub converts : (c : Conversion) (bytes read out sent : List ℕ) (p mid q : Option (List ℕ))
    (old then new : Option (List Access)) → mid ≡ p → then ≡ and_then old (Read c.path.now read ∷ [])
    → bytes ≡ read → sent ≡ out → made c.work bytes ≡ Ok out → Delivers c.target sent mid q then new
    → Converts c p q old new
converts c bytes read out sent p mid q old then new silent is same all made_so h = (
  read,
  out,
  subst (λ b. made c.work b ≡ Ok out) same made_so,
  subst (λ x. Delivers c.target x p q (and_then old (Read c.path.now read ∷ [])) new) all
      (subst (λ a. Delivers c.target sent p q a new) is
      (subst (λ x. Delivers c.target sent x q then new) silent h)),
)
