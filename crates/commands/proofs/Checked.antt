-- What a survey asks for, done of one path.
use Rattle.commands.proofs.Cited.{◌≡◌, ℕ, List, Option, false, inl, inr, refl, subst, Ending, Task, Access, Looks, IsUnseen, ChecksOne}
use Rattle.commands.proofs.Cited.{IsOneUnchecked, Message, Lists, IsFolderSurveyed, IsUnlisted}
use Rattle.job_tasks.specs.declared.tasks.Work.TheVariants as work

-- the host was asked whether a folder lies at the path, which nothing shows
still_checked : (path : List ℕ) (ending : Ending) (p mid q : Option (List ℕ)) (old then new : Option (List Access))
    → mid ≡ p → then ≡ old → ChecksOne path ending mid q then new → ChecksOne path ending p q old new
still_checked path ending p mid q old then new quiet same h =
    subst (λ a. ChecksOne path ending p q a new) same (subst (λ x. ChecksOne path ending x q then new) quiet h)

still_unchecked : (path : List ℕ) (p mid q : Option (List ℕ)) (old then new : Option (List Access)) (message : Message)
    → mid ≡ p → then ≡ old → IsOneUnchecked path mid q then new message → IsOneUnchecked path p q old new message
still_unchecked path p mid q old then new message quiet same h =
    subst (λ a. IsOneUnchecked path p q a new message) same
    (subst (λ x. IsOneUnchecked path x q then new message) quiet h)

-- no folder does, and the file was looked at
pub file_checked : (task : Task) (ending : Ending) (p mid q : Option (List ℕ)) (old then new : Option (List Access))
    → mid ≡ p → then ≡ old → task.work ≡ work.Check → Looks task ending mid q then new
    → ChecksOne task.path.now ending p q old new
file_checked task ending p mid q old then new quiet same is h =
    still_checked task.path.now ending p mid q old then new quiet same (inl (task, is, refl, h))

pub file_unchecked : (task : Task) (p mid q : Option (List ℕ)) (old then new : Option (List Access)) (message : Message)
    → mid ≡ p → then ≡ old → task.work ≡ work.Check → IsUnseen task mid q then new message
    → IsOneUnchecked task.path.now p q old new message
file_unchecked task p mid q old then new message quiet same is h =
    still_unchecked task.path.now p mid q old then new message quiet same (inl (task, is, refl, h))

-- one does, and its lines were printed
pub folder_checked : (path : List ℕ) (ending : Ending) (p mid q : Option (List ℕ)) (old then new : Option (List Access))
    → mid ≡ p → then ≡ old → Lists (IsFolderSurveyed path) false ending mid q then new
    → ChecksOne path ending p q old new
folder_checked path ending p mid q old then new quiet same h =
    still_checked path ending p mid q old then new quiet same (inr h)

pub folder_unchecked : (path : List ℕ) (p mid q : Option (List ℕ)) (old then new : Option (List Access)) (message : Message)
    → mid ≡ p → then ≡ old → IsUnlisted (IsFolderSurveyed path) false mid q then new message
    → IsOneUnchecked path p q old new message
folder_unchecked path p mid q old then new message quiet same h =
    still_unchecked path p mid q old then new message quiet same (inr h)
