-- What is said of a file, by whether its fork has a content.
use Rattle.job_tasks.proofs.Cited.{◌≡◌, ◌++◌, ◌∙◌, ℕ, Bool, true, false, not, List, Ok, Err, Option, inl, inr, refl, sym, ap, subst, is_ok}
use Rattle.job_tasks.proofs.Cited.{codes, Content, FileFault, info_text, content_in, state_words, has_content, Spelling, Printed, Work}
use Rattle.job_tasks.proofs.Cited.{Access, IsUndelivered, Message, Usage, CannotRead, Script, Fork, CannotWrite, HostMemory, NotLaunched}
use Rattle.job_tasks.proofs.Cited.{Dump, listing, IsPrinted, IsFault, IsRefusal, described, IsDescription}
use Rattle.job_tasks.specs.declared.tasks.Work.TheVariants as work

pub of_content : (spelling : Spelling) (bytes info : List ℕ) (c : Content) → info_text bytes ≡ Ok info
    → content_in bytes ≡ Ok c → IsDescription spelling bytes (listing spelling info c)
of_content spelling bytes info c told has = (info, told, ap (described spelling info bytes) (sym has))

pub of_fault : (spelling : Spelling) (bytes info out : List ℕ) (fault : FileFault) → info_text bytes ≡ Ok info
    → content_in bytes ≡ Err fault → out ≡ info ++ codes "state " ++ state_words true bytes ++ codes "\n"
    → IsDescription spelling bytes out
of_fault spelling bytes info out fault told has is =
    (info, told, is ∙ ap (described spelling info bytes) (sym has))

pub has_one : (bytes : List ℕ) (c : Content) → content_in bytes ≡ Ok c → false ≡ not (has_content bytes)
has_one bytes c has = ap (λ r. not (is_ok r)) (sym has)

pub has_none : (bytes : List ℕ) (fault : FileFault) → content_in bytes ≡ Err fault → true ≡ not (has_content bytes)
has_none bytes fault has = ap (λ r. not (is_ok r)) (sym has)

-- what is printed was not printed to its end
pub refused_print : (w : Work) (path bytes out : List ℕ) (p q : Option (List ℕ)) (old new : Option (List Access))
    (message : Message) → IsPrinted w bytes out → IsUndelivered Printed out p q old new message
    → IsRefusal w path bytes p q old new message
refused_print w path bytes out p q old new (CannotWrite named) is h = ((out, is, h.0), h.1)
refused_print w path bytes out p q old new HostMemory is h = (inr (out, is, h.0), h.1)
refused_print w path bytes out p q old new (Usage text) is h =
    absurd (let no : Usage text ≡ CannotWrite (codes "-") = h.1.0 in cc)
refused_print w path bytes out p q old new (CannotRead named) is h =
    absurd (let no : CannotRead named ≡ CannotWrite (codes "-") = h.1.0 in cc)
refused_print w path bytes out p q old new (Script named line kind) is h =
    absurd (let no : Script named line kind ≡ CannotWrite (codes "-") = h.1.0 in cc)
refused_print w path bytes out p q old new (Fork named fault) is h =
    absurd (let no : Fork named fault ≡ CannotWrite (codes "-") = h.1.0 in cc)
refused_print w path bytes out p q old new (NotLaunched named app) is h =
    absurd (let no : NotLaunched named app ≡ CannotWrite (codes "-") = h.1.0 in cc)
refused_print w path bytes out p q old new (Dump named why) is h =
    absurd (let no : Dump named why ≡ CannotWrite (codes "-") = h.1.0 in cc)

-- the bytes are at fault, which is no fault of writing
no_writing : (w : Work) (path bytes named : List ℕ) → IsFault w path bytes (CannotWrite named) → ⊥
no_writing (work.Script size) path bytes named h = h
no_writing (work.Heap asked) path bytes named h = h
no_writing (work.Map spelling) path bytes named h = h
no_writing (work.Describe spelling) path bytes named h = h
no_writing work.Check path bytes named h = h
no_writing (work.Zone asked) path bytes named h = h

pub refused_bytes : (w : Work) (path bytes : List ℕ) (p : Option (List ℕ)) (old : Option (List Access)) (message : Message)
    → IsFault w path bytes message → IsRefusal w path bytes p p old old message
refused_bytes w path bytes p old (CannotWrite named) h = absurd (no_writing w path bytes named h)
refused_bytes w path bytes p old HostMemory h = (inl refl, inl refl)
refused_bytes w path bytes p old (Usage text) h = (h, refl, refl)
refused_bytes w path bytes p old (CannotRead named) h = (h, refl, refl)
refused_bytes w path bytes p old (Script named line kind) h = (h, refl, refl)
refused_bytes w path bytes p old (Fork named fault) h = (h, refl, refl)
refused_bytes w path bytes p old (NotLaunched named app) h = (h, refl, refl)
refused_bytes w path bytes p old (Dump named why) h = (h, refl, refl)

-- what was to be printed, as it was sent
pub refused_sent : (w : Work) (path bytes out sent : List ℕ) (p q : Option (List ℕ)) (old new : Option (List Access))
    (message : Message) → IsPrinted w bytes out → sent ≡ out → IsUndelivered Printed sent p q old new message
    → IsRefusal w path bytes p q old new message
refused_sent w path bytes out sent p q old new message is same h =
    refused_print w path bytes out p q old new message is
    (subst (λ b. IsUndelivered Printed b p q old new message) same h)
