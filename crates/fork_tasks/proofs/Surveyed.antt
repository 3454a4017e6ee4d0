-- Files that are surveyed one after the other.
use Rattle.fork_tasks.proofs.Cited.{◌≡◌, ◌∷◌, ◌++◌, ◌∙◌, ◌&&◌, ℕ, Bool, true, List, [], Option, inl, inr, refl, sym, ap, subst}
use Rattle.fork_tasks.proofs.Cited.{append_assoc, append-nil, Result, Ok, Err, IfErr, OnOk, flat_map, list_all, and_assoc, and-true}
use Rattle.fork_tasks.proofs.Cited.{flat_map-append, list_all-append, and_both, Access, Read, Folder, Write, Failed, and_then, Printed}
use Rattle.fork_tasks.proofs.Cited.{IsUndelivered, Message, IsSeen, AreSeen, IsFolderSurveyed, IsSurveyed, AreSurveyed, line_of, is_good}
use Rattle.fork_tasks.proofs.Cited.{is_reading, Went, OnlyReads, IsUnlisted}
use Rattle.fork_tasks.specs.Accesses.{Listed}
use Rattle.fork_tasks.specs.Surveying.{Undelivered}
use Rattle.fork_tasks.proofs.Accesses.{none, one_more}

-- a file that is seen is read
pub seen_reads_one : (path : List ℕ) (a : Access) → IsSeen path a → is_reading a ≡ true
seen_reads_one path (Read at bytes) h = refl
seen_reads_one path (Failed at) h = refl
seen_reads_one path (Listed at files) h = absurd h
seen_reads_one path (Folder at) h = absurd h
seen_reads_one path (Write at bytes) h = absurd h

pub all_seen_read : (paths : List (List ℕ)) (seen : List Access) → AreSeen paths seen → list_all is_reading seen ≡ true
all_seen_read [] [] h = refl
all_seen_read [] (a ∷ seen) h = cc
all_seen_read (path ∷ paths) [] h = absurd h
all_seen_read (path ∷ paths) (a ∷ seen) h = and_both _ _ (seen_reads_one path a h.0) (all_seen_read paths seen h.1)

pub seen_reads : (path : List ℕ) (a : Access) → IsSeen path a → list_all is_reading (a ∷ []) ≡ true
seen_reads path a h = and_both _ _ (seen_reads_one path a h) refl

-- the files of a folder are read
pub surveyed_reads : (path : List ℕ) (xs : List Access) → IsSurveyed path xs → list_all is_reading xs ≡ true
surveyed_reads path xs (inl h) = all_seen_read (path ∷ []) xs h
surveyed_reads path xs (inr (inl (files, seen, is, h))) = ap (list_all is_reading) is ∙ all_seen_read files seen h
surveyed_reads path xs (inr (inr is)) = ap (list_all is_reading) is

pub reads_on : (old mid new : Option (List Access)) (xs : List Access) → list_all is_reading xs ≡ true
    → mid ≡ and_then old xs → OnlyReads mid new → OnlyReads old new
reads_on old mid new xs reads made (ys, more, next) = (
  xs ++ ys,
  list_all-append is_reading xs ys ∙ and_both _ _ reads more,
  next ∙ ap (λ a. and_then a ys) made ∙ one_more old xs ys,
)

-- lines are appended one after another
pub went_on : (why : Bool) (xs ys : List Access) (a b c : Option (List Access)) (t u v : List ℕ) (p q r : Bool)
    → Went why xs a b t u p q → Went why ys b c u v q r → Went why (xs ++ ys) a c t v p r
went_on why xs ys a b c t u v p q r w z = record {
  made = z.made ∙ ap (λ o. and_then o ys) w.made ∙ one_more a xs ys;
  lines = z.lines ∙ ap (λ l. l ++ flat_map (line_of why) ys) w.lines
      ∙ append_assoc t (flat_map (line_of why) xs) (flat_map (line_of why) ys)
      ∙ ap (λ l. t ++ l) (sym (flat_map-append (line_of why) xs ys));
  good = z.good ∙ ap (λ g. g && list_all is_good ys) w.good
      ∙ and_assoc p (list_all is_good xs) (list_all is_good ys)
      ∙ ap (λ g. p && g) (sym (list_all-append is_good xs ys));
}

went_nowhere : (why : Bool) (a : Option (List Access)) (t : List ℕ) (p : Bool) → Went why [] a a t t p p
went_nowhere why a t p = record { made = none a; lines = sym (append-nil t); good = sym (and-true p) }

-- Of these paths all but the rest are surveyed, in one of two ways.
pub record Come (Are : List (List ℕ) → List Access → Type 0) (why : Bool) (all rest : List (List ℕ))
    (old new : Option (List Access)) (text more : List ℕ) (was is : Bool) : Type 0 where
  pub accesses : List Access
  pub done : (xs : List Access) → Are rest xs → Are all (accesses ++ xs)
  pub reads : list_all is_reading accesses ≡ true
  pub went : Went why accesses old new text more was is

pub begun : (Are : List (List ℕ) → List Access → Type 0) (why : Bool) (all : List (List ℕ)) (old : Option (List Access))
    (text : List ℕ) (was : Bool) → Come Are why all all old old text text was was
begun Are why all old text was = record {
  accesses = [];
  done = λ xs h. h;
  reads = refl;
  went = went_nowhere why old text was;
}

pub further : (Are : List (List ℕ) → List Access → Type 0) (why : Bool) (all rest : List (List ℕ)) (x : List ℕ)
    (old mid new : Option (List Access)) (text more next : List ℕ) (was is now : Bool) (first : List Access)
    → Come Are why all (x ∷ rest) old mid text more was is
    → ((xs : List Access) → Are rest xs → Are (x ∷ rest) (first ++ xs)) → list_all is_reading first ≡ true
    → Went why first mid new more next is now → Come Are why all rest old new text next was now
further Are why all rest x old mid new text more next was is now first come step reads went = record {
  accesses = come.accesses ++ first;
  done = λ xs h. subst (Are all) (sym (append_assoc come.accesses first xs)) (come.done (first ++ xs) (step xs h));
  reads = list_all-append is_reading come.accesses first ∙ and_both _ _ come.reads reads;
  went = went_on why come.accesses first old mid new text more next was is now come.went went;
}

-- one file more is seen, and one path more is surveyed
pub seen_step : (x : List ℕ) (rest : List (List ℕ)) (a : Access) → IsSeen x a → (xs : List Access) → AreSeen rest xs
    → AreSeen (x ∷ rest) ((a ∷ []) ++ xs)
seen_step x rest a seen xs h = (seen, h)

pub surveyed_step : (x : List ℕ) (rest : List (List ℕ)) (first : List Access) → IsSurveyed x first → (xs : List Access)
    → AreSurveyed rest xs → AreSurveyed (x ∷ rest) (first ++ xs)
surveyed_step x rest first is xs h = (first, xs, refl, is, h)

-- all are surveyed where none is left
pub all_seen : (why : Bool) (all : List (List ℕ)) (old new : Option (List Access)) (text more : List ℕ) (was is : Bool)
    → Come AreSeen why all [] old new text more was is
    → (accesses : List Access) × AreSeen all accesses × Went why accesses old new text more was is
all_seen why all old new text more was is come =
    (come.accesses, subst (AreSeen all) (append-nil come.accesses) (come.done [] refl), come.went)

pub all_surveyed : (why : Bool) (all : List (List ℕ)) (old new : Option (List Access)) (text more : List ℕ) (was is : Bool)
    → Come AreSurveyed why all [] old new text more was is
    → (accesses : List Access) × AreSurveyed all accesses × Went why accesses old new text more was is
all_surveyed why all old new text more was is come =
    (come.accesses, subst (AreSurveyed all) (append-nil come.accesses) (come.done [] refl), come.went)

-- the files below a folder are listed, and then seen
listed_went : (why : Bool) (folder : List ℕ) (files : List (List ℕ)) (old mid : Option (List Access)) (t : List ℕ) (p : Bool)
    → mid ≡ and_then old (Listed folder files ∷ []) → Went why (Listed folder files ∷ []) old mid t t p p
listed_went why folder files old mid t p listed = record {
  made = listed;
  lines = sym (append-nil t);
  good = sym (and-true p);
}

pub folder_surveyed : {E : Type 0} (r : Result (Unit {0}) E) (why : Bool) (folder : List ℕ) (files : List (List ℕ))
    (old mid new : Option (List Access)) (t u : List ℕ) (p q : Bool) → mid ≡ and_then old (Listed folder files ∷ [])
    → OnOk r ((seen : List Access) × AreSeen files seen × Went why seen mid new t u p q)
    → OnOk r ((xs : List Access) × IsFolderSurveyed folder xs × Went why xs old new t u p q)
folder_surveyed (Ok x) why folder files old mid new t u p q listed (seen, are, went) = (
  Listed folder files ∷ seen,
  inl (files, seen, refl, are),
  went_on why (Listed folder files ∷ []) seen old mid new t t u p p q (listed_went why folder files old mid t p listed) went,
)
folder_surveyed (Err e) why folder files old mid new t u p q listed h = tt

pub folder_stopped : {A E : Type 0} (r : Result A E) (folder : List ℕ) (files : List (List ℕ))
    (old mid new : Option (List Access)) → mid ≡ and_then old (Listed folder files ∷ [])
    → IfErr r (λ _. OnlyReads mid new) → IfErr r (λ _. OnlyReads old new)
folder_stopped (Ok x) folder files old mid new listed h = tt
folder_stopped (Err e) folder files old mid new listed h = reads_on old mid new (Listed folder files ∷ []) refl listed h

-- the lines were not printed to their end
pub unlisted : (Are : List Access → Type 0) (why : Bool) (xs : List Access) (sent : List ℕ) (p mid q : Option (List ℕ))
    (old then new : Option (List Access)) (message : Message) → mid ≡ p → Are xs → then ≡ and_then old xs
    → sent ≡ flat_map (line_of why) xs → IsUndelivered Printed sent mid q then new message
    → IsUnlisted Are why p q old new message
unlisted Are why xs sent p mid q old then new message silent are is all h = Undelivered xs are
    (subst (λ x. IsUndelivered Printed x p q (and_then old xs) new message) all
    (subst (λ a. IsUndelivered Printed sent p q a new message) is
    (subst (λ x. IsUndelivered Printed sent x q then new message) silent h)))
