-- Accesses that are made one after the other, up to one that fails.
use Rattle.fork_tasks.proofs.Cited.{◌≡◌, ◌+◌, ◌∷◌, ◌++◌, ◌∙◌, ℕ, List, [], Option, refl, sym, ap, subst, append_assoc, append-nil}
use Rattle.fork_tasks.proofs.Cited.{WriteError, write_message, Access, Write, Folder, Fails, RefusesWrite, RefusesFile, StopsAt, and_then}
use Rattle.fork_tasks.proofs.Accesses.{none, one_more, unwritten_so}

-- Of all these accesses those up to the rest were made.
pub record Made (all rest : List Access) (old new : Option (List Access)) : Type 0 where
  pub first : List Access
  pub split : all ≡ first ++ rest
  pub made : new ≡ and_then old first

pub begun : (all : List Access) (a : Option (List Access)) → Made all all a a
begun all a = record { first = []; split = refl; made = none a }

-- those that come next were made
pub further : (all left xs rest : List Access) (old mid new : Option (List Access)) → left ≡ xs ++ rest
    → Made all left old mid → new ≡ and_then mid xs → Made all rest old new
further all left xs rest old mid new come so is = record {
  first = so.first ++ xs;
  split = so.split ∙ ap (λ l. so.first ++ l) come ∙ sym (append_assoc so.first xs rest);
  made = is ∙ ap (λ a. and_then a xs) so.made ∙ one_more old so.first xs;
}

-- one of those that come next failed
pub stopped : (all left xs rest : List Access) (old mid new : Option (List Access)) (path : List ℕ) (error : WriteError)
    → left ≡ xs ++ rest → Made all left old mid → StopsAt xs mid new path error → StopsAt all old new path error
stopped all left xs rest old mid new path error come so s = record {
  first = so.first ++ s.first;
  next = s.next;
  rest = s.rest ++ rest;
  split = so.split ∙ ap (λ l. so.first ++ l) come ∙ ap (λ l. so.first ++ (l ++ rest)) s.split
      ∙ ap (λ l. so.first ++ l) (append_assoc s.first (s.next ∷ s.rest) rest)
      ∙ sym (append_assoc so.first s.first (s.next ∷ s.rest ++ rest));
  fails = subst (λ a. Fails s.next a new (write_message path error))
      (ap (λ a. and_then a s.first) so.made ∙ one_more old so.first s.first) s.fails;
  named = s.named;
}

-- one of the first accesses failed
pub sooner_at : (all xs rest : List Access) (old new : Option (List Access)) (path : List ℕ) (error : WriteError)
    → all ≡ xs ++ rest → StopsAt xs old new path error → StopsAt all old new path error
sooner_at all xs rest old new path error come s = stopped all all xs rest old old new path error come (begun all old) s

-- the first accesses were made, and one of the others failed
pub later_at : (all xs rest : List Access) (old mid new : Option (List Access)) (path : List ℕ) (error : WriteError)
    → all ≡ xs ++ rest → mid ≡ and_then old xs → StopsAt rest mid new path error → StopsAt all old new path error
later_at all xs rest old mid new path error come made s =
    let so : Made all rest old mid = further all all xs rest old old mid come (begun all old) made in
    stopped all rest rest [] old mid new path error (sym (append-nil rest)) so s

-- a file was not written to its end
pub front_at : (path bytes p b : List ℕ) (rest : List Access) (old new : Option (List Access)) (error : WriteError)
    → RefusesFile p b error old new → p ≡ path → b ≡ bytes → StopsAt (Write path bytes ∷ rest) old new path error
front_at path bytes p b rest old new error fails same equal =
    let so : RefusesFile path bytes error old new =
    subst (λ x. RefusesFile path x error old new) equal (subst (λ x. RefusesFile x b error old new) same fails) in
    record {
      first = [];
      next = Write path bytes;
      rest = rest;
      split = refl;
      fails = subst (λ a. Fails (Write path bytes) a new (write_message path error)) (none old)
          (so.0, so.1, unwritten_so path error so.0 new (write_message path error) so.2 refl);
      named = refl;
    }

-- a folder was not made
pub folder_at : (path p : List ℕ) (rest : List Access) (old new : Option (List Access)) (error : WriteError)
    → RefusesWrite p error old new → p ≡ path → StopsAt (Folder path ∷ rest) old new path error
folder_at path p rest old new error fails same = record {
  first = [];
  next = Folder path;
  rest = rest;
  split = refl;
  fails = subst (λ a. Fails (Folder path) a new (write_message path error)) (none old)
      (unwritten_so path error old new (write_message path error)
      (subst (λ x. RefusesWrite x error old new) same fails) refl);
  named = refl;
}
