use Rattle.res_calls.proofs.Cited.{◌≡◌, ◌⊎◌, ℕ, Bool, false, IsTrue, Option, Some, None, Ok, List, map, refl, sym, subst, option_map}
use Rattle.res_calls.proofs.Cited.{slice_get, IfSome, bytes_eq, Gone, Memory, Split, split, place, Map, Managers, File, OpenFile, Resources}
use Rattle.res_calls.proofs.Cited.{is_at, opened, managers, greatest_number, map_in, LeavesOpened, LeavesOpen, fork_opens, newly_opened}
use Rattle.res_calls.proofs.Cited.{view_file, view_open}
use Rattle.std.specs.Prelude.{nat_lt}
use Rattle.res_calls.specs.declared.files.File.{File as StoredFile}
use Rattle.res_calls.specs.declared.files.OpenFile.{OpenFile as StoredOpenFile}
use Rattle.res_calls.proofs.OpeningForks.{file_anew}

-- What an opening leaves where the host is out of memory.

-- the file of a fork was opened, and its preloading stopped
pub stopped_fork : {A : Type 0} (told : A → List Gone → Type 0) (takes : Bool) (i : ℕ) (fork : List ℕ) (r : Resources)
    (m : Memory) (read : Map) (after : Managers) (bytes : List ℕ) (s s' : A) → nat_lt greatest_number r.next ≡ false
    → bytes ≡ fork → map_in bytes ≡ Ok read
    → IsTrue takes ⊎ LeavesOpened told (Some (opened r.next (Some i) read)) (managers r m) after s s'
    → IsTrue takes ⊎ LeavesOpened told (fork_opens i fork (managers r m)) (managers r m) after s s'
stopped_fork told takes i fork r m read after bytes s s' low same is left =
    let opens : fork_opens i fork (managers r m) ≡ Some (opened r.next (Some i) read) = rw (low, ← same, is) refl in
    subst (λ (o : Option OpenFile). IsTrue takes ⊎ LeavesOpened told o (managers r m) after s s') (sym opens) left

-- that of a name
opens_anew : (name : List ℕ) (s : Managers) (file : Split File)
    → split (λ (f : File). bytes_eq f.name name) s.resources.files ≡ Some file
    → split (λ (f : OpenFile). is_at (place file) f.file) s.resources.chain ≡ None
    → newly_opened name s ≡ fork_opens (place file) file.here.fork s
opens_anew name s file called closed = rw (called, closed) refl

pub stopped_anew : {A : Type 0} (told : A → List Gone → Type 0) (takes : Bool) (name : List ℕ) (i : ℕ) (r : Resources)
    (m : Memory) (fs : List StoredFile) (xs : List StoredOpenFile) (refused : Type 0) (after : Managers) (s s' : A)
    → map view_file fs ≡ r.files → map view_open xs ≡ r.chain
    → Some i ≡ option_map place (split (λ (f : File). bytes_eq f.name name) (map view_file fs))
    → None ≡ option_map place (split (λ (f : OpenFile). is_at i f.file) (map view_open xs))
    → IfSome (slice_get r.files i) (λ f. refused
    → IsTrue takes ⊎ LeavesOpened told (fork_opens i f.fork (managers r m)) (managers r m) after s s')
    → refused → IsTrue takes ⊎ LeavesOpen told name (managers r m) after s s'
stopped_anew told takes name i r m fs xs refused after s s' files chain called closed left is =
    let at = file_anew name i r (λ k fork. refused
    → IsTrue takes ⊎ LeavesOpened told (fork_opens k fork (managers r m)) (managers r m) after s s') fs xs files chain
    called closed left in
    subst (λ (o : Option OpenFile). IsTrue takes ⊎ LeavesOpened told o (managers r m) after s s')
    (sym (opens_anew name (managers r m) at.file at.named at.closed)) (at.here is)
