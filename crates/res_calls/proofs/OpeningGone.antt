use Rattle.res_calls.proofs.Cited.{◌≡◌, ◌≢◌, ℕ, false, Some, None, Result, Ok, Err, List, [], map, refl, sym, ◌∙◌, ap, subst, option_map}
use Rattle.res_calls.proofs.Cited.{slice_get, IfSome, bytes_eq, Gone, Tells, Memory, Refusal, Code, HostMemory, tells-none, Split, split}
use Rattle.res_calls.proofs.Cited.{place, Map, found-place, found-none, OpenResFile, Managers, File, OpenFile, Resources, is_at, IsReply}
use Rattle.res_calls.proofs.Cited.{managers, gone_for, fork_gone, load_gone, greatest_number, map_in, view_file, view_open}
use Rattle.std.specs.Prelude.{nat_lt}
use Rattle.res_calls.specs.declared.files.File.{File as StoredFile}
use Rattle.res_calls.specs.declared.files.OpenFile.{OpenFile as StoredOpenFile}
use Rattle.res_calls.proofs.OpeningForks.{file_anew}

-- What an opening purges.

-- a fork that can't be read, and one that is opened
pub gone_refused : {A : Type 0} (told : A → List Gone → Type 0) (s : A) (fork : List ℕ) (r : Resources) (m : Memory)
    (refusal : Refusal) (bytes : List ℕ) → nat_lt greatest_number r.next ≡ false → bytes ≡ fork
    → IsReply (map_in bytes) (Err refusal) → ◌≢◌ {A = Result ℕ Refusal} (Err refusal) (Err HostMemory)
    → Tells told (fork_gone fork (managers r m)) s s
gone_refused told s fork r m (Code code) bytes low same unread some =
    tells-none told (fork_gone fork (managers r m)) s (rw (low, ← same, unread) refl)
gone_refused told s fork r m HostMemory bytes low same unread some = absurd (some refl)

pub gone_opened : {A : Type 0} (told : A → List Gone → Type 0) (s s' : A) (fork : List ℕ) (r : Resources) (m : Memory)
    (read : Map) (bytes : List ℕ) → nat_lt greatest_number r.next ≡ false → bytes ≡ fork → map_in bytes ≡ Ok read
    → Tells told (load_gone r.loading read.references m) s s' → Tells told (fork_gone fork (managers r m)) s s'
gone_opened told s s' fork r m read bytes low same is tells =
    let opens : fork_gone fork (managers r m) ≡ load_gone r.loading read.references m = rw (low, ← same, is) refl in
    subst (λ (l : List Gone). Tells told l s s') (sym opens) tells

-- a name that no file has, a file that is open already, and one that isn't
missing-at : (name : List ℕ) (s : Managers) → split (λ (f : File). bytes_eq f.name name) s.resources.files ≡ None
    → gone_for (OpenResFile name) s ≡ []
missing-at name s none = rw none refl

already-at : (name : List ℕ) (s : Managers) (file : Split File) (at : Split OpenFile)
    → split (λ (f : File). bytes_eq f.name name) s.resources.files ≡ Some file
    → split (λ (f : OpenFile). is_at (place file) f.file) s.resources.chain ≡ Some at
    → gone_for (OpenResFile name) s ≡ []
already-at name s file at called already = rw (called, already) refl

anew-at : (name : List ℕ) (s : Managers) (file : Split File)
    → split (λ (f : File). bytes_eq f.name name) s.resources.files ≡ Some file
    → split (λ (f : OpenFile). is_at (place file) f.file) s.resources.chain ≡ None
    → gone_for (OpenResFile name) s ≡ fork_gone file.here.fork s
anew-at name s file called closed = rw (called, closed) refl

pub gone_missing : {A : Type 0} (told : A → List Gone → Type 0) (s : A) (name : List ℕ) (fs : List StoredFile)
    (r : Resources) (m : Memory) → map view_file fs ≡ r.files
    → None ≡ option_map place (split (λ (f : File). bytes_eq f.name name) (map view_file fs))
    → Tells told (gone_for (OpenResFile name) (managers r m)) s s
gone_missing told s name fs r m files missing =
    tells-none told (gone_for (OpenResFile name) (managers r m)) s (missing-at name (managers r m)
    (ap (split (λ (f : File). bytes_eq f.name name)) (sym files)
    ∙ found-none (split (λ (f : File). bytes_eq f.name name) (map view_file fs)) missing))

pub gone_already : {A : Type 0} (told : A → List Gone → Type 0) (s : A) (name : List ℕ) (i j : ℕ) (r : Resources)
    (m : Memory) (fs : List StoredFile) (xs : List StoredOpenFile) → map view_file fs ≡ r.files
    → map view_open xs ≡ r.chain
    → Some i ≡ option_map place (split (λ (f : File). bytes_eq f.name name) (map view_file fs))
    → Some j ≡ option_map place (split (λ (f : OpenFile). is_at i f.file) (map view_open xs))
    → Tells told (gone_for (OpenResFile name) (managers r m)) s s
gone_already told s name i j r m fs xs files chain called already =
    let file = found-place (split (λ (f : File). bytes_eq f.name name) (map view_file fs)) i called in
    let at = found-place (split (λ (f : OpenFile). is_at i f.file) (map view_open xs)) j already in
    tells-none told (gone_for (OpenResFile name) (managers r m)) s (already-at name (managers r m) file.0 at.0
    (ap (split (λ (f : File). bytes_eq f.name name)) (sym files) ∙ file.1.0)
    (ap (split (λ (f : OpenFile). is_at (place file.0) f.file)) (sym chain)
    ∙ ap (λ k. split (λ (f : OpenFile). is_at k f.file) (map view_open xs)) (sym file.1.1) ∙ at.1.0))

pub gone_anew : {A : Type 0} (told : A → List Gone → Type 0) (s s' : A) (name : List ℕ) (i : ℕ) (r : Resources)
    (m : Memory) (fs : List StoredFile) (xs : List StoredOpenFile) (done listens : Type 0) → map view_file fs ≡ r.files
    → map view_open xs ≡ r.chain
    → Some i ≡ option_map place (split (λ (f : File). bytes_eq f.name name) (map view_file fs))
    → None ≡ option_map place (split (λ (f : OpenFile). is_at i f.file) (map view_open xs))
    → IfSome (slice_get r.files i) (λ f. done → listens → Tells told (fork_gone f.fork (managers r m)) s s')
    → done → listens → Tells told (gone_for (OpenResFile name) (managers r m)) s s'
gone_anew told s s' name i r m fs xs done listens files chain called closed tells is on =
    let at = file_anew name i r (λ k fork. done → listens → Tells told (fork_gone fork (managers r m)) s s') fs xs files
    chain called closed tells in
    subst (λ (l : List Gone). Tells told l s s') (sym (anew-at name (managers r m) at.file at.named at.closed))
    (at.here is on)
