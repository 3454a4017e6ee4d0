use Rattle.res_calls.proofs.Cited.{◌≡◌, ℕ, Bool, true, false, Some, None, Result, Ok, Err, refl, sym, ◌∙◌, ap, List, [], ◌∷◌, ◌<◌, ◌≤◌}
use Rattle.res_calls.proofs.Cited.{◌==◌, arith, cond, get_or, length, map, subst, le-ltb, length-map, option_map, slice_get, IfSome}
use Rattle.res_calls.proofs.Cited.{bytes_eq, END_OF_FILE, MAP_READ, Memory, Refusal, Code, HostMemory, is_fork, content_of, Split, split}
use Rattle.res_calls.proofs.Cited.{place, Content, Map, map_of, found-place, found-none, split-get, File, OpenFile, Resources, is_at}
use Rattle.res_calls.proofs.Cited.{opened, Managers, Answer, done, IsAnswered, IsReply, managers, open_res_file, open_fork}
use Rattle.res_calls.proofs.Cited.{open_as, map_in, map_read, greatest_number, launched_resources, view_file, view_open}
use Rattle.std.specs.Prelude.{nat_lt}
use Rattle.res_calls.specs.declared.files.File.{File as StoredFile}
use Rattle.res_calls.specs.declared.files.OpenFile.{OpenFile as StoredOpenFile}
use Rattle.res_calls.proofs.Lookups.{item_seen, found_seen}

-- the map that was read is that of the content
pub read_is : (fork : List ℕ) (read : Map) → map_in fork ≡ Ok read → map_of (content_of fork) ≡ read
read_is fork read = by_tests (length fork == 0) (is_fork fork)
  where
    by_tests : (empty good : Bool)
        → map_read (cond empty (Err END_OF_FILE) (cond good (Ok (content_of fork)) (Err MAP_READ))) ≡ Ok read
        → map_of (content_of fork) ≡ read
    by_tests true good e = cc
    by_tests false true e = cc
    by_tests false false e = cc

-- a fork that can't be read, and one that is opened
pub fork_refused : (i : ℕ) (fork : List ℕ) (r : Resources) (m : Memory) (refusal : Refusal)
    (bytes : List ℕ) → nat_lt greatest_number r.next ≡ false → bytes ≡ fork → IsReply (map_in bytes) (Err refusal)
    → IsAnswered (λ (n : ℕ). n) (open_fork i fork (managers r m)) (Err refusal) (managers r m)
fork_refused i fork r m (Code code) bytes low same unread = rw (low, ← same, unread) (refl, refl)
fork_refused i fork r m HostMemory bytes low same unread = tt

pub fork_opened : (i n : ℕ) (fork : List ℕ) (r : Resources) (m : Memory) (read : Map) (after : Managers)
    (bytes : List ℕ) → nat_lt greatest_number r.next ≡ false → bytes ≡ fork → map_in bytes ≡ Ok read → n ≡ r.next
    → (open_as (opened r.next (Some i) read) (managers r m)).after ≡ after
    → IsAnswered (λ (k : ℕ). k) (open_fork i fork (managers r m)) (Ok n) after
fork_opened i n fork r m read after bytes low same is number e = rw (low, ← same, is) (ap Ok (sym number), e)

-- a file that is open already, and one that isn't
already_at : (name : List ℕ) (r : Resources) (m : Memory) (file : Split File) (at : Split OpenFile)
    → split (λ (f : File). bytes_eq f.name name) r.files ≡ Some file
    → split (λ (f : OpenFile). is_at (place file) f.file) r.chain ≡ Some at
    → open_res_file name (managers r m) ≡ done at.here.number (managers r m)
already_at name r m file at called already = rw (called, already) refl

anew_at : (name : List ℕ) (r : Resources) (m : Memory) (file : Split File)
    → split (λ (f : File). bytes_eq f.name name) r.files ≡ Some file
    → split (λ (f : OpenFile). is_at (place file) f.file) r.chain ≡ None
    → open_res_file name (managers r m) ≡ open_fork (place file) file.here.fork (managers r m)
anew_at name r m file called closed = rw (called, closed) refl

pub open_already : (name : List ℕ) (i j : ℕ) (r : Resources) (m : Memory) (fs : List StoredFile)
    (xs : List StoredOpenFile) (x : StoredOpenFile) → map view_file fs ≡ r.files → map view_open xs ≡ r.chain
    → Some i ≡ option_map place (split (λ (f : File). bytes_eq f.name name) (map view_file fs))
    → Some j ≡ option_map place (split (λ (f : OpenFile). is_at i f.file) (map view_open xs))
    → j < length xs → x ≡ get_or xs j x
    → IsAnswered (λ (n : ℕ). n) (open_res_file name (managers r m)) (Ok x.number) (managers r m)
open_already name i j r m fs xs x files chain called already inside is =
    let file = found-place (split (λ (f : File). bytes_eq f.name name) (map view_file fs)) i called in
    let at = found_seen view_open (λ (f : OpenFile). is_at i f.file) xs j x inside is already in
    let done_so = already_at name r m file.0 at.0
    (ap (λ l. split (λ (f : File). bytes_eq f.name name) l) (sym files) ∙ file.1.0)
    (ap (λ l. split (λ (f : OpenFile). is_at (place file.0) f.file) l) (sym chain)
    ∙ ap (λ k. split (λ (f : OpenFile). is_at k f.file) (map view_open xs)) (sym file.1.1) ∙ at.1.0) in (
      ap (λ (a : Answer ℕ). a.reply) done_so ∙ ap (λ (f : OpenFile). Ok f.number) at.1.1.1,
      ap (λ (a : Answer ℕ). a.after) done_so,
    )

-- the file of a name, which is not open; what holds of its place and fork
pub record Anew (name : List ℕ) (r : Resources) (holds : ℕ → List ℕ → Type 0) : Type 0 where
  pub file : Split File
  pub named : split (λ (f : File). bytes_eq f.name name) r.files ≡ Some file
  pub closed : split (λ (f : OpenFile). is_at (place file) f.file) r.chain ≡ None
  pub here : holds (place file) file.here.fork

pub file_anew : (name : List ℕ) (i : ℕ) (r : Resources) (holds : ℕ → List ℕ → Type 0) (fs : List StoredFile)
    (xs : List StoredOpenFile) → map view_file fs ≡ r.files → map view_open xs ≡ r.chain
    → Some i ≡ option_map place (split (λ (f : File). bytes_eq f.name name) (map view_file fs))
    → None ≡ option_map place (split (λ (f : OpenFile). is_at i f.file) (map view_open xs))
    → IfSome (slice_get r.files i) (λ f. holds i f.fork) → Anew name r holds
file_anew name i r holds fs xs files chain called closed opening =
    let file = found-place (split (λ (f : File). bytes_eq f.name name) (map view_file fs)) i called in
    let none = found-none (split (λ (f : OpenFile). is_at i f.file) (map view_open xs)) closed in
    let found : split (λ (f : File). bytes_eq f.name name) r.files ≡ Some file.0 =
    ap (λ l. split (λ (f : File). bytes_eq f.name name) l) (sym files) ∙ file.1.0 in
    let here : slice_get r.files i ≡ Some file.0.here =
    ap (slice_get r.files) file.1.1 ∙ split-get (λ (f : File). bytes_eq f.name name) r.files file.0 found in
    let opens : holds i file.0.here.fork = rw here at opening in
    record {
      file = file.0;
      named = found;
      closed = ap (λ l. split (λ (f : OpenFile). is_at (place file.0) f.file) l) (sym chain)
          ∙ ap (λ k. split (λ (f : OpenFile). is_at k f.file) (map view_open xs)) (sym file.1.1) ∙ none;
      here = subst (λ k. holds k file.0.here.fork) file.1.1 opens;
    }

pub open_anew : (name : List ℕ) (i : ℕ) (r : Resources) (m : Memory) (fs : List StoredFile)
    (xs : List StoredOpenFile) (result : Result ℕ Refusal) (after : Managers)
    → map view_file fs ≡ r.files → map view_open xs ≡ r.chain
    → Some i ≡ option_map place (split (λ (f : File). bytes_eq f.name name) (map view_file fs))
    → None ≡ option_map place (split (λ (f : OpenFile). is_at i f.file) (map view_open xs))
    → IfSome (slice_get r.files i) (λ f. IsAnswered (λ (n : ℕ). n) (open_fork i f.fork (managers r m)) result after)
    → IsAnswered (λ (n : ℕ). n) (open_res_file name (managers r m)) result after
open_anew name i r m fs xs result after files chain called closed opening =
    let at = file_anew name i r (λ k fork. IsAnswered (λ (n : ℕ). n) (open_fork k fork (managers r m)) result after) fs
    xs files chain called closed opening in
    rw (anew_at name r m at.file at.named at.closed) at.here

-- the file at a place, and a number that can be given
pub file_here : (r : Resources) (fs : List StoredFile) (i : ℕ) (x : StoredFile) → map view_file fs ≡ r.files
    → i < length r.files → x ≡ get_or fs i x → slice_get r.files i ≡ Some (view_file x)
file_here r fs i x files inside is =
    let size : length r.files ≡ length fs = ap length (sym files) ∙ length-map fs view_file in
    ap (λ l. slice_get l i) (sym files) ∙ item_seen view_file fs i x (omega arith) is

pub low_number : (n : ℕ) (r : Resources) → n ≡ r.next → n ≤ 2147483647 → nat_lt greatest_number r.next ≡ false
low_number n r is low = le-ltb greatest_number r.next (omega arith)

-- the application's fork as it is launched
launch_unread : (f : File) (files : List File) (refusal : Refusal) (system : Content) (bytes : List ℕ)
    → bytes ≡ f.fork → IsReply (map_in bytes) (Err refusal)
    → IsReply (launched_resources (f ∷ files) system) (Err refusal)
launch_unread f files (Code code) system bytes same unread = rw (← same, unread) refl
launch_unread f files HostMemory system bytes same unread = tt

pub launch_refused : (fs : List StoredFile) (x : StoredFile) (refusal : Refusal) (system : Content) (bytes : List ℕ)
    → 0 < length fs → x ≡ get_or fs 0 x → bytes ≡ x.fork.items → IsReply (map_in bytes) (Err refusal)
    → IsReply (launched_resources (map view_file fs) system) (Err refusal)
launch_refused [] x refusal system bytes some is same unread = let none : ⊥ = omega arith in absurd none
launch_refused (f ∷ fs) x refusal system bytes some is same unread =
    let own : bytes ≡ f.fork.items = same ∙ ap (λ (f : StoredFile). f.fork.items) is in
    launch_unread (view_file f) (map view_file fs) refusal system bytes own unread
