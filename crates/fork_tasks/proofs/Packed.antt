-- The list of a folder, and the files that it names, read one after the other.
use Rattle.fork_tasks.proofs.Cited.{◌≡◌, ◌∷◌, ◌++◌, ◌∙◌, ℕ, suc, List, [], Option, Ok, refl, sym, ap, subst, append_assoc, append-nil}
use Rattle.fork_tasks.proofs.Cited.{length, length-append, arith, Listed, listed_in, listed_paths, fork_of_files, Packing, Access, Read}
use Rattle.fork_tasks.proofs.Cited.{Write, and_then, reads_at, IsUnread, IsNextUnread, StopsReading, IsPartWritten, Message, HostMemory}
use Rattle.fork_tasks.proofs.Cited.{Usage, CannotRead, Script, Fork, CannotWrite, NotLaunched, Dump, IsForkFault, list_path, reads_listed}
use Rattle.fork_tasks.proofs.Cited.{Packs, IsUnpacked, ListFaulty, FileUnread}
use Rattle.fork_tasks.specs.Packing.{Unfit, Unwritten}
use Rattle.fork_tasks.proofs.Accesses.{none, one_more}

-- Of these paths all but the rest are read.
pub record Came (paths rest files : List (List ℕ)) (old new : Option (List Access)) : Type 0 where
  pub first : List (List ℕ)
  pub split : paths ≡ first ++ rest
  pub count : length files ≡ length first
  pub reads : new ≡ and_then old (reads_at first files)

pub begun : (paths : List (List ℕ)) (a : Option (List Access)) → Came paths paths [] a a
begun paths a = record { first = []; split = refl; count = refl; reads = none a }

-- one path more is read
one_read : (first files : List (List ℕ)) (x text : List ℕ) → length files ≡ length first
    → reads_at first files ++ Read x text ∷ [] ≡ reads_at (first ++ x ∷ []) (files ++ text ∷ [])
one_read [] [] x text same = refl
one_read [] (file ∷ files) x text same = absurd (let no : suc (length files) ≡ 0 = same in cc)
one_read (path ∷ first) [] x text same = absurd (let no : 0 ≡ suc (length first) = same in cc)
one_read (path ∷ first) (file ∷ files) x text same =
    ap (λ l. Read path file ∷ l) (one_read first files x text (let k = same in omega (arith, k)))

pub further : (paths rest files : List (List ℕ)) (x text : List ℕ) (old mid new : Option (List Access))
    → Came paths (x ∷ rest) files old mid → new ≡ and_then mid (Read x text ∷ [])
    → Came paths rest (files ++ text ∷ []) old new
further paths rest files x text old mid new came read = record {
  first = came.first ++ x ∷ [];
  split = came.split ∙ sym (append_assoc came.first (x ∷ []) rest);
  count = let l = length-append files (text ∷ []) in let r = length-append came.first (x ∷ []) in let k = came.count in
      omega (arith, l, r, k);
  reads = read ∙ ap (λ a. and_then a (Read x text ∷ [])) came.reads ∙ one_more old (reads_at came.first files) (Read x text ∷ [])
      ∙ ap (λ l. and_then old l) (one_read came.first files x text came.count);
}

-- all are read
pub all_came : (paths files : List (List ℕ)) (old new : Option (List Access)) → Came paths [] files old new
    → new ≡ and_then old (reads_at paths files)
all_came paths files old new came =
    came.reads ∙ ap (λ l. and_then old (reads_at l files)) (sym (came.split ∙ append-nil came.first))

-- a file is not read
next_unread : (x : List ℕ) (rest : List (List ℕ)) (old new : Option (List Access)) (message : Message)
    → IsUnread x old new message → IsNextUnread (x ∷ rest) old new message
next_unread x rest old new HostMemory unread = unread
next_unread x rest old new (Usage text) unread = unread
next_unread x rest old new (CannotRead named) unread = unread
next_unread x rest old new (Script named line kind) unread = unread
next_unread x rest old new (Fork named fault) unread = unread
next_unread x rest old new (CannotWrite named) unread = unread
next_unread x rest old new (NotLaunched named app) unread = unread
next_unread x rest old new (Dump named why) unread = unread

pub no_memory : (rest : List (List ℕ)) (old new : Option (List Access)) → new ≡ old → IsNextUnread rest old new HostMemory
no_memory [] old new same = same
no_memory (x ∷ rest) old new same = same

pub unread_file : (paths rest files : List (List ℕ)) (x : List ℕ) (old mid new : Option (List Access)) (message : Message)
    → Came paths (x ∷ rest) files old mid → IsUnread x mid new message → StopsReading paths old new message
unread_file paths rest files x old mid new message came unread = record {
  first = came.first;
  rest = x ∷ rest;
  split = came.split;
  texts = files;
  count = came.count;
  stops = subst (λ a. IsNextUnread (x ∷ rest) a new message) came.reads (next_unread x rest mid new message unread);
}

-- there is no memory for a file that was read
pub unkept_file : (paths rest files : List (List ℕ)) (x text : List ℕ) (old mid new : Option (List Access))
    → Came paths (x ∷ rest) files old mid → new ≡ and_then mid (Read x text ∷ []) → StopsReading paths old new HostMemory
unkept_file paths rest files x text old mid new came read =
    let more = further paths rest files x text old mid new came read in record {
      first = more.first;
      rest = rest;
      split = more.split;
      texts = files ++ text ∷ [];
      count = more.count;
      stops = no_memory rest _ new more.reads;
    }

-- nothing is read
pub none_read : (paths : List (List ℕ)) (a : Option (List Access)) → StopsReading paths a a HostMemory
none_read paths a = record { first = []; rest = paths; split = refl; texts = []; count = refl; stops = no_memory paths _ a (none a) }

-- the list is at fault
pub list_faulty : (p : Packing) (path text read : List ℕ) (old new : Option (List Access)) (message : Message)
    → path ≡ list_path p → new ≡ and_then old (Read path read ∷ []) → text ≡ read
    → IsForkFault path (listed_in text) message → IsUnpacked p old new message
list_faulty p path text read old new message is made same fault = ListFaulty read
    (subst (λ x. new ≡ and_then old (Read x read ∷ [])) is made)
    (subst (λ x. IsForkFault x (listed_in read) message) is
    (subst (λ t. IsForkFault path (listed_in t) message) same fault))

-- there is no memory for the paths of the files
pub no_paths : (p : Packing) (text : List ℕ) (l : Listed) (old new : Option (List Access)) → listed_in text ≡ Ok l
    → new ≡ and_then old (Read (list_path p) text ∷ []) → IsUnpacked p old new HostMemory
no_paths p text l old new has made = FileUnread text l has
    (subst (λ a. StopsReading (listed_paths p.folder.now l) a new HostMemory) made (none_read (listed_paths p.folder.now l) new))

-- what was read of the files
pub files_unread : (p : Packing) (text : List ℕ) (l : Listed) (paths : List (List ℕ)) (old mid new : Option (List Access))
    (message : Message) → listed_in text ≡ Ok l → mid ≡ and_then old (Read (list_path p) text ∷ [])
    → paths ≡ listed_paths p.folder.now l → StopsReading paths mid new message → IsUnpacked p old new message
files_unread p text l paths old mid new message has made is stops = FileUnread text l has
    (subst (λ ps. StopsReading ps (and_then old (Read (list_path p) text ∷ [])) new message) is
    (subst (λ a. StopsReading paths a new message) made stops))

pub all_read : (p : Packing) (text : List ℕ) (l : Listed) (paths files : List (List ℕ)) (old mid new : Option (List Access))
    → mid ≡ and_then old (Read (list_path p) text ∷ []) → paths ≡ listed_paths p.folder.now l
    → new ≡ and_then mid (reads_at paths files) → new ≡ reads_listed p text l files old
all_read p text l paths files old mid new made is read = read ∙ ap (λ a. and_then a (reads_at paths files)) made
    ∙ ap (λ ps. and_then (and_then old (Read (list_path p) text ∷ [])) (reads_at ps files)) is

-- the fork is too large
pub unfit : (p : Packing) (text : List ℕ) (l : Listed) (files given : List (List ℕ)) (old new : Option (List Access))
    (message : Message) → listed_in text ≡ Ok l → new ≡ reads_listed p text l files old → given ≡ files
    → IsForkFault p.folder.now (fork_of_files l given) message → IsUnpacked p old new message
unfit p text l files given old new message has read same fault =
    Unfit text l files has read (subst (λ f. IsForkFault p.folder.now (fork_of_files l f) message) same fault)

-- the fork is not written to its end
pub unwritten : (p : Packing) (text : List ℕ) (l : Listed) (files given : List (List ℕ)) (fork sent : List ℕ)
    (old mid new : Option (List Access)) (message : Message) → listed_in text ≡ Ok l
    → mid ≡ reads_listed p text l files old → given ≡ files → fork_of_files l given ≡ Ok fork → sent ≡ fork
    → IsPartWritten p.out.now sent mid new message → IsUnpacked p old new message
unwritten p text l files given fork sent old mid new message has read same made is stops = Unwritten text l files fork has
    (subst (λ f. fork_of_files l f ≡ Ok fork) same made)
    (subst (λ a. IsPartWritten p.out.now fork a new message) read
    (subst (λ b. IsPartWritten p.out.now b mid new message) is stops))

-- all is read, and the fork written
pub packs : (p : Packing) (text : List ℕ) (l : Listed) (paths files given : List (List ℕ)) (fork sent : List ℕ)
    (old mid new : Option (List Access)) → listed_in text ≡ Ok l → paths ≡ listed_paths p.folder.now l
    → length files ≡ length paths → mid ≡ reads_listed p text l files old → given ≡ files
    → fork_of_files l given ≡ Ok fork → sent ≡ fork → new ≡ and_then mid (Write p.out.now sent ∷ []) → Packs p old new
packs p text l paths files given fork sent old mid new has is count read same made all written = (
  text,
  l,
  files,
  fork,
  has,
  count ∙ ap length is,
  subst (λ f. fork_of_files l f ≡ Ok fork) same made,
  subst (λ a. new ≡ and_then a (Write p.out.now fork ∷ [])) read
      (subst (λ b. new ≡ and_then mid (Write p.out.now b ∷ [])) all written),
)
