-- The resources of a fork that are written, a file each.
use Rattle.fork_tasks.proofs.Cited.{◌≡◌, ◌<◌, ◌+◌, ◌∷◌, ◌++◌, ◌∙◌, ℕ, List, [], Option, Ok, drop, get_or, length, map, refl, sym, ap, subst}
use Rattle.fork_tasks.proofs.Cited.{append_assoc, append-nil, arith, common_steps, ResourceFile, ToWrite, view_file, Extraction, Access}
use Rattle.fork_tasks.proofs.Cited.{Read, Folder, Fails, RefusesFile, StopsAmong, and_then, to_write, write_in, writes_in, Extracts}
use Rattle.fork_tasks.proofs.Cited.{IsUnextracted, Message, HostMemory, write_message, IsForkFault, WriteError}
use Rattle.fork_tasks.specs.Extracting.{Faulty, Unwritten}
use Rattle.fork_tasks.proofs.Accesses.{none, one_more, unwritten_so, unreported}
use Rattle.fork_tasks.proofs.Writes.{Made, further, begun}

-- the first of these accesses failed
pub stops_first : (next : Access) (rest : List Access) (old new : Option (List Access)) (message : Message)
    → Fails next old new message → StopsAmong (next ∷ rest) old new message
stops_first next rest old new message fails = record {
  first = [];
  next = next;
  rest = rest;
  split = refl;
  fails = subst (λ a. Fails next a new message) (none old) fails;
}

-- one of those that come next failed
pub stopped_among : (all left xs rest : List Access) (old mid new : Option (List Access)) (message : Message)
    → left ≡ xs ++ rest → Made all left old mid → StopsAmong xs mid new message → StopsAmong all old new message
stopped_among all left xs rest old mid new message come so s = record {
  first = so.first ++ s.first;
  next = s.next;
  rest = s.rest ++ rest;
  split = so.split ∙ ap (λ l. so.first ++ l) come ∙ ap (λ l. so.first ++ (l ++ rest)) s.split
      ∙ ap (λ l. so.first ++ l) (append_assoc s.first (s.next ∷ s.rest) rest)
      ∙ sym (append_assoc so.first s.first (s.next ∷ s.rest ++ rest));
  fails = subst (λ a. Fails s.next a new message)
      (ap (λ a. and_then a s.first) so.made ∙ one_more old so.first s.first) s.fails;
}

-- the folder was not made
pub folder_stopped : (folder : List ℕ) (files : List ToWrite) (old new : Option (List Access)) (message : Message)
    → StopsAmong (Folder folder ∷ []) old new message → StopsAmong (writes_in folder files) old new message
folder_stopped folder files old new message s =
    let all : List Access = writes_in folder files in
    stopped_among all all (Folder folder ∷ []) (map write_in files) old old new message refl (begun all old) s

-- one of the files failed, after the folder
pub files_stopped : (folder : List ℕ) (files : List ToWrite) (old mid new : Option (List Access)) (message : Message)
    → mid ≡ and_then old (Folder folder ∷ []) → StopsAmong (map write_in files) mid new message
    → StopsAmong (writes_in folder files) old new message
files_stopped folder files old mid new message made s =
    let all : List Access = writes_in folder files in
    let so : Made all (map write_in files) old mid =
    further all all (Folder folder ∷ []) (map write_in files) old old mid refl (begun all old) made in
    stopped_among all (map write_in files) (map write_in files) [] old mid new message (sym (append-nil (map write_in files))) so s

-- a file is written before those that come after it
pub of_item : (files : List ResourceFile) (i : ℕ) (file : ResourceFile) → i < length files → file ≡ get_or files i file
    → map write_in (map view_file (drop i files))
    ≡ (write_in (view_file file) ∷ []) ++ map write_in (map view_file (drop (i + 1) files))
of_item files i file inside is = grind (arith, common_steps)

-- the bytes of the file are at fault
pub faulty : (e : Extraction) (bytes read : List ℕ) (old new : Option (List Access)) (message : Message)
    → new ≡ and_then old (Read e.fork.now read ∷ []) → bytes ≡ read
    → IsForkFault e.fork.now (to_write e.pieces e.out.now bytes) message → IsUnextracted e old new message
faulty e bytes read old new message is same fault =
    Faulty read is (subst (λ b. IsForkFault e.fork.now (to_write e.pieces e.out.now b) message) same fault)

-- what there was to be written was not written to its end
pub unwritten : (e : Extraction) (bytes read : List ℕ) (files sent : List ToWrite) (old then new : Option (List Access))
    (message : Message) → then ≡ and_then old (Read e.fork.now read ∷ []) → bytes ≡ read → sent ≡ files
    → to_write e.pieces e.out.now bytes ≡ Ok files → StopsAmong (writes_in e.out.now sent) then new message
    → IsUnextracted e old new message
unwritten e bytes read files sent old then new message is same all made stops =
    Unwritten read files (subst (λ b. to_write e.pieces e.out.now b ≡ Ok files) same made)
    (subst (λ x. StopsAmong (writes_in e.out.now x) (and_then old (Read e.fork.now read ∷ [])) new message) all
    (subst (λ a. StopsAmong (writes_in e.out.now sent) a new message) is stops))

-- all was written
pub extracts : (e : Extraction) (bytes read : List ℕ) (files sent : List ToWrite) (old then new : Option (List Access))
    → then ≡ and_then old (Read e.fork.now read ∷ []) → bytes ≡ read → sent ≡ files
    → to_write e.pieces e.out.now bytes ≡ Ok files → new ≡ and_then then (writes_in e.out.now sent) → Extracts e old new
extracts e bytes read files sent old then new is same all made written = (
  read,
  files,
  subst (λ b. to_write e.pieces e.out.now b ≡ Ok files) same made,
  subst (λ x. new ≡ and_then (and_then old (Read e.fork.now read ∷ [])) (writes_in e.out.now x)) all
      (subst (λ a. new ≡ and_then a (writes_in e.out.now sent)) is written),
)

-- a file was not written to its end, and that is the fault; or there was no memory to report it
pub not_written : (file : ToWrite) (p b : List ℕ) (error : WriteError) (old new : Option (List Access)) (message : Message)
    → RefusesFile p b error old new → p ≡ file.path → b ≡ file.bytes → message ≡ write_message file.path error
    → StopsAmong (write_in file ∷ []) old new message
not_written file p b error old new message fails same equal is =
    let so : RefusesFile file.path file.bytes error old new =
    subst (λ x. RefusesFile file.path x error old new) equal (subst (λ x. RefusesFile x b error old new) same fails) in
    stops_first (write_in file) [] old new message
    (so.0, so.1, unwritten_so file.path error so.0 new message so.2 is)

pub not_reported : (file : ToWrite) (p b : List ℕ) (error : WriteError) (old new : Option (List Access))
    → RefusesFile p b error old new → p ≡ file.path → b ≡ file.bytes → StopsAmong (write_in file ∷ []) old new HostMemory
not_reported file p b error old new fails same equal =
    let so : RefusesFile file.path file.bytes error old new =
    subst (λ x. RefusesFile file.path x error old new) equal (subst (λ x. RefusesFile x b error old new) same fails) in
    stops_first (write_in file) [] old new HostMemory (so.0, so.1, unreported file.path error so.0 new so.2)
