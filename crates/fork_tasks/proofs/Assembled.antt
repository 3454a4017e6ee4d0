-- A source that was read, the files that it names, and the fork that it states.
use Rattle.fork_tasks.proofs.Cited.{◌≡◌, ◌∷◌, ◌∙◌, ℕ, List, [], Option, Ok, Err, refl, sym, ap, subst, map, length, Bor, Declared, FileName}
use Rattle.fork_tasks.proofs.Cited.{FileFault, AsRead, packed, Faulty, Lacks, assembled, Assembly, NewFile, Access, Read, and_then}
use Rattle.fork_tasks.proofs.Cited.{reads_at, StopsReading, path_from, lacked, paths_named, types_read, IsSourceFault, States, IsUnstated}
use Rattle.fork_tasks.proofs.Cited.{Forks, IsUnforked, Puts, IsUnput, Places, IsUnplaced, Assembles, IsUnassembled, Unread, Refused}
use Rattle.fork_tasks.proofs.Cited.{Unstated, Unfit, Unknown, Unforked, Unplaced, Unwritten, Knows, IsUnknown, Delivers, IsUndelivered}
use Rattle.fork_tasks.proofs.Cited.{Message, HostMemory, Fork, IsForkFault}
use Rattle.fork_tasks.proofs.Accesses.{none}
use Rattle.fork_tasks.proofs.Packed.{none_read}

-- no files are named, and the text is at fault
pub refused_alone : (source : List ℕ) (known : List Declared) (text : List ℕ) (fault : FileFault) (old new : Option (List Access))
    (message : Message) → assembled known [] text ≡ Err (Faulty fault) → new ≡ old → message ≡ Fork source fault
    → IsUnstated source known text old new message
refused_alone source known text fault old new message is same said =
    let no_paths : paths_named source known text ≡ [] = ap (λ r. map (path_from source) (lacked r)) is in
    Refused [] (ap length (sym no_paths)) (same ∙ none old ∙ ap (λ ps. and_then old (reads_at ps [])) (sym no_paths))
    (subst (λ m. IsSourceFault source (assembled known [] text) m) (sym said) (refl, is))

-- there is no memory
pub unstated_memory : (source : List ℕ) (known : List Declared) (text : List ℕ) (old new : Option (List Access)) → new ≡ old
    → IsUnstated source known text old new HostMemory
unstated_memory source known text old new same =
    Unread (subst (λ a. StopsReading (paths_named source known text) old a HostMemory) (sym same) (none_read _ old))

-- the paths of the files that are named
each_path : (source : List ℕ) (names : List FileName)
    → map (λ name. path_from source name.bytes.items) names ≡ map (path_from source) (map (λ name. name.bytes.items) names)
each_path source [] = refl
each_path source (name ∷ names) = ap (λ l. path_from source name.bytes.items ∷ l) (each_path source names)

pub named_so : (source : List ℕ) (known : List Declared) (text : List ℕ) (names : List FileName) (paths : List (List ℕ))
    → assembled known [] text ≡ Err (Lacks (map (λ name. name.bytes.items) names))
    → paths ≡ map (λ name. path_from source name.bytes.items) names → paths ≡ paths_named source known text
named_so source known text names paths is so =
    so ∙ each_path source names ∙ ap (λ r. map (path_from source) (lacked r)) (sym is)

-- a file that is named is not read
pub unread_named : (source : List ℕ) (known : List Declared) (text : List ℕ) (paths : List (List ℕ)) (old new : Option (List Access))
    (message : Message) → paths ≡ paths_named source known text → StopsReading paths old new message
    → IsUnstated source known text old new message
unread_named source known text paths old new message so stops =
    Unread (subst (λ ps. StopsReading ps old new message) so stops)

-- the fork is stated with the files that were read
pub states_with : (source : List ℕ) (known : List Declared) (text fork : List ℕ) (paths files given : List (List ℕ))
    (old new : Option (List Access)) → paths ≡ paths_named source known text → length files ≡ length paths
    → new ≡ and_then old (reads_at paths files) → given ≡ files → assembled known given text ≡ Ok fork
    → States source known text fork old new
states_with source known text fork paths files given old new so count read same is = record {
  files = files;
  count = count ∙ ap length so;
  made = subst (λ f. assembled known f text ≡ Ok fork) same is;
  reads = read ∙ ap (λ ps. and_then old (reads_at ps files)) so;
}

pub refused_with : (source : List ℕ) (known : List Declared) (text : List ℕ) (paths files given : List (List ℕ))
    (old new : Option (List Access)) (message : Message) → paths ≡ paths_named source known text → length files ≡ length paths
    → new ≡ and_then old (reads_at paths files) → given ≡ files
    → IsSourceFault source (assembled known given text) message → IsUnstated source known text old new message
refused_with source known text paths files given old new message so count read same fault =
    Refused files (count ∙ ap length so) (read ∙ ap (λ ps. and_then old (reads_at ps files)) so)
    (subst (λ f. IsSourceFault source (assembled known f text) message) same fault)

-- the source was read before
pub forks_of : (source : List ℕ) (known : List Declared) (text read fork : List ℕ) (old mid new : Option (List Access))
    → mid ≡ and_then old (Read source read ∷ []) → text ≡ read → States source known text fork mid new
    → Forks source known fork old new
forks_of source known text read fork old mid new is same states = (
  read,
  subst (λ a. States source known read fork a new) is (subst (λ t. States source known t fork mid new) same states),
)

pub unforked_of : (source : List ℕ) (known : List Declared) (text read : List ℕ) (old mid new : Option (List Access))
    (message : Message) → mid ≡ and_then old (Read source read ∷ []) → text ≡ read
    → IsUnstated source known text mid new message → IsUnforked source known old new message
unforked_of source known text read old mid new message is same stops = Unstated read
    (subst (λ a. IsUnstated source known read a new message) is
    (subst (λ t. IsUnstated source known t mid new message) same stops))

-- the file was read into which the fork is put
pub puts_of : (path fork file read out : List ℕ) (old new : Option (List Access)) → new ≡ and_then old (Read path read ∷ [])
    → file ≡ read → packed AsRead file fork ≡ Ok out → Puts path fork out old new
puts_of path fork file read out old new is same made = (read, subst (λ f. packed AsRead f fork ≡ Ok out) same made, is)

pub unfit_of : (path fork file read : List ℕ) (old new : Option (List Access)) (message : Message)
    → new ≡ and_then old (Read path read ∷ []) → file ≡ read → IsForkFault path (packed AsRead file fork) message
    → IsUnput path fork old new message
unfit_of path fork file read old new message is same fault =
    Unfit read is (subst (λ f. IsForkFault path (packed AsRead f fork) message) same fault)

-- the paths of the files of declarations, as they were handed on
knows_so : (a : Assembly) (paths : List (Bor (List ℕ))) (known : List Declared) (old new : Option (List Access))
    → paths ≡ a.types.items → Knows (map (λ path. path.now) paths) known old new → Knows (types_read a) known old new
knows_so a paths known old new is knows = subst (λ l. Knows (map (λ path. path.now) l) known old new) is knows

-- the types of a file are not declared
pub unknown : (a : Assembly) (paths : List (Bor (List ℕ))) (p q : Option (List ℕ)) (old new : Option (List Access))
    (message : Message) → q ≡ p → paths ≡ a.types.items → IsUnknown (map (λ path. path.now) paths) old new message
    → IsUnassembled a p q old new message
unknown a paths p q old new message silent is stops =
    Unknown silent (subst (λ l. IsUnknown (map (λ path. path.now) l) old new message) is stops)

-- the source states no fork
pub unforked : (a : Assembly) (paths : List (Bor (List ℕ))) (known : List Declared) (p q : Option (List ℕ))
    (old first new : Option (List Access)) (message : Message) → q ≡ p → paths ≡ a.types.items
    → Knows (map (λ path. path.now) paths) known old first → IsUnforked a.source.now known first new message
    → IsUnassembled a p q old new message
unforked a paths known p q old first new message silent is knows stops =
    Unforked known first silent (knows_so a paths known old first is knows) stops

-- the fork is not put into a file
pub unplaced : (a : Assembly) (paths : List (Bor (List ℕ))) (known : List Declared) (fork : List ℕ) (p q : Option (List ℕ))
    (old first mid new : Option (List Access)) (message : Message) → q ≡ p → paths ≡ a.types.items
    → Knows (map (λ path. path.now) paths) known old first → Forks a.source.now known fork first mid
    → IsUnplaced a.into fork mid new message → IsUnassembled a p q old new message
unplaced a paths known fork p q old first mid new message silent is knows forks stops =
    Unplaced known fork first mid silent (knows_so a paths known old first is knows) forks stops

-- the fork was not written to its end, or it was
pub unwritten : (a : Assembly) (paths : List (Bor (List ℕ))) (known : List Declared) (fork out sent : List ℕ)
    (p before q : Option (List ℕ)) (old first mid last new : Option (List Access)) (message : Message) → before ≡ p
    → paths ≡ a.types.items → Knows (map (λ path. path.now) paths) known old first → Forks a.source.now known fork first mid
    → Places a.into fork out mid last → sent ≡ out → IsUndelivered (NewFile a.out) sent before q last new message
    → IsUnassembled a p q old new message
unwritten a paths known fork out sent p before q old first mid last new message silent is knows forks places all h =
    Unwritten known fork out first mid last (knows_so a paths known old first is knows) forks places
    (subst (λ x. IsUndelivered (NewFile a.out) x p q last new message) all
    (subst (λ x. IsUndelivered (NewFile a.out) sent x q last new message) silent h))

pub assembles : (a : Assembly) (paths : List (Bor (List ℕ))) (known : List Declared) (fork out sent : List ℕ)
    (p before q : Option (List ℕ)) (old first mid last new : Option (List Access)) → before ≡ p
    → paths ≡ a.types.items → Knows (map (λ path. path.now) paths) known old first → Forks a.source.now known fork first mid
    → Places a.into fork out mid last → sent ≡ out → Delivers (NewFile a.out) sent before q last new
    → Assembles a p q old new
assembles a paths known fork out sent p before q old first mid last new silent is knows forks places all h = record {
  known = known;
  first = first;
  knows = knows_so a paths known old first is knows;
  fork = fork;
  mid = mid;
  forks = forks;
  out = out;
  last = last;
  places = places;
  writes = subst (λ x. Delivers (NewFile a.out) x p q last new) all
      (subst (λ x. Delivers (NewFile a.out) sent x q last new) silent h);
}
