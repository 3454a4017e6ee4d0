use Rattle.std.specs.Prelude.{◌≡◌, ◌⊎◌, ℕ, Option, Some, None, Result, Ok, Err, List, [], ◌∷◌, ◌++◌, length}
use Rattle.fork_tasks.specs.declared.fault.ToolFault.{ToolFault}
use Rattle.fork_tasks.specs.declared.host.ReadError.{ReadError}
use Rattle.fork_tasks.specs.declared.host.ReadError.TheVariants as read_error
use Rattle.fork_tasks.specs.declared.host.WriteError.{WriteError}
use Rattle.fork_tasks.specs.declared.host.WriteError.TheVariants as write_error
use Rattle.fork_tasks.specs.Fault.{Message, CannotRead, CannotWrite, HostMemory, message_of, write_message}

-- The accesses of the program to its host's files.

-- An access: a file was read, the files below a folder were listed, a folder was made, a file was written, or the host refused
-- a path: a file was not read, a folder was not listed or not made, or a file was not written to its end. The path `-` stands
-- for the standard output.
pub data Access : Type 0 where
  Read : (path : List ℕ) → (bytes : List ℕ) → Access
  Listed : (path : List ℕ) → (files : List (List ℕ)) → Access
  Folder : (path : List ℕ) → Access
  Write : (path : List ℕ) → (bytes : List ℕ) → Access
  Failed : (path : List ℕ) → Access

-- The accesses so far with those that follow, if the former are known.
abbrev pub and_then : Option (List Access) → List Access → Option (List Access)
and_then None more = None
and_then (Some accesses) more = Some (accesses ++ more)

-- Files are read at these paths, in order, up to the first path without bytes.
abbrev pub reads_at : List (List ℕ) → List (List ℕ) → List Access
reads_at [] texts = []
reads_at (path ∷ paths) [] = []
reads_at (path ∷ paths) (bytes ∷ texts) = Read path bytes ∷ reads_at paths texts

-- Nothing of a file was written, or a front of its bytes.
abbrev pub WritesFront : List ℕ → List ℕ → Option (List Access) → Option (List Access) → Type 0
WritesFront path bytes old new =
    (new ≡ old)
    ⊎ ((front : List ℕ) × (rest : List ℕ) × (bytes ≡ front ++ rest) × (new ≡ and_then old (Write path front ∷ [])))

-- What a host does that fails: it refuses the path, or is out of memory and does nothing.
abbrev pub RefusesRead : List ℕ → ReadError → Option (List Access) → Option (List Access) → Type 0
RefusesRead path read_error.CannotRead old new = new ≡ and_then old (Failed path ∷ [])
RefusesRead path read_error.HostMemory old new = new ≡ old

abbrev pub RefusesWrite : List ℕ → WriteError → Option (List Access) → Option (List Access) → Type 0
RefusesWrite path write_error.CannotWrite old new = new ≡ and_then old (Failed path ∷ [])
RefusesWrite path write_error.HostMemory old new = new ≡ old

-- A file of these bytes was not written to its end: a front of the bytes may have been written before.
abbrev pub RefusesFile : List ℕ → List ℕ → WriteError → Option (List Access) → Option (List Access) → Type 0
RefusesFile path bytes error old new =
    (mid : Option (List Access)) × WritesFront path bytes old mid × RefusesWrite path error mid new

-- A file was not read: the host refused its path, and that is the fault, or is out of memory.
abbrev pub IsUnread : List ℕ → Option (List Access) → Option (List Access) → Message → Type 0
IsUnread path old new HostMemory = new ≡ old
IsUnread path old new message = (message ≡ CannotRead path) × (new ≡ and_then old (Failed path ∷ []))

-- The host refused to write to a path, and that is the fault; or it is out of memory, which may be so as the fault is
-- reported.
abbrev pub IsUnwritten : List ℕ → Option (List Access) → Option (List Access) → Message → Type 0
IsUnwritten path old new HostMemory = (new ≡ old) ⊎ (new ≡ and_then old (Failed path ∷ []))
IsUnwritten path old new message = (message ≡ CannotWrite path) × (new ≡ and_then old (Failed path ∷ []))

-- A file of these bytes was not written to its end, and that is the fault.
abbrev pub IsPartWritten : List ℕ → List ℕ → Option (List Access) → Option (List Access) → Message → Type 0
IsPartWritten path bytes old new message =
    (mid : Option (List Access)) × WritesFront path bytes old mid × IsUnwritten path mid new message

-- An access was not done to its end, and that is the fault.
abbrev pub Fails : Access → Option (List Access) → Option (List Access) → Message → Type 0
Fails (Read path bytes) old new message = IsUnread path old new message
Fails (Listed path files) old new message = IsUnread path old new message
Fails (Folder path) old new message = IsUnwritten path old new message
Fails (Write path bytes) old new message = IsPartWritten path bytes old new message
Fails (Failed path) old new message = ⊥

-- The file at the first of these paths was not read: the host refused the path, and that is the fault, or is out of memory.
abbrev pub IsNextUnread : List (List ℕ) → Option (List Access) → Option (List Access) → Message → Type 0
IsNextUnread paths old new HostMemory = new ≡ old
IsNextUnread [] old new message = ⊥
IsNextUnread (path ∷ paths) old new message = IsUnread path old new message

-- Of the files at these paths the first were read, the next one was not, and no other was asked for.
pub record StopsReading (paths : List (List ℕ)) (old new : Option (List Access)) (message : Message) : Type 0 where
  pub first : List (List ℕ)
  pub rest : List (List ℕ)
  pub split : paths ≡ first ++ rest
  pub texts : List (List ℕ)
  pub count : length texts ≡ length first
  pub stops : IsNextUnread rest (and_then old (reads_at first texts)) new message

-- What stops the reading of several files: the host refused the path that the fault names, and is asked for nothing
-- after it; where the fault is another, it refused nothing.
abbrev pub Stops : Option (List Access) → Option (List Access) → Message → Type 0
Stops mid new (CannotRead path) = new ≡ and_then mid (Failed path ∷ [])
Stops mid new message = new ≡ mid

-- Several files were read, or the reading stopped.
abbrev pub Ends : {X : Type 0} → Option (List Access) → Option (List Access) → Result X ToolFault → Type 0
Ends mid new (Ok x) = new ≡ mid
Ends mid new (Err fault) = Stops mid new (message_of fault)

-- The path of an access.
abbrev pub path_of : Access → List ℕ
path_of (Read path bytes) = path
path_of (Listed path files) = path
path_of (Folder path) = path
path_of (Write path bytes) = path
path_of (Failed path) = path

-- Of these accesses the first were made, one failed, at this path, and none was made after it.
pub record StopsAt (all : List Access) (old new : Option (List Access)) (path : List ℕ) (error : WriteError)
    : Type 0 where
  pub first : List Access
  pub next : Access
  pub rest : List Access
  pub split : all ≡ first ++ next ∷ rest
  pub fails : Fails next (and_then old first) new (write_message path error)
  pub named : path ≡ path_of next

-- Of these accesses the first were made, one failed, which is the fault, and none was made after it.
pub record StopsAmong (all : List Access) (old new : Option (List Access)) (message : Message) : Type 0 where
  pub first : List Access
  pub next : Access
  pub rest : List Access
  pub split : all ≡ first ++ next ∷ rest
  pub fails : Fails next (and_then old first) new message
