use Rattle.fork_commands.proofs.Cited.{◌≡◌, ℕ, Bool, true, false, cond, List, Some, None, Result, Ok, Err, refl, ap, decoded, File, Damage}
use Rattle.fork_commands.proofs.Cited.{is_fork, wrapping_of, unwrapped, WrapFault, Wrapping, FileFault, WorkFault, HostMemory, made_then}
use Rattle.fork_commands.proofs.Cited.{Stops, fork_found, fork_within, fork_in, content_of_fork, content_in, is_unwrapped, is_encoded}
use Rattle.fork_commands.proofs.Cited.{opened, decoded_or_fault, container_of, bytes_of, IsOpen, Option, ◌∙◌}
use Rattle.bin_hex.specs.File.{view}
use Rattle.fork_wrappers.specs.Unwrapped.{fork_in as fork_wrapped}
use Rattle.fork_wrappers.specs.declared.wrapping.Wrapping.TheVariants as wrapping
use Rattle.fork_commands.specs.declared.fault.FileFault.TheVariants as fault
use Rattle.fork_commands.specs.declared.fault.WorkFault.TheVariants.{File as FileAt}
use Rattle.fork_commands.specs.declared.opening.Container.TheVariants as container
use Rattle.fork_commands.specs.declared.opening.OpenFile.{OpenFile}
use Rattle.fork_commands.specs.declared.opening.OpenFile.TheVariants as open_file

-- What the bytes of a file stand for.

-- only a wrapper is damaged
damaged : (how : Wrapping) (bytes : List ℕ) (why : WrapFault) → fork_wrapped how bytes ≡ Err why → is_unwrapped how ≡ false
damaged wrapping.Plain bytes why is = cc
damaged _ bytes why is = refl

pub damaged_wrapper : (bytes : List ℕ) (why : WrapFault) → unwrapped bytes ≡ Err why
    → is_unwrapped (wrapping_of bytes) ≡ false
damaged_wrapper bytes why is = damaged (wrapping_of bytes) bytes why is

-- what an encoded file stands for
pub encoded_there : (bytes : List ℕ) (file : File) → is_encoded bytes ≡ true → decoded bytes ≡ Ok file
    → opened bytes ≡ Ok (Some file)
unfolding opened
encoded_there bytes file is has = rw is (rw has refl)

-- how it is damaged
pub encoded_damaged : (bytes : List ℕ) (damage : Damage) → is_encoded bytes ≡ true → decoded bytes ≡ Err damage
    → opened bytes ≡ Err (fault.BinHex damage)
unfolding opened
encoded_damaged bytes damage is has = rw is (rw has refl)

-- a file that is not encoded
pub plain_there : (bytes : List ℕ) → is_encoded bytes ≡ false → opened bytes ≡ Ok None
unfolding opened
plain_there bytes is = rw is refl

-- a fork stands for itself
pub bare_there : (bytes : List ℕ) → is_fork bytes ≡ true → opened bytes ≡ Ok None
unfolding is_encoded
bare_there bytes is =
    let plain : wrapping_of bytes ≡ wrapping.Plain = rw is refl in plain_there bytes (rw (plain, is) refl)

-- the file for which the bytes of a file stand that was opened, if they are encoded
abbrev pub decoded_of : OpenFile → Option File
decoded_of (open_file.Fork bytes) = None
decoded_of (open_file.Plain bytes) = None
decoded_of (open_file.BinHex bytes file) = Some (view file)

pub stands : (file : OpenFile) → IsOpen file → opened (bytes_of file) ≡ Ok (decoded_of file)
stands (open_file.Fork bytes) is = bare_there bytes.now is
stands (open_file.Plain bytes) is = is
stands (open_file.BinHex bytes file) is = is

-- the fork in a file that stands for itself
pub plain_fork : (bytes : List ℕ) (found : Result (List ℕ) FileFault) → opened bytes ≡ Ok None
    → fork_found (unwrapped bytes) ≡ found → fork_in bytes ≡ found
unfolding fork_in
plain_fork bytes found is has = rw is has

-- the fork in what a file stands for
pub decoded_fork : (bytes : List ℕ) (file : File) → opened bytes ≡ Ok (Some file) → fork_in bytes ≡ Ok file.resource_fork
unfolding fork_in
decoded_fork bytes file is = rw is refl

-- whether a file is encoded is known by what it stands for
not_encoded : (encoded : Bool) (file : Result File Damage) → cond encoded (decoded_or_fault file) (Ok None) ≡ Ok None
    → encoded ≡ false
not_encoded false file is = refl
not_encoded true (Ok file) is = cc
not_encoded true (Err damage) is = cc

pub has_encoded : (encoded : Bool) (read : Result File Damage) (file : File)
    → cond encoded (decoded_or_fault read) (Ok None) ≡ Ok (Some file) → encoded ≡ true
has_encoded false read file is = cc
has_encoded true read file is = refl

pub plain_container : (bytes : List ℕ) → opened bytes ≡ Ok None
    → container_of bytes ≡ container.Wrapped (wrapping_of bytes)
unfolding opened container_of
plain_container bytes is = rw (not_encoded (is_encoded bytes) (decoded bytes) is) refl

pub decoded_container : (bytes : List ℕ) (file : File) → opened bytes ≡ Ok (Some file)
    → container_of bytes ≡ container.BinHex
unfolding opened container_of
decoded_container bytes file is = rw (has_encoded (is_encoded bytes) (decoded bytes) file is) refl

-- why there is no fork, and no content, in a BinHex file that is damaged
pub no_fork_in : (bytes : List ℕ) (damage : Damage) → is_encoded bytes ≡ true → decoded bytes ≡ Err damage
    → fork_in bytes ≡ Err (fault.BinHex damage)
unfolding fork_in
no_fork_in bytes damage is has = ap (λ read. made_then read (fork_within bytes)) (encoded_damaged bytes damage is has)

pub no_content_in : (bytes : List ℕ) (damage : Damage) → is_encoded bytes ≡ true → decoded bytes ≡ Err damage
    → content_in bytes ≡ Err (fault.BinHex damage)
no_content_in bytes damage is has = ap (λ fork. made_then fork content_of_fork) (no_fork_in bytes damage is has)

-- why there is no fork in a file that is not opened
pub no_fork : (bytes : List ℕ) (fault : WorkFault) → Stops fault (opened bytes) → Stops fault (fork_in bytes)
unfolding fork_in
no_fork bytes HostMemory stops = tt
no_fork bytes (FileAt fault) stops = rw stops refl

-- why it has no content
pub no_content : (bytes : List ℕ) (fault : WorkFault) → Stops fault (opened bytes) → Stops fault (content_in bytes)
unfolding fork_in
no_content bytes HostMemory stops = tt
no_content bytes (FileAt fault) stops = rw stops refl

-- a fork is its own file
pub bare_fork : (bytes : List ℕ) → is_fork bytes ≡ true → fork_in bytes ≡ Ok bytes
bare_fork bytes is =
    let plain : wrapping_of bytes ≡ wrapping.Plain = rw is refl in
    plain_fork bytes (Ok bytes) (bare_there bytes is) (rw plain refl)

pub bare_container : (bytes : List ℕ) → is_fork bytes ≡ true → container_of bytes ≡ container.Wrapped wrapping.Plain
bare_container bytes is =
    let plain : wrapping_of bytes ≡ wrapping.Plain = rw is refl in
    plain_container bytes (bare_there bytes is) ∙ ap container.Wrapped plain
