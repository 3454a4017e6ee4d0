use Rattle.fork_commands.proofs.Cited.{◌≡◌, ℕ, List, Option, Some, None, Ok, Err, refl, sym, ap, ◌∙◌, File, Info, info_of, data_fork_in}
use Rattle.fork_commands.proofs.Cited.{WrapFault, FileFault, Wrapper, ToWrite, decoded_info, info_lines, info_within, info_text, opened}
use Rattle.fork_commands.proofs.Cited.{data_found, data_in, part_files, parted, fork_in, is_fork, wrapping_of, unwrapped, true}
use Rattle.fork_commands.proofs.Opens.{bare_there}
use Rattle.fork_wrappers.specs.Info.{data_beside, data_in as data_in_wrapper}
use Rattle.fork_wrappers.specs.declared.wrapping.Wrapping.TheVariants as wrapping
use Rattle.fork_commands.specs.declared.opening.Container.TheVariants as container

-- What is known of a file that was opened.

-- by its bytes
pub plain_of : (bytes text : List ℕ) (i : Info) → i ≡ info_of bytes → text ≡ info_lines (container.Wrapped i.wrapping) i
    → text ≡ info_within bytes None
unfolding info_within
plain_of bytes text i is has = has ∙ ap (λ (k : Info). info_lines (container.Wrapped k.wrapping) k) is

-- by the file for which they stand
pub decoded_of : (bytes text : List ℕ) (file : File) (i : Info) → i ≡ decoded_info file → text ≡ info_lines container.BinHex i
    → text ≡ info_within bytes (Some file)
unfolding info_within
decoded_of bytes text file i is has = has ∙ ap (info_lines container.BinHex) is

pub told_plain : (bytes text : List ℕ) → opened bytes ≡ Ok None → text ≡ info_within bytes None → info_text bytes ≡ Ok text
unfolding info_text
told_plain bytes text is same = rw is (rw same refl)

pub told_bare : (bytes text : List ℕ) → is_fork bytes ≡ true → text ≡ info_within bytes None → info_text bytes ≡ Ok text
told_bare bytes text is same = told_plain bytes text (bare_there bytes is) same

pub told_decoded : (bytes text : List ℕ) (file : File) → opened bytes ≡ Ok (Some file)
    → text ≡ info_within bytes (Some file) → info_text bytes ≡ Ok text
unfolding info_text
told_decoded bytes text file is same = rw is (rw same refl)

-- The data fork of a file that was opened.

pub data_plain : (bytes : List ℕ) (found : Option (List ℕ)) → opened bytes ≡ Ok None → data_fork_in bytes ≡ Ok found
    → data_in bytes ≡ Ok found
unfolding data_in
data_plain bytes found is has = rw is (ap data_found has)

-- a fork has none beside it
pub data_bare : (bytes : List ℕ) → is_fork bytes ≡ true → data_in bytes ≡ Ok None
data_bare bytes is =
    let plain : wrapping_of bytes ≡ wrapping.Plain = rw is refl in
    let found : unwrapped bytes ≡ Ok bytes = rw plain refl in
    data_plain bytes None (bare_there bytes is)
    (ap (λ fork. data_beside fork bytes) found ∙ ap (λ how. Ok (data_in_wrapper how bytes)) plain)

pub data_damaged : (bytes : List ℕ) (fault : WrapFault) → opened bytes ≡ Ok None → data_fork_in bytes ≡ Err fault
    → data_in bytes ≡ Err (Wrapper fault)
unfolding data_in
data_damaged bytes fault is has = rw is (ap data_found has)

pub data_decoded : (bytes : List ℕ) (file : File) → opened bytes ≡ Ok (Some file) → data_in bytes ≡ Ok (Some file.data_fork)
unfolding data_in
data_decoded bytes file is = rw is refl

-- The parts of a file.

pub parted_there : (folder bytes fork text : List ℕ) (contents : Option (List ℕ)) (files : List ToWrite)
    → data_in bytes ≡ Ok contents → fork_in bytes ≡ Ok fork → info_text bytes ≡ Ok text
    → files ≡ part_files folder contents fork text → parted folder bytes ≡ Ok files
parted_there folder bytes fork text contents files beside found told is =
    rw (beside, found, told) (ap Ok (sym is))

pub no_data : (folder bytes : List ℕ) (fault : FileFault) → data_in bytes ≡ Err fault → parted folder bytes ≡ Err fault
no_data folder bytes fault is = rw is refl

pub no_fork_beside : (folder bytes : List ℕ) (contents : Option (List ℕ)) (fault : FileFault) → data_in bytes ≡ Ok contents
    → fork_in bytes ≡ Err fault → parted folder bytes ≡ Err fault
no_fork_beside folder bytes contents fault beside is = rw (beside, is) refl
