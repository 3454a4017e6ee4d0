-- A fork as it is written.
use Rattle.job_tasks.proofs.Cited.{◌≡◌, ℕ, List, Some, Ok, Err, ap, packed, FileFault, AsRead, file_or, kept}

-- it is put into its file
pub kept_made : (file fork made : List ℕ) → packed AsRead file fork ≡ Ok made → kept (Some file) fork ≡ made
kept_made file fork made is = ap (file_or fork) is

-- it doesn't fit its file
pub kept_alone : (file fork : List ℕ) (fault : FileFault) → packed AsRead file fork ≡ Err fault → kept (Some file) fork ≡ fork
kept_alone file fork fault is = ap (file_or fork) is
