-- The files that a run leaves, one after the other.
use Rattle.job_tasks.proofs.Cited.{◌≡◌, ◌<◌, ◌+◌, ◌∷◌, ◌++◌, ℕ, List, [], Option, drop, get_or, length, map, arith, flat_map, common_steps}
use Rattle.job_tasks.proofs.Cited.{view_file, File, AppOutcome, AppResult, told_seen, GivenSource, Written, source_at, forks_within}
use Rattle.job_tasks.proofs.Cited.{forks_left, all_forks_left, write_of}

-- the files of one application are written before those of the others, and so is the fork of one file
pub of_app : (files : AppResult → List Written) (apps : List AppOutcome) (i : ℕ) (app : AppOutcome) → i < length apps
    → app ≡ get_or apps i app
    → map write_of (flat_map files (map told_seen (drop i apps)))
    ≡ map write_of (files (told_seen app)) ++ map write_of (flat_map files (map told_seen (drop (i + 1) apps)))
of_app files apps i app inside is = grind (arith, common_steps)

pub of_file : (folder name : List ℕ) (source : ℕ → Option (List ℕ)) (files : List File) (k : ℕ) (file : File)
    → k < length files → file ≡ get_or files k file
    → map write_of (forks_within folder name source k (map view_file (drop k files)))
    ≡ map write_of (forks_within folder name source k (view_file file ∷ []))
    ++ map write_of (forks_within folder name source (k + 1) (map view_file (drop (k + 1) files)))
of_file folder name source files k file inside is = grind (arith, common_steps)

-- the forks of one application are written before those of the others
pub of_owner : (folder : List ℕ) (sources : List GivenSource) (apps : List AppOutcome) (n : ℕ) (app : AppOutcome)
    → n < length apps → app ≡ get_or apps n app
    → map write_of (all_forks_left folder sources n (map told_seen (drop n apps)))
    ≡ map write_of (forks_left folder (source_at n sources) (told_seen app))
    ++ map write_of (all_forks_left folder sources (n + 1) (map told_seen (drop (n + 1) apps)))
of_owner folder sources apps n app inside is = grind (arith, common_steps)
