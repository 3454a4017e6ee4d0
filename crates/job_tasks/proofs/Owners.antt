-- The lines of a job, one after the other.
use Rattle.job_tasks.proofs.Cited.{◌≡◌, ℕ, zero, suc, get_or, true, List, [], ◌∷◌, ◌++◌, length, map, refl, ap, ◌∙◌, slice_set, ◌&&◌}
use Rattle.job_tasks.proofs.Cited.{nat_lt, and_parts, filter_map-append, Input, System, app_name, app_names, given_names, file_names}
use Rattle.job_tasks.proofs.Cited.{has_name, may_follow, all_follow, GivenFile, GivenApp, owner_is_in, with_file}
use Rattle.std.specs.Prelude.{not}
use Rattle.script_text.specs.Job.{App, File}
use Rattle.desk.specs.declared.job.App as desk

-- those after it may follow it
pub order_after : (above more : List Input) (i : Input) → all_follow above (i ∷ more) ≡ true
    → all_follow (above ++ i ∷ []) more ≡ true
order_after above more i order =
    (and_parts (may_follow above i) (all_follow (above ++ i ∷ []) more) order).1

-- the names with that of one line more
pub names_more : (above : List Input) (i : Input) → app_names (above ++ i ∷ []) ≡ app_names above ++ app_names (i ∷ [])
names_more above i = filter_map-append app_name above (i ∷ [])

-- what is said of each stays where one is put anew of which the same is said
pub map_kept : {X Y : Type 0} (f : X → Y) (xs : List X) (i : ℕ) (x y : X) → x ≡ get_or xs i x → f y ≡ f x
    → map f (slice_set xs i y) ≡ map f xs
map_kept f [] i x y is same = refl
map_kept f (z ∷ xs) zero x y is same = ap (λ n. n ∷ map f xs) (same ∙ ap f is)
map_kept f (z ∷ xs) (suc i) x y is same = ap (λ l. f z ∷ l) (map_kept f xs i x y is same)

-- a file that is put to one of them is a file more
pub put_file : (f : desk.App → GivenApp) (xs : List desk.App) (i : ℕ) (x y : desk.App) (file : GivenFile) → x ≡ get_or xs i x
    → f y ≡ record (f x) { files = (f x).files ++ file ∷ [] }
    → map f (slice_set xs i y) ≡ with_file i file (map f xs)
put_file f [] i x y file is more = refl
put_file f (z ∷ xs) zero x y file is more =
    ap (λ n. n ∷ map f xs) (more ∙ ap (λ a. record (f a) { files = (f a).files ++ file ∷ [] }) is)
put_file f (z ∷ xs) (suc i) x y file is more = ap (λ l. f z ∷ l) (put_file f xs i x y file is more)
