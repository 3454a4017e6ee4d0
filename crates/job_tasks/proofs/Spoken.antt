-- The transcripts of a run, in words.
use Rattle.job_tasks.proofs.Cited.{◌≡◌, ◌<◌, ◌+◌, ◌∷◌, ◌++◌, ◌∙◌, ℕ, List, [], refl, sym, ap, length, map, take, drop, get_or, slice_get}
use Rattle.job_tasks.proofs.Cited.{Vec, append_assoc, arith, slice_get-map, slice_get_read, slice_get_past, IsItemAt, Global, drop_more}
use Rattle.job_tasks.proofs.Cited.{drop-set-lt, take_more_set, map-append, option_map, slice_set, Job, AppOutcome, AppResult, told_seen}
use Rattle.job_tasks.proofs.Cited.{system_of, app_in_words, apps_in_words}
use Rattle.std.proofs.Common.{Bor}
use Rattle.std.specs.Prelude.{Option, Some, None}

-- the applications, of which the first `i` are in words, with the others put into words
abbrev pub from : Job → List (List ℕ) → ℕ → List AppOutcome → List AppResult
from job scripts i apps = map told_seen (take i apps) ++ apps_in_words job scripts i (map told_seen (drop i apps))

-- the next one is put into words
pub one_more : (job : Job) (scripts : List (List ℕ)) (i : ℕ) (apps : List AppOutcome) (x y : AppOutcome) → i < length apps
    → x ≡ get_or apps i x
    → told_seen y ≡ app_in_words (system_of job) (slice_get job.apps.items i) (slice_get scripts i) (told_seen x)
    → from job scripts (i + 1) (slice_set apps i y) ≡ from job scripts i apps
one_more job scripts i apps x y within is said =
    let rest : List AppResult = map told_seen (drop (i + 1) apps) in
    ap (λ xs. map told_seen xs ++ apps_in_words job scripts (i + 1) (map told_seen (drop (i + 1) (slice_set apps i y))))
    (take_more_set apps i y within)
    ∙ ap (λ xs. map told_seen (take i apps ++ y ∷ []) ++ apps_in_words job scripts (i + 1) (map told_seen xs))
    (drop-set-lt (i + 1) apps i y (omega (arith, within)))
    ∙ ap (λ xs. xs ++ apps_in_words job scripts (i + 1) rest) (map-append told_seen (take i apps) (y ∷ []))
    ∙ append_assoc (map told_seen (take i apps)) (told_seen y ∷ []) (apps_in_words job scripts (i + 1) rest)
    ∙ ap (λ t. map told_seen (take i apps) ++ (t ∷ apps_in_words job scripts (i + 1) rest)) said
    ∙ ap (λ z. map told_seen (take i apps) ++ (app_in_words (system_of job) (slice_get job.apps.items i) (slice_get scripts i)
    (told_seen z) ∷ apps_in_words job scripts (i + 1) rest)) is
    ∙ ap (λ xs. map told_seen (take i apps) ++ apps_in_words job scripts i (map told_seen xs))
    (sym (drop_more apps i x within))

-- the text of a script that is lent
lent : {A : Type 0} (t : Option (Bor (Vec A Global))) → option_map (λ b. b.now.items) t
    ≡ option_map (λ (v : Vec A Global). v.items) (option_map (λ b. b.now) t)
lent None = refl
lent (Some b) = refl

pub text_at : (texts : List (Vec ℕ Global)) (i : ℕ) (t : Option (Bor (Vec ℕ Global)))
    → option_map (λ b. b.now) t ≡ slice_get texts i
    → option_map (λ b. b.now.items) t ≡ slice_get (map (λ (v : Vec ℕ Global). v.items) texts) i
text_at texts i t is = lent t ∙ ap (option_map (λ (v : Vec ℕ Global). v.items)) is
    ∙ sym (slice_get-map (λ (v : Vec ℕ Global). v.items) texts i)

-- an element that is lent is the one at its place
pub got : {X : Type 0} (xs : List X) (i : ℕ) (r : Option (Bor X)) → IsItemAt xs i r → option_map (λ b. b.now) r ≡ slice_get xs i
got xs i None item = sym (slice_get_past xs i item.3)
got xs i (Some b) item = sym (slice_get_read xs (length xs) i b.now refl item.3.0 item.1)
