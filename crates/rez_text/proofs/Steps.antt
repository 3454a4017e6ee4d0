-- Runs of steps over stretches of a text.
use Rattle.rez_text.proofs.Cited.{◌≡◌, ℕ, Result, Ok, Err, List, [], ◌∷◌, ◌++◌, replicate, zero, suc, refl, ap, ◌∙◌, Ref, FaultKind, Mode}
use Rattle.rez_text.proofs.Cited.{Place, Said, State, ◌>>=◌, step, between, Lines, finish, at_line, lines_at, read_from}
use Rattle.rez_text.specs.declared.mode.Mode.TheVariants as mode

-- a state by its parts
abbrev pub at : Mode → Place → List ℕ → ℕ → Ref → Said → State
at m p g k d c = record { mode = m; place = p; gathered = g; kind = k; draft = d; said = c }

-- where a stretch of text leads
abbrev pub run : Result State FaultKind → List ℕ → Result State FaultKind
run r [] = r
run r (b ∷ bytes) = run (r >>= step b) bytes

pub run-append : (r : Result State FaultKind) (xs ys : List ℕ) → run r (xs ++ ys) ≡ run (run r xs) ys
run-append r [] ys = refl
run-append r (x ∷ xs) ys = run-append (r >>= step x) xs ys

-- one stretch after another
pub after : (s t : State) (u : Result State FaultKind) (xs ys : List ℕ) → run (Ok s) xs ≡ Ok t → run (Ok t) ys ≡ u
    → run (Ok s) (xs ++ ys) ≡ u
after s t u xs ys e f = run-append (Ok s) xs ys ∙ ap (λ q. run q ys) e ∙ f

pub run-failed : (fault : FaultKind) (xs : List ℕ) → run (Err fault) xs ≡ Err fault
run-failed fault [] = refl
run-failed fault (x ∷ xs) = run-failed fault xs

-- what a run leads to is read, on whatever lines it stands
pub read_run : (text : List ℕ) (s t u : State) (lines : Lines) → run (Ok s) text ≡ Ok t → finish t ≡ Ok u
    → read_from lines s text ≡ Ok u
read_run [] s t u lines e f =
    let same : s ≡ t = cc in
    ap (λ r. at_line lines r (λ x. Ok x)) (ap finish same ∙ f)
read_run (b ∷ rest) s t u lines e f =
    let now = lines_at s.mode b lines in
    let go : (r : Result State FaultKind) → run r rest ≡ Ok t → at_line now r (λ x. read_from now x rest) ≡ Ok u =
    λ r. elim r as (λ v. run v rest ≡ Ok t → at_line now v (λ x. read_from now x rest) ≡ Ok u) [
      | Ok x ↦ λ k. read_run rest x t u now k f
      | Err fault ↦ λ k. let failed = run-failed fault rest in absurd (cc)
    ] in
    go (step b s) e

pub blanks : (n : ℕ) (p : Place) (g : List ℕ) (k : ℕ) (d : Ref) (c : Said)
    → run (Ok (at mode.Between p g k d c)) (replicate n 32) ≡ Ok (at mode.Between p g k d c)
unfolding step between
blanks zero p g k d c = refl
blanks (suc n) p g k d c = blanks n p g k d c
