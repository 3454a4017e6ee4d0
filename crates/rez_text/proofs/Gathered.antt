-- The text of a statement is gathered as it stands.
use Rattle.rez_text.proofs.Cited.{◌≡◌, ◌==◌, ℕ, Bool, true, false, cond, not, Ok, List, [], ◌∷◌, ◌++◌, length, refl, ap, ◌∙◌, sym}
use Rattle.rez_text.proofs.Cited.{append_assoc, append-nil, eqb-true, arith, and_parts, not-true, Ref, Place, Scope, Said, type_statement}
use Rattle.rez_text.proofs.Cited.{resource_body, ends, scope_step, scope_after, keeps, ends_last, step, declaring, body}
use Rattle.rez_text.specs.declared.mode.Mode.TheVariants as mode
use Rattle.rez_text.proofs.Steps.{at, run, after}

-- Between the braces of a statement `resource`.

body_step : (b : ℕ) (r : Scope) (p : Place) (g : List ℕ) (k : ℕ) (d : Ref) (c : Said) → ends 125 1 b r ≡ false
    → step b (at (mode.Body r) p g k d c) ≡ Ok (at (mode.Body (scope_step b r)) p (g ++ b ∷ []) k d c)
unfolding step body
body_step b r p g k d c e = rw e refl

-- a text that does not end on the way leaves all as it was, but where it stands and what is gathered
pub body_run : (text : List ℕ) (r : Scope) (p : Place) (g : List ℕ) (k : ℕ) (d : Ref) (c : Said)
    → keeps 125 1 r text ≡ true
    → run (Ok (at (mode.Body r) p g k d c)) text ≡ Ok (at (mode.Body (scope_after r text)) p (g ++ text) k d c)
body_run [] r p g k d c kept = ap (λ l. Ok (at (mode.Body r) p l k d c)) (sym (append-nil g))
body_run (b ∷ text) r p g k d c kept =
    let parts = and_parts (not (ends 125 1 b r)) (keeps 125 1 (scope_step b r) text) kept in
    after (at (mode.Body r) p g k d c) (at (mode.Body (scope_step b r)) p (g ++ b ∷ []) k d c) _ (b ∷ []) text
    (body_step b r p g k d c (not-true (ends 125 1 b r) parts.0))
    (body_run text (scope_step b r) p (g ++ b ∷ []) k d c parts.1
    ∙ ap (λ l. Ok (at (mode.Body (scope_after (scope_step b r) text)) p l k d c)) (append_assoc g (b ∷ []) text))

kept_ends : (text : List ℕ) (r : Scope) → keeps 125 1 r text ≡ true → ends 125 1 125 (scope_after r text) ≡ true
kept_ends [] r kept = kept
kept_ends (b ∷ text) r kept =
    kept_ends text (scope_step b r) (and_parts (not (ends 125 1 b r)) (keeps 125 1 (scope_step b r) text) kept).1

body_ends : (r : Scope) (p : Place) (g : List ℕ) (k : ℕ) (d : Ref) (c : Said) → ends 125 1 125 r ≡ true
    → step 125 (at (mode.Body r) p g k d c) ≡ resource_body (at (mode.Body r) p g k d c)
unfolding step body
body_ends r p g k d c e = rw e refl

-- the brace after such a text closes the statement
pub body_closes : (text : List ℕ) (r : Scope) (p : Place) (g : List ℕ) (k : ℕ) (d : Ref) (c : Said)
    → keeps 125 1 r text ≡ true
    → step 125 (at (mode.Body (scope_after r text)) p g k d c)
    ≡ resource_body (at (mode.Body (scope_after r text)) p g k d c)
body_closes text r p g k d c kept = body_ends (scope_after r text) p g k d c (kept_ends text r kept)

-- In a statement `type`.

declaring_step : (b : ℕ) (r : Scope) (p : Place) (g : List ℕ) (k : ℕ) (d : Ref) (c : Said) → ends 59 0 b r ≡ false
    → step b (at (mode.Declaring r) p g k d c) ≡ Ok (at (mode.Declaring (scope_step b r)) p (g ++ b ∷ []) k d c)
unfolding step declaring
declaring_step b r p g k d c e = rw e refl

declaring_ends : (b : ℕ) (r : Scope) (p : Place) (g : List ℕ) (k : ℕ) (d : Ref) (c : Said) → ends 59 0 b r ≡ true
    → step b (at (mode.Declaring r) p g k d c) ≡ type_statement (at mode.Between p (g ++ b ∷ []) k d c)
unfolding step declaring
declaring_ends b r p g k d c e = rw e refl

last_byte : (b : ℕ) (text : List ℕ) (r : Scope) (p : Place) (g : List ℕ) (k : ℕ) (d : Ref) (c : Said)
    → ends 59 0 b r ≡ true → length text ≡ 0
    → run (Ok (at (mode.Declaring r) p g k d c)) (b ∷ text) ≡ type_statement (at mode.Between p (g ++ b ∷ text) k d c)
last_byte b [] r p g k d c e none = declaring_ends b r p g k d c e
last_byte b (x ∷ text) r p g k d c e none = absurd (omega arith)

-- a text that ends with its last byte is the text of a statement
pub declaring_run : (text : List ℕ) (r : Scope) (p : Place) (g : List ℕ) (k : ℕ) (d : Ref) (c : Said)
    → ends_last 59 0 r text ≡ true
    → run (Ok (at (mode.Declaring r) p g k d c)) text ≡ type_statement (at mode.Between p (g ++ text) k d c)
declaring_run [] r p g k d c kept = absurd (cc)
declaring_run (b ∷ text) r p g k d c kept =
    let s = at (mode.Declaring r) p g k d c in
    let go : (t : Bool) → ends 59 0 b r ≡ t → cond t (length text == 0) (ends_last 59 0 (scope_step b r) text) ≡ true
    → run (Ok s) (b ∷ text) ≡ type_statement (at mode.Between p (g ++ b ∷ text) k d c) =
    λ t. elim t as (λ v. ends 59 0 b r ≡ v → cond v (length text == 0) (ends_last 59 0 (scope_step b r) text) ≡ true
    → run (Ok s) (b ∷ text) ≡ type_statement (at mode.Between p (g ++ b ∷ text) k d c)) [
      | true ↦ λ e h. last_byte b text r p g k d c e (eqb-true (length text) 0 h)
      | false ↦ λ e h. after s (at (mode.Declaring (scope_step b r)) p (g ++ b ∷ []) k d c) _ (b ∷ []) text
          (declaring_step b r p g k d c e)
          (declaring_run text (scope_step b r) p (g ++ b ∷ []) k d c h
          ∙ ap (λ l. type_statement (at mode.Between p l k d c)) (append_assoc g (b ∷ []) text))
    ] in
    go (ends 59 0 b r) refl kept
