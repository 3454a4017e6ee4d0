use Rattle.real_zone.proofs.Cited.{◌≡◌, ℕ, zero, suc, ◌+◌, ◌-◌, ◌%◌, ◌<◌, ◌≤◌, Bool, true, false, ◌&&◌, cond, List, [], ◌∷◌, length, refl}
use Rattle.real_zone.proofs.Cited.{sym, ◌∙◌, ap, arith, sum_by, add_assoc, ◌==◌, nat_le, list_all, and_parts, leb-true, eqb-true, eq-eqb}
use Rattle.real_zone.proofs.Cited.{ne_eqb, cond-false, cond-true, sum_by-cons, alignment, size_at, has_room, is_size, is_passable, places}
use Rattle.real_zone.proofs.Cited.{places_from, Form}

-- Walking over the blocks of a zone.

-- what is known of a passable block
pub record Passes (f : Form) (bytes : List ℕ) (at : ℕ) : Type 0 where
  pub room : at + 12 ≤ length bytes
  pub least : 12 ≤ size_at f bytes at
  pub aligned : size_at f bytes at % alignment f ≡ 0
  pub whole : at + size_at f bytes at ≤ length bytes

pub passes : (f : Form) (bytes : List ℕ) (at : ℕ) → is_passable f bytes at ≡ true → Passes f bytes at
unfolding is_passable
passes f bytes at h =
    let a = and_parts (has_room bytes at && is_size f (size_at f bytes at)) (nat_le (at + size_at f bytes at) (length bytes)) h in
    let b = and_parts (has_room bytes at) (is_size f (size_at f bytes at)) a.0 in
    let c = and_parts (nat_le 12 (size_at f bytes at)) (size_at f bytes at % alignment f == 0) b.1 in
    record {
      room = leb-true (at + 12) (length bytes) b.0;
      least = leb-true 12 (size_at f bytes at) c.0;
      aligned = eqb-true (size_at f bytes at % alignment f) 0 c.1;
      whole = leb-true (at + size_at f bytes at) (length bytes) a.1;
    }

pub room : (f : Form) (bytes : List ℕ) (at : ℕ) → is_passable f bytes at ≡ true → at + 12 ≤ length bytes
room f bytes at h = (passes f bytes at h).room

-- where the next block stands
abbrev pub next : Form → List ℕ → ℕ → ℕ
next f bytes at = at + size_at f bytes at

-- as many blocks as there are bytes are all
pub enough : (f : Form) (bytes : List ℕ) (n m at : ℕ) → at ≤ length bytes → length bytes - at ≤ n → length bytes - at ≤ m
    → places f bytes n at ≡ places f bytes m at
unfolding places
enough f bytes zero zero at r h k = refl
enough f bytes zero (suc m) at r h k =
    let e : at ≡ length bytes = omega arith in
    sym (cond-true (at == length bytes) [] (at ∷ cond (is_passable f bytes at) (places f bytes m (next f bytes at)) [])
    (eq-eqb at (length bytes) e))
enough f bytes (suc n) zero at r h k =
    let e : at ≡ length bytes = omega arith in
    cond-true (at == length bytes) [] (at ∷ cond (is_passable f bytes at) (places f bytes n (next f bytes at)) [])
    (eq-eqb at (length bytes) e)
enough f bytes (suc n) (suc m) at r h k =
    cases (at == length bytes) (is_passable f bytes at) refl
    (λ p. let q : Passes f bytes at = passes f bytes at p in
    enough f bytes n m (next f bytes at) (omega arith) (omega arith) (omega arith))
  where
    cases : (e p : Bool) → is_passable f bytes at ≡ p
        → (is_passable f bytes at ≡ true → places f bytes n (next f bytes at) ≡ places f bytes m (next f bytes at))
        → cond e [] (at ∷ cond p (places f bytes n (next f bytes at)) [])
        ≡ cond e [] (at ∷ cond p (places f bytes m (next f bytes at)) [])
    cases true p is same = refl
    cases false false is same = refl
    cases false true is same = ap (λ l. at ∷ l) (same is)

-- the blocks after the one at a place
abbrev pub rest_after : Form → List ℕ → ℕ → List ℕ
rest_after f bytes at = cond (is_passable f bytes at) (places f bytes (length bytes - at - 1) (next f bytes at)) []

-- below bkLim stands a block
pub first_place : (f : Form) (bytes : List ℕ) (at : ℕ) → at < length bytes
    → places_from f bytes at ≡ at ∷ rest_after f bytes at
unfolding places
first_place f bytes at h =
    let e : length bytes - at ≡ suc (length bytes - at - 1) = omega arith in
    ap (λ n. places f bytes n at) e
    ∙ cond-false (at == length bytes) [] (at ∷ rest_after f bytes at) (ne_eqb at (length bytes) (λ q. omega arith))

-- and where it is passable, all others stand after it
pub next_places : (f : Form) (bytes : List ℕ) (at : ℕ) → is_passable f bytes at ≡ true
    → places_from f bytes at ≡ at ∷ places_from f bytes (next f bytes at)
next_places f bytes at p =
    let q : Passes f bytes at = passes f bytes at p in
    first_place f bytes at (omega arith)
    ∙ ap (λ l. at ∷ l)
    (cond-true (is_passable f bytes at) (places f bytes (length bytes - at - 1) (next f bytes at)) [] p
    ∙ enough f bytes (length bytes - at - 1) (length bytes - next f bytes at) (next f bytes at) (omega arith) (omega arith)
    (omega arith))

-- at bkLim stands none
pub no_places : (f : Form) (bytes : List ℕ) (at : ℕ) → length bytes ≤ at → places_from f bytes at ≡ []
unfolding places
no_places f bytes at h =
    let e : length bytes - at ≡ zero = omega arith in
    ap (λ n. places f bytes n at) e

-- a test that all blocks from a place on pass, at the first of them and at the others
pub all_here : (p : ℕ → Bool) (f : Form) (bytes : List ℕ) (at : ℕ) → at < length bytes
    → list_all p (places_from f bytes at) ≡ true → p at ≡ true
all_here p f bytes at h all =
    (and_parts (p at) (list_all p (rest_after f bytes at)) (sym (ap (list_all p) (first_place f bytes at h)) ∙ all)).0

pub all_after : (p : ℕ → Bool) (f : Form) (bytes : List ℕ) (at : ℕ) → is_passable f bytes at ≡ true
    → list_all p (places_from f bytes at) ≡ true → list_all p (places_from f bytes (next f bytes at)) ≡ true
all_after p f bytes at passing all =
    (and_parts (p at) (list_all p (places_from f bytes (next f bytes at)))
    (sym (ap (list_all p) (next_places f bytes at passing)) ∙ all)).1

pub tiled_here : (f : Form) (bytes : List ℕ) (at : ℕ) → at < length bytes
    → list_all (is_passable f bytes) (places_from f bytes at) ≡ true → is_passable f bytes at ≡ true
tiled_here f bytes at h all = all_here (is_passable f bytes) f bytes at h all

pub tiled_after : (f : Form) (bytes : List ℕ) (at : ℕ) → at < length bytes
    → list_all (is_passable f bytes) (places_from f bytes at) ≡ true
    → list_all (is_passable f bytes) (places_from f bytes (next f bytes at)) ≡ true
tiled_after f bytes at h all = all_after (is_passable f bytes) f bytes at (tiled_here f bytes at h all) all

-- a sum over all blocks from a place on
pub sum_goes_on : (f : Form) (bytes : List ℕ) (size : ℕ → ℕ) (at sum total : ℕ) → is_passable f bytes at ≡ true
    → sum + sum_by size (places_from f bytes at) ≡ total
    → sum + size at + sum_by size (places_from f bytes (next f bytes at)) ≡ total
sum_goes_on f bytes size at sum total p e =
    add_assoc sum (size at) (sum_by size (places_from f bytes (next f bytes at)))
    ∙ ap (λ n. sum + n) (sym (ap (sum_by size) (next_places f bytes at p)
    ∙ sum_by-cons size at (places_from f bytes (next f bytes at)))) ∙ e

pub sum_ends : (f : Form) (bytes : List ℕ) (size : ℕ → ℕ) (at sum total : ℕ) → length bytes ≤ at
    → sum + sum_by size (places_from f bytes at) ≡ total → sum ≡ total
sum_ends f bytes size at sum total h e =
    let z : sum ≡ sum + 0 = omega arith in
    z ∙ ap (λ l. sum + sum_by size l) (sym (no_places f bytes at h)) ∙ e
