use Rattle.res_calls.proofs.Cited.{◌≡◌, ℕ, Bool, true, false, ◌&&◌, ◌==◌, nat_lt, List, [], ◌∷◌, ◌++◌, refl, sym, ◌∙◌, ap, arith, cond}
use Rattle.res_calls.proofs.Cited.{and_parts, and_from, or_left, or_right, ltb-true, lt-ltb, eq-eqb, eqb-true, false_from_ne_true}
use Rattle.res_calls.proofs.Cited.{false≢true, list_any-append, list_any, OpenFile, first_number, falls}
use Rattle.res_calls.proofs.Soundness.Lists.{any-removed}

-- The numbers of open files fall, and end with the System's.

-- a file under the same number
pub falls-replaced : (before : List OpenFile) (x y : OpenFile) (after : List OpenFile) → y.number ≡ x.number
    → falls (before ++ x ∷ after) ≡ true → falls (before ++ y ∷ after) ≡ true
falls-replaced [] x y [] same e = ap (λ (n : ℕ). n == 0) same ∙ e
falls-replaced [] x y (g ∷ after) same e = ap (λ (n : ℕ). nat_lt g.number n && falls (g ∷ after)) same ∙ e
falls-replaced (b ∷ []) x y after same e =
    let parts = and_parts (nat_lt x.number b.number) (falls (x ∷ after)) e in
    and_from (nat_lt y.number b.number) (falls (y ∷ after)) (ap (λ (n : ℕ). nat_lt n b.number) same ∙ parts.0)
    (falls-replaced [] x y after same parts.1)
falls-replaced (b ∷ c ∷ before) x y after same e =
    let parts = and_parts (nat_lt c.number b.number) (falls ((c ∷ before) ++ x ∷ after)) e in
    and_from (nat_lt c.number b.number) (falls ((c ∷ before) ++ y ∷ after)) parts.0
    (falls-replaced (c ∷ before) x y after same parts.1)

pub first-replaced : (before : List OpenFile) (x y : OpenFile) (after : List OpenFile) → y.number ≡ x.number
    → first_number (before ++ y ∷ after) ≡ first_number (before ++ x ∷ after)
first-replaced [] x y after same = same
first-replaced (b ∷ before) x y after same = refl

-- the last file is the System's
last-number : (before : List OpenFile) (x : OpenFile) → falls (before ++ x ∷ []) ≡ true → (x.number == 0) ≡ true
last-number [] x e = e
last-number (b ∷ []) x e = (and_parts (nat_lt x.number b.number) (x.number == 0) e).1
last-number (b ∷ c ∷ before) x e =
    last-number (c ∷ before) x (and_parts (nat_lt c.number b.number) (falls ((c ∷ before) ++ x ∷ [])) e).1

less : (a b c : ℕ) → nat_lt a b ≡ true → nat_lt b c ≡ true → nat_lt a c ≡ true
less a b c first later =
    let f = ltb-true a b first in let l = ltb-true b c later in lt-ltb a c (omega arith)

-- another file goes
pub falls-removed : (before : List OpenFile) (x : OpenFile) (after : List OpenFile) → (x.number == 0) ≡ false
    → falls (before ++ x ∷ after) ≡ true → falls (before ++ after) ≡ true
falls-removed [] x [] own e = absurd (false≢true (sym own ∙ e))
falls-removed [] x (g ∷ after) own e = (and_parts (nat_lt g.number x.number) (falls (g ∷ after)) e).1
falls-removed (b ∷ []) x [] own e = absurd (false≢true (sym own ∙ last-number (b ∷ []) x e))
falls-removed (b ∷ []) x (g ∷ after) own e =
    let first = and_parts (nat_lt x.number b.number) (falls (x ∷ g ∷ after)) e in
    let rest = and_parts (nat_lt g.number x.number) (falls (g ∷ after)) first.1 in
    and_from (nat_lt g.number b.number) (falls (g ∷ after)) (less g.number x.number b.number rest.0 first.0) rest.1
falls-removed (b ∷ c ∷ before) x after own e =
    let parts = and_parts (nat_lt c.number b.number) (falls ((c ∷ before) ++ x ∷ after)) e in
    and_from (nat_lt c.number b.number) (falls ((c ∷ before) ++ after)) parts.0
    (falls-removed (c ∷ before) x after own parts.1)

pub first-removed : (before : List OpenFile) (x : OpenFile) (after : List OpenFile) (next : ℕ)
    → falls (before ++ x ∷ after) ≡ true → nat_lt (first_number (before ++ x ∷ after)) next ≡ true
    → nat_lt (first_number (before ++ after)) next ≡ true
first-removed [] x [] next e n = let f = ltb-true x.number next n in lt-ltb 0 next (omega arith)
first-removed [] x (g ∷ after) next e n =
    less g.number x.number next (and_parts (nat_lt g.number x.number) (falls (g ∷ after)) e).0 n
first-removed (b ∷ before) x after next e n = n

-- a file is opened under the next number
pub falls-opened : (f : OpenFile) (chain : List OpenFile) → falls chain ≡ true
    → nat_lt (first_number chain) f.number ≡ true → falls (f ∷ chain) ≡ true
falls-opened f [] e n = absurd (false≢true e)
falls-opened f (g ∷ older) e n = and_from (nat_lt g.number f.number) (falls (g ∷ older)) n e

-- a file is open under this number
abbrev pub is_open : ℕ → List OpenFile → Bool
is_open n chain = list_any (λ (f : OpenFile). f.number == n) chain

pub first-open : (f : OpenFile) (older : List OpenFile) → is_open f.number (f ∷ older) ≡ true
first-open f older =
    or_left (f.number == f.number) (is_open f.number older) (eq-eqb f.number f.number refl)

-- the file opened before one that goes is open, if that isn't the System's
pub older-open : (before : List OpenFile) (x : OpenFile) (after : List OpenFile) → (x.number == 0) ≡ false
    → falls (before ++ x ∷ after) ≡ true → is_open (first_number after) (before ++ after) ≡ true
older-open before x [] own e = absurd (false≢true (sym own ∙ last-number before x e))
older-open before x (g ∷ after) own e =
    list_any-append (λ (f : OpenFile). f.number == g.number) before (g ∷ after)
    ∙ or_right (is_open g.number before) (is_open g.number (g ∷ after)) (first-open g after)

-- the current file stays open, or the one opened before it is
pub closed-open : (before : List OpenFile) (x : OpenFile) (after : List OpenFile) (current : ℕ)
    → (x.number == 0) ≡ false → falls (before ++ x ∷ after) ≡ true → is_open current (before ++ x ∷ after) ≡ true
    → is_open (cond {A = ℕ} (current == x.number) (first_number after) current) (before ++ after) ≡ true
closed-open before x after current own e here = by_test (current == x.number) refl
  where
    by_test : (t : Bool) → (current == x.number) ≡ t
        → is_open (cond {A = ℕ} t (first_number after) current) (before ++ after) ≡ true
    by_test true is = older-open before x after own e
    by_test false other =
        any-removed (λ (f : OpenFile). f.number == current) before x after
        (false_from_ne_true (x.number == current)
        (λ t. false≢true (sym other ∙ eq-eqb current x.number (sym (eqb-true x.number current t)))))
        ∙ here
