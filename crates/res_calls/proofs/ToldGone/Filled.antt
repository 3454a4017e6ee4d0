-- What a new handle with a block makes of a heap in which each block is of a handle that was given.
use Rattle.res_calls.proofs.Cited.{◌≡◌, inl, inr, ℕ, ◌+◌, ◌≤◌, ◌<◌, ◌==◌, Bool, true, false, List, [], ◌∷◌, ◌++◌, length, refl, sym}
use Rattle.res_calls.proofs.Cited.{◌∙◌, ap, cond, arith, nat_lt, cond-true, cond-false, Decides-eqb, nat_tests, bytes_eq-Decides, bytes_eq}
use Rattle.res_calls.proofs.Cited.{Flags, Block, Free, Nonrelocatable, Masters, Relocatable, sizes, total, count, is_relocatable, has}
use Rattle.res_calls.proofs.Cited.{count-none, has-count, State, Memory, Role, Gone, gone_of, has_block, new_filled, Step, NewFilled}
use Rattle.res_calls.proofs.Cited.{stepped, gone_at, told_of, bytes_in, step-bytes, Sees, Made, Way, step-most, Adds, weight, many}
use Rattle.res_calls.proofs.Cited.{by_bytes, weighed, many-none, IsWhole}

pub many-length : (xs : List (List ℕ)) → many xs ≡ length xs
many-length [] = refl
many-length (x ∷ xs) = omega (arith, many-length xs)

-- a handle without a block
pub none-bytes : (h : ℕ) (zone : List Block) → has (is_relocatable h) zone ≡ false → bytes_in h zone ≡ []
none-bytes h zone none = many-none (bytes_in h zone)
    (omega (arith, weighed (λ x. 1) h zone, count-none (is_relocatable h) zone none))

pub has-one : (test : Block → Bool) (zone : List Block) → 1 ≤ count test zone → has test zone ≡ true
has-one test zone some = cases (has test zone) refl
  where
    cases : (t : Bool) → has test zone ≡ t → t ≡ true
    cases true e = refl
    cases false e = absurd (let c = count-none test zone e in omega arith)

-- two lists of one thing at most, the first of one, that by any measure comes to no more
abbrev other : List ℕ → List ℕ → ℕ
other y z = cond (bytes_eq z y) 0 1

other-same : (x y : List ℕ) → other y x ≤ 0 → x ≡ y
other-same x y le = cases (bytes_eq x y) refl le
  where
    cases : (t : Bool) → bytes_eq x y ≡ t → cond {A = ℕ} t 0 1 ≤ 0 → x ≡ y
    cases true e le = (bytes_eq-Decides x y).0 e
    cases false e le = absurd (let f : 1 ≤ 0 = le in omega arith)

pub same-one : (xs ys : List (List ℕ)) → many ys ≤ 1 → 1 ≤ many xs → ((f : List ℕ → ℕ) → weight f xs ≤ weight f ys)
    → xs ≡ ys
same-one [] ys few some each = absurd (omega arith)
same-one (x ∷ more) [] few some each = absurd (let l = each (λ z. 1) in omega arith)
same-one (x ∷ more) (y ∷ others) few some each =
    let l = each (λ z. 1) in
    let none_other : others ≡ [] = many-none others (omega arith) in
    let none_more : more ≡ [] = many-none more (omega arith) in
    let own : other y y ≡ 0 = cond-true (bytes_eq y y) 0 1 ((bytes_eq-Decides y y).1 refl) in
    let le = each (other y) in
    let others_none : weight (other y) others ≡ 0 = ap (weight (other y)) none_other in
    let same : x ≡ y = other-same x y (omega (arith, le, own, others_none)) in
    ap (λ (l : List (List ℕ)). x ∷ l) none_more ∙ ap (λ (z : List ℕ). z ∷ []) same
    ∙ ap (λ (l : List (List ℕ)). y ∷ l) (sym none_other)

-- what is said of one list and of another
pub told-append : (h : ℕ) (xs ys : List Gone) → told_of h (xs ++ ys) ≡ told_of h xs ++ told_of h ys
told-append h [] ys = refl
told-append h (g ∷ xs) ys = cases (g.0 == h) (told-append h xs ys)
  where
    cases : (t : Bool) → told_of h (xs ++ ys) ≡ told_of h xs ++ told_of h ys
        → cond t (g.1 ∷ told_of h (xs ++ ys)) (told_of h (xs ++ ys))
        ≡ cond t (g.1 ∷ told_of h xs) (told_of h xs) ++ told_of h ys
    cases true r = ap (λ (l : List (List ℕ)). g.1 ∷ l) r
    cases false r = r

pub told-adds : (h : ℕ) → Adds (λ l. many (told_of h l))
told-adds h [] ys = omega arith
told-adds h (g ∷ xs) ys = cases (g.0 == h) (told-adds h xs ys)
  where
    cases : (t : Bool) → many (told_of h (xs ++ ys)) ≡ many (told_of h xs) + many (told_of h ys)
        → many (cond t (g.1 ∷ told_of h (xs ++ ys)) (told_of h (xs ++ ys)))
        ≡ many (cond t (g.1 ∷ told_of h xs) (told_of h xs)) + many (told_of h ys)
    cases true r = omega arith
    cases false r = omega arith

-- a step says nothing of a number that was not given
pub step-beyond : (step : Step) (m : Memory) (h : ℕ) → length m.heap.names ≤ h → told_of h (gone_at step m) ≡ []
step-beyond step m h high =
    let most = step-most n (λ b. 0) (λ k. refl) refl (λ l. many (told_of h l)) refl (told-adds h)
    (λ b goes. one b) step m refl in
    many-none (told_of h (gone_at step m)) (omega (arith, most, unseen m.heap.zone))
  where
    n : ℕ
    n = length m.heap.names

    unseen : (zone : List Block) → total (λ b. 0) zone ≡ 0
    unseen [] = refl
    unseen (b ∷ zone) = omega (arith, unseen zone)

    one : (b : Block) → many (told_of h (gone_of n b)) ≤ 0
    one (Free k) = omega arith
    one (Nonrelocatable id content) = omega arith
    one Masters = omega arith
    one (Relocatable id flags content) = cases (nat_lt id n) (id == h) refl refl
      where
        cases : (t u : Bool) → nat_lt id n ≡ t → (id == h) ≡ u → many (told_of h (cond t ((id, content) ∷ []) [])) ≤ 0
        cases true true is same =
            absurd (let e : id ≡ h = (Decides-eqb id h).0 same in grind (arith, nat_tests, is, high))
        cases true false is same =
            let z : many (told_of h ((id, content) ∷ [])) ≡ 0 = ap {B = ℕ} (λ (u : Bool). many (cond u (content ∷ []) []))
            same in omega (arith, z)
        cases false u is same = omega arith

-- a number that was not given has no block
pub ungiven : (h : ℕ) (s : State) → IsWhole s → length s.names ≤ h → has_block h s ≡ false
ungiven h s whole high = cases (has_block h s) refl
  where
    cases : (t : Bool) → has_block h s ≡ t → t ≡ false
    cases true e = absurd (let l = whole.given h e in omega arith)
    cases false e = refl

-- the heap stays whole
abbrev one : ℕ → Block → ℕ
one h b = cond (is_relocatable h b) 1 0

one-sees : (h : ℕ) → Sees (one h)
one-sees h = ((λ n. refl), refl)

other-unseen : (h k : ℕ) (flags : Flags) (x : List ℕ) → (k == h) ≡ false → one h (Relocatable k flags x) ≡ 0
other-unseen h k flags x other = cond-false (k == h) 1 0 other

whole-from : (m after : Memory) (more : ℕ) → IsWhole m.heap → sizes after.heap.zone ≡ sizes m.heap.zone
    → length after.heap.names ≡ length m.heap.names + more
    → ((h : ℕ) → count (is_relocatable h) after.heap.zone ≤ 1)
    → ((h : ℕ) → length m.heap.names + more ≤ h → count (is_relocatable h) after.heap.zone ≤ 0) → IsWhole after.heap
whole-from m after more whole same names once none = record {
  once = once;
  given = λ h here. by_number h here (nat_lt h (length m.heap.names + more)) refl;
  small = let s = whole.small in omega arith;
}
  where
    by_number : (h : ℕ) → has_block h after.heap ≡ true → (t : Bool) → nat_lt h (length m.heap.names + more) ≡ t
        → h < length after.heap.names
    by_number h here true e = let l : h < length m.heap.names + more = grind (arith, nat_tests, e) in omega arith
    by_number h here false e = absurd (
        let l : length m.heap.names + more ≤ h = grind (arith, nat_tests, e) in
        let z = none h l in
        let c = has-count (is_relocatable h) after.heap.zone here in
        omega arith)

pub whole-filled : (role : Role) (flags : Flags) (x : List ℕ) (m : Memory) → IsWhole m.heap
    → Way flags m.heap x (new_filled role flags x m.heap) → IsWhole (stepped (NewFilled role flags x) m).heap
whole-filled role flags x m whole (inl w) =
    whole-from m (stepped (NewFilled role flags x) m) 0 whole (step-bytes (NewFilled role flags x) m)
    (omega (arith, w.names))
    (λ h. let l = w.most (one h) (one-sees h) in let o = whole.once h in omega arith)
    (λ h high. let l = w.most (one h) (one-sees h) in
    let z = count-none (is_relocatable h) m.heap.zone (ungiven h m.heap whole (omega arith)) in omega arith)
whole-filled role flags x m whole (inr w) =
    whole-from m (stepped (NewFilled role flags x) m) 1 whole (step-bytes (NewFilled role flags x) m) w.names
    (λ h. by_own h (n == h) refl)
    (λ h high. let l = w.most (one h) (one-sees h) in
    let z = count-none (is_relocatable h) m.heap.zone (ungiven h m.heap whole (omega arith)) in
    omega (arith, other-unseen h n flags x (grind (arith, nat_tests, high))))
  where
    n : ℕ
    n = length m.heap.names

    at_most : (t : Bool) → cond {A = ℕ} t 1 0 ≤ 1
    at_most true = omega arith
    at_most false = omega arith

    by_own : (h : ℕ) (t : Bool) → (n == h) ≡ t
        → count (is_relocatable h) (stepped (NewFilled role flags x) m).heap.zone ≤ 1
    by_own h true e =
        let l = w.most (one h) (one-sees h) in
        let same : n ≡ h = (Decides-eqb n h).0 e in
        let z = count-none (is_relocatable h) m.heap.zone (ungiven h m.heap whole (omega (arith, same))) in
        let a = at_most (n == h) in
        omega arith
    by_own h false e =
        let l = w.most (one h) (one-sees h) in let o = whole.once h in
        omega (arith, other-unseen h n flags x e)

-- a handle that was given before, after a new one was made: one that has a block has the bytes that it had, and one that
-- has none gets none
pub kept-most : (role : Role) (flags : Flags) (x : List ℕ) (m : Memory) (of : Block → ℕ) → Sees of
    → of (Relocatable (length m.heap.names) flags x) ≡ 0 → Way flags m.heap x (new_filled role flags x m.heap)
    → total of (stepped (NewFilled role flags x) m).heap.zone ≤ total of m.heap.zone
kept-most role flags x m of sees new (inl w) = w.most of sees
kept-most role flags x m of sees new (inr w) = let l = w.most of sees in omega (arith, new)

pub older-unseen : (f : List ℕ → ℕ) (h : ℕ) (flags : Flags) (x : List ℕ) (n : ℕ) → h < n
    → by_bytes f h (Relocatable n flags x) ≡ 0
older-unseen f h flags x n within = cond-false (n == h) (f x) 0 (grind (arith, nat_tests, within))

pub kept-bytes : (h : ℕ) (role : Role) (flags : Flags) (x : List ℕ) (m : Memory) → IsWhole m.heap
    → h < length m.heap.names → Way flags m.heap x (new_filled role flags x m.heap)
    → has_block h (stepped (NewFilled role flags x) m).heap ≡ true
    → bytes_in h (stepped (NewFilled role flags x) m).heap.zone ≡ bytes_in h m.heap.zone
kept-bytes h role flags x m whole within w here =
    same-one (bytes_in h after) (bytes_in h m.heap.zone)
    (let o = whole.once h in omega (arith, weighed (λ z. 1) h m.heap.zone))
    (let c = has-count (is_relocatable h) after here in omega (arith, weighed (λ z. 1) h after))
    (λ f. let l = kept-most role flags x m (by_bytes f h) ((λ n. refl), refl)
    (older-unseen f h flags x (length m.heap.names) within) w in
    omega (arith, weighed f h after, weighed f h m.heap.zone))
  where
    after : List Block
    after = (stepped (NewFilled role flags x) m).heap.zone

-- the new one has the bytes that were read into its block
pub new-bytes : (role : Role) (flags : Flags) (x : List ℕ) (m : Memory) → IsWhole m.heap
    → Made flags m.heap x (new_filled role flags x m.heap)
    → bytes_in (length m.heap.names) (stepped (NewFilled role flags x) m).heap.zone ≡ x ∷ []
new-bytes role flags x m whole w =
    same-one (bytes_in n after) (x ∷ []) (omega arith)
    (let c = has-count (is_relocatable n) after w.there in omega (arith, weighed (λ z. 1) n after))
    (λ f. let l = w.most (by_bytes f n) ((λ k. refl), refl) in
    let none : weight f (bytes_in n m.heap.zone) ≡ 0 =
    ap (weight f) (none-bytes n m.heap.zone (ungiven n m.heap whole (omega arith))) in
    let own : by_bytes f n (Relocatable n flags x) ≡ f x = cond-true (n == n) (f x) 0 ((Decides-eqb n n).1 refl) in
    omega (arith, weighed f n after, weighed f n m.heap.zone))
  where
    n : ℕ
    n = length m.heap.names

    after : List Block
    after = (stepped (NewFilled role flags x) m).heap.zone
