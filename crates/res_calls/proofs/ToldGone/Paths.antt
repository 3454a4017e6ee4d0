-- What a path of new handles with blocks reports of each handle is what the handle loses.
use Rattle.res_calls.proofs.Cited.{◌≡◌, inl, inr, ℕ, ◌+◌, ◌≤◌, ◌<◌, ◌==◌, ◌||◌, Bool, true, false, List, [], ◌∷◌, ◌++◌, length, refl, sym}
use Rattle.res_calls.proofs.Cited.{◌∙◌, ap, subst, cond, arith, nat_lt, cond-true, cond-false, Decides-eqb, nat_tests, Flags, sizes, count}
use Rattle.res_calls.proofs.Cited.{is_relocatable, GREATEST_ZONE, count-none, none-count, State, Memory, Role, Gone, has_block, new_filled}
use Rattle.res_calls.proofs.Cited.{Way, Made, way, Step, NewFilled, NewEmpty, Refill, Release, Cast, stepped, gone_at, read_by, walk, reads}
use Rattle.res_calls.proofs.Cited.{step_disposes, told_of, bytes_in, step-tells-what-goes, IsWhole}
use Rattle.std.proofs.Common.{append-nil}
use Rattle.res_calls.proofs.ToldGone.Filled.{told-append, none-bytes, step-beyond, whole-filled}
use Rattle.res_calls.proofs.ToldGone.Filled.{kept-most, kept-bytes, new-bytes}

-- each of the steps makes a handle with a block
abbrev pub Fills : List Step → Type 0
Fills [] = Unit {0}
Fills (NewFilled role flags bytes ∷ steps) = Fills steps
Fills (NewEmpty role ∷ steps) = ⊥
Fills (Refill h flags bytes ∷ steps) = ⊥
Fills (Release h ∷ steps) = ⊥
Fills (Cast change h ∷ steps) = ⊥

-- what they purge
abbrev pub gone_along : List Step → Memory → List Gone
gone_along [] m = []
gone_along (step ∷ steps) m = gone_at step m ++ gone_along steps (stepped step m)

-- no fewer numbers are given after one
grows : (flags : Flags) (x : List ℕ) (s : State) (role : Role) → Way flags s x (new_filled role flags x s)
    → length s.names ≤ length (new_filled role flags x s).names
grows flags x s role (inl w) = omega (arith, w.names)
grows flags x s role (inr w) = omega (arith, w.names)

-- a handle that was given before gets no block
pub later-most : (h : ℕ) (steps : List Step) (m : Memory) → Fills steps → h < length m.heap.names
    → count (is_relocatable h) (walk steps m).heap.zone ≤ count (is_relocatable h) m.heap.zone
later-most h [] m fills within = omega arith
later-most h (NewFilled role flags x ∷ steps) m fills within =
    let w = way role flags x m.heap in
    let a = kept-most role flags x m (λ b. cond (is_relocatable h b) 1 0) ((λ n. refl), refl)
    (cond-false (length m.heap.names == h) 1 0 (grind (arith, nat_tests, within))) w in
    let g = grows flags x m.heap role w in
    let l = later-most h steps (stepped (NewFilled role flags x) m) fills (omega arith) in
    omega arith
later-most h (NewEmpty role ∷ steps) m fills within = absurd fills
later-most h (Refill k flags bytes ∷ steps) m fills within = absurd fills
later-most h (Release k ∷ steps) m fills within = absurd fills
later-most h (Cast change k ∷ steps) m fills within = absurd fills

pub never-back : (h : ℕ) (steps : List Step) (m : Memory) → Fills steps → h < length m.heap.names
    → has_block h m.heap ≡ false → has_block h (walk steps m).heap ≡ false
never-back h steps m fills within none =
    let l = later-most h steps m fills within in
    let z = count-none (is_relocatable h) m.heap.zone none in
    none-count (is_relocatable h) (walk steps m).heap.zone (omega arith)

-- and nothing is read into its block
pub unread-before : (h : ℕ) (steps : List Step) (m : Memory) → Fills steps → h < length m.heap.names
    → told_of h (reads steps m) ≡ []
unread-before h [] m fills within = refl
unread-before h (NewFilled role flags x ∷ steps) m fills within =
    told-append h (read_by (NewFilled role flags x) m) (reads steps (stepped (NewFilled role flags x) m))
    ∙ ap (λ (l : List (List ℕ)). l ++ told_of h (reads steps (stepped (NewFilled role flags x) m))) (first w)
    ∙ unread-before h steps (stepped (NewFilled role flags x) m) fills (let g = grows flags x m.heap role w in omega arith)
  where
    w : Way flags m.heap x (new_filled role flags x m.heap)
    w = way role flags x m.heap

    first : Way flags m.heap x (new_filled role flags x m.heap) → told_of h (read_by (NewFilled role flags x) m) ≡ []
    first (inl w) = ap (told_of h) w.read
    first (inr w) = ap (told_of h) w.read
        ∙ cond-false (length m.heap.names == h) (x ∷ []) [] (grind (arith, nat_tests, within))
unread-before h (NewEmpty role ∷ steps) m fills within = absurd fills
unread-before h (Refill k flags bytes ∷ steps) m fills within = absurd fills
unread-before h (Release k ∷ steps) m fills within = absurd fills
unread-before h (Cast change k ∷ steps) m fills within = absurd fills

-- what a handle had, or what was read into the block of one that was not given before
abbrev pub had : ℕ → State → List (ℕ × List ℕ) → List (List ℕ)
had h s read = cond (nat_lt h (length s.names)) (bytes_in h s.zone) (told_of h read)

abbrev pub Tells : ℕ → List Step → Memory → Type 0
Tells h steps m = told_of h (gone_along steps m)
    ≡ cond (has_block h (walk steps m).heap) [] (had h m.heap (reads steps m))

-- of a handle that was given before: what it loses by the first step, or by the others
older : (told : List (List ℕ)) (before between : List (List ℕ)) (here there : Bool)
    → told ≡ cond here [] before → (here ≡ true → between ≡ before) → (here ≡ false → between ≡ [])
    → (here ≡ false → there ≡ false) → told ++ cond there [] between ≡ cond there [] before
older told before between true true is same none back = ap (λ (l : List (List ℕ)). l ++ []) is
older told before between true false is same none back =
    ap (λ (l : List (List ℕ)). l ++ between) is ∙ same refl
older told before between false true is same none back = let f : true ≡ false = back refl in cc
older told before between false false is same none back =
    ap (λ (l : List (List ℕ)). l ++ between) is ∙ ap (λ (l : List (List ℕ)). before ++ l) (none refl)
    ∙ append-nil before

-- a step, and then others
next-tells : (role : Role) (flags : Flags) (x : List ℕ) (steps : List Step) (m : Memory) → Fills steps → IsWhole m.heap
    → (h : ℕ) → Tells h steps (stepped (NewFilled role flags x) m) → Tells h (NewFilled role flags x ∷ steps) m
next-tells role flags x steps m fills whole h later =
    told-append h (gone_at step m) (gone_along steps m1)
    ∙ by_number (nat_lt h n) refl w
  where
    step : Step
    step = NewFilled role flags x

    m1 : Memory
    m1 = stepped step m

    n : ℕ
    n = length m.heap.names

    w : Way flags m.heap x (new_filled role flags x m.heap)
    w = way role flags x m.heap

    there : Bool
    there = has_block h (walk steps m1).heap

    -- of one that was given before
    before : h < n → told_of h (gone_at step m) ++ told_of h (gone_along steps m1)
        ≡ cond there [] (bytes_in h m.heap.zone)
    before within =
        let g = grows flags x m.heap role w in
        let more : h < length m1.heap.names = omega arith in
        let first = step-tells-what-goes step m (λ k less. whole.once k) whole.small h within in
        ap (λ (l : List (List ℕ)). told_of h (gone_at step m) ++ l)
        (later ∙ ap (λ (t : Bool). cond there [] (cond t (bytes_in h m1.heap.zone) (told_of h (reads steps m1))))
        (let t : nat_lt h (length m1.heap.names) ≡ true = grind (arith, nat_tests, more) in t))
        ∙ older (told_of h (gone_at step m)) (bytes_in h m.heap.zone) (bytes_in h m1.heap.zone) (has_block h m1.heap)
        there first (kept-bytes h role flags x m whole within w) (none-bytes h m1.heap.zone)
        (never-back h steps m1 fills more)

    -- of one that is given later
    behind : length m1.heap.names ≤ h → told_of h (gone_along steps m1) ≡ cond there [] (told_of h (reads steps m1))
    behind high = later ∙ ap (λ (t : Bool). cond there [] (cond t (bytes_in h m1.heap.zone) (told_of h (reads steps m1))))
        (let t : nat_lt h (length m1.heap.names) ≡ false = grind (arith, nat_tests, high) in t)

    -- and of the one that is given here
    own : Made flags m.heap x (new_filled role flags x m.heap) → n ≡ h
        → told_of h (gone_along steps m1) ≡ cond there [] (x ∷ told_of h (reads steps m1))
    own made same =
        let more : h < length m1.heap.names = omega (arith, made.names) in
        later
        ∙ ap (λ (t : Bool). cond there [] (cond t (bytes_in h m1.heap.zone) (told_of h (reads steps m1))))
        (let t : nat_lt h (length m1.heap.names) ≡ true = grind (arith, nat_tests, more) in t)
        ∙ ap (λ (l : List (List ℕ)). cond there [] l)
        (subst (λ (k : ℕ). bytes_in k m1.heap.zone ≡ x ∷ []) same (new-bytes role flags x m whole made)
        ∙ ap (λ (l : List (List ℕ)). x ∷ l) (sym (unread-before h steps m1 fills more)))

    by_own : (made : Made flags m.heap x (new_filled role flags x m.heap)) → n ≤ h → (t : Bool) → (n == h) ≡ t
        → told_of h (gone_along steps m1) ≡ cond there [] (told_of h ((n, x) ∷ reads steps m1))
    by_own made high true e = own made ((Decides-eqb n h).0 e)
        ∙ ap (λ (l : List (List ℕ)). cond there [] l) (sym (cond-true (n == h) _ _ e))
    by_own made high false e =
        behind (let more : n < h = grind (arith, nat_tests, e, high) in omega (arith, made.names))
        ∙ ap (λ (l : List (List ℕ)). cond there [] l) (sym (cond-false (n == h) _ _ e))

    after : n ≤ h → Way flags m.heap x (new_filled role flags x m.heap)
        → told_of h (gone_at step m) ++ told_of h (gone_along steps m1)
        ≡ cond there [] (told_of h (reads (step ∷ steps) m))
    after high (inl w) =
        ap (λ (l : List (List ℕ)). l ++ told_of h (gone_along steps m1)) (step-beyond step m h high)
        ∙ behind (omega (arith, w.names))
        ∙ ap (λ (read : List (ℕ × List ℕ)). cond there [] (told_of h (read ++ reads steps m1))) (sym w.read)
    after high (inr w) =
        ap (λ (l : List (List ℕ)). l ++ told_of h (gone_along steps m1)) (step-beyond step m h high)
        ∙ by_own w high (n == h) refl
        ∙ ap (λ (read : List (ℕ × List ℕ)). cond there [] (told_of h (read ++ reads steps m1))) (sym w.read)

    by_number : (t : Bool) → nat_lt h n ≡ t → Way flags m.heap x (new_filled role flags x m.heap)
        → told_of h (gone_at step m) ++ told_of h (gone_along steps m1)
        ≡ cond there [] (cond t (bytes_in h m.heap.zone) (told_of h (reads (step ∷ steps) m)))
    by_number true e ways = before (grind (arith, nat_tests, e))
    by_number false e ways = after (grind (arith, nat_tests, e)) ways

pub path-tells : (steps : List Step) (m : Memory) → Fills steps → IsWhole m.heap → (h : ℕ) → Tells h steps m
path-tells [] m fills whole h = by_block (has_block h m.heap) refl (nat_lt h (length m.heap.names)) refl
  where
    by_block : (t : Bool) → has_block h m.heap ≡ t → (u : Bool) → nat_lt h (length m.heap.names) ≡ u
        → [] ≡ cond t [] (cond u (bytes_in h m.heap.zone) [])
    by_block true e u is = refl
    by_block false e true is = sym (none-bytes h m.heap.zone e)
    by_block false e false is = refl
path-tells (NewFilled role flags x ∷ steps) m fills whole h =
    next-tells role flags x steps m fills whole h (path-tells steps (stepped (NewFilled role flags x) m) fills
    (whole-filled role flags x m whole (way role flags x m.heap)) h)
path-tells (NewEmpty role ∷ steps) m fills whole h = absurd fills
path-tells (Refill k flags bytes ∷ steps) m fills whole h = absurd fills
path-tells (Release k ∷ steps) m fills whole h = absurd fills
path-tells (Cast change k ∷ steps) m fills whole h = absurd fills

-- a path of at most one step, which disposes of no handle
abbrev pub Single : List Step → Type 0
Single [] = Unit {0}
Single (step ∷ []) = (h : ℕ) → step_disposes step h ≡ false
Single (step ∷ other ∷ steps) = ⊥

abbrev pub OnceEach : State → Type 0
OnceEach s = (h : ℕ) → h < length s.names → count (is_relocatable h) s.zone ≤ 1

pub single-tells : (steps : List Step) (m : Memory) → Single steps → OnceEach m.heap
    → sizes m.heap.zone ≤ GREATEST_ZONE → (h : ℕ) → h < length m.heap.names
    → told_of h (gone_along steps m) ≡ cond (has_block h (walk steps m).heap) [] (bytes_in h m.heap.zone)
single-tells [] m single once small h within = by_block (has_block h m.heap) refl
  where
    by_block : (t : Bool) → has_block h m.heap ≡ t → [] ≡ cond t [] (bytes_in h m.heap.zone)
    by_block true e = refl
    by_block false e = sym (none-bytes h m.heap.zone e)
single-tells (step ∷ []) m single once small h within =
    ap (told_of h) (append-nil (gone_at step m))
    ∙ step-tells-what-goes step m once small h within
    ∙ ap (λ (t : Bool). cond (t || has_block h (stepped step m).heap) [] (bytes_in h m.heap.zone)) (single h)
single-tells (step ∷ other ∷ steps) m single once small h within = absurd single

pub single-beyond : (steps : List Step) (m : Memory) → Single steps → (h : ℕ) → length m.heap.names ≤ h
    → told_of h (gone_along steps m) ≡ []
single-beyond [] m single h high = refl
single-beyond (step ∷ []) m single h high =
    ap (told_of h) (append-nil (gone_at step m)) ∙ step-beyond step m h high
single-beyond (step ∷ other ∷ steps) m single h high = absurd single

-- no handle is read into twice
pub reads-once : (h : ℕ) (steps : List Step) (m : Memory) → Fills steps → length (told_of h (reads steps m)) ≤ 1
reads-once h [] m fills = omega arith
reads-once h (NewFilled role flags x ∷ steps) m fills = by_way (way role flags x m.heap)
    (reads-once h steps (stepped step m) fills) (λ less. unread-before h steps (stepped step m) fills less)
  where
    step : Step
    step = NewFilled role flags x

    n : ℕ
    n = length m.heap.names

    rest : List (ℕ × List ℕ)
    rest = reads steps (stepped step m)

    by_own : (t : Bool) → (n == h) ≡ t → length (told_of h rest) ≤ 1
        → (h < n + 1 → told_of h rest ≡ []) → length (cond t (x ∷ told_of h rest) (told_of h rest)) ≤ 1
    by_own true e once none =
        let z : length (told_of h rest) ≡ 0 =
        ap {B = ℕ} (λ (l : List (List ℕ)). length l) (none (omega (arith, (Decides-eqb n h).0 e))) in omega arith
    by_own false e once none = once

    by_way : Way flags m.heap x (new_filled role flags x m.heap) → length (told_of h rest) ≤ 1
        → (h < length (stepped step m).heap.names → told_of h rest ≡ [])
        → length (told_of h (read_by step m ++ rest)) ≤ 1
    by_way (inl w) once none =
        subst (λ (l : List (ℕ × List ℕ)). length (told_of h (l ++ rest)) ≤ 1) (sym w.read) once
    by_way (inr w) once none =
        subst (λ (l : List (ℕ × List ℕ)). length (told_of h (l ++ rest)) ≤ 1) (sym w.read)
        (by_own (n == h) refl once (λ less. none (omega (arith, w.names))))
reads-once h (NewEmpty role ∷ steps) m fills = absurd fills
reads-once h (Refill k flags bytes ∷ steps) m fills = absurd fills
reads-once h (Release k ∷ steps) m fills = absurd fills
reads-once h (Cast change k ∷ steps) m fills = absurd fills
