use Rattle.block_store.proofs.Cited.{◌≡◌, ℕ, ◌+◌, ◌*◌, ◌≤◌, Bool, true, false, ◌||◌, ◌==◌, List, [], ◌∷◌, ◌++◌, length, refl, sym, ◌∙◌, ap}
use Rattle.block_store.proofs.Cited.{cond, arith, ◌⊎◌, inl, inr, cond-false, cases_eq, false_from_ne_true, or_parts, Decides-eqb, padded}
use Rattle.block_store.proofs.Cited.{Block, Free, Nonrelocatable, Masters, Relocatable, size, sizes, total, count, tidy, is_relocatable}
use Rattle.block_store.proofs.Cited.{is_masters, with_content, has, freed, Slot, NoSlot, Unused, Used, set_slot, is_used}
use Rattle.block_store.proofs.Zone.Totals.{total-append}
use Rattle.block_store.proofs.Zone.Tidy.{total-tidy}

-- How many blocks a slot leads to.

-- how many at most
abbrev pub most_blocks : Slot → ℕ
most_blocks NoSlot = 0
most_blocks Unused = 0
most_blocks (Used resource) = 1

-- no slot leads to two blocks
pub most-once : (number : ℕ) (s : Slot) (bs : List Block) → count (is_relocatable number) bs ≤ most_blocks s
    → count (is_relocatable number) bs ≤ 1
most-once number NoSlot bs le = let z : count (is_relocatable number) bs ≤ 0 = le in omega arith
most-once number Unused bs le = let z : count (is_relocatable number) bs ≤ 0 = le in omega arith
most-once number (Used resource) bs le = le

-- a test that none passes, and one that none is counted by
pub count-none : (test : Block → Bool) (bs : List Block) → has test bs ≡ false → count test bs ≡ 0
count-none test [] e = refl
count-none test (b ∷ bs) e = let parts = or_parts (test b) (has test bs) e in
    (let o : cond {A = ℕ} (test b) 1 0 ≡ 0 = ap {B = ℕ} (λ (t : Bool). cond t 1 0) parts.0 in
    let r = count-none test bs parts.1 in let g : cond {A = ℕ} (test b) 1 0 + count test bs ≡ 0 = omega arith in g)

pub none-count : (test : Block → Bool) (bs : List Block) → count test bs ≤ 0 → has test bs ≡ false
none-count test [] le = refl
none-count test (b ∷ bs) le = cases (test b) refl (λ le. none-count test bs le)
  where
    cases : (t : Bool) → test b ≡ t → (count test bs ≤ 0 → has test bs ≡ false) → (test b || has test bs) ≡ false
    cases true e rest = absurd (let n : cond {A = ℕ} (test b) 1 0 ≡ 1 = ap {B = ℕ} (λ (t : Bool). cond t 1 0) e in
        let z : cond (test b) 1 0 + count test bs ≤ 0 = le in omega arith)
    cases false e rest = rw (e, rest (let z : cond (test b) 1 0 + count test bs ≤ 0 = le in omega arith)) refl

-- a slot of no handle leads to no block
pub most-none : (number : ℕ) (s : Slot) (bs : List Block) → is_used s ≡ false
    → count (is_relocatable number) bs ≤ most_blocks s → has (is_relocatable number) bs ≡ false
most-none number NoSlot bs e le = none-count (is_relocatable number) bs le
most-none number Unused bs e le = none-count (is_relocatable number) bs le
most-none number (Used resource) bs e le = let f : true ≡ false = e in cc

-- what the laws say of a slot, as one
pub leads-from : (number : ℕ) (s : Slot) (bs : List Block) → (is_used s ≡ false
    → has (is_relocatable number) bs ≡ false) → count (is_relocatable number) bs ≤ 1
    → count (is_relocatable number) bs ≤ most_blocks s
leads-from number NoSlot bs none once = let z = count-none (is_relocatable number) bs (none refl) in omega arith
leads-from number Unused bs none once = let z = count-none (is_relocatable number) bs (none refl) in omega arith
leads-from number (Used resource) bs none once = once

-- the blocks that are freed no longer pass, the others are counted as before
pub count-freed : (test t : Block → Bool) → ((n : ℕ) → test (Free n) ≡ false) → (bs : List Block)
    → count test (freed t bs) ≤ count test bs
count-freed test t none [] = omega arith
count-freed test t none (b ∷ bs) = let r = count-freed test t none bs in let o = one (t b) in omega arith
  where
    one : (u : Bool) → cond (test (cond u (Free (size b)) b)) 1 0 ≤ cond (test b) 1 0
    one true = let z : cond (test (Free (size b))) 1 0 ≡ 0 = ap {B = ℕ} (λ (v : Bool). cond v 1 0) (none (size b)) in
        omega (arith, z)
    one false = omega arith

pub count-released : (test t : Block → Bool) → ((n : ℕ) → test (Free n) ≡ false) → (bs : List Block)
    → count test (tidy (freed t bs)) ≤ count test bs
count-released test t none bs =
    let e = total-tidy (λ (b : Block). cond (test b) 1 0) (λ n m. rw (none n, none m, none (n + m)) refl)
    (freed t bs) in
    let r = count-freed test t none bs in
    omega arith

pub released-once : (number : ℕ) (t : Block → Bool) (bs : List Block) → count (is_relocatable number) bs ≤ 1
    → count (is_relocatable number) (tidy (freed t bs)) ≤ 1
released-once number t bs once = let r = count-released (is_relocatable number) t (λ n. refl) bs in omega arith

pub released-none : (number : ℕ) (t : Block → Bool) (bs : List Block) → has (is_relocatable number) bs ≡ false
    → has (is_relocatable number) (tidy (freed t bs)) ≡ false
released-none number t bs none = none-count (is_relocatable number) (tidy (freed t bs))
    (let r = count-released (is_relocatable number) t (λ n. refl) bs in
    let z = count-none (is_relocatable number) bs none in omega arith)

-- a slot's block isn't a Masters block
pub masters-released : (number : ℕ) (bs : List Block) → count is_masters (tidy (freed (is_relocatable number) bs))
    ≡ count is_masters bs
masters-released number bs = total-tidy (λ (b : Block). cond (is_masters b) 1 0) (λ n m. refl)
    (freed (is_relocatable number) bs) ∙ kept bs
  where
    one : (b : Block) → is_masters (cond (is_relocatable number b) (Free (size b)) b) ≡ is_masters b
    one (Free n) = refl
    one (Nonrelocatable id content) = refl
    one Masters = refl
    one (Relocatable id flags content) = elim (id == number) as
        (λ t. is_masters (cond t (Free (padded (length content))) (Relocatable id flags content)) ≡ false)
        [ true ↦ refl | false ↦ refl ]

    kept : (bs : List Block) → count is_masters (freed (is_relocatable number) bs) ≡ count is_masters bs
    kept [] = refl
    kept (b ∷ bs) = rw (one b, kept bs) refl

-- a block in place of another, and the rest of it Free
pub count-carved : (test : Block → Bool) → ((n : ℕ) → test (Free n) ≡ false)
    → (below above : List Block) (b new : Block) (left : ℕ) (zone : List Block) → below ++ b ∷ above ≡ zone
    → count test (tidy (below ++ new ∷ Free left ∷ above)) + cond (test b) 1 0 ≡ cond (test new) 1 0 + count test zone
count-carved test none below above b new left zone same =
    let of : Block → ℕ = λ b. cond (test b) 1 0 in
    let e = total-tidy of (λ n m. rw (none n, none m, none (n + m)) refl) (below ++ new ∷ Free left ∷ above) in
    let z : of (Free left) ≡ 0 = ap {B = ℕ} (λ (v : Bool). cond v 1 0) (none left) in
    let after : total of (below ++ new ∷ Free left ∷ above) ≡ total of below +
    (of new + (of (Free left) + total of above)) = total-append of below (new ∷ Free left ∷ above) in
    let before : total of zone ≡ total of below + (of b + total of above) = ap (total of) (sym same)
    ∙ total-append of below (b ∷ above) in
    omega arith

-- carving for a slot of a handle that led to no block
pub leads-carved : (slots : ℕ → Slot) (number : ℕ) (below above : List Block) (b new : Block) (left : ℕ)
    (zone : List Block) → below ++ b ∷ above ≡ zone
    → ((k : ℕ) → is_relocatable k new ≡ (number == k)) → is_used (slots number) ≡ true
    → has (is_relocatable number) zone ≡ false
    → ((k : ℕ) → count (is_relocatable k) zone ≤ most_blocks (slots k))
    → (k : ℕ) → count (is_relocatable k) (tidy (below ++ new ∷ Free left ∷ above)) ≤ most_blocks (slots k)
leads-carved slots number below above b new left zone same is used none leads k =
    cases (cases_eq number k) (count-carved (is_relocatable k) (λ n. refl) below above b new left zone same)
  where
    one : (s : Slot) → is_used s ≡ true → most_blocks s ≡ 1
    one NoSlot e = let f : false ≡ true = e in cc
    one Unused e = let f : false ≡ true = e in cc
    one (Used resource) e = refl

    cases : (number ≡ k) ⊎ (number ≡ k → ⊥) → count (is_relocatable k) (tidy (below ++ new ∷ Free left ∷ above)) + cond
        (is_relocatable k b) 1 0 ≡ cond (is_relocatable k new) 1 0 + count (is_relocatable k) zone
        → count (is_relocatable k) (tidy (below ++ new ∷ Free left ∷ above)) ≤ most_blocks (slots k)
    cases (inl e) all =
        let m : most_blocks (slots k) ≡ 1 = one (slots k) (ap (λ n. is_used (slots n)) (sym e) ∙ used) in
        let z : count (is_relocatable k) zone ≡ 0 = count-none (is_relocatable k) zone
        (ap (λ n. has (is_relocatable n) zone) (sym e) ∙ none) in
        let n : cond {A = ℕ} (is_relocatable k new) 1 0 ≡ 1 = ap {B = ℕ} (λ (t : Bool). cond t 1 0)
        (is k ∙ (Decides-eqb number k).1 e) in
        omega (arith, all)
    cases (inr other) all =
        let z = leads k in
        let n : cond {A = ℕ} (is_relocatable k new) 1 0 ≡ 0 = ap {B = ℕ} (λ (t : Bool). cond t 1 0)
        (is k ∙ false_from_ne_true (number == k) (λ t. other ((Decides-eqb number k).0 t))) in
        omega (arith, all)

-- another content leaves the counts
pub is_relocatable-content : (k : ℕ) (x : List ℕ) (b : Block) → is_relocatable k (with_content x b) ≡ is_relocatable k b
is_relocatable-content k x (Free n) = refl
is_relocatable-content k x (Nonrelocatable id content) = refl
is_relocatable-content k x Masters = refl
is_relocatable-content k x (Relocatable id flags content) = refl

pub is_masters-content : (x : List ℕ) (b : Block) → is_masters (with_content x b) ≡ is_masters b
is_masters-content x (Free n) = refl
is_masters-content x (Nonrelocatable id content) = refl
is_masters-content x Masters = refl
is_masters-content x (Relocatable id flags content) = refl

pub count-same : (test : Block → Bool) (below above : List Block) (b c : Block) → test c ≡ test b
    → count test (below ++ c ∷ above) ≡ count test (below ++ b ∷ above)
count-same test [] above b c same = ap (λ (t : Bool). cond t 1 0 + count test above) same
count-same test (x ∷ below) above b c same = ap (λ n. cond (test x) 1 0 + n) (count-same test below above b c same)

-- a slot that leads to no block may change
pub none-set : (slots slots' : ℕ → Slot) (number : ℕ) (state : Slot) (bs : List Block)
    → ((k : ℕ) → slots' k ≡ set_slot slots number state k) → has (is_relocatable number) bs ≡ false
    → ((k : ℕ) → is_used (slots k) ≡ false → has (is_relocatable k) bs ≡ false) → (k : ℕ) → is_used (slots' k) ≡ false
    → has (is_relocatable k) bs ≡ false
none-set slots slots' number state bs are none before k unused = cases (cases_eq k number)
  where
    cases : (k ≡ number) ⊎ (k ≡ number → ⊥) → has (is_relocatable k) bs ≡ false
    cases (inl e) = ap (λ n. has (is_relocatable n) bs) e ∙ none
    cases (inr other) = before k (ap is_used (sym (are k ∙ cond-false (k == number) state (slots k)
        (false_from_ne_true (k == number) (λ t. other ((Decides-eqb k number).0 t))))) ∙ unused)

-- a Masters block takes more bytes than it has slots
pub masters-few : (bs : List Block) → 64 * count is_masters bs ≤ sizes bs
masters-few [] = omega arith
masters-few (b ∷ bs) = let r = masters-few bs in let o = one b in omega arith
  where
    one : (b : Block) → 64 * cond (is_masters b) 1 0 ≤ size b
    one (Free n) = omega arith
    one (Nonrelocatable id content) = omega arith
    one Masters = omega arith
    one (Relocatable id flags content) = omega arith
