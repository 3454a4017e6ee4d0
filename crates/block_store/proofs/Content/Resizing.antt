use Rattle.block_store.proofs.Cited.{◌≡◌, ℕ, ◌+◌, ◌-◌, ◌≤◌, ◌<◌, zero, suc, Bool, true, false, ◌==◌, List, [], ◌∷◌, ◌++◌, length, take}
use Rattle.block_store.proofs.Cited.{drop, refl, sym, ◌∙◌, ap, cond, subst, arith, Option, Some, None, Result, Ok, Err, nat_le, ◌⊎◌, inl}
use Rattle.block_store.proofs.Cited.{inr, none-some, same_Some, cond-true, or_parts, nat_tests, Decides-eqb, map-append, length-take}
use Rattle.block_store.proofs.Cited.{length-append, length-replicate, take-append-drop, option_map, IfSome, IsSome, OnOk, Block, Free}
use Rattle.block_store.proofs.Cited.{Nonrelocatable, Masters, Relocatable, size, sizes, free, is_room, add, is_relocatable, is_masters}
use Rattle.block_store.proofs.Cited.{resized, resized_content, content_of, with_content, count, total, tidy, Spot, spot, raised, has, taken}
use Rattle.block_store.proofs.Cited.{growth, grow_up, freed, padded}
use Rattle.block_store.proofs.Zone.Totals.{total-append}
use Rattle.block_store.proofs.Zone.Tidy.{told-past, spot-passes, total-tidy}
use Rattle.block_store.proofs.Zone.Apart.{Apart, apart-tidied, tidy-apart, tidy-content, apart-shrunk}
use Rattle.block_store.proofs.Zone.Leading.{masters-released}
use Rattle.block_store.proofs.Zone.Spots.{room-size}

-- Blocks at another size.

-- the block that is found, without its spot
abbrev pub found : (Block → Bool) → List Block → Option Block
found test bs = option_map (λ s. s.here) (spot test bs)

pub found-here : (test : Block → Bool) (b : Block) (above : List Block) → test b ≡ true
    → found test (b ∷ above) ≡ Some b
found-here test b above is = ap (option_map (λ (s : Spot). s.here)) (cond-true (test b) _ _ is)

pub found-above : (test : Block → Bool) (b : Block) (above : List Block) → test b ≡ false
    → found test (b ∷ above) ≡ found test above
found-above test b above is = told-past (λ s. s.here) test b above (λ s. refl) is

pub if_found : (P : Block → Type 0) (o : Option Spot) (b : Block) → option_map (λ (s : Spot). s.here) o ≡ Some b → P b
    → IfSome o (λ s. P s.here)
if_found P None b e holds = absurd (none-some _ e)
if_found P (Some s) b e holds = subst P (sym (same_Some _ _ e)) holds

pub if_some : {A : Type 0} (P : A → Type 0) (o : Option A) (x : A) → o ≡ Some x → P x → IfSome o P
if_some P o x e holds = subst (λ (o : Option _). IfSome o P) (sym e) holds

-- the first of the blocks has bytes to take
pub taken-room : (d : ℕ) (b : Block) (above : List Block) → IsSome (taken d (b ∷ above)) → is_room d b ≡ true
taken-room d b above is = cases (is_room d b) is
  where
    cases : (t : Bool) → IsSome (cond t (Some (free (size b - d) ++ above)) None) → t ≡ true
    cases true is = refl
    cases false is = let f : false ≡ true = is in cc

pub taken-fits : (d : ℕ) (bs : List Block) → IsSome (taken d bs) → d ≤ sizes bs
taken-fits d [] is = let f : false ≡ true = is in cc
taken-fits d (b ∷ above) is = let le = room-size d b (taken-room d b above is) in omega arith

-- what growth asks of the blocks above
pub grow_up-taken : (new : Block) (s : Spot) → IsSome (grow_up new s) → IsSome (taken (growth new s) s.above)
grow_up-taken new s is = cases (taken (growth new s) s.above) is
  where
    cases : (o : Option (List Block)) → IsSome (option_map (λ above. s.below ++ new ∷ above) o) → IsSome o
    cases None is = is
    cases (Some above) is = refl

pub if_grown : (new : Block) (s : Spot) (zone : List Block) → IfSome (taken (growth new s) s.above)
    (λ above. zone ≡ s.below ++ new ∷ above) → IfSome (grow_up new s) (λ after. zone ≡ after)
if_grown new s zone is = cases (taken (growth new s) s.above) is
  where
    cases : (o : Option (List Block)) → IfSome o (λ above. zone ≡ s.below ++ new ∷ above)
        → IfSome (option_map (λ above. s.below ++ new ∷ above) o) (λ after. zone ≡ after)
    cases None is = tt
    cases (Some above) is = is

pub if_some-map : {A : Type 0} {P Q : A → Type 0} (o : Option A) → ((x : A) → P x → Q x) → IfSome o P → IfSome o Q
if_some-map None f p = tt
if_some-map (Some x) f p = f x p

-- the last of the blocks below is another
pub set-last : (bs above : List Block) (i : ℕ) (new : Block) → i < length bs
    → take i (take (i + 1) bs ++ above) ++ new ∷ drop (i + 1) (take (i + 1) bs ++ above) ≡ take i bs ++ new ∷ above
set-last [] above i new within = absurd (let z : i < 0 = within in omega arith)
set-last (b ∷ bs) above zero new within = refl
set-last (b ∷ bs) above (suc i) new within =
    ap (λ n. take (suc i) (take n (b ∷ bs) ++ above) ++ new ∷ drop n (take n (b ∷ bs) ++ above))
    (let z : suc i + 1 ≡ suc (i + 1) = omega arith in z)
    ∙ ap (λ l. b ∷ l) (set-last bs above i new (let z : suc i < suc (length bs) = within in omega arith))

pub larger : {P : Type 0} (n m : ℕ) → m < n → (n ≤ m) ⊎ P → P
larger n m more (inl le) = absurd (let z : n ≤ m = le in omega arith)
larger n m more (inr p) = p

pub on_ok : {T E P : Type 0} (r : Result T E) → P → OnOk r P
on_ok (Ok x) p = p
on_ok (Err e) p = tt

pub sizes-inserted : (bs : List Block) (i left : ℕ) → sizes (take i bs ++ Free left ∷ drop i bs) ≡ sizes bs + left
sizes-inserted bs i left =
    let a = total-append size (take i bs) (Free left ∷ drop i bs) in
    let b : sizes (take i bs) + sizes (drop i bs) ≡ sizes bs = sym (total-append size (take i bs) (drop i bs))
    ∙ ap sizes (take-append-drop i bs) in
    omega arith

-- a slot's block went, and another stands in place of the block below the new Free one
pub moved-carved : (number : ℕ) (bs : List Block) (i left : ℕ) (new : Block) → i < length bs
    → take i (freed (is_relocatable number) (take (i + 1) bs ++ Free left ∷ drop (i + 1) bs))
    ++ new ∷ drop (i + 1) (freed (is_relocatable number) (take (i + 1) bs ++ Free left ∷ drop (i + 1) bs))
    ≡ freed (is_relocatable number) (take i bs) ++ new ∷ Free left ∷ freed (is_relocatable number) (drop (i + 1) bs)
moved-carved number [] i left new within = absurd (let z : i < 0 = within in omega arith)
moved-carved number (b ∷ bs) zero left new within = refl
moved-carved number (b ∷ bs) (suc i) left new within =
    ap (λ n. take (suc i) (freed (is_relocatable number) (take n (b ∷ bs) ++ Free left ∷ drop n (b ∷ bs)))
    ++ new ∷ drop n (freed (is_relocatable number) (take n (b ∷ bs) ++ Free left ∷ drop n (b ∷ bs))))
    (let z : suc i + 1 ≡ suc (i + 1) = omega arith in z)
    ∙ ap (λ l. cond (is_relocatable number b) (Free (size b)) b ∷ l)
    (moved-carved number bs i left new (let z : suc i < suc (length bs) = within in omega arith))
    ∙ ap (λ n. freed (is_relocatable number) (take (suc i) (b ∷ bs))
    ++ new ∷ Free left ∷ freed (is_relocatable number) (drop n (b ∷ bs)))
    (let z : suc (i + 1) ≡ suc i + 1 = omega arith in z)

pub length-resized : (n : ℕ) (content : List ℕ) → length (resized_content n content) ≡ n
length-resized n content = simp (length-append, length-take, length-replicate) (omega arith)

pub size-resized : (number n : ℕ) (b : Block) → is_relocatable number b ≡ true → size (resized n b) ≡ padded n
size-resized number n (Free m) e = let f : false ≡ true = e in cc
size-resized number n (Nonrelocatable id content) e = let f : false ≡ true = e in cc
size-resized number n Masters e = let f : false ≡ true = e in cc
size-resized number n (Relocatable id flags content) e = ap padded (length-resized n content)

-- the slot's block at another size
pub size-slot : (number n : ℕ) (bs : List Block) (new : Block) → IsSome (spot (is_relocatable number) bs)
    → IfSome (spot (is_relocatable number) bs) (λ from. new ≡ resized n from.here) → size new ≡ padded n
size-slot number n bs new some is = cases (spot (is_relocatable number) bs) refl some is
  where
    cases : (o : Option Spot) → spot (is_relocatable number) bs ≡ o → IsSome o
        → IfSome o (λ from. new ≡ resized n from.here) → size new ≡ padded n
    cases None e some is = let f : false ≡ true = some in cc
    cases (Some s) e some is = ap size is ∙ size-resized number n s.here (spot-passes (is_relocatable number) bs s e)

-- another size leaves what a block is
pub is_relocatable-resized : (k n : ℕ) (b : Block) → is_relocatable k (resized n b) ≡ is_relocatable k b
is_relocatable-resized k n (Free m) = refl
is_relocatable-resized k n (Nonrelocatable id content) = refl
is_relocatable-resized k n Masters = refl
is_relocatable-resized k n (Relocatable id flags content) = refl

pub is_masters-resized : (n : ℕ) (b : Block) → is_masters (resized n b) ≡ is_masters b
is_masters-resized n (Free m) = refl
is_masters-resized n (Nonrelocatable id content) = refl
is_masters-resized n Masters = refl
is_masters-resized n (Relocatable id flags content) = refl

resized-is : (n : ℕ) (b : Block) → with_content (resized_content n (content_of b)) b ≡ resized n b
resized-is n (Free m) = refl
resized-is n (Nonrelocatable id content) = refl
resized-is n Masters = refl
resized-is n (Relocatable id flags content) = refl

-- what is taken comes from a Free block
pub taken-is : (d : ℕ) (above after : List Block) → taken d above ≡ Some after → (m : ℕ) × (rest : List Block)
    × (above ≡ Free m ∷ rest) × (d ≤ m) × (free (m - d) ++ rest ≡ after)
taken-is d [] after e = absurd (none-some _ e)
taken-is d (Free m ∷ rest) after e = cases (nat_le d m) refl e
  where
    cases : (t : Bool) → nat_le d m ≡ t → cond t (Some (free (m - d) ++ rest)) None ≡ Some after → (m' : ℕ)
        × (rest' : List Block) × (Free m ∷ rest ≡ Free m' ∷ rest') × (d ≤ m') × (free (m' - d) ++ rest' ≡ after)
    cases true fits e = (m, rest, refl, grind (arith, nat_tests), same_Some _ _ e)
    cases false fits e = absurd (none-some _ e)
taken-is d (Nonrelocatable id content ∷ rest) after e = absurd (none-some _ e)
taken-is d (Masters ∷ rest) after e = absurd (none-some _ e)
taken-is d (Relocatable id flags content ∷ rest) after e = absurd (none-some _ e)

pub grown-is : (new : Block) (s : Spot) (zone : List Block) → grow_up new s ≡ Some zone → (m : ℕ) × (rest : List Block)
    × (s.above ≡ Free m ∷ rest) × (growth new s ≤ m) × (s.below ++ new ∷ (free (m - growth new s) ++ rest) ≡ zone)
grown-is new s zone e = cases (taken (growth new s) s.above) refl e
  where
    cases : (o : Option (List Block)) → taken (growth new s) s.above ≡ o
        → option_map (λ above. s.below ++ new ∷ above) o ≡ Some zone
        → (m : ℕ) × (rest : List Block) × (s.above ≡ Free m ∷ rest) × (growth new s ≤ m)
        × (s.below ++ new ∷ (free (m - growth new s) ++ rest) ≡ zone)
    cases None same e = absurd (none-some _ e)
    cases (Some after) same e =
        let is = taken-is (growth new s) s.above after same in
        (is.0, is.1, is.2, is.3, ap (λ l. s.below ++ new ∷ l) is.4 ∙ same_Some _ _ e)

total-free : (of : Block → ℕ) → of (Free 0) ≡ 0 → (n : ℕ) (above : List Block)
    → total of (free n ++ above) ≡ of (Free n) + total of above
total-free of none zero above = omega arith
total-free of none (suc n) above = refl

-- growth keeps a measure
total-grown : (of : Block → ℕ) → of (Free 0) ≡ 0 → (new : Block) (s : Spot) (zone : List Block)
    → ((m : ℕ) → growth new s ≤ m → of new + of (Free (m - growth new s)) ≡ of s.here + of (Free m))
    → grow_up new s ≡ Some zone → total of zone ≡ total of (s.below ++ s.here ∷ s.above)
total-grown of none new s zone keeps e =
    let is = grown-is new s zone e in
    let m = is.0 in
    let rest = is.1 in
    let k = m - growth new s in
    let a = total-append of s.below (new ∷ (free k ++ rest)) in
    let b : total of (s.below ++ s.here ∷ s.above) ≡ total of s.below + (of s.here + (of (Free m) + total of rest)) =
    total-append of s.below (s.here ∷ s.above) ∙ ap (λ l. total of s.below + (of s.here + total of l)) is.2 in
    let c = total-free of none k rest in
    let d : of new + of (Free k) ≡ of s.here + of (Free m) = keeps m is.3 in
    sym (ap (total of) is.4) ∙ (let z : total of (s.below ++ new ∷ (free k ++ rest))
    ≡ total of (s.below ++ s.here ∷ s.above) = omega arith in z)

pub sizes-grown : (new : Block) (s : Spot) (zone : List Block) → size s.here < size new → grow_up new s ≡ Some zone
    → sizes zone ≡ sizes (s.below ++ s.here ∷ s.above)
sizes-grown new s zone more e = total-grown size refl new s zone
    (λ m fits. let z : size new + (m - (size new - size s.here)) ≡ size s.here + m = omega arith in z) e

pub count-grown : (test : Block → Bool) → ((n : ℕ) → test (Free n) ≡ false)
    → (new : Block) (s : Spot) (zone : List Block) → test new ≡ test s.here → grow_up new s ≡ Some zone
    → count test zone ≡ count test (s.below ++ s.here ∷ s.above)
count-grown test none new s zone same e = total-grown (λ (b : Block). cond (test b) 1 0) (rw (none 0) refl) new s zone
    (λ m fits. rw (same, none m, none (m - growth new s)) refl) e

larger-stands : (n : ℕ) (b : Block) → size b < size (resized n b) → (bs : List Block)
    → add (resized n b) bs ≡ resized n b ∷ bs
larger-stands n (Free m) more bs = absurd (let z : m < m = more in omega arith)
larger-stands n (Nonrelocatable id content) more bs = refl
larger-stands n Masters more bs = refl
larger-stands n (Relocatable id flags content) more bs = refl

pub tidy-grown : (n : ℕ) (s : Spot) (zone : List Block) → size s.here < size (resized n s.here)
    → tidy (s.below ++ s.here ∷ s.above) ≡ s.below ++ s.here ∷ s.above → grow_up (resized n s.here) s ≡ Some zone
    → tidy zone ≡ zone
tidy-grown n s zone more tidied e =
    let new = resized n s.here in
    let is = grown-is new s zone e in
    let x = resized_content n (content_of s.here) in
    let same : s.below ++ with_content x s.here ∷ s.above ≡ s.below ++ new ∷ Free is.0 ∷ is.1 =
    ap (λ b. s.below ++ b ∷ s.above) (resized-is n s.here) ∙ ap (λ l. s.below ++ new ∷ l) is.2 in
    let apart : Apart (s.below ++ new ∷ Free is.0 ∷ is.1) = subst Apart same
    (apart-tidied (s.below ++ with_content x s.here ∷ s.above) (tidy-content x s.below s.here s.above tidied)) in
    tidy-apart zone (subst Apart is.4 (apart-shrunk s.below new is.0 (is.0 - growth new s) is.1
    (larger-stands n s.here more) apart))

pub less_or_more : (n m : ℕ) → (n ≤ m) ⊎ (m < n)
less_or_more n m = cases (nat_le n m) refl
  where
    cases : (t : Bool) → nat_le n m ≡ t → (n ≤ m) ⊎ (m < n)
    cases true e = inl (grind (arith, nat_tests))
    cases false e = inr (grind (arith, nat_tests))

-- a block that is found passes
pub found-has : (test : Block → Bool) (bs : List Block) (s : Spot) → spot test bs ≡ Some s → has test bs ≡ false → ⊥
found-has test [] s e none = absurd (none-some _ e)
found-has test (b ∷ bs) s e none = cases (test b) (spot test bs) (or_parts (test b) (has test bs) none)
    (λ s e. found-has test bs s e (or_parts (test b) (has test bs) none).1) e
  where
    cases : (t : Bool) (o : Option Spot) → (t ≡ false) × (has test bs ≡ false) → ((s : Spot) → o ≡ Some s → ⊥)
        → cond t (Some (record { below = []; here = b; above = bs })) (option_map (raised b) o) ≡ Some s → ⊥
    cases true o parts rest e = let f : true ≡ false = parts.0 in cc
    cases false None parts rest e = absurd (none-some _ e)
    cases false (Some s) parts rest e = rest s refl

-- a slot's block, by its number
pub is_of : (number k : ℕ) (b : Block) → is_relocatable number b ≡ true → is_relocatable k b ≡ (number == k)
is_of number k (Free m) e = let f : false ≡ true = e in cc
is_of number k (Nonrelocatable id content) e = let f : false ≡ true = e in cc
is_of number k Masters e = let f : false ≡ true = e in cc
is_of number k (Relocatable id flags content) e = ap (λ n. n == k) ((Decides-eqb id number).0 e)

pub not_both : (number : ℕ) (b : Block) → is_relocatable number b ≡ true → is_masters b ≡ false
not_both number (Free m) e = refl
not_both number (Nonrelocatable id content) e = refl
not_both number Masters e = let f : false ≡ true = e in cc
not_both number (Relocatable id flags content) e = refl

-- a Free block stays as it is where a slot's block is freed
pub freed-around : (number p : ℕ) (s : Spot) (zone : List Block) → is_room p s.here ≡ true
    → s.below ++ s.here ∷ s.above ≡ zone
    → freed (is_relocatable number) s.below ++ s.here ∷ freed (is_relocatable number) s.above
    ≡ freed (is_relocatable number) zone
freed-around number p s zone room whole =
    ap (λ b. freed (is_relocatable number) s.below ++ b ∷ freed (is_relocatable number) s.above) (sym (one s.here room))
    ∙ sym (map-append (λ b. cond (is_relocatable number b) (Free (size b)) b) s.below (s.here ∷ s.above))
    ∙ ap (freed (is_relocatable number)) whole
  where
    one : (b : Block) → is_room p b ≡ true → cond (is_relocatable number b) (Free (size b)) b ≡ b
    one (Free m) e = refl
    one (Nonrelocatable id content) e = let f : false ≡ true = e in cc
    one Masters e = let f : false ≡ true = e in cc
    one (Relocatable id flags content) e = let f : false ≡ true = e in cc

pub masters-freed : (number : ℕ) (bs : List Block) → count is_masters (freed (is_relocatable number) bs)
    ≡ count is_masters bs
masters-freed number bs = sym (total-tidy (λ (b : Block). cond (is_masters b) 1 0) (λ n m. refl)
    (freed (is_relocatable number) bs)) ∙ masters-released number bs
