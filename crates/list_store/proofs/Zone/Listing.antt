use Rattle.list_store.proofs.Cited.{◌≡◌, ℕ, ◌+◌, ◌-◌, ◌≤◌, ◌<◌, zero, suc, Bool, true, false, ◌==◌, List, [], ◌∷◌, ◌++◌, length, take, drop}
use Rattle.list_store.proofs.Cited.{get_or, refl, sym, ◌∙◌, ap, cond, map, arith, Some, slice_set, drop_more, drop-map, take-map, take_more}
use Rattle.list_store.proofs.Cited.{map-append, append-nil, set_split, take-append-drop, cond-true, cond-false, nat_tests, option_map}
use Rattle.list_store.proofs.Cited.{Block, Free, Nonrelocatable, Masters, Relocatable, size, sizes, free_sum, free_of, add, tidy_top}
use Rattle.list_store.proofs.Cited.{raised, spot_at, StoredBlock, block_of, blocks_of, nth_spot, freed_first, freed, total-append, total-le}
use Rattle.list_store.proofs.Cited.{raised_by, add-free_free, free_of-le}
use Rattle.list_store.specs.declared.entries.StoredBlock.TheVariants as entry

-- the blocks from an entry on
pub drop-blocks : (es : List StoredBlock) (i : ℕ) (e : StoredBlock) → i < length es → e ≡ get_or es i e
    → drop i (blocks_of es) ≡ block_of e ∷ drop (i + 1) (blocks_of es)
drop-blocks es i e within is =
    drop-map block_of i es ∙ ap (map block_of) (drop_more es i e within)
    ∙ ap (λ x. block_of x ∷ map block_of (drop (i + 1) es)) (sym is)
    ∙ ap (λ l. block_of e ∷ l) (sym (drop-map block_of (i + 1) es))

-- the blocks up to an entry
pub take-blocks : (es : List StoredBlock) (i : ℕ) (e : StoredBlock) → i < length es → e ≡ get_or es i e
    → take (i + 1) (blocks_of es) ≡ take i (blocks_of es) ++ block_of e ∷ []
take-blocks es i e within is =
    take-map block_of (i + 1) es ∙ ap (map block_of) (take_more es i e within)
    ∙ map-append block_of (take i es) (get_or es i e ∷ [])
    ∙ ap (λ x. map block_of (take i es) ++ block_of x ∷ []) (sym is)
    ∙ ap (λ l. l ++ block_of e ∷ []) (sym (take-map block_of i es))

-- an entry takes no more than all: it fits where those below it end
pub entry_fits : (es : List StoredBlock) (i : ℕ) (e : StoredBlock) → i < length es → e ≡ get_or es i e
    → sizes (take i (blocks_of es)) + size (block_of e) ≤ sizes (blocks_of es)
entry_fits es i e within is =
    let parts : sizes (take i (blocks_of es) ++ drop i (blocks_of es))
    ≡ sizes (take i (blocks_of es)) + sizes (drop i (blocks_of es)) =
    total-append size (take i (blocks_of es)) (drop i (blocks_of es)) in
    let whole : sizes (take i (blocks_of es) ++ drop i (blocks_of es)) ≡ sizes (blocks_of es) =
    ap sizes (take-append-drop i (blocks_of es)) in
    let rest : sizes (drop i (blocks_of es)) ≡ size (block_of e) + sizes (drop (i + 1) (blocks_of es)) =
    ap sizes (drop-blocks es i e within is) in
    omega arith

pub sizes-more : (es : List StoredBlock) (i : ℕ) (e : StoredBlock) → i < length es → e ≡ get_or es i e
    → sizes (take (i + 1) (blocks_of es)) ≡ sizes (take i (blocks_of es)) + size (block_of e)
sizes-more es i e within is = ap sizes (take-blocks es i e within is)
    ∙ total-append size (take i (blocks_of es)) (block_of e ∷ [])
    ∙ ap (λ n. sizes (take i (blocks_of es)) + n) (let z : size (block_of e) + 0 ≡ size (block_of e) = omega arith in z)

-- what is known of the entry that a walk has come to
pub record Reached (es : List StoredBlock) (i : ℕ) (e : StoredBlock) : Type 0 where
  pub blocks : drop i (blocks_of es) ≡ block_of e ∷ drop (i + 1) (blocks_of es)
  pub room : sizes (take i (blocks_of es)) + size (block_of e) ≤ sizes (blocks_of es)
  pub more : sizes (take (i + 1) (blocks_of es)) ≡ sizes (take i (blocks_of es)) + size (block_of e)

pub reached : (es : List StoredBlock) (i : ℕ) (e : StoredBlock) → i < length es → e ≡ get_or es i e → Reached es i e
reached es i e within is = record {
  blocks = drop-blocks es i e within is;
  room = entry_fits es i e within is;
  more = sizes-more es i e within is;
}

pub nth_spot-at : (i : ℕ) (bs : List Block) (b : Block) (above : List Block) → drop i bs ≡ b ∷ above
    → nth_spot i bs ≡ Some (record { below = take i bs; here = b; above = above })
nth_spot-at zero [] b above is = cc
nth_spot-at zero (x ∷ bs) b above is = let same : x ≡ b = cc in let rest : bs ≡ above = cc in
    ap (λ (p : Block × List Block). Some (record { below = []; here = p.0; above = p.1 })) (λ k. (same k, rest k))
nth_spot-at (suc i) [] b above is = cc
nth_spot-at (suc i) (x ∷ bs) b above is = ap (option_map (raised x)) (nth_spot-at i bs b above is)

-- a block that is not Free is not joined
pub add-not_free : (e : StoredBlock) (above : List Block) → ((n : ℕ) → e ≡ entry.Free n → ⊥)
    → add (block_of e) above ≡ block_of e ∷ above
add-not_free (entry.Free n) above never = absurd (never n refl)
add-not_free (entry.Nonrelocatable place content) above never = refl
add-not_free entry.Masters above never = refl
add-not_free (entry.Relocatable slot flags content) above never = refl

pub add-free_other : (n : ℕ) (e : StoredBlock) (above : List Block) → (n ≡ 0 → ⊥) → ((m : ℕ) → e ≡ entry.Free m → ⊥)
    → add (Free n) (block_of e ∷ above) ≡ Free n ∷ block_of e ∷ above
add-free_other zero e above some never = absurd (some refl)
add-free_other (suc n) (entry.Free m) above some never = absurd (never m refl)
add-free_other (suc n) (entry.Nonrelocatable place content) above some never = refl
add-free_other (suc n) entry.Masters above some never = refl
add-free_other (suc n) (entry.Relocatable slot flags content) above some never = refl

-- blocks with the one at an index joined with the next: unchanged
pub joined-same : (es : List StoredBlock) (i : ℕ) (e : StoredBlock) → i < length es → e ≡ get_or es i e
    → add (block_of e) (drop (i + 1) (blocks_of es)) ≡ block_of e ∷ drop (i + 1) (blocks_of es)
    → blocks_of es ≡ take i (blocks_of es) ++ tidy_top (drop i (blocks_of es))
joined-same es i e within is stays =
    sym (take-append-drop i (blocks_of es)) ∙ ap (λ l. take i (blocks_of es) ++ l)
    (drop-blocks es i e within is ∙ sym stays ∙ ap tidy_top (sym (drop-blocks es i e within is)))

-- an entry is taken out
pub blocks-remove : (es : List StoredBlock) (i : ℕ) → blocks_of (take i es ++ drop (suc i) es) ≡ take i (blocks_of es)
    ++ drop (i + 1) (blocks_of es)
blocks-remove es i =
    map-append block_of (take i es) (drop (suc i) es) ∙ ap (λ l. l ++ map block_of (drop (suc i) es))
    (sym (take-map block_of i es))
    ∙ ap (λ l. take i (blocks_of es) ++ l) (ap (λ n. map block_of (drop n es)) (let z : suc i ≡ i + 1 = omega arith in
    z) ∙ sym (drop-map block_of (i + 1) es))

pub joined-empty : (es : List StoredBlock) (i n : ℕ) (e : StoredBlock) → i < length es → e ≡ get_or es i e
    → e ≡ entry.Free n → n ≡ 0 → blocks_of (take i es ++ drop (suc i) es) ≡ take i (blocks_of es)
    ++ tidy_top (drop i (blocks_of es))
joined-empty es i n e within is free none =
    blocks-remove es i ∙ ap (λ l. take i (blocks_of es) ++ l)
    (sym (ap tidy_top (drop-blocks es i e within is) ∙ ap (λ x. add (block_of x) (drop (i + 1) (blocks_of es))) free
    ∙ ap (λ k. add (Free k) (drop (i + 1) (blocks_of es))) none))

-- one of the first entries is set
pub set-in_front : (es : List StoredBlock) (i : ℕ) (x : StoredBlock) (rest : List StoredBlock) → i < length es
    → slice_set (take (i + 1) es ++ rest) i x ≡ take i es ++ x ∷ rest
set-in_front [] i x rest within = absurd (let z : i < 0 = within in omega arith)
set-in_front (y ∷ es) zero x rest within = refl
set-in_front (y ∷ es) (suc i) x rest within = (ap (λ n. slice_set (take n (y ∷ es) ++ rest) (suc i) x)
    (let z : suc i + 1 ≡ suc (i + 1) = omega arith in z)) ∙ ap (λ l. y ∷ l)
    (set-in_front es i x rest (let z : suc i < suc (length es) = within in omega arith))

-- the next entry is taken out, and this one is both
pub joined-two : (es : List StoredBlock) (i n m : ℕ) (e f : StoredBlock) → i + 1 < length es → e ≡ get_or es i e
    → e ≡ entry.Free n → f ≡ get_or es (i + 1) f → f ≡ entry.Free m → (n ≡ 0 → ⊥)
    → blocks_of (slice_set (take (i + 1) es ++ drop (suc (i + 1)) es) i (entry.Free (n + m))) ≡ take i (blocks_of es)
    ++ tidy_top (drop i (blocks_of es))
joined-two es i n m e f within is free is' free' some =
    ap blocks_of (set-in_front es i (entry.Free (n + m)) (drop (suc (i + 1)) es) (let z : i < length es = omega arith in
    z))
    ∙ map-append block_of (take i es) (entry.Free (n + m) ∷ drop (suc (i + 1)) es)
    ∙ ap (λ l. l ++ Free (n + m) ∷ map block_of (drop (suc (i + 1)) es)) (sym (take-map block_of i es))
    ∙ ap (λ l. take i (blocks_of es) ++ l)
    (ap (λ l. Free (n + m) ∷ l) (ap (λ k. map block_of (drop k es)) (let z : suc (i + 1) ≡ i + 1 + 1 = omega arith in z)
    ∙ sym (drop-map block_of (i + 1 + 1) es))
    ∙ sym (add-free_free n m (drop (i + 1 + 1) (blocks_of es)) some)
    ∙ ap (λ x. add (Free n) (block_of x ∷ drop (i + 1 + 1) (blocks_of es))) (sym free')
    ∙ ap (add (Free n)) (sym (drop-blocks es (i + 1) f within is'))
    ∙ ap (λ x. add (block_of x) (drop (i + 1) (blocks_of es))) (sym free)
    ∙ ap tidy_top (sym (drop-blocks es i e (let z : i < length es = omega arith in z) is)))

pub spot_at-here : (es : List StoredBlock) (i rest : ℕ) (e : StoredBlock) → i < length es → e ≡ get_or es i e → rest ≡ 0
    → raised_by (take i (blocks_of es)) (spot_at rest (drop i (blocks_of es))) ≡ nth_spot i (blocks_of es)
spot_at-here es i rest e within is none =
    ap (λ l. raised_by (take i (blocks_of es)) (spot_at rest l)) (drop-blocks es i e within is)
    ∙ ap (raised_by (take i (blocks_of es))) (cond-true (rest == 0) _ _ (grind (arith, nat_tests)))
    ∙ ap (λ l. Some (record { below = l; here = block_of e; above = drop (i + 1) (blocks_of es) }))
    (append-nil (take i (blocks_of es)))
    ∙ sym (nth_spot-at i (blocks_of es) (block_of e) (drop (i + 1) (blocks_of es)) (drop-blocks es i e within is))

pub free-more : (es : List StoredBlock) (i : ℕ) (e : StoredBlock) → i < length es → e ≡ get_or es i e
    → free_sum (take (i + 1) (blocks_of es)) ≡ free_sum (take i (blocks_of es)) + free_of (block_of e)
free-more es i e within is = ap free_sum (take-blocks es i e within is)
    ∙ total-append free_of (take i (blocks_of es)) (block_of e ∷ [])
    ∙ ap (λ n. free_sum (take i (blocks_of es)) + n) (let z : free_of (block_of e) + 0
    ≡ free_of (block_of e) = omega arith in z)

pub free-le : (es : List StoredBlock) (i : ℕ) (e : StoredBlock) → i < length es → e ≡ get_or es i e
    → free_sum (take i (blocks_of es)) + free_of (block_of e) ≤ sizes (blocks_of es)
free-le es i e within is =
    let a : free_sum (take i (blocks_of es)) ≤ sizes (take i (blocks_of es)) =
    total-le free_of size free_of-le (take i (blocks_of es)) in
    let b = entry_fits es i e within is in
    let c = free_of-le (block_of e) in
    omega arith

pub free_of-not_free : (e : StoredBlock) → ((n : ℕ) → e ≡ entry.Free n → ⊥) → free_of (block_of e) ≡ 0
free_of-not_free (entry.Free n) never = absurd (never n refl)
free_of-not_free (entry.Nonrelocatable place content) never = refl
free_of-not_free entry.Masters never = refl
free_of-not_free (entry.Relocatable slot flags content) never = refl

pub two-le : (es : List StoredBlock) (i : ℕ) (e f : StoredBlock) → i + 1 < length es → e ≡ get_or es i e
    → f ≡ get_or es (i + 1) f → size (block_of e) + size (block_of f) ≤ sizes (blocks_of es)
two-le es i e f within is is' =
    let a = sizes-more es i e (let z : i < length es = omega arith in z) is in
    let b = entry_fits es (i + 1) f within is' in
    omega arith

freed-step_at : (t : Block → Bool) (bs : List Block) (j : ℕ) → j < length bs
    → take j (freed t (take j bs) ++ drop j bs) ++ freed_first t (drop j (freed t (take j bs) ++ drop j bs))
    ≡ freed t (take (suc j) bs) ++ drop (suc j) bs
freed-step_at t [] j within = absurd (let z : j < 0 = within in omega arith)
freed-step_at t (b ∷ bs) zero within = refl
freed-step_at t (b ∷ bs) (suc j) within = ap (λ l. cond (t b) (Free (size b)) b ∷ l)
    (freed-step_at t bs j (let z : suc j < suc (length bs) = within in omega arith))

-- one block more is freed
pub freed-step : (t : Block → Bool) (bs : List Block) (j : ℕ) → j < length bs
    → take j (freed t (take j bs) ++ drop j bs) ++ freed_first t (drop j (freed t (take j bs) ++ drop j bs))
    ≡ freed t (take (j + 1) bs) ++ drop (j + 1) bs
freed-step t bs j within = freed-step_at t bs j within ∙ ap (λ n. freed t (take n bs) ++ drop n bs)
    (let z : suc j ≡ j + 1 = omega arith in z)

-- an entry set to a Free one, where it passes
pub freed_first-set : (t : Block → Bool) (es : List StoredBlock) (i bytes : ℕ) (e : StoredBlock) → i < length es
    → e ≡ get_or es i e → t (block_of e) ≡ true → bytes ≡ size (block_of e)
    → blocks_of (slice_set es i (entry.Free bytes)) ≡ take i (blocks_of es) ++ freed_first t (drop i (blocks_of es))
freed_first-set t es i bytes e within is passes same =
    ap blocks_of (set_split es i (entry.Free bytes) within) ∙ map-append block_of (take i es)
    (entry.Free bytes ∷ drop (suc i) es)
    ∙ ap (λ l. l ++ Free bytes ∷ map block_of (drop (suc i) es)) (sym (take-map block_of i es))
    ∙ ap (λ l. take i (blocks_of es) ++ l)
    (ap (λ n. Free n ∷ map block_of (drop (suc i) es)) same ∙ ap
    (λ n. Free (size (block_of e)) ∷ map block_of (drop n es)) (let z : suc i ≡ i + 1 = omega arith in z)
    ∙ ap (λ l. Free (size (block_of e)) ∷ l) (sym (drop-map block_of (i + 1) es))
    ∙ ap (λ b. b ∷ drop (i + 1) (blocks_of es)) (sym (cond-true (t (block_of e)) (Free (size (block_of e))) (block_of e)
    passes)) ∙ ap (freed_first t) (sym (drop-blocks es i e within is)))

-- and where it doesn't
pub freed_first-same : (t : Block → Bool) (es : List StoredBlock) (i : ℕ) (e : StoredBlock) → i < length es
    → e ≡ get_or es i e → t (block_of e) ≡ false → blocks_of es ≡ take i (blocks_of es)
    ++ freed_first t (drop i (blocks_of es))
freed_first-same t es i e within is fails =
    sym (take-append-drop i (blocks_of es)) ∙ ap (λ l. take i (blocks_of es) ++ l)
    (drop-blocks es i e within is ∙ ap (λ b. b ∷ drop (i + 1) (blocks_of es))
    (sym (cond-false (t (block_of e)) (Free (size (block_of e))) (block_of e) fails))
    ∙ ap (freed_first t) (sym (drop-blocks es i e within is)))
