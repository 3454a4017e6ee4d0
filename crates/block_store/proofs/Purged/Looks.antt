use Rattle.block_store.proofs.Cited.{◌≡◌, ℕ, ◌+◌, ◌-◌, zero, suc, Bool, true, false, List, [], ◌∷◌, ◌++◌, refl, sym, ◌∙◌, ap, cond, arith}
use Rattle.block_store.proofs.Cited.{Option, Some, None, is_some, none-some, same_Some, cond-true, cond-false, option_map, IfSome, Block}
use Rattle.block_store.proofs.Cited.{Free, Nonrelocatable, Masters, Relocatable, size, sizes, free, is_room, add, tidy, Spot, spot}
use Rattle.block_store.proofs.Cited.{may_be_purged, lowest_purged, taken, spared, opened, purged, opened_block, Sparing}
use Rattle.block_store.specs.declared.sparing.Sparing.TheVariants as sparing
use Rattle.block_store.proofs.Zone.Listing.{spot-here, spot-above}
use Rattle.block_store.proofs.Purged.Stretches.{opened-more, size-opened}

-- Looks at blocks of which the lowest that may go are purged.

-- what is above the block that passes
abbrev pub above_spot : (Block → Bool) → List Block → Option (List Block)
above_spot test bs = option_map (λ (s : Spot). s.above) (spot test bs)

-- the place of the block that passes, where the lowest is at a place
abbrev pub place_from : ℕ → (Block → Bool) → List Block → Option ℕ
place_from place test bs = option_map (λ (s : Spot). place + sizes s.below) (spot test bs)

pub above_spot-here : (test : Block → Bool) (b : Block) (bs : List Block) → test b ≡ true
    → above_spot test (b ∷ bs) ≡ Some bs
above_spot-here test b bs passes = ap (option_map (λ (s : Spot). s.above)) (cond-true (test b) _ _ passes)

-- Free blocks that are made one leave the place of the block that passes
place-add : (place : ℕ) (test : Block → Bool) → ((n : ℕ) → test (Free n) ≡ false) → (b : Block) (bs : List Block)
    → place_from place test (add b bs) ≡ place_from place test (b ∷ bs)
place-add place test none (Free zero) bs = ap (λ n. place_from n test bs) (let z : place ≡ place + 0 = omega arith in z)
    ∙ sym (spot-above test place (Free zero) bs (none zero))
place-add place test none (Free (suc n)) [] = refl
place-add place test none (Free (suc n)) (Free m ∷ bs) =
    spot-above test place (Free (suc n + m)) bs (none (suc n + m))
    ∙ ap (λ k. place_from k test bs) (let z : place + (suc n + m) ≡ place + suc n + m = omega arith in z)
    ∙ sym (spot-above test place (Free (suc n)) (Free m ∷ bs) (none (suc n))
    ∙ spot-above test (place + suc n) (Free m) bs (none m))
place-add place test none (Free (suc n)) (Nonrelocatable id content ∷ bs) = refl
place-add place test none (Free (suc n)) (Masters ∷ bs) = refl
place-add place test none (Free (suc n)) (Relocatable id flags content ∷ bs) = refl
place-add place test none (Nonrelocatable id content) bs = refl
place-add place test none Masters bs = refl
place-add place test none (Relocatable id flags content) bs = refl

pub place-tidy : (place : ℕ) (test : Block → Bool) → ((n : ℕ) → test (Free n) ≡ false) → (bs : List Block)
    → place_from place test (tidy bs) ≡ place_from place test bs
place-tidy place test none [] = refl
place-tidy place test none (b ∷ bs) = place-add place test none b (tidy bs)
    ∙ cases (test b) refl (place-tidy (place + size b) test none bs)
  where
    cases : (t : Bool) → test b ≡ t → place_from (place + size b) test (tidy bs) ≡ place_from (place + size b) test bs
        → place_from place test (b ∷ tidy bs) ≡ place_from place test (b ∷ bs)
    cases true e rest = spot-here test place b (tidy bs) e ∙ sym (spot-here test place b bs e)
    cases false e rest = spot-above test place b (tidy bs) e ∙ rest ∙ sym (spot-above test place b bs e)

pub place-zero : (test : Block → Bool) (bs : List Block) → place_from 0 test bs
    ≡ option_map (λ (s : Spot). sizes s.below) (spot test bs)
place-zero test bs = cases (spot test bs)
  where
    cases : (o : Option Spot) → option_map (λ (s : Spot). 0 + sizes s.below) o
        ≡ option_map (λ (s : Spot). sizes s.below) o
    cases None = refl
    cases (Some s) = ap Some (let z : 0 + sizes s.below ≡ sizes s.below = omega arith in z)

-- the search for the next block to go, one block on
abbrev pub next_from : ℕ → (Block → Bool) → ℕ → List Block → Option ℕ
next_from place sp left bs = place_from place (may_be_purged sp) (lowest_purged left sp bs)

pub next-here : (place : ℕ) (sp : Block → Bool) (left : ℕ) (b : Block) (above : List Block) → may_be_purged sp b ≡ true
    → left ≡ 0 → next_from place sp left (b ∷ above) ≡ Some place
next-here place sp zero b above goes none = spot-here (may_be_purged sp) place b above goes
next-here place sp (suc left) b above goes none = absurd (let z : suc left ≡ 0 = none in omega arith)

pub next-goes : (place : ℕ) (sp : Block → Bool) (left : ℕ) (b : Block) (above : List Block) → may_be_purged sp b ≡ true
    → (left ≡ 0 → ⊥) → next_from place sp left (b ∷ above) ≡ next_from (place + size b) sp (left - 1) above
next-goes place sp zero b above goes some = absurd (some refl)
next-goes place sp (suc left) b above goes some =
    ap (place_from place (may_be_purged sp)) (cond-true (may_be_purged sp b)
    (Free (size b) ∷ lowest_purged left sp above)
    (b ∷ lowest_purged (suc left) sp above) goes)
    ∙ spot-above (may_be_purged sp) place (Free (size b)) (lowest_purged left sp above) refl
    ∙ ap (λ n. next_from (place + size b) sp n above) (let z : left ≡ suc left - 1 = omega arith in z)

pub next-stays : (place : ℕ) (sp : Block → Bool) (left : ℕ) (b : Block) (above : List Block) → may_be_purged sp b
    ≡ false
    → next_from place sp left (b ∷ above) ≡ next_from (place + size b) sp left above
next-stays place sp zero b above stays = spot-above (may_be_purged sp) place b above stays
next-stays place sp (suc left) b above stays =
    ap (place_from place (may_be_purged sp)) (cond-false (may_be_purged sp b)
    (Free (size b) ∷ lowest_purged left sp above)
    (b ∷ lowest_purged (suc left) sp above) stays)
    ∙ spot-above (may_be_purged sp) place b (lowest_purged (suc left) sp above) stays

-- the block to go next has the same place in the zone after the purges
pub next-is : (n : Sparing) (k : ℕ) (zone : List Block) → next_from 0 (spared n) k (opened n zone)
    ≡ option_map (λ (s : Spot). sizes s.below) (spot (may_be_purged (spared n)) (purged k n zone))
next-is n k zone = sym (place-tidy 0 (may_be_purged (spared n)) (λ m. refl)
    (lowest_purged k (spared n) (opened n zone)))
    ∙ place-zero (may_be_purged (spared n)) (purged k n zone)

-- the Free bytes of the lowest block
abbrev pub top_free : List Block → ℕ
top_free [] = 0
top_free (Free n ∷ above) = n
top_free (Nonrelocatable id content ∷ above) = 0
top_free (Masters ∷ above) = 0
top_free (Relocatable id flags content ∷ above) = 0

-- so many Free bytes can be taken where the lowest block has room for them
pub taken-room : (d : ℕ) (b : Block) (above : List Block) → is_some (taken d (b ∷ above)) ≡ is_room d b
taken-room d b above = shown (is_room d b)
  where
    shown : (t : Bool) → is_some (cond t (Some (free (size b - d) ++ above)) None) ≡ t
    shown true = refl
    shown false = refl

-- room above the block that passes
pub follows-some : (test : Block → Bool) (bs above : List Block) (d : ℕ) (r : Bool) → above_spot test bs ≡ Some above
    → r ≡ is_some (taken d above) → IfSome (spot test bs) (λ s. r ≡ is_some (taken d s.above))
follows-some test bs above d r e is = cases (spot test bs) e
  where
    cases : (o : Option Spot) → option_map (λ (s : Spot). s.above) o ≡ Some above
        → IfSome o (λ s. r ≡ is_some (taken d s.above))
    cases None e = tt
    cases (Some s) e = is ∙ ap (λ l. is_some (taken d l)) (sym (same_Some _ _ e))

pub follows-none : (test : Block → Bool) (bs : List Block) (P : Spot → Type 0) → above_spot test bs ≡ None
    → IfSome (spot test bs) P
follows-none test bs P e = cases (spot test bs) e
  where
    cases : (o : Option Spot) → option_map (λ (s : Spot). s.above) o ≡ None → IfSome o P
    cases None e = tt
    cases (Some s) e = absurd (none-some _ (sym e))

-- no blocks, as a search begins to look at them
pub opened-none : (n : Sparing) → opened n [] ≡ []
opened-none sparing.Nothing = refl
opened-none (sparing.One slot) = refl
opened-none (sparing.Two slot other) = refl
opened-none (sparing.Freed slot) = refl

-- the search for the next block to go, one block on
pub found-here : (n : Sparing) (b : Block) (above : List Block) (place left : ℕ)
    → may_be_purged (spared n) (opened_block n b) ≡ true → left ≡ 0
    → next_from place (spared n) left (opened n (b ∷ above)) ≡ Some place
found-here n b above place left goes none = ap (next_from place (spared n) left) (opened-more n b above)
    ∙ next-here place (spared n) left (opened_block n b) (opened n above) goes none

pub found-goes : (n : Sparing) (b : Block) (above : List Block) (place left size' left' : ℕ)
    → may_be_purged (spared n) (opened_block n b) ≡ true → (left ≡ 0 → ⊥) → size' ≡ size b → left' ≡ left - 1
    → next_from (place + size') (spared n) left' (opened n above)
    ≡ next_from place (spared n) left (opened n (b ∷ above))
found-goes n b above place left size' left' goes some bytes less =
    let rest = opened n above in
    let c = opened_block n b in
    ap (λ k. next_from (place + k) (spared n) left' rest) (bytes ∙ sym (size-opened n b))
    ∙ ap (λ k. next_from (place + size c) (spared n) k rest) less
    ∙ sym (ap (next_from place (spared n) left) (opened-more n b above)
    ∙ next-goes place (spared n) left c rest goes some)

pub found-stays : (n : Sparing) (b : Block) (above : List Block) (place left size' left' : ℕ)
    → may_be_purged (spared n) (opened_block n b) ≡ false → size' ≡ size b → left' ≡ left
    → next_from (place + size') (spared n) left' (opened n above)
    ≡ next_from place (spared n) left (opened n (b ∷ above))
found-stays n b above place left size' left' stays bytes same =
    let rest = opened n above in
    let c = opened_block n b in
    ap (λ k. next_from (place + k) (spared n) left' rest) (bytes ∙ sym (size-opened n b))
    ∙ ap (λ k. next_from (place + size c) (spared n) k rest) same
    ∙ sym (ap (next_from place (spared n) left) (opened-more n b above)
    ∙ next-stays place (spared n) left c rest stays)

pub found-end : (n : Sparing) (bs : List Block) (place left : ℕ) → bs ≡ []
    → next_from place (spared n) left (opened n bs) ≡ None
found-end n bs place left none =
    ap (λ l. next_from place (spared n) left (opened n l)) none
    ∙ ap (next_from place (spared n) left) (opened-none n) ∙ ends left
  where
    ends : (left : ℕ) → next_from place (spared n) left [] ≡ None
    ends zero = refl
    ends (suc left) = refl
