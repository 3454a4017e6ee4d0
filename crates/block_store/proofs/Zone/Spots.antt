use Rattle.block_store.proofs.Cited.{◌≡◌, ℕ, ◌+◌, ◌-◌, ◌≤◌, ◌<◌, zero, suc, Bool, true, false, ◌==◌, List, [], ◌∷◌, ◌++◌, length, refl, sym}
use Rattle.block_store.proofs.Cited.{◌∙◌, ap, cond, arith, Option, Some, None, nat_le, none-some, same_Some, cond-true, cond-false}
use Rattle.block_store.proofs.Cited.{nat_tests, option_map, length-append, length-take, length-drop, padded, Block, Free, Nonrelocatable}
use Rattle.block_store.proofs.Cited.{Masters, Relocatable, size, sizes, is_room, free, content_of, with_content, written, Spot, spot}
use Rattle.block_store.proofs.Cited.{raised, spot_at, FindsLowest}
use Rattle.block_store.proofs.Zone.Totals.{total-append}
use Rattle.block_store.proofs.Zone.Apart.{Apart, apart-size}
use Rattle.block_store.proofs.Plain.Options.{has_place}

-- where blocks take bytes, a spot by a test is the spot of its place
pub spot_at-spot : (test : Block → Bool) (zone : List Block) (s : Spot) → Apart zone → spot test zone ≡ Some s
    → spot_at (sizes s.below) zone ≡ Some s
spot_at-spot test [] s apart e = absurd (none-some _ e)
spot_at-spot test (b ∷ above) s apart e = cases (test b) (spot test above) (λ s e. spot_at-spot test above s apart.1 e)
    (apart-size b above apart.0) e
  where
    cases : (t : Bool) (o : Option Spot) → ((s : Spot) → o ≡ Some s → spot_at (sizes s.below) above ≡ Some s)
        → 0 < size b
        → cond t (Some (record { below = []; here = b; above = above })) (option_map (raised b) o) ≡ Some s
        → spot_at (sizes s.below) (b ∷ above) ≡ Some s
    cases true o rest big e = let same = same_Some _ _ e in ap (λ (x : Spot). spot_at (sizes x.below) (b ∷ above))
        (sym same) ∙ ap Some same
    cases false None rest big e = absurd (none-some _ e)
    cases false (Some s') rest big e =
        let same = same_Some _ _ e in
        let n : sizes (b ∷ s'.below) ≡ size b + sizes s'.below = refl in
        ap (λ (x : Spot). spot_at (sizes x.below) (b ∷ above)) (sym same)
        ∙ cond-false (sizes (b ∷ s'.below) == 0) _ _ (grind (arith, nat_tests))
        ∙ cond-true (nat_le (size b) (sizes (b ∷ s'.below))) _ _ (grind (arith, nat_tests))
        ∙ ap (λ k. option_map (raised b) (spot_at k above)) (let z : sizes (b ∷ s'.below) - size b
        ≡ sizes s'.below = omega arith in z)
        ∙ ap (option_map (raised b)) (rest s' refl) ∙ ap Some same

-- what is found by a test has its place
pub finds : (test : Block → Bool) (zone : List Block) (r : Option ℕ) → Apart zone
    → r ≡ option_map (λ (s : Spot). sizes s.below) (spot test zone) → FindsLowest test zone r
finds test zone None apart is = has_place (λ (s : Spot). sizes s.below) (λ k. spot_at k zone) (spot test zone)
    (λ s e. spot_at-spot test zone s apart e) None is
finds test zone (Some place) apart is = has_place (λ (s : Spot). sizes s.below) (λ k. spot_at k zone) (spot test zone)
    (λ s e. spot_at-spot test zone s apart e) (Some place) is

pub size-content : (x : List ℕ) (b : Block) → length x ≡ length (content_of b) → size (with_content x b) ≡ size b
size-content x (Free n) same = refl
size-content x (Nonrelocatable id content) same = ap padded same
size-content x Masters same = refl
size-content x (Relocatable id flags content) same = ap padded same

pub length-written : (i : ℕ) (x bytes : List ℕ) → i + length x ≤ length bytes
    → length (written i x bytes) ≡ length bytes
length-written i x bytes fits = simp (length-append, length-take, length-drop) (omega arith)

pub sizes-same : (below above : List Block) (b c : Block) → size c ≡ size b
    → sizes (below ++ c ∷ above) ≡ sizes (below ++ b ∷ above)
sizes-same below above b c same = omega (
  arith,
  total-append size below (c ∷ above),
  total-append size below
      (b ∷ above),
)

pub room-size : (p : ℕ) (b : Block) → is_room p b ≡ true → p ≤ size b
room-size p (Free n) e = grind (arith, nat_tests)
room-size p (Nonrelocatable id content) e = let f : false ≡ true = e in cc
room-size p Masters e = let f : false ≡ true = e in cc
room-size p (Relocatable id flags content) e = let f : false ≡ true = e in cc

pub sizes-carved : (below above : List Block) (b new : Block) (left : ℕ) → size new + left ≡ size b
    → sizes (below ++ new ∷ Free left ∷ above) ≡ sizes (below ++ b ∷ above)
sizes-carved below above b new left same = omega (
  arith,
  total-append size below (new ∷ Free left ∷ above),
  total-append
      size below (b ∷ above),
)

pub free-some : (n : ℕ) → 0 < n → free n ≡ Free n ∷ []
free-some zero some = absurd (omega arith)
free-some (suc n) some = refl
