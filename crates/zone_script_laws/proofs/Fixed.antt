use Rattle.zone_script_laws.proofs.Cited.{◌≡◌, ℕ, ◌+◌, ◌-◌, ◌≤◌, ◌<◌, zero, suc, Bool, true, false, not, List, [], ◌∷◌, ◌++◌, refl, ◌∙◌, ap}
use Rattle.zone_script_laws.proofs.Cited.{arith, Option, Some, nat_le, append-nil, option_map, option_or, option_and_then, cond-true}
use Rattle.zone_script_laws.proofs.Cited.{cond-false, nat_tests, Block, Free, Nonrelocatable, Masters, Relocatable, size, free, add, tidy}
use Rattle.zone_script_laws.proofs.Cited.{is_room, in_run, RunSpot, Segments, segments, lowest_run, run_spot, run_raised, has_free, low}
use Rattle.zone_script_laws.proofs.Cited.{change_run, settle, Spot, spot, raised, filled, put_in_place, put_at_base, may_be_purged}
use Rattle.zone_script_laws.proofs.Cited.{count_of, is_free, barrier-alone, stands, free-some}

-- Blocks that stay where they are, with free bytes above them.

-- each block is one that ends a run: no free block, and no unlocked relocatable one
abbrev pub Stay : List Block → Type 0
Stay [] = Unit {0}
Stay (b ∷ bs) = (in_run b ≡ false) × Stay bs

pub stay-append : (xs ys : List Block) → Stay xs → Stay ys → Stay (xs ++ ys)
stay-append [] ys a b = b
stay-append (x ∷ xs) ys a b = (a.0, stay-append xs ys a.1 b)

not-room : (p : ℕ) (b : Block) → in_run b ≡ false → is_room p b ≡ false
not-room p (Free n) e = let f : true ≡ false = e in cc
not-room p (Nonrelocatable id content) e = refl
not-room p Masters e = refl
not-room p (Relocatable id flags content) e = refl

not-purged : (spared : Block → Bool) (b : Block) → in_run b ≡ false → may_be_purged spared b ≡ false
not-purged spared (Free n) e = refl
not-purged spared (Nonrelocatable id content) e = refl
not-purged spared Masters e = refl
not-purged spared (Relocatable id flags content) e = rw (let f : not flags.locked ≡ false = e in f) refl

-- the free bytes are the only room
pub stay-room : (p n : ℕ) (bs : List Block) → Stay bs → p ≤ n
    → spot (is_room p) (bs ++ Free n ∷ []) ≡ Some (record { below = bs; here = Free n; above = [] })
stay-room p n [] s fits = cond-true (nat_le p n) _ _ (grind (arith, nat_tests))
stay-room p n (b ∷ bs) s fits =
    cond-false (is_room p b) _ _ (not-room p b s.0) ∙ ap (option_map (raised b)) (stay-room p n bs s.1 fits)

-- and the only run with free bytes
pub stay-run : (p n : ℕ) (bs : List Block) → Stay bs → 0 < p → p ≤ n
    → run_spot (has_free p) (bs ++ Free n ∷ []) ≡ Some (record { below = bs; run = Free n ∷ []; above = [] })
stay-run p n [] s some fits = cond-true (has_free p (Free n ∷ [])) _ _ (grind (arith, nat_tests))
stay-run p n (b ∷ bs) s some fits =
    ap (λ (g : Segments). lowest_run (has_free p) g.first g.rest)
    (cond-false {A = Segments} (in_run b) _
    (record { first = []; rest = record { barrier = b; run = (segments (bs ++ Free n ∷ [])).first } ∷ (segments (bs ++ Free n ∷ [])).rest })
    s.0)
    ∙ cond-false (has_free p []) _ _ (grind (arith, nat_tests))
    ∙ ap (option_map (run_raised (b ∷ []))) (stay-run p n bs s.1 some fits)

pub stay-tidy : (g : ℕ) (bs : List Block) → Stay bs → tidy (bs ++ free g) ≡ bs ++ free g
stay-tidy zero [] s = refl
stay-tidy (suc g) [] s = refl
stay-tidy g (b ∷ bs) s = ap (add b) (stay-tidy g bs s.1) ∙ barrier-alone b (bs ++ free g) s.0

-- with one block more that isn't free
pub more-tidy : (n : ℕ) (b : Block) (bs : List Block) → Stay bs → is_free b ≡ false
    → tidy (bs ++ b ∷ Free n ∷ []) ≡ bs ++ b ∷ free n
more-tidy zero b [] s e = stands b e []
more-tidy (suc n) b [] s e = stands b e (Free (suc n) ∷ [])
more-tidy n b (c ∷ bs) s e = ap (add c) (more-tidy n b bs s.1 e) ∙ barrier-alone c (bs ++ b ∷ free n) s.0

pub freed-tidy : (n : ℕ) (b : Block) (bs : List Block) → Stay bs → is_free b ≡ false
    → tidy (bs ++ b ∷ free n) ≡ bs ++ b ∷ free n
freed-tidy zero b [] s e = stands b e []
freed-tidy (suc n) b [] s e = stands b e (Free (suc n) ∷ [])
freed-tidy n b (c ∷ bs) s e = ap (add c) (freed-tidy n b bs s.1 e) ∙ barrier-alone c (bs ++ b ∷ free n) s.0

-- none may be purged
pub stay-count : (spared : Block → Bool) (g : ℕ) (bs : List Block) → Stay bs → count_of spared (bs ++ free g) ≡ 0
stay-count spared zero [] s = refl
stay-count spared (suc g) [] s = refl
stay-count spared g (b ∷ bs) s = rw (not-purged spared b s.0) (omega (arith, stay-count spared g bs s.1))

-- a block is put above the others
pub put-above : (new : Block) (g : ℕ) (bs : List Block) → Stay bs → is_free new ≡ false → 0 < size new → size new ≤ g
    → put_in_place new (bs ++ free g) ≡ Some (bs ++ new ∷ free (g - size new))
put-above new g bs s e some fits =
    ap (λ k. put_in_place new (bs ++ k)) (free-some g (omega arith))
    ∙ ap (λ o. option_map (filled new) (option_or o (packed (bs ++ Free g ∷ [])))) (stay-room (size new) g bs s fits)
    ∙ ap Some (more-tidy (g - size new) new bs s e)
  where
    packed : List Block → Option Spot
    packed zone = option_and_then (spot (is_room (size new))) (option_map tidy (change_run (has_free (size new)) settle zone))

pub base-above : (new : Block) (g : ℕ) (bs : List Block) → Stay bs → is_free new ≡ false → 0 < size new → size new ≤ g
    → put_at_base new (bs ++ free g) ≡ Some (bs ++ new ∷ free (g - size new))
base-above new g bs s e some fits =
    ap (λ k. put_at_base new (bs ++ k)) (free-some g (omega arith))
    ∙ ap (λ o. option_map tidy (option_map (λ (r : RunSpot). r.below ++ low new r.run ++ r.above) o)) (stay-run (size new) g bs s some fits)
    ∙ ap Some (ap (λ k. tidy (bs ++ new ∷ free k ++ [])) (let z : g + 0 - size new ≡ g - size new = omega arith in z)
    ∙ ap tidy (append-nil (bs ++ new ∷ free (g - size new))) ∙ freed-tidy (g - size new) new bs s e)
