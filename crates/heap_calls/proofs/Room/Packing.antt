use Rattle.heap_calls.proofs.Cited.{◌≡◌, ℕ, ◌+◌, ◌-◌, ◌<◌, zero, suc, Bool, true, false, not, ◌||◌, ◌==◌, List, [], ◌∷◌, ◌++◌, refl, sym}
use Rattle.heap_calls.proofs.Cited.{◌∙◌, ap, subst, cond, arith, Option, Some, None, nat_le, append_assoc, none-some, same_Some, le-leb}
use Rattle.heap_calls.proofs.Cited.{cond-true, cond-false, nat_tests, option_map, IfSome, IsSomeAnd, IsTrue, FindsLowestRun, Block, Free}
use Rattle.heap_calls.proofs.Cited.{Nonrelocatable, Masters, Relocatable, size, sizes, free_sum, free, is_room, add, tidy, has}
use Rattle.heap_calls.proofs.Cited.{has_free, in_run, movers, low, with_run, RunSpot, run_raised, lowest_run, run_spot, run_at, segments}
use Rattle.heap_calls.proofs.Cited.{joined, Stretch, raised, spot_at, total-tidy, has-tidy, tidy-tidy, barrier-alone, run_spot-passes}
use Rattle.heap_calls.proofs.Cited.{AreParts, in-parts, Spot, filled, spot_at-is, false≢true, tidy-below}
use Rattle.heap_calls.proofs.Room.Searching.{at_run}

-- two Free blocks below others
both : (n m k : ℕ) → k ≡ suc n + suc m → (bs : List Block) → add (Free (suc n)) (add (Free (suc m)) bs)
    ≡ add (Free k) bs
both n m zero e bs = absurd (omega (arith, e))
both n m (suc k) e [] = ap (λ j. Free j ∷ []) (sym e)
both n m (suc k) e (Free l ∷ bs) = ap (λ j. Free j ∷ bs) (let z : suc n + (suc m + l) ≡ suc k + l = omega (arith, e) in
    z)
both n m (suc k) e (Nonrelocatable id content ∷ bs) = ap (λ j. Free j ∷ Nonrelocatable id content ∷ bs) (sym e)
both n m (suc k) e (Masters ∷ bs) = ap (λ j. Free j ∷ Masters ∷ bs) (sym e)
both n m (suc k) e (Relocatable id flags content ∷ bs) = ap (λ j. Free j ∷ Relocatable id flags content ∷ bs) (sym e)

add-add : (n m : ℕ) (bs : List Block) → add (Free n) (add (Free m) bs) ≡ add (Free (n + m)) bs
add-add zero m bs = ap (λ k. add (Free k) bs) (let z : m ≡ 0 + m = omega arith in z)
add-add (suc n) zero bs = ap (λ k. add (Free k) bs) (let z : suc n ≡ suc n + 0 = omega arith in z)
add-add (suc n) (suc m) bs = both n m (suc n + suc m) refl bs

tidy-add : (b : Block) (bs above : List Block) → tidy (add b bs ++ above) ≡ add b (tidy (bs ++ above))
tidy-add (Free zero) bs above = refl
tidy-add (Free (suc n)) [] above = refl
tidy-add (Free (suc n)) (Free m ∷ bs) above = sym (add-add (suc n) m (tidy (bs ++ above)))
tidy-add (Free (suc n)) (Nonrelocatable id content ∷ bs) above = refl
tidy-add (Free (suc n)) (Masters ∷ bs) above = refl
tidy-add (Free (suc n)) (Relocatable id flags content ∷ bs) above = refl
tidy-add (Nonrelocatable id content) bs above = refl
tidy-add Masters bs above = refl
tidy-add (Relocatable id flags content) bs above = refl

-- what is tidied below needn't be tidied before
pub tidy-left : (below above : List Block) → tidy (tidy below ++ above) ≡ tidy (below ++ above)
tidy-left [] above = refl
tidy-left (b ∷ below) above = tidy-add b (tidy below) above ∙ ap (add b) (tidy-left below above)

-- blocks that don't join with what is above them
abbrev pub Closed : List Block → Type 0
Closed below = (above : List Block) → tidy (below ++ above) ≡ tidy below ++ tidy above

abbrev ends_run : Block → Bool
ends_run b = not (in_run b)

add-front : (b : Block) (bs above : List Block) → has ends_run bs ≡ true → add b (bs ++ above) ≡ add b bs ++ above
add-front (Free zero) bs above e = refl
add-front (Free (suc n)) [] above e = let f : false ≡ true = e in cc
add-front (Free (suc n)) (Free m ∷ bs) above e = refl
add-front (Free (suc n)) (Nonrelocatable id content ∷ bs) above e = refl
add-front (Free (suc n)) (Masters ∷ bs) above e = refl
add-front (Free (suc n)) (Relocatable id flags content ∷ bs) above e = refl
add-front (Nonrelocatable id content) bs above e = refl
add-front Masters bs above e = refl
add-front (Relocatable id flags content) bs above e = refl

ended : (run : List Block) (b : Block) → in_run b ≡ false → has ends_run (run ++ b ∷ []) ≡ true
ended [] b e = rw e refl
ended (x ∷ run) b e = rw (ended run b e) (elim (ends_run x) as (λ t. (t || true) ≡ true) [ true ↦ refl | false ↦ refl ])

closed-run : (run : List Block) (b : Block) → in_run b ≡ false → Closed (run ++ b ∷ [])
closed-run [] b e above = barrier-alone b (tidy above) e ∙ ap (λ l. l ++ tidy above) (sym (barrier-alone b [] e))
closed-run (x ∷ run) b e above =
    ap (add x) (closed-run run b e above)
    ∙ add-front x (tidy (run ++ b ∷ [])) (tidy above) (has-tidy ends_run (λ n. refl) (run ++ b ∷ []) ∙ ended run b e)

closed-both : (xs ys : List Block) → Closed xs → Closed ys → Closed (xs ++ ys)
closed-both xs ys cx cy above =
    ap tidy (append_assoc xs ys above) ∙ cx (ys ++ above) ∙ ap (λ l. tidy xs ++ l) (cy above)
    ∙ sym (append_assoc (tidy xs) (tidy ys) (tidy above)) ∙ ap (λ l. l ++ tidy above) (sym (cx ys))

closed-lowest : (passes : List Block → Bool) (run : List Block) (parts : List Stretch) (r : RunSpot) → AreParts parts
    → lowest_run passes run parts ≡ Some r → Closed r.below
closed-lowest passes run [] r all e = cases (passes run) e
  where
    cases : (t : Bool) → cond t (Some (record { below = []; run = run; above = [] })) None ≡ Some r → Closed r.below
    cases true e = let P : RunSpot → Type 0 = λ r. Closed r.below in subst P (same_Some _ _ e) (λ above. refl)
    cases false e = absurd (none-some _ e)
closed-lowest passes run (p ∷ parts) r all e = cases (passes run) (lowest_run passes p.run parts)
    (λ r e. closed-lowest passes p.run parts r all.2 e) e
  where
    cases : (t : Bool) (o : Option RunSpot) → ((r : RunSpot) → o ≡ Some r → Closed r.below)
        → cond t (Some (record { below = []; run = run; above = p.barrier ∷ joined p.run parts }))
        (option_map (run_raised (run ++ p.barrier ∷ [])) o) ≡ Some r → Closed r.below
    cases true o rest e = let P : RunSpot → Type 0 = λ r. Closed r.below in subst P (same_Some _ _ e) (λ above. refl)
    cases false None rest e = absurd (none-some _ e)
    cases false (Some r') rest e = let P : RunSpot → Type 0 = λ r. Closed r.below in
        subst P (same_Some _ _ e) (closed-both (run ++ p.barrier ∷ []) r'.below (closed-run run p.barrier all.0)
        (rest r' refl))

-- what is below a run doesn't join with it
pub closed-below : (passes : List Block → Bool) (zone : List Block) (r : RunSpot) → run_spot passes zone ≡ Some r
    → Closed r.below
closed-below passes zone r e = closed-lowest passes (segments zone).first (segments zone).rest r (in-parts zone).1 e

-- each block takes bytes
abbrev pub Solid : List Block → Type 0
Solid [] = Unit {0}
Solid (b ∷ bs) = (0 < size b) × (Solid bs)

solid-add : (b : Block) (bs : List Block) → Solid bs → Solid (add b bs)
solid-add (Free zero) bs s = s
solid-add (Free (suc n)) [] s = (omega arith, tt)
solid-add (Free (suc n)) (Free m ∷ bs) s = (omega arith, s.1)
solid-add (Free (suc n)) (Nonrelocatable id content ∷ bs) s = (omega arith, s)
solid-add (Free (suc n)) (Masters ∷ bs) s = (omega arith, s)
solid-add (Free (suc n)) (Relocatable id flags content ∷ bs) s = (omega arith, s)
solid-add (Nonrelocatable id content) bs s = (omega arith, s)
solid-add Masters bs s = (omega arith, s)
solid-add (Relocatable id flags content) bs s = (omega arith, s)

pub solid-tidy : (bs : List Block) → Solid (tidy bs)
solid-tidy [] = tt
solid-tidy (b ∷ bs) = solid-add b (tidy bs) (solid-tidy bs)

-- the block above others stands at their sizes
pub spot_at-above : (below : List Block) (b : Block) (above : List Block) → Solid below
    → spot_at (sizes below) (below ++ b ∷ above) ≡ Some (record { below = below; here = b; above = above })
spot_at-above [] b above s = refl
spot_at-above (x ∷ below) b above s =
    let e : sizes (x ∷ below) ≡ size x + sizes below = refl in
    let some : (sizes (x ∷ below) == 0) ≡ false = grind (arith, nat_tests, e, s.0) in
    let more : nat_le (size x) (sizes (x ∷ below)) ≡ true = le-leb _ _ (omega (arith, e)) in
    let left : sizes (x ∷ below) - size x ≡ sizes below = omega (arith, e) in
    cond-false (sizes (x ∷ below) == 0) _ _ some ∙ cond-true (nat_le (size x) (sizes (x ∷ below))) _ _ more
    ∙ ap (λ n. option_map (raised x) (spot_at n (below ++ b ∷ above))) left
    ∙ ap (option_map (raised x)) (spot_at-above below b above s.1)

-- the blocks above the bottom of a run that was packed upward
abbrev upper : ℕ → RunSpot → List Block
upper p r = (movers r.run ++ free (free_sum r.run - p)) ++ r.above

low-is : (new : Block) (p : ℕ) (r : RunSpot) → size new ≡ p → Closed r.below
    → tidy (with_run (low new) r) ≡ tidy r.below ++ add new (tidy (upper p r))
low-is new p r e closed =
    ap tidy (append_assoc r.below (low new r.run) r.above) ∙ closed (low new r.run ++ r.above)
    ∙ ap (λ n. tidy r.below ++ add new (tidy ((movers r.run ++ free (free_sum r.run - n)) ++ r.above))) e

-- a place of p bytes at the bottom of a run: a block that is filled into it stands there
pub record IsBase (p : ℕ) (r : RunSpot) (zone : List Block) (place : ℕ) : Type 0 where
  pub s : Spot
  pub at : spot_at place zone ≡ Some s
  pub room : is_room p s.here ≡ true
  pub fills : (new : Block) → size new ≡ p → filled new s ≡ tidy (with_run (low new) r)

-- a block filled into the lowest bytes of a run that was packed upward stands at its bottom
pub low-filled : (p : ℕ) (r : RunSpot) → 0 < p → Closed r.below
    → IsBase p r (tidy (with_run (low (Free p)) r)) (sizes r.below)
low-filled zero r pos closed = absurd (omega (arith, pos))
low-filled (suc n) r pos closed = by_top (tidy (upper (suc n) r)) (tidy-tidy (upper (suc n) r)) refl
  where
    p : ℕ
    p = suc n

    below : List Block
    below = tidy r.below

    even : sizes below ≡ sizes r.below
    even = total-tidy size (λ n m. refl) r.below

    fills : (new : Block) (left : ℕ) (above top : List Block) → size new ≡ p → add (Free left) (tidy above) ≡ top → tidy (upper p r) ≡ top
        → tidy (below ++ new ∷ Free left ∷ above) ≡ tidy (with_run (low new) r)
    fills new left above top e is top_is =
        tidy-left r.below (new ∷ Free left ∷ above) ∙ closed (new ∷ Free left ∷ above)
        ∙ ap (λ l. below ++ add new l) (is ∙ sym top_is) ∙ sym (low-is new p r e closed)

    base : (here : Block) (above top : List Block) → tidy (with_run (low (Free p)) r) ≡ below ++ here ∷ above
        → tidy (upper p r) ≡ top → is_room p here ≡ true → add (Free (size here - p)) (tidy above) ≡ top
        → IsBase p r (tidy (with_run (low (Free p)) r)) (sizes r.below)
    base here above top is top_is room left = record {
      s = record { below = below; here = here; above = above };
      at = ap (spot_at (sizes r.below)) is ∙ ap (λ n. spot_at n (below ++ here ∷ above)) (sym even)
          ∙ spot_at-above below here above (solid-tidy r.below);
      room = room;
      fills = λ new e. ap (λ n. tidy (below ++ new ∷ Free (size here - n) ∷ above)) e
          ∙ fills new (size here - p) above top e left top_is;
    }

    whole : (top : List Block) → tidy (upper p r) ≡ top → tidy (with_run (low (Free p)) r) ≡ below ++ add (Free p) top
    whole top is = low-is (Free p) p r refl closed ∙ ap (λ l. below ++ add (Free p) l) is

    same : nat_le p p ≡ true
    same = le-leb p p (omega arith)

    none : p - p ≡ 0
    none = omega arith

    by_top : (top : List Block) → tidy top ≡ top → tidy (upper p r) ≡ top
        → IsBase p r (tidy (with_run (low (Free p)) r)) (sizes r.below)
    by_top [] tidied is = base (Free p) [] [] (whole [] is) is same (ap (λ k. add (Free k) []) none)
    by_top (Free m ∷ above) tidied is =
        base (Free (p + m)) above (Free m ∷ above) (whole (Free m ∷ above) is) is (le-leb p (p + m) (omega arith))
        (ap (λ k. add (Free k) (tidy above)) (let z : p + m - p ≡ m = omega arith in z) ∙ tidied)
    by_top (Nonrelocatable id content ∷ above) tidied is =
        base (Free p) (Nonrelocatable id content ∷ above) (Nonrelocatable id content ∷ above) (whole (Nonrelocatable id content ∷ above) is)
        is same (ap (λ k. add (Free k) (tidy (Nonrelocatable id content ∷ above))) none ∙ tidied)
    by_top (Masters ∷ above) tidied is =
        base (Free p) (Masters ∷ above) (Masters ∷ above) (whole (Masters ∷ above) is) is same
        (ap (λ k. add (Free k) (tidy (Masters ∷ above))) none ∙ tidied)
    by_top (Relocatable id flags content ∷ above) tidied is =
        base (Free p) (Relocatable id flags content ∷ above) (Relocatable id flags content ∷ above)
        (whole (Relocatable id flags content ∷ above) is) is same
        (ap (λ k. add (Free k) (tidy (Relocatable id flags content ∷ above))) none ∙ tidied)

-- the bottom of a found run, after it was packed upward
pub base-found : (p : ℕ) (place : ℕ) (zone after : List Block) → 0 < p
    → (found : FindsLowestRun (has_free p) zone (Some place))
    → IfSome (run_at place zone) (λ r. after ≡ tidy (with_run (low (Free p)) r)) → IsBase p found.0 after place
base-found p place zone after pos found h =
    let is : after ≡ tidy (with_run (low (Free p)) found.0) = at_run place zone zone found.0
    (λ r. after ≡ tidy (with_run (low (Free p)) r)) refl found.2 h in
    let P : List Block → Type 0 = λ z. IsBase p found.0 z (sizes found.0.below) in
    let Q : ℕ → Type 0 = λ n. IsBase p found.0 after n in
    subst Q found.3
    (subst P (sym is) (low-filled p found.0 pos (closed-below (has_free p) zone found.0 found.1)))

-- a free block at the lower end of a free block leaves the zone as it is
pub free-filled : (p place : ℕ) (zone : List Block) (s : Spot) → tidy zone ≡ zone → spot_at place zone ≡ Some s
    → is_room p s.here ≡ true → filled (Free p) s ≡ zone
free-filled p place zone s tidied at wide =
    tidy-below s.below (Free p ∷ Free (size s.here - p) ∷ s.above) (s.here ∷ s.above) (both_free s.here wide)
    ∙ ap tidy (spot_at-is place zone s at) ∙ tidied
  where
    both_free : (b : Block) → is_room p b ≡ true
        → tidy (Free p ∷ Free (size b - p) ∷ s.above) ≡ tidy (b ∷ s.above)
    both_free (Free n) wide = add-add p (n - p) (tidy s.above)
        ∙ ap (λ k. add (Free k) (tidy s.above)) (grind (arith, nat_tests, wide))
    both_free (Nonrelocatable id content) wide = absurd (false≢true wide)
    both_free Masters wide = absurd (false≢true wide)
    both_free (Relocatable id flags content) wide = absurd (false≢true wide)

pub raise-allowed : (p : ℕ) (place : ℕ) (zone zone' : List Block) → zone' ≡ zone
    → FindsLowestRun (has_free p) zone (Some place) → IsSomeAnd (run_at place zone') (λ r. IsTrue (has_free p r.run))
raise-allowed p place zone zone' same found =
    let P : Option RunSpot → Type 0 = λ o. IsSomeAnd o (λ r. IsTrue (has_free p r.run)) in
    subst P (sym found.2 ∙ ap (run_at place) (sym same)) (run_spot-passes (has_free p) zone found.0 found.1)
