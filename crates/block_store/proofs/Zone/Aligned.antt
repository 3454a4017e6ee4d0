use Rattle.block_store.proofs.Cited.{◌≡◌, ℕ, ◌+◌, ◌-◌, ◌%◌, zero, suc, Bool, true, false, ◌&&◌, not, ◌==◌, List, [], ◌∷◌, ◌++◌, filter}
use Rattle.block_store.proofs.Cited.{length, refl, sym, ◌∙◌, ap, cond, subst, arith, Option, Some, None, nat_le, none-some, same_Some}
use Rattle.block_store.proofs.Cited.{option_map, padded, Block, Free, Nonrelocatable, Masters, Relocatable, size, free, free_of, free_sum}
use Rattle.block_store.proofs.Cited.{is_room, is_mover, is_relocatable, add, tidy, with_content, resized, RunSpot, run_at, with_run, movers}
use Rattle.block_store.proofs.Cited.{others, settle, low, high, Spot, raised, spot_at, filled, may_be_purged, lowest_purged, growth, taken}
use Rattle.block_store.proofs.Cited.{grow_up, freed, spared, opened, Aligned, with_flags, Flags, Sparing}
use Rattle.block_store.specs.declared.sparing.Sparing.TheVariants as sparing
use Rattle.block_store.proofs.Regroup.RunLists.{run_at-is}
use Rattle.block_store.proofs.Zone.Passing.{filter-keeps}

-- Each block takes a multiple of 16 bytes, and stays so.

-- a block takes a multiple of 16 bytes
abbrev pub Sixteens : Block → Type 0
Sixteens b = free_of b % 16 ≡ 0

pub size-sixteens : (b : Block) → Sixteens b → size b % 16 ≡ 0
size-sixteens (Free n) e = e
size-sixteens (Nonrelocatable id content) e = let z : padded (length content) % 16 ≡ 0 = omega arith in z
size-sixteens Masters e = refl
size-sixteens (Relocatable id flags content) e = let z : padded (length content) % 16 ≡ 0 = omega arith in z

pub free_sum-aligned : (bs : List Block) → Aligned bs → free_sum bs % 16 ≡ 0
free_sum-aligned [] a = refl
free_sum-aligned (b ∷ bs) a = let x = a.0 in let y = free_sum-aligned bs a.1 in
    let z : (free_of b + free_sum bs) % 16 ≡ 0 = omega arith in z

pub aligned-append : (below above : List Block) → Aligned below → Aligned above → Aligned (below ++ above)
aligned-append [] above a c = c
aligned-append (b ∷ below) above a c = (a.0, aligned-append below above a.1 c)

pub aligned-below : (below above : List Block) → Aligned (below ++ above) → Aligned below
aligned-below [] above a = tt
aligned-below (b ∷ below) above a = (a.0, aligned-below below above a.1)

pub aligned-above : (below above : List Block) → Aligned (below ++ above) → Aligned above
aligned-above [] above a = a
aligned-above (b ∷ below) above a = aligned-above below above a.1

-- a block in place of another
pub aligned-same : (below above : List Block) (b c : Block) → Sixteens c → Aligned (below ++ b ∷ above)
    → Aligned (below ++ c ∷ above)
aligned-same below above b c e a = aligned-append below (c ∷ above) (aligned-below below (b ∷ above) a)
    (e, (aligned-above below (b ∷ above) a).1)

pub aligned-free : (n : ℕ) → n % 16 ≡ 0 → Aligned (free n)
aligned-free zero e = tt
aligned-free (suc n) e = (e, tt)

pub aligned-add : (b : Block) (bs : List Block) → Sixteens b → Aligned bs → Aligned (add b bs)
aligned-add (Free zero) bs e a = a
aligned-add (Free (suc n)) [] e a = (e, tt)
aligned-add (Free (suc n)) (Free m ∷ bs) e a = (
  let x : suc n % 16 ≡ 0 = e in let y : m % 16 ≡ 0 = a.0 in
      let z : (suc n + m) % 16 ≡ 0 = omega arith in z,
  a.1,
)
aligned-add (Free (suc n)) (Nonrelocatable id content ∷ bs) e a = (e, a)
aligned-add (Free (suc n)) (Masters ∷ bs) e a = (e, a)
aligned-add (Free (suc n)) (Relocatable id flags content ∷ bs) e a = (e, a)
aligned-add (Nonrelocatable id content) bs e a = (e, a)
aligned-add Masters bs e a = (e, a)
aligned-add (Relocatable id flags content) bs e a = (e, a)

pub aligned-tidy : (bs : List Block) → Aligned bs → Aligned (tidy bs)
aligned-tidy [] a = tt
aligned-tidy (b ∷ bs) a = aligned-add b (tidy bs) a.0 (aligned-tidy bs a.1)

pub aligned-filter : (test : Block → Bool) (bs : List Block) → Aligned bs → Aligned (filter test bs)
aligned-filter = filter-keeps Aligned tt (λ b bs a. a.1) (λ b bs cs a rest. (a.0, rest))

pub sixteens-freed : (t : Bool) (b : Block) → Sixteens b → Sixteens (cond t (Free (size b)) b)
sixteens-freed true b e = size-sixteens b e
sixteens-freed false b e = e

pub aligned-freed : (test : Block → Bool) (bs : List Block) → Aligned bs → Aligned (freed test bs)
aligned-freed test [] a = tt
aligned-freed test (b ∷ bs) a = (sixteens-freed (test b) b a.0, aligned-freed test bs a.1)

pub aligned-lowest_purged : (k : ℕ) (spared : Block → Bool) (bs : List Block) → Aligned bs
    → Aligned (lowest_purged k spared bs)
aligned-lowest_purged zero spared bs a = a
aligned-lowest_purged (suc k) spared [] a = tt
aligned-lowest_purged (suc k) spared (b ∷ bs) a = cases (may_be_purged spared b) (aligned-lowest_purged k spared bs a.1)
    (aligned-lowest_purged (suc k) spared bs a.1)
  where
    cases : (t : Bool) → Aligned (lowest_purged k spared bs) → Aligned (lowest_purged (suc k) spared bs)
        → Aligned (cond t (Free (size b) ∷ lowest_purged k spared bs) (b ∷ lowest_purged (suc k) spared bs))
    cases true went stayed = (size-sixteens b a.0, went)
    cases false went stayed = (a.0, stayed)

pub aligned-opened : (n : Sparing) (bs : List Block) → Aligned bs → Aligned (opened n bs)
aligned-opened sparing.Nothing bs a = a
aligned-opened (sparing.One slot) bs a = a
aligned-opened (sparing.Two slot other) bs a = a
aligned-opened (sparing.Freed slot) bs a = aligned-freed _ bs a

-- what a store's calls make of a block
pub sixteens-content : (x : List ℕ) (b : Block) → Sixteens b → Sixteens (with_content x b)
sixteens-content x (Free n) e = e
sixteens-content x (Nonrelocatable id content) e = e
sixteens-content x Masters e = e
sixteens-content x (Relocatable id flags content) e = e

pub sixteens-flags : (f : Flags) (b : Block) → Sixteens b → Sixteens (with_flags f b)
sixteens-flags f (Free n) e = e
sixteens-flags f (Nonrelocatable id content) e = e
sixteens-flags f Masters e = e
sixteens-flags f (Relocatable id flags content) e = e

-- a slot's block is no Free one
pub sixteens-slot : (number : ℕ) (b : Block) → is_relocatable number b ≡ true → Sixteens b
sixteens-slot number (Free n) e = let f : false ≡ true = e in cc
sixteens-slot number (Nonrelocatable id content) e = refl
sixteens-slot number Masters e = refl
sixteens-slot number (Relocatable id flags content) e = refl

pub sixteens-resized : (n : ℕ) (b : Block) → Sixteens b → Sixteens (resized n b)
sixteens-resized n (Free m) e = e
sixteens-resized n (Nonrelocatable id content) e = e
sixteens-resized n Masters e = e
sixteens-resized n (Relocatable id flags content) e = e

pub aligned-settle : (run : List Block) → Aligned run → Aligned (settle run)
aligned-settle run a = aligned-append (movers run) (free (free_sum run)) (aligned-filter is_mover run a)
    (aligned-free (free_sum run) (free_sum-aligned run a))

pub aligned-low : (new : Block) (run : List Block) → Sixteens new → Aligned run → Aligned (low new run)
aligned-low new run e a =
    let x = size-sixteens new e in
    let y = free_sum-aligned run a in
    let z : (free_sum run - size new) % 16 ≡ 0 = omega arith in (
      e,
      aligned-append (movers run) (free (free_sum run - size new)) (aligned-filter is_mover run a)
          (aligned-free (free_sum run - size new) z),
    )

pub aligned-high : (test : Block → Bool) (run : List Block) → Aligned run → Aligned (high test run)
aligned-high test run a =
    aligned-append (others test run ++ free (free_sum run)) (filter test run)
    (aligned-append (others test run) (free (free_sum run)) (aligned-filter (λ b. is_mover b && not (test b)) run a)
    (aligned-free (free_sum run) (free_sum-aligned run a)))
    (aligned-filter test run a)

-- the spot of a place is a way to see the zone
pub spot_at-is : (place : ℕ) (bs : List Block) (s : Spot) → spot_at place bs ≡ Some s → s.below ++ s.here ∷ s.above ≡ bs
spot_at-is place [] s e = absurd (none-some _ e)
spot_at-is place (b ∷ bs) s e = cases (place == 0) (nat_le (size b) place) (spot_at (place - size b) bs)
    (spot_at-is (place - size b) bs) e
  where
    cases : (t u : Bool) (o : Option Spot) → ((s : Spot) → o ≡ Some s → s.below ++ s.here ∷ s.above ≡ bs)
        → cond t (Some (record { below = []; here = b; above = bs })) (cond u (option_map (raised b) o) None) ≡ Some s
        → s.below ++ s.here ∷ s.above ≡ b ∷ bs
    cases true u o rest e = ap (λ (s : Spot). s.below ++ s.here ∷ s.above) (sym (same_Some _ _ e))
    cases false false o rest e = absurd (none-some _ e)
    cases false true None rest e = absurd (none-some _ e)
    cases false true (Some s') rest e = ap (λ (s : Spot). s.below ++ s.here ∷ s.above) (sym (same_Some _ _ e))
        ∙ ap (λ l. b ∷ l) (rest s' refl)

pub aligned-spot : (place : ℕ) (zone : List Block) (s : Spot) → Aligned zone → spot_at place zone ≡ Some s
    → Aligned (s.below ++ s.here ∷ s.above)
aligned-spot place zone s a at = subst Aligned (sym (spot_at-is place zone s at)) a

-- a block at the lower end of a spot
pub aligned-filled : (new : Block) (s : Spot) → Sixteens new → Aligned (s.below ++ s.here ∷ s.above)
    → Aligned (filled new s)
aligned-filled new s e a =
    let rest = aligned-above s.below (s.here ∷ s.above) a in
    let x = size-sixteens new e in
    let y = size-sixteens s.here rest.0 in
    let z : (size s.here - size new) % 16 ≡ 0 = omega arith in
    aligned-tidy (s.below ++ new ∷ Free (size s.here - size new) ∷ s.above)
    (aligned-append s.below (new ∷ Free (size s.here - size new) ∷ s.above) (aligned-below s.below (s.here ∷ s.above) a)
    (e, (z, rest.1)))

-- bytes taken from the Free block that comes first
pub aligned-taken : (d : ℕ) (above rest : List Block) → d % 16 ≡ 0 → Aligned above → taken d above ≡ Some rest
    → Aligned rest
aligned-taken d [] rest e a is = absurd (none-some _ is)
aligned-taken d (next ∷ above) rest e a is = cases (is_room d next) is
  where
    cases : (t : Bool) → cond t (Some (free (size next - d) ++ above)) None ≡ Some rest → Aligned rest
    cases true is =
        let x = size-sixteens next a.0 in
        let z : (size next - d) % 16 ≡ 0 = omega arith in
        subst Aligned (same_Some _ _ is) (aligned-append (free (size next - d)) above (aligned-free (size next - d) z)
        a.1)
    cases false is = absurd (none-some _ is)

pub aligned-grow_up : (new : Block) (s : Spot) (after : List Block) → Sixteens new
    → Aligned (s.below ++ s.here ∷ s.above) → grow_up new s ≡ Some after → Aligned after
aligned-grow_up new s after e a is = cases (taken (growth new s) s.above) refl is
  where
    rest : (s : Spot) → Aligned (s.below ++ s.here ∷ s.above) → Aligned (s.here ∷ s.above)
    rest s a = aligned-above s.below (s.here ∷ s.above) a

    even : (size new - size s.here) % 16 ≡ 0
    even = let x = size-sixteens new e in let y = size-sixteens s.here (rest s a).0 in omega arith

    cases : (o : Option (List Block)) → taken (growth new s) s.above ≡ o
        → option_map (λ above. s.below ++ new ∷ above) o ≡ Some after → Aligned after
    cases None same is = absurd (none-some _ is)
    cases (Some above) same is =
        subst Aligned (same_Some _ _ is) (aligned-append s.below (new ∷ above)
        (aligned-below s.below (s.here ∷ s.above) a) (
          e,
          aligned-taken (growth new s) s.above above even
              (rest s a).1 same,
        ))

-- a run that is changed
pub aligned-run : (change : List Block → List Block) (place : ℕ) (zone : List Block) (r : RunSpot)
    → ((run : List Block) → Aligned run → Aligned (change run)) → Aligned zone → run_at place zone ≡ Some r
    → Aligned (with_run change r)
aligned-run change place zone r keeps a at =
    let whole : Aligned (r.below ++ (r.run ++ r.above)) = subst Aligned (sym (run_at-is place zone r at)) a in
    let rest = aligned-above r.below (r.run ++ r.above) whole in
    aligned-append (r.below ++ change r.run) r.above
    (aligned-append r.below (change r.run) (aligned-below r.below (r.run ++ r.above) whole)
    (keeps r.run (aligned-below r.run r.above rest)))
    (aligned-above r.run r.above rest)
