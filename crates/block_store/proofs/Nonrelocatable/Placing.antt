use Rattle.block_store.proofs.Cited.{◌≡◌, ℕ, ◌+◌, ◌-◌, ◌≤◌, zero, suc, Bool, true, false, ◌&&◌, not, ◌==◌, List, [], ◌∷◌, ◌++◌, filter}
use Rattle.block_store.proofs.Cited.{length, refl, sym, ◌∙◌, ap, cond, subst, arith, Option, Some, None, nat_le, none-some, same_Some}
use Rattle.block_store.proofs.Cited.{nat_tests, option_map, Block, Free, Nonrelocatable, Masters, Relocatable, size, sizes, free, free_sum}
use Rattle.block_store.proofs.Cited.{is_mover, is_relocatable, add, tidy, content_of, with_content, resized, RunSpot, in_run, run_at}
use Rattle.block_store.proofs.Cited.{with_run, movers, others, settle, low, high, has_free, Spot, raised, spot_at, filled, may_be_purged}
use Rattle.block_store.proofs.Cited.{lowest_purged, growth, taken, grow_up, freed, spared, opened, Placed, with_flags, Loose, Flags}
use Rattle.block_store.proofs.Cited.{Sparing}
use Rattle.block_store.specs.declared.sparing.Sparing.TheVariants as sparing
use Rattle.block_store.proofs.Regroup.RunLists.{run_at-parts, run_at-is}
use Rattle.block_store.proofs.Zone.Aligned.{spot_at-is}
use Rattle.block_store.proofs.Zone.Totals.{total-append}
use Rattle.block_store.proofs.Zone.Spots.{size-content}
use Rattle.block_store.proofs.Zone.Passing.{filter-keeps}

-- A nonrelocatable block is named by its place, and stays so.

-- a block at a place: a nonrelocatable one is named by it
abbrev pub StandsAt : ℕ → Block → Type 0
StandsAt place (Free n) = Unit {0}
StandsAt place (Nonrelocatable id content) = id ≡ place
StandsAt place Masters = Unit {0}
StandsAt place (Relocatable id flags content) = Unit {0}

pub placed-cons : (place : ℕ) (b : Block) (bs : List Block) → StandsAt place b → Placed (place + size b) bs
    → Placed place (b ∷ bs)
placed-cons place (Free n) bs s p = p
placed-cons place (Nonrelocatable id content) bs s p = (s, p)
placed-cons place Masters bs s p = p
placed-cons place (Relocatable id flags content) bs s p = p

pub placed-here : (place : ℕ) (b : Block) (bs : List Block) → Placed place (b ∷ bs) → StandsAt place b
placed-here place (Free n) bs p = tt
placed-here place (Nonrelocatable id content) bs p = p.0
placed-here place Masters bs p = tt
placed-here place (Relocatable id flags content) bs p = tt

pub placed-next : (place : ℕ) (b : Block) (bs : List Block) → Placed place (b ∷ bs) → Placed (place + size b) bs
placed-next place (Free n) bs p = p
placed-next place (Nonrelocatable id content) bs p = p.1
placed-next place Masters bs p = p
placed-next place (Relocatable id flags content) bs p = p

-- the same place said in another way
pub placed-at : (place place' : ℕ) (bs : List Block) → place ≡ place' → Placed place bs → Placed place' bs
placed-at place place' bs same p = let P : ℕ → Type 0 = λ n. Placed n bs in subst P same p

pub stands-at : (place place' : ℕ) (b : Block) → place ≡ place' → StandsAt place b → StandsAt place' b
stands-at place place' b same s = let P : ℕ → Type 0 = λ n. StandsAt n b in subst P same s

pub placed-append : (place : ℕ) (below above : List Block) → Placed place below → Placed (place + sizes below) above
    → Placed place (below ++ above)
placed-append place [] above p q = placed-at (place + 0) place above (omega arith) q
placed-append place (b ∷ below) above p q =
    placed-cons place b (below ++ above) (placed-here place b below p)
    (placed-append (place + size b) below above (placed-next place b below p)
    (placed-at (place + sizes (b ∷ below)) (place + size b + sizes below) above
    (let z : sizes (b ∷ below) ≡ size b + sizes below = refl in omega arith) q))

pub placed-below : (place : ℕ) (below above : List Block) → Placed place (below ++ above) → Placed place below
placed-below place [] above p = tt
placed-below place (b ∷ below) above p = placed-cons place b below (placed-here place b (below ++ above) p)
    (placed-below (place + size b) below above (placed-next place b (below ++ above) p))

pub placed-above : (place : ℕ) (below above : List Block) → Placed place (below ++ above)
    → Placed (place + sizes below) above
placed-above place [] above p = placed-at place (place + 0) above (omega arith) p
placed-above place (b ∷ below) above p =
    placed-at (place + size b + sizes below) (place + sizes (b ∷ below)) above
    (let z : sizes (b ∷ below) ≡ size b + sizes below = refl in
    omega arith) (placed-above (place + size b) below above (placed-next place b (below ++ above) p))

pub placed-add : (place : ℕ) (b : Block) (bs : List Block) → StandsAt place b → Placed (place + size b) bs
    → Placed place (add b bs)
placed-add place (Free zero) bs s p = placed-at (place + 0) place bs (omega arith) p
placed-add place (Free (suc n)) [] s p = tt
placed-add place (Free (suc n)) (Free m ∷ bs) s p = placed-at (place + suc n + m) (place + (suc n + m)) bs (omega arith)
    p
placed-add place (Free (suc n)) (Nonrelocatable id content ∷ bs) s p = p
placed-add place (Free (suc n)) (Masters ∷ bs) s p = p
placed-add place (Free (suc n)) (Relocatable id flags content ∷ bs) s p = p
placed-add place (Nonrelocatable id content) bs s p = (s, p)
placed-add place Masters bs s p = p
placed-add place (Relocatable id flags content) bs s p = p

pub placed-tidy : (place : ℕ) (bs : List Block) → Placed place bs → Placed place (tidy bs)
placed-tidy place [] p = tt
placed-tidy place (b ∷ bs) p = placed-add place b (tidy bs) (placed-here place b bs p)
    (placed-tidy (place + size b) bs (placed-next place b bs p))

-- blocks that became Free
stands-freed : (place : ℕ) (t : Bool) (b : Block) → StandsAt place b → StandsAt place (cond t (Free (size b)) b)
stands-freed place true b s = tt
stands-freed place false b s = s

same_size-freed : (t : Bool) (b : Block) → size b ≡ size (cond t (Free (size b)) b)
same_size-freed true b = refl
same_size-freed false b = refl

pub placed-freed : (place : ℕ) (test : Block → Bool) (bs : List Block) → Placed place bs → Placed place (freed test bs)
placed-freed place test [] p = tt
placed-freed place test (b ∷ bs) p =
    placed-cons place (cond (test b) (Free (size b)) b) (freed test bs)
    (stands-freed place (test b) b (placed-here place b bs p))
    (placed-at (place + size b) (place + size (cond (test b) (Free (size b)) b)) (freed test bs)
    (ap (λ n. place + n) (same_size-freed (test b) b)) (placed-freed (place + size b) test bs
    (placed-next place b bs p)))

pub placed-lowest_purged : (place k : ℕ) (spared : Block → Bool) (bs : List Block) → Placed place bs
    → Placed place (lowest_purged k spared bs)
placed-lowest_purged place zero spared bs p = p
placed-lowest_purged place (suc k) spared [] p = tt
placed-lowest_purged place (suc k) spared (b ∷ bs) p =
    cases (may_be_purged spared b) (placed-lowest_purged (place + size b) k spared bs (placed-next place b bs p))
    (placed-lowest_purged (place + size b) (suc k) spared bs (placed-next place b bs p))
  where
    cases : (t : Bool) → Placed (place + size b) (lowest_purged k spared bs)
        → Placed (place + size b) (lowest_purged (suc k) spared bs) → Placed place
        (cond t (Free (size b) ∷ lowest_purged k spared bs) (b ∷ lowest_purged (suc k) spared bs))
    cases true went stayed = went
    cases false went stayed = placed-cons place b (lowest_purged (suc k) spared bs) (placed-here place b bs p) stayed

pub placed-opened : (place : ℕ) (n : Sparing) (bs : List Block) → Placed place bs → Placed place (opened n bs)
placed-opened place sparing.Nothing bs p = p
placed-opened place (sparing.One slot) bs p = p
placed-opened place (sparing.Two slot other) bs p = p
placed-opened place (sparing.Freed slot) bs p = placed-freed place (is_relocatable slot) bs p

-- blocks above others that were purged
pub placed-purged_above : (place k : ℕ) (spared : Block → Bool) (below : List Block) (b : Block) (above : List Block)
    → Placed place (below ++ b ∷ above) → Placed place (tidy (below ++ b ∷ lowest_purged k spared above))
placed-purged_above place k spared below b above p =
    let rest = placed-above place below (b ∷ above) p in
    let here = place + sizes below in
    placed-tidy place (below ++ b ∷ lowest_purged k spared above)
    (placed-append place below (b ∷ lowest_purged k spared above) (placed-below place below (b ∷ above) p)
    (placed-cons here b (lowest_purged k spared above) (placed-here here b above rest)
    (placed-lowest_purged (here + size b) k spared above (placed-next here b above rest))))

-- a block of the same size in place of another
pub placed-same : (place : ℕ) (below above : List Block) (b c : Block) → StandsAt (place + sizes below) c
    → size c ≡ size b → Placed place (below ++ b ∷ above) → Placed place (below ++ c ∷ above)
placed-same place below above b c s same p =
    let rest = placed-above place below (b ∷ above) p in
    let here = place + sizes below in
    placed-append place below (c ∷ above) (placed-below place below (b ∷ above) p)
    (placed-cons here c above s (placed-at (here + size b) (here + size c) above (ap (λ n. here + n) (sym same))
    (placed-next here b above rest)))

stands-content : (place : ℕ) (x : List ℕ) (b : Block) → StandsAt place b → StandsAt place (with_content x b)
stands-content place x (Free n) s = s
stands-content place x (Nonrelocatable id content) s = s
stands-content place x Masters s = s
stands-content place x (Relocatable id flags content) s = s

-- another content of the same length
pub placed-content : (place : ℕ) (x : List ℕ) (below : List Block) (b : Block) (above : List Block)
    → length x ≡ length (content_of b) → Placed place (below ++ b ∷ above)
    → Placed place (below ++ with_content x b ∷ above)
placed-content place x below b above same p =
    placed-same place below above b (with_content x b) (stands-content (place + sizes below) x b
    (placed-here (place + sizes below) b above (placed-above place below (b ∷ above) p))) (size-content x b same) p

stands-flags : (place : ℕ) (f : Flags) (b : Block) → StandsAt place b → StandsAt place (with_flags f b)
stands-flags place f (Free n) s = s
stands-flags place f (Nonrelocatable id content) s = s
stands-flags place f Masters s = s
stands-flags place f (Relocatable id flags content) s = s

pub size-flags : (f : Flags) (b : Block) → size (with_flags f b) ≡ size b
size-flags f (Free n) = refl
size-flags f (Nonrelocatable id content) = refl
size-flags f Masters = refl
size-flags f (Relocatable id flags content) = refl

-- other flags
pub placed-flags : (place : ℕ) (f : Flags) (below : List Block) (b : Block) (above : List Block)
    → Placed place (below ++ b ∷ above) → Placed place (below ++ with_flags f b ∷ above)
placed-flags place f below b above p =
    placed-same place below above b (with_flags f b) (stands-flags (place + sizes below) f b
    (placed-here (place + sizes below) b above (placed-above place below (b ∷ above) p))) (size-flags f b) p

-- a slot's block stands anywhere
pub stands-slot : (place number : ℕ) (b : Block) → is_relocatable number b ≡ true → StandsAt place b
stands-slot place number (Free n) e = tt
stands-slot place number (Nonrelocatable id content) e = let f : false ≡ true = e in cc
stands-slot place number Masters e = tt
stands-slot place number (Relocatable id flags content) e = tt

-- the blocks below a spot take as many bytes as its place says
pub spot_at-below : (place : ℕ) (bs : List Block) (s : Spot) → spot_at place bs ≡ Some s → sizes s.below ≡ place
spot_at-below place [] s e = absurd (none-some _ e)
spot_at-below place (b ∷ bs) s e = cases (place == 0) refl (nat_le (size b) place) refl (spot_at (place - size b) bs)
    (spot_at-below (place - size b) bs) e
  where
    cases : (t : Bool) → (place == 0) ≡ t → (u : Bool) → nat_le (size b) place ≡ u → (o : Option Spot)
        → ((s : Spot) → o ≡ Some s → sizes s.below ≡ place - size b)
        → cond t (Some (record { below = []; here = b; above = bs })) (cond u (option_map (raised b) o) None) ≡ Some s
        → sizes s.below ≡ place
    cases true is u le o rest e = ap (λ (s : Spot). sizes s.below) (sym (same_Some _ _ e))
        ∙ (let z : 0 ≡ place = grind (arith, nat_tests) in z)
    cases false is false le o rest e = absurd (none-some _ e)
    cases false is true le None rest e = absurd (none-some _ e)
    cases false is true le (Some s') rest e =
        let fits : size b ≤ place = grind (arith, nat_tests) in
        let r = rest s' refl in
        ap (λ (s : Spot). sizes s.below) (sym (same_Some _ _ e))
        ∙ (let z : size b + sizes s'.below ≡ place = omega arith in z)

-- the zone at a spot, and what its block is named by
pub placed-spot : (place : ℕ) (zone : List Block) (s : Spot) → Placed 0 zone → spot_at place zone ≡ Some s
    → Placed 0 (s.below ++ s.here ∷ s.above)
placed-spot place zone s p at = let P : List Block → Type 0 = λ l. Placed 0 l in
    subst P (sym (spot_at-is place zone s at)) p

pub stands-spot : (place : ℕ) (zone : List Block) (s : Spot) (b : Block) → spot_at place zone ≡ Some s
    → StandsAt place b → StandsAt (0 + sizes s.below) b
stands-spot place zone s b at stands = let e = spot_at-below place zone s at in
    stands-at place (0 + sizes s.below) b (omega arith) stands

-- a block at the lower end of a spot
pub placed-filled : (place : ℕ) (new : Block) (s : Spot) → StandsAt (place + sizes s.below) new → size new ≤ size s.here
    → Placed place (s.below ++ s.here ∷ s.above) → Placed place (filled new s)
placed-filled place new s stands fits p =
    let here = place + sizes s.below in
    let left = size s.here - size new in
    let rest = placed-above place s.below (s.here ∷ s.above) p in
    placed-tidy place (s.below ++ new ∷ Free left ∷ s.above)
    (placed-append place s.below (new ∷ Free left ∷ s.above) (placed-below place s.below (s.here ∷ s.above) p)
    (placed-cons here new (Free left ∷ s.above) stands (placed-at (here + size s.here) (here + size new + left) s.above
    (omega arith) (placed-next here s.here s.above rest))))

-- the same at the spot of a place, for a nonrelocatable block of that place or one that isn't nonrelocatable
pub placed-filled_at : (place : ℕ) (zone : List Block) (new : Block) (s : Spot) → Placed 0 zone
    → spot_at place zone ≡ Some s → StandsAt place new → size new ≤ size s.here → Placed 0 (filled new s)
placed-filled_at place zone new s p at stands fits = placed-filled 0 new s (stands-spot place zone s new at stands) fits
    (placed-spot place zone s p at)

-- bytes taken from the Free block that comes first
pub placed-taken : (place d : ℕ) (above rest : List Block) → Placed place above → taken d above ≡ Some rest
    → Placed (place + d) rest
placed-taken place d [] rest p is = absurd (none-some _ is)
placed-taken place d (Free n ∷ above) rest p is = cases (nat_le d n) refl is
  where
    cut : (k : ℕ) → k + d ≡ n → Placed (place + d) (free k ++ above)
    cut zero e = placed-at (place + n) (place + d) above (omega arith) p
    cut (suc k) e = placed-at (place + n) (place + d + suc k) above (omega arith) p

    cases : (t : Bool) → nat_le d n ≡ t → cond t (Some (free (n - d) ++ above)) None ≡ Some rest
        → Placed (place + d) rest
    cases true le is =
        let fits : d ≤ n = grind (arith, nat_tests) in
        let P : List Block → Type 0 = λ l. Placed (place + d) l in
        subst P (same_Some _ _ is) (cut (n - d) (omega arith))
    cases false le is = absurd (none-some _ is)
placed-taken place d (Nonrelocatable id content ∷ above) rest p is = absurd (none-some _ is)
placed-taken place d (Masters ∷ above) rest p is = absurd (none-some _ is)
placed-taken place d (Relocatable id flags content ∷ above) rest p is = absurd (none-some _ is)

-- a block grows into the Free block that follows it
pub placed-grow_up : (place : ℕ) (new : Block) (s : Spot) (after : List Block) → StandsAt (place + sizes s.below) new
    → size s.here ≤ size new → Placed place (s.below ++ s.here ∷ s.above) → grow_up new s ≡ Some after
    → Placed place after
placed-grow_up place new s after stands more p is = cases (taken (growth new s) s.above) refl is
  where
    here : ℕ
    here = place + sizes s.below

    rest : (place : ℕ) (s : Spot) → Placed place (s.below ++ s.here ∷ s.above)
        → Placed (place + sizes s.below) (s.here ∷ s.above)
    rest place s p = placed-above place s.below (s.here ∷ s.above) p

    cases : (o : Option (List Block)) → taken (growth new s) s.above ≡ o
        → option_map (λ above. s.below ++ new ∷ above) o ≡ Some after → Placed place after
    cases None same is = absurd (none-some _ is)
    cases (Some above) same is =
        let P : List Block → Type 0 = λ l. Placed place l in
        subst P (same_Some _ _ is)
        (placed-append place s.below (new ∷ above) (placed-below place s.below (s.here ∷ s.above) p)
        (placed-cons here new above stands
        (placed-at (here + size s.here + growth new s) (here + size new) above
        (let z : growth new s ≡ size new - size s.here = refl in omega arith)
        (placed-taken (here + size s.here) (growth new s) s.above above
        (placed-next here s.here s.above (rest place s p)) same))))

-- blocks of which none is nonrelocatable stand anywhere
abbrev pub stands : Block → Bool
stands (Free n) = false
stands (Nonrelocatable id content) = true
stands Masters = false
stands (Relocatable id flags content) = false

abbrev pub NoneNonrelocatable : List Block → Type 0
NoneNonrelocatable [] = Unit {0}
NoneNonrelocatable (b ∷ bs) = (stands b ≡ false) × NoneNonrelocatable bs

pub stands-none_nonrelocatable : (place : ℕ) (b : Block) → stands b ≡ false → StandsAt place b
stands-none_nonrelocatable place (Free n) e = tt
stands-none_nonrelocatable place (Nonrelocatable id content) e = let f : true ≡ false = e in cc
stands-none_nonrelocatable place Masters e = tt
stands-none_nonrelocatable place (Relocatable id flags content) e = tt

pub placed-none_nonrelocatable : (place : ℕ) (bs : List Block) → NoneNonrelocatable bs → Placed place bs
placed-none_nonrelocatable place [] l = tt
placed-none_nonrelocatable place (b ∷ bs) l = placed-cons place b bs (stands-none_nonrelocatable place b l.0)
    (placed-none_nonrelocatable (place + size b) bs l.1)

pub none_nonrelocatable-append : (below above : List Block) → NoneNonrelocatable below → NoneNonrelocatable above
    → NoneNonrelocatable (below ++ above)
none_nonrelocatable-append [] above l m = m
none_nonrelocatable-append (b ∷ below) above l m = (l.0, none_nonrelocatable-append below above l.1 m)

pub none_nonrelocatable-free : (n : ℕ) → NoneNonrelocatable (free n)
none_nonrelocatable-free zero = tt
none_nonrelocatable-free (suc n) = (refl, tt)

pub none_nonrelocatable-filter : (test : Block → Bool) (bs : List Block) → NoneNonrelocatable bs → NoneNonrelocatable (filter test bs)
none_nonrelocatable-filter = filter-keeps NoneNonrelocatable tt (λ b bs l. l.1) (λ b bs cs l rest. (l.0, rest))

-- a run has no nonrelocatable block
pub none_nonrelocatable-run : (run : List Block) → Loose run → NoneNonrelocatable run
none_nonrelocatable-run [] i = tt
none_nonrelocatable-run (b ∷ run) i = (one b i.0, none_nonrelocatable-run run i.1)
  where
    one : (b : Block) → in_run b ≡ true → stands b ≡ false
    one (Free n) e = refl
    one (Nonrelocatable id content) e = let f : false ≡ true = e in cc
    one Masters e = refl
    one (Relocatable id flags content) e = refl

-- what a run's blocks take, after it was packed
sizes-free : (n : ℕ) → sizes (free n) ≡ n
sizes-free zero = refl
sizes-free (suc n) = omega arith

pub sizes-movers : (run : List Block) → Loose run → sizes (movers run) + free_sum run ≡ sizes run
sizes-movers [] i = refl
sizes-movers (Free n ∷ run) i = let r = sizes-movers run i.1 in omega arith
sizes-movers (Nonrelocatable id content ∷ run) i = let f : false ≡ true = i.0 in cc
sizes-movers (Masters ∷ run) i = let f : false ≡ true = i.0 in cc
sizes-movers (Relocatable id flags content ∷ run) i = cases (not flags.locked) i.0 (sizes-movers run i.1)
  where
    cases : (t : Bool) → t ≡ true → sizes (movers run) + free_sum run ≡ sizes run
        → sizes (cond t (Relocatable id flags content ∷ movers run) (movers run)) + free_sum
        (Relocatable id flags content ∷ run) ≡ sizes (Relocatable id flags content ∷ run)
    cases true is r = omega (arith, r)
    cases false is r = let f : false ≡ true = is in cc

sizes-apart : (test : Block → Bool) → ((n : ℕ) → test (Free n) ≡ false) → (run : List Block) → Loose run
    → sizes (others test run) + free_sum run + sizes (filter test run) ≡ sizes run
sizes-apart test none [] i = refl
sizes-apart test none (Free n ∷ run) i = cases (test (Free n)) (none n) (sizes-apart test none run i.1)
  where
    cases : (t : Bool) → t ≡ false → sizes (others test run) + free_sum run + sizes (filter test run) ≡ sizes run
        → sizes (others test run) + free_sum (Free n ∷ run) + sizes
        (cond t (Free n ∷ filter test run) (filter test run)) ≡ sizes (Free n ∷ run)
    cases true is r = let f : true ≡ false = is in cc
    cases false is r = omega (arith, r)
sizes-apart test none (Nonrelocatable id content ∷ run) i = let f : false ≡ true = i.0 in cc
sizes-apart test none (Masters ∷ run) i = let f : false ≡ true = i.0 in cc
sizes-apart test none (Relocatable id flags content ∷ run) i =
    cases (not flags.locked) (test (Relocatable id flags content)) i.0 (sizes-apart test none run i.1)
  where
    b : Block
    b = Relocatable id flags content

    cases : (t u : Bool) → t ≡ true → sizes (others test run) + free_sum run + sizes (filter test run) ≡ sizes run
        → sizes (cond (t && not u) (b ∷ others test run) (others test run)) + free_sum (b ∷ run) + sizes
        (cond u (b ∷ filter test run) (filter test run)) ≡ sizes (b ∷ run)
    cases true true is r = omega (arith, r)
    cases true false is r = omega (arith, r)
    cases false u is r = let f : false ≡ true = is in cc

pub sizes-settle : (run : List Block) → Loose run → sizes (settle run) ≡ sizes run
sizes-settle run i = omega (
  arith,
  total-append size (movers run) (free (free_sum run)),
  sizes-free (free_sum run),
  sizes-movers run i,
)

pub sizes-high : (test : Block → Bool) → ((n : ℕ) → test (Free n) ≡ false) → (run : List Block) → Loose run
    → sizes (high test run) ≡ sizes run
sizes-high test none run i =
    omega (
      arith,
      total-append size (others test run ++ free (free_sum run)) (filter test run),
      total-append size
          (others test run) (free (free_sum run)),
      sizes-free (free_sum run),
      sizes-apart test none run i,
    )

pub sizes-low : (new : Block) (run : List Block) → size new ≤ free_sum run → Loose run → sizes (low new run) ≡ sizes run
sizes-low new run fits i =
    let e : sizes (low new run) ≡ size new + sizes (movers run ++ free (free_sum run - size new)) = refl in
    omega (
      arith,
      e,
      total-append size (movers run) (free (free_sum run - size new)),
      sizes-free
          (free_sum run - size new),
      sizes-movers run i,
    )

pub none_nonrelocatable-settle : (run : List Block) → Loose run → NoneNonrelocatable (settle run)
none_nonrelocatable-settle run i = none_nonrelocatable-append (movers run) (free (free_sum run))
    (none_nonrelocatable-filter is_mover run (none_nonrelocatable-run run i)) (none_nonrelocatable-free (free_sum run))

pub none_nonrelocatable-high : (test : Block → Bool) (run : List Block) → Loose run → NoneNonrelocatable (high test run)
none_nonrelocatable-high test run i =
    none_nonrelocatable-append (others test run ++ free (free_sum run)) (filter test run)
    (none_nonrelocatable-append (others test run) (free (free_sum run))
    (none_nonrelocatable-filter (λ b. is_mover b && not (test b)) run (none_nonrelocatable-run run i))
    (none_nonrelocatable-free (free_sum run)))
    (none_nonrelocatable-filter test run (none_nonrelocatable-run run i))

pub none_nonrelocatable-low : (new : Block) (run : List Block) → stands new ≡ false → Loose run → NoneNonrelocatable (low new run)
none_nonrelocatable-low new run e i = (
  e,
  none_nonrelocatable-append (movers run) (free (free_sum run - size new))
      (none_nonrelocatable-filter is_mover run (none_nonrelocatable-run run i)) (none_nonrelocatable-free (free_sum run - size new)),
)

-- a run that is changed, of the same size, in which no block is nonrelocatable
pub placed-changed : (place : ℕ) (below run run' above : List Block) → sizes run' ≡ sizes run → NoneNonrelocatable run'
    → Placed place (below ++ (run ++ above)) → Placed place (below ++ run' ++ above)
placed-changed place below run run' above same none p =
    let rest = placed-above place below (run ++ above) p in
    let here = place + sizes below in
    placed-append place (below ++ run') above
    (placed-append place below run' (placed-below place below (run ++ above) p) (placed-none_nonrelocatable here run' none))
    (placed-at (here + sizes run) (place + sizes (below ++ run')) above (let z = total-append size below run' in
    omega arith) (placed-above here run above rest))

pub placed-run : (change : List Block → List Block) (place : ℕ) (zone : List Block) (r : RunSpot)
    → (Loose r.run → sizes (change r.run) ≡ sizes r.run) → (Loose r.run → NoneNonrelocatable (change r.run)) → Placed 0 zone
    → run_at place zone ≡ Some r
    → Placed 0 (tidy (with_run change r))
placed-run change place zone r same none p at =
    let parts = run_at-parts place zone r at in
    placed-tidy 0 (with_run change r)
    (placed-changed 0 r.below r.run (change r.run) r.above (same parts.loose) (none parts.loose)
    (let P : List Block → Type 0 = λ l. Placed 0 l in subst P (sym (run_at-is place zone r at)) p))

pub placed-settled : (place : ℕ) (zone : List Block) (r : RunSpot) → Placed 0 zone → run_at place zone ≡ Some r
    → Placed 0 (tidy (with_run settle r))
placed-settled place zone r p at = placed-run settle place zone r (sizes-settle r.run) (none_nonrelocatable-settle r.run) p at

pub placed-hoisted : (place number : ℕ) (zone : List Block) (r : RunSpot) → Placed 0 zone → run_at place zone ≡ Some r
    → Placed 0 (tidy (with_run (high (is_relocatable number)) r))
placed-hoisted place number zone r p at =
    placed-run (high (is_relocatable number)) place zone r (sizes-high (is_relocatable number) (λ n. refl) r.run)
    (none_nonrelocatable-high (is_relocatable number) r.run) p at

pub placed-risen : (place bytes : ℕ) (zone : List Block) (r : RunSpot) → has_free bytes r.run ≡ true → Placed 0 zone
    → run_at place zone ≡ Some r → Placed 0 (tidy (with_run (low (Free bytes)) r))
placed-risen place bytes zone r room p at =
    let fits : bytes ≤ free_sum r.run = grind (arith, nat_tests) in
    placed-run (low (Free bytes)) place zone r (sizes-low (Free bytes) r.run fits)
    (none_nonrelocatable-low (Free bytes) r.run refl) p at

-- a block at another size
pub stands-resized : (place n : ℕ) (b : Block) → StandsAt place b → StandsAt place (resized n b)
stands-resized place n (Free m) s = s
stands-resized place n (Nonrelocatable id content) s = s
stands-resized place n Masters s = s
stands-resized place n (Relocatable id flags content) s = s
