-- A place below which no block may be purged, through each change of a zone.
use Rattle.zone_marks.proofs.Cited.{◌≡◌, ℕ, ◌+◌, ◌-◌, ◌≤◌, zero, suc, Bool, true, false, not, ◌&&◌, List, [], ◌∷◌, ◌++◌, refl, sym, ap, ◌∙◌}
use Rattle.zone_marks.proofs.Cited.{subst, cond, arith, Some, rules, None, length, false≢true, option_map, Block, Free, Relocatable, size}
use Rattle.zone_marks.proofs.Cited.{sizes, free, free_sum, is_mover, is_purgeable, opened_block, opened-more, FindsLowest, Spot, spot}
use Rattle.zone_marks.proofs.Cited.{count_of, lowest_purged, may_be_purged, RunSpot, run_at, movers, settle, most_purges, opened, purged}
use Rattle.zone_marks.proofs.Cited.{spared, Sparing, Seen, Loose, run_at-is, run_at-parts, settle-total, opened-none, next_from, next-is}
use Rattle.zone_marks.proofs.Cited.{next-stays, place_from, place-tidy, sizes-lowest_purged, apart-tidy, finds, spot-is, total-tidy}
use Rattle.zone_marks.proofs.Cited.{total-append, zone_in, IsSound, AtEach, Begins, Replaced, NoneGoes, Stays, left_in, Steps}
use Rattle.zone_marks.proofs.Cited.{run_at-bottom, span-append}
use Rattle.block_store.specs.declared.sparing.Sparing.TheVariants as sparing
use Rattle.zone_marks.proofs.Marks.Lowering.{Seen as Edge, seen-from}
use Rattle.zone_marks.proofs.Searches.Pieces.{left-long}
use Rattle.zone_marks.proofs.Marks.Passing.{Passed, at-all, at-append, at-left, at-map, at-right, passed-on}

-- a lower place
pub stays-lower : (bound lower x : ℕ) (blocks : List Block) → lower ≤ bound → AtEach (Stays bound) x blocks
    → AtEach (Stays lower) x blocks
stays-lower bound lower x blocks l = at-map (Stays bound) (Stays lower) x _ (λ p b _ _ s q. s (omega arith))

-- blocks at or above it
pub stays-above : (bound x : ℕ) (blocks : List Block) → bound ≤ x → AtEach (Stays bound) x blocks
stays-above bound x blocks l = at-all (Stays bound) x _ (λ p b m q. absurd (omega arith))

-- a block that ends below the place
pub stays-here : (bound x : ℕ) (b : Block) → Stays bound x b → x + size b ≤ bound → is_purgeable b ≡ false
stays-here bound x (Relocatable id flags content) s l = s (omega arith)
stays-here bound x _ s l = refl

-- blocks that end below it
pub stays-whole : (bound other x : ℕ) (blocks : List Block) → x + sizes blocks ≤ bound → AtEach (Stays bound) x blocks
    → AtEach (Stays other) x blocks
stays-whole bound other x blocks l = grind (arith, at-map)

-- some blocks became others
module _ (lo hi : ℕ) (old new : List Block) (r : Replaced lo hi old new) (bound : ℕ) (n : NoneGoes bound old) where
  pub stays-replaced : (lower : ℕ) → lower ≤ bound → AtEach (Stays lower) lo r.there → NoneGoes lower new
  stays-replaced lower l there = grind (arith, at-right, at-append, stays-lower, at-left)

  -- above it
  pub stays-under : (lower : ℕ) → lower ≤ bound → lower ≤ lo → NoneGoes lower new
  stays-under lower l m = stays-replaced _ l (stays-above _ _ _ m)

-- movable blocks that move down past free bytes
pub stays-packed : (bound free x y used : ℕ) (run : List Block) → Loose run → x ≤ y + used
    → used + free_sum run ≤ free → AtEach (Stays bound) x run → AtEach (Stays (bound - free)) y (movers run)
stays-packed bound free x y used [] l e f s = tt
stays-packed bound free x y used (Free n ∷ run) l e f s =
    stays-packed bound free (x + n) y (used + n) run l.1 (omega arith) (omega arith) s.1
stays-packed bound free x y used (Relocatable id flags content ∷ run) l e f s = cases (is_mover b) l.0
    (λ q. s.0 (omega arith)) (stays-packed _ _ _ _ used run l.1 (omega arith) (omega arith) s.1)
  where
    b : Block
    b = Relocatable id flags content

    cases : (t : Bool) → t ≡ true → Stays (bound - free) y b → AtEach (Stays (bound - free)) (y + size b) (movers run)
        → AtEach (Stays (bound - free)) y (cond t (b ∷ movers run) (movers run))
    cases true m here above = (here, above)
    cases false m here above = absurd (false≢true m)
stays-packed bound free x y used (_ ∷ run) l e f s = absurd (false≢true l.0)

stays-free : (bound x n : ℕ) → AtEach (Stays bound) x (free n)
stays-free bound x zero = tt
stays-free bound x (suc n) = (λ _. refl, tt)

-- a run was packed
module _ (bound run : ℕ) (zone : List Block) (r : RunSpot) (e : run_at run zone ≡ Some r) (n : NoneGoes bound zone)
  where
    loose : Loose r.run
    loose = (run_at-parts run zone r e).loose

    abbrev changed : Replaced run (run + sizes r.run) zone (r.below ++ (settle r.run ++ r.above))
    changed = record {
      below = r.below;
      here = r.run;
      there = settle r.run;
      above = r.above;
      was = sym (run_at-is run zone r e);
      is = refl;
      low = run_at-bottom run zone r e;
      high = refl;
      span = settle-total size (λ n m. refl) r.run loose;
    }

    there : AtEach (Stays bound) run r.run
    there =
        let q : 0 + sizes r.below ≡ run = omega (arith, run_at-bottom run zone r e) in
        at-left (Stays bound) _ _ _ (subst (λ x. AtEach (Stays bound) x (r.run ++ r.above)) q
        (at-right (Stays bound) 0 _ _ (subst (NoneGoes bound) (sym (run_at-is _ _ r e)) n)))

    pub stays-over : bound ≤ run → NoneGoes bound (r.below ++ (settle r.run ++ r.above))
    stays-over l = stays-under _ _ _ _ changed _ n _ (omega arith) l

    pub stays-settled : (all : ℕ) → all ≡ free_sum zone → NoneGoes (bound - all) (r.below ++ (settle r.run ++ r.above))
    stays-settled all f = stays-replaced _ _ _ _ changed bound n (bound - all) (omega arith)
        (at-append (Stays (bound - all)) _ _ _ (stays-packed _ _ run run 0 r.run loose (omega arith)
        (omega (arith, ap free_sum (sym (run_at-is run zone r e)), total-append, f)) there)
        (stays-free (bound - all) (run + sizes (movers r.run)) (free_sum r.run)))

module _ (xs : List ℕ) (from at : ℕ) (p : Passed xs from at (λ _ b. is_purgeable b ≡ false)) where
  pub passed-stays : (block : Seen) (end : ℕ) (s : Steps at block end xs)
      → may_be_purged (spared sparing.Nothing) s.here ≡ false → Passed xs from end (λ _ b. is_purgeable b ≡ false)
  passed-stays block end s e = grind (arith, passed-on)

  pub all-stay : AtEach (Stays at) from (left_in from xs)
  all-stay = grind (arith, at-append, at-map, stays-above)

next-above : (n : Sparing) (k bound x : ℕ) (below above : List Block) → AtEach (Stays bound) x below
    → x + sizes below ≤ bound
    → next_from x (spared n) k (below ++ above) ≡ next_from (x + sizes below) (spared n) k above
next-above n k bound x [] above s l = let e : x ≡ x + 0 = omega arith in ap (λ y. next_from y (spared n) k above) e
next-above n k bound x (b ∷ below) above s l = next-stays x (spared n) k b _ (search rules)
    ∙ next-above n k _ (x + size b) below above s.1 (omega arith) ∙ (grind arith)

-- a block that may not be purged may not be as a search sees it first
opened-stays : (n : Sparing) (b : Block) → is_purgeable b ≡ false → may_be_purged (spared n) (opened_block n b) ≡ false
opened-stays (sparing.Freed slot) b e = grind arith
opened-stays n b e = ap (λ t. t && not (spared n b)) e

pub count-none : (n : Sparing) (bound x : ℕ) (below : List Block) → AtEach (Stays bound) x below
    → x + sizes below ≤ bound
    → count_of (spared n) (opened n below) ≡ 0
count-none n bound x [] s l = ap (count_of (spared n)) (opened-none n)
count-none n bound x (b ∷ below) s l =
    let t = ap (λ t. cond {A = ℕ} t 1 0) (opened-stays n b (stays-here bound x b s.0 (omega arith))) in
    let r = count-none n bound (x + size b) below s.1 (omega arith) in
    omega (arith, ap (count_of (spared n)) (opened-more n b below), t, r)

-- from an edge of a zone on
module _ (xs : List ℕ) (first unused : ℕ) (i : IsSound xs first unused) (from : ℕ) (b : Begins from 0 (zone_in xs))
    (g : NoneGoes from (zone_in xs)) (n : Sparing) (plain : (zone : List Block) → opened n zone ≡ zone) where
  edge : Edge xs first unused i from
  edge = seen-from xs first unused i from b

  below-stays : AtEach (Stays from) 0 edge.below
  below-stays = at-left (Stays from) 0 edge.below (left_in from xs) (subst (NoneGoes from) edge.is g)

  pub count-from : most_purges n (left_in from xs) ≡ most_purges n (zone_in xs)
  count-from =
      let none = ap (count_of (spared n)) (sym (plain edge.below))
      ∙ count-none n _ 0 _ below-stays (omega (arith, edge.low)) in
      omega (
        arith,
        ap (count_of (spared n)) (plain (left_in from xs)),
        ap (count_of (spared n)) (plain (zone_in xs) ∙ edge.is),
        total-append,
        none,
      )

  -- the place of the block to be purged next
  module _ (k : ℕ) where
    abbrev pub goes : Block → Bool
    goes = may_be_purged (spared n)

    next-is-there : option_map (λ (s : Spot). sizes s.below) (spot goes (purged k n (zone_in xs)))
        ≡ place_from from goes (purged k n (left_in from xs))
    next-is-there =
        let a = next-above n k _ 0 edge.below (left_in from xs) below-stays (omega (arith, edge.low)) in
        let z = plain (zone_in xs) in
        let l = plain (left_in from xs) in
        let d = edge.low in
        grind (arith, next-is, place-tidy)

    pub next-none : FindsLowest goes (purged k n (left_in from xs)) None → FindsLowest goes (purged k n (zone_in xs)) None
    next-none f = grind (arith, next-is-there)

    pub next-some : (place : ℕ) → FindsLowest goes (purged k n (left_in from xs)) (Some place)
        → FindsLowest goes (purged k n (zone_in xs)) (Some (from + place))
    next-some place f = finds goes _ (Some (from + place))
        (apart-tidy (lowest_purged k (spared n) (opened n (zone_in xs)))) (grind (arith, next-is-there))

    pub next-fits : (place : ℕ) → FindsLowest goes (purged k n (left_in from xs)) (Some place)
        → from + place ≤ length xs
    next-fits place f =
        let w = ap sizes (spot-is goes (purged k n (left_in from xs)) f.0 f.1) in
        let t = total-tidy size (λ n m. refl) (lowest_purged k (spared n) (opened n (left_in from xs))) in
        let l = left-long xs first unused i from b in
        omega (arith, w, f.3, span-append, t, sizes-lowest_purged, ap sizes (plain (left_in from xs)), l)

-- what a place owes below which no block may be purged
pub ruleset lowest_places = (stays-lower, stays-above, stays-over, stays-settled)
