use Rattle.block_store.proofs.Cited.{◌≡◌, ℕ, ◌+◌, ◌-◌, ◌≤◌, zero, suc, Bool, true, false, not, ◌&&◌, List, [], ◌∷◌, ◌++◌, refl, sym, ◌∙◌}
use Rattle.block_store.proofs.Cited.{ap, subst, cond, arith, Option, Some, filter, ◌⊎◌, inl, inr, cond-true, and_parts, same_Some}
use Rattle.block_store.proofs.Cited.{option_and_then_some, option_map, option_or, Block, Free, size, total, count, free, free_sum, is_mover}
use Rattle.block_store.proofs.Cited.{is_room, resized, tidy, Stretch, segments, joined, change_run, has, has_free, movers, others, settle}
use Rattle.block_store.proofs.Cited.{high, low, RunSpot, Loose, Spot, spot, filled, place, put_in_place, put_at_base, lowest_purged, purge}
use Rattle.block_store.proofs.Cited.{room, may_be_purged, growth, taken, taken_low, grow_up, grow_nonrelocatable, freed, move_away}
use Rattle.block_store.proofs.Cited.{grow_last, grow_mover, grow, settled_runs, settled}
use Rattle.block_store.proofs.Zone.Tidy.{total-tidy, spot-is, spot-passes}
use Rattle.block_store.proofs.Zone.Totals.{total-append, total-le}
use Rattle.block_store.proofs.Zone.Zones.{joined-segments}
use Rattle.block_store.proofs.Zone.Passing.{has-count}
use Rattle.block_store.proofs.Zone.Views.{map-some, or-some, room-some, change_run-some, place-some, taken-some}
use Rattle.block_store.proofs.Zone.Views.{taken_low-some, grow-some}

-- What blocks come to, by a measure that sees no Free block, isn't more after a zone was changed.

-- no Free block comes to anything
abbrev pub SeesNoFree : (Block → ℕ) → Type 0
SeesNoFree of = (n : ℕ) → of (Free n) ≡ 0

-- blocks that pass come to nothing
abbrev pub unless : (Block → Bool) → (Block → ℕ) → Block → ℕ
unless test of b = cond (test b) 0 (of b)

pub unless-free : (test : Block → Bool) (of : Block → ℕ) → SeesNoFree of → SeesNoFree (unless test of)
unless-free test of none n = one (test (Free n))
  where
    one : (t : Bool) → cond t 0 (of (Free n)) ≡ 0
    one true = refl
    one false = none n

pub unless-le : (test : Block → Bool) (of : Block → ℕ) (bs : List Block) → total (unless test of) bs ≤ total of bs
unless-le test of bs = total-le (unless test of) of (λ b. one b (test b)) bs
  where
    one : (b : Block) (t : Bool) → cond t 0 (of b) ≤ of b
    one b true = omega arith
    one b false = omega arith

-- where none passes, all come to what they did
pub unless-none : (test : Block → Bool) (of : Block → ℕ) (bs : List Block) → count test bs ≤ 0
    → total (unless test of) bs ≡ total of bs
unless-none test of [] few = refl
unless-none test of (b ∷ bs) few = let r = unless-none test of bs (omega arith) in let o = one (test b) (omega arith) in
    omega arith
  where
    one : (t : Bool) → cond {A = ℕ} t 1 0 ≤ 0 → cond t 0 (of b) ≡ of b
    one true le = absurd (let f : 1 ≤ 0 = le in omega arith)
    one false le = refl

-- a run above from which bytes are taken, after so many purges in it
pub record TakenLow (of : Block → ℕ) (sp : Block → Bool) (above z : List Block) : Type 0 where
  pub run : List Block
  pub rest : List Block
  pub k : ℕ
  pub loose : Loose run
  pub before : total of above ≡ total of run + total of rest
  pub after : total of z ≡ total of (movers (purge k sp run)) + total of rest

module _ (of : Block → ℕ) (none : (n : ℕ) → of (Free n) ≡ 0)
  where
    pub tidied : (bs : List Block) → total of (tidy bs) ≡ total of bs
    tidied bs = total-tidy of (λ n m. omega (arith, none n, none m, none (n + m))) bs

    pub freely : (n : ℕ) → total of (free n) ≡ 0
    freely zero = refl
    freely (suc n) = omega (arith, none (suc n))

    pub filtered : (t : Block → Bool) (bs : List Block) → total of (filter t bs) ≤ total of bs
    filtered t [] = omega arith
    filtered t (b ∷ bs) = cases (t b) (filtered t bs)
      where
        cases : (u : Bool) → total of (filter t bs) ≤ total of bs
            → total of (cond u (b ∷ filter t bs) (filter t bs)) ≤ of b + total of bs
        cases true r = omega arith
        cases false r = omega arith

    -- others come to no more than what comes to something
    pub others-le : (t : Block → Bool) (bs : List Block) → total of (others t bs) ≤ total (unless t of) bs
    others-le t [] = omega arith
    others-le t (b ∷ bs) = cases (is_mover b) (t b) (others-le t bs)
      where
        cases : (m u : Bool) → total of (others t bs) ≤ total (unless t of) bs
            → total of (cond (m && not u) (b ∷ others t bs) (others t bs)) ≤ cond u 0 (of b) + total (unless t of) bs
        cases true true r = omega arith
        cases true false r = omega arith
        cases false true r = omega arith
        cases false false r = omega arith

    -- the others and those that pass
    pub parted : (t : Block → Bool) (bs : List Block) → total of (others t bs) + total of (filter t bs) ≤ total of bs
    parted t [] = omega arith
    parted t (b ∷ bs) = cases (is_mover b) (t b) (parted t bs)
      where
        cases : (m u : Bool) → total of (others t bs) + total of (filter t bs) ≤ total of bs
            → total of (cond (m && not u) (b ∷ others t bs) (others t bs)) + total of
            (cond u (b ∷ filter t bs) (filter t bs)) ≤ of b + total of bs
        cases true true r = omega arith
        cases true false r = omega arith
        cases false true r = omega arith
        cases false false r = omega arith

    pub freed-is : (t : Block → Bool) (bs : List Block) → total of (freed t bs) ≡ total (unless t of) bs
    freed-is t [] = refl
    freed-is t (b ∷ bs) = cases (t b) (freed-is t bs)
      where
        cases : (u : Bool) → total of (freed t bs) ≡ total (unless t of) bs
            → of (cond u (Free (size b)) b) + total of (freed t bs) ≡ cond u 0 (of b) + total (unless t of) bs
        cases true r = omega (arith, none (size b))
        cases false r = omega arith

    pub lowest_purged-le : (k : ℕ) (sp : Block → Bool) (bs : List Block) → total of (lowest_purged k sp bs) ≤ total of
        bs
    lowest_purged-le zero sp bs = omega arith
    lowest_purged-le (suc k) sp [] = omega arith
    lowest_purged-le (suc k) sp (b ∷ bs) = cases (may_be_purged sp b) (lowest_purged-le k sp bs)
        (lowest_purged-le (suc k) sp bs)
      where
        cases : (t : Bool) → total of (lowest_purged k sp bs) ≤ total of bs → total of (lowest_purged (suc k) sp bs) ≤
            total of bs
            → total of (cond t (Free (size b) ∷ lowest_purged k sp bs) (b ∷ lowest_purged (suc k) sp bs)) ≤ of b + total
            of bs
        cases true r r' = omega (arith, none (size b))
        cases false r r' = omega arith

    pub purged-le : (k : ℕ) (sp : Block → Bool) (bs : List Block) → total of (purge k sp bs) ≤ total of bs
    purged-le k sp bs = let e = lowest_purged-le k sp bs in omega (arith, tidied (lowest_purged k sp bs))

    -- three parts one above the other
    pub three : (below run above : List Block) → total of (below ++ (run ++ above))
        ≡ total of below + (total of run + total of above)
    three below run above = omega (arith, total-append of below (run ++ above), total-append of run above)

    pub settle-le : (run : List Block) → total of (settle run) ≤ total of run
    settle-le run = let f = filtered is_mover run in omega (
      arith,
      total-append of (movers run) (free (free_sum run)),
      freely (free_sum run),
    )

    pub high-le : (t : Block → Bool) (run : List Block) → total of (high t run) ≤ total of run
    high-le t run =
        let p = parted t run in
        omega (
          arith,
          total-append of (others t run ++ free (free_sum run)) (filter t run),
          total-append of
              (others t run) (free (free_sum run)),
          freely (free_sum run),
        )

    -- a change of a run by which it isn't more
    pub changed-le : (passes : List Block → Bool) (change : List Block → List Block)
        → ((run : List Block) → total of (change run) ≤ total of run)
        → (zone z : List Block) → change_run passes change zone ≡ Some z → total of z ≤ total of zone
    changed-le passes change less zone z e =
        change_run-some passes change zone z (total of z ≤ total of zone) e
        (λ r is all found new. let l = less r.run in omega (
          arith,
          ap (total of) is,
          ap (total of) new,
          three r.below
              r.run r.above,
          three r.below (change r.run) r.above,
        ))

    -- what is below and above a Free block
    pub around : (p : ℕ) (zone : List Block) (s : Spot) → spot (is_room p) zone ≡ Some s
        → total of s.below + total of s.above ≤ total of zone
    around p zone s e = omega (
      arith,
      ap (total of) (spot-is (is_room p) zone s e),
      total-append of s.below
          (s.here ∷ s.above),
    )

    -- what is below and above a place
    pub placed-le : (p : ℕ) (zone : List Block) (s : Spot) → place p zone ≡ Some s
        → total of s.below + total of s.above ≤ total of zone
    placed-le p zone s e =
        place-some p zone s (total of s.below + total of s.above ≤ total of zone) e (λ found. around p zone s found)
        (λ z changed found. let a = around p (tidy z) s found in
        let c = changed-le (has_free p) settle settle-le zone z changed in omega (arith, tidied z))

    pub filled-is : (new : Block) (s : Spot) → total of (filled new s) ≡ of new + (total of s.below + total of s.above)
    filled-is new s =
        let left : ℕ = size s.here - size new in
        omega (
          arith,
          tidied (s.below ++ new ∷ Free left ∷ s.above),
          total-append of s.below
              (new ∷ Free left ∷ s.above),
          none left,
        )

    -- a new block is all that is more
    pub put-le : (new : Block) (zone z : List Block) → put_in_place new zone ≡ Some z
        → total of z ≤ of new + total of zone
    put-le new zone z e =
        map-some (filled new) (place (size new) zone) z (total of z ≤ of new + total of zone) e
        (λ s found is. let p = placed-le (size new) zone s found in omega (arith, ap (total of) is, filled-is new s))

    -- what is tried leaves so much more, after purges too
    pub room-more : (try : List Block → Option (List Block)) (n : ℕ)
        → ((zone z : List Block) → try zone ≡ Some z → total of z ≤ n + total of zone)
        → (sp : Block → Bool) (zone z : List Block) → room try sp zone ≡ Some z → total of z ≤ n + total of zone
    room-more try n more sp zone z e =
        let r = room-some try sp zone z e in
        let p = more (purge r.0 sp zone) z r.1 in
        let q = purged-le r.0 sp zone in
        omega arith

    pub room-le : (new : Block) (sp : Block → Bool) (zone z : List Block) → room (put_in_place new) sp zone ≡ Some z
        → total of z ≤ of new + total of zone
    room-le new = room-more (put_in_place new) (of new) (put-le new)

    -- a new block at the base of a run is all that is more
    pub low-le : (new : Block) (run : List Block) → total of (low new run) ≤ of new + total of run
    low-le new run = let f = filtered is_mover run in omega (
      arith,
      total-append of (movers run)
          (free (free_sum run - size new)),
      freely (free_sum run - size new),
    )

    pub based-le : (new : Block) (passes : List Block → Bool) (zone z : List Block)
        → option_map tidy (change_run passes (low new) zone) ≡ Some z → total of z ≤ of new + total of zone
    based-le new passes zone z e =
        map-some tidy (change_run passes (low new) zone) z (total of z ≤ of new + total of zone) e
        (λ based changed is. change_run-some passes (low new) zone based (total of z ≤ of new + total of zone) changed
        (λ r zone_is all found made. let l = low-le new r.run in
        omega (
          arith,
          ap (total of) is,
          tidied based,
          ap (total of) zone_is,
          ap (total of) made,
          three r.below r.run
              r.above,
          three r.below (low new r.run) r.above,
        )))

    pub base-le : (new : Block) (sp : Block → Bool) (zone z : List Block) → room (put_at_base new) sp zone ≡ Some z
        → total of z ≤ of new + total of zone
    base-le new = room-more (put_at_base new) (of new) (based-le new (has_free (size new)))

    -- Free bytes at the base of a run
    pub reserved-le : (p : ℕ) (sp : Block → Bool) (zone z : List Block)
        → room (λ bs. option_map tidy (change_run (has_free p) (low (Free p)) bs)) sp zone ≡ Some z
        → total of z ≤ total of zone
    reserved-le p sp zone z e = let l = room-more (λ bs. option_map tidy (change_run (has_free p) (low (Free p)) bs))
        (of (Free p)) (based-le (Free p) (has_free p)) sp zone z e in omega (arith, none p)

    -- the lowest run settled, and the others; and as they were
    pub settled-parts : (k : ℕ) (run : List Block) (p : Stretch) (parts : List Stretch)
        → total of (settled_runs (suc k) run (p ∷ parts)) ≡ total of (settle run) + (of p.barrier
        + total of (settled_runs k p.run parts))
    settled-parts k run p parts = total-append of (settle run) (p.barrier ∷ settled_runs k p.run parts)

    pub joined-parts : (run : List Block) (p : Stretch) (parts : List Stretch)
        → total of (joined run (p ∷ parts)) ≡ total of run + (of p.barrier + total of (joined p.run parts))
    joined-parts run p parts = total-append of run (p.barrier ∷ joined p.run parts)

    settled-below : (k : ℕ) (run : List Block) (parts : List Stretch)
        → total of (settled_runs k run parts) ≤ total of (joined run parts)
    settled-below zero run parts = omega arith
    settled-below (suc k) run [] = settle-le run
    settled-below (suc k) run (p ∷ parts) =
        let r = settled-below k p.run parts in let l = settle-le run in
        omega (arith, settled-parts k run p parts, joined-parts run p parts)

    pub settled-le : (k : ℕ) (zone : List Block) → total of (settled k zone) ≤ total of zone
    settled-le k zone = let r = settled-below k (segments zone).first (segments zone).rest in
        omega (arith, ap (total of) (joined-segments zone))

    pub taken-le : (d : ℕ) (above z : List Block) → taken d above ≡ Some z → total of z ≤ total of above
    taken-le d above z e =
        taken-some d above z (total of z ≤ total of above) e
        (λ next rest is fits new. omega (
          arith,
          ap (total of) is,
          ap (total of) new,
          total-append of
              (free (size next - d)) rest,
          freely (size next - d),
        ))

    -- what is taken from a run, of which some blocks are purged: all before and after
    pub taken_low-is : (d : ℕ) (sp : Block → Bool) (above z : List Block) → taken_low d sp above ≡ Some z
        → TakenLow of sp above z
    taken_low-is d sp above z e =
        taken_low-some d sp above z (TakenLow of sp above z) e
        (λ run rest k all is fits new.
        let left : List Block = purge k sp run in
        record {
          run = run;
          rest = rest;
          k = k;
          loose = all;
          before = ap (total of) is ∙ total-append of run rest;
          after = omega (
            arith,
            ap (total of) new,
            total-append of (movers left ++ free (free_sum left - d)) rest,
            total-append of (movers left) (free (free_sum left - d)),
            freely (free_sum left - d),
          );
        })

    pub taken_low-le : (d : ℕ) (sp : Block → Bool) (above z : List Block) → taken_low d sp above ≡ Some z
        → total of z ≤ total of above
    taken_low-le d sp above z e =
        let t = taken_low-is d sp above z e in
        let p = purged-le t.k sp t.run in
        omega (arith, t.before, t.after, p, filtered is_mover (purge t.k sp t.run))

-- a test as a measure
pub counts-free : (test : Block → Bool) → ((n : ℕ) → test (Free n) ≡ false)
    → SeesNoFree (λ (b : Block). cond {A = ℕ} (test b) 1 0)
counts-free test never n = ap {B = ℕ} (λ (t : Bool). cond t 1 0) (never n)

-- what is left of the only block that passes
pub apart : (test : Block → Bool) (zone : List Block) (s : Spot) → spot test zone ≡ Some s → count test zone ≤ 1
    → (count test s.below ≤ 0) × (count test s.above ≤ 0)
apart test zone s e once =
    let here : cond {A = ℕ} (test s.here) 1 0 ≡ 1 = cond-true (test s.here) 1 0 (spot-passes test zone s e) in
    let whole : count test zone ≡ count test (s.below ++ s.here ∷ s.above) = ap (count test) (spot-is test zone s e) in
    let parts = total-append (λ (b : Block). cond {A = ℕ} (test b) 1 0) s.below (s.here ∷ s.above) in
    (omega arith, omega arith)

-- a block went elsewhere: the spot that it got
pub record Went (of : Block → ℕ) (test : Block → Bool) (new : Block) (zone z : List Block) : Type 0 where
  pub s : Spot
  pub found : place (size new) zone ≡ Some s
  pub after : total of z ≡ of new + (total (unless test of) s.below + total (unless test of) s.above)

-- a block is the last of its run: the run
pub record Last (of : Block → ℕ) (test : Block → Bool) (new : Block) (d : ℕ) (zone z : List Block) : Type 0 where
  pub r : RunSpot
  pub is : zone ≡ r.below ++ (r.run ++ r.above)
  pub loose : Loose r.run
  pub passes : (has test r.run && has_free d r.run) ≡ true
  pub before : total (unless test of) zone
      ≡ total (unless test of) r.below + (total (unless test of) r.run + total (unless test of) r.above)
  pub after : total of z ≡ total of r.below + (total of (others test r.run) + of new + total of r.above)

module _ (of : Block → ℕ) (none : (n : ℕ) → of (Free n) ≡ 0) (test : Block → Bool)
  where
    pub went-to : (zone z : List Block) (new : Block) → move_away test new zone ≡ Some z → Went of test new zone z
    went-to zone z new e =
        map-some (λ (s : Spot). filled new (record s { below = freed test s.below; above = freed test s.above }))
        (place (size new) zone) z (Went of test new zone z) e
        (λ s found is. record {
          s = s;
          found = found;
          after = omega (
            arith,
            ap (total of) is,
            filled-is of none new (record s { below = freed test s.below; above = freed test s.above }),
            freed-is of none test s.below,
            freed-is of none test s.above,
          );
        })

    pub last-of : (zone z : List Block) (new : Block) (d : ℕ) → grow_last test new d zone ≡ Some z
        → Last of test new d zone z
    last-of zone z new d e =
        change_run-some (λ run. has test run && has_free d run) (λ run. others test run
        ++ new ∷ free (free_sum run - d)) zone z (Last of test new d zone z) e
        (λ r is all passes new_zone. record {
          r = r;
          is = is;
          loose = all;
          passes = passes;
          before = ap (total (unless test of)) is
              ∙ three (unless test of) (unless-free test of none) r.below r.run r.above;
          after = omega (
            arith,
            ap (total of) new_zone,
            three of none r.below (others test r.run ++ new ∷ free (free_sum r.run - d)) r.above,
            total-append of (others test r.run) (new ∷ free (free_sum r.run - d)),
            freely of none (free_sum r.run - d),
          );
        })

-- Where only one block passes, another takes its place: all come to no more than that and the blocks that don't pass.
module _ (of : Block → ℕ) (none : (n : ℕ) → of (Free n) ≡ 0) (test : Block → Bool)
    (never : (n : ℕ) → test (Free n) ≡ false)
  where
    pub beside : (zone : List Block) (s : Spot) → spot test zone ≡ Some s → count test zone ≤ 1
        → total of s.below + total of s.above ≤ total (unless test of) zone
    beside zone s e once =
        let a = apart test zone s e once in
        omega (
          arith,
          unless-none test of s.below a.0,
          unless-none test of s.above a.1,
          ap (total (unless test of))
              (spot-is test zone s e),
          total-append (unless test of) s.below (s.here ∷ s.above),
        )

    -- another block at the spot of one
    pub swapped-le : (zone : List Block) (s : Spot) (new : Block) → spot test zone ≡ Some s → count test zone ≤ 1
        → total of (s.below ++ new ∷ s.above) ≤ of new + total (unless test of) zone
    swapped-le zone s new e once = let b = beside zone s e once in
        omega (arith, total-append of s.below (new ∷ s.above))

    grown_up : (zone z : List Block) (s : Spot) (new : Block) → spot test zone ≡ Some s → count test zone ≤ 1
        → grow_up new s ≡ Some z → total of z ≤ of new + total (unless test of) zone
    grown_up zone z s new found once e =
        map-some (λ above. s.below ++ new ∷ above) (taken (growth new s) s.above) z
        (total of z ≤ of new + total (unless test of) zone) e
        (λ above took is. let b = beside zone s found once in let t = taken-le of none (growth new s) s.above above
        took in omega (arith, ap (total of) is, total-append of s.below (new ∷ above)))

    went : (zone z : List Block) (new : Block) → move_away test new zone ≡ Some z
        → total of z ≤ of new + total (unless test of) zone
    went zone z new e =
        let w = went-to of none test zone z new e in
        omega (arith, w.after, placed-le (unless test of) (unless-free test of none) (size new) zone w.s w.found)

    lasts : (zone z : List Block) (new : Block) (d : ℕ) → count test zone ≤ 1 → grow_last test new d zone ≡ Some z
        → total of z ≤ of new + total (unless test of) zone
    lasts zone z new d once e =
        let l = last-of of none test zone z new d e in
        let r = l.r in
        let inside = has-count test r.run (and_parts (has test r.run) (has_free d r.run) l.passes).0 in
        let counted = three (λ (b : Block). cond {A = ℕ} (test b) 1 0) (counts-free test never) r.below r.run r.above in
        let whole : count test zone ≡ count test (r.below ++ (r.run ++ r.above)) = ap (count test) l.is in
        let o = others-le of none test r.run in
        omega (
          arith,
          l.before,
          l.after,
          unless-none test of r.below (omega arith),
          unless-none test of r.above (omega arith),
        )

    pub moved-le : (zone z : List Block) (new : Block) → count test zone ≤ 1 → grow_mover test new zone ≡ Some z
        → total of z ≤ of new + total (unless test of) zone
    moved-le zone z new once e =
        option_and_then_some (λ s. option_or (grow_up new s) (option_or (move_away test new zone)
        (grow_last test new (growth new s) zone))) (spot test zone) z e
        (λ s found is. first s found (or-some (grow_up new s) _ z is))
      where
        second : (s : Spot) → (move_away test new zone ≡ Some z) ⊎ (grow_last test new (growth new s) zone ≡ Some z)
            → total of z ≤ of new + total (unless test of) zone
        second s (inl e) = went zone z new e
        second s (inr e) = lasts zone z new (growth new s) once e

        first : (s : Spot) → spot test zone ≡ Some s → (grow_up new s ≡ Some z)
            ⊎ (option_or (move_away test new zone) (grow_last test new (growth new s) zone) ≡ Some z)
            → total of z ≤ of new + total (unless test of) zone
        first s found (inl e) = grown_up zone z s new found once e
        first s found (inr e) = second s (or-some (move_away test new zone) _ z e)

    stood : (sp : Block → Bool) (zone z : List Block) (s : Spot) (new : Block) → spot test zone ≡ Some s
        → count test zone ≤ 1 → grow_nonrelocatable sp new s ≡ Some z → total of z ≤ of new + total (unless test of) zone
    stood sp zone z s new found once e = cases (or-some (grow_up new s) _ z e)
      where
        cases : (grow_up new s ≡ Some z) ⊎ (option_map (λ above. s.below ++ new ∷ above)
            (taken_low (growth new s) sp s.above) ≡ Some z) → total of z ≤ of new + total (unless test of) zone
        cases (inl e) = grown_up zone z s new found once e
        cases (inr e) =
            map-some (λ above. s.below ++ new ∷ above) (taken_low (growth new s) sp s.above) z
            (total of z ≤ of new + total (unless test of) zone) e
            (λ above took is. let b = beside zone s found once in let t = taken_low-le of none (growth new s) sp s.above
            above took in omega (arith, ap (total of) is, total-append of s.below (new ∷ above)))

    -- the block that passes grew or was cut
    pub grown-le : (sp : Block → Bool) (n : ℕ) (zone z : List Block) (s : Spot) → spot test zone ≡ Some s
        → count test zone ≤ 1 → grow test sp n zone ≡ Some z → total of z ≤ of (resized n s.here) + total
        (unless test of) zone
    grown-le sp n zone z s found once e =
        grow-some test sp n zone z (total of z ≤ of (resized n s.here) + total (unless test of) zone)
        (λ s' found' small is. the s' found' (let b = beside zone s' found' once in
        omega (arith, ap (total of) is, filled-is of none (resized n s'.here) s')))
        (λ s' k found' more mover e.
        let c = purged-le (λ (b : Block). cond {A = ℕ} (test b) 1 0) (counts-free test never) k sp zone in
        let p = purged-le (unless test of) (unless-free test of none) k sp zone in
        let m = moved-le (purge k sp zone) z (resized n s'.here) (omega arith) e in
        the s' found' (omega arith))
        (λ s' found' more nonrelocatable e. the s' found' (stood sp zone z s' (resized n s'.here) found' once e))
        e
      where
        the : (s' : Spot) → spot test zone ≡ Some s' → total of z ≤ of (resized n s'.here) + total (unless test of) zone
            → total of z ≤ of (resized n s.here) + total (unless test of) zone
        the s' found' le = let P : Spot → Type 0 = λ x. total of z ≤ of (resized n x.here) + total (unless test of)
            zone in subst P (same_Some _ _ (sym found' ∙ found)) le
