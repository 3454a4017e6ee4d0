use Rattle.block_store.proofs.Cited.{◌≡◌, ℕ, ◌+◌, ◌-◌, ◌≤◌, zero, suc, Bool, true, false, not, ◌&&◌, List, [], ◌∷◌, ◌++◌, refl, sym, ap}
use Rattle.block_store.proofs.Cited.{cond, arith, Option, Some, filter, ◌⊎◌, inl, inr, cond-true, and_parts, option_and_then_some}
use Rattle.block_store.proofs.Cited.{option_map, option_or, Block, Free, Nonrelocatable, Masters, Relocatable, size, total, count, free}
use Rattle.block_store.proofs.Cited.{tidy, free_sum, is_mover, is_room, is_purgeable, resized, in_run, Stretch, segments, joined}
use Rattle.block_store.proofs.Cited.{change_run, has_free, movers, others, settle, low, high, Spot, spot, filled, place, put_in_place}
use Rattle.block_store.proofs.Cited.{put_at_base, lowest_purged, purge, room, may_be_purged, growth, taken, taken_low, grow_up}
use Rattle.block_store.proofs.Cited.{grow_nonrelocatable, move_away, grow_last, grow, grow_mover, settled_runs, settled, Loose}
use Rattle.block_store.proofs.Zone.Tidy.{spot-is, spot-passes}
use Rattle.block_store.proofs.Zone.Totals.{total-append}
use Rattle.block_store.proofs.Zone.Zones.{joined-segments}
use Rattle.block_store.proofs.Regroup.RunLists.{AreLoose, segments-loose}
use Rattle.block_store.proofs.Zone.Views.{map-some, or-some, room-some, change_run-some, place-some, taken-some}
use Rattle.block_store.proofs.Zone.Views.{grow-some}
use Rattle.block_store.proofs.Zone.Keeping.{unless, unless-free, unless-le, unless-none, apart, purged-le, tidied}
use Rattle.block_store.proofs.Zone.Keeping.{freely, three, filled-is, settled-parts, joined-parts, taken_low-is}
use Rattle.block_store.proofs.Zone.Keeping.{went-to, last-of}
use Rattle.block_store.proofs.Zone.Alike.{OneRun, one-run}

-- What blocks come to, by a measure that sees neither a Free block nor one that may be purged, isn't less after a zone
-- was changed.

-- one that may be purged comes to nothing, also where others come to nothing too
pub unless-goes : (test : Block → Bool) (of : Block → ℕ) → ((b : Block) → is_purgeable b ≡ true → of b ≡ 0)
    → (b : Block) → is_purgeable b ≡ true → unless test of b ≡ 0
unless-goes test of goes b e = one (test b)
  where
    one : (t : Bool) → cond t 0 (of b) ≡ 0
    one true = refl
    one false = goes b e

module _ (of : Block → ℕ) (none : (n : ℕ) → of (Free n) ≡ 0)
  where
    -- a run's blocks are Free or among the movers
    pub movers-all : (run : List Block) → OneRun run → total of (movers run) ≡ total of run
    movers-all [] one = refl
    movers-all (Free n ∷ run) one = let r = movers-all run (omega arith) in omega (arith, none n)
    movers-all (Nonrelocatable id content ∷ run) one = absurd (omega arith)
    movers-all (Masters ∷ run) one = absurd (omega arith)
    movers-all (Relocatable id flags content ∷ run) one = cases flags.locked one (λ le. movers-all run le)
      where
        b : Block
        b = Relocatable id flags content

        cases : (l : Bool) → cond {A = ℕ} (not l) 0 1 + total (λ (b : Block). cond {A = ℕ} (in_run b) 0 1) run ≤ 0
            → (OneRun run → total of (movers run) ≡ total of run) → total of
            (cond (not l) (b ∷ movers run) (movers run)) ≡ of b + total of run
        cases true le rest = absurd (omega arith)
        cases false le rest = let r = rest (omega arith) in omega arith

    -- the others and those that pass
    parted-all : (t : Block → Bool) (run : List Block) → OneRun run
        → total of (others t run) + total of (filter t run) ≡ total of run
    parted-all t [] one = refl
    parted-all t (Free n ∷ run) one = cases (t (Free n)) (parted-all t run (omega arith))
      where
        cases : (u : Bool) → total of (others t run) + total of (filter t run) ≡ total of run
            → total of (others t run) + total of (cond u (Free n ∷ filter t run) (filter t run))
            ≡ of (Free n) + total of run
        cases true r = omega arith
        cases false r = omega (arith, none n)
    parted-all t (Nonrelocatable id content ∷ run) one = absurd (omega arith)
    parted-all t (Masters ∷ run) one = absurd (omega arith)
    parted-all t (Relocatable id flags content ∷ run) one = cases flags.locked (t b) one (λ le. parted-all t run le)
      where
        b : Block
        b = Relocatable id flags content

        cases : (l u : Bool) → cond {A = ℕ} (not l) 0 1 + total (λ (b : Block). cond {A = ℕ} (in_run b) 0 1) run ≤ 0
            → (OneRun run → total of (others t run) + total of (filter t run) ≡ total of run)
            → total of (cond (not l && not u) (b ∷ others t run) (others t run)) + total of
            (cond u (b ∷ filter t run) (filter t run)) ≡ of b + total of run
        cases true u le rest = absurd (omega arith)
        cases false true le rest = let r = rest (omega arith) in omega arith
        cases false false le rest = let r = rest (omega arith) in omega arith

    -- those that pass, and what is left
    filter-unless : (t : Block → Bool) (bs : List Block) → total of (filter t bs) + total (unless t of) bs ≡ total of bs
    filter-unless t [] = refl
    filter-unless t (b ∷ bs) = cases (t b) (filter-unless t bs)
      where
        cases : (u : Bool) → total of (filter t bs) + total (unless t of) bs ≡ total of bs
            → total of (cond u (b ∷ filter t bs) (filter t bs)) + (cond u 0 (of b) + total (unless t of) bs)
            ≡ of b + total of bs
        cases true r = omega arith
        cases false r = omega arith

    others-all : (t : Block → Bool) (run : List Block) → OneRun run → total of (others t run) ≡ total (unless t of) run
    others-all t run one = let p = parted-all t run one in let f = filter-unless t run in omega arith

    settle-all : (run : List Block) → OneRun run → total of (settle run) ≡ total of run
    settle-all run one = omega (
      arith,
      movers-all run one,
      total-append of (movers run) (free (free_sum run)),
      freely of
          none (free_sum run),
    )

    pub high-all : (t : Block → Bool) (run : List Block) → OneRun run → total of (high t run) ≡ total of run
    high-all t run one =
        omega (
          arith,
          parted-all t run one,
          total-append of (others t run ++ free (free_sum run)) (filter t run),
          total-append of (others t run) (free (free_sum run)),
          freely of none (free_sum run),
        )

    -- a change of a run by which it isn't less
    pub changed-all : (passes : List Block → Bool) (change : List Block → List Block)
        → ((run : List Block) → OneRun run → total of run ≤ total of (change run))
        → (zone z : List Block) → change_run passes change zone ≡ Some z → total of zone ≤ total of z
    changed-all passes change more zone z e =
        change_run-some passes change zone z (total of zone ≤ total of z) e
        (λ r is all found new. let l = more r.run (one-run r.run all) in
        omega (
          arith,
          ap (total of) is,
          ap (total of) new,
          three of none r.below r.run r.above,
          three of none
              r.below (change r.run) r.above,
        ))

    -- what is below and above a Free block
    around-all : (p : ℕ) (zone : List Block) (s : Spot) → spot (is_room p) zone ≡ Some s
        → total of zone ≡ total of s.below + total of s.above
    around-all p zone s e = omega (
      arith,
      here s.here (spot-passes (is_room p) zone s e),
      ap (total of)
          (spot-is (is_room p) zone s e),
      total-append of s.below (s.here ∷ s.above),
    )
      where
        here : (b : Block) → is_room p b ≡ true → of b ≡ 0
        here (Free n) e = none n
        here (Nonrelocatable id content) e = let f : false ≡ true = e in cc
        here Masters e = let f : false ≡ true = e in cc
        here (Relocatable id flags content) e = let f : false ≡ true = e in cc

    placed-all : (p : ℕ) (zone : List Block) (s : Spot) → place p zone ≡ Some s
        → total of zone ≤ total of s.below + total of s.above
    placed-all p zone s e =
        place-some p zone s (total of zone ≤ total of s.below + total of s.above) e
        (λ found. let a = around-all p zone s found in omega arith)
        (λ z changed found. let a = around-all p (tidy z) s found in
        let c = changed-all (has_free p) settle (λ run one. let a = settle-all run one in
        omega arith) zone z changed in omega (arith, tidied of none z))

    pub put-all : (new : Block) (zone z : List Block) → put_in_place new zone ≡ Some z → total of zone ≤ total of z
    put-all new zone z e =
        map-some (filled new) (place (size new) zone) z (total of zone ≤ total of z) e
        (λ s found is. let p = placed-all (size new) zone s found in
        omega (arith, ap (total of) is, filled-is of none new s))

    pub based-all : (new : Block) (passes : List Block → Bool) (zone z : List Block)
        → option_map tidy (change_run passes (low new) zone) ≡ Some z → total of zone ≤ total of z
    based-all new passes zone z e =
        map-some tidy (change_run passes (low new) zone) z (total of zone ≤ total of z) e
        (λ based changed is.
        let c = changed-all passes (low new) (λ run one. omega (
          arith,
          movers-all run one,
          total-append of (movers run)
              (free (free_sum run - size new)),
        )) zone based changed in
        omega (arith, ap (total of) is, tidied of none based))

    settled-runs : (k : ℕ) (run : List Block) (parts : List Stretch) → Loose run → AreLoose parts
        → total of (joined run parts) ≡ total of (settled_runs k run parts)
    settled-runs zero run parts all rest = refl
    settled-runs (suc k) run [] all rest = sym (settle-all run (one-run run all))
    settled-runs (suc k) run (p ∷ parts) all rest =
        let r = settled-runs k p.run parts rest.0 rest.1 in let l = settle-all run (one-run run all) in
        omega (arith, joined-parts of none run p parts, settled-parts of none k run p parts)

    pub settled-all : (k : ℕ) (zone : List Block) → total of zone ≤ total of (settled k zone)
    settled-all k zone =
        let all = segments-loose zone in
        let r = settled-runs k (segments zone).first (segments zone).rest all.0 all.1 in
        omega (arith, ap (total of) (joined-segments zone))

    pub taken-all : (d : ℕ) (above z : List Block) → taken d above ≡ Some z → total of above ≤ total of z
    taken-all d above z e =
        taken-some d above z (total of above ≤ total of z) e
        (λ next rest is fits new. omega (
          arith,
          here next fits,
          ap (total of) is,
          ap (total of) new,
          total-append of
              (free (size next - d)) rest,
        ))
      where
        here : (b : Block) → is_room d b ≡ true → of b ≡ 0
        here (Free n) e = none n
        here (Nonrelocatable id content) e = let f : false ≡ true = e in cc
        here Masters e = let f : false ≡ true = e in cc
        here (Relocatable id flags content) e = let f : false ≡ true = e in cc

    -- the only block that passes, and the others
    pub whole : (test : Block → Bool) (zone : List Block) (s : Spot) → spot test zone ≡ Some s → count test zone ≤ 1
        → total of zone ≡ of s.here + total (unless test of) zone
    whole test zone s e once =
        let a = apart test zone s e once in
        let here : unless test of s.here ≡ 0 = cond-true (test s.here) 0 (of s.here) (spot-passes test zone s e) in
        omega (
          arith,
          unless-none test of s.below a.0,
          unless-none test of s.above a.1,
          ap (total of) (spot-is test zone s e),
          ap (total (unless test of)) (spot-is test zone s e),
          total-append of s.below (s.here ∷ s.above),
          total-append (unless test of) s.below (s.here ∷ s.above),
        )

module _ (of : Block → ℕ) (none : (n : ℕ) → of (Free n) ≡ 0) (goes : (b : Block) → is_purgeable b ≡ true → of b ≡ 0)
  where
    lowest_purged-all : (k : ℕ) (sp : Block → Bool) (bs : List Block) → total of (lowest_purged k sp bs) ≡ total of bs
    lowest_purged-all zero sp bs = refl
    lowest_purged-all (suc k) sp [] = refl
    lowest_purged-all (suc k) sp (b ∷ bs) = cases (may_be_purged sp b) refl (lowest_purged-all k sp bs)
        (lowest_purged-all (suc k) sp bs)
      where
        cases : (t : Bool) → may_be_purged sp b ≡ t → total of (lowest_purged k sp bs) ≡ total of bs
            → total of (lowest_purged (suc k) sp bs) ≡ total of bs
            → total of (cond t (Free (size b) ∷ lowest_purged k sp bs) (b ∷ lowest_purged (suc k) sp bs))
            ≡ of b + total of bs
        cases true e r r' = omega (arith, none (size b), goes b (and_parts (is_purgeable b) (not (sp b)) e).0)
        cases false e r r' = omega arith

    pub purged-all : (k : ℕ) (sp : Block → Bool) (bs : List Block) → total of (purge k sp bs) ≡ total of bs
    purged-all k sp bs = let e = lowest_purged-all k sp bs in omega (arith, tidied of none (lowest_purged k sp bs))

    room-all : (try : List Block → Option (List Block)) → ((zone z : List Block) → try zone ≡ Some z
        → total of zone ≤ total of z) → (sp : Block → Bool) (zone z : List Block) → room try sp zone ≡ Some z
        → total of zone ≤ total of z
    room-all try more sp zone z e =
        let r = room-some try sp zone z e in
        let p = more (purge r.0 sp zone) z r.1 in
        let q = purged-all r.0 sp zone in
        omega arith

    pub made-all : (new : Block) (sp : Block → Bool) (zone z : List Block) → room (put_in_place new) sp zone ≡ Some z
        → total of zone ≤ total of z
    made-all new = room-all (put_in_place new) (put-all of none new)

    pub base-all : (new : Block) (sp : Block → Bool) (zone z : List Block) → room (put_at_base new) sp zone ≡ Some z
        → total of zone ≤ total of z
    base-all new = room-all (put_at_base new) (based-all of none new (has_free (size new)))

    taken_low-all : (d : ℕ) (sp : Block → Bool) (above z : List Block) → taken_low d sp above ≡ Some z
        → total of above ≤ total of z
    taken_low-all d sp above z e =
        let t = taken_low-is of none d sp above z e in
        let one = one-run t.run t.loose in
        let one_left : OneRun (purge t.k sp t.run) =
        (let p = purged-le (λ (b : Block). cond {A = ℕ} (in_run b) 0 1) (λ n. refl) t.k sp t.run in omega arith) in
        omega (arith, t.before, t.after, purged-all t.k sp t.run, movers-all of none (purge t.k sp t.run) one_left)

    -- a block at a spot that grows in place comes to what it came to
    up-all : (zone z : List Block) (s : Spot) (new : Block) → zone ≡ s.below ++ s.here ∷ s.above → of s.here ≤ of new
        → grow_up new s ≡ Some z → total of zone ≤ total of z
    up-all zone z s new is same e =
        map-some (λ above. s.below ++ new ∷ above) (taken (growth new s) s.above) z (total of zone ≤ total of z) e
        (λ above took made. let t = taken-all of none (growth new s) s.above above took in
        omega (
          arith,
          ap (total of) is,
          ap (total of) made,
          total-append of s.below (s.here ∷ s.above),
          total-append
              of s.below (new ∷ above),
        ))

    stood-all : (sp : Block → Bool) (zone z : List Block) (s : Spot) (new : Block) → zone ≡ s.below ++ s.here ∷ s.above
        → of s.here ≤ of new → grow_nonrelocatable sp new s ≡ Some z → total of zone ≤ total of z
    stood-all sp zone z s new is same e = cases (or-some (grow_up new s) _ z e)
      where
        cases : (grow_up new s ≡ Some z) ⊎ (option_map (λ above. s.below ++ new ∷ above)
            (taken_low (growth new s) sp s.above) ≡ Some z) → total of zone ≤ total of z
        cases (inl e) = up-all zone z s new is same e
        cases (inr e) =
            map-some (λ above. s.below ++ new ∷ above) (taken_low (growth new s) sp s.above) z
            (total of zone ≤ total of z) e
            (λ above took made. let t = taken_low-all (growth new s) sp s.above above took in
            omega (
              arith,
              ap (total of) is,
              ap (total of) made,
              total-append of s.below (s.here ∷ s.above),
              total-append of s.below (new ∷ above),
            ))

module _ (of : Block → ℕ) (none : (n : ℕ) → of (Free n) ≡ 0) (test : Block → Bool)
  where
    went-all : (zone z : List Block) (new : Block) → move_away test new zone ≡ Some z
        → of new + total (unless test of) zone ≤ total of z
    went-all zone z new e =
        let w = went-to of none test zone z new e in
        let p = placed-all (unless test of) (unless-free test of none) (size new) zone w.s w.found in
        omega (arith, w.after, p)

    lasts-all : (zone z : List Block) (new : Block) (d : ℕ) → grow_last test new d zone ≡ Some z
        → of new + total (unless test of) zone ≤ total of z
    lasts-all zone z new d e =
        let l = last-of of none test zone z new d e in
        let o = others-all of none test l.r.run (one-run l.r.run l.loose) in
        let below = unless-le test of l.r.below in
        let above = unless-le test of l.r.above in
        omega (arith, l.before, l.after)

    upped-all : (zone z : List Block) (s : Spot) (new : Block) → spot test zone ≡ Some s → grow_up new s ≡ Some z
        → of new + total (unless test of) zone ≤ total of z
    upped-all zone z s new found e =
        map-some (λ above. s.below ++ new ∷ above) (taken (growth new s) s.above) z
        (of new + total (unless test of) zone ≤ total of z) e
        (λ above took made.
        let t = taken-all of none (growth new s) s.above above took in
        let here : unless test of s.here ≡ 0 = cond-true (test s.here) 0 (of s.here) (spot-passes test zone s found) in
        let b = unless-le test of s.below in
        let a = unless-le test of s.above in
        omega (
          arith,
          ap (total (unless test of)) (spot-is test zone s found),
          total-append (unless test of) s.below
              (s.here ∷ s.above),
          ap (total of) made,
          total-append of s.below (new ∷ above),
        ))

    pub moved-all : (zone z : List Block) (new : Block) → grow_mover test new zone ≡ Some z
        → of new + total (unless test of) zone ≤ total of z
    moved-all zone z new e =
        option_and_then_some (λ s. option_or (grow_up new s) (option_or (move_away test new zone)
        (grow_last test new (growth new s) zone))) (spot test zone) z e
        (λ s found is. first s found (or-some (grow_up new s) _ z is))
      where
        second : (s : Spot) → (move_away test new zone ≡ Some z) ⊎ (grow_last test new (growth new s) zone ≡ Some z)
            → of new + total (unless test of) zone ≤ total of z
        second s (inl e) = went-all zone z new e
        second s (inr e) = lasts-all zone z new (growth new s) e

        first : (s : Spot) → spot test zone ≡ Some s → (grow_up new s ≡ Some z)
            ⊎ (option_or (move_away test new zone) (grow_last test new (growth new s) zone) ≡ Some z)
            → of new + total (unless test of) zone ≤ total of z
        first s found (inl e) = upped-all zone z s new found e
        first s found (inr e) = second s (or-some (move_away test new zone) _ z e)

-- a block that grew or was cut
pub grown-all : (of : Block → ℕ) (none : (n : ℕ) → of (Free n) ≡ 0)
    (goes : (b : Block) → is_purgeable b ≡ true → of b ≡ 0) → ((n : ℕ) (b : Block) → of b ≡ of (resized n b))
    → (test sp : Block → Bool) (n : ℕ) (zone z : List Block) → ((s : Spot) → spot test zone ≡ Some s
    → is_mover s.here ≡ true → count test zone ≤ 1) → grow test sp n zone ≡ Some z → total of zone ≤ total of z
grown-all of none goes sized test sp n zone z once e =
    grow-some test sp n zone z (total of zone ≤ total of z)
    (λ s found small is. let same = sized n s.here in omega (
      arith,
      ap (total of) is,
      filled-is of none
          (resized n s.here) s,
      ap (total of) (spot-is test zone s found),
      total-append of s.below (s.here ∷ s.above),
    ))
    (λ s k found more mover e.
    let m = moved-all of none test (purge k sp zone) z (resized n s.here) e in
    let p = purged-all (unless test of) (unless-free test of none) (unless-goes test of goes) k sp zone in
    let w = whole of none test zone s found (once s found mover) in
    let same = sized n s.here in
    omega arith)
    (λ s found more nonrelocatable e. let same = sized n s.here in stood-all of none goes sp zone z s (resized n s.here)
    (spot-is test zone s found) (omega arith) e)
    e
