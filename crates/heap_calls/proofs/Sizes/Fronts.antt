use Rattle.heap_calls.proofs.Cited.{◌≡◌, ℕ, ◌-◌, ◌≤◌, Bool, true, false, not, ◌&&◌, ◌==◌, List, [], ◌∷◌, ◌++◌, refl, sym, ◌∙◌, ap, subst}
use Rattle.heap_calls.proofs.Cited.{cond, arith, Option, Some, None, filter, ◌⊎◌, inl, inr, cond-true, cond-false, and_parts}
use Rattle.heap_calls.proofs.Cited.{false_from_ne_true, Decides-eqb, none-some, same_Some, option_and_then_some, find-append, find}
use Rattle.heap_calls.proofs.Cited.{option_map, option_or, Block, Free, Nonrelocatable, Masters, Relocatable, size, total, count, free}
use Rattle.heap_calls.proofs.Cited.{free_sum, is_mover, is_room, is_relocatable, resized, tidy, in_run, change_run, has, has_free, movers}
use Rattle.heap_calls.proofs.Cited.{others, settle, Spot, raised, spot, filled, place, lowest_purged, purge, growth, taken, taken_low}
use Rattle.heap_calls.proofs.Cited.{grow_up, grow_nonrelocatable, freed, move_away, grow_last, grow_mover, grow, none-count, spot-is}
use Rattle.heap_calls.proofs.Cited.{spot-passes, has-freed, is_relocatable-resized, has-count, Loose, block_of, counts-free, three}
use Rattle.heap_calls.proofs.Cited.{purged-le, map-some, or-some, change_run-some, taken-some, taken_low-some, grow-some}
use Rattle.heap_calls.proofs.Sizes.Growth.{find-tidy, find-lowest_purged, spot-find}
use Rattle.heap_calls.proofs.Sizes.Carrying.{find-free, find-none, has-others}
use Rattle.block_store.proofs.Zone.Views.{place-some}

-- Growth of a block keeps the blocks that are spared, and its own at its new size.

-- no block ends a run
abbrev ends : Block → ℕ
ends b = cond (in_run b) 0 1

none-end : (bs : List Block) → Loose bs → total ends bs ≤ 0
none-end [] all = omega arith
none-end (b ∷ bs) all = let r = none-end bs all.1 in let o : ends b ≡ 0 = cond-true (in_run b) 0 1 all.0 in omega arith

-- no block below the lowest that passes does
find-below : (t : Block → Bool) (zone : List Block) (s : Spot) → spot t zone ≡ Some s → find t s.below ≡ None
find-below t [] s e = absurd (none-some _ e)
find-below t (b ∷ bs) s e = cases (t b) refl (spot t bs) (λ s e. find-below t bs s e) e
  where
    P : Spot → Type 0
    P s = find t s.below ≡ None

    cases : (u : Bool) → t b ≡ u → (o : Option Spot) → ((s : Spot) → o ≡ Some s → find t s.below ≡ None)
        → cond u (Some (record { below = []; here = b; above = bs })) (option_map (raised b) o) ≡ Some s
        → find t s.below ≡ None
    cases true is o more e = let same : (let x : Spot = record { below = []; here = b; above = bs } in x) ≡ s =
        same_Some _ _ e in subst P same refl
    cases false is None more e = absurd (none-some _ e)
    cases false is (Some s') more e = let same : raised b s' ≡ s = same_Some _ _ e in
        subst P same (cond-false (t b) _ _ is ∙ more s' refl)

find-room : (t : Block → Bool) → ((n : ℕ) → t (Free n) ≡ false) → (p : ℕ) (b : Block) → is_room p b ≡ true → t b ≡ false
find-room t never p (Free n) e = never n
find-room t never p (Nonrelocatable id content) e = let f : false ≡ true = e in cc
find-room t never p Masters e = let f : false ≡ true = e in cc
find-room t never p (Relocatable id flags content) e = let f : false ≡ true = e in cc

-- the lowest of three parts
find-three : (t : Block → Bool) (below run above : List Block)
    → find t (below ++ (run ++ above)) ≡ option_or (find t below) (option_or (find t run) (find t above))
find-three t below run above = find-append t below (run ++ above)
    ∙ ap (option_or (find t below)) (find-append t run above)

or-none : (o : Option Block) → option_or o None ≡ o
or-none None = refl
or-none (Some b) = refl

module _ (t : Block → Bool) (never : (n : ℕ) → t (Free n) ≡ false)
  where
    -- a filter that lets pass what may be in a run
    find-filter : (p : Block → Bool) → ((b : Block) → t b ≡ true → ends b ≡ 0 → p b ≡ true) → (bs : List Block)
        → total ends bs ≤ 0 → find t (filter p bs) ≡ find t bs
    find-filter p lets [] le = refl
    find-filter p lets (b ∷ bs) le = cases (t b) refl (p b) refl (find-filter p lets bs (omega arith))
      where
        cases : (u : Bool) → t b ≡ u → (v : Bool) → p b ≡ v → find t (filter p bs) ≡ find t bs
            → find t (cond v (b ∷ filter p bs) (filter p bs)) ≡ cond u (Some b) (find t bs)
        cases true e true e' more = cond-true (t b) _ _ e
        cases true e false e' more = let f : true ≡ false = sym (lets b e (omega arith)) ∙ e' in cc
        cases false e true e' more = cond-false (t b) _ _ e ∙ more
        cases false e false e' more = more

    mover : (b : Block) → t b ≡ true → ends b ≡ 0 → is_mover b ≡ true
    mover (Free n) e z = let f : true ≡ false = sym e ∙ never n in cc
    mover (Nonrelocatable id content) e z = absurd (let f : 1 ≡ 0 = z in omega arith)
    mover Masters e z = absurd (let f : 1 ≡ 0 = z in omega arith)
    mover (Relocatable id flags content) e z = cases (not flags.locked) z
      where
        cases : (u : Bool) → cond {A = ℕ} u 0 1 ≡ 0 → u ≡ true
        cases true e = refl
        cases false e = absurd (let f : 1 ≡ 0 = e in omega arith)

    -- Free bytes more above or below
    and-free : (bs : List Block) (n : ℕ) → find t (bs ++ free n) ≡ find t bs
    and-free bs n = find-append t bs (free n) ∙ ap (option_or (find t bs)) (find-free t never n) ∙ or-none (find t bs)

    free-then : (n : ℕ) (bs : List Block) → find t (free n ++ bs) ≡ find t bs
    free-then n bs = find-append t (free n) bs ∙ ap (λ (o : Option Block). option_or o (find t bs))
        (find-free t never n)

    packed : (run : List Block) (n : ℕ) → total ends run ≤ 0 → find t (movers run ++ free n) ≡ find t run
    packed run n all = and-free (movers run) n ∙ find-filter is_mover mover run all

    taken-find : (d : ℕ) (above z : List Block) → taken d above ≡ Some z → find t z ≡ find t above
    taken-find d above z e =
        taken-some d above z (find t z ≡ find t above) e
        (λ next rest is fits new. ap (find t) new ∙ free-then (size next - d) rest
        ∙ sym (ap (find t) is ∙ cond-false (t next) _ _ (find-room t never d next fits)))

    module _ (sp : Block → Bool) (spares : (b : Block) → t b ≡ true → sp b ≡ true)
      where
        purged-find : (k : ℕ) (zone : List Block) → find t (purge k sp zone) ≡ find t zone
        purged-find k zone = find-tidy t never (lowest_purged k sp zone) ∙ find-lowest_purged t sp never spares k zone

        taken_low-find : (d : ℕ) (above z : List Block) → taken_low d sp above ≡ Some z → find t z ≡ find t above
        taken_low-find d above z e =
            taken_low-some d sp above z (find t z ≡ find t above) e
            (λ run rest k all is fits new.
            let left : List Block = purge k sp run in
            let none : total ends left ≤ 0 = (let p = purged-le ends (λ n. refl) k sp run in let a = none-end run all in
            omega arith) in
            ap (find t) new ∙ find-append t (movers left ++ free (free_sum left - d)) rest
            ∙ ap (λ (o : Option Block). option_or o (find t rest))
            (packed left (free_sum left - d) none ∙ purged-find k run)
            ∙ sym (ap (find t) is ∙ find-append t run rest))

    settled-find : (p : ℕ) (zone z : List Block) → change_run (has_free p) settle zone ≡ Some z → find t z ≡ find t zone
    settled-find p zone z e =
        change_run-some (has_free p) settle zone z (find t z ≡ find t zone) e
        (λ r is all fits new.
        ap (find t) new ∙ find-three t r.below (settle r.run) r.above
        ∙ ap (λ (o : Option Block). option_or (find t r.below) (option_or o (find t r.above)))
        (packed r.run (free_sum r.run) (none-end r.run all))
        ∙ sym (ap (find t) is ∙ find-three t r.below r.run r.above))

    -- what is below and above a place
    room-find : (p : ℕ) (zone : List Block) (s : Spot) → spot (is_room p) zone ≡ Some s
        → option_or (find t s.below) (find t s.above) ≡ find t zone
    room-find p zone s e =
        sym (ap (find t) (spot-is (is_room p) zone s e) ∙ find-append t s.below (s.here ∷ s.above)
        ∙ ap (option_or (find t s.below)) (cond-false (t s.here) _ _
        (find-room t never p s.here (spot-passes (is_room p) zone s e))))

    placed-find : (p : ℕ) (zone : List Block) (s : Spot) → place p zone ≡ Some s
        → option_or (find t s.below) (find t s.above) ≡ find t zone
    placed-find p zone s e =
        place-some p zone s (option_or (find t s.below) (find t s.above) ≡ find t zone) e
        (λ found. room-find p zone s found)
        (λ z changed found. room-find p (tidy z) s found ∙ find-tidy t never z ∙ settled-find p zone z changed)

-- The block that passes is another; those that pass another test stay.
module _ (test t sp : Block → Bool) (never : (n : ℕ) → t (Free n) ≡ false)
    (apart : (b : Block) → test b ≡ true → t b ≡ false) (spares : (b : Block) → t b ≡ true → sp b ≡ true) (new : Block)
    (is_new : test new ≡ true)
  where
    swapped : (zone above : List Block) (s : Spot) → spot test zone ≡ Some s → find t above ≡ find t s.above
        → find t (s.below ++ new ∷ above) ≡ find t zone
    swapped zone above s found same =
        find-append t s.below (new ∷ above) ∙ ap (option_or (find t s.below))
        (cond-false (t new) _ _ (apart new is_new) ∙ same ∙ sym
        (cond-false (t s.here) _ _ (apart s.here (spot-passes test zone s found))))
        ∙ sym (ap (find t) (spot-is test zone s found) ∙ find-append t s.below (s.here ∷ s.above))

    cut-other : (zone : List Block) (s : Spot) → spot test zone ≡ Some s → find t (filled new s) ≡ find t zone
    cut-other zone s found =
        find-tidy t never (s.below ++ new ∷ Free (size s.here - size new) ∷ s.above)
        ∙ swapped zone (Free (size s.here - size new) ∷ s.above) s found
        (cond-false (t (Free (size s.here - size new))) _ _ (never (size s.here - size new)))

    up-other : (zone z : List Block) (s : Spot) → spot test zone ≡ Some s → grow_up new s ≡ Some z
        → find t z ≡ find t zone
    up-other zone z s found e =
        map-some (λ above. s.below ++ new ∷ above) (taken (growth new s) s.above) z (find t z ≡ find t zone) e
        (λ above took is. ap (find t) (sym is) ∙ swapped zone above s found
        (taken-find t never (growth new s) s.above above took))

    still-other : (zone z : List Block) (s : Spot) → spot test zone ≡ Some s → grow_nonrelocatable sp new s ≡ Some z
        → find t z ≡ find t zone
    still-other zone z s found e = cases (or-some (grow_up new s) _ z e)
      where
        cases : (grow_up new s ≡ Some z) ⊎ (option_map (λ above. s.below ++ new ∷ above)
            (taken_low (growth new s) sp s.above) ≡ Some z) → find t z ≡ find t zone
        cases (inl e) = up-other zone z s found e
        cases (inr e) =
            map-some (λ above. s.below ++ new ∷ above) (taken_low (growth new s) sp s.above) z (find t z ≡ find t zone)
            e
            (λ above took is. ap (find t) (sym is) ∙ swapped zone above s found
            (taken_low-find t never sp spares (growth new s) s.above above took))

    freed-other : (bs : List Block) → find t (freed test bs) ≡ find t bs
    freed-other [] = refl
    freed-other (b ∷ bs) = cases (test b) refl (freed-other bs)
      where
        cases : (u : Bool) → test b ≡ u → find t (freed test bs) ≡ find t bs
            → find t (cond u (Free (size b)) b ∷ freed test bs) ≡ cond (t b) (Some b) (find t bs)
        cases true e more = cond-false (t (Free (size b))) _ _ (never (size b)) ∙ more
            ∙ sym (cond-false (t b) _ _ (apart b e))
        cases false e more = ap (cond (t b) (Some b)) more

    away-other : (zone z : List Block) → move_away test new zone ≡ Some z → find t z ≡ find t zone
    away-other zone z e =
        map-some (λ (s : Spot). filled new (record s { below = freed test s.below; above = freed test s.above }))
        (place (size new) zone) z (find t z ≡ find t zone) e
        (λ s found is.
        let left : ℕ = size s.here - size new in
        ap (find t) (sym is) ∙ find-tidy t never (freed test s.below ++ new ∷ Free left ∷ freed test s.above)
        ∙ find-append t (freed test s.below) (new ∷ Free left ∷ freed test s.above)
        ∙ ap (option_or (find t (freed test s.below))) (cond-false (t new) _ _ (apart new is_new)
        ∙ cond-false (t (Free left)) _ _ (never left))
        ∙ ap (λ (o : Option Block). option_or o (find t (freed test s.above))) (freed-other s.below)
        ∙ ap (option_or (find t s.below)) (freed-other s.above)
        ∙ placed-find t never (size new) zone s found)

    last-other : (zone z : List Block) (d : ℕ) → grow_last test new d zone ≡ Some z → find t z ≡ find t zone
    last-other zone z d e =
        change_run-some (λ run. has test run && has_free d run) (λ run. others test run
        ++ new ∷ free (free_sum run - d)) zone z (find t z ≡ find t zone) e
        (λ r is all passes new_zone.
        ap (find t) new_zone ∙ find-three t r.below (others test r.run ++ new ∷ free (free_sum r.run - d)) r.above
        ∙ ap (λ (o : Option Block). option_or (find t r.below) (option_or o (find t r.above)))
        (run-other r.run (free_sum r.run - d) (none-end r.run all))
        ∙ sym (ap (find t) is ∙ find-three t r.below r.run r.above))
      where
        lets : (b : Block) → t b ≡ true → ends b ≡ 0 → (is_mover b && not (test b)) ≡ true
        lets b e z = rw (
          mover t never b e z,
          false_from_ne_true (test b)
              (λ p. let f : true ≡ false = sym e ∙ apart b p in cc),
        ) refl

        run-other : (run : List Block) (n : ℕ) → total ends run ≤ 0
            → find t (others test run ++ new ∷ free n) ≡ find t run
        run-other run n none =
            find-append t (others test run) (new ∷ free n) ∙ ap (option_or (find t (others test run)))
            (cond-false (t new) _ _ (apart new is_new) ∙ find-free t never n)
            ∙ or-none (find t (others test run)) ∙ find-filter t never (λ b. is_mover b && not (test b)) lets run none

    moved-other : (zone z : List Block) → grow_mover test new zone ≡ Some z → find t z ≡ find t zone
    moved-other zone z e =
        option_and_then_some (λ s. option_or (grow_up new s) (option_or (move_away test new zone)
        (grow_last test new (growth new s) zone))) (spot test zone) z e
        (λ s found is. one s found (or-some (grow_up new s) _ z is))
      where
        two : (s : Spot) → (move_away test new zone ≡ Some z) ⊎ (grow_last test new (growth new s) zone ≡ Some z)
            → find t z ≡ find t zone
        two s (inl e) = away-other zone z e
        two s (inr e) = last-other zone z (growth new s) e

        one : (s : Spot) → spot test zone ≡ Some s → (grow_up new s ≡ Some z)
            ⊎ (option_or (move_away test new zone) (grow_last test new (growth new s) zone) ≡ Some z)
            → find t z ≡ find t zone
        one s found (inl e) = up-other zone z s found e
        one s found (inr e) = two s (or-some (move_away test new zone) _ z e)

-- The block that passes, where only one does.
module _ (test sp : Block → Bool) (never : (n : ℕ) → test (Free n) ≡ false) (new : Block) (is_new : test new ≡ true)
  where
    -- above blocks that don't pass
    past : (below above : List Block) → find test below ≡ None → find test (below ++ new ∷ above) ≡ Some new
    past below above none = find-append test below (new ∷ above)
        ∙ ap (λ (o : Option Block). option_or o (find test (new ∷ above))) none ∙ cond-true (test new) _ _ is_new

    cut-own : (zone : List Block) (s : Spot) → spot test zone ≡ Some s → find test (filled new s) ≡ Some new
    cut-own zone s found =
        find-tidy test never (s.below ++ new ∷ Free (size s.here - size new) ∷ s.above)
        ∙ past s.below (Free (size s.here - size new) ∷ s.above) (find-below test zone s found)

    up-own : (zone z : List Block) (s : Spot) → spot test zone ≡ Some s → grow_up new s ≡ Some z
        → find test z ≡ Some new
    up-own zone z s found e =
        map-some (λ above. s.below ++ new ∷ above) (taken (growth new s) s.above) z (find test z ≡ Some new) e
        (λ above took is. ap (find test) (sym is) ∙ past s.below above (find-below test zone s found))

    still-own : (zone z : List Block) (s : Spot) → spot test zone ≡ Some s → grow_nonrelocatable sp new s ≡ Some z
        → find test z ≡ Some new
    still-own zone z s found e = cases (or-some (grow_up new s) _ z e)
      where
        cases : (grow_up new s ≡ Some z) ⊎ (option_map (λ above. s.below ++ new ∷ above)
            (taken_low (growth new s) sp s.above) ≡ Some z) → find test z ≡ Some new
        cases (inl e) = up-own zone z s found e
        cases (inr e) =
            map-some (λ above. s.below ++ new ∷ above) (taken_low (growth new s) sp s.above) z (find test z ≡ Some new)
            e
            (λ above took is. ap (find test) (sym is) ∙ past s.below above (find-below test zone s found))

    away-own : (zone z : List Block) → move_away test new zone ≡ Some z → find test z ≡ Some new
    away-own zone z e =
        map-some (λ (s : Spot). filled new (record s { below = freed test s.below; above = freed test s.above }))
        (place (size new) zone) z (find test z ≡ Some new) e
        (λ s found is.
        let left : ℕ = size s.here - size new in
        ap (find test) (sym is) ∙ find-tidy test never (freed test s.below ++ new ∷ Free left ∷ freed test s.above)
        ∙ past (freed test s.below) (Free left ∷ freed test s.above)
        (find-none test (freed test s.below) (has-freed test never s.below)))

    last-own : (zone z : List Block) (d : ℕ) → count test zone ≤ 1 → grow_last test new d zone ≡ Some z
        → find test z ≡ Some new
    last-own zone z d once e =
        change_run-some (λ run. has test run && has_free d run) (λ run. others test run
        ++ new ∷ free (free_sum run - d)) zone z (find test z ≡ Some new) e
        (λ r is all passes new_zone.
        let inside = has-count test r.run (and_parts (has test r.run) (has_free d r.run) passes).0 in
        let counted = three (λ (b : Block). cond {A = ℕ} (test b) 1 0) (counts-free test never) r.below r.run r.above in
        let whole : count test zone ≡ count test (r.below ++ (r.run ++ r.above)) = ap (count test) is in
        let none : find test r.below ≡ None = find-none test r.below (none-count test r.below (omega arith)) in
        ap (find test) new_zone ∙ find-three test r.below (others test r.run ++ new ∷ free (free_sum r.run - d)) r.above
        ∙ ap (λ (o : Option Block). option_or o (option_or (find test
        (others test r.run ++ new ∷ free (free_sum r.run - d))) (find test r.above))) none
        ∙ ap (λ (o : Option Block). option_or o (find test r.above))
        (past (others test r.run) (free (free_sum r.run - d)) (find-none test (others test r.run)
        (has-others test r.run))))

    moved-own : (zone z : List Block) → count test zone ≤ 1 → grow_mover test new zone ≡ Some z → find test z ≡ Some new
    moved-own zone z once e =
        option_and_then_some (λ s. option_or (grow_up new s) (option_or (move_away test new zone)
        (grow_last test new (growth new s) zone))) (spot test zone) z e
        (λ s found is. one s found (or-some (grow_up new s) _ z is))
      where
        two : (s : Spot) → (move_away test new zone ≡ Some z) ⊎ (grow_last test new (growth new s) zone ≡ Some z)
            → find test z ≡ Some new
        two s (inl e) = away-own zone z e
        two s (inr e) = last-own zone z (growth new s) once e

        one : (s : Spot) → spot test zone ≡ Some s → (grow_up new s ≡ Some z)
            ⊎ (option_or (move_away test new zone) (grow_last test new (growth new s) zone) ≡ Some z)
            → find test z ≡ Some new
        one s found (inl e) = up-own zone z s found e
        one s found (inr e) = two s (or-some (move_away test new zone) _ z e)

-- a block has one name
other-name : (slot other : ℕ) → (other == slot) ≡ false → (b : Block) → is_relocatable slot b ≡ true
    → is_relocatable other b ≡ false
other-name slot other e (Free m) is = refl
other-name slot other e (Nonrelocatable id content) is = refl
other-name slot other e Masters is = refl
other-name slot other e (Relocatable id flags content) is =
    false_from_ne_true (id == other) (λ same.
    let a : id ≡ slot = (Decides-eqb id slot).0 is in
    let b : id ≡ other = (Decides-eqb id other).0 same in
    let f : (other == slot) ≡ true = (Decides-eqb other slot).1 (sym b ∙ a) in
    let z : true ≡ false = sym f ∙ e in cc)

module _ (slot n : ℕ) (sp : Block → Bool) (zone z : List Block) (grew : grow (is_relocatable slot) sp n zone ≡ Some z)
  where
    -- the block that grew has its new size
    pub own-grown : (s : Spot) → spot (is_relocatable slot) zone ≡ Some s → count (is_relocatable slot) zone ≤ 1
        → block_of slot z ≡ Some (resized n s.here)
    own-grown s found once =
        spot-find test z ∙ grow-some test sp n zone z (find test z ≡ Some (resized n s.here))
        (λ s' found' small is. ap (find test) is ∙ cut-own test sp (λ m. refl) (resized n s'.here) (passes s' found')
        zone s' found' ∙ ap Some (the s' found'))
        (λ s' k found' more mover e.
        let c = purged-le (λ (b : Block). cond {A = ℕ} (test b) 1 0) (counts-free test (λ m. refl)) k sp zone in
        moved-own test sp (λ m. refl) (resized n s'.here) (passes s' found') (purge k sp zone) z (omega arith) e
        ∙ ap Some (the s' found'))
        (λ s' found' more nonrelocatable e. still-own test sp (λ m. refl) (resized n s'.here) (passes s' found') zone z s' found'
        e ∙ ap Some (the s' found'))
        grew
      where
        test : Block → Bool
        test = is_relocatable slot

        passes : (s' : Spot) → spot test zone ≡ Some s' → test (resized n s'.here) ≡ true
        passes s' found' = is_relocatable-resized slot n s'.here ∙ spot-passes test zone s' found'

        the : (s' : Spot) → spot test zone ≡ Some s' → resized n s'.here ≡ resized n s.here
        the s' found' = ap (λ (x : Spot). resized n x.here) (same_Some _ _ (sym found' ∙ found))

    -- another that is spared stays
    pub other-grown : (other : ℕ) → (other == slot) ≡ false → ((b : Block) → is_relocatable other b ≡ true
        → sp b ≡ true) → block_of other z ≡ block_of other zone
    other-grown other differs spares =
        spot-find t z ∙ grow-some test sp n zone z (find t z ≡ find t zone)
        (λ s found small is. ap (find t) is ∙ cut-other test t sp (λ m. refl) apart spares (resized n s.here)
        (passes s found) zone s found)
        (λ s k found more mover e. moved-other test t sp (λ m. refl) apart spares (resized n s.here) (passes s found)
        (purge k sp zone) z e ∙ purged-find t (λ m. refl) sp spares k zone)
        (λ s found more nonrelocatable e. still-other test t sp (λ m. refl) apart spares (resized n s.here) (passes s found) zone
        z s found e)
        grew ∙ sym (spot-find t zone)
      where
        test : Block → Bool
        test = is_relocatable slot

        t : Block → Bool
        t = is_relocatable other

        apart : (b : Block) → test b ≡ true → t b ≡ false
        apart = other-name slot other differs

        passes : (s : Spot) → spot test zone ≡ Some s → test (resized n s.here) ≡ true
        passes s found = is_relocatable-resized slot n s.here ∙ spot-passes test zone s found
