use Rattle.moves.proofs.Cited.{◌≡◌, ℕ, ◌+◌, ◌≤◌, Bool, true, false, List, [], ◌∷◌, refl, sym, ◌∙◌, ap, subst, cond, arith, is_some, nat_le}
use Rattle.moves.proofs.Cited.{Option, Some, None, option_map, unwrap_or, option_and_then, cond-true, leb-true, leb-false, same_Some, Block}
use Rattle.moves.proofs.Cited.{Free, size, total, free_sum, count, is_mover, in_run, has_free, segments, Spot, spot, filled, purge}
use Rattle.moves.proofs.Cited.{may_be_purged, growth, grow_up, grow_mover, purged-le, counts-free, unless, unless-free, filled-is, moved-le}
use Rattle.moves.proofs.Cited.{whole, spot-is, spot-passes, total-append, mover-in, Move, Search, Purge, Grow, Extend, Push, Cut, is_same}
use Rattle.moves.proofs.Cited.{run_above, pushed, did, Sought, at_hand, sought, purges_for, seek, seek_resized}
use Rattle.moves.proofs.Paths.{Along, along-sought}
use Rattle.moves.proofs.Conserved.{AsNew, Weighs, PathWeighs, same-free, purged-is, gone-light, extended, pushes}
use Rattle.moves.proofs.Steady.{Stays, PathStays}

-- The path of a block that gets another size, to which the laws of paths apply.

module _ (new : Block) (spared : Block → Bool) (zone : List Block) (s : Spot)
  where
    abbrev test : Block → Bool
    test = is_same new

    abbrev pub in_place : ℕ
    in_place = purges_for (has_free (growth new s)) spared (segments s.above).first

    abbrev pub fewest : ℕ
    fewest = purges_for (λ z. is_some (grow_mover test new z)) spared zone

    abbrev enough : Bool
    enough = has_free (growth new s) (run_above in_place spared s)

    abbrev grows : Bool
    grows = is_some (grow_mover test new (purge fewest spared zone))

    -- what is said of each of its searches is said of it
    pub by_way : (P : Sought → Type 0)
        → (nat_le (size new) (size s.here) ≡ true → P (at_hand (Cut new ∷ [])))
        → ((t : Bool) → nat_le (size new) (size s.here) ≡ false → is_mover s.here ≡ true → grows ≡ t
        → P (sought fewest t (Purge fewest ∷ Grow new ∷ [])))
        → (nat_le (size new) (size s.here) ≡ false → is_some (grow_up new s) ≡ true
        → P (sought 0 true (Extend new ∷ [])))
        → ((t : Bool) → nat_le (size new) (size s.here) ≡ false → enough ≡ t
        → P (sought in_place t (Push new in_place ∷ [])))
        → P (seek_resized new spared zone s)
    by_way P cut grow extend push = cases (nat_le (size new) (size s.here)) refl (is_mover s.here) refl
        (is_some (grow_up new s)) refl
      where
        cases : (t : Bool) → nat_le (size new) (size s.here) ≡ t → (u : Bool) → is_mover s.here ≡ u → (v : Bool)
            → is_some (grow_up new s) ≡ v → P (cond t (at_hand (Cut new ∷ [])) (cond u (seek (Grow new) spared zone)
            (cond v (sought 0 true (Extend new ∷ [])) (sought in_place enough (Push new in_place ∷ [])))))
        cases true small u mover v up = cut small
        cases false small true mover v up = grow grows small mover refl
        cases false small false mover true up = extend small up
        cases false small false mover false up = push enough small refl

    -- a law of moves
    pub resized-along : (M : Move → List Block → Type 0) → ((n : ℕ) (z : List Block) → M (Search n) z)
        → ((k : ℕ) (z : List Block) → M (Purge k) z) → (nat_le (size new) (size s.here) ≡ true → M (Cut new) zone)
        → (nat_le (size new) (size s.here) ≡ false → is_mover s.here ≡ true → M (Grow new) (purge fewest spared zone))
        → (nat_le (size new) (size s.here) ≡ false → M (Extend new) zone)
        → (nat_le (size new) (size s.here) ≡ false → enough ≡ true → M (Push new in_place) zone)
        → Along M spared (seek_resized new spared zone s).path zone
    resized-along M searches purges cut grow extend push =
        by_way (λ r. Along M spared r.path zone) (λ small. (cut small, tt))
        (λ t small mover is. along-sought M spared searches purges fewest t (Purge fewest ∷ Grow new ∷ []) zone
        (λ found. (purges fewest zone, (grow small mover, tt))))
        (λ small up. (searches (0 + 1) zone, (extend small, tt)))
        (λ t small is. along-sought M spared searches purges in_place t (Push new in_place ∷ []) zone
        (λ found. (push small (is ∙ found), tt)))

    -- an unlocked block is the only one of its name, and no search purges it
    abbrev pub Alone : Type 0
    Alone = is_mover s.here ≡ true → (count test zone ≤ 1) × ((b : Block) → may_be_purged spared b ≡ true → test b ≡
        false)

    once-purged : (k : ℕ) → count test zone ≤ 1 → count test (purge k spared zone) ≤ 1
    once-purged k once = let p = purged-le (λ (b : Block). cond {A = ℕ} (test b) 1 0) (counts-free test (same-free new)) k
        spared zone in omega arith

    -- a block that no search purges is the same after some purges, by a measure
    same-purged : (of : Block → ℕ) (k : ℕ) → spot test zone ≡ Some s → count test zone ≤ 1
        → ((b : Block) → may_be_purged spared b ≡ true → test b ≡ false) → (s' : Spot)
        → spot test (purge k spared zone) ≡ Some s' → of s'.here ≡ of s.here
    same-purged of k found once kept s' found' =
        let none : (n : ℕ) → held (Free n) ≡ 0 = λ n. ap (λ t. cond {A = ℕ} t (of (Free n)) 0) (same-free new n) in
        let before = whole held none test zone s found once in
        let after = whole held none test (purge k spared zone) s' found' (once-purged k once) in
        let here : held s.here ≡ of s.here = cond-true (test s.here) _ _ (spot-passes test zone s found) in
        let there : held s'.here ≡ of s'.here =
        cond-true (test s'.here) _ _ (spot-passes test (purge k spared zone) s' found') in
        omega (
          arith,
          purged-is held none spared k zone,
          gone-light held none spared (λ b goes. ap (λ t. cond {A = ℕ} t (of b) 0) (kept b goes)) k zone,
          others zone,
          others (purge k spared zone),
        )
      where
        held : Block → ℕ
        held b = cond (test b) (of b) 0

        others : (bs : List Block) → total (unless test held) bs ≡ 0
        others [] = refl
        others (b ∷ bs) = let r = others bs in let o = one (test b) in omega arith
          where
            one : (t : Bool) → cond {A = ℕ} t 0 (cond {A = ℕ} t (of b) 0) ≡ 0
            one true = refl
            one false = refl

    -- by a measure
    pub resized-weighs : (of : Block → ℕ) → of s.here ≡ of new → spot test zone ≡ Some s → Alone
        → PathWeighs of spared (seek_resized new spared zone s).path zone
    resized-weighs of same found alone =
        resized-along (Weighs of) (λ n z. tt) (λ k z. tt) (λ small. here) (λ small mover. (
          once-purged fewest (alone mover).0,
          (λ s' found'. same-purged of fewest found (alone mover).0 (alone mover).1 s' found' ∙ same),
        )) (λ small. here) (λ small is. here)
      where
        here : AsNew of new zone
        here s' found' = ap (λ (t : Spot). of t.here) (same_Some _ _ (sym found' ∙ found)) ∙ same

    -- what is locked or never moves
    pub resized-stays : (seen : Block → Bool) (rigid : (b : Block) → in_run b ≡ true → seen b ≡ false)
        → seen s.here ≡ seen new → (is_mover s.here ≡ true → (b : Block) → test b ≡ true → seen b ≡ false)
        → spot test zone ≡ Some s → Alone → PathStays seen rigid spared (seek_resized new spared zone s).path zone
    resized-stays seen rigid same apart found alone =
        resized-along (Stays seen rigid spared) (λ n z. tt) (λ k z. tt)
        (λ small s' at. (
          seen_so s' at,
          (let l = leb-true (size new) (size s.here) small in
              let e = size_so s' at in omega arith),
        ))
        (λ small mover. (
          sym same ∙ rigid s.here (mover-in s.here mover),
          apart mover,
          once-purged fewest (alone mover).0,
          (λ s' at.
              let l = leb-false (size new) (size s.here) small in
              let n = same-purged size fewest found (alone mover).0 (alone mover).1 s' at in omega arith),
        ))
        (λ small s' at. (seen_so s' at, larger s' at small))
        (λ small is s' at. (
          seen_so s' at,
          larger s' at small,
          subst (λ (t : Spot). growth new t ≤ free_sum (run_above in_place spared t)) (same_Some _ _ (sym found ∙ at))
              (leb-true (growth new s) (free_sum (run_above in_place spared s)) is),
        ))
      where
        seen_so : (s' : Spot) → spot test zone ≡ Some s' → seen s'.here ≡ seen new
        seen_so s' at = ap (λ (t : Spot). seen t.here) (same_Some _ _ (sym at ∙ found)) ∙ same

        size_so : (s' : Spot) → spot test zone ≡ Some s' → size s'.here ≡ size s.here
        size_so s' at = ap (λ (t : Spot). size t.here) (same_Some _ _ (sym at ∙ found))

        larger : (s' : Spot) → spot test zone ≡ Some s' → nat_le (size new) (size s.here) ≡ false
            → size s'.here ≤ size new
        larger s' at small = let e = size_so s' at in let l = leb-false (size new) (size s.here) small in omega arith

    -- the block at its new size is all that may be more than the others
    pub resized-new : (of : Block → ℕ) → ((n : ℕ) → of (Free n) ≡ 0) → spot test zone ≡ Some s → count test zone ≤ 1
        → (seek_resized new spared zone s).found ≡ true
        → total of (did spared (seek_resized new spared zone s).path zone).zone ≤ of new + total (unless test of) zone
    resized-new of none found once = by_way (λ r. r.found ≡ true
        → total of (did spared r.path zone).zone ≤ of new + total (unless test of) zone)
        (λ small there. at-hand) (λ t small mover is. moves t is) (λ small up there. extends (grow_up new s) refl up)
        (λ t small is. in-place t)
      where
        all : total of zone ≡ of s.here + total (unless test of) zone
        all = whole of none test zone s found once

        at-hand : total of (unwrap_or (option_map (filled new) (spot test zone)) zone)
            ≤ of new + total (unless test of) zone
        at-hand = omega (
          arith,
          all,
          ap (λ (o : Option Spot). total of (unwrap_or (option_map (filled new) o) zone)) found,
          filled-is of none new s,
          ap (total of) (spot-is test zone s found),
          total-append of s.below (s.here ∷ s.above),
        )

        ready : List Block
        ready = purge fewest spared zone

        moves : (t : Bool) → grows ≡ t → t ≡ true
            → total of (did spared (sought fewest t (Purge fewest ∷ Grow new ∷ [])).path zone).zone
            ≤ of new + total (unless test of) zone
        moves false is there = let f : false ≡ true = there in cc
        moves true is there = cases (grow_mover test new ready) refl is
          where
            cases : (o : Option (List Block)) → grow_mover test new ready ≡ o → is_some o ≡ true
                → total of (unwrap_or o ready) ≤ of new + total (unless test of) zone
            cases None e some = let f : false ≡ true = some in cc
            cases (Some z) e some =
                let m = moved-le of none test (same-free new) ready z new (once-purged fewest once) e in
                let p = purged-le (unless test of) (unless-free test of none) fewest spared zone in
                omega arith

        extends : (o : Option (List Block)) → grow_up new s ≡ o → is_some o ≡ true
            → total of (unwrap_or (option_and_then (grow_up new) (spot test zone)) zone)
            ≤ of new + total (unless test of) zone
        extends None e up = let f : false ≡ true = up in cc
        extends (Some z) e up = omega (
          arith,
          all,
          ap (λ (o : Option Spot). total of (unwrap_or (option_and_then (grow_up new) o) zone)) found,
          ap (λ (o : Option (List Block)). total of (unwrap_or o zone)) e,
          extended of none spared new zone z s found e,
        )

        in-place : (t : Bool) → t ≡ true
            → total of (did spared (sought in_place t (Push new in_place ∷ [])).path zone).zone
            ≤ of new + total (unless test of) zone
        in-place false there = let f : false ≡ true = there in cc
        in-place true there = omega (
          arith,
          all,
          ap (λ (o : Option Spot). total of (unwrap_or (option_map (pushed in_place spared new) o) zone)) found,
          pushes of none spared in_place new zone s found,
        )
