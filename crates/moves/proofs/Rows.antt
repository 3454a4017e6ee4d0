use Rattle.moves.proofs.Cited.{◌≡◌, ℕ, ◌+◌, ◌≤◌, Bool, true, false, List, [], ◌∷◌, ◌++◌, append-nil, refl, sym, ◌∙◌, ap, subst, cond, arith}
use Rattle.moves.proofs.Cited.{is_some, nat_le, Option, Some, None, unwrap_or, phys, Block, Free, size, total, count, is_mover}
use Rattle.moves.proofs.Cited.{is_relocatable, resized, has_free, segments, Spot, spot, filled, place, put_in_place, purge, count_of}
use Rattle.moves.proofs.Cited.{growth, grow_up, freed, beyond, least_or_last-le, spot-is, total-append, joined-segments, joined-is, unless}
use Rattle.moves.proofs.Cited.{filled-is, freed-is, map-some, Move, Search, Purge, Put, Grow, Extend, Push, Cut, Drop, is_same, moved}
use Rattle.moves.proofs.Cited.{run_above, lowest_gone, gone_above, gone_by, did, Sought, no_room, at_hand, sought, purges_for, seek}
use Rattle.moves.proofs.Cited.{seek_resized, seek_size, around}
use Rattle.moves.proofs.Paths.{Along, along-if, along-seek}
use Rattle.moves.proofs.Conserved.{Weighs, PathWeighs, PutsNone, put_by, put_on, purged-is, keeps}
use Rattle.moves.proofs.Resized.{Alone, fewest, in_place, by_way, resized-along, resized-weighs, resized-new}
use Rattle.moves.proofs.Renamed.{Apart, PathNames}

-- The paths of whole calls, to which the laws of paths apply.

module _ (of : Block → ℕ) (spared : Block → Bool)
  where
    -- SetHandleSize and SetPtrSize
    pub size-weighs : (n : ℕ) (zone : List Block) (s : Spot) → of s.here ≡ of (resized n s.here)
        → spot (is_same (resized n s.here)) zone ≡ Some s → Alone (resized n s.here) spared zone s
        → PathWeighs of spared (seek_size n spared zone s).path zone
    size-weighs n zone s same found alone = along-if (Weighs of) spared (is_some (phys n))
        (seek_resized (resized n s.here) spared zone s) zone
        (resized-weighs (resized n s.here) spared zone s of same found alone)

    pub size-puts : (n : ℕ) (zone : List Block) (s : Spot)
        → Along (PutsNone of) spared (seek_size n spared zone s).path zone
    size-puts n zone s = along-if (PutsNone of) spared (is_some (phys n))
        (seek_resized (resized n s.here) spared zone s) zone
        (resized-along (resized n s.here) spared zone s (PutsNone of) (λ n z. refl) (λ k z. refl) (λ small. refl)
        (λ small mover. refl) (λ small. refl) (λ small is. refl))

    -- where room was found, the block with n bytes is all that may be more than the others
    pub size-new : ((k : ℕ) → of (Free k) ≡ 0) → (n : ℕ) (zone : List Block) (s : Spot) (test : Block → Bool)
        → is_same (resized n s.here) ≡ test → spot test zone ≡ Some s → count test zone ≤ 1
        → (seek_size n spared zone s).found ≡ true
        → total of (did spared (seek_size n spared zone s).path zone).zone
        ≤ of (resized n s.here) + total (unless test of) zone
    size-new none n zone s test same found once = cases (is_some (phys n))
      where
        new : Block
        new = resized n s.here

        sized : (seek_resized new spared zone s).found ≡ true
            → total of (did spared (seek_resized new spared zone s).path zone).zone
            ≤ of new + total (unless test of) zone
        sized there = subst (λ (t : Block → Bool). total of (did spared (seek_resized new spared zone s).path zone).zone
            ≤ of new + total (unless t of) zone) same
            (resized-new new spared zone s of none (ap (λ (t : Block → Bool). spot t zone) same ∙ found)
            (subst (λ (t : Block → Bool). count t zone ≤ 1) (sym same) once) there)

        cases : (t : Bool) → (cond t (seek_resized new spared zone s) no_room).found ≡ true
            → total of (did spared (cond t (seek_resized new spared zone s) no_room).path zone).zone
            ≤ of new + total (unless test of) zone
        cases true there = sized there
        cases false there = let f : false ≡ true = there in cc

    -- what a search for the place of a block leaves: that block is all that is more
    pub seek-more : ((k : ℕ) → of (Free k) ≡ 0) → (m : Move) → ((z : List Block) → Weighs of m z) → (zone : List Block)
        → total of (did spared (seek m spared zone).path zone).zone ≤ put_by of m + total of zone
    seek-more none m weighs zone = omega (
      arith,
      keeps of none spared (seek m spared zone).path zone
          (along-seek (Weighs of) spared (λ n z. tt) (λ k z. tt) m weighs zone),
      puts (is_some (moved spared m (purge k spared zone))),
    )
      where
        k : ℕ
        k = purges_for (λ z. is_some (moved spared m z)) spared zone

        puts : (t : Bool) → put_on of (sought k t (Purge k ∷ m ∷ [])).path ≤ put_by of m
        puts true = omega arith
        puts false = omega arith

    -- where room was found, the block is there
    pub put-there : ((k : ℕ) → of (Free k) ≡ 0) → (new : Block) (zone : List Block)
        → (seek (Put new) spared zone).found ≡ true
        → of new ≤ total of (did spared (seek (Put new) spared zone).path zone).zone
    put-there none new zone found = cases (put_in_place new ready) refl found
      where
        k : ℕ
        k = purges_for (λ z. is_some (moved spared (Put new) z)) spared zone

        ready : List Block
        ready = purge k spared zone

        cases : (o : Option (List Block)) → put_in_place new ready ≡ o → is_some o ≡ true
            → of new ≤ total of (did spared (sought k (is_some o) (Purge k ∷ Put new ∷ [])).path zone).zone
        cases None is found = let f : false ≡ true = found in cc
        cases (Some z) is found =
            map-some (filled new) (place (size new) ready) z (of new ≤ total of (unwrap_or (put_in_place new ready)
            ready))
            is (λ s there e. omega (
              arith,
              ap (λ (o : Option (List Block)). total of (unwrap_or o ready)) is,
              ap (total of) e,
              filled-is of none new s,
            ))

    pub if-more : ((k : ℕ) → of (Free k) ≡ 0) → (t : Bool) (m : Move) → ((z : List Block) → Weighs of m z)
        → (zone : List Block)
        → total of (did spared (cond t (seek m spared zone) no_room).path zone).zone ≤ put_by of m + total of zone
    if-more none true m weighs zone = seek-more none m weighs zone
    if-more none false m weighs zone = omega arith

    pub again-more : ((k : ℕ) → of (Free k) ≡ 0) → (t : Bool) (h : ℕ) (new : Block) (zone : List Block)
        → (around (Drop h ∷ []) [] (cond t (seek (Put new) spared (freed (is_relocatable h) zone)) no_room)).found ≡
        true
        → total of (did spared (around (Drop h ∷ []) []
        (cond t (seek (Put new) spared (freed (is_relocatable h) zone)) no_room)).path zone).zone
        ≤ of new + total (unless (is_relocatable h) of) zone
    again-more none false h new zone there = let f : false ≡ true = there in cc
    again-more none true h new zone there =
        let left = freed (is_relocatable h) zone in
        cases (seek (Put new) spared left) (seek-more none (Put new) (λ z. tt) left) there
      where
        cases : (r : Sought) → total of (did spared r.path (freed (is_relocatable h) zone)).zone
            ≤ of new + total of (freed (is_relocatable h) zone) → r.found ≡ true
            → total of (did spared (around (Drop h ∷ []) [] r).path zone).zone
            ≤ of new + total (unless (is_relocatable h) of) zone
        cases r le found = omega (
          arith,
          le,
          freed-is of none (is_relocatable h) zone,
          ap (λ (t : Bool). total of (did spared (cond t (Drop h ∷ r.path ++ []) r.path) zone).zone) found,
          ap (λ (path : List Move). total of (did spared path (freed (is_relocatable h) zone)).zone) (append-nil
              r.path),
        )

    -- what goes comes to no more than there was
    lowest-most : ((k : ℕ) → of (Free k) ≡ 0) → (k : ℕ) (bs : List Block)
        → total of (lowest_gone k spared bs) ≤ total of bs
    lowest-most none k bs = omega (arith, purged-is of none spared k bs)

    sought-most : ((k : ℕ) → of (Free k) ≡ 0) → (k : ℕ) (t : Bool) (m : Move)
        → ((z : List Block) → gone_by spared m z ≡ []) → (zone : List Block)
        → total of (did spared (sought k t (Purge k ∷ m ∷ [])).path zone).gone ≤ total of zone
    sought-most none k true m quiet zone = omega (
      arith,
      lowest-most none k zone,
      total-append of (lowest_gone k spared zone) (gone_by spared m (purge k spared zone) ++ []),
      ap (λ (l : List Block). total of (l ++ [])) (quiet (purge k spared zone)),
    )
    sought-most none k false m quiet zone = omega arith

    pub seek-most : ((k : ℕ) → of (Free k) ≡ 0) → (m : Move) → ((z : List Block) → gone_by spared m z ≡ [])
        → (zone : List Block) → total of (did spared (seek m spared zone).path zone).gone ≤ total of zone
    seek-most none m quiet zone =
        let k = purges_for (λ z. is_some (moved spared m z)) spared zone in
        sought-most none k (is_some (moved spared m (purge k spared zone))) m quiet zone

    pub if-most : ((k : ℕ) → of (Free k) ≡ 0) → (t : Bool) (m : Move) → ((z : List Block) → gone_by spared m z ≡ [])
        → (zone : List Block)
        → total of (did spared (cond t (seek m spared zone) no_room).path zone).gone ≤ total of zone
    if-most none true m quiet zone = seek-most none m quiet zone
    if-most none false m quiet zone = omega arith

    pub size-most : ((k : ℕ) → of (Free k) ≡ 0) → (n : ℕ) (zone : List Block) (s : Spot)
        → total of (did spared (seek_size n spared zone s).path zone).gone ≤ total of zone
    size-most none n zone s = cases (is_some (phys n))
      where
        new : Block
        new = resized n s.here

        above : (k : ℕ) (o : Option Spot) → spot (is_same new) zone ≡ o
            → total of (gone_above k spared o ++ []) ≤ total of zone
        above k None found = omega arith
        above k (Some s') found =
            let parts = segments s'.above in
            omega (
              arith,
              lowest-most none k parts.first,
              total-append of (lowest_gone k spared parts.first) [],
              total-append of parts.first (beyond parts.rest),
              ap (total of) (joined-segments s'.above),
              ap (total of) (joined-is parts.first parts.rest),
              total-append of s'.below (s'.here ∷ s'.above),
              ap (total of) (spot-is (is_same new) zone s' found),
            )

        pushed : (k : ℕ) (t : Bool) → total of (did spared (sought k t (Push new k ∷ [])).path zone).gone ≤ total of
            zone
        pushed k true = above k (spot (is_same new) zone) refl
        pushed k false = omega arith

        sized : total of (did spared (seek_resized new spared zone s).path zone).gone ≤ total of zone
        sized = by_way new spared zone s (λ r. total of (did spared r.path zone).gone ≤ total of zone)
            (λ small. omega arith) (λ t small mover is. sought-most none (fewest new spared zone s) t (Grow new)
            (λ z. refl) zone) (λ small up. omega arith) (λ t small is. pushed (in_place new spared zone s) t)

        cases : (t : Bool)
            → total of (did spared (cond t (seek_resized new spared zone s) no_room).path zone).gone ≤ total of zone
        cases true = sized
        cases false = omega arith

    pub again-most : ((k : ℕ) → of (Free k) ≡ 0) → (t : Bool) (h : ℕ) (new : Block) (zone : List Block)
        → total of (did spared (around (Drop h ∷ []) []
        (cond t (seek (Put new) spared (freed (is_relocatable h) zone)) no_room)).path zone).gone
        ≤ total of (freed (is_relocatable h) zone)
    again-most none false h new zone = omega arith
    again-most none true h new zone = cases (is_some (moved spared (Put new) (purge k spared left)))
      where
        left : List Block
        left = freed (is_relocatable h) zone

        k : ℕ
        k = purges_for (λ z. is_some (moved spared (Put new) z)) spared left

        cases : (t : Bool) → total of (did spared (around (Drop h ∷ []) []
            (sought k t (Purge k ∷ Put new ∷ []))).path zone).gone ≤ total of left
        cases true = sought-most none k true (Put new) (λ z. refl) left
        cases false = omega arith

-- ReallocateHandle: the old block is freed, and a new one put
module _ (M : Move → List Block → Type 0) (spared : Block → Bool) (searches : (n : ℕ) (z : List Block) → M (Search n) z)
    (purges : (k : ℕ) (z : List Block) → M (Purge k) z)
  where
    pub again-along : (t : Bool) (h : ℕ) (new : Block) (zone : List Block) → M (Drop h) zone
        → ((z : List Block) → M (Put new) z) → Along M spared
        (around (Drop h ∷ []) [] (cond t (seek (Put new) spared (freed (is_relocatable h) zone)) no_room)).path zone
    again-along false h new zone drops puts = tt
    again-along true h new zone drops puts = cases (is_some (moved spared (Put new) (purge k spared left)))
      where
        left : List Block
        left = freed (is_relocatable h) zone

        k : ℕ
        k = purges_for (λ z. is_some (moved spared (Put new) z)) spared left

        cases : (t : Bool) → Along M spared (around (Drop h ∷ []) [] (sought k t (Purge k ∷ Put new ∷ []))).path zone
        cases true = (drops, (searches (k + 1) left, (purges k left, (puts (purge k spared left), tt))))
        cases false = (searches (k + 1) zone, tt)

-- how many searches: at most one more than there are blocks to purge
module _ (spared : Block → Bool)
  where
    sought-few : (k most : ℕ) (t : Bool) (taking : List Move) (zone : List Block) → k ≤ most
        → ((z : List Block) → (did spared taking z).searches ≡ 0)
        → (did spared (sought k t taking).path zone).searches ≤ most + 1
    sought-few k most true taking zone le quiet = let q = quiet zone in omega arith
    sought-few k most false taking zone le quiet = omega arith

    pub seek-few : (m : Move) → ((z : List Block) → (did spared (m ∷ []) z).searches ≡ 0) → (zone : List Block)
        → (did spared (seek m spared zone).path zone).searches ≤ count_of spared zone + 1
    seek-few m quiet zone =
        let k = purges_for (λ z. is_some (moved spared m z)) spared zone in
        sought-few k (count_of spared zone) (is_some (moved spared m (purge k spared zone))) (Purge k ∷ m ∷ []) zone
        (least_or_last-le (λ j. is_some (moved spared m (purge j spared zone))) (count_of spared zone))
        (λ z. let q = quiet (purge k spared z) in omega arith)

    pub resized-few : (new : Block) (zone : List Block) (s : Spot)
        → count_of spared (segments s.above).first ≤ count_of spared zone
        → (did spared (seek_resized new spared zone s).path zone).searches ≤ count_of spared zone + 1
    resized-few new zone s within = cases (nat_le (size new) (size s.here)) (is_mover s.here) (is_some (grow_up new s))
      where
        k : ℕ
        k = purges_for (has_free (growth new s)) spared (segments s.above).first

        fewer : k ≤ count_of spared zone
        fewer = let l = least_or_last-le (λ j. has_free (growth new s) (purge j spared (segments s.above).first))
            (count_of spared (segments s.above).first) in omega arith

        cases : (t u v : Bool) → (did spared (cond t (at_hand (Cut new ∷ [])) (cond u (seek (Grow new) spared zone)
            (cond v (sought 0 true (Extend new ∷ [])) (sought k (has_free (growth new s) (run_above k spared s))
            (Push new k ∷ []))))).path zone).searches ≤ count_of spared zone + 1
        cases true u v = omega arith
        cases false true v = seek-few (Grow new) (λ z. refl) zone
        cases false false true = omega arith
        cases false false false = sought-few k (count_of spared zone) (has_free (growth new s) (run_above k spared s))
            (Push new k ∷ []) zone fewer (λ z. refl)

-- the block that a path names is told apart from others under other names
module _ (f g : ℕ → ℕ)
  where
    pub resized-names : (new : Block) (spared : Block → Bool) (zone : List Block) (s : Spot) → Apart f g new
        → PathNames f g (seek_resized new spared zone s).path
    resized-names new spared zone s same =
        by_way new spared zone s (λ r. PathNames f g r.path) (λ small. (same, tt)) (λ t small mover is. grown t)
        (λ small up. (tt, (same, tt))) (λ t small is. pushed t)
      where
        k : ℕ
        k = purges_for (λ z. is_some (moved spared (Grow new) z)) spared zone

        j : ℕ
        j = purges_for (has_free (growth new s)) spared (segments s.above).first

        grown : (t : Bool) → PathNames f g (sought k t (Purge k ∷ Grow new ∷ [])).path
        grown true = (tt, (tt, (same, tt)))
        grown false = (tt, tt)

        pushed : (t : Bool) → PathNames f g (sought j t (Push new j ∷ [])).path
        pushed true = (tt, (same, tt))
        pushed false = (tt, tt)
