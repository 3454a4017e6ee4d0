use Rattle.moves.proofs.Cited.{◌≡◌, ℕ, ◌+◌, ◌-◌, ◌≤◌, zero, suc, Bool, true, false, List, [], ◌∷◌, ◌++◌, refl, ap, cond, arith, Option}
use Rattle.moves.proofs.Cited.{Some, None, option_map, option_or, unwrap_or, option_and_then, option_and_then_some, written, Block, Free}
use Rattle.moves.proofs.Cited.{Nonrelocatable, Masters, Relocatable, size, total, count, free, free_sum, is_relocatable, content_of}
use Rattle.moves.proofs.Cited.{with_content, in_run, has_free, segments, joined, movers, Spot, spot, filled, may_be_purged, lowest_purged}
use Rattle.moves.proofs.Cited.{purge, put_in_place, put_at_base, growth, taken, grow_up, move_away, grow_last, grow_mover, freed, beyond}
use Rattle.moves.proofs.Cited.{OneRun, one-run, tidied, freely, purged-le, filled-is, freed-is, put-le, based-le, taken-le, moved-le}
use Rattle.moves.proofs.Cited.{unless, unless-le, movers-all, put-all, based-all, taken-all, moved-all, whole, spot-is, spot-passes}
use Rattle.moves.proofs.Cited.{total-append, total-le, map-some, joined-segments, joined-is, segments-loose, Move, Search, Purge, Put, Base}
use Rattle.moves.proofs.Cited.{Grow, Extend, Push, Cut, Drop, Write, is_same, pushed, run_above, rewritten, lowest_gone, gone_above, one}
use Rattle.moves.proofs.Cited.{did}
use Rattle.moves.proofs.Paths.{Along}

-- What a path leaves and what it purges come to what there was and what it puts, by any measure that sees no Free block.

-- what the blocks come to that a path puts
abbrev pub put_by : (Block → ℕ) → Move → ℕ
put_by of (Put new) = of new
put_by of (Base new) = of new
put_by of move = 0

abbrev pub put_on : (Block → ℕ) → List Move → ℕ
put_on of [] = 0
put_on of (m ∷ path) = put_by of m + put_on of path

-- a path that puts nothing that the measure sees
abbrev pub PutsNone : (Block → ℕ) → Move → List Block → Type 0
PutsNone of m zone = put_by of m ≡ 0

pub puts-none : (of : Block → ℕ) (spared : Block → Bool) (path : List Move) (zone : List Block)
    → Along (PutsNone of) spared path zone → put_on of path ≡ 0
puts-none of spared [] zone all = refl
puts-none of spared (m ∷ path) zone all =
    omega (arith, all.0, puts-none of spared path (one spared m zone).zone all.1)

-- a block comes to as much at its new size
abbrev pub AsNew : (Block → ℕ) → Block → List Block → Type 0
AsNew of new zone = (s : Spot) → spot (is_same new) zone ≡ Some s → of s.here ≡ of new

-- what a measure must know of a move in a zone
abbrev pub Weighs : (Block → ℕ) → Move → List Block → Type 0
Weighs of (Grow new) zone = (count (is_same new) zone ≤ 1) × AsNew of new zone
Weighs of (Extend new) zone = AsNew of new zone
Weighs of (Push new k) zone = AsNew of new zone
Weighs of (Cut new) zone = AsNew of new zone
Weighs of (Drop h) zone = (b : Block) → is_relocatable h b ≡ true → of b ≡ 0
Weighs of (Write h i x) zone = (b : Block) (y : List ℕ) → is_relocatable h b ≡ true → of (with_content y b) ≡ of b
Weighs of move zone = Unit {0}

abbrev pub PathWeighs : (Block → ℕ) → (Block → Bool) → List Move → List Block → Type 0
PathWeighs of spared path zone = Along (Weighs of) spared path zone

-- no Free block has a name
pub same-free : (new : Block) (n : ℕ) → is_same new (Free n) ≡ false
same-free (Free m) n = refl
same-free (Nonrelocatable id content) n = refl
same-free Masters n = refl
same-free (Relocatable id flags content) n = refl

-- no less, and no more than what is put
abbrev pub Keeps : ℕ → ℕ → ℕ → ℕ → Type 0
Keeps put before after gone = (before ≤ after + gone) × (after + gone ≤ put + before)

module _ (of : Block → ℕ) (none : (n : ℕ) → of (Free n) ≡ 0) (spared : Block → Bool)
  where
    lowest-is : (k : ℕ) (bs : List Block)
        → total of (lowest_purged k spared bs) + total of (lowest_gone k spared bs) ≡ total of bs
    lowest-is zero bs = omega arith
    lowest-is (suc k) [] = refl
    lowest-is (suc k) (b ∷ bs) = cases (may_be_purged spared b) (lowest-is k bs) (lowest-is (suc k) bs)
      where
        cases : (t : Bool) → total of (lowest_purged k spared bs) + total of (lowest_gone k spared bs) ≡ total of bs
            → total of (lowest_purged (suc k) spared bs) + total of (lowest_gone (suc k) spared bs) ≡ total of bs
            → total of (cond t (Free (size b) ∷ lowest_purged k spared bs) (b ∷ lowest_purged (suc k) spared bs))
            + total of (cond t (b ∷ lowest_gone k spared bs) (lowest_gone (suc k) spared bs)) ≡ of b + total of bs
        cases true r r' = omega (arith, none (size b))
        cases false r r' = omega arith

    pub purged-is : (k : ℕ) (bs : List Block) → total of (purge k spared bs) + total of (lowest_gone k spared bs) ≡ total of bs
    purged-is k bs = let l = lowest-is k bs in omega (arith, tidied of none (lowest_purged k spared bs))

    -- a move that purges nothing, by what it leaves
    kept : (put : ℕ) (o : Option (List Block)) (zone : List Block)
        → ((z : List Block) → o ≡ Some z → Keeps put (total of zone) (total of z) 0)
        → Keeps put (total of zone) (total of (unwrap_or o zone)) 0
    kept put None zone each = (omega arith, omega arith)
    kept put (Some z) zone each = each z refl

    -- a block at a spot, and another one there
    at-spot : (test : Block → Bool) (zone : List Block) (s : Spot) → spot test zone ≡ Some s
        → total of zone ≡ of s.here + (total of s.below + total of s.above)
    at-spot test zone s found =
        omega (arith, ap (total of) (spot-is test zone s found), total-append of s.below (s.here ∷ s.above))

    grown : (new : Block) (zone z : List Block) → Weighs of (Grow new) zone → grow_mover (is_same new) new zone ≡ Some z
        → total of z ≡ total of zone
    grown new zone z w e =
        option_and_then_some (λ s. option_or (grow_up new s) (option_or (move_away (is_same new) new zone)
        (grow_last (is_same new) new (growth new s) zone))) (spot (is_same new) zone) z e
        (λ s found is.
        let all = whole of none (is_same new) zone s found w.0 in
        let same = w.1 s found in
        let le = moved-le of none (is_same new) (same-free new) zone z new w.0 e in
        let ge = moved-all of none (is_same new) zone z new e in
        omega arith)

    -- a block that grows where it stands, and the run above it
    pub extended : (new : Block) (zone z : List Block) (s : Spot) → spot (is_same new) zone ≡ Some s
        → grow_up new s ≡ Some z → total of z + of s.here ≡ total of zone + of new
    extended new zone z s found up =
        map-some (λ above. s.below ++ new ∷ above) (taken (growth new s) s.above) z
        (total of z + of s.here ≡ total of zone + of new) up
        (λ above took is.
        let le = taken-le of none (growth new s) s.above above took in
        let ge = taken-all of none (growth new s) s.above above took in
        omega (
          arith,
          at-spot (is_same new) zone s found,
          ap (total of) is,
          total-append of s.below (new ∷ above),
        ))

    pub pushes : (k : ℕ) (new : Block) (zone : List Block) (s : Spot) → spot (is_same new) zone ≡ Some s
        → total of (pushed k spared new s) + total of (lowest_gone k spared (segments s.above).first) + of s.here
        ≡ total of zone + of new
    pushes k new zone s found =
        let parts = segments s.above in
        let left = run_above k spared s in
        let room = free_sum left - growth new s in
        let one : OneRun parts.first = one-run parts.first (segments-loose s.above).0 in
        let one_left : OneRun left = (let p = purged-le (λ (b : Block). cond {A = ℕ} (in_run b) 0 1) (λ n. refl) k spared
        parts.first in omega arith) in
        omega (
          arith,
          at-spot (is_same new) zone s found,
          ap (total of) (joined-segments s.above),
          ap (total of) (joined-is parts.first parts.rest),
          total-append of parts.first (beyond parts.rest),
          total-append of s.below (new ∷ joined (movers left ++ free room) parts.rest),
          ap (total of) (joined-is (movers left ++ free room) parts.rest),
          total-append of (movers left ++ free room) (beyond parts.rest),
          total-append of (movers left) (free room),
          freely of none room,
          movers-all of none left one_left,
          purged-is k parts.first,
        )

    dropped : (h : ℕ) → ((b : Block) → is_relocatable h b ≡ true → of b ≡ 0) → (zone : List Block)
        → total of (freed (is_relocatable h) zone) ≡ total of zone
    dropped h light zone =
        let le = unless-le (is_relocatable h) of zone in
        let ge = total-le of (unless (is_relocatable h) of) (λ b. each b (is_relocatable h b) (light b)) zone in
        omega (arith, freed-is of none (is_relocatable h) zone)
      where
        each : (b : Block) (t : Bool) → (t ≡ true → of b ≡ 0) → of b ≤ cond t 0 (of b)
        each b true light = let e = light refl in omega arith
        each b false light = omega arith

    one-keeps : (m : Move) (zone : List Block) → Weighs of m zone → Keeps (put_by of m) (total of zone)
        (total of (one spared m zone).zone) (total of (one spared m zone).gone)
    one-keeps (Search n) zone w = (omega arith, omega arith)
    one-keeps (Purge k) zone w = let p = purged-is k zone in (omega arith, omega arith)
    one-keeps (Put new) zone w = kept (of new) (put_in_place new zone) zone (λ z e.
        let le = put-le of none new zone z e in let ge = put-all of none new zone z e in (omega arith, omega arith))
    one-keeps (Base new) zone w = kept (of new) (put_at_base new zone) zone (λ z e.
        let le = based-le of none new (has_free (size new)) zone z e in
        let ge = based-all of none new (has_free (size new)) zone z e in (omega arith, omega arith))
    one-keeps (Grow new) zone w = kept 0 (grow_mover (is_same new) new zone) zone
        (λ z e. let g = grown new zone z w e in (omega arith, omega arith))
    one-keeps (Extend new) zone w = kept 0 (option_and_then (grow_up new) (spot (is_same new) zone)) zone
        (λ z e. option_and_then_some (grow_up new) (spot (is_same new) zone) z e
        (λ s found up. let g = extended new zone z s found up in let same = w s found in (omega arith, omega arith)))
    one-keeps (Push new k) zone w = cases (spot (is_same new) zone) refl
      where
        cases : (o : Option Spot) → spot (is_same new) zone ≡ o → Keeps 0 (total of zone)
            (total of (unwrap_or (option_map (pushed k spared new) o) zone)) (total of (gone_above k spared o))
        cases None found = (omega arith, omega arith)
        cases (Some s) found = let p = pushes k new zone s found in let same = w s found in (omega arith, omega arith)
    one-keeps (Cut new) zone w = cases (spot (is_same new) zone) refl
      where
        cases : (o : Option Spot) → spot (is_same new) zone ≡ o → Keeps 0 (total of zone)
            (total of (unwrap_or (option_map (filled new) o) zone)) 0
        cases None found = (omega arith, omega arith)
        cases (Some s) found =
            let all = at-spot (is_same new) zone s found in
            let same = w s found in
            let now = filled-is of none new s in
            (omega arith, omega arith)
    one-keeps (Drop h) zone w = let d = dropped h w zone in (omega arith, omega arith)
    one-keeps (Write h i x) zone w = cases (spot (is_relocatable h) zone) refl
      where
        cases : (o : Option Spot) → spot (is_relocatable h) zone ≡ o → Keeps 0 (total of zone)
            (total of (unwrap_or (option_map (rewritten i x) o) zone)) 0
        cases None found = (omega arith, omega arith)
        cases (Some s) found =
            let bytes = written i x (content_of s.here) in
            let all = at-spot (is_relocatable h) zone s found in
            let same = w s.here bytes (spot-passes (is_relocatable h) zone s found) in
            let now = total-append of s.below (with_content bytes s.here ∷ s.above) in
            (omega arith, omega arith)

    -- a path
    pub keeps : (path : List Move) (zone : List Block) → PathWeighs of spared path zone
        → Keeps (put_on of path) (total of zone) (total of (did spared path zone).zone)
        (total of (did spared path zone).gone)
    keeps [] zone w = (omega arith, omega arith)
    keeps (m ∷ path) zone w =
        let now = one spared m zone in
        let a = one-keeps m zone w.0 in
        let b = keeps path now.zone w.1 in
        let g = total-append of now.gone (did spared path now.zone).gone in
        (omega (arith, a.0, a.1, b.0, b.1, g), omega (arith, a.0, a.1, b.0, b.1, g))

    -- where what it puts comes to nothing
    pub conserved : (path : List Move) → put_on of path ≡ 0 → (zone : List Block) → PathWeighs of spared path zone
        → total of (did spared path zone).zone + total of (did spared path zone).gone ≡ total of zone
    conserved path puts zone w = omega (arith, keeps path zone w)

    -- what goes may be purged, and is not spared
    pub gone-light : ((b : Block) → may_be_purged spared b ≡ true → of b ≡ 0) → (k : ℕ) (bs : List Block)
        → total of (lowest_gone k spared bs) ≡ 0
    gone-light goes zero bs = refl
    gone-light goes (suc k) [] = refl
    gone-light goes (suc k) (b ∷ bs) = cases (may_be_purged spared b) refl (gone-light goes k bs)
        (gone-light goes (suc k) bs)
      where
        cases : (t : Bool) → may_be_purged spared b ≡ t → total of (lowest_gone k spared bs) ≡ 0
            → total of (lowest_gone (suc k) spared bs) ≡ 0
            → total of (cond t (b ∷ lowest_gone k spared bs) (lowest_gone (suc k) spared bs)) ≡ 0
        cases true e r r' = let g = goes b e in omega arith
        cases false e r r' = r'

    pub only-purgeable : ((b : Block) → may_be_purged spared b ≡ true → of b ≡ 0) → (path : List Move)
        (zone : List Block) → total of (did spared path zone).gone ≡ 0
    only-purgeable goes [] zone = refl
    only-purgeable goes (m ∷ path) zone =
        let now = one spared m zone in
        let r = only-purgeable goes path now.zone in
        omega (arith, total-append of now.gone (did spared path now.zone).gone, here m, r)
      where
        above : (k : ℕ) (o : Option Spot) → total of (gone_above k spared o) ≡ 0
        above k None = refl
        above k (Some s) = gone-light goes k (segments s.above).first

        here : (m : Move) → total of (one spared m zone).gone ≡ 0
        here (Search n) = refl
        here (Purge k) = gone-light goes k zone
        here (Put new) = refl
        here (Base new) = refl
        here (Grow new) = refl
        here (Extend new) = refl
        here (Push new k) = above k (spot (is_same new) zone)
        here (Cut new) = refl
        here (Drop h) = refl
        here (Write h i x) = refl
