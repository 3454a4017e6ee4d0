use Rattle.heap_calls.proofs.Cited.{◌≡◌, ℕ, ◌+◌, zero, suc, Bool, true, false, not, List, [], ◌∷◌, ◌++◌, length, ap, cond, arith, Option}
use Rattle.heap_calls.proofs.Cited.{Some, None, refl, and_parts, Block, Free, total, is_purgeable, Spot, spot, may_be_purged, segments}
use Rattle.heap_calls.proofs.Cited.{total-append, Move, Search, Purge, Put, Base, Grow, Extend, Push, Cut, Drop, Write, is_same, did, one}
use Rattle.heap_calls.proofs.Cited.{lowest_gone, gone_above, PathWeighs, Weighs, PutsNone, put_on, puts-none, conserved, Memory, Gone}
use Rattle.heap_calls.proofs.Cited.{gone_of, told_blocks, Row, answer_of}
use Rattle.heap_calls.specs.Row.{purged_by}
use Rattle.heap_calls.proofs.GoneBlocks.{told-append}
use Rattle.heap_calls.proofs.Rows.Kinds.{has_path, of-path}
use Rattle.heap_calls.proofs.Rows.Along.{Keeps}

-- What a row that is a path leaves, and what is told of blocks that are purged for it, come to just what the zone came to.

module _ (n : ℕ) (of : Block → ℕ) (none : (k : ℕ) → of (Free k) ≡ 0) (told : List Gone → ℕ) (nil : told [] ≡ 0)
    (adds : (xs ys : List Gone) → told (xs ++ ys) ≡ told xs + told ys)
    (goes : (b : Block) → is_purgeable b ≡ true → told (gone_of n b) ≡ of b) (spared : Block → Bool)
  where
    lowest-told : (k : ℕ) (bs : List Block)
        → told (told_blocks n (lowest_gone k spared bs)) ≡ total of (lowest_gone k spared bs)
    lowest-told zero bs = nil
    lowest-told (suc k) [] = nil
    lowest-told (suc k) (b ∷ bs) = cases (may_be_purged spared b) refl (lowest-told k bs) (lowest-told (suc k) bs)
      where
        cases : (t : Bool) → may_be_purged spared b ≡ t
            → told (told_blocks n (lowest_gone k spared bs)) ≡ total of (lowest_gone k spared bs)
            → told (told_blocks n (lowest_gone (suc k) spared bs)) ≡ total of (lowest_gone (suc k) spared bs)
            → told (told_blocks n (cond t (b ∷ lowest_gone k spared bs) (lowest_gone (suc k) spared bs)))
            ≡ total of (cond t (b ∷ lowest_gone k spared bs) (lowest_gone (suc k) spared bs))
        cases true e r r' = omega (
          arith,
          adds (gone_of n b) (told_blocks n (lowest_gone k spared bs)),
          goes b (and_parts (is_purgeable b) (not (spared b)) e).0,
          r,
        )
        cases false e r r' = r'

    one-told : (m : Move) (zone : List Block)
        → told (told_blocks n (one spared m zone).gone) ≡ total of (one spared m zone).gone
    one-told (Search k) zone = nil
    one-told (Purge k) zone = lowest-told k zone
    one-told (Put new) zone = nil
    one-told (Base new) zone = nil
    one-told (Grow new) zone = nil
    one-told (Extend new) zone = nil
    one-told (Push new k) zone = cases (spot (is_same new) zone)
      where
        cases : (o : Option Spot) → told (told_blocks n (gone_above k spared o)) ≡ total of (gone_above k spared o)
        cases None = nil
        cases (Some s) = lowest-told k (segments s.above).first
    one-told (Cut new) zone = nil
    one-told (Drop h) zone = nil
    one-told (Write h i x) zone = nil

    pub path-told : (path : List Move) (zone : List Block)
        → told (told_blocks n (did spared path zone).gone) ≡ total of (did spared path zone).gone
    path-told [] zone = nil
    path-told (m ∷ path) zone =
        let now = one spared m zone in
        let later = (did spared path now.zone).gone in
        omega (
          arith,
          ap told (told-append n now.gone later),
          adds (told_blocks n now.gone) (told_blocks n later),
          one-told m zone,
          path-told path now.zone,
          total-append of now.gone later,
        )

    pub path-even : (path : List Move) (zone : List Block) → put_on of path ≡ 0 → PathWeighs of spared path zone
        → total of (did spared path zone).zone + told (told_blocks n (did spared path zone).gone) ≡ total of zone
    path-even path zone puts weighs =
        omega (arith, path-told path zone, conserved of none spared path puts zone weighs)

-- what a row that is a path leaves, and what is told of it
pub path-row-even : (of : Block → ℕ) (none : (k : ℕ) → of (Free k) ≡ 0) (told : List Gone → ℕ) (nil : told [] ≡ 0)
    (adds : (xs ys : List Gone) → told (xs ++ ys) ≡ told xs + told ys) (m : Memory)
    (goes : (b : Block) → is_purgeable b ≡ true → told (gone_of (length m.heap.names) b) ≡ of b) (r : Row)
    → has_path r ≡ true → Keeps (λ sp. PutsNone of) r m.heap → Keeps (λ sp. Weighs of) r m.heap
    → total of (answer_of r m).1.heap.zone + told (purged_by r m.heap) ≡ total of m.heap.zone
path-row-even of none told nil adds m goes r = of-path (λ r. Keeps (λ sp. PutsNone of) r m.heap → Keeps (λ sp. Weighs of) r m.heap
    → total of (answer_of r m).1.heap.zone + told (purged_by r m.heap) ≡ total of m.heap.zone)
    (λ T bar tell does puts weighs. let d = does m.heap in
    path-even (length m.heap.names) of none told nil adds goes d.spared d.path m.heap.zone
    (puts-none of d.spared d.path m.heap.zone puts) weighs)
    (λ left r kept. kept) r
