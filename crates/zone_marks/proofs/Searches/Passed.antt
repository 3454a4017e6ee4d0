-- A search for a run that passes blocks by what they come to in runs.
use Rattle.zone_marks.proofs.Cited.{◌≡◌, ℕ, ◌+◌, ◌≤◌, ◌<◌, ◌^◌, inl, inr, true, false, List, [], ◌++◌, append_assoc, refl, sym, ap, ◌∙◌}
use Rattle.zone_marks.proofs.Cited.{arith, Block, RunScan, IsSound, HasCome, IsKnown, IsPassed, IsPiece, IsStretch, begun, place_at, Passed}
use Rattle.zone_marks.proofs.Cited.{Landmark, begun_in, best, is_ended, join, prefix, stretch_of, suffix, Runs, Stretch, Whole}
use Rattle.std.proofs.Common.{append-nil}
use Rattle.zone_marks.proofs.Marks.Passing.{begins-here}
use Rattle.zone_marks.specs.declared.landmark.Tally.TheVariants as tally
use Rattle.zone_marks.proofs.Searches.Pieces.{edge-within, piece-more}
use Rattle.zone_marks.proofs.Bounds.Fewest.{known-fits}
use Rattle.zone_marks.proofs.Stretches.Monoid.{stretch_of-append}
use Rattle.zone_marks.proofs.Stretches.Searching.{begun-append, begun-ended, begun-open}
use Rattle.zone_marks.proofs.Stretches.Sums.{ends-load}

pub none-between : (xs : List ℕ) (from to : ℕ) (here : List Block) → IsPiece from to xs here → IsPiece to to xs []
none-between xs from to here p = record { is = refl; up = omega arith; edge = p.edge }

module _ (xs : List ℕ) (p : Passed) (q : IsPassed xs p) where
  -- all blocks that were passed
  abbrev all : List Block
  all = q.low ++ (q.mid ++ q.above)

  passed-piece : IsPiece 0 p.at xs all
  passed-piece = piece-more xs 0 p.barred p.at q.low (q.mid ++ q.above) q.below
      (piece-more xs p.barred p.end p.at q.mid q.above q.piece q.rest)

  pub passed-whole : IsStretch Runs (tally.Known p.runs) 0 p.at xs
  passed-whole = (all, passed-piece, sym q.sums)

  -- past more blocks
  module _ (next index : ℕ) (stretch runs : Stretch) (s : IsStretch Runs (tally.Known stretch) p.at next xs)
      (sums : runs ≡ join p.runs stretch) where
    more-sums : runs ≡ stretch_of (all ++ s.0)
    more-sums = let e = s.2 in let f = q.sums in grind (arith, stretch_of-append)

    pub passed-open : is_ended stretch ≡ false
        → IsPassed xs (record { runs = runs; barred = p.barred; end = p.end; at = next; index = index })
    passed-open e = record {
      low = q.low;
      mid = q.mid;
      above = q.above ++ s.0;
      below = q.below;
      piece = q.piece;
      rest = piece-more xs p.end p.at next q.above s.0 q.rest s.1;
      sums = grind (arith, more-sums, append_assoc);
      ended = q.ended;
      whole = let f = s.2 in let w = q.whole in grind (arith, stretch_of-append);
    }

    pub passed-ended : is_ended stretch ≡ true
        → IsPassed xs (record { runs = runs; barred = p.at; end = next; at = next; index = index })
    passed-ended e = record {
      low = all;
      mid = s.0;
      above = [];
      below = passed-piece;
      piece = s.1;
      rest = none-between _ _ _ _ s.1;
      sums = grind (arith, more-sums, append-nil);
      ended = inl (ap is_ended s.2 ∙ e);
      whole = refl;
    }

  -- no sum is too high
  pub passed-fits : (first unused next : ℕ) (stretch : Stretch) → IsSound xs first unused
      → IsStretch Runs (tally.Known stretch) p.at next xs → suffix p.runs + prefix stretch < 2 ^ 32
  passed-fits first unused next stretch i s =
      let w = edge-within xs first unused i next s.1.edge in
      let more = known-fits Runs _ _ _ _ s in
      let all = known-fits Runs _ _ _ _ passed-whole in
      let small = i.lays.small in
      grind (arith, ends-load)

  begun-is : begun_in 0 0 all ≡ begun_in p.barred p.barred q.mid
  begun-is = let b = q.below.up in let w = q.whole in let e = q.ended in grind (arith, begun-append, begun-open, begun-ended)

  pub passed-known : (bytes to : ℕ) (r : RunScan) → r
      ≡ record { left = 0; start = begun_in p.barred p.barred q.mid; free = suffix p.runs; met = true; place = p.at }
      → best p.runs < bytes → p.at ≤ to → IsKnown bytes to xs r
  passed-known bytes to r e short l =
      let w = passed-piece in
      let fits = known-fits Runs _ _ _ _ passed-whole in
      let s = q.sums in
      grind (arith, begun-is, ends-load)

pub bottom : (xs : List ℕ) → IsPiece 0 0 xs []
bottom xs = record { is = refl; up = refl; edge = begins-here 0 _ }

pub known-bottom : (bytes to : ℕ) (xs : List ℕ) → IsKnown bytes to xs (begun 0 0)
known-bottom bytes to xs = record {
  done = [];
  piece = bottom xs;
  low = omega arith;
  fits = omega arith;
  is = refl;
  short = inr refl;
}

-- where a search by landmarks begins
pub come-none : (bytes : ℕ) (marks : List Landmark) (xs : List ℕ) → 0 ≡ place_at 0 marks xs → 0 < bytes
    → HasCome bytes marks xs (record { runs = Whole 0; barred = 0; end = 0; at = 0; index = 0 })
come-none bytes marks xs b l =
    record {
      passed = record {
        low = [];
        mid = [];
        above = [];
        below = bottom xs;
        piece = bottom xs;
        rest = bottom xs;
        sums = refl;
        ended = inr refl;
        whole = refl;
      };
      at = b;
      short = l;
    }
