-- A search that goes from block to block.
use Rattle.zone_marks.proofs.Cited.{◌≡◌, ℕ, ◌<◌, inr, List, [], ◌∷◌, ◌++◌, arith, if◌then◌else◌, Block, in_run, Seen, Begins, zone_in}
use Rattle.zone_marks.proofs.Cited.{IsSound, left_in, Steps, IsPiece, begun_in}
use Rattle.zone_marks.proofs.Marks.Lowering.{begins-further}
use Rattle.zone_marks.proofs.Marks.Passing.{begins-here}
use Rattle.zone_marks.proofs.Searches.Pieces.{piece-more}
use Rattle.zone_marks.proofs.Stretches.Searching.{begun-append}

module _ (xs : List ℕ) (at : ℕ) (block : Seen) (end : ℕ) (s : Steps at block end xs) where
  -- an edge above a block is one of those behind it
  pub edge-further : (to : ℕ) → at < to → Begins to at (left_in at xs) → Begins to end (left_in end xs)
  edge-further to l b = grind arith

  pub step-piece : (first unused : ℕ) → IsSound xs first unused → Begins at 0 (zone_in xs)
      → IsPiece at end xs (s.here ∷ [])
  step-piece first unused i b = record {
    is = s.is;
    up = omega (arith, s.up);
    edge = begins-further xs first unused i at end b (rw s.is (inr (rw s.up (begins-here end _))));
  }

  -- where the run began that goes on behind it
  pub start-further : (first unused : ℕ) → IsSound xs first unused → (from start next : ℕ) → (done : List Block)
      × IsPiece from at xs done × start ≡ begun_in from from done → next ≡ (if in_run s.here then start else end)
      → (done : List Block) × IsPiece from end xs done × next ≡ begun_in from from done
  start-further first unused i from start next d e =
      let b = begun-append from from d.0 (s.here ∷ []) in
      let up = d.1.up in
      let ends = s.up in
      (d.0 ++ (s.here ∷ []), piece-more xs from at end d.0 (s.here ∷ []) d.1 (step-piece first unused i d.1.edge), grind arith)
