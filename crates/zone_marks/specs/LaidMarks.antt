-- Landmarks while they are laid anew.
use Rattle.std.specs.Prelude.{◌≡◌, ℕ, ◌≤◌, ◌<◌, List, length, take, drop}
use Rattle.block_store.specs.Block.{Block}
use Rattle.zone_bytes.specs.Changes.{AtEach, Begins}
use Rattle.zone_marks.specs.Marks.{AtMost, AreMarks, IsTally, above_all, between}
use Rattle.zone_marks.specs.declared.landmark.Landmark.{Landmark}
use Rattle.zone_marks.specs.declared.landmark.Tally.TheVariants as tally
use Rattle.zone_marks.specs.declared.stretch.Counting.TheVariants as counting
use Rattle.zone_marks.specs.declared.stretch.Stretch.TheVariants.{Whole}

-- None of the blocks that begin from `lo` up to `hi` ends a run or has a free byte.
abbrev pub IsBare : ℕ → ℕ → List Block → Type 0
IsBare lo hi zone = AtEach (AtMost 0 lo hi) 0 zone × IsTally counting.Runs (tally.Known (Whole 0)) (between lo hi 0 zone)

-- Landmarks while they are laid anew: those below `index` are landmarks of the zone, and the last of them covers the
-- blocks up to the place `at`, where the landmark at `index` is to stand. Those from `index` on, where they still
-- stand, are landmarks of the zone too. A block begins at `at`; where no landmark is left to be laid, `at` is above
-- every zone.
pub record AreLaid (index at : ℕ) (zone : List Block) (marks : List Landmark) : Type 0 where
  pub below : AreMarks at zone (take index marks)
  pub above : AreMarks above_all zone (drop index marks)
  pub inside : index ≤ length marks
  pub begins : index < length marks → Begins at 0 zone
  pub last : index ≡ length marks → at ≡ above_all
