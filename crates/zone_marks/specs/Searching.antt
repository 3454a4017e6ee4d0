-- Searches for a run that use the landmarks of a zone.
use Rattle.std.specs.Prelude.{◌≡◌, ℕ, ◌+◌, ◌≤◌, ◌<◌, ◌⊎◌, true, Option, None, List, [], ◌++◌, length, false}
use Rattle.std.specs.Prelude.{drop}
use Rattle.std.specs.Option.{option_map}
use Rattle.block_store.specs.Block.{Block, sizes}
use Rattle.block_store.specs.Inner.RunScan.{scan_from, suits}
use Rattle.block_store.specs.Run.{RunSpot, run_spot}
use Rattle.block_store.specs.Sparing.{opened, spared}
use Rattle.block_store.specs.declared.run_search.RunScan.{RunScan}
use Rattle.block_store.specs.declared.sparing.Sparing.{Sparing}
use Rattle.zone_bytes.specs.Decode.{zone_in}
use Rattle.zone_bytes.specs.Changes.{Begins}
use Rattle.zone_marks.specs.Marks.{AreGroups, AreMarks, IsTally, above_all, next_of}
use Rattle.zone_bytes.specs.Stepping.{left_in}
use Rattle.zone_marks.specs.declared.beginning.Passed.{Passed}
use Rattle.zone_marks.specs.declared.landmark.Group.{Group}
use Rattle.zone_marks.specs.declared.landmark.Landmark.{Landmark}
use Rattle.zone_marks.specs.declared.landmark.Tally.{Tally}
use Rattle.zone_marks.specs.RunSearch.{begun_in}
use Rattle.zone_marks.specs.Stretches.{best, is_ended, stretch_of, suffix}
use Rattle.zone_marks.specs.declared.stretch.Counting.{Counting}

-- The landmarks and their groups are those of the zone that bytes spell.
pub record HasMarks (xs : List ℕ) (all : List Landmark) (in_groups : List Group) : Type 0 where
  pub marks : AreMarks above_all (zone_in xs) all
  pub groups : AreGroups in_groups all

-- A search that begins at the place `at` with the given number of purges.
abbrev pub begun : ℕ → ℕ → RunScan
begun at purges = record { left = purges; start = at; free = 0; met = true; place = at }

-- The place of the run that a search with purges finds, by the blocks from where it is on.
abbrev pub finds_in : ℕ → Sparing → RunScan → List Block → Option ℕ
finds_in bytes n s above = scan_from None bytes (spared n) s (opened n above)

abbrev pub finds_purging : ℕ → Sparing → RunScan → List ℕ → Option ℕ
finds_purging bytes n s xs = finds_in bytes n s (left_in s.place xs)

-- The place of the lowest run of a zone with `bytes` free bytes or more.
abbrev pub lowest_place : ℕ → List Block → Option ℕ
lowest_place bytes zone = option_map (λ (r : RunSpot). sizes r.below) (run_spot (suits None bytes) zone)

-- The blocks `here` are those from the place `from` up to the place `to`.
pub record IsPiece (from to : ℕ) (xs : List ℕ) (here : List Block) : Type 0 where
  pub is : left_in from xs ≡ here ++ left_in to xs
  pub up : from + sizes here ≡ to
  pub edge : Begins to 0 (zone_in xs)

-- A tally, counted in one way, is of the blocks from the place `from` up to the place `to`.
abbrev pub IsStretch : Counting → Tally → ℕ → ℕ → List ℕ → Type 0
IsStretch c t from to xs = (here : List Block) × IsPiece from to xs here × IsTally c t here

-- A search for any run, from the bottom on and with no purges, is at the place `to` or below it. No run of the blocks
-- below its place has `bytes` free bytes.
pub record IsKnown (bytes to : ℕ) (xs : List ℕ) (r : RunScan) : Type 0 where
  pub done : List Block
  pub piece : IsPiece 0 r.place xs done
  pub low : r.place ≤ to
  pub fits : r.free ≤ r.place
  pub is : r ≡ record { left = 0; start = begun_in 0 0 done; free = suffix (stretch_of done); met = true; place = r.place }
  pub short : (best (stretch_of done) < bytes) ⊎ (done ≡ [])

-- The blocks below the place `p.at` were passed: `mid` are those from `p.barred` up to `p.end`, of which one ends a run
-- unless there are no blocks below them; those above end none.
pub record IsPassed (xs : List ℕ) (p : Passed) : Type 0 where
  pub low : List Block
  pub mid : List Block
  pub above : List Block
  pub below : IsPiece 0 p.barred xs low
  pub piece : IsPiece p.barred p.end xs mid
  pub rest : IsPiece p.end p.at xs above
  pub sums : p.runs ≡ stretch_of (low ++ (mid ++ above))
  pub ended : (is_ended (stretch_of mid) ≡ true) ⊎ (low ≡ [])
  pub whole : is_ended (stretch_of above) ≡ false

-- The place of the landmark at an index, or the zone's end if there is none.
abbrev pub place_at : ℕ → List Landmark → List ℕ → ℕ
place_at index marks xs = next_of (length xs) (drop index marks)

-- The blocks below a landmark, or below the zone's end, were passed, and none of their runs has `bytes` free bytes.
pub record HasCome (bytes : ℕ) (marks : List Landmark) (xs : List ℕ) (p : Passed) : Type 0 where
  pub passed : IsPassed xs p
  pub at : p.at ≡ place_at p.index marks xs
  pub short : best p.runs < bytes
