-- Landmarks of a zone: places at which blocks begin, each with a bound on the free blocks up to the next.
use Rattle.std.specs.Prelude.{◌≡◌, ℕ, ◌+◌, ◌*◌, ◌^◌, ◌≤◌, ◌<◌, ◌⊎◌, Bool, true, false, not, ◌&&◌, if◌then◌else◌, nat_le}
use Rattle.std.specs.Prelude.{nat_lt, List, [], ◌∷◌, length, take, drop, get_or}
use Rattle.block_store.specs.Block.{Block, size, sizes, free_of, is_room}
use Rattle.block_store.specs.Run.{in_run}
use Rattle.zone_bytes.specs.Stepping.{left_in, IsOnWay}
use Rattle.zone_marks.specs.declared.landmark.Group.{Group}
use Rattle.zone_marks.specs.declared.landmark.Landmark.{Landmark}
use Rattle.zone_marks.specs.declared.landmark.Tallies.{Tallies}
use Rattle.zone_marks.specs.declared.landmark.Tally.{Tally}
use Rattle.zone_marks.specs.declared.landmark.Tally.TheVariants as tally
use Rattle.zone_marks.specs.declared.measuring.Measured.{Measured}
use Rattle.zone_marks.specs.declared.landmark.TheConstants.{GROUP}
use Rattle.zone_marks.specs.Stretches.{join, stretch_by, stretch_of, load}
use Rattle.zone_marks.specs.declared.stretch.Counting.{Counting}
use Rattle.zone_marks.specs.declared.stretch.Counting.TheVariants as counting
use Rattle.zone_marks.specs.declared.stretch.Stretch.{Stretch}
use Rattle.zone_marks.specs.declared.stretch.Stretch.TheVariants.{Whole}
use Rattle.zone_bytes.specs.Changes.{AtEach, Begins}

-- A block that begins from `lo` up to `hi` has at most `most` free bytes.
abbrev pub AtMost : ℕ → ℕ → ℕ → ℕ → Block → Type 0
AtMost most lo hi at b = lo ≤ at → at < hi → free_of b ≤ most

-- A block that begins from `lo` up to `hi` is no free block of `bytes` bytes or more.
abbrev pub NoRoom : ℕ → ℕ → ℕ → ℕ → Block → Type 0
NoRoom bytes lo hi at b = lo ≤ at → at < hi → is_room bytes b ≡ false

-- The blocks that begin from `lo` up to `hi`, of those from the place `at` on.
abbrev pub between : ℕ → ℕ → ℕ → List Block → List Block
between lo hi at [] = []
between lo hi at (b ∷ above) = if nat_le lo at && nat_lt at hi then b ∷ between lo hi (at + size b) above
    else between lo hi (at + size b) above

-- A block that ends a run: a nonrelocatable block, a master pointer block, or a locked relocatable block.
abbrev pub ends_run : Block → Bool
ends_run b = not (in_run b)

-- What a tally says of blocks, counted in one way: their summary, or nothing.
-- See decision 149 (a tally is the summary of the blocks up to the next landmark, or nothing).
abbrev pub IsTally : Counting → Tally → List Block → Type 0
IsTally c (tally.Known stretch) blocks = stretch_by c blocks ≡ stretch
IsTally c tally.Unknown blocks = Unit {0}

-- What is known of blocks, counted in one way.
abbrev pub told : Counting → Tallies → Tally
told counting.Runs t = t.runs
told counting.Spaces t = t.spaces

-- What is known of blocks is of these, in each way.
abbrev pub AreTold : Tallies → List Block → Type 0
AreTold t blocks = (c : Counting) → IsTally c (told c t) blocks

-- What a walk finds of the blocks that begin from `lo` up to `hi`: a bound on each free block, and the summary of the
-- blocks in runs.
pub record Measures (lo hi at : ℕ) (zone : List Block) (m : Measured) : Type 0 where
  pub most : AtEach (AtMost m.most lo hi) at zone
  pub runs : stretch_of (between lo hi at zone) ≡ m.runs

-- The tallies of no blocks, which are known in each way.
abbrev pub nothing : Tallies
nothing = record { runs = tally.Known (Whole 0); spaces = tally.Known (Whole 0) }

-- The landmark that stands for one that is not there.
abbrev pub no_mark : Landmark
no_mark = record { at = 0; most = 0; tally = nothing }

-- A place above every block.
abbrev pub above_all : ℕ
above_all = 4294967295

-- The place of the first of some landmarks; `end` if there are none.
abbrev pub next_of : ℕ → List Landmark → ℕ
next_of end [] = end
next_of end (m ∷ marks) = m.at

-- A block begins at the landmark, no free block from there up to the place `to`, which is no lower, is larger than the
-- landmark notes, and the landmark's tallies are of the blocks there.
pub record IsMark (to : ℕ) (zone : List Block) (m : Landmark) : Type 0 where
  pub begins : Begins m.at 0 zone
  pub most : AtEach (AtMost m.most m.at to) 0 zone
  pub tells : AreTold m.tally (between m.at to 0 zone)
  pub order : m.at ≤ to

-- Each landmark is one of the zone, up to the next.
-- See decision 147 (landmarks rise; that they stand in their pages is no invariant).
abbrev pub AreMarks : ℕ → List Block → List Landmark → Type 0
AreMarks end zone [] = Unit {0}
AreMarks end zone (m ∷ marks) = IsMark (next_of end marks) zone m × AreMarks end zone marks

-- The tally of the blocks of two tallies, those of `low` first; it says nothing where one of the two says nothing.
abbrev pub join_tallies : Tally → Tally → Tally
join_tallies (tally.Known low) (tally.Known high) = tally.Known (join low high)
join_tallies (tally.Known low) tally.Unknown = tally.Unknown
join_tallies tally.Unknown high = tally.Unknown

-- The tally of the blocks of all these landmarks, counted in one way.
abbrev pub tally_of : Counting → List Landmark → Tally
tally_of c [] = tally.Known (Whole 0)
tally_of c (m ∷ marks) = join_tallies (told c m.tally) (tally_of c marks)

-- The total of a tally, as `load` counts it; 0 where it says nothing.
abbrev pub known_load : Tally → ℕ
known_load (tally.Known stretch) = load stretch
known_load tally.Unknown = 0

-- Landmarks of a zone.
abbrev pub AreOfZone : List Landmark → Type 0
AreOfZone marks = (end : ℕ) × (zone : List Block) × (sizes zone < 2 ^ 32) × AreMarks end zone marks

-- The group that stands for one that is not there.
abbrev pub no_group : Group
no_group = record { most = 0; tally = nothing }

-- The landmarks of the group with this number.
abbrev pub marks_in : ℕ → List Landmark → List Landmark
marks_in group marks = take GROUP (drop (GROUP * group) marks)

-- No landmark of a group has a higher bound than the group, and where the tally of the group is known, those of its
-- landmarks are.
pub record IsGroup (g : Group) (marks : List Landmark) : Type 0 where
  pub most : (index : ℕ) → index < length marks → (get_or marks index no_mark).most ≤ g.most
  pub known : (c : Counting) (s : Stretch) → told c g.tally ≡ tally.Known s → tally_of c marks ≡ tally.Known s

-- The landmarks are in groups.
pub record AreGroups (groups : List Group) (marks : List Landmark) : Type 0 where
  pub whole : length marks ≡ GROUP * length groups
  pub each : (group : ℕ) → group < length groups → IsGroup (get_or groups group no_group) (marks_in group marks)

-- No free block of `bytes` bytes or more lies below the landmark at `index`; if there is no such landmark, none lies
-- in the zone.
abbrev pub NoneBelow : ℕ → List Block → List Landmark → ℕ → Type 0
NoneBelow bytes zone marks index = AtEach (NoRoom bytes 0 (next_of above_all (drop index marks))) 0 zone

-- A block is from the place `at` to `end`, has `free` free bytes, and ends a run or not.
pub record Spans (at end free : ℕ) (barrier : Bool) (xs : List ℕ) : Type 0 where
  pub here : Block
  pub is : left_in at xs ≡ here ∷ left_in end xs
  pub up : at + size here ≡ end
  pub bytes : free ≡ free_of here
  pub ends : barrier ≡ ends_run here
  pub way : IsOnWay end xs
  pub some : at < end

-- A free block of `bytes` bytes or more begins at `place`.
pub record RoomAt (bytes place : ℕ) (xs : List ℕ) : Type 0 where
  pub here : Block
  pub above : List Block
  pub is : left_in place xs ≡ here ∷ above
  pub room : is_room bytes here ≡ true

-- A place strictly between `lo` and `hi` is lowered to `lo`, and any other place stays.
abbrev pub Lowered : ℕ → ℕ → ℕ → ℕ → Type 0
Lowered lo hi at now = ((lo < at) × (at < hi) × (now ≡ lo)) ⊎ ((now ≡ at) × ((at ≤ lo) ⊎ (hi ≤ at)))
