-- The summary of a stretch of a zone's blocks in runs, and in spaces. Inside Macintosh: Memory, chapter 2, "Freeing
-- Memory": MaxBlock and PurgeSpace ask about a whole zone, and are answered here by the summaries of its parts.
use Rattle.std.specs.Prelude.{ℕ, ◌+◌, max, Bool, true, false, List, [], ◌∷◌}
use Rattle.block_store.specs.Block.{Block, Free, Nonrelocatable, Masters, Relocatable, free_of, is_purgeable, size}
use Rattle.block_store.specs.Run.{in_run}
use Rattle.zone_marks.specs.declared.stretch.Counting.{Counting}
use Rattle.zone_marks.specs.declared.stretch.Counting.TheVariants as counting
use Rattle.zone_marks.specs.declared.stretch.Stretch.{Stretch}
use Rattle.zone_marks.specs.declared.stretch.Stretch.TheVariants.{Whole, Ended}

-- A block that adds so many free bytes to its run, or one that ends a run.
abbrev pub counted : Bool → ℕ → Stretch
counted true free = Whole free
counted false free = Ended 0 0 0

-- The summary of one block.
abbrev pub one : Block → Stretch
one b = counted (in_run b) (free_of b)

-- The summary of two stretches, of which the second follows the first.
abbrev pub join : Stretch → Stretch → Stretch
join (Whole a) (Whole b) = Whole (a + b)
join (Whole a) (Ended p i s) = Ended (a + p) i s
join (Ended p i s) (Whole b) = Ended p i (s + b)
join (Ended p i s) (Ended q j t) = Ended p (max (max i j) (s + q)) t

-- The summary of the blocks of a stretch in runs, lowest first.
abbrev pub stretch_of : List Block → Stretch
stretch_of [] = Whole 0
stretch_of (b ∷ above) = join (one b) (stretch_of above)

-- A block that is free, or would be if it were purged: neighbours of this kind are one space.
abbrev pub is_space : Block → Bool
is_space (Free n) = true
is_space (Nonrelocatable id content) = false
is_space Masters = false
is_space (Relocatable id flags content) = is_purgeable (Relocatable id flags content)

-- The summary of one block in spaces: the block adds its bytes to a space, or ends one.
abbrev pub space : Block → Stretch
space b = counted (is_space b) (size b)

-- The summary of the blocks of a stretch in spaces, lowest first.
abbrev pub spaces_of : List Block → Stretch
spaces_of [] = Whole 0
spaces_of (b ∷ above) = join (space b) (spaces_of above)

-- The summary of the blocks of a stretch, counted in one of the two ways.
abbrev pub stretch_by : Counting → List Block → Stretch
stretch_by counting.Runs blocks = stretch_of blocks
stretch_by counting.Spaces blocks = spaces_of blocks

-- The free bytes of the run at the lower end.
abbrev pub prefix : Stretch → ℕ
prefix (Whole a) = a
prefix (Ended p i s) = p

-- The free bytes of the run at the upper end.
abbrev pub suffix : Stretch → ℕ
suffix (Whole a) = a
suffix (Ended p i s) = s

-- The greatest number of free bytes of a run above the one at the lower end.
abbrev pub beyond : Stretch → ℕ
beyond (Whole a) = 0
beyond (Ended p i s) = max i s

-- The greatest number of free bytes of a run.
abbrev pub best : Stretch → ℕ
best s = max (prefix s) (beyond s)

-- A block of the stretch ends a run.
abbrev pub is_ended : Stretch → Bool
is_ended (Whole a) = false
is_ended (Ended p i s) = true

-- The total of a summary: no less than any of its numbers that a join adds up.
abbrev pub load : Stretch → ℕ
load (Whole a) = a
load (Ended p i s) = p + i + s
