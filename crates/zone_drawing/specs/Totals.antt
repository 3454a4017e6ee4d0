use Rattle.std.specs.Prelude.{ℕ, ◌+◌, Bool, true, false, not, ◌&&◌, List, [], ◌∷◌, ◌++◌, codes, decimal, if◌then◌else◌}
use Rattle.block_store.specs.Block.{Block, size, free_of, total}
use Rattle.block_store.specs.Block as block
use Rattle.block_store.specs.Run.{runs}
use Rattle.block_store.specs.Compact.{largest, largest_free, largest_run}
use Rattle.zone_drawing.specs.declared.digits.Digits.{Digits}
use Rattle.zone_drawing.specs.declared.line.Shape.{Shape}
use Rattle.zone_drawing.specs.declared.line.Shape.TheVariants as shape
use Rattle.zone_drawing.specs.declared.style.Style.{Style}
use Rattle.zone_drawing.specs.declared.style.Style.TheVariants as style
use Rattle.zone_drawing.specs.declared.totals.Class.{Class}
use Rattle.zone_drawing.specs.declared.totals.Class.TheVariants as class
use Rattle.zone_drawing.specs.declared.totals.Largest.{Largest}
use Rattle.zone_drawing.specs.Digits.{size_text}
use Rattle.zone_drawing.specs.Line.{Line}
use Rattle.zone_drawing.specs.Text.{between, left, right, opened, is_locked, is_purgeable}

-- The totals of a zone, as MacsBug's command HT gives them: how many blocks there are of each kind, and how many bytes
-- they have; and what could be allocated.

abbrev pub is_free : Shape → Bool
is_free shape.Free = true
is_free shape.Nonrelocatable = false
is_free shape.Masters = false
is_free (shape.Relocatable flags) = false

abbrev pub is_nonrelocatable : Shape → Bool
is_nonrelocatable shape.Free = false
is_nonrelocatable shape.Nonrelocatable = true
is_nonrelocatable shape.Masters = false
is_nonrelocatable (shape.Relocatable flags) = false

abbrev pub is_masters : Shape → Bool
is_masters shape.Free = false
is_masters shape.Nonrelocatable = false
is_masters shape.Masters = true
is_masters (shape.Relocatable flags) = false

abbrev pub is_relocatable : Shape → Bool
is_relocatable shape.Free = false
is_relocatable shape.Nonrelocatable = false
is_relocatable shape.Masters = false
is_relocatable (shape.Relocatable flags) = true

-- The blocks of a class: of a kind; of the relocatable ones those that are locked, and those that may be purged; those that
-- are neither locked nor purgeable, locked alone, or both; or all.
abbrev pub in_class : Class → Shape → Bool
in_class class.Free s = is_free s
in_class class.Nonrelocatable s = is_nonrelocatable s
in_class class.Masters s = is_masters s
in_class class.Relocatable s = is_relocatable s
in_class class.Locked s = is_locked s
in_class class.Purgeable s = is_purgeable s && not (is_locked s)
in_class class.Unmarked s = is_relocatable s && not (is_locked s) && not (is_purgeable s)
in_class class.LockedOnly s = is_locked s && not (is_purgeable s)
in_class class.Both s = is_locked s && is_purgeable s
in_class class.All s = true

-- How many blocks of a class there are, and their physical sizes, summed.
abbrev pub counted : Class → List Line → ℕ
counted c [] = 0
counted c (l ∷ lines) = (if in_class c l.shape then 1 else 0) + counted c lines

abbrev pub sized : Class → List Line → ℕ
sized c [] = 0
sized c (l ∷ lines) = (if in_class c l.shape then l.size else 0) + sized c lines

-- The number of bytes of a block that are free, or would be if the block were purged.
abbrev pub could_be_free : Block → ℕ
could_be_free b = if block.is_purgeable b then size b else free_of b

-- The greatest number of free bytes in one run of a zone once all blocks are purged that may be.
abbrev pub largest_purged : List Block → ℕ
largest_purged zone = largest (total could_be_free) (runs zone)

-- The physical size of the largest block that could be allocated in a zone: now, after compaction, and after purges and
-- compaction.
abbrev pub largest_of : List Block → Largest
largest_of zone = record { now = largest_free zone; compacted = largest_run zone; purged = largest_purged zone }

-- The words for classes.
abbrev pub class_text : Class → List ℕ
class_text class.Free = codes "free"
class_text class.Nonrelocatable = codes "nonrelocatable"
class_text class.Masters = codes "master pointers"
class_text class.Relocatable = codes "relocatable"
class_text class.Locked = codes "locked"
class_text class.Purgeable = codes "may be purged"
class_text class.Unmarked = codes "relocatable"
class_text class.LockedOnly = codes "locked"
class_text class.Both = codes "locked and purgeable"
class_text class.All = codes "zone"

-- The line with the totals of a class; those of the kinds; and those of the marked blocks and of the whole zone.
abbrev pub total_text : Digits → Style → List Line → Class → List ℕ
total_text d s lines c = opened s (codes "total") ++ left s 15 (class_text c) ++ between s
    ++ right s 9 (decimal (counted c lines)) ++ between s ++ right s 9 (size_text d (sized c lines)) ++ codes "\n"

abbrev pub kinds_text : Digits → Style → List Line → List ℕ
kinds_text d s lines = total_text d s lines class.Free ++ total_text d s lines class.Nonrelocatable
    ++ total_text d s lines class.Masters ++ total_text d s lines class.Relocatable

abbrev pub marks_text : Digits → Style → List Line → List ℕ
marks_text d s lines =
    total_text d s lines class.Locked ++ total_text d s lines class.Purgeable ++ total_text d s lines class.All

-- The line with a size that could be allocated, and those of all three.
abbrev pub largest_line : Digits → Style → List ℕ → ℕ → List ℕ
largest_line d s word n =
    opened s (codes "largest") ++ left s 15 word ++ between s ++ right s 19 (size_text d n) ++ codes "\n"

abbrev pub largest_text : Digits → Style → Largest → List ℕ
largest_text d s l = largest_line d s (codes "largest now") l.now ++ largest_line d s (codes "compacted") l.compacted
    ++ largest_line d s (codes "purged too") l.purged

-- What stands above the totals, and below them.
abbrev pub totals_head : Style → List ℕ
totals_head style.Tabs = []
totals_head (style.Columns names) = codes "\n                   blocks     bytes\n"

abbrev pub totals_end : Style → List ℕ
totals_end style.Tabs = []
totals_end (style.Columns names) = codes "\n"

-- The totals of a zone; and the line that says after which step it is shown.
abbrev pub totals_text : Digits → Style → List Line → Largest → List ℕ
totals_text d s lines l =
    totals_head s ++ kinds_text d s lines ++ marks_text d s lines ++ largest_text d s l ++ totals_end s

abbrev pub after_text : Style → List ℕ → List ℕ
after_text s step = codes "after" ++ between s ++ step ++ codes "\n"
