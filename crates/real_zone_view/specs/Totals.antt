use Rattle.std.specs.Prelude.{ℕ, ◌+◌, Bool, true, false, ◌&&◌, not, List, [], ◌∷◌, ◌++◌, codes, decimal, Option, if◌then◌else◌}
use Rattle.real_zone.specs.declared.form.Form.{Form}
use Rattle.real_zone.specs.Seen.{blocks_passed}
use Rattle.real_zone.specs.Resources.{resource_of}
use Rattle.real_zone.specs.declared.resource_map.Resource.{Resource}
use Rattle.real_zone.specs.declared.block.Block.{Block}
use Rattle.real_zone.specs.declared.block.Kind.{Kind}
use Rattle.real_zone.specs.declared.block.Kind.TheVariants as kind
use Rattle.real_zone_view.specs.declared.totals.Class.{Class}
use Rattle.real_zone_view.specs.declared.totals.Class.TheVariants as class
use Rattle.real_zone_view.specs.declared.style.Fields.{Fields}
use Rattle.real_zone_view.specs.declared.style.Style.{Style}
use Rattle.real_zone_view.specs.Fields.{first_field, right_field, size_field}
use Rattle.real_zone_view.specs.Text.{begin, titled, is_locked, is_purgeable, head_text, lines_text}

-- The totals of a zone, as MacsBug's command HT gives them: how many blocks there are of each class, and how many bytes they have.

abbrev pub is_free : Kind → Bool
is_free kind.Free = true
is_free kind.Nonrelocatable = false
is_free (kind.Relocatable master) = false
is_free kind.Unknown = false

abbrev pub is_nonrelocatable : Kind → Bool
is_nonrelocatable kind.Free = false
is_nonrelocatable kind.Nonrelocatable = true
is_nonrelocatable (kind.Relocatable master) = false
is_nonrelocatable kind.Unknown = false

abbrev pub is_relocatable : Kind → Bool
is_relocatable kind.Free = false
is_relocatable kind.Nonrelocatable = false
is_relocatable (kind.Relocatable master) = true
is_relocatable kind.Unknown = false

-- The blocks of a class: of a kind; of the relocatable ones those that are locked, and those that may be purged; or all.
unfoldable pub in_class : Class → Kind → Bool
in_class class.Free k = is_free k
in_class class.Nonrelocatable k = is_nonrelocatable k
in_class class.Relocatable k = is_relocatable k
in_class class.Locked k = is_locked k
in_class class.Purgeable k = is_purgeable k && not (is_locked k)
in_class class.All k = true

-- How many blocks of a class there are, and their physical sizes, summed.
abbrev pub counted : Class → List Block → ℕ
counted c [] = 0
counted c (b ∷ blocks) = (if in_class c b.kind then 1 else 0) + counted c blocks

abbrev pub sized : Class → List Block → ℕ
sized c [] = 0
sized c (b ∷ blocks) = (if in_class c b.kind then b.physical_size else 0) + sized c blocks

-- What a class is called.
abbrev pub class_text : Class → List ℕ
class_text class.Free = codes "free"
class_text class.Nonrelocatable = codes "nonrelocatable"
class_text class.Relocatable = codes "relocatable"
class_text class.Locked = codes "locked"
class_text class.Purgeable = codes "purgeable"
class_text class.All = codes "all"

-- The line of a class: its name, the number of blocks, and their bytes.
unfoldable pub total_text : Style → Class → List Block → List ℕ
total_text style c blocks =
    begin style.fields (codes "total") ++ first_field style.fields 15 (class_text c)
    ++ right_field style.fields 8 (decimal (counted c blocks)) ++ size_field style 11 (sized c blocks) ++ codes "\n"

-- The lines of the kinds, and of what is marked and all.
unfoldable pub kinds_text : Style → List Block → List ℕ
kinds_text style blocks =
    total_text style class.Free blocks ++ total_text style class.Nonrelocatable blocks
    ++ total_text style class.Relocatable blocks

unfoldable pub marks_text : Style → List Block → List ℕ
marks_text style blocks =
    total_text style class.Locked blocks ++ total_text style class.Purgeable blocks ++ total_text style class.All blocks

-- The titles of the columns of totals.
abbrev pub totals_head : Fields → List ℕ
totals_head f = titled f (codes "\nwhat             blocks      bytes\n")

unfoldable pub totals_text : Style → List Block → List ℕ
totals_text style blocks = totals_head style.fields ++ kinds_text style blocks ++ marks_text style blocks

-- The text of a zone's blocks, where handles have these resources: a line for each, and the totals.
unfoldable pub blocks_text : Style → (ℕ → Option Resource) → List Block → List ℕ
blocks_text style named blocks = head_text style.fields ++ lines_text style named blocks ++ totals_text style blocks

-- The text of a zone: of its blocks, if it is damaged of those that are passed, with the resources that the resource maps in it name.
abbrev pub zone_text : Style → Form → ℕ → List ℕ → List ℕ
zone_text style form zone bytes = blocks_text style (resource_of form bytes) (blocks_passed form zone bytes)
