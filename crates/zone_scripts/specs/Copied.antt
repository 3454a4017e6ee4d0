use Rattle.std.specs.Prelude.{ℕ, ◌-◌, Bool, false, nat_le, List, map, ◌≡◌, ⊤}
use Rattle.block_store.specs.declared.measures.TheConstants.{GREATEST_ZONE}
use Rattle.real_zone.specs.Seen.{blocks_of}
use Rattle.real_zone.specs.declared.block.Block.{Block}
use Rattle.real_zone.specs.declared.block.Kind.{Kind}
use Rattle.real_zone.specs.declared.block.Kind.TheVariants as kind
use Rattle.real_zone.specs.declared.form.Form.{Form}
use Rattle.zone_scripts.specs.Parts.{Part, Relocated, Fixed, Gap, partition_of}
use Rattle.zone_scripts.specs.declared.fault.ScriptFault.{ScriptFault}
use Rattle.zone_scripts.specs.declared.fault.ScriptFault.TheVariants as fault

-- The parts for the blocks of a zone in a dump.

-- The logical size of the nonrelocatable block that holds the place of a free block: with a header of 16 bytes it has the size of the free
-- block, rounded up to a multiple of 16.
abbrev pub gap_size : ℕ → ℕ
gap_size size = size - 16

-- The part for a block. A zone that keeps all rules has no block of an unknown kind.
abbrev pub part_as : Kind → Block → Part
part_as kind.Free block = Gap block.address (gap_size block.physical_size)
part_as kind.Nonrelocatable block = Fixed block.address block.logical_size
part_as (kind.Relocatable master) block =
    Relocated master.address (record { locked = master.is_locked; purgeable = master.is_purgeable }) block.logical_size
part_as kind.Unknown block = Fixed block.address block.logical_size

abbrev pub part_of : Block → Part
part_of block = part_as block.kind block

-- The parts for blocks, and for those of a zone.
abbrev pub parts_of : List Block → List Part
parts_of blocks = map part_of blocks

abbrev pub parts_in : Form → ℕ → List ℕ → List Part
parts_in form zone bytes = parts_of (blocks_of form zone bytes)

-- A partition can have the size that the parts need.
abbrev pub fits : List Part → Bool
fits parts = nat_le (partition_of parts) GREATEST_ZONE

-- A script is refused for parts that no partition has room for; if the host is out of memory nothing is said of them.
abbrev pub Refuses : ScriptFault → Bool → Type 0
Refuses fault.HostMemory fits = ⊤
Refuses fault.TooLarge fits = fits ≡ false
