use Rattle.std.specs.Prelude.{ℕ, ◌+◌, ◌%◌, ◌==◌, Bool, ◌&&◌, not, nat_le, nat_lt, if◌then◌else◌}
use Rattle.std.specs.Prelude.{List, [], ◌∷◌, ◌++◌, length, map, Option, Some, None}
use Rattle.std.specs.List.{flat_map}
use Rattle.std.specs.Option.{option_to_list}
use Rattle.real_zone.specs.Numbers.{number}
use Rattle.real_zone.specs.Lists.{is_empty}
use Rattle.real_zone.specs.Form.{header_size, alignment, address_in}
use Rattle.real_zone.specs.Header.{tag_at, size_at, correction_at, owner_at}
use Rattle.real_zone.specs.Blocks.{has_room, is_size, block_places}
use Rattle.real_zone.specs.declared.form.Form.{Form}
use Rattle.real_zone.specs.declared.form.Tag.{Tag}
use Rattle.real_zone.specs.declared.form.Tag.TheVariants as tag
use Rattle.real_zone.specs.declared.fault.Rule.{Rule}
use Rattle.real_zone.specs.declared.fault.Rule.TheVariants as rule
use Rattle.real_zone.specs.declared.fault.Damage.{Damage}

-- The rules that each block of a zone keeps. A block breaks at most one rule of its length, one of its kind or size correction,
-- and one of whom it names.
-- Inside Macintosh: Memory, chapter 2, "Block Headers"; chapter 1, "Relocatable and Nonrelocatable Blocks".

-- A master pointer may stand at a place.
unfoldable pub is_master_place : Form → List ℕ → ℕ → Bool
is_master_place form bytes at = nat_le 52 at && nat_le (at + 4) (length bytes) && at % alignment form == 0

-- The address in the master pointer at a place; in a 24-bit zone its high byte has flags.
abbrev pub master_at : Form → List ℕ → ℕ → ℕ
master_at form bytes at = address_in form (number 4 at bytes)

-- The rule that the physical size of a block breaks.
unfoldable pub length_rule : Form → List ℕ → ℕ → Option Rule
length_rule form bytes at =
    if not (is_size form (size_at form bytes at)) then Some rule.BlockLength
    else if nat_lt (length bytes) (at + size_at form bytes at) then Some rule.HeapLength
    else None

-- The rule that the size correction of a block in use breaks.
unfoldable pub correction_rule : Form → List ℕ → ℕ → Option Rule
correction_rule form bytes at =
    if nat_lt (size_at form bytes at) (header_size form + correction_at form bytes at) then Some rule.SizeCorrection else None

-- The rule that the zone pointer of a nonrelocatable block breaks.
unfoldable pub zone_rule : Form → ℕ → List ℕ → ℕ → Option Rule
zone_rule form zone bytes at =
    if not (address_in form (owner_at form bytes at) == zone) then Some rule.ZoneOfBlock else None

-- The rule that the relative handle of a relocatable block breaks, or the master pointer to which it leads.
unfoldable pub handle_rule : Form → ℕ → List ℕ → ℕ → Option Rule
handle_rule form zone bytes at =
    if not (is_master_place form bytes (owner_at form bytes at)) then Some rule.RelativeHandle
    else if not (master_at form bytes (owner_at form bytes at) == zone + at + header_size form) then Some rule.MasterPointer
    else None

-- The rule that the kind of a block or its size correction breaks.
unfoldable pub kind_rule : Option Tag → Form → List ℕ → ℕ → Option Rule
kind_rule None form bytes at = Some rule.BlockType
kind_rule (Some tag.Free) form bytes at = None
kind_rule (Some tag.Nonrelocatable) form bytes at = correction_rule form bytes at
kind_rule (Some tag.Relocatable) form bytes at = correction_rule form bytes at

-- The rule that whom a block names breaks.
unfoldable pub owner_rule : Option Tag → Form → ℕ → List ℕ → ℕ → Option Rule
owner_rule None form zone bytes at = None
owner_rule (Some tag.Free) form zone bytes at = None
owner_rule (Some tag.Nonrelocatable) form zone bytes at = zone_rule form zone bytes at
owner_rule (Some tag.Relocatable) form zone bytes at = handle_rule form zone bytes at

-- The rules that the block at a place breaks.
unfoldable pub block_rules : Form → ℕ → List ℕ → ℕ → List Rule
block_rules form zone bytes at =
    if not (has_room bytes at) then rule.HeapLength ∷ []
    else option_to_list (length_rule form bytes at) ++ option_to_list (kind_rule (tag_at bytes at) form bytes at)
    ++ option_to_list (owner_rule (tag_at bytes at) form zone bytes at)

-- The block at a place keeps all rules.
unfoldable pub keeps_rules : Form → ℕ → List ℕ → ℕ → Bool
keeps_rules form zone bytes at = is_empty (block_rules form zone bytes at)

-- A rule that is broken at an address.
abbrev pub broken : ℕ → Rule → Damage
broken address rule = record { rule = rule; address = address }

-- What is wrong with the block at a place.
unfoldable pub block_damages : Form → ℕ → List ℕ → ℕ → List Damage
block_damages form zone bytes at = map (broken (zone + at)) (block_rules form zone bytes at)

-- What is wrong with the blocks of a zone.
abbrev pub damages_of_blocks : Form → ℕ → List ℕ → List Damage
damages_of_blocks form zone bytes = flat_map (block_damages form zone bytes) (block_places form bytes)
