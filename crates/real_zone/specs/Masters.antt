use Rattle.std.specs.Prelude.{ℕ, zero, suc, ◌+◌, ◌-◌, ◌/◌, ◌==◌, Bool, ◌&&◌, not, nat_le, if◌then◌else◌}
use Rattle.std.specs.Prelude.{List, [], ◌∷◌, length}
use Rattle.std.specs.List.{list_any, flat_map}
use Rattle.real_zone.specs.Numbers.{number}
use Rattle.real_zone.specs.Form.{header_size, address_in}
use Rattle.real_zone.specs.Header.{tag_at, size_at}
use Rattle.real_zone.specs.Blocks.{is_nonrelocatable, block_places}
use Rattle.real_zone.specs.Rules.{is_master_place, master_at, broken}
use Rattle.real_zone.specs.declared.form.Form.{Form}
use Rattle.real_zone.specs.declared.fault.Rule.TheVariants as rule
use Rattle.real_zone.specs.declared.fault.Damage.{Damage}

-- The free master pointers of a zone: they stand in nonrelocatable blocks, and each has the address of the next one, the last
-- one 0; hFstFree in the zone record has the address of the first.
-- Inside Macintosh: Memory, chapter 2, "Heap Zones"; chapter 1, "Relocatable and Nonrelocatable Blocks".

-- The four bytes at a place are content of the block at another, which is nonrelocatable.
unfoldable pub covers : Form → List ℕ → ℕ → ℕ → Bool
covers form bytes master at =
    is_nonrelocatable (tag_at bytes at) && nat_le (at + header_size form) master
    && nat_le (master + 4) (at + size_at form bytes at)

-- They are content of a nonrelocatable block of the zone.
unfoldable pub is_covered : Form → List ℕ → ℕ → Bool
is_covered form bytes master = list_any (covers form bytes master) (block_places form bytes)

-- A free master pointer may stand at a place.
unfoldable pub may_be_free : Form → List ℕ → ℕ → Bool
may_be_free form bytes master = is_master_place form bytes master && is_covered form bytes master

-- What is wrong with a list of free master pointers, of at most so many, whose first one stands at an address.
unfoldable pub list_damages : Form → ℕ → List ℕ → ℕ → ℕ → List Damage
list_damages form zone bytes zero address = if address == 0 then [] else broken address rule.EndlessList ∷ []
list_damages form zone bytes (suc n) address =
    if address == 0 then []
    else if not (may_be_free form bytes (address - zone)) then broken address rule.FreeMaster ∷ []
    else list_damages form zone bytes n (master_at form bytes (address - zone))

-- The address of the first free master pointer: hFstFree.
abbrev pub first_free : Form → List ℕ → ℕ
first_free form bytes = address_in form (number 4 8 bytes)

-- What is wrong with the free master pointers of a zone. A list of more of them than the zone has bytes comes back to one that it
-- has passed.
abbrev pub damages_of_list : Form → ℕ → List ℕ → List Damage
damages_of_list form zone bytes = list_damages form zone bytes (length bytes) (first_free form bytes)

-- Which of so many places, each two bytes after the one before it, are content of the block at another.
unfoldable pub marks : Form → List ℕ → ℕ → ℕ → ℕ → List Bool
marks form bytes at zero master = []
marks form bytes at (suc n) master = covers form bytes master at ∷ marks form bytes at n (master + 2)

-- The same for all even places of a block, and for those of all blocks.
unfoldable pub block_marks : Form → List ℕ → ℕ → List Bool
block_marks form bytes at = marks form bytes at (size_at form bytes at / 2) at

abbrev pub zone_marks : Form → List ℕ → List Bool
zone_marks form bytes = flat_map (block_marks form bytes) (block_places form bytes)
