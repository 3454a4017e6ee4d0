use Rattle.real_zone.proofs.Cited.{◌≡◌, ℕ, Bool, List, [], ◌∷◌, ◌++◌, take, drop, length, ◌+◌, replicate, refl, true, false, number, first}
use Rattle.real_zone.proofs.Cited.{is_passable, places, free_size, is_master_place, length_rule, correction_rule, zone_rule, handle_rule}
use Rattle.real_zone.proofs.Cited.{kind_rule, owner_rule, block_rules, block_damages, broken, covers, is_covered, may_be_free, list_damages}
use Rattle.real_zone.proofs.Cited.{damages, damages_of_zone, flags_at, master_of, kind_of, logical_size, block_at, blocks_of, blocks_passed}
use Rattle.real_zone.proofs.Cited.{Block}
use Rattle.std.specs.Prelude.{Some}
use Rattle.real_zone.specs.declared.form.Form.TheVariants as form
use Rattle.real_zone.specs.declared.block.Kind.TheVariants as kind
use Rattle.real_zone.specs.declared.fault.Rule.TheVariants as rule

-- Worked zones, laid by hand from the figures of Inside Macintosh: Memory, chapter 2, and each rule broken in turn.

-- A 24-bit zone at 1000: a block of four master pointers at 52, of which the last two are free; a locked relocatable block of
-- 6 bytes at 76; 16 free bytes at 92; and a purgeable resource of 4 bytes at 108. bkLim is 1078.
abbrev record24 : List ℕ
record24 =
    (0 ∷ 0 ∷ 0x10 ∷ 0x78 ∷ 0 ∷ 0 ∷ 0 ∷ 0 ∷ 0 ∷ 0 ∷ 0x10 ∷ 0x44 ∷ 0 ∷ 0 ∷ 0 ∷ 16 ∷ []) ++ replicate 4 0 ++ (0 ∷ 4 ∷ [])
    ++ replicate 30 0

abbrev masters24 : List ℕ
masters24 =
    (0x40 ∷ 0 ∷ 0 ∷ 24 ∷ 0 ∷ 0 ∷ 0x10 ∷ 0 ∷ []) ++ (0x80 ∷ 0 ∷ 0x10 ∷ 0x54 ∷ 0x60 ∷ 0 ∷ 0x10 ∷ 0x74 ∷ [])
    ++ (0 ∷ 0 ∷ 0x10 ∷ 0x48 ∷ 0 ∷ 0 ∷ 0 ∷ 0 ∷ [])

abbrev blocks24 : List ℕ
blocks24 =
    (0x82 ∷ 0 ∷ 0 ∷ 16 ∷ 0 ∷ 0 ∷ 0 ∷ 60 ∷ []) ++ replicate 8 0xAA ++ (0 ∷ 0 ∷ 0 ∷ 16 ∷ []) ++ replicate 12 0xFF
    ++ (0x80 ∷ 0 ∷ 0 ∷ 12 ∷ 0 ∷ 0 ∷ 0 ∷ 64 ∷ []) ++ replicate 4 0xBB

abbrev zone24 : List ℕ
zone24 = record24 ++ masters24 ++ blocks24

-- A 32-bit zone at 2000: a block of four master pointers at 52, of which the last two are free; a locked relocatable block of
-- 14 bytes at 80; 16 free bytes at 112; and a purgeable resource of 4 bytes at 128. bkLim is 2090.
abbrev record32 : List ℕ
record32 =
    (0 ∷ 0 ∷ 0x20 ∷ 0x90 ∷ 0 ∷ 0 ∷ 0 ∷ 0 ∷ 0 ∷ 0 ∷ 0x20 ∷ 0x48 ∷ 0 ∷ 0 ∷ 0 ∷ 16 ∷ []) ++ replicate 4 0 ++ (0 ∷ 4 ∷ [])
    ++ replicate 30 0

abbrev masters32 : List ℕ
masters32 =
    (0x40 ∷ 0 ∷ 0 ∷ 0 ∷ 0 ∷ 0 ∷ 0 ∷ 28 ∷ 0 ∷ 0 ∷ 0x20 ∷ 0 ∷ []) ++ (0 ∷ 0 ∷ 0x20 ∷ 0x5C ∷ 0 ∷ 0 ∷ 0x20 ∷ 0x8C ∷ [])
    ++ (0 ∷ 0 ∷ 0x20 ∷ 0x4C ∷ 0 ∷ 0 ∷ 0 ∷ 0 ∷ [])

abbrev blocks32 : List ℕ
blocks32 =
    (0x80 ∷ 0x80 ∷ 0 ∷ 6 ∷ 0 ∷ 0 ∷ 0 ∷ 32 ∷ 0 ∷ 0 ∷ 0 ∷ 64 ∷ []) ++ replicate 20 0xAA
    ++ (0 ∷ 0 ∷ 0 ∷ 0 ∷ 0 ∷ 0 ∷ 0 ∷ 16 ∷ []) ++ replicate 8 0xFF
    ++ (0x80 ∷ 0x60 ∷ 0 ∷ 0 ∷ 0 ∷ 0 ∷ 0 ∷ 16 ∷ 0 ∷ 0 ∷ 0 ∷ 68 ∷ []) ++ replicate 4 0xBB

abbrev zone32 : List ℕ
zone32 = record32 ++ masters32 ++ blocks32

-- bytes with other ones at an offset
abbrev with : ℕ → List ℕ → List ℕ → List ℕ
with at new bytes = take at bytes ++ new ++ drop (at + length new) bytes

-- nothing is wrong with them, in a dump of just the zone or a larger one, nor where the high byte of an address is not clear
sound : (damages form.Bits24 zone24 0x1000 0x1000 ≡ [])
    × (damages form.Bits32 zone32 0x2000 0x2000 ≡ [])
    × (damages form.Bits24 (replicate 4 0 ++ zone24 ++ replicate 12 1) 0x0FFC 0x1000 ≡ [])
    × (damages form.Bits24 (with 0 (0xAB ∷ []) zone24) 0x1000 0x1000 ≡ [])
    × (damages form.Bits24 (with 8 (0xAB ∷ []) zone24) 0x1000 0x1000 ≡ [])
    × (damages form.Bits24 (with 56 (0xAB ∷ []) zone24) 0x1000 0x1000 ≡ [])
unfolding number is_passable places free_size is_master_place length_rule correction_rule zone_rule handle_rule kind_rule owner_rule
    block_rules block_damages covers is_covered may_be_free list_damages damages damages_of_zone
sound = (refl, refl, refl, refl, refl, refl)

-- the zone record cut off, or below the dump
no_record : (damages form.Bits24 (take 51 zone24) 0x1000 0x1000 ≡ broken 0x1000 rule.ZonePointer ∷ [])
    × (damages form.Bits24 zone24 0x1001 0x1000 ≡ broken 0x1000 rule.ZonePointer ∷ [])
unfolding number is_passable places free_size is_master_place length_rule correction_rule zone_rule handle_rule kind_rule owner_rule
    block_rules block_damages covers is_covered may_be_free list_damages damages damages_of_zone
no_record = (refl, refl)

-- bkLim below heapData, or past the dump
no_limit : (damages form.Bits24 (with 3 (0x33 ∷ []) zone24) 0x1000 0x1000 ≡ broken 0x1000 rule.Limit ∷ [])
    × (damages form.Bits24 (take 119 zone24) 0x1000 0x1000 ≡ broken 0x1000 rule.Limit ∷ [])
unfolding number is_passable places free_size is_master_place length_rule correction_rule zone_rule handle_rule kind_rule owner_rule
    block_rules block_damages covers is_covered may_be_free list_damages damages damages_of_zone
no_limit = (refl, refl)

-- the last block goes past bkLim: that is too low, or the block too long
too_long : (damages form.Bits24 (with 3 (0x74 ∷ []) zone24) 0x1000 0x1000 ≡ broken 0x106C rule.HeapLength ∷ [])
    × (damages form.Bits24 (with 111 (16 ∷ []) zone24) 0x1000 0x1000 ≡ broken 0x106C rule.HeapLength ∷ [])
    × (damages form.Bits32 (with 135 (20 ∷ []) zone32) 0x2000 0x2000 ≡ broken 0x2080 rule.HeapLength ∷ [])
unfolding number is_passable places free_size is_master_place length_rule correction_rule zone_rule handle_rule kind_rule owner_rule
    block_rules block_damages covers is_covered may_be_free list_damages damages damages_of_zone
too_long = (refl, refl, refl)

-- a tag of no kind
other_kind : (damages form.Bits24 (with 76 (0xC2 ∷ []) zone24) 0x1000 0x1000 ≡ broken 0x104C rule.BlockType ∷ [])
    × (damages form.Bits32 (with 80 (0xC0 ∷ []) zone32) 0x2000 0x2000 ≡ broken 0x2050 rule.BlockType ∷ [])
unfolding number is_passable places free_size is_master_place length_rule correction_rule zone_rule handle_rule kind_rule owner_rule
    block_rules block_damages covers is_covered may_be_free list_damages damages damages_of_zone
other_kind = (refl, refl)

-- an odd size, one below the least (which leaves no content either), and one of two bytes more in a 32-bit zone: the walk ends there
no_length : (damages form.Bits24 (with 79 (17 ∷ []) zone24) 0x1000 0x1000 ≡ broken 0x104C rule.BlockLength ∷ [])
    × (damages form.Bits24 (with 79 (8 ∷ []) zone24) 0x1000 0x1000
    ≡ broken 0x104C rule.BlockLength ∷ broken 0x104C rule.SizeCorrection ∷ [])
    × (damages form.Bits32 (with 87 (30 ∷ []) zone32) 0x2000 0x2000 ≡ broken 0x2050 rule.BlockLength ∷ [])
unfolding number is_passable places free_size is_master_place length_rule correction_rule zone_rule handle_rule kind_rule owner_rule
    block_rules block_damages covers is_covered may_be_free list_damages damages damages_of_zone
no_length = (refl, refl, refl)

-- a size correction that leaves less than nothing
no_content : (damages form.Bits24 (with 108 (0x85 ∷ []) zone24) 0x1000 0x1000 ≡ broken 0x106C rule.SizeCorrection ∷ [])
    × (damages form.Bits32 (with 131 (5 ∷ []) zone32) 0x2000 0x2000 ≡ broken 0x2080 rule.SizeCorrection ∷ [])
unfolding number is_passable places free_size is_master_place length_rule correction_rule zone_rule handle_rule kind_rule owner_rule
    block_rules block_damages covers is_covered may_be_free list_damages damages damages_of_zone
no_content = (refl, refl)

-- a nonrelocatable block that names another zone
other_zone : (damages form.Bits24 (with 59 (4 ∷ []) zone24) 0x1000 0x1000 ≡ broken 0x1034 rule.ZoneOfBlock ∷ [])
    × (damages form.Bits32 (with 62 (0x21 ∷ []) zone32) 0x2000 0x2000 ≡ broken 0x2034 rule.ZoneOfBlock ∷ [])
unfolding number is_passable places free_size is_master_place length_rule correction_rule zone_rule handle_rule kind_rule owner_rule
    block_rules block_damages covers is_covered may_be_free list_damages damages damages_of_zone
other_zone = (refl, refl)

-- a relative handle below heapData, at bkLim, and at an odd place
no_handle : (damages form.Bits24 (with 83 (48 ∷ []) zone24) 0x1000 0x1000 ≡ broken 0x104C rule.RelativeHandle ∷ [])
    × (damages form.Bits24 (with 83 (120 ∷ []) zone24) 0x1000 0x1000 ≡ broken 0x104C rule.RelativeHandle ∷ [])
    × (damages form.Bits24 (with 83 (61 ∷ []) zone24) 0x1000 0x1000 ≡ broken 0x104C rule.RelativeHandle ∷ [])
    × (damages form.Bits32 (with 91 (66 ∷ []) zone32) 0x2000 0x2000 ≡ broken 0x2050 rule.RelativeHandle ∷ [])
unfolding number is_passable places free_size is_master_place length_rule correction_rule zone_rule handle_rule kind_rule owner_rule
    block_rules block_damages covers is_covered may_be_free list_damages damages damages_of_zone
no_handle = (refl, refl, refl, refl)

-- a master pointer that leads elsewhere
other_block : (damages form.Bits24 (with 63 (0x58 ∷ []) zone24) 0x1000 0x1000 ≡ broken 0x104C rule.MasterPointer ∷ [])
    × (damages form.Bits32 (with 64 (0x80 ∷ []) zone32) 0x2000 0x2000 ≡ broken 0x2050 rule.MasterPointer ∷ [])
unfolding number is_passable places free_size is_master_place length_rule correction_rule zone_rule handle_rule kind_rule owner_rule
    block_rules block_damages covers is_covered may_be_free list_damages damages damages_of_zone
other_block = (refl, refl)

-- a list of free master pointers that begins in a relocatable block, or where a nonrelocatable one has two bytes left
no_free_master : (damages form.Bits24 (with 11 (0x54 ∷ []) zone24) 0x1000 0x1000 ≡ broken 0x1054 rule.FreeMaster ∷ [])
    × (damages form.Bits24 (with 11 (0x4A ∷ []) zone24) 0x1000 0x1000 ≡ broken 0x104A rule.FreeMaster ∷ [])
    × (damages form.Bits32 (with 11 (0x4E ∷ []) zone32) 0x2000 0x2000 ≡ broken 0x204E rule.FreeMaster ∷ [])
unfolding number is_passable places free_size is_master_place length_rule correction_rule zone_rule handle_rule kind_rule owner_rule
    block_rules block_damages covers is_covered may_be_free list_damages damages damages_of_zone
no_free_master = (refl, refl, refl)

-- a list that comes back to its first one
circle : (damages form.Bits24 (with 74 (0x10 ∷ 0x44 ∷ []) zone24) 0x1000 0x1000 ≡ broken 0x1044 rule.EndlessList ∷ [])
    × (damages form.Bits32 (with 78 (0x20 ∷ 0x48 ∷ []) zone32) 0x2000 0x2000 ≡ broken 0x2048 rule.EndlessList ∷ [])
unfolding number is_passable places free_size is_master_place length_rule correction_rule zone_rule handle_rule kind_rule owner_rule
    block_rules block_damages covers is_covered may_be_free list_damages damages damages_of_zone
circle = (refl, refl)

-- a wrong number of free bytes
other_sum : (damages form.Bits24 (with 15 (12 ∷ []) zone24) 0x1000 0x1000 ≡ broken 0x1000 rule.FreeBytes ∷ [])
    × (damages form.Bits32 (with 15 (0 ∷ []) zone32) 0x2000 0x2000 ≡ broken 0x2000 rule.FreeBytes ∷ [])
unfolding number is_passable places free_size is_master_place length_rule correction_rule zone_rule handle_rule kind_rule owner_rule
    block_rules block_damages covers is_covered may_be_free list_damages damages damages_of_zone
other_sum = (refl, refl)

-- several things wrong, in the order of the definition
several : (damages form.Bits24 (with 15 (12 ∷ []) (with 59 (4 ∷ []) (with 63 (0x58 ∷ []) zone24))) 0x1000 0x1000
    ≡ broken 0x1034 rule.ZoneOfBlock ∷ broken 0x104C rule.MasterPointer ∷ broken 0x1000 rule.FreeBytes ∷ [])
unfolding number is_passable places free_size is_master_place length_rule correction_rule zone_rule handle_rule kind_rule owner_rule
    block_rules block_damages covers is_covered may_be_free list_damages damages damages_of_zone
several = refl

-- in the other form they are no zones
other_form : (first (damages form.Bits32 zone24 0x1000 0x1000) ≡ Some (broken 0x1034 rule.HeapLength))
    × (first (damages form.Bits24 zone32 0x2000 0x2000) ≡ Some (broken 0x2034 rule.BlockLength))
unfolding number is_passable places free_size is_master_place length_rule correction_rule zone_rule handle_rule kind_rule owner_rule
    block_rules block_damages covers is_covered may_be_free list_damages damages damages_of_zone
other_form = (refl, refl)

-- their blocks
abbrev free : ℕ → ℕ → ℕ → Block
free address size logical = record { address = address; physical_size = size; logical_size = logical; kind = kind.Free }

abbrev fixed : ℕ → ℕ → ℕ → Block
fixed address size logical = record { address = address; physical_size = size; logical_size = logical; kind = kind.Nonrelocatable }

abbrev movable : ℕ → ℕ → ℕ → ℕ → Bool → Bool → Bool → Block
movable address size logical master locked purgeable resource = record {
  address = address;
  physical_size = size;
  logical_size = logical;
  kind = kind.Relocatable (record {
    address = master;
    is_locked = locked;
    is_purgeable = purgeable;
    is_resource = resource;
  });
}

seen24 : blocks_of form.Bits24 0x1000 zone24 ≡ fixed 0x1034 24 16 ∷ movable 0x104C 16 6 0x103C true false false
    ∷ free 0x105C 16 8 ∷ movable 0x106C 12 4 0x1040 false true true ∷ []
unfolding number is_passable places flags_at master_of kind_of logical_size block_at
seen24 = refl

seen32 : blocks_of form.Bits32 0x2000 zone32 ≡ fixed 0x2034 28 16 ∷ movable 0x2050 32 14 0x2040 true false false
    ∷ free 0x2070 16 4 ∷ movable 0x2080 16 4 0x2044 false true true ∷ []
unfolding number is_passable places flags_at master_of kind_of logical_size block_at
seen32 = refl

-- of a damaged zone those that are passed: one of no kind too, and one whose relative handle leads past bkLim; not one whose size is bad
damaged24 : (blocks_passed form.Bits24 0x1000 (with 76 (0xC2 ∷ []) (with 114 (0x10 ∷ []) zone24))
    ≡ fixed 0x1034 24 16 ∷ record { address = 0x104C; physical_size = 16; logical_size = 6; kind = kind.Unknown }
    ∷ free 0x105C 16 8 ∷ movable 0x106C 12 4 0x2040 false false false ∷ [])
    × (blocks_passed form.Bits24 0x1000 (with 79 (17 ∷ []) zone24) ≡ fixed 0x1034 24 16 ∷ [])
unfolding number is_passable places flags_at master_of kind_of logical_size block_at
damaged24 = (refl, refl)
