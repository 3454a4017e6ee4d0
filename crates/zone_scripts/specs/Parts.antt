use Rattle.std.specs.Prelude.{ℕ, ◌+◌, ◌-◌, ◌*◌, ◌/◌, suc, max, List, [], ◌∷◌, ◌++◌, replicate}
use Rattle.mac_words.specs.Size.{padded}
use Rattle.block_store.specs.declared.flags.Flags.{Flags}
use Rattle.block_store.specs.declared.measures.TheConstants.{MASTERS_SIZE, LEAST_ZONE, SLOTS_A_BLOCK}
use Rattle.block_store.specs.Block.{Block, Free, Nonrelocatable, Masters, Relocatable, tidy, free}

-- The zone that a script makes anew of a zone in a dump: each block of the dump has a part in it. Inside Macintosh: Memory,
-- chapter 1, "Heap Management".

-- A part of the zone: a relocatable block with its logical size and its flags, named by the address of its master pointer; a
-- nonrelocatable block with its logical size, named by its own address; and a free block, which takes the place of a nonrelocatable
-- block of that logical size.
pub data Part : Type 0 where
  Relocated : (master : ℕ) (flags : Flags) (size : ℕ) → Part
  Fixed : (address : ℕ) (size : ℕ) → Part
  Gap : (address : ℕ) (size : ℕ) → Part

-- The logical size of a part, and the physical size of its block.
abbrev pub logical : Part → ℕ
logical (Relocated master flags size) = size
logical (Fixed address size) = size
logical (Gap address size) = size

abbrev pub physical : Part → ℕ
physical p = padded (logical p)

-- The block of the n-th part.
abbrev pub block_of : ℕ → Part → Block
block_of n (Relocated master flags size) = Relocatable n flags (replicate size 0)
block_of n (Fixed address size) = Nonrelocatable n (replicate size 0)
block_of n (Gap address size) = Free (padded size)

-- The blocks of parts, the first of which is the n-th.
abbrev pub numbered : (ℕ → Part → Block) → ℕ → List Part → List Block
numbered block n [] = []
numbered block n (p ∷ parts) = block n p ∷ numbered block (suc n) parts

-- How many of the parts have handles.
abbrev pub handle_of : Part → ℕ
handle_of (Relocated master flags size) = 1
handle_of (Fixed address size) = 0
handle_of (Gap address size) = 0

abbrev pub handles : List Part → ℕ
handles [] = 0
handles (p ∷ parts) = handle_of p + handles parts

-- The bytes of the blocks of the parts.
abbrev pub bytes_of : List Part → ℕ
bytes_of [] = 0
bytes_of (p ∷ parts) = physical p + bytes_of parts

-- How many master pointer blocks are made beside the one that a fresh zone has: a block has 64 master pointers, and each handle takes one.
abbrev pub more_masters : List Part → ℕ
more_masters parts = (handles parts - 1) / SLOTS_A_BLOCK

-- The bytes that the zone needs, and the size of the partition, which has no fewer than a partition can have.
abbrev pub needed : List Part → ℕ
needed parts = MASTERS_SIZE * suc (more_masters parts) + bytes_of parts

abbrev pub partition_of : List Part → ℕ
partition_of parts = max LEAST_ZONE (needed parts)

-- The zone: the master pointer blocks, the blocks of the parts in their order, and the bytes that are left, of which free neighbours are
-- one block.
abbrev pub zone_of : List Part → List Block
zone_of parts = tidy (replicate (suc (more_masters parts)) Masters ++ numbered block_of 0 parts
    ++ free (partition_of parts - needed parts))
