use Rattle.std.specs.Prelude.{ℕ, ◌+◌, ◌-◌, Bool, true, false, not, ◌&&◌, ◌==◌, List, [], ◌∷◌, ◌++◌, length, take}
use Rattle.std.specs.Prelude.{replicate, map, nat_le, zero, suc, if◌then◌else◌}
use Rattle.mac_words.specs.Size.{padded}
use Rattle.block_store.specs.declared.flags.Flags.{Flags}
use Rattle.block_store.specs.declared.measures.TheConstants.{MASTERS_SIZE}

-- The blocks of a heap zone, from bottom to top. Inside Macintosh: Memory, chapter 2, "Heap Zones", and chapter 2,
-- "Blocks" and "Heap Zones".

-- The flags of a new block, which is unlocked and unpurgeable.
abbrev pub no_flags : Flags
no_flags = record { locked = false; purgeable = false }

-- A block of a zone: a free block; a nonrelocatable block; a master pointer block, of 64 master pointers
-- (`Masters`); or a relocatable block. The id is the name by which a block is reached: in a store the number of its
-- master pointer, or its place; in a heap its number.
pub data Block : Type 0 where
  Free : (bytes : ℕ) → Block
  Nonrelocatable : (id : ℕ) (content : List ℕ) → Block
  Masters : Block
  Relocatable : (id : ℕ) (flags : Flags) (content : List ℕ) → Block

-- The physical size of a block in bytes, its header included.
abbrev pub size : Block → ℕ
size (Free n) = n
size (Nonrelocatable id content) = padded (length content)
size Masters = MASTERS_SIZE
size (Relocatable id flags content) = padded (length content)

-- The sum of the numbers of the blocks.
abbrev pub total : (Block → ℕ) → List Block → ℕ
total of [] = 0
total of (b ∷ above) = of b + total of above

-- The number of blocks that pass the test.
abbrev pub count : (Block → Bool) → List Block → ℕ
count test blocks = total (λ b. if test b then 1 else 0) blocks

-- The total physical size of the blocks.
abbrev pub sizes : List Block → ℕ
sizes blocks = total size blocks

-- The number of free bytes of a block: its size where it is a free block, else 0.
abbrev pub free_of : Block → ℕ
free_of (Free n) = n
free_of (Nonrelocatable id content) = 0
free_of Masters = 0
free_of (Relocatable id flags content) = 0

-- The number of free bytes of the blocks.
abbrev pub free_sum : List Block → ℕ
free_sum blocks = total free_of blocks

-- The block is an unlocked relocatable block, which may be moved.
abbrev pub is_mover : Block → Bool
is_mover (Free n) = false
is_mover (Nonrelocatable id content) = false
is_mover Masters = false
is_mover (Relocatable id flags content) = not flags.locked

-- The block is unlocked and purgeable, so that it may be purged.
abbrev pub is_purgeable : Block → Bool
is_purgeable (Free n) = false
is_purgeable (Nonrelocatable id content) = false
is_purgeable Masters = false
is_purgeable (Relocatable id flags content) = not flags.locked && flags.purgeable

-- The block is a free block of at least p bytes.
abbrev pub is_room : ℕ → Block → Bool
is_room p (Free n) = nat_le p n
is_room p (Nonrelocatable id content) = false
is_room p Masters = false
is_room p (Relocatable id flags content) = false

-- A free block of n bytes; no block where n is 0.
abbrev pub free : ℕ → List Block
free zero = []
free (suc n) = Free (suc n) ∷ []

-- A block put below others; a free block is joined with a free block that follows, and a free block of no bytes is left
-- out.
abbrev pub add : Block → List Block → List Block
add (Free zero) above = above
add (Free (suc n)) (Free m ∷ above) = Free (suc n + m) ∷ above
add b above = b ∷ above

-- The blocks, with the lowest joined with the next where both are free.
abbrev pub tidy_top : List Block → List Block
tidy_top [] = []
tidy_top (b ∷ above) = add b above

-- The same blocks, with neighbouring free blocks joined and free blocks of no bytes left out.
-- See decision 8 (a zone is always tidy).
abbrev pub tidy : List Block → List Block
tidy [] = []
tidy (b ∷ above) = add b (tidy above)

-- The content cut, or filled with bytes 0, to a size of n bytes.
abbrev pub resized_content : ℕ → List ℕ → List ℕ
resized_content n content = take n content ++ replicate (n - length content) 0

-- The block with its content at another size, n bytes.
abbrev pub resized : ℕ → Block → Block
resized n (Free m) = Free m
resized n (Nonrelocatable id content) = Nonrelocatable id (resized_content n content)
resized n Masters = Masters
resized n (Relocatable id flags content) = Relocatable id flags (resized_content n content)

-- The block with its name changed: by f where it is relocatable, by g where it is nonrelocatable.
abbrev pub rename_block : (ℕ → ℕ) → (ℕ → ℕ) → Block → Block
rename_block f g (Free n) = Free n
rename_block f g (Nonrelocatable id content) = Nonrelocatable (g id) content
rename_block f g Masters = Masters
rename_block f g (Relocatable id flags content) = Relocatable (f id) flags content

-- The blocks with their names changed.
-- See decision 6 (operations take tests on blocks, not names).
abbrev pub rename : (ℕ → ℕ) → (ℕ → ℕ) → List Block → List Block
rename f g blocks = map (rename_block f g) blocks

-- The blocks of a fresh zone of n bytes: a master pointer block, and a free block of the other bytes.
abbrev pub fresh : ℕ → List Block
fresh n = Masters ∷ free (n - MASTERS_SIZE)

-- The block is the relocatable block of a name.
abbrev pub is_relocatable : ℕ → Block → Bool
is_relocatable name (Free n) = false
is_relocatable name (Nonrelocatable id content) = false
is_relocatable name Masters = false
is_relocatable name (Relocatable id flags content) = id == name

-- The block is the nonrelocatable block of a name.
abbrev pub is_nonrelocatable : ℕ → Block → Bool
is_nonrelocatable name (Free n) = false
is_nonrelocatable name (Nonrelocatable id content) = id == name
is_nonrelocatable name Masters = false
is_nonrelocatable name (Relocatable id flags content) = false

-- The block is a master pointer block.
abbrev pub is_masters : Block → Bool
is_masters (Free n) = false
is_masters (Nonrelocatable id content) = false
is_masters Masters = true
is_masters (Relocatable id flags content) = false

-- The content of a block: the bytes that its owner may use.
abbrev pub content_of : Block → List ℕ
content_of (Free n) = []
content_of (Nonrelocatable id content) = content
content_of Masters = []
content_of (Relocatable id flags content) = content

-- The block with another content.
abbrev pub with_content : List ℕ → Block → Block
with_content bytes (Free n) = Free n
with_content bytes (Nonrelocatable id content) = Nonrelocatable id bytes
with_content bytes Masters = Masters
with_content bytes (Relocatable id flags content) = Relocatable id flags bytes
