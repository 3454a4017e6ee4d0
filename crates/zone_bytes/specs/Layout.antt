-- How blocks lie in bytes.
use Rattle.std.specs.Prelude.{◌≡◌, ℕ, ◌+◌, ◌-◌, ◌%◌, ◌≤◌, ◌⊎◌, Bool, if◌then◌else◌, List, [], ◌∷◌, ◌++◌, length, take}
use Rattle.std.specs.Prelude.{drop}
use Rattle.memory_windows.specs.Writes.{piece}
use Rattle.block_headers.specs.Words.{word, header}
use Rattle.block_store.specs.declared.flags.Flags.{Flags}
use Rattle.block_store.specs.Block.{Block, Free, Nonrelocatable, Masters, Relocatable, size}

-- The number of a block's flags and its handle's resource flag: 128 for locked, 64 for purgeable, 32 for a resource.
abbrev pub flag_word : Flags → Bool → ℕ
flag_word flags resource = (if flags.locked then 128 else 0) + (if flags.purgeable then 64 else 0) +
    (if resource then 32 else 0)

-- The number of a block's kind.
abbrev pub kind : Block → ℕ
kind (Free n) = 0
kind (Nonrelocatable id content) = 1
kind Masters = 2
kind (Relocatable slot flags content) = 3

-- The bytes that a block begins with; its other bytes may have any values.
unfoldable pub head_of : (ℕ → Bool) → Block → List ℕ
head_of resource (Free n) = word n
head_of resource (Nonrelocatable id content) = header (size (Nonrelocatable id content) + 1) (length content) 0 0
    ++ content
head_of resource Masters = header (272 + 2) 256 0 0
head_of resource (Relocatable slot flags content) = header (size (Relocatable slot flags content) + 3)
    (length content) slot (flag_word flags (resource slot)) ++ content

-- A block of `n` bytes that begins with the bytes `head` stands at the front of `xs`.
pub record Tile (head : List ℕ) (n : ℕ) (xs : List ℕ) : Type 0 where
  pub fits : n ≤ length xs
  pub whole : n % 16 ≡ 0
  pub some : 16 ≤ n
  pub room : length head ≤ n
  pub begins : take (length head) xs ≡ head

-- The bytes are the blocks, one after another, and nothing else.
abbrev pub Tiles : (Block → List ℕ) → List ℕ → List Block → Type 0
Tiles head xs [] = xs ≡ []
Tiles head xs (b ∷ blocks) = Tile (head b) (size b) xs × Tiles head (drop (size b) xs) blocks

-- The number `s` is the place of a slot of a master pointer block.
abbrev pub IsSlotOf : Block → ℕ → Type 0
IsSlotOf (Free n) s = ⊥
IsSlotOf (Nonrelocatable id content) s = ⊥
IsSlotOf Masters s = (16 ≤ s) × (s + 4 ≤ 272) × (s % 4 ≡ 0)
IsSlotOf (Relocatable slot flags content) s = ⊥

-- The number `s` is the place of a slot of one of the blocks.
abbrev pub IsSlot : ℕ → List Block → Type 0
IsSlot s [] = ⊥
IsSlot s (b ∷ blocks) = IsSlotOf b s ⊎ ((size b ≤ s) × IsSlot (s - size b) blocks)

-- The slots that lead to blocks, as the blocks' headers name them.
abbrev pub names_of : Block → List ℕ
names_of (Free n) = []
names_of (Nonrelocatable id content) = []
names_of Masters = []
names_of (Relocatable slot flags content) = slot ∷ []

abbrev pub names : List Block → List ℕ
names [] = []
names (b ∷ blocks) = names_of b ++ names blocks

-- The slot of a block at the place `o` leads to the block.
abbrev pub LeadsTo : ℕ → Block → List ℕ → Type 0
LeadsTo o (Free n) xs = Unit {0}
LeadsTo o (Nonrelocatable id content) xs = Unit {0}
LeadsTo o Masters xs = Unit {0}
LeadsTo o (Relocatable slot flags content) xs = piece slot 4 xs ≡ word o

-- The slots of the blocks from the place `o` on lead to the blocks.
abbrev pub Leads : ℕ → List Block → List ℕ → Type 0
Leads o [] xs = Unit {0}
Leads o (b ∷ blocks) xs = LeadsTo o b xs × Leads (o + size b) blocks xs

-- Two words have no byte in common.
abbrev pub Apart : ℕ → ℕ → Type 0
Apart s t = (s + 4 ≤ t) ⊎ (t + 4 ≤ s)

abbrev pub Each : {A : Type 0} → (A → Type 0) → List A → Type 0
Each P [] = Unit {0}
Each P (x ∷ xs) = P x × Each P xs

abbrev pub Pairs : {A : Type 0} → (A → A → Type 0) → List A → Type 0
Pairs R [] = Unit {0}
Pairs R (x ∷ xs) = Each (R x) xs × Pairs R xs

-- The name of a nonrelocatable block is its place.
abbrev pub IsPlaced : ℕ → Block → Type 0
IsPlaced o (Free n) = Unit {0}
IsPlaced o (Nonrelocatable id content) = id ≡ o
IsPlaced o Masters = Unit {0}
IsPlaced o (Relocatable slot flags content) = Unit {0}

abbrev pub ArePlaced : ℕ → List Block → Type 0
ArePlaced o [] = Unit {0}
ArePlaced o (b ∷ blocks) = IsPlaced o b × ArePlaced (o + size b) blocks
