-- What the slots of a zone hold.
use Rattle.std.specs.Prelude.{◌≡◌, ℕ, ◌+◌, ◌*◌, ◌-◌, ◌%◌, ◌≤◌, ◌⊎◌, Bool, true, false, ◌==◌, ◌&&◌, ◌||◌, nat_le}
use Rattle.std.specs.Prelude.{if◌then◌else◌, List, [], ◌∷◌, length}
use Rattle.memory_windows.specs.Writes.{piece}
use Rattle.block_headers.specs.Words.{word, word_at}
use Rattle.block_store.specs.Block.{Block, size, is_masters}
use Rattle.block_store.specs.Slot.{Slot, NoSlot, Unused, Used, is_resource}
use Rattle.zone_bytes.specs.Layout.{IsSlot, names, Apart, Each, Pairs, ArePlaced}
use Rattle.zone_bytes.specs.Settling.{Lies, HasSlots}
use Rattle.zone_bytes.specs.Decode.{zone_in}
use Rattle.block_store.specs.declared.measures.TheConstants.{GREATEST_ZONE}

-- The number `x` is in a list.
abbrev pub Has : List ℕ → ℕ → Type 0
Has [] x = ⊥
Has (y ∷ ys) x = (y ≡ x) ⊎ Has ys x

-- The word of the slot of an empty handle.
abbrev pub empty_word : Bool → ℕ
empty_word resource = if resource then 18 else 2

-- The first of a list of slots, or 0 if the list is empty.
abbrev pub first_of : List ℕ → ℕ
first_of [] = 0
first_of (s ∷ slots) = s

-- The unused slots are in order, and each holds the place of the next one.
abbrev pub Chain : List ℕ → List ℕ → Type 0
Chain xs [] = Unit {0}
Chain xs (s ∷ slots) = (piece s 4 xs ≡ word (16 * first_of slots + 1)) × Chain xs slots

-- What the word of a slot says: of a handle, that its block is one of the blocks or that the handle is empty; or that
-- the slot is in the list of unused slots. A number that is no slot has no word.
abbrev pub Says : List Block → List ℕ → List ℕ → ℕ → Slot → Type 0
Says blocks xs unused s NoSlot = IsSlot s blocks → ⊥
Says blocks xs unused s Unused = IsSlot s blocks × Has unused s
Says blocks xs unused s (Used resource) = IsSlot s blocks ×
    (Has (names blocks) s ⊎ (Each (Apart s) (names blocks) × (piece s 4 xs ≡ word (empty_word resource))))

abbrev pub IsUsed : Slot → Type 0
IsUsed NoSlot = ⊥
IsUsed Unused = ⊥
IsUsed (Used resource) = Unit {0}

-- The bytes are those of a zone with these blocks, these slots and this list of unused slots.
-- See decision 141 (the value of a `RawZone` is its part and the numbers beside it).
pub record Lays (xs : List ℕ) (blocks : List Block) (slots : ℕ → Slot) (unused : List ℕ) : Type 0 where
  pub lies : Lies (λ s. is_resource (slots s)) blocks xs
  pub has_slots : HasSlots blocks
  pub placed : ArePlaced 0 blocks
  pub small : length xs ≤ GREATEST_ZONE
  pub used : Each (λ s. IsUsed (slots s)) (names blocks)
  pub says : (s : ℕ) → Says blocks xs unused s (slots s)
  pub chain : Chain xs unused
  pub unused_slots : Each (λ s. IsSlot s blocks × (slots s ≡ Unused)) unused
  pub once : Pairs Apart unused

-- Reports whether `s` is the place of a slot.
abbrev pub is_slot : ℕ → List Block → Bool
is_slot s [] = false
is_slot s (b ∷ blocks) = (is_masters b && (nat_le 16 s && (nat_le (s + 4) 272 && (s % 4 == 0)))) ||
    (nat_le (size b) s && is_slot (s - size b) blocks)

-- The state of a slot with the given word.
abbrev pub slot_of_word : List ℕ → ℕ → Slot
slot_of_word xs w =
    if w % 16 == 0 then Used (nat_le 32 (word_at (w + 12) xs % 64))
    else (if w == 2 then Used false else (if w == 18 then Used true else Unused))

-- The state of each number as a slot.
unfoldable pub slot_in : List ℕ → ℕ → Slot
slot_in xs s = if is_slot s (zone_in xs) then slot_of_word xs (word_at s xs) else NoSlot

-- The blocks and the slots of a zone, and the list of unused slots.
pub record Table : Type 0 where
  pub blocks : List Block
  pub slots : ℕ → Slot
  pub unused : List ℕ

-- A slot of no block may be put at the front of the list of unused slots, which begins with `first`.
pub record MayGive (xs : List ℕ) (t : Table) (slot first : ℕ) : Type 0 where
  pub lays : Lays xs t.blocks t.slots t.unused
  pub begins : first ≡ first_of t.unused
  pub resource : Bool
  pub used : t.slots slot ≡ Used resource
  pub apart : Each (Apart slot) (names t.blocks)
