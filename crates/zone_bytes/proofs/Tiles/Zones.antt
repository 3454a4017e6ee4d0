-- The zone that bytes spell, after a call.
use Rattle.zone_bytes.proofs.Cited.{◌≡◌, ℕ, List, ◌∷◌, arith, Block, Slot, zone_in, Lays, slot_in}
use Rattle.zone_bytes.proofs.Tiles.Spelling.{zone-of, slots-of}

-- the spelling of bytes that lay a zone is that zone
pub respelled : (xs : List ℕ) (blocks : List Block) (slots : ℕ → Slot) (unused : List ℕ) → Lays xs blocks slots unused
    → Lays xs (zone_in xs) (slot_in xs) unused
respelled xs blocks slots unused h = grind (arith, zone-of, slots-of)

-- a list of unused slots that isn't empty
pub record SomeUnused (first : ℕ) (unused : List ℕ) : Type 0 where
  pub rest : List ℕ
  pub is : unused ≡ first ∷ rest
