-- The laws of a store, said of the zone that bytes spell.
use Rattle.std.specs.Prelude.{◌≡◌, ℕ, ◌≤◌, false, List, length}
use Rattle.block_store.specs.Block.{sizes, count, is_relocatable, tidy}
use Rattle.block_store.specs.Run.{has}
use Rattle.block_store.specs.Slot.{is_used}
use Rattle.block_store.specs.Compact.{Aligned, Placed}
use Rattle.zone_bytes.specs.Decode.{zone_in}
use Rattle.zone_bytes.specs.Table.{Lays, slot_in, first_of}
use Rattle.block_store.specs.declared.measures.TheConstants.{GREATEST_ZONE}

pub record IsLawful (xs : List ℕ) : Type 0 where
  pub small : sizes (zone_in xs) ≤ GREATEST_ZONE
  pub no_block : (number : ℕ) → is_used (slot_in xs number) ≡ false → has (is_relocatable number) (zone_in xs) ≡ false
  pub once : (number : ℕ) → count (is_relocatable number) (zone_in xs) ≤ 1
  pub tidied : tidy (zone_in xs) ≡ zone_in xs
  pub aligned : Aligned (zone_in xs)
  pub placed : Placed 0 (zone_in xs)

-- The bytes are the layout of the zone that they spell; the list of unused slots begins at `first` and has `count`
-- slots; and no two free blocks are side by side.
pub record IsSound (xs : List ℕ) (first count : ℕ) : Type 0 where
  pub unused : List ℕ
  pub lays : Lays xs (zone_in xs) (slot_in xs) unused
  pub begins : first ≡ first_of unused
  pub counted : count ≡ length unused
  pub tidied : tidy (zone_in xs) ≡ zone_in xs
