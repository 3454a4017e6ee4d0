-- What a `RawZone` is as a store.
use Rattle.std.specs.Prelude.{◌≡◌, ℕ, ◌≤◌, false, List}
use native.Mathlib.Bridge.{le_prop}
use Rattle.std.specs.Coded.{Coded-set, coded_bool}
use Rattle.std.proofs.Math.Logic.{∥∥₁_elim}
use Rattle.std.proofs.Props.{props}
use Rattle.block_store.specs.Block.{Block, sizes, tidy, count, is_relocatable}
use Rattle.block_store.specs.Run.{has}
use Rattle.block_store.specs.Slot.{is_used}
use Rattle.block_store.specs.Rest.{Rest}
use Rattle.block_store.specs.Compact.{Aligned, Aligned-prop, Placed, Placed-prop}
use Rattle.zone_bytes.specs.Decode.{zone_in}
use Rattle.zone_bytes.specs.Beside.{rest_in}
use Rattle.raw_zone.specs.Held.{Held}
use Rattle.block_store.specs.declared.measures.TheConstants.{GREATEST_ZONE}

abbrev pub zone_of : Held → List Block
zone_of z = zone_in z.part.bytes

abbrev pub rest_of : Held → Rest
rest_of z = rest_in z.part z.unused z.moves z.placings

pub blocks_set : (a b : List Block) → IsProp (a ≡ b)
blocks_set a b = Prim.hlevel props

pub zone-small : (z : Held) → sizes (zone_of z) ≤ GREATEST_ZONE
zone-small z = ∥∥₁_elim z.lawful le_prop (λ l. l.small)

pub zone-no_block : (z : Held) (number : ℕ) → is_used ((rest_of z).slots number) ≡ false
    → has (is_relocatable number) (zone_of z) ≡ false
zone-no_block z number u = ∥∥₁_elim z.lawful (Coded-set coded_bool _ _) (λ l. l.no_block number u)

pub zone-once : (z : Held) (number : ℕ) → count (is_relocatable number) (zone_of z) ≤ 1
zone-once z number = ∥∥₁_elim z.lawful le_prop (λ l. l.once number)

pub zone-tidied : (z : Held) → tidy (zone_of z) ≡ zone_of z
zone-tidied z = ∥∥₁_elim z.lawful (blocks_set (tidy (zone_of z)) (zone_of z)) (λ l. l.tidied)

pub zone-aligned : (z : Held) → Aligned (zone_of z)
zone-aligned z = ∥∥₁_elim z.lawful (Aligned-prop (zone_of z)) (λ l. l.aligned)

pub zone-placed : (z : Held) → Placed 0 (zone_of z)
zone-placed z = ∥∥₁_elim z.lawful (Placed-prop 0 (zone_of z)) (λ l. l.placed)
