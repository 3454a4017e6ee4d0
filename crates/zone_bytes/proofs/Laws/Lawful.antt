-- A zone that bytes lay keeps the laws of a store.
use Rattle.zone_bytes.proofs.Cited.{◌≡◌, ℕ, cond, eqb, ◌+◌, ◌≤◌, inl, inr, List, [], ◌∷◌, length, drop, sym, refl, ap, ◌∙◌, subst, arith}
use Rattle.zone_bytes.proofs.Cited.{eqb_tells, padded, Block, Free, Nonrelocatable, Relocatable, size, sizes, free_sum, count, is_masters}
use Rattle.zone_bytes.proofs.Cited.{is_relocatable, tidy, Slot, Aligned, Placed, head_of, Tiles, names, Apart, Each, Pairs, ArePlaced}
use Rattle.zone_bytes.proofs.Cited.{zone_in, Lays, slot_in, first_of, IsLawful, IsSound, Rest, IsRest, with_placed, counted, Bytes}
use Rattle.zone_bytes.proofs.Cited.{rest_in, count-none}
use Rattle.zone_bytes.proofs.Tiles.Tiling.{length-tiles}
use Rattle.zone_bytes.proofs.Tiles.Spelling.{zone-of, slots-of}
use Rattle.zone_bytes.proofs.Tiles.Zones.{respelled}
use Rattle.zone_bytes.proofs.SlotTable.Tables.{none-other, none-apart}
use Rattle.zone_bytes.proofs.Tiles.Leading.{each-map}

-- no two blocks have one name
pub counted-once : (number : ℕ) (blocks : List Block) → Pairs Apart (names blocks)
    → count (is_relocatable number) blocks ≤ 1
counted-once number [] p = omega arith
counted-once number (Relocatable slot flags content ∷ blocks) p = elim (eqb_tells slot number) [
  | inl t ↦
      let e : cond {A = ℕ} (eqb slot number) 1 0 ≡ 1 = ap (λ v. cond {A = ℕ} v 1 0) t.0 in
      let a = none-apart number blocks (subst (λ k. Each (Apart k) (names blocks)) t.1 p.0) in
      omega (arith, e, count-none (is_relocatable number) blocks a)
  | inr t ↦ omega (arith, (ap (λ v. cond {A = ℕ} v 1 0) t.0), counted-once number blocks p.1)
]
counted-once number (_ ∷ blocks) p = omega (arith, counted-once number blocks p)

pub aligned-tiles : (head : Block → List ℕ) (xs : List ℕ) (blocks : List Block) → Tiles head xs blocks → Aligned blocks
aligned-tiles head xs [] t = tt
aligned-tiles head xs (Free n ∷ blocks) t = (t.0.whole, aligned-tiles head _ blocks t.1)
aligned-tiles head xs (b ∷ blocks) t = (refl, aligned-tiles head (drop (size b) xs) blocks t.1)

pub placed-of : (o : ℕ) (blocks : List Block) → ArePlaced o blocks → Placed o blocks
placed-of o [] p = tt
placed-of o (Nonrelocatable id content ∷ blocks) p = (p.0, placed-of (o + padded (length content)) blocks p.1)
placed-of o (b ∷ blocks) p = placed-of (o + size b) blocks p.1

-- a zone that is laid out lawfully keeps the laws of a store
pub lawful-bytes : (xs : List ℕ) (first count : ℕ) → IsSound xs first count → IsLawful xs
lawful-bytes xs first count i =
    let g = i.lays in
    record {
      small = omega (arith, length-tiles);
      no_block = λ number e. none-other number (zone_in xs) (grind (arith, each-map, g));
      once = λ number. counted-once number (zone_in xs) g.has_slots.apart;
      tidied = i.tidied;
      aligned = aligned-tiles (head_of _) xs (zone_in xs) g.lies.tiles;
      placed = placed-of 0 (zone_in xs) g.placed;
    }

-- the bytes are those of a RawZone, with these blocks and slots
pub record Made (xs : List ℕ) (first count : ℕ) (blocks : List Block) (table : ℕ → Slot) : Type 0 where
  pub sound : IsSound xs first count
  pub zone : zone_in xs ≡ blocks
  pub slots : (s : ℕ) → slot_in xs s ≡ table s

module _ (xs : List ℕ) (blocks : List Block) (slots : ℕ → Slot) (unused : List ℕ)
    (h : Lays xs blocks slots unused) where
  pub sizes-length : sizes blocks ≡ length xs
  sizes-length = sym (length-tiles (head_of _) xs blocks h.lies.tiles)

  pub made : (first count : ℕ) → tidy blocks ≡ blocks → first ≡ first_of unused → count ≡ length unused
      → Made xs first count blocks slots
  made first count t f k =
      let z = zone-of xs blocks slots unused h in
      record {
        sound = record {
          unused = unused;
          lays = respelled xs blocks slots unused h;
          begins = f;
          counted = k;
          tidied = ap tidy z ∙ t ∙ sym z;
        };
        zone = z;
        slots = slots-of xs blocks slots unused h;
      }

-- what a RawZone has beside its blocks, after a call
pub rest-made : (old new : Bytes) (table : ℕ → Slot) (unused moves placed : ℕ) → ((s : ℕ) → slot_in new.bytes s ≡ table s)
    → count is_masters (zone_in new.bytes) ≡ count is_masters (zone_in old.bytes)
    → (new.home ≡ old.home) × (new.at ≡ old.at) × (length new.bytes ≡ length old.bytes)
    → IsRest (record (rest_in old unused moves placed) { slots = table }) (rest_in new unused moves placed)
rest-made old new table unused moves placed s k w = grind arith

-- one placing more is counted
pub rest-placed : (before : Rest) (part : Bytes) (unused moves placed more : ℕ)
    → IsRest before (rest_in part unused moves placed) → more ≡ counted placed 1
    → IsRest (with_placed 1 before) (rest_in part unused moves more)
rest-placed before part unused moves placed more r e = grind arith

-- the Free bytes that are counted beside a zone in bytes
pub kept-made : (xs : List ℕ) (first unused free : ℕ) (blocks : List Block) (table : ℕ → Slot)
    → Made xs first unused blocks table → free ≡ free_sum blocks → free ≡ free_sum (zone_in xs)
kept-made xs first unused free blocks table m e = e ∙ sym (ap free_sum m.zone)
