-- The zone that bytes spell, where the block of a handle's slot is made Free.
use Rattle.zone_bytes.proofs.Cited.{◌≡◌, ℕ, IsTrue, ◌+◌, ◌≤◌, List, sym, ap, ◌∙◌, arith, rules, Bytes, Block, tidy, count, free_sum}
use Rattle.zone_bytes.proofs.Cited.{is_masters, is_relocatable, freed, Slot, is_used, IsRest, tidy-tidy, masters-released, KeepsPlace}
use Rattle.zone_bytes.proofs.Cited.{rest_in, zone_in, HasHandle, IsSound, Table, Lays, slot_in, GREATEST_ZONE}
use Rattle.zone_bytes.proofs.Laws.Lawful.{Made, made, sizes-length, kept-made}
use Rattle.zone_bytes.proofs.Places.Walks.{free_span-le}

-- the Free bytes are no more than a zone may have
pub free-fits : (xs : List ℕ) (blocks : List Block) (slots : ℕ → Slot) (unused : List ℕ)
    → Lays xs blocks slots unused → free_sum blocks ≤ GREATEST_ZONE
free-fits xs blocks slots unused h = omega (arith, sizes-length, free_span-le)

-- the zone has other blocks, of which so many bytes more are Free
pub record Gained (xs new : List ℕ) (first number more : ℕ) (blocks : List Block) : Type 0 where
  pub made : Made new first number blocks (slot_in xs)
  pub sum : free_sum blocks ≡ free_sum (zone_in xs) + more
  pub fits : free_sum blocks ≤ GREATEST_ZONE
  pub masters : count is_masters blocks ≡ count is_masters (zone_in xs)

pub gained : (xs new : List ℕ) (first number more : ℕ) (i : IsSound xs first number) (blocks : List Block)
    → Lays new (tidy blocks) (slot_in xs) i.unused → free_sum (tidy blocks) ≡ free_sum (zone_in xs) + more
    → count is_masters (tidy blocks) ≡ count is_masters (zone_in xs) → Gained xs new first number more (tidy blocks)
gained xs new first number more i blocks h s m = search (rules, made, tidy-tidy, free-fits)

module _ (xs new : List ℕ) (first number more : ℕ) (blocks : List Block) (g : Gained xs new first number more blocks)
  where
    module _ (free : ℕ) (e : free ≡ free_sum (zone_in xs)) where
      pub gained-fits : free + more ≤ GREATEST_ZONE
      gained-fits = omega arith

      pub gained-kept : free + more ≡ free_sum (zone_in new)
      gained-kept = kept-made _ _ _ _ _ (slot_in xs) g.made (ap (λ n. n + more) e ∙ sym g.sum)

pub gained-rest : (old new : Bytes) (first number more : ℕ) (blocks : List Block)
    → Gained old.bytes new.bytes first number more blocks → KeepsPlace old new
    → (moves placed : ℕ) → IsRest (rest_in old number moves placed) (rest_in new number moves placed)
gained-rest old new first number more blocks g k moves placed = grind arith

module _ (xs : List ℕ) (first number : ℕ) (i : IsSound xs first number) where
  abbrev pub table-of : Table
  table-of = record { blocks = zone_in xs; slots = slot_in xs; unused = i.unused }

  module _ (slot : ℕ) (used : IsTrue (is_used (slot_in xs slot))) where
    pub has-handle : HasHandle table-of slot xs
    has-handle = grind arith

  -- the block of a handle's slot is made Free
  pub released-gained : (slot : ℕ) (used : IsTrue (is_used (slot_in xs slot))) (new : List ℕ) (more : ℕ)
      → ((t : Table) → HasHandle t slot xs → Lays new (tidy (freed (is_relocatable slot) t.blocks)) t.slots t.unused)
      → ((t : Table) → HasHandle t slot xs
      → free_sum (tidy (freed (is_relocatable slot) t.blocks)) ≡ free_sum t.blocks + more)
      → Gained xs new first number more (tidy (freed (is_relocatable slot) (zone_in xs)))
  released-gained slot used new more lays sum =
      gained _ _ _ _ _ i (freed (is_relocatable slot) (zone_in xs))
      (lays table-of (has-handle slot used)) (sum table-of (has-handle slot used))
      (masters-released slot (zone_in xs))
