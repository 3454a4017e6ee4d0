-- The handles of a RawZone.
use Rattle.zone_bytes.proofs.Cited.{◌≡◌, ℕ, Bool, IsTrue, Option, List, option_map, sizes, is_relocatable, FindsLowest, Spot, spot, Used}
use Rattle.zone_bytes.proofs.Cited.{set_slot, is_used, is_resource, apart-tidied, finds, zone_in, IsSound, IsHandle, Table, Lays, slot_in}
use Rattle.zone_bytes.proofs.Laws.Lawful.{Made, made}

module _ (xs : List ℕ) (first count : ℕ) (i : IsSound xs first count) (number : ℕ)
    (used : IsTrue (is_used (slot_in xs number))) where
  abbrev table : Table
  table = record { blocks = zone_in xs; slots = slot_in xs; unused = i.unused }

  pub a-handle : (t : Table) × IsHandle xs t number
  a-handle = (table, (record { lays = i.lays; used = used }))

  -- the place that was read is that of the handle's block
  pub place-found : (r : Option ℕ) → ((t : Table) → IsHandle xs t number
      → r ≡ option_map (λ (s : Spot). sizes s.below) (spot (is_relocatable number) t.blocks))
      → FindsLowest (is_relocatable number) (zone_in xs) r
  place-found r e = finds (is_relocatable number) _ r (apart-tidied _ i.tidied)
      (e table (record { lays = i.lays; used = used }))

  pub flag-read : (r : Bool) → ((t : Table) → IsHandle xs t number → r ≡ is_resource (t.slots number))
      → r ≡ is_resource (slot_in xs number)
  flag-read r e = e table (record { lays = i.lays; used = used })

  pub marked-made : (r : Bool) (new : List ℕ)
      → ((t : Table) → IsHandle xs t number → Lays new t.blocks (set_slot t.slots number (Used r)) t.unused)
      → Made new first count (zone_in xs) (set_slot (slot_in xs) number (Used r))
  marked-made r new e =
      made _ _ (set_slot (slot_in xs) number (Used r)) _ (e table (record { lays = i.lays; used = used })) _ _ i.tidied
      i.begins i.counted
