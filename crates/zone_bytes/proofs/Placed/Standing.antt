-- What is known of a block of a sound zone.
use Rattle.zone_bytes.proofs.Cited.{◌≡◌, ℕ, ◌+◌, ◌<◌, ◌≤◌, ◌^◌, Bool, Some, List, [], ◌∷◌, ◌++◌, length, drop, refl, append_assoc, sym, ap}
use Rattle.zone_bytes.proofs.Cited.{◌∙◌, subst, arith, length-drop, piece, Block, size, sizes, content_of, tidy, Free, Masters, Spot}
use Rattle.zone_bytes.proofs.Cited.{spot_at, is_resource, apart-tidied, head_of, Tile, IsPlaced, LeadsTo, IsSlot, names_of, Each, zone_in}
use Rattle.zone_bytes.proofs.Cited.{Lays, slot_in, IsSound, left_in, IsOnWay, GREATEST_ZONE}
use Rattle.block_store.proofs.Zone.Apart.{Apart}
use Rattle.zone_bytes.proofs.SlotTable.Tables.{slot-in}
use Rattle.zone_bytes.proofs.Tiles.Tiling.{span-append}
use Rattle.zone_bytes.proofs.Tiles.Leading.{each-map, each-left, each-names, leads-from}
use Rattle.zone_bytes.proofs.Tiles.Keeping.{placed-right}
use Rattle.zone_bytes.proofs.Joined.Ways.{way, left, tile-at}
use Rattle.zone_bytes.proofs.Places.AtPlace.{whole, low, way-above, left-above}
use Rattle.zone_bytes.proofs.Places.Stepped.{header-told}

-- the resource flags that bytes tell
abbrev pub resource_in : List ℕ → ℕ → Bool
resource_in xs = λ s. is_resource (slot_in xs s)

pub record Standing (xs : List ℕ) (place : ℕ) (s : Spot) : Type 0 where
  pub whole : zone_in xs ≡ s.below ++ s.here ∷ s.above
  pub low : sizes s.below ≡ place
  pub way : IsOnWay place xs
  pub left : left_in place xs ≡ s.here ∷ s.above
  pub way_above : IsOnWay (place + size s.here) xs
  pub left_above : left_in (place + size s.here) xs ≡ s.above
  pub inside : place + size s.here ≤ length xs
  pub some : 16 ≤ size s.here
  pub small : length xs ≤ GREATEST_ZONE
  pub tile : Tile (head_of (resource_in xs) s.here) (size s.here) (drop place xs)
  pub placed : IsPlaced place s.here
  pub leads : LeadsTo place s.here xs
  pub names : Each (λ k. k < 2 ^ 32) (names_of s.here)
  pub tidied : tidy (s.below ++ s.here ∷ s.above) ≡ s.below ++ s.here ∷ s.above
  pub apart : Apart (s.below ++ s.here ∷ s.above)

pub stands : {xs : List ℕ} {first count : ℕ} → IsSound xs first count → (below : List Block) (here : Block)
    (above : List Block) → zone_in xs ≡ below ++ here ∷ above → (place : ℕ) → sizes below ≡ place
    → Standing xs place (record { below = below; here = here; above = above })
stands {xs} {first} {count} i below here above all place at =
    let up = here ∷ above in
    let l : Lays xs (below ++ up) (slot_in xs) i.unused = subst (λ z. Lays xs z (slot_in xs) i.unused) all i.lays in
    let t = tile-at xs below here above (slot_in xs) i.unused l place at in
    let y : tidy (below ++ up) ≡ below ++ up = sym (ap tidy all) ∙ i.tidied ∙ all in
    let p = all ∙ sym (append_assoc below (here ∷ []) above) in
    let q : sizes (below ++ here ∷ []) ≡ place + size here = omega (arith, span-append) in
    record {
      whole = all;
      low = at;
      way = way xs below up (slot_in xs) i.unused l place at;
      left = left xs below up (slot_in xs) i.unused l place at;
      way_above = way-above xs first count i (below ++ here ∷ []) above _ p q;
      left_above = left-above xs first count i (below ++ here ∷ []) above _ p q;
      inside = omega (arith, length-drop place xs, t.fits, t.some);
      some = t.some;
      small = l.small;
      tile = t;
      placed = grind (arith, placed-right 0 below up l.placed);
      leads = (leads-from xs below up place at l.lies.leads).0;
      names = each-map (λ k. IsSlot k (below ++ up)) (λ k. k < 2 ^ 32)
          (λ k j. omega (arith, slot-in xs (below ++ up) (slot_in xs) i.unused l k j)) _
          (each-left (λ k. IsSlot k (below ++ up)) _ _ (each-names _ below up l.has_slots.slots).1);
      tidied = y;
      apart = apart-tidied (below ++ up) y;
    }

-- of the block at a place
pub standing : (xs : List ℕ) (first count place : ℕ) → IsSound xs first count → (s : Spot)
    → spot_at place (zone_in xs) ≡ Some s → Standing xs place s
standing xs first count place i s e =
    stands i s.below s.here s.above (whole xs first count i place s e) place (low xs first count i place s e)

-- the content stands behind the header
pub held-piece : (resource : ℕ → Bool) (b : Block) (at : ℕ) (xs : List ℕ)
    → Tile (head_of resource b) (size b) (drop at xs) → piece (at + 16) (length (content_of b)) xs ≡ content_of b
unfolding head_of
held-piece resource (Free n) at xs t = refl
held-piece resource Masters at xs t = refl
held-piece resource b at xs t = (header-told _ _ _ _ at (content_of b) xs t).holds
