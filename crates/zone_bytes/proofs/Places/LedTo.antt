-- The block that a slot leads to.
use Rattle.zone_bytes.proofs.Cited.{◌≡◌, ℕ, ◌+◌, ◌%◌, ◌≤◌, Some, List, ◌∷◌, ◌++◌, rules, length, ap, ◌∙◌, subst, arith, word, word_at}
use Rattle.zone_bytes.proofs.Cited.{read_back, Flags, Block, Relocatable, sizes, is_relocatable, Spot, spot, spot_at, FindsLowest, seen}
use Rattle.zone_bytes.proofs.Cited.{spot-is, spot-passes, apart-tidied, spot_at-spot, Leads, zone_in, left_in, slot_in, IsSound, LeadsHere}
use Rattle.block_store.specs.declared.sparing.Seen.TheVariants as see
use Rattle.zone_bytes.proofs.Tiles.Leading.{each-names, leads-right}
use Rattle.zone_bytes.proofs.SlotTable.Tables.{slot-in}
use Rattle.zone_bytes.proofs.Places.AtPlace.{way-at, left-at, inside}
use Rattle.zone_bytes.proofs.SlotTable.Handles.{relocatable-is}

module _ (xs : List ℕ) (first count : ℕ) (i : IsSound xs first count) (number : ℕ) (s : Spot)
    (e : spot (is_relocatable number) (zone_in xs) ≡ Some s) where
  here : (flags : Flags) × (content : List ℕ) × (s.here ≡ Relocatable number flags content)
  here = relocatable-is number s.here (spot-passes (is_relocatable number) (zone_in xs) s e)

  abbrev block : Block
  block = Relocatable number here.0 here.1

  whole : zone_in xs ≡ s.below ++ block ∷ s.above
  whole = spot-is (is_relocatable number) (zone_in xs) s e ∙ ap (λ b. s.below ++ b ∷ s.above) here.2

  pub led-at : spot_at (sizes s.below) (zone_in xs) ≡ Some s
  led-at = spot_at-spot (is_relocatable number) (zone_in xs) s (apart-tidied (zone_in xs) i.tidied) e

  pub led-slot : (number % 4 ≡ 0) × (number + 4 ≤ length xs)
  led-slot = slot-in xs (zone_in xs) (slot_in xs) i.unused i.lays number (grind (arith, each-names, whole))

  pub led-place : word_at number xs ≡ sizes s.below
  led-place =
      read_back number (sizes s.below) xs (omega (arith, (inside xs first count i (sizes s.below) s led-at)))
      ((leads-right xs 0 s.below (block ∷ s.above) (subst (λ z. Leads 0 z xs) whole i.lays.lies.leads)).0 ∙ ap word
      (omega arith))

  led-left : left_in (word_at number xs) xs ≡ block ∷ s.above
  led-left = ap (λ p. left_in p xs) led-place ∙ left-at _ _ _ i _ s led-at ∙ ap (λ b. b ∷ s.above) here.2

  pub leads-here : LeadsHere number xs
  leads-here = search (rules, led-place, way-at, led-at, led-left)

  -- what a read of its place finds
  pub led-found : (place : ℕ) → place ≡ word_at number xs
      → FindsLowest (is_relocatable number) (zone_in xs) (Some place)
  led-found place p = grind (arith, led-place, led-at)

  -- what a read of its header tells
  pub led-told : (flags : Flags) (n : ℕ) → ((f : Flags) (content : List ℕ) (above : List Block)
      → left_in (word_at number xs) xs ≡ Relocatable number f content ∷ above → (flags ≡ f) × (n ≡ length content))
      → seen s.here ≡ see.Relocatable number flags n
  led-told flags n told = grind (arith, led-left)
