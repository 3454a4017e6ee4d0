-- The nonrelocatable block at a place is made Free.
use Rattle.zone_bytes.proofs.Cited.{total-append, ◌≡◌, ℕ, true, false, ◌+◌, ◌<◌, ◌≤◌, inl, inr, Some, List, [], ◌⊎◌, ◌∷◌, ◌++◌, sym, refl}
use Rattle.zone_bytes.proofs.Cited.{ap, ◌∙◌, subst, arith, ne_eqb, Block, Free, Nonrelocatable, size, sizes, tidy, count, free_of, free_sum}
use Rattle.zone_bytes.proofs.Cited.{is_nonrelocatable, is_masters, Spot, spot_at, freed, total-tidy, ArePlaced, zone_in, Freeing}
use Rattle.zone_bytes.proofs.Cited.{MayRelease, IsSound, Lays, slot_in, has}
use Rattle.zone_bytes.proofs.Tiles.Keeping.{placed-left, placed-right}
use Rattle.zone_bytes.proofs.Blocks.InPlace.{masters-same}
use Rattle.zone_bytes.proofs.Places.AtPlace.{whole, low}
use Rattle.zone_bytes.proofs.Joined.ByName.{freed-one}
use Rattle.zone_bytes.proofs.Joined.Handles.{Gained, gained}

-- the blocks below the place, and those above it, are others
none-placed : (place o : ℕ) (blocks : List Block) → ArePlaced o blocks → (o + sizes blocks ≤ place) ⊎ (place < o)
    → has (is_nonrelocatable place) blocks ≡ false
none-placed place o [] p l = refl
none-placed place o (Nonrelocatable id content ∷ blocks) p l =
    let z = size (Nonrelocatable id content) in
    rw (ne_eqb id place (λ e. omega arith)) (none-placed place (o + z) blocks p.1 (grind arith))
none-placed place o (b ∷ blocks) p l = none-placed place (o + size b) blocks p.1 (grind arith)

-- a block that becomes Free isn't a Masters block
pub masters-freed : (below : List Block) (b : Block) (n : ℕ) (above : List Block) → is_masters b ≡ false
    → count is_masters (tidy (below ++ Free n ∷ above)) ≡ count is_masters (below ++ b ∷ above)
masters-freed below b n above e = grind (arith, total-tidy, masters-same)

module _ (xs : List ℕ) (first number : ℕ) (i : IsSound xs first number) (place : ℕ) (s : Spot)
    (e : spot_at place (zone_in xs) ≡ Some s) (f : is_nonrelocatable place s.here ≡ true) where
  abbrev pub standing : Freeing
  standing = record { below = s.below; here = s.here; above = s.above; slots = slot_in xs; unused = i.unused }

  is : zone_in xs ≡ s.below ++ s.here ∷ s.above
  is = whole xs first number i place s e

  plain : (is_masters s.here ≡ false) × (free_of s.here ≡ 0) × (0 < size s.here)
  plain = grind arith

  pub may-free_nonrelocatable : MayRelease standing place xs
  may-free_nonrelocatable = record {
    lays = subst (λ z. Lays xs z (slot_in xs) i.unused) is i.lays;
    low = low xs first number i place s e;
    plain = plain.0;
    tidied = sym (ap tidy is) ∙ i.tidied ∙ is;
  }

  pub freed-is : freed (is_nonrelocatable place) (zone_in xs) ≡ s.below ++ Free (size s.here) ∷ s.above
  freed-is =
      let p = subst (ArePlaced 0) is i.lays.placed in
      let l = low xs first number i place s e in
      let q = placed-right 0 s.below (s.here ∷ s.above) p in
      ap (freed (is_nonrelocatable place)) is ∙ freed-one (is_nonrelocatable place) s.below s.here s.above
      (none-placed place 0 s.below (placed-left 0 s.below (s.here ∷ s.above) p) (inl (omega arith))) f
      (none-placed place _ s.above q.1 (inr (omega (arith, plain.2))))

  pub nonrelocatable-gained : (new : List ℕ) (more : ℕ) → ((f : Freeing) → MayRelease f place xs
      → Lays new (tidy (f.below ++ Free (size f.here) ∷ f.above)) f.slots f.unused)
      → ((f : Freeing) → MayRelease f place xs → more ≡ size f.here)
      → Gained xs new first number more (tidy (freed (is_nonrelocatable place) (zone_in xs)))
  nonrelocatable-gained new more lays bytes = gained _ _ _ _ _ i (freed (is_nonrelocatable place) (zone_in xs))
      (subst (λ z. Lays new (tidy z) (slot_in xs) i.unused) (sym freed-is) (lays standing may-free_nonrelocatable))
      (ap (λ z. free_sum (tidy z)) freed-is ∙ (grind (arith, total-tidy, total-append))
      ∙ (λ j. free_sum (sym is j) + sym (bytes standing may-free_nonrelocatable) j))
      (grind (arith, freed-is, masters-freed, is))
