-- The zone in bytes after a block was given another size.
use Rattle.zone_bytes.proofs.Cited.{◌≡◌, ℕ, ◌-◌, ◌<◌, ◌≤◌, ◌+◌, inl, inr, Some, List, ◌∷◌, ◌++◌, refl, sym, ap, ◌∙◌, arith, IfSome, Block}
use Rattle.zone_bytes.proofs.Cited.{Free, size, count, is_masters, resized, tidy-tidy, Spot, spot_at, filled, grow_up, total-tidy}
use Rattle.zone_bytes.proofs.Cited.{total-append, less_or_more, tidy-grown, count-grown, is_masters-resized, if_some-map, zone_in, Lays}
use Rattle.zone_bytes.proofs.Cited.{slot_in, IsSound, purgeable_of, purgeable_sum}
use Rattle.zone_bytes.proofs.Laws.Lawful.{Made, made}
use Rattle.zone_bytes.proofs.Places.Options.{the-if, a-spot}
use Rattle.zone_bytes.proofs.Placed.Standing.{Standing}
use Rattle.zone_bytes.proofs.Bounds.Given.{given-filled, given-grown, given-parts}
use Rattle.zone_bytes.proofs.Placed.Sizes.{HasRoom}
use Rattle.zone_bytes.proofs.Tiles.Spelling.{zone-of}

-- the blocks afterwards, as the block was cut or has grown
pub record Resized (xs now : List ℕ) (first unused n : ℕ) (s : Spot) : Type 0 where
  pub blocks : List Block
  pub made : Made now first unused blocks (slot_in xs)
  pub masters : count is_masters blocks ≡ count is_masters (zone_in xs)
  pub given : purgeable_sum blocks + purgeable_of s.here ≡ purgeable_sum (zone_in xs) + purgeable_of (resized n s.here)

module _ (xs now : List ℕ) (first unused place n : ℕ) (i : IsSound xs first unused) (s : Spot)
    (e : spot_at place (zone_in xs) ≡ Some s) (at : Standing xs place s) (room : HasRoom n s)
    (cut : (first unused : ℕ) (i : IsSound xs first unused) → IfSome (spot_at place (zone_in xs)) (λ s.
    size (resized n s.here) ≤ size s.here → Lays now (filled (resized n s.here) s) (slot_in xs) i.unused))
    (grown : (first unused : ℕ) (i : IsSound xs first unused) → IfSome (spot_at place (zone_in xs)) (λ s.
    size s.here < size (resized n s.here) → IfSome (grow_up (resized n s.here) s) (λ after.
    Lays now after (slot_in xs) i.unused))) where
  abbrev new : Block
  new = resized n s.here

  pub resize-made : Resized xs now first unused n s
  resize-made = elim (less_or_more (size new) (size s.here)) [
    | inl le ↦ record {
      blocks = filled new s;
      made = made _ _ (slot_in xs) _ (the-if (spot_at place (zone_in xs)) _ s e (cut first unused i) le) _ _
          (tidy-tidy (s.below ++ new ∷ Free (size s.here - size new) ∷ s.above)) i.begins i.counted;
      masters = (grind (arith, total-tidy, total-append)) ∙ ap (count is_masters) (sym at.whole);
      given = omega (arith, given-filled, ap purgeable_sum at.whole, given-parts);
    }
    | inr more ↦
        let g = a-spot (grow_up new s) (elim room [ inl le ↦ absurd (omega arith) | inr is ↦ is ]) in
        record {
          blocks = g.0;
          made = made _ _ (slot_in xs) _ (the-if (grow_up new s) _ g.0 g.1 (the-if (spot_at place (zone_in xs)) _ s e
              (grown first unused i) more)) _ _ (tidy-grown n s g.0 more at.tidied g.1) i.begins i.counted;
          masters = count-grown is_masters (λ m. refl) new s g.0 (is_masters-resized n s.here) g.1
              ∙ ap (count is_masters) (sym at.whole);
          given = omega (arith, given-grown, ap purgeable_sum at.whole, given-parts);
        }
  ]

  pub cut-zone : IfSome (spot_at place (zone_in xs)) (λ s. size (resized n s.here) ≤ size s.here
      → zone_in now ≡ filled (resized n s.here) s)
  cut-zone = if_some-map {Q = λ s. size (resized n s.here) ≤ size s.here → zone_in now ≡ filled (resized n s.here) s}
      (spot_at place (zone_in xs)) (λ s f le. zone-of now _ (slot_in xs) _ (f le)) (cut first unused i)

  pub grown-zone : IfSome (spot_at place (zone_in xs)) (λ s. size s.here < size (resized n s.here)
      → IfSome (grow_up (resized n s.here) s) (λ after. zone_in now ≡ after))
  grown-zone = rw e (λ more. if_some-map {Q = λ after. zone_in now ≡ after} (grow_up new s)
      (λ after. zone-of now after (slot_in xs) i.unused)
      (the-if (spot_at place (zone_in xs)) _ s e (grown first unused i) more))
