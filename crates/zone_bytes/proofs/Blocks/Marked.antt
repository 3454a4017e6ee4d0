-- A block whose flags are set.
use Rattle.zone_bytes.proofs.Cited.{◌≡◌, ℕ, false, cond, ◌==◌, ◌+◌, ◌%◌, List, ◌∷◌, ◌++◌, refl, ap, ◌∙◌, arith, written, word, word_at}
use Rattle.zone_bytes.proofs.Cited.{header, length-word, Flags, Block, Relocatable, sizes, count, is_masters, free_sum, with_flags}
use Rattle.zone_bytes.proofs.Cited.{tidy-flags, kind, flag_word, head_of, zone_in, slot_in, IsSound, flagged, is_resource, Spot}
use Rattle.zone_bytes.proofs.Tiles.Heads.{length-head, first-reads, kind-small}
use Rattle.zone_bytes.proofs.Tiles.Decoding.{flag_word-small, high-flags, low-flag}
use Rattle.zone_bytes.proofs.Places.Stepped.{header-told}
use Rattle.zone_bytes.proofs.Blocks.InPlace.{masters-same, total-same, inside-made}
use Rattle.zone_bytes.proofs.Laws.Lawful.{Made, made}
use Rattle.zone_bytes.proofs.Placed.Standing.{stands, Standing, resource_in}

-- the last word of a header is written
pub flagged-header : (a b c d w : ℕ) (content : List ℕ)
    → written 12 (word w) (header a b c d ++ content) ≡ header a b c w ++ content
unfolding word
flagged-header a b c d w content = refl

module _ (xs : List ℕ) (first count : ℕ) (i : IsSound xs first count) (place : ℕ) (flags : Flags) where
  -- the bytes that are written at a block of a kind
  flagged-is : {s : Spot} → Standing xs place s → flagged flags place xs ≡ cond (kind s.here == 3)
      (written (place + 12) (word (flag_word flags false + word_at (place + 12) xs % 64)) xs) xs
  flagged-is {s} a =
      let r = first-reads (resource_in xs) xs place a.small s.here a.tile in
      let z : word_at place xs % 16 ≡ kind s.here = omega (arith, r, kind-small, a.tile.whole) in
      grind (arith, z)

  pub flagged-made : (below : List Block) (here : Block) (above : List Block)
      (whole : zone_in xs ≡ below ++ here ∷ above) (low : sizes below ≡ place)
      → Made (flagged flags place xs) first count (below ++ with_flags flags here ∷ above) (slot_in xs)
  unfolding head_of
  flagged-made below (Relocatable slot old content) above whole low =
      let here : Block = Relocatable slot old content in
      let a = stands i below here above whole place low in
      let r = is_resource (slot_in xs slot) in
      let g = flag_word-small old r in
      let e = (header-told _ _ slot (flag_word old r) place content xs a.tile).marked (omega arith) in
      let h = high-flags old in
      let w : flag_word flags false + word_at (place + 12) xs % 64 ≡ flag_word flags r =
      ap (λ n. flag_word flags false + n % 64) e ∙ omega (arith, low-flag) in
      rw (flagged-is a, w)
      (inside-made a i refl 12 (place + 12) _ (Relocatable slot flags content) refl
      (omega (arith, length-head, length-word)) (flagged-header _ _ _ _ _ content) refl
      (record { plain = refl; named = refl; placed = λ p. p }) (tidy-flags flags below here above a.tidied))
  flagged-made below here above whole low =
      let a = stands i below here above whole place low in
      rw (flagged-is a) (made xs _ (slot_in xs) i.unused (rw whole at i.lays) first count a.tidied i.begins i.counted)

pub masters-flagged : (flags : Flags) (below : List Block) (b : Block) (above : List Block)
    → count is_masters (below ++ with_flags flags b ∷ above) ≡ count is_masters (below ++ b ∷ above)
masters-flagged flags below b above = grind (arith, masters-same)

-- the Free bytes stay
pub free-flagged : (flags : Flags) (below : List Block) (b : Block) (above : List Block)
    → free_sum (below ++ with_flags flags b ∷ above) ≡ free_sum (below ++ b ∷ above)
free-flagged flags below b above = grind (arith, total-same)
