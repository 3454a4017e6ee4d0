-- What a block holds, in its bytes.
use Rattle.zone_bytes.proofs.Cited.{◌≡◌, ℕ, Bool, true, false, ◌==◌, ◌+◌, ◌%◌, ◌<◌, ◌≤◌, List, [], ◌∷◌, length, drop, sym, ap, ◌∙◌, arith}
use Rattle.zone_bytes.proofs.Cited.{false≢true, piece, word_at, Block, Nonrelocatable, Relocatable, size, content_of, kind, head_of, Tile}
use Rattle.zone_bytes.proofs.Cited.{left_in, IsOnWay, GREATEST_ZONE}
use Rattle.zone_bytes.proofs.Places.Stepped.{Stepped, stepped, header-told}

-- the content of a block at a place, whose kind has one
pub record Contained (at : ℕ) (xs : List ℕ) (b : Block) : Type 0 where
  pub fits : at + 16 + word_at (at + 4) xs ≤ length xs
  pub is : piece (at + 16) (word_at (at + 4) xs) xs ≡ content_of b

module _ (resource : ℕ → Bool) (at : ℕ) (xs : List ℕ) (small : length xs ≤ GREATEST_ZONE) where
  pub contained : (b : Block) → Tile (head_of resource b) (size b) (drop at xs) → (kind b % 2 == 1) ≡ true
      → Contained at xs b
  unfolding head_of
  contained (Nonrelocatable id content) t k = grind (arith, header-told)
  contained (Relocatable slot flags content) t k = grind (arith, header-told)
  contained _ t k = absurd (false≢true k)

module _ (at : ℕ) (xs : List ℕ) (t : ℕ) {n : ℕ} (o : Stepped at xs n t) where
  pub holds : (t % 2 == 1) ≡ true → Contained at xs o.here
  holds k = contained o.resource at xs o.way.small o.here o.tile (ap (λ m. m % 2 == 1) (sym o.tag) ∙ k)

  pub holds-none : (t % 2 == 1) ≡ false → content_of o.here ≡ []
  holds-none k = grind arith

  pub same-here : (b : Block) (above : List Block) → left_in at xs ≡ b ∷ above → o.here ≡ b
  same-here b above e = cc

pub size-at : (at : ℕ) (xs : List ℕ) (w : IsOnWay at xs) → at < length xs → (n t : ℕ) → n + t ≡ word_at at xs
    → n % 16 ≡ 0 → t ≤ 3 → (b : Block) (above : List Block) → left_in at xs ≡ b ∷ above → n ≡ size b
size-at at xs w l n t e h k b above q =
    let o = stepped at xs w l n t e h k in
    o.bytes ∙ ap size (same-here at xs t o b above q)
