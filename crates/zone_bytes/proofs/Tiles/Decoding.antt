-- Bytes spell one list of blocks.
use Rattle.zone_bytes.proofs.Cited.{◌≡◌, ℕ, Bool, cond, ◌+◌, ◌-◌, ◌%◌, ◌<◌, ◌≤◌, ◌^◌, zero, suc, nat_le, List, [], ◌∷◌, length, drop, sym}
use Rattle.zone_bytes.proofs.Cited.{refl, ap, ◌∙◌, arith, length-drop, piece, word_at, read_back, Flags, Block, Nonrelocatable, Relocatable}
use Rattle.zone_bytes.proofs.Cited.{size, kind, flag_word, head_of, Tile, Tiles, names, names_of, Each, IsPlaced, ArePlaced, flags_of}
use Rattle.zone_bytes.proofs.Cited.{block_of_kind, block_in, blocks_in, zone_in, GREATEST_ZONE}
use Rattle.zone_bytes.proofs.Tiles.Leading.{each-left, each-right}
use Rattle.zone_bytes.proofs.Tiles.Heads.{first-word, kind-small, header-told, relocatable-told}

-- the flags of a block, above the resource flag of its handle
pub high-flags : (flags : Flags) → ((cond {A = ℕ} flags.locked 128 0 + cond {A = ℕ} flags.purgeable 64 0) % 64 ≡ 0)
    × (cond {A = ℕ} flags.locked 128 0 + cond {A = ℕ} flags.purgeable 64 0 ≤ 192)
high-flags flags = grind arith

pub low-flag : (r : Bool) → cond {A = ℕ} r 32 0 ≤ 32
low-flag r = grind arith

pub flag_word-small : (flags : Flags) (r : Bool) → flag_word flags r < 256
flag_word-small flags r = let h = high-flags flags in omega (arith, low-flag)

flags_of-word : (flags : Flags) (r : Bool) → flags_of (flag_word flags r) ≡ flags
flags_of-word flags r i = record { locked = locked flags r i; purgeable = purgeable flags r i }
  where
    locked : (flags : Flags) (r : Bool) → nat_le 128 (flag_word flags r) ≡ flags.locked
    locked flags r = grind arith

    purgeable : (flags : Flags) (r : Bool) → nat_le 64 (flag_word flags r % 128) ≡ flags.purgeable
    purgeable flags r = grind arith

blocks-none : (k o : ℕ) → blocks_in k o [] ≡ []
unfolding blocks_in
blocks-none k o = grind arith

module _ (resource : ℕ → Bool) where
  pub block-back : (o : ℕ) (b : Block) (ys : List ℕ) → length ys ≤ GREATEST_ZONE → IsPlaced o b
      → Each (λ s. s < 2 ^ 32) (names_of b) → Tile (head_of resource b) (size b) ys → block_in o ys ≡ b
  unfolding head_of
  block-back o b ys s p n t =
      let w = read_back 0 (size b + kind b) ys (omega (arith, kind-small)) (first-word resource ys b t) in
      let tag : word_at 0 ys % 16 ≡ kind b = omega (arith, kind-small) in
      let bytes : word_at 0 ys - word_at 0 ys % 16 ≡ size b = omega arith in
      (λ i. block_of_kind (tag i) (bytes i) o ys) ∙ of-kind b p n t
    where
      of-kind : (b : Block) → IsPlaced o b → Each (λ s. s < 2 ^ 32) (names_of b)
          → Tile (head_of resource b) (size b) ys → block_of_kind (kind b) (size b) o ys ≡ b
      of-kind (Nonrelocatable id content) p n t =
          let q = header-told _ _ 0 0 0 content ys t in
          (λ i. Nonrelocatable o (piece 16 (q.long s i) ys)) ∙ (λ i. Nonrelocatable (sym p i) (q.holds i))
      of-kind (Relocatable slot flags content) p n t =
          let q = relocatable-told resource 0 ys slot flags content t in
          let e = q.marked (omega (arith, flag_word-small flags (resource slot))) in
          (λ i. Relocatable (q.named n.0 i) (flags_of (e i)) (piece 16 (q.long s i) ys))
          ∙ (λ i. Relocatable slot (flags_of-word flags (resource slot) i) (q.holds i))
      of-kind _ p n t = refl

  pub blocks-back : (k o : ℕ) (blocks : List Block) (xs : List ℕ) → length xs ≤ k → length xs ≤ GREATEST_ZONE
      → ArePlaced o blocks → Each (λ s. s < 2 ^ 32) (names blocks) → Tiles (head_of resource) xs blocks
      → blocks_in k o xs ≡ blocks
  unfolding blocks_in
  blocks-back k o [] xs l s p n t = ap (blocks_in k o) t ∙ blocks-none k o
  blocks-back zero o (b ∷ blocks) xs l s p n t = absurd (omega arith)
  blocks-back (suc k) o (b ∷ blocks) [] l s p n t = absurd (omega arith)
  blocks-back (suc k) o (b ∷ blocks) (x ∷ xs) l s p n t =
      let ys : List ℕ = x ∷ xs in
      let P : ℕ → Type 0 = λ q. q < 2 ^ 32 in
      let e = block-back o b ys s p.0 (each-left P (names_of b) (names blocks) n) t.0 in
      let d = length-drop (size b) ys in
      (λ i. e i ∷ blocks_in k (o + size (e i)) (drop (size (e i)) ys)) ∙ ap (λ q. b ∷ q)
      (blocks-back k _ _ _ (omega arith) (omega arith) p.1 (each-right P _ _ n) t.1)

  -- the zone in the bytes
  pub zone-back : (blocks : List Block) (xs : List ℕ) → length xs ≤ GREATEST_ZONE → ArePlaced 0 blocks
      → Each (λ s. s < 2 ^ 32) (names blocks) → Tiles (head_of resource) xs blocks → zone_in xs ≡ blocks
  unfolding zone_in
  zone-back blocks xs s p n t = blocks-back _ 0 _ _ (omega arith) s p n t
