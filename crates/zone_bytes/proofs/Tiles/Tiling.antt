-- Blocks that lie one after another.
use Rattle.zone_bytes.proofs.Cited.{◌≡◌, ℕ, ◌+◌, ◌-◌, ◌%◌, ◌≤◌, ◌⊎◌, inl, inr, List, [], ◌∷◌, ◌++◌, length, take, drop, refl, ap, subst}
use Rattle.zone_bytes.proofs.Cited.{arith, length-append, length-take-le, length-drop, take-append-le, drop-append-le, drop-drop, take-take}
use Rattle.zone_bytes.proofs.Cited.{drop-take, drop_all, written, length-written, take-written_below, drop-written_above}
use Rattle.zone_bytes.proofs.Cited.{drop-written_below, Block, Masters, size, sizes, total-append, Tile, Tiles, IsSlot}

pub span-append : (ls ms : List Block) → sizes (ls ++ ms) ≡ sizes ls + sizes ms
span-append ls ms = total-append size ls ms

-- a slot's word is among the bytes of the blocks
pub slot-inside : (s : ℕ) (blocks : List Block) → IsSlot s blocks → s + 4 ≤ sizes blocks
slot-inside s [] i = absurd i
slot-inside s (Masters ∷ blocks) (inl i) = omega arith
slot-inside s (b ∷ blocks) (inr i) = omega (arith, i.0, slot-inside (s - size b) blocks i.1)
slot-inside s (_ ∷ blocks) (inl i) = absurd i

pub slot-append_left : (s : ℕ) (ls ms : List Block) → IsSlot s ls → IsSlot s (ls ++ ms)
slot-append_left s [] ms i = absurd i
slot-append_left s (b ∷ ls) ms (inl i) = inl i
slot-append_left s (b ∷ ls) ms (inr i) = inr (i.0, slot-append_left (s - size b) ls ms i.1)

pub slot-append_right : (s : ℕ) (ls ms : List Block) → sizes ls ≤ s → IsSlot (s - sizes ls) ms → IsSlot s (ls ++ ms)
slot-append_right s [] ms l i = let e : s - 0 ≡ s = omega arith in subst (λ k. IsSlot k ms) e i
slot-append_right s (b ∷ ls) ms l i =
    let e : s - (size b + sizes ls) ≡ s - size b - sizes ls = omega arith in
    inr (omega arith, slot-append_right (s - size b) ls ms (omega arith) (subst (λ k. IsSlot k ms) e i))

pub slot-split : (s : ℕ) (ls ms : List Block) → IsSlot s (ls ++ ms)
    → IsSlot s ls ⊎ ((sizes ls ≤ s) × IsSlot (s - sizes ls) ms)
slot-split s [] ms i = let e : s ≡ s - 0 = omega arith in inr (omega arith, subst (λ k. IsSlot k ms) e i)
slot-split s (b ∷ ls) ms (inl i) = inl (inl i)
slot-split s (b ∷ ls) ms (inr i) = elim (slot-split (s - size b) ls ms i.1) [
  | inl j ↦ inl (inr (i.0, j))
  | inr j ↦
      inr (omega arith, subst (λ k. IsSlot k ms) (omega arith) j.1)
]

-- a slot is below a stretch that has none, or above it
pub slot-beside : (s : ℕ) (ls ms ns : List Block) (lo hi : ℕ) → (IsSlot (s - sizes ls) ms → ⊥) → sizes ls ≡ lo
    → lo + sizes ms ≡ hi → IsSlot s (ls ++ (ms ++ ns)) → ((s + 4 ≤ lo) × IsSlot s ls) ⊎ ((hi ≤ s) × IsSlot (s - hi) ns)
slot-beside s ls ms ns lo hi none a b i = grind (arith, slot-split, slot-inside)

-- other blocks in the place of some that have no slot
pub slot-swap : (s : ℕ) (below was now above : List Block) → (IsSlot (s - sizes below) was → ⊥) → sizes now ≡ sizes was
    → IsSlot s (below ++ (was ++ above)) → IsSlot s (below ++ (now ++ above))
slot-swap s below was now above none e i = elim (slot-beside s below was above _ _ none refl refl i) [
  | inl j ↦ slot-append_left s below (now ++ above) j.1
  | inr j ↦
      let f : s - (sizes below + sizes was) ≡ s - sizes below - sizes now = omega arith in
      slot-append_right s _ _ (omega arith) (slot-append_right _ _ _ (omega arith)
      (subst (λ q. IsSlot q above) f j.1))
]

module _ (head : Block → List ℕ) where
  -- the blocks take all the bytes
  pub length-tiles : (xs : List ℕ) (blocks : List Block) → Tiles head xs blocks → length xs ≡ sizes blocks
  length-tiles xs [] t = ap length t
  length-tiles xs (b ∷ blocks) t = omega (arith, length-tiles (drop (size b) xs) blocks t.1, length-drop (size b) xs)

  -- a block's bytes without the others
  pub tile-take : (h : List ℕ) (n k : ℕ) (xs : List ℕ) → n ≤ k → k ≤ length xs → Tile h n xs → Tile h n (take k xs)
  tile-take h n k xs l m t = grind (arith, length-take-le, take-take)

  pub tiles-append : (xs ys : List ℕ) (ls ms : List Block) → Tiles head xs ls → Tiles head ys ms
      → Tiles head (xs ++ ys) (ls ++ ms)
  tiles-append xs ys [] ms t u = rw t u
  tiles-append xs ys (b ∷ ls) ms t u = (
    (grind (arith, length-append, take-append-le)),
    rw (drop-append-le (size b) xs ys t.0.fits) (tiles-append (drop (size b) xs) ys ls ms t.1 u),
  )

  -- one block
  pub tiles-one : (b : Block) (xs : List ℕ) → length xs ≡ size b → Tile (head b) (size b) xs → Tiles head xs (b ∷ [])
  tiles-one b xs l t = (t, drop_all (size b) xs (omega arith))

  pub tiles-split : (xs : List ℕ) (ls ms : List Block) → Tiles head xs (ls ++ ms)
      → Tiles head (take (sizes ls) xs) ls × Tiles head (drop (sizes ls) xs) ms
  tiles-split xs [] ms t = (refl, t)
  tiles-split xs (b ∷ ls) ms t =
      let r = tiles-split (drop (size b) xs) ls ms t.1 in
      let enough : size b + sizes ls ≤ length xs = omega (arith, length-tiles, span-append ls ms) in (
        (
          tile-take (head b) (size b) (size b + sizes ls) xs (omega arith) enough t.0,
          rw (drop-take (size b) (sizes ls) xs) r.0,
        ),
        rw (← drop-drop (sizes ls) (size b) xs) r.1,
      )

  -- a write of a slot's word leaves the blocks
  pub tiles-slot : length (head Masters) ≡ 16 → (xs w : List ℕ) (s : ℕ) (blocks : List Block) → length w ≡ 4
      → IsSlot s blocks → Tiles head xs blocks → Tiles head (written s w xs) blocks
  tiles-slot m xs w s [] e i t = absurd i
  tiles-slot m xs w s (Masters ∷ blocks) e (inl i) t = (
    (grind (arith, length-written, take-written_below)),
    rw (drop-written_above s w xs 272 (omega arith) (omega arith)) t.1,
  )
  tiles-slot m xs w s (b ∷ blocks) e (inr i) t =
      let a = slot-inside (s - size b) blocks i.1 in
      let inside : s + 4 ≤ length xs = omega (arith, i.0, a, length-tiles, length-drop (size b) xs) in (
        (grind (arith, length-written, take-written_below)),
        rw (drop-written_below s w xs (size b) i.0 (omega arith))
            (tiles-slot m (drop (size b) xs) w (s - size b) blocks e i.1 t.1),
      )
  tiles-slot m xs w s (_ ∷ blocks) e (inl i) t = absurd i

-- blocks of no bytes are none
pub tiles-none : (head : Block → List ℕ) (xs : List ℕ) (blocks above : List Block) → Tiles head xs (blocks ++ above)
    → sizes blocks ≡ 0 → blocks ≡ []
tiles-none head xs [] above t e = refl
tiles-none head xs (b ∷ blocks) above t e = absurd (omega arith)

pub span-whole : (head : Block → List ℕ) (xs : List ℕ) (blocks : List Block) → Tiles head xs blocks
    → sizes blocks % 16 ≡ 0
span-whole head xs [] t = refl
span-whole head xs (b ∷ blocks) t = omega (arith, span-whole head (drop (size b) xs) blocks t.1)

-- slots are at multiples of 4
pub slot-even : (head : Block → List ℕ) (xs : List ℕ) (s : ℕ) (blocks : List Block) → Tiles head xs blocks
    → IsSlot s blocks → s % 4 ≡ 0
slot-even head xs s [] t i = absurd i
slot-even head xs s (Masters ∷ blocks) t (inl i) = i.2
slot-even head xs s (_ ∷ blocks) t (inl i) = absurd i
slot-even head xs s (b ∷ blocks) t (inr i) =
    omega (arith, slot-even head (drop (size b) xs) (s - size b) blocks t.1 i.1)
