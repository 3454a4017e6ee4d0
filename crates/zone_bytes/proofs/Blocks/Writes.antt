-- Bytes that are written into a block.
use Rattle.zone_bytes.proofs.Cited.{◌≡◌, ℕ, ◌+◌, ◌≤◌, List, ◌∷◌, ◌++◌, length, take, drop, refl, ap, ◌∙◌, sym, arith, append_assoc}
use Rattle.zone_bytes.proofs.Cited.{take-append-add, drop-append-add, nil_from_length, written, written-same, length-written, length-header}
use Rattle.zone_bytes.proofs.Cited.{padded, Block, Free, Masters, size, sizes, count, is_masters, content_of, with_content, free_of}
use Rattle.zone_bytes.proofs.Cited.{free_sum, Spot, tidy-content, head_of, zone_in, slot_in, IsSound, is_masters-content}
use Rattle.zone_bytes.proofs.Tiles.Heads.{length-head}
use Rattle.zone_bytes.proofs.Laws.Lawful.{Made, made}
use Rattle.zone_bytes.proofs.Blocks.InPlace.{masters-same, total-same, inside-made}
use Rattle.zone_bytes.proofs.Placed.Standing.{Standing, stands}

-- a list written past its first part
pub written-past : (a b x : List ℕ) (i : ℕ) → written (length a + i) x (a ++ b) ≡ a ++ written i x b
written-past a b x i =
    let k : length a + i + length x ≡ length a + (i + length x) = omega arith in
    ap (λ p. p ++ x ++ drop (length a + i + length x) (a ++ b)) (take-append-add a b i)
    ∙ ap (λ q. ((a ++ take i b) ++ x) ++ q) (ap (λ n. drop n (a ++ b)) k ∙ drop-append-add a b (i + length x))
    ∙ ap (λ p. p ++ drop (i + length x) b) (append_assoc a (take i b) x)
    ∙ append_assoc a (take i b ++ x) (drop (i + length x) b)

pub content-room : (b : Block) → 16 ≤ size b → 16 + length (content_of b) ≤ size b
content-room b h = grind arith

module _ (xs : List ℕ) (first count : ℕ) (i : IsSound xs first count) (place from : ℕ) (x : List ℕ) where
  abbrev new : List ℕ
  new = written (place + 16 + from) x xs

  -- where nothing is held, nothing is written
  nothing : {s : Spot} (a : Standing xs place s) → from + length x ≤ 0
      → Made new first count (s.below ++ s.here ∷ s.above) (slot_in xs)
  nothing {s} a w =
      let l : length x ≡ 0 = omega arith in
      rw (written-same (place + 16 + from) 0 x xs (omega (arith, a.some, a.inside)) (sym (nil_from_length x l)))
      (made xs _ (slot_in xs) i.unused (rw a.whole at i.lays) first count a.tidied i.begins i.counted)

  -- a write behind a header
  past : (h content : List ℕ) → length h ≡ 16 → written (16 + from) x (h ++ content) ≡ h ++ written from x content
  past h content l = grind (arith, written-past)

  pub written-in : (below : List Block) (here : Block) (above : List Block)
      (whole : zone_in xs ≡ below ++ here ∷ above) (low : sizes below ≡ place)
      (w : from + length x ≤ length (content_of here))
      → Made new first count (below ++ with_content (written from x (content_of here)) here ∷ above) (slot_in xs)
  unfolding head_of
  written-in below (Free n) above whole low w = nothing (stands i below (Free n) above whole place low) w
  written-in below Masters above whole low w = nothing (stands i below Masters above whole place low) w
  written-in below here above whole low w =
      let a = stands i below here above whole place low in
      let c = content_of here in
      let k = length-written from x c w in
      let e : size (with_content (written from x c) here) ≡ size here = ap padded k in
      inside-made a i refl (16 + from) (place + 16 + from) x (with_content (written from x c) here) (omega arith)
      (omega (arith, length-head)) (rw (e, k) (past _ _ (length-header _ _ _ _))) e
      (record { plain = refl; named = refl; placed = λ p. p })
      (tidy-content (written from x c) below here above a.tidied)

  -- a block's content lies in the bytes
  pub content-inside : (below : List Block) (here : Block) (above : List Block)
      (whole : zone_in xs ≡ below ++ here ∷ above) (low : sizes below ≡ place)
      → place + 16 + length (content_of here) ≤ length xs
  content-inside below here above whole low =
      let a = stands i below here above whole place low in
      omega (arith, content-room, a.some, a.inside)

pub masters-kept : (x : List ℕ) (below : List Block) (b : Block) (above : List Block)
    → count is_masters (below ++ with_content x b ∷ above) ≡ count is_masters (below ++ b ∷ above)
masters-kept x below b above = masters-same below above b (with_content x b) (is_masters-content x b)

-- the Free bytes stay
pub free-content : (x : List ℕ) (b : Block) → free_of (with_content x b) ≡ free_of b
free-content x b = grind arith

pub free-kept : (x : List ℕ) (below : List Block) (b : Block) (above : List Block)
    → free_sum (below ++ with_content x b ∷ above) ≡ free_sum (below ++ b ∷ above)
free-kept x below b above = total-same free_of below above b (with_content x b) (free-content x b)
