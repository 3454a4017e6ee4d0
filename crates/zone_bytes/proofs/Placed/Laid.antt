-- What the bytes are where a block was laid.
use Rattle.zone_bytes.proofs.Cited.{refl, ◌≡◌, ℕ, ◌+◌, ◌-◌, ◌<◌, ◌≤◌, ◌⊎◌, inl, inr, List, ◌++◌, length, take, drop, replicate, sym, ap}
use Rattle.zone_bytes.proofs.Cited.{◌∙◌, arith, length-append, Bool, ◌%◌, ◌∷◌, rules, length-drop, length-take-le, length-replicate}
use Rattle.zone_bytes.proofs.Cited.{take-take, take_all, append-nil, take_at, drop-drop, drop-take, take-append-add, written, piece}
use Rattle.zone_bytes.proofs.Cited.{piece-written, piece-written_below, piece-written_above, written-written, length-written, written-same}
use Rattle.zone_bytes.proofs.Cited.{word, header_bytes, Header, length-word, length-header, resized_content, Block, size, free}
use Rattle.zone_bytes.proofs.Cited.{length-resized, Tile, head_of, Tiles, SameOutside, headed, laid, MayLay}
use Rattle.zone_bytes.proofs.Tiles.Splices.{outside-written, outside-same}
use Rattle.zone_bytes.proofs.Tiles.Tiling.{tile-take}
use Rattle.zone_bytes.proofs.Tiles.Heads.{free-tiles}

module _ (h : Header) (bottom top held : ℕ) (xs : List ℕ) (m : MayLay h bottom top held xs) where
  abbrev now : List ℕ
  now = laid h bottom top held xs

  abbrev left : ℕ
  left = top - bottom - h.size

  -- the content that stood there
  abbrev stood : List ℕ
  stood = piece (bottom + 16) held xs

  abbrev zeros : List ℕ
  zeros = replicate (h.logical - held) 0

  -- a header, that content, and bytes 0
  abbrev block : List ℕ
  block = header_bytes h ++ (stood ++ zeros)

  header-length : length (header_bytes h) ≡ 16
  header-length = length-header _ _ _ _

  length-stood : length stood ≡ held
  length-stood = grind (arith, length-take-le, length-drop)

  block-length : length block ≡ 16 + (held + (h.logical - held))
  block-length = grind (arith, length-append, length-replicate, header-length, length-stood)

  -- they are written as one
  written-once : headed h bottom held xs ≡ written bottom block xs
  written-once =
      let one = written bottom (header_bytes h) xs in
      let l = length-written bottom (header_bytes h) xs (omega (arith, header-length)) in
      ap (written (bottom + 16 + held) zeros) (sym (written-same (bottom + 16) held stood one (omega arith)
      (piece-written_above bottom (header_bytes h) xs (bottom + 16) held (omega (arith, header-length)) (omega arith))))
      ∙ written-written (bottom + 16) (bottom + 16 + held) stood zeros one (omega (arith, length-stood)) (omega arith)
      ∙ written-written bottom (bottom + 16) (header_bytes h) (stood ++ zeros) xs (omega (arith, header-length))
      (omega arith)

  -- what is left is Free, if there is any
  either : ((bottom + h.size < top) × (now ≡ written (bottom + h.size) (word left) (written bottom block xs)))
      ⊎ ((left ≡ 0) × (now ≡ written bottom block xs))
  either = grind (arith, written-once)

  block-outside : SameOutside bottom top xs (written bottom block xs)
  block-outside = outside-written bottom top xs xs bottom block (omega arith) (omega (arith, block-length))
      (outside-same bottom top xs (omega arith) m.inside)

  pub laid-outside : SameOutside bottom top xs now
  laid-outside = elim either [
    | inl w ↦ rw w.1 (outside-written _ _ _ _ _ (word left) (omega arith) (omega (arith, length-word)) block-outside)
    | inr w ↦ rw w.1 block-outside
  ]

  pub laid-left : (left ≡ 0) ⊎ ((0 < left) × (piece (bottom + h.size) 4 now ≡ word left))
  laid-left = elim either [
    | inl w ↦ inr (
      omega arith,
      rw w.1 (piece-written _ (word left) (written bottom block xs) 4
          (sym (length-word left)) (omega (arith, block-outside.kept))),
    )
    | inr w ↦ inl w.0
  ]

  -- the first bytes
  begins : (k : ℕ) → k ≤ h.size → k ≤ length block → piece bottom k now ≡ take k block
  begins k l f =
      let same : piece bottom k now ≡ piece bottom k (written bottom block xs) =
      grind (arith, either, piece-written_below, block-outside) in
      same ∙ sym (take-take k (length block) (drop bottom (written bottom block xs)) f)
      ∙ ap (take k) (piece-written bottom block xs (length block) refl (omega arith))

  pub laid-first : piece bottom 16 now ≡ header_bytes h
  laid-first = begins 16 (omega arith) (omega (arith, block-length)) ∙ take_at (header_bytes h) _ 16 header-length

  pub laid-tile : (head : List ℕ) → header_bytes h ++ resized_content h.logical stood ≡ head
      → Tile head h.size (drop bottom now)
  laid-tile head e =
      let b : piece bottom (16 + h.logical) now ≡ header_bytes h ++ resized_content h.logical stood =
      begins (16 + h.logical) m.whole (omega (arith, block-length))
      ∙ ap (λ n. take (n + h.logical) block) (sym header-length) ∙ take-append-add (header_bytes h) _ h.logical
      ∙ ap (λ q. header_bytes h ++ q) (let l = length-stood in grind
      (arith, append-nil, take_all, length-append, length-replicate)) in
      grind (arith, length-append, length-resized, header-length, length-drop, laid-outside)

-- a block and Free bytes above it
pub tiles-two : (resource : ℕ → Bool) (b : Block) (k at len : ℕ) (new : List ℕ) → len ≡ size b + k
    → at + len ≤ length new → k % 16 ≡ 0 → Tile (head_of resource b) (size b) (drop at new)
    → (k ≡ 0) ⊎ ((0 < k) × (piece (at + size b) 4 new ≡ word k))
    → Tiles (head_of resource) (piece at len new) (b ∷ free k)
tiles-two resource b k at len new e fits even t w =
    let head = head_of resource in
    let d = length-drop at new in
    let cut : drop (size b) (piece at len new) ≡ piece (at + size b) k new =
    ap (λ j. drop (size b) (take j (drop at new))) e ∙ drop-take (size b) k (drop at new)
    ∙ ap (take k) (drop-drop (size b) at new) in
    let l = length-take-le k (drop (at + size b) new) (omega (arith, length-drop (at + size b) new, fits, e)) in
    let above = free-tiles resource k (piece (at + size b) k new) l even (elim w [
      | inl z ↦ inl z
      | inr z ↦ inr (z.0, take-take 4 k (drop (at + size b) new) (omega arith) ∙ z.1)
    ]) in search (rules, tile-take)

-- a block that was laid, and what is left above it
pub laid-tiles : (h : Header) (place top held : ℕ) (xs : List ℕ) → MayLay h place top held xs → (resource : ℕ → Bool)
    (b : Block) → size b ≡ h.size
    → header_bytes h ++ resized_content h.logical (piece (place + 16) held xs) ≡ head_of resource b
    → Tiles (head_of resource) (piece place (top - place) (laid h place top held xs)) (b ∷ free (top - place - h.size))
laid-tiles h place top held xs may resource b same head =
    let new = laid h place top held xs in
    let o = laid-outside h place top held xs may in
    tiles-two resource b (top - place - h.size) place (top - place) new (omega arith) (omega arith) (omega arith)
    (rw same (laid-tile h place top held xs may (head_of resource b) head))
    (rw same (laid-left h _ _ _ _ may))
