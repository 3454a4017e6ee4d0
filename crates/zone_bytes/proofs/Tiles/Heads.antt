-- What the words of a block's header say.
use Rattle.zone_bytes.proofs.Cited.{◌≡◌, ℕ, Bool, ◌+◌, ◌<◌, ◌≤◌, ◌^◌, inl, inr, List, [], ◌∷◌, ◌++◌, length, take, drop, sym, refl, ap, ◌∙◌}
use Rattle.zone_bytes.proofs.Cited.{arith, length-append, ◌%◌, ◌⊎◌, subst, length-drop, length-take-le, drop-drop, drop-take, take-take}
use Rattle.zone_bytes.proofs.Cited.{take_all, piece, word, word_at, header, length-word, read_back, length-header, Flags, Block, Free}
use Rattle.zone_bytes.proofs.Cited.{Masters, Relocatable, size, free, kind, flag_word, head_of, Tile, Tiles, tag_number, Header}
use Rattle.zone_bytes.proofs.Cited.{GREATEST_ZONE}
use Rattle.zone_bytes.proofs.Tiles.Tiling.{tiles-one}
use Rattle.zone_bytes.proofs.Tiles.Tags.{tag-small}

-- the pieces of what a block begins with
pub tile-piece : (h : List ℕ) (n : ℕ) (ys : List ℕ) → Tile h n ys → (i k : ℕ) → i + k ≤ length h
    → piece i k ys ≡ piece i k h
tile-piece h n ys t i k l = sym (drop-take i k ys) ∙ ap (drop i) (grind (arith, take-take)) ∙ drop-take i k h

pub header-pieces : (a b c d : ℕ) (content : List ℕ) → let h = header a b c d ++ content in
    (piece 0 4 h ≡ word a) × (piece 4 4 h ≡ word b) × (piece 8 4 h ≡ word c) × (piece 12 4 h ≡ word d) ×
    (drop 16 h ≡ content)
unfolding word
header-pieces a b c d content = (refl, refl, refl, refl, refl)

masters-first : piece 0 4 (header 274 256 0 0) ≡ word (272 + 2)
unfolding word
masters-first = refl

pub length-head : (a b c d : ℕ) (content : List ℕ) → length (header a b c d ++ content) ≡ 16 + length content
length-head a b c d content = omega (arith, length-append (header a b c d) content, length-header a b c d)

-- what a header and its content say, where they stand
pub record Told (n c d at : ℕ) (content xs : List ℕ) : Type 0 where
  pub long : length xs ≤ GREATEST_ZONE → word_at (at + 4) xs ≡ length content
  pub named : c < 2 ^ 32 → word_at (at + 8) xs ≡ c
  pub marked : d < 2 ^ 32 → word_at (at + 12) xs ≡ d
  pub holds : piece (at + 16) (length content) xs ≡ content
  pub fits : at + 16 + length content ≤ length xs

pub header-told : (n a c d at : ℕ) (content xs : List ℕ)
    → Tile (header a (length content) c d ++ content) n (drop at xs) → Told n c d at content xs
header-told n a c d at content xs t =
    let h = header a (length content) c d ++ content in
    let p = header-pieces a (length content) c d content in
    let l = length-head a (length content) c d content in
    let told : (i k : ℕ) → i + k ≤ length h → piece (at + i) k xs ≡ piece i k h =
    λ i k f. ap (take k) (sym (drop-drop i at xs)) ∙ tile-piece h n (drop at xs) t i k f in
    let f : at + 16 + length content ≤ length xs = omega (arith, length-drop at xs) in
    record {
      long = λ small. read_back (at + 4) (length content) xs (omega arith) (told 4 4 (omega arith) ∙ p.1);
      named = λ small. read_back (at + 8) c xs small (told 8 4 (omega arith) ∙ p.2);
      marked = λ small. read_back (at + 12) d xs small (told 12 4 (omega arith) ∙ p.3);
      holds = told 16 (length content) (omega arith) ∙ ap (take (length content)) p.4
          ∙ take_all (length content) content (omega arith);
      fits = f;
    }

pub relocatable-told : (resource : ℕ → Bool) (at : ℕ) (xs : List ℕ) (slot : ℕ) (flags : Flags) (content : List ℕ)
    → Tile (head_of resource (Relocatable slot flags content)) (size (Relocatable slot flags content)) (drop at xs)
    → Told (size (Relocatable slot flags content)) slot (flag_word flags (resource slot)) at content xs
unfolding head_of
relocatable-told resource at xs slot flags content t =
    header-told _ _ slot (flag_word flags (resource slot)) at content xs t

pub kind-small : (b : Block) → kind b ≤ 3
kind-small b = grind arith

module _ (resource : ℕ → Bool) (ys : List ℕ) where
  pub first-word : (b : Block) → Tile (head_of resource b) (size b) ys → piece 0 4 ys ≡ word (size b + kind b)
  unfolding head_of
  first-word (Free n) t = grind (arith, length-word)
  first-word Masters t = tile-piece _ _ ys t 0 4 (omega (arith, length-header 274 256 0 0)) ∙ masters-first
  first-word _ t = grind (arith, length-head, header-pieces)

pub length-masters : (resource : ℕ → Bool) → length (head_of resource Masters) ≡ 16
unfolding head_of
length-masters resource = length-header _ _ 0 0

-- a Free block of n bytes stands where the word n comes first
pub free-tile : (resource : ℕ → Bool) (n : ℕ) (ys : List ℕ) → length ys ≡ n → n % 16 ≡ 0 → 16 ≤ n → take 4 ys ≡ word n
    → Tile (head_of resource (Free n)) n ys
unfolding head_of
free-tile resource n ys l w s b = grind arith

-- Free bytes stand where their number comes first
pub free-tiles : (resource : ℕ → Bool) (n : ℕ) (ys : List ℕ) → length ys ≡ n → n % 16 ≡ 0
    → (n ≡ 0) ⊎ ((0 < n) × (take 4 ys ≡ word n)) → Tiles (head_of resource) ys (free n)
free-tiles resource n [] l w (inl e) = subst (λ k. Tiles (head_of resource) [] (free k)) (sym e) refl
free-tiles resource n (y ∷ ys) l w (inl e) = absurd (omega arith)
free-tiles resource n ys l w (inr e) = grind (arith, tiles-one, free-tile)

-- and at a place of more bytes
pub free-at : (resource : ℕ → Bool) (at n : ℕ) (xs : List ℕ) → at + n ≤ length xs → n % 16 ≡ 0
    → (n ≡ 0) ⊎ ((0 < n) × (piece at 4 xs ≡ word n)) → Tiles (head_of resource) (piece at n xs) (free n)
free-at resource at n xs l e w = grind (arith, free-tiles, length-take-le, length-drop, take-take)

-- what reading a header requires
abbrev pub MayRead : ℕ → List ℕ → Type 0
MayRead from xs = record {
  within : (from % 4 ≡ 0) × (from + 16 ≤ length xs);
  fits : from + 16 < 2 ^ 32;
  tag : word_at from xs % 16 < 4;
}

-- what reading a header ensures
abbrev pub IsRead : ℕ → List ℕ → Header → Type 0
IsRead from xs h = record {
  first : h.size + tag_number h.tag ≡ word_at from xs;
  size : h.size % 16 ≡ 0;
  logical : h.logical ≡ word_at (from + 4) xs;
  slot : h.slot ≡ word_at (from + 8) xs;
  flags : h.flags ≡ word_at (from + 12) xs;
}

-- where there is a next block
pub record Next (xs : List ℕ) (from : ℕ) : Type 0 where
  pub even : from % 4 ≡ 0
  pub fits : from + 16 ≤ length xs
  pub below : from + 16 < 2 ^ 32
  pub tag : word_at from xs % 16 < 4
  pub big : 16 ≤ word_at from xs

pub next-may : {xs : List ℕ} {from : ℕ} → Next xs from → MayRead from xs
next-may n = record { within = (n.even, n.fits); fits = n.below; tag = n.tag }

module _ (resource : ℕ → Bool) (xs : List ℕ) (from : ℕ) (small : length xs ≤ GREATEST_ZONE) where
  pub first-reads : (b : Block) → Tile (head_of resource b) (size b) (drop from xs) → word_at from xs ≡ size b + kind b
  first-reads b t = grind (arith, length-drop, read_back, first-word)

  -- what a header tells: a block's bytes and its kind
  pub header-tells : (b : Block) → Tile (head_of resource b) (size b) (drop from xs) → (n t : ℕ)
      → n + t ≡ word_at from xs → n % 16 ≡ 0 → t ≤ 3 → (n ≡ size b) × (t ≡ kind b)
  header-tells b t n k e w l = grind (arith, first-reads, kind-small)

  pub read-tells : (h : Header) → IsRead from xs h → (b : Block) → Tile (head_of resource b) (size b) (drop from xs)
      → (h.size ≡ size b) × (tag_number h.tag ≡ kind b)
  read-tells h e b t = header-tells b t _ _ e.first e.size (tag-small h.tag)

  pub next-there : (blocks : List Block) → Tiles (head_of resource) (drop from xs) blocks → from % 16 ≡ 0
      → from < length xs → Next xs from
  next-there [] t w l = absurd (omega (arith, length-drop from xs, ap length t))
  next-there (b ∷ blocks) t w l = grind (arith, first-reads, length-drop)
