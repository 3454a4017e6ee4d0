-- One step of a walk over the blocks that bytes spell.
use Rattle.zone_bytes.proofs.Cited.{◌≡◌, ℕ, Bool, ◌+◌, ◌%◌, ◌<◌, ◌≤◌, ◌^◌, Some, None, List, [], ◌∷◌, length, drop, sym, refl, ap, ◌∙◌}
use Rattle.zone_bytes.proofs.Cited.{subst, arith, length-drop, drop-drop, word_at, Seen, Block, Nonrelocatable, Relocatable, size, seen}
use Rattle.zone_bytes.proofs.Cited.{Tells, kind, head_of, Tile, names, names_of, Each, ArePlaced, Walk, header_seen, left_in, IsOnWay}
use Rattle.zone_bytes.proofs.Cited.{Steps, tag_number, Header, GREATEST_ZONE}
use Rattle.block_store.specs.declared.sparing.Seen.TheVariants as see
use Rattle.zone_bytes.proofs.Tiles.Leading.{each-left}
use Rattle.zone_bytes.proofs.Tiles.Tags.{tag-small}
use Rattle.zone_bytes.proofs.Tiles.Heads.{next-may, Next, next-there, header-tells, MayRead, IsRead}
use Rattle.zone_bytes.proofs.Tiles.Decoding.{blocks-back}
pub use Rattle.zone_bytes.proofs.Tiles.Heads.{header-told}

module _ (resource : ℕ → Bool) (at : ℕ) (xs : List ℕ) (small : length xs ≤ GREATEST_ZONE) where
  -- what a header tells is its block without its bytes
  pub told-is : (b : Block) → Tile (head_of resource b) (size b) (drop at xs) → Each (λ s. s < 2 ^ 32) (names_of b)
      → header_seen (kind b) (size b) (word_at (at + 4) xs) (word_at (at + 8) xs) (word_at (at + 12) xs) ≡ seen b
  unfolding head_of
  told-is (Nonrelocatable id content) t w = ap see.Nonrelocatable ((header-told _ _ 0 0 at content xs t).long small)
  told-is (Relocatable slot flags content) t w = grind (arith, header-told)
  told-is _ t w = refl

-- a step over the block whose header is of n bytes and a kind of number t
pub record Stepped (at : ℕ) (xs : List ℕ) (n t : ℕ) : Type 0 where
  pub here : Block
  pub is : left_in at xs ≡ here ∷ left_in (at + n) xs
  pub told : header_seen t n (word_at (at + 4) xs) (word_at (at + 8) xs) (word_at (at + 12) xs) ≡ seen here
  pub way : IsOnWay (at + n) xs
  pub bytes : n ≡ size here
  pub tag : t ≡ kind here
  pub resource : ℕ → Bool
  pub tile : Tile (head_of resource here) (size here) (drop at xs)

module _ (at : ℕ) (xs : List ℕ) (w : IsOnWay at xs) where
  pub left-is : left_in at xs ≡ w.rest
  left-is = grind (arith, length-drop, blocks-back)

  pub left-none : length xs ≤ at → left_in at xs ≡ []
  left-none l = left-is ∙ none w.rest w.walk
    where
      none : (rest : List Block) → Walk w.resource at xs rest → rest ≡ []
      none [] k = refl
      none (b ∷ rest) k = absurd (omega arith)

  pub next-header : at < length xs → Next xs at
  next-header l = next-there w.resource xs at w.small w.rest w.walk.high w.walk.whole l

-- a header may be read where a block begins
pub may-read : (at : ℕ) (xs : List ℕ) → IsOnWay at xs → at < length xs → MayRead at xs
may-read at xs w l = next-may (next-header at xs w l)

pub stepped : (at : ℕ) (xs : List ℕ) (w : IsOnWay at xs) → at < length xs → (n t : ℕ) → n + t ≡ word_at at xs
    → n % 16 ≡ 0 → t ≤ 3 → Stepped at xs n t
stepped at xs w l n t e h k = first w.rest w.walk w.placed w.words
  where
    first : (rest : List Block) → Walk w.resource at xs rest → ArePlaced at rest → Each (λ s. s < 2 ^ 32) (names rest)
        → Stepped at xs n t
    first [] v p o = absurd (omega arith)
    first (b ∷ rest) v p o =
        let small = w.small in
        let same = header-tells w.resource xs at w.small b v.high.0 n t e h k in
        let bytes = same.0 in
        let now : IsOnWay at xs = record w { rest = b ∷ rest; walk = v; placed = p; words = o } in
        let way : IsOnWay (at + n) xs = grind (arith, drop-drop) in
        record {
          here = b;
          is = left-is at xs now ∙ ap (λ q. b ∷ q) (sym (left-is (at + n) xs way));
          told = (grind arith) ∙ told-is w.resource _ _ small b v.high.0 (each-left (λ s. s < 2 ^ 32) _ _ o);
          way = way;
          bytes = bytes;
          tag = same.1;
          resource = w.resource;
          tile = v.high.0;
        }

pub tells-none : (at : ℕ) (xs : List ℕ) (w : IsOnWay at xs) → length xs ≤ at
    → Tells (left_in at xs) None (left_in at xs)
tells-none at xs w l = subst (λ k. Tells k None k) (sym (left-none _ _ w l)) (refl, refl)

-- the same of a header that was read
module _ (at : ℕ) (xs : List ℕ) (w : IsOnWay at xs) (l : at < length xs) (h : Header) (e : IsRead at xs h) where
  pub stepped-read : Stepped at xs h.size (tag_number h.tag)
  stepped-read = stepped at xs w l _ _ e.first e.size (tag-small h.tag)

  seen-read : header_seen (tag_number h.tag) h.size h.logical h.slot h.flags ≡ seen stepped-read.here
  seen-read =
      (λ i. header_seen (tag_number h.tag) h.size (e.logical i) (e.slot i) (e.flags i)) ∙ stepped-read.told

  module _ (answer : Seen) (a : answer ≡ header_seen (tag_number h.tag) h.size h.logical h.slot h.flags) where
    pub tells-step : Tells (left_in at xs) (Some answer) (left_in (at + h.size) xs)
    tells-step = let s = stepped-read in let t = seen-read in grind arith

    pub steps : Steps at answer (at + h.size) xs
    steps = let s = stepped-read in let t = seen-read in grind arith
