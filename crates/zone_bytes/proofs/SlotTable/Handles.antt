-- What the slot of a handle says: the place of its block, or that the handle is emptied.
use Rattle.zone_bytes.proofs.Cited.{◌≡◌, ℕ, Bool, true, false, IsTrue, ◌+◌, ◌%◌, ◌==◌, ◌≤◌, nat_le, ◌⊎◌, inl, inr, Option, Some, None, List}
use Rattle.zone_bytes.proofs.Cited.{[], ◌∷◌, ◌++◌, length, drop, sym, refl, ap, ◌∙◌, subst, arith, is_some, ◌-◌, false≢true, eqb_tells}
use Rattle.zone_bytes.proofs.Cited.{length-drop, option_map, slot_number, Empty, word_at, word, header, read_back, length-word, Flags}
use Rattle.zone_bytes.proofs.Cited.{Block, Relocatable, size, sizes, is_relocatable, Spot, spot, Slot, Used, is_used, is_resource, Unused}
use Rattle.zone_bytes.proofs.Cited.{set_slot, flag_word, head_of, Tile, Tiles, names, Leads, Apart, Each, IsSlot, Pairs, place_of_word}
use Rattle.zone_bytes.proofs.Cited.{IsHandle, Has, empty_word, Lays, Table, spot-passes, spot-is, has-spot, written, piece, piece-written}
use Rattle.zone_bytes.proofs.Cited.{SameOutside}
use Rattle.zone_bytes.proofs.Tiles.Tiling.{span-whole, tiles-split}
use Rattle.zone_bytes.proofs.Places.Stepped.{header-told}
use Rattle.zone_bytes.proofs.SlotTable.Tables.{slot-in, none-apart, each-has, no-name, used-is, tiles-agree, set-other}
use Rattle.zone_bytes.proofs.SlotTable.Tables.{set-same, used-apart, lays-set, chain-written, lays-written}
use Rattle.zone_bytes.proofs.Tiles.Decoding.{flag_word-small}
use Rattle.zone_bytes.proofs.Tiles.Leading.{leads-from, each-map, names-append, pairs-before, pairs-after, leads-same}
use Rattle.zone_bytes.proofs.Blocks.InPlace.{Stretch, word-outside, no-slots, tile-inside, tiles-piece}
use Rattle.zone_bytes.proofs.Blocks.Marked.{flagged-header}
use Rattle.zone_bytes.proofs.Tiles.Keeping.{chain-kept}
use Rattle.zone_bytes.proofs.Tiles.Splices.{outside-written, tiles-joined, outside-same, tiles-parts}
use Rattle.zone_bytes.proofs.Tiles.Heads.{length-head}

-- the handle of s is emptied
pub record IsEmptyHandle (xs : List ℕ) (blocks : List Block) (s : ℕ) (r : Bool) : Type 0 where
  pub apart : Each (Apart s) (names blocks)
  pub reads : word_at s xs ≡ empty_word r

-- the block of s is at a place
pub record HasBlock (xs : List ℕ) (blocks : List Block) (resource : ℕ → Bool) (s place : ℕ) : Type 0 where
  pub below : List Block
  pub flags : Flags
  pub content : List ℕ
  pub above : List Block
  pub whole : blocks ≡ below ++ Relocatable s flags content ∷ above
  pub found : spot (is_relocatable s) blocks ≡ Some
      (record { below = below; here = Relocatable s flags content; above = above })
  pub named : Has (names blocks) s
  pub low : sizes below ≡ place
  pub even : place % 16 ≡ 0
  pub tile : Tile (head_of resource (Relocatable s flags content)) (size (Relocatable s flags content)) (drop place xs)
  pub fits : place + 16 ≤ length xs
  pub flags_are : word_at (place + 12) xs ≡ flag_word flags (resource s)

-- the block that passes for s
pub relocatable-is : (s : ℕ) (b : Block) → is_relocatable s b ≡ true → (flags : Flags) × (content : List ℕ)
    × (b ≡ Relocatable s flags content)
relocatable-is s (Relocatable id flags content) e = (flags, content, grind (arith, eqb_tells))
relocatable-is s _ e = absurd (false≢true e)

module _ (xs : List ℕ) (blocks : List Block) (slots : ℕ → Slot) (unused : List ℕ)
    (h : Lays xs blocks slots unused) (s : ℕ) (used : IsTrue (is_used (slots s))) where
  abbrev resource : ℕ → Bool
  resource = λ t. is_resource (slots t)

  pub flag : (r : Bool) × (slots s ≡ Used r)
  flag = used-is (slots s) used

  pub handle-in : (s % 4 ≡ 0) × (s + 4 ≤ length xs)
  handle-in = slot-in xs blocks slots unused h s (rw flag.1 at (h.says s)).0

  pub state : IsEmptyHandle xs blocks s flag.0 ⊎ HasBlock xs blocks resource s (word_at s xs)
  unfolding head_of
  state = elim (rw flag.1 at (h.says s)).1 [
    | inl n ↦ inr (found (spot (is_relocatable s) blocks) refl n)
    | inr e ↦ inl (record { apart = e.0; reads = read_back s _ _ (grind arith) e.1 })
  ]
    where
      found : (o : Option Spot) → spot (is_relocatable s) blocks ≡ o → Has (names blocks) s
          → HasBlock xs blocks resource s (word_at s xs)
      found (Some q) e n =
          let w = relocatable-is s q.here (spot-passes (is_relocatable s) blocks q e) in
          let b : Block = Relocatable s w.0 w.1 in
          let all = spot-is (is_relocatable s) blocks q e ∙ ap (λ c. q.below ++ c ∷ q.above) w.2 in
          let t = tiles-split (head_of resource) xs q.below (b ∷ q.above)
          (subst (Tiles (head_of resource) xs) all h.lies.tiles) in
          let l = (leads-from xs q.below (b ∷ q.above) _ refl (subst (λ z. Leads 0 z xs) all h.lies.leads)).0 in
          let d = length-drop (sizes q.below) xs in
          let r : word_at s xs ≡ sizes q.below = read_back s _ xs (omega (arith, d, t.1.0.fits, t.1.0.some)) l in
          subst (HasBlock xs blocks resource s) (sym r) (record {
            below = q.below;
            flags = w.0;
            content = w.1;
            above = q.above;
            whole = all;
            found = e ∙ ap (λ c. Some (record { below = q.below; here = c; above = q.above })) w.2;
            named = n;
            low = refl;
            even = span-whole (head_of resource) _ q.below t.0;
            tile = t.1.0;
            fits = grind (arith, t);
            flags_are = (header-told _ _ s (flag_word w.0 (resource s)) _ w.1 xs t.1.0).marked
                (let g = flag_word-small w.0 (resource s) in omega arith);
          })
      found None e n = absurd (each-has (λ t. s ≡ t → ⊥) (names blocks) s
          (no-name s blocks (has-spot (is_relocatable s) blocks ∙ ap is_some e)) n refl)

-- the slot of a handle in a table
module _ {xs : List ℕ} {t : Table} {s : ℕ} (k : IsHandle xs t s) where
  abbrev pub resource_of : ℕ → Bool
  resource_of = λ u. is_resource (t.slots u)

  abbrev pub its_flag : (r : Bool) × (t.slots s ≡ Used r)
  its_flag = flag xs t.blocks t.slots t.unused k.lays s k.used

  either : IsEmptyHandle xs t.blocks s its_flag.0 ⊎ HasBlock xs t.blocks resource_of s (word_at s xs)
  either = state xs t.blocks t.slots t.unused k.lays s k.used

  pub may-look : (s % 4 ≡ 0) × (s + 4 ≤ length xs)
  may-look = handle-in xs t.blocks t.slots t.unused k.lays s k.used

  -- its word is the place of its block
  pub leads-is : place_of_word (word_at s xs) ≡ option_map (λ (q : Spot). sizes q.below)
      (spot (is_relocatable s) t.blocks)
  leads-is = grind (arith, either, has-spot, none-apart)

  pub here-of : (place : ℕ) → place_of_word (word_at s xs) ≡ Some place → HasBlock xs t.blocks resource_of s place
  here-of place w = grind (arith, either)

  pub gone-of : place_of_word (word_at s xs) ≡ None → IsEmptyHandle xs t.blocks s its_flag.0
  gone-of w = grind (arith, either)

  -- the resource flag, in the header and in the word of an empty handle
  pub resource-here : (place : ℕ) → place_of_word (word_at s xs) ≡ Some place
      → nat_le 32 (word_at (place + 12) xs % 64) ≡ is_resource (t.slots s)
  resource-here place w = (λ i. nat_le 32 ((here-of place w).flags_are i % 64)) ∙ (grind arith)

  pub resource-gone : place_of_word (word_at s xs) ≡ None → (word_at s xs == 18) ≡ is_resource (t.slots s)
  resource-gone w = grind (arith, gone-of)

-- the word of an empty handle is the number of its slot
pub empty-number : (r : Bool) → slot_number (Empty r) ≡ empty_word r
empty-number true = refl
empty-number false = refl

-- a slot's word, and where it leads, as they were read
pub leads-read : (v : ℕ) {w : ℕ} {place : Option ℕ} → w ≡ v → place ≡ place_of_word w → place_of_word v ≡ place
leads-read v e f = grind arith

module _ {xs : List ℕ} {blocks : List Block} {slots : ℕ → Slot} {unused : List ℕ} (h : Lays xs blocks slots unused)
    (s : ℕ) (was r : Bool) (u : slots s ≡ Used was) where
  abbrev now : ℕ → Slot
  now = set_slot slots s (Used r)

  is-slot : IsSlot s blocks
  is-slot = grind (arith, h)

  -- the flag in the word of an empty handle
  pub lays-emptied : Each (Apart s) (names blocks) → Lays (written s (word (empty_word r)) xs) blocks now unused
  lays-emptied a =
      let n = empty_word r in
      let b = slot-in xs blocks slots unused h s is-slot in
      lays-written _ _ slots _ h s n _ _ is-slot a (λ t d e k. k)
      (is-slot, inr (a, piece-written s _ _ 4 (sym (length-word n)) (omega arith)))
      (chain-written _ _ slots _ h s n _ (omega arith) (used-apart xs blocks slots unused h s was is-slot u)
      h.chain) (grind (arith, each-map)) h.once

  -- the flag in the header of a handle's block
  module _ (place : ℕ) (b : HasBlock xs blocks (λ t. is_resource (slots t)) s place) where
    abbrev here : Block
    here = Relocatable s b.flags b.content

    abbrev top : ℕ
    top = place + size here

    abbrev head : Block → List ℕ
    head = head_of (λ t. is_resource (now t))

    abbrev new : List ℕ
    new = written (place + 12) (word (flag_word b.flags r)) xs

    stretch : Stretch place top b.below (here ∷ []) b.above
    stretch = record { low = b.low; high = omega arith; plain = no-slots here refl }

    same : SameOutside place top xs new
    same = outside-written _ _ _ _ _ (word (flag_word b.flags r)) (omega arith) (omega (arith, length-word))
        (outside-same place top xs (omega arith) (omega (arith, b.tile.fits, length-drop place xs)))

    pieces : (t : ℕ) → IsSlot t blocks → piece t 4 new ≡ piece t 4 xs
    pieces t i = word-outside stretch same t (subst (IsSlot t) b.whole i)

    -- the resource flags of the other blocks stay
    agree : (ns : List ℕ) → Each (Apart s) ns → Each (λ t. is_resource (slots t) ≡ is_resource (now t)) ns
    agree ns a = grind (arith, each-map, set-other)

    apart-all : Pairs Apart (names b.below ++ s ∷ names b.above)
    apart-all = grind (arith, names-append, h)

    tile-now : Tile (head here) (size here) (drop place new)
    unfolding head_of
    tile-now =
        let z = size here in
        let e : is_resource (now s) ≡ r = ap is_resource (set-same slots s s (Used r) refl) in
        subst (λ q. Tile (header (z + 3) (length b.content) s (flag_word b.flags q) ++ b.content) z (drop place new))
        (sym e) (tile-inside _ _ (word (flag_word b.flags r)) 12 z place (place + 12) xs refl
        (omega (arith, length-head, length-word)) (flagged-header _ _ _ _ _ b.content) b.tile)

    tiles : Tiles head new (b.below ++ (here ∷ [] ++ b.above))
    tiles =
        let p = tiles-parts (head_of (λ t. is_resource (slots t))) xs b.below (here ∷ []) b.above place top b.low
        (omega arith) (rw b.whole at h.lies.tiles) in
        tiles-joined head new b.below (here ∷ []) b.above place top (omega arith)
        (rw same.low (tiles-agree _ _ _ b.below (agree _ (pairs-before s _ _ apart-all)) p.0))
        (tiles-piece head here place (top - place) new (omega arith) tile-now)
        (rw same.high (tiles-agree _ _ _ b.above (agree _ (pairs-after s (names b.below) _ apart-all)) p.3))

    pub lays-marked : Lays new blocks now unused
    lays-marked = lays-set xs blocks slots unused h s (Used r) new unused
        (record {
          tiles = subst (Tiles head new) (sym b.whole) tiles;
          leads = leads-same xs new 0 blocks (each-map (λ t. IsSlot t blocks) (λ t. piece t 4 new ≡ piece t 4 xs) pieces
              (names blocks) h.has_slots.slots) h.lies.leads;
        })
        (grind (arith, each-map)) same.kept
        (λ t d. pieces t) (λ t d e k. k) (is-slot, inl b.named) (chain-kept _ _ _
        (each-map (λ t. IsSlot t blocks × (slots t ≡ Unused)) (λ t. piece t 4 new ≡ piece t 4 xs)
        (λ t q. pieces t q.0) _ h.unused_slots) h.chain) (grind (arith, each-map)) h.once
