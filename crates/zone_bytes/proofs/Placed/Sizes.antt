-- A block at another size, where it stands.
use Rattle.zone_bytes.proofs.Cited.{◌≡◌, ℕ, Bool, true, false, ◌==◌, ◌+◌, ◌-◌, ◌%◌, ◌<◌, ◌≤◌, ◌^◌, ◌⊎◌, zero, suc, Some, List, [], ◌∷◌}
use Rattle.zone_bytes.proofs.Cited.{◌++◌, length, drop, refl, sym, ap, ◌∙◌, subst, arith, append_assoc, false≢true, IfSome, IsSome}
use Rattle.zone_bytes.proofs.Cited.{IsSomeAnd, padded, word_at, header, tag_number, Header, Block, Free, Masters, size, sizes, free}
use Rattle.zone_bytes.proofs.Cited.{free_of, free_sum, is_masters, content_of, resized, resized_content, Spot, spot_at, filled, grow_up}
use Rattle.zone_bytes.proofs.Cited.{is_free, longer, apart-above, length-resized, Heading, unjoined-above, cut-sized, free_sum-sized}
use Rattle.zone_bytes.proofs.Cited.{tidy-below, total-append, total-le, kind, head_of, Tile, names_of, Each, left_in, zone_in, Lays}
use Rattle.zone_bytes.proofs.Cited.{slot_in, IsSound, laid, MayLay, free_first, past_free, free_of-le, Replaced, GREATEST_ZONE}
use Rattle.block_store.proofs.Zone.Apart.{Apart}
use Rattle.zone_bytes.proofs.Laws.Lawful.{sizes-length}
use Rattle.zone_bytes.proofs.Tiles.Tags.{tag-small}
use Rattle.zone_bytes.proofs.Tiles.Decoding.{flag_word-small}
use Rattle.zone_bytes.proofs.Tiles.Keeping.{span-free}
use Rattle.zone_bytes.proofs.Tiles.Spelling.{zone-of}
use Rattle.zone_bytes.proofs.Places.Stepped.{header-told}
use Rattle.zone_bytes.proofs.Places.Options.{the-spot}
use Rattle.zone_bytes.proofs.Blocks.InPlace.{Alike, Site, laid-lays}
use Rattle.zone_bytes.proofs.Placed.Standing.{Standing, standing, held-piece, resource_in}
use Rattle.zone_bytes.proofs.Blocks.Writes.{content-room}
use Rattle.zone_bytes.proofs.Tiles.Heads.{header-tells}
use Rattle.zone_bytes.proofs.Tiles.Tiling.{span-append}
use Rattle.zone_bytes.proofs.Places.AtPlace.{way-above}

-- blocks that stand apart, parted into the Free one that comes first and the others
headed-above : (above : List Block) → Apart above → Heading above (free_first above) (past_free above)
headed-above (Free zero ∷ above) a = absurd (longer _ _ a.0)
headed-above (Free (suc n) ∷ above) a = record { is = refl; unjoined = unjoined-above _ _ a }
headed-above _ a = record { is = refl; unjoined = refl }

abbrev Holds : Block → Type 0
Holds b = (kind b % 2 == 1) ≡ true

-- what stays of a block that holds bytes
pub record Same (n place : ℕ) (b : Block) : Type 0 where
  plain : is_masters b ≡ false
  held : is_free b ≡ false
  solid : is_free (resized n b) ≡ false
  like : Alike place b (resized n b)
  size : size (resized n b) ≡ padded n

-- the header of a block at another size
sized-head : (resource : ℕ → Bool) (n at : ℕ) (xs : List ℕ) (small : length xs ≤ GREATEST_ZONE) (b : Block)
    → Tile (head_of resource b) (size b) (drop at xs) → Each (λ s. s < 2 ^ 32) (names_of b) → Holds b
    → (word_at (at + 4) xs ≡ length (content_of b))
    × (header (padded n + kind b) n (word_at (at + 8) xs) (word_at (at + 12) xs) ++ resized_content n (content_of b)
    ≡ head_of resource (resized n b))
unfolding head_of
sized-head resource n at xs small (Free m) t w k = absurd (false≢true k)
sized-head resource n at xs small Masters t w k = absurd (false≢true k)
sized-head resource n at xs small b t w k =
    let q = header-told _ _ _ _ at (content_of b) xs t in
    let y = length-resized n (content_of b) in
    let v = q.named (omega arith) in
    let e = q.marked (grind (arith, flag_word-small)) in
    (q.long small, (λ j. header (padded (sym y j) + kind b) (sym y j) (v j) (e j) ++ resized_content n (content_of b)))

-- the header that was read at a place
pub record Read (header : Header) (place : ℕ) (xs : List ℕ) : Type 0 where
  pub first : header.size + tag_number header.tag ≡ word_at place xs
  pub even : header.size % 16 ≡ 0
  pub long : header.logical ≡ word_at (place + 4) xs
  pub named : header.slot ≡ word_at (place + 8) xs
  pub marked : header.flags ≡ word_at (place + 12) xs

-- tells the block's bytes and its kind
pub header-is : {xs : List ℕ} {place : ℕ} {s : Spot} {hd : Header} → Standing xs place s → Read hd place xs
    → (hd.size ≡ size s.here) × (tag_number hd.tag ≡ kind s.here)
header-is {xs} {place} {s} {hd} a r =
    header-tells (resource_in xs) xs place a.small s.here a.tile _ _ r.first r.even (tag-small hd.tag)

abbrev pub HasRoom : ℕ → Spot → Type 0
HasRoom n s = (size (resized n s.here) ≤ size s.here) ⊎ IsSome (grow_up (resized n s.here) s)

-- a block at another size, for which there is room, takes no more bytes than there are
pub room-fits : (xs : List ℕ) (place n : ℕ) (s : Spot) → Standing xs place s → HasRoom n s
    → sizes (s.below ++ s.here ∷ s.above) ≤ GREATEST_ZONE → size (resized n s.here) ≤ GREATEST_ZONE
room-fits xs place n s at room small = grind (arith, total-append)

-- what is known once the header and the Free bytes above the block were read
pub record Sizing (xs : List ℕ) (place n : ℕ) (s : Spot) (hd : Header) (m : ℕ) : Type 0 where
  pub at : Standing xs place s
  pub same : Same n place s.here
  pub size_is : hd.size ≡ size s.here
  pub long : hd.logical ≡ length (content_of s.here)
  pub head : header (padded n + tag_number hd.tag) n hd.slot hd.flags ++ resized_content n (content_of s.here)
      ≡ head_of (resource_in xs) (resized n s.here)
  pub heads : Heading s.above m (past_free s.above)
  pub ends : (place + hd.size + m ≤ length xs) × ((place + hd.size + m) % 16 ≡ 0)
  pub fits : padded n ≤ hd.size + m

pub sizing : {xs : List ℕ} {first unused : ℕ} (i : IsSound xs first unused) (place n : ℕ) (s : Spot)
    → Standing xs place s → HasRoom n s → (hd : Header) → Read hd place xs → (tag_number hd.tag % 2 == 1) ≡ true
    → (m : ℕ) → m ≡ free_first (left_in (place + hd.size) xs) → Sizing xs place n s hd m
sizing {xs} {first} {unused} i place n s a room hd r odd m e =
    let t = header-is a r in
    let h = ap (λ k. k % 2 == 1) (sym t.1) ∙ odd in
    let b : m ≡ free_first s.above =
    e ∙ ap (λ k. free_first (left_in (place + k) xs)) t.0 ∙ ap free_first a.left_above in
    let same : Same n place s.here = grind (arith, length-resized) in
    let tells = sized-head (resource_in xs) n place xs a.small s.here a.tile a.names h in
    let f : Heading s.above m (past_free s.above) = rw b (headed-above s.above (apart-above (s.here ∷ []) s.above
    (apart-above s.below (s.here ∷ s.above) a.apart))) in
    let w = (way-above xs first unused i (s.below ++ s.here ∷ free m) (past_free s.above) (place + hd.size + m)
    (a.whole ∙ ap (λ l. s.below ++ s.here ∷ l) f.is ∙ sym (append_assoc s.below (s.here ∷ free m) (past_free s.above)))
    (omega (arith, span-append, span-free))).walk in
    record {
      at = a;
      same = same;
      size_is = t.0;
      long = r.long ∙ tells.0;
      head = grind arith;
      heads = f;
      ends = (omega (arith, w.up), omega (arith, w.whole));
      fits = grind (arith, same, b);
    }

module _ {xs : List ℕ} {place n : ℕ} {s : Spot} {hd : Header} {m : ℕ} (k : Sizing xs place n s hd m) (z : ℕ)
    (pz : z ≡ padded n) where
  abbrev new : Block
  new = resized n s.here

  abbrev left : ℕ
  left = size s.here + m - size new

  abbrev sized-header : Header
  sized-header = record { size = z; tag = hd.tag; logical = n; slot = hd.slot; flags = hd.flags }

  pub may-size : MayLay sized-header place (place + hd.size + m) hd.logical xs
  may-size = grind (arith, content-room)

  module _ {first unused : ℕ} (i : IsSound xs first unused) where
    abbrev now : List ℕ
    now = laid sized-header place (place + hd.size + m) hd.logical xs

    sized-lays : Lays now (s.below ++ new ∷ (free left ++ past_free s.above)) (slot_in xs) i.unused
    sized-lays =
        let site : Site xs place (place + hd.size + m) s m (past_free s.above) =
        record { at = k.at; plain = k.same.plain; is = k.heads.is; ends = omega (arith, k.size_is) } in
        let j : place + hd.size + m - place - z ≡ left = omega (arith, k.same.size, k.size_is) in
        subst (λ j. Lays now (s.below ++ new ∷ (free j ++ past_free s.above)) (slot_in xs) i.unused) j
        (laid-lays site i sized-header hd.logical may-size new k.same.like (k.same.size ∙ sym pz)
        (grind (arith, held-piece)))

    pub cut-lays : size new ≤ size s.here → Lays now (filled new s) (slot_in xs) i.unused
    cut-lays le = grind (arith, cut-sized, k.same, k.heads, sized-lays)

    pub grown-lays : size s.here < size new → IfSome (grow_up new s) (λ after. Lays now after (slot_in xs) i.unused)
    grown-lays more = grind (arith, k.heads, sized-lays)

    pub free-sized : (count : ℕ) → count ≡ free_sum (zone_in xs)
        → (z ≤ count + hd.size) × (count ≤ GREATEST_ZONE) × (count + hd.size - z ≡ free_sum (zone_in now))
    free-sized count c =
        let a = ap free_sum (zone-of now _ (slot_in xs) i.unused sized-lays) in
        let b = free_sum-sized s.below new left (past_free s.above) k.same.solid in
        let d = ap free_sum k.at.whole ∙ ap (λ l. free_sum (s.below ++ s.here ∷ l)) k.heads.is
        ∙ free_sum-sized _ _ m _ k.same.held in
        let e = total-le free_of size free_of-le (zone_in xs) in
        (omega (arith, k.same.size), omega (arith, sizes-length), omega (arith, k.same.size))

    -- the blocks from the place up to the top of the Free block above became others
    pub sized-replaced : Replaced place (place + hd.size + m) (zone_in xs) (zone_in now)
    sized-replaced = record {
      below = s.below;
      here = s.here ∷ free m;
      there = new ∷ free left;
      above = past_free s.above;
      was = k.at.whole ∙ ap (λ l. s.below ++ s.here ∷ l) k.heads.is;
      is = zone-of now _ (slot_in xs) i.unused sized-lays;
      low = k.at.low;
      high = omega (arith, span-free, k.size_is);
      span = omega (arith, span-free, k.same.size);
    }

-- where a block holds no bytes, all stays
module _ {xs : List ℕ} {place : ℕ} (n : ℕ) {s : Spot} (at : Standing xs place s) (none : (kind s.here % 2 == 1) ≡ false)
    {first unused : ℕ} (i : IsSound xs first unused) where
  pub kept-cut : Lays xs (filled (resized n s.here) s) (slot_in xs) i.unused
  kept-cut = grind (arith, tidy-below)

  pub kept-grown : size s.here < size (resized n s.here)
      → IfSome (grow_up (resized n s.here) s) (λ after. Lays xs after (slot_in xs) i.unused)
  kept-grown more = grind arith

-- and so it does
pub kept-replaced : {xs : List ℕ} {place : ℕ} {s : Spot} → Standing xs place s
    → Replaced place place (zone_in xs) (zone_in xs)
kept-replaced {xs} {place} {s} a = record {
  below = s.below;
  here = [];
  there = [];
  above = s.here ∷ s.above;
  was = a.whole;
  is = a.whole;
  low = a.low;
  high = let e : place + 0 ≡ place = omega arith in e;
  span = refl;
}

-- the spot, and what is known of it
pub room-at : (xs : List ℕ) (first unused place n : ℕ) → IsSound xs first unused
    → IsSomeAnd (spot_at place (zone_in xs)) (λ s. HasRoom n s)
    → (s : Spot) × (spot_at place (zone_in xs) ≡ Some s) × HasRoom n s × Standing xs place s
room-at xs first unused place n i h =
    let a = the-spot (spot_at place (zone_in xs)) (λ s. HasRoom n s) h in
    (a.0, a.1, a.2, standing xs first unused place i a.0 a.1)
