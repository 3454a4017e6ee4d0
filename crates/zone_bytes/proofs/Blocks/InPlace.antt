-- A block of a sound zone that gives way to another, with the Free bytes above it.
use Rattle.zone_bytes.proofs.Cited.{◌≡◌, ℕ, ◌+◌, ◌-◌, ◌≤◌, List, [], ◌∷◌, ◌++◌, take, drop, length, false, inl, inr, refl, sym, ap, ◌∙◌}
use Rattle.zone_bytes.proofs.Cited.{subst, arith, IsTrue, append_assoc, Bool, ◌%◌, ◌<◌, false≢true, cases_eq, length-take-le, length-drop}
use Rattle.zone_bytes.proofs.Cited.{take-take, piece, written, length-written, take-written_above, drop-written_below, piece-written, Block}
use Rattle.zone_bytes.proofs.Cited.{Masters, Relocatable, size, sizes, tidy, count, is_masters, free, total, resized_content}
use Rattle.zone_bytes.proofs.Cited.{is_relocatable, Free, Spot, total-append, head_of, Tile, Tiles, IsSlot, names_of, LeadsTo, Each}
use Rattle.zone_bytes.proofs.Cited.{IsPlaced, names, Apart, Leads, SameOutside, Splice, IsSplice, zone_in, Lays, slot_in, IsUsed, IsSound}
use Rattle.zone_bytes.proofs.Cited.{word, header_bytes, Header, laid, MayLay, length-word, Flags, has, is_used, Slot, is_resource, Lies}
use Rattle.zone_bytes.proofs.Tiles.Tiling.{tiles-one, tile-take, slot-swap, slot-inside, length-tiles, tiles-slot}
use Rattle.zone_bytes.proofs.Tiles.Tiling.{span-append, slot-beside, tiles-split, span-whole}
use Rattle.zone_bytes.proofs.Tiles.Leading.{each-names, each-map, names-append, Clear, piece-clear}
use Rattle.zone_bytes.proofs.Tiles.Leading.{apart-turned, leads-joined, leads-same, leads-from, leads-left, leads-right}
use Rattle.zone_bytes.proofs.Tiles.Splices.{outside-same, outside-written, tiles-splice, leads-splice, piece-outside}
use Rattle.zone_bytes.proofs.Tiles.Permuted.{same-names}
use Rattle.zone_bytes.proofs.Tiles.Keeping.{each-free, placed-run, run-no_slot, leads-free, lays-permuted, names-left}
use Rattle.zone_bytes.proofs.Tiles.Keeping.{placed-swap, span-free, lays-changed}
use Rattle.zone_bytes.proofs.Laws.Lawful.{Made, made}
use Rattle.zone_bytes.proofs.Placed.Standing.{Standing, resource_in}
use Rattle.zone_bytes.proofs.Tiles.Heads.{length-masters, free-tile}
use Rattle.zone_bytes.proofs.Placed.Laid.{laid-outside, laid-tiles}
use Rattle.zone_bytes.proofs.SlotTable.Slotted.{slot-is, name-apart}
use Rattle.zone_bytes.proofs.SlotTable.Tables.{apart-clear, apart-of, each-both}
use Rattle.zone_bytes.proofs.Tiles.Permuted.{SameNames, each-moved, turned}

-- the blocks from place to top have no slots
pub record Stretch (place top : ℕ) (below old above : List Block) : Type 0 where
  pub low : sizes below ≡ place
  pub high : place + sizes old ≡ top
  pub plain : (s : ℕ) → IsSlot s old → ⊥

module _ {place top : ℕ} {below old above : List Block} (k : Stretch place top below old above) where
  abbrev all : List Block
  all = below ++ (old ++ above)

  -- a slot is below the stretch or above it
  pub clear : (s : ℕ) → IsSlot s all → Clear place (top - place) s
  clear s i = let b = slot-beside s below old above place top (k.plain _) k.low k.high i in grind arith

  -- and stays one
  pub slot-put : (now : List Block) → sizes now ≡ sizes old → (s : ℕ) → IsSlot s all
      → IsSlot s (below ++ (now ++ above))
  slot-put now e s i = slot-swap s below old now above (k.plain _) e i

  module _ {xs new : List ℕ} (same : SameOutside place top xs new) where
    -- with its word
    pub word-outside : (s : ℕ) → IsSlot s all → piece s 4 new ≡ piece s 4 xs
    word-outside s i = piece-outside _ _ _ _ s same (clear s i)

    -- other blocks in the stretch's place
    pub lies-put : (resource : ℕ → Bool) → Lies resource all xs
        → Each (λ s. IsSlot s all) (names below) × Each (λ s. IsSlot s all) (names above) → (now : List Block)
        → Tiles (head_of resource) (piece place (top - place) new) now → sizes now ≡ sizes old → Leads place now new
        → Lies resource (below ++ (now ++ above)) new
    lies-put resource l n now t e h = grind (arith, tiles-splice, leads-splice, each-map, clear)

module _ (zone : Splice) (bottom top : ℕ) (xs : List ℕ) (h : IsSplice zone bottom top xs) where
  pub bounds : (bottom ≤ top) × (top + sizes zone.above ≡ length xs)
  bounds = (omega arith, omega (arith, length-tiles, span-append))

  pub even : (bottom % 16 ≡ 0) × (top % 16 ≡ 0)
  even = grind (arith, tiles-split, span-whole)

  spliced : Stretch bottom top zone.below zone.here zone.above
  spliced = record { low = h.low; high = h.high; plain = h.no_masters }

  -- a slot is below the stretch or above it
  pub outside : (s : ℕ) → IsSlot s (zone.below ++ (zone.here ++ zone.above)) → Clear bottom (top - bottom) s
  outside s i = clear spliced s i

  -- one Free block
  pub freed : let new = written bottom (word (top - bottom)) xs in
      Lies zone.resource (zone.below ++ (Free (top - bottom) ∷ [] ++ zone.above)) new × SameOutside bottom top xs new
  freed =
      let n = top - bottom in
      let new = written bottom (word n) xs in
      let w = length-word n in
      let e = even in
      let b = bounds in
      let same = outside-written _ _ _ _ bottom (word n) (omega arith) (omega arith)
      (outside-same bottom top xs b.0 (omega arith)) in
      let l = length-take-le n (drop bottom new) (omega (arith, length-drop bottom new)) in
      let tile = free-tile zone.resource n (piece bottom n new) l (omega arith) (omega arith)
      (take-take 4 n (drop bottom new) (omega arith) ∙ piece-written bottom (word n) xs 4 (sym w) (omega arith)) in (
        lies-put spliced same zone.resource h.lies h.slots (Free n ∷ [])
            (tiles-one (head_of zone.resource) (Free n) (piece bottom n new) l tile) (omega arith) (tt, tt),
        same,
      )

-- a stretch of a zone that bytes lay
module _ (xs : List ℕ) (below here above : List Block) (slots : ℕ → Slot) (unused : List ℕ)
    (h : Lays xs (below ++ (here ++ above)) slots unused)
    (bottom top : ℕ) (low : sizes below ≡ bottom) (high : bottom + sizes here ≡ top) (some : bottom < top)
    (none : (s : ℕ) → IsSlot s here → ⊥) where
  abbrev pub zone : Splice
  zone = record { resource = λ s. is_resource (slots s); below = below; here = here; above = above }

  pub is-splice : IsSplice zone bottom top xs
  is-splice = grind (arith, each-names)

pub no-slots : (b : Block) → is_masters b ≡ false → (s : ℕ) → IsSlot s (b ∷ []) → ⊥
no-slots Masters m s i = absurd (false≢true (sym m))
no-slots _ m s i = grind arith

-- neither a block that holds none nor Free bytes above it have slots
no-slots-two : (b : Block) (k : ℕ) → is_masters b ≡ false → (s : ℕ) → IsSlot s (b ∷ free k) → ⊥
no-slots-two b k e s j = grind (arith, no-slots, run-no_slot, each-free)

-- another block that counts as much leaves a sum
pub total-same : (of : Block → ℕ) (below above : List Block) (b c : Block) → of c ≡ of b
    → total of (below ++ c ∷ above) ≡ total of (below ++ b ∷ above)
total-same of below above b c e = grind (arith, total-append)

pub masters-same : (below above : List Block) (b c : Block) → is_masters c ≡ is_masters b
    → count is_masters (below ++ c ∷ above) ≡ count is_masters (below ++ b ∷ above)
masters-same below above b c e = grind (arith, total-same)

-- a tile, into whose bytes a part was written
pub tile-inside : (head head' w : List ℕ) (k n place at : ℕ) (xs : List ℕ) → at ≡ place + k → k + length w ≤ length head
    → written k w head ≡ head' → Tile head n (drop place xs) → Tile head' n (drop place (written at w xs))
tile-inside head head' w k n place at xs a l e t =
    let same : length head' ≡ length head = sym (ap length e) ∙ length-written k w head l in
    let d = length-drop place xs in
    let up : drop place (written at w xs) ≡ written k w (drop place xs) =
    drop-written_below at w xs place (omega arith) (omega arith)
    ∙ (let v : at - place ≡ k = omega arith in ap (λ j. written j w (drop place xs)) v) in
    let q = length-written k w (drop place xs) (omega arith) in
    subst (Tile head' n) (sym up) (record {
      fits = omega arith;
      whole = t.whole;
      some = t.some;
      room = omega arith;
      begins = grind (arith, take-written_above);
    })

-- the bytes of one block
pub tiles-piece : (head : Block → List ℕ) (b : Block) (place len : ℕ) (xs : List ℕ) → len ≡ size b
    → Tile (head b) (size b) (drop place xs) → Tiles head (piece place len xs) (b ∷ [])
tiles-piece head b place len xs e t = subst (λ j. Tiles head (take j (drop place xs)) (b ∷ [])) (sym e)
    (tiles-one head b _ (length-take-le (size b) (drop place xs) t.fits)
    (tile-take head (head b) (size b) (size b) _ (omega arith) t.fits t))

-- a block without slots, and the Free bytes above it, up to top
pub record Site (xs : List ℕ) (place top : ℕ) (s : Spot) (m : ℕ) (rest : List Block) : Type 0 where
  pub at : Standing xs place s
  pub plain : is_masters s.here ≡ false
  pub is : s.above ≡ free m ++ rest
  pub ends : top ≡ place + size s.here + m

-- the block alone
pub alone : {xs : List ℕ} {place : ℕ} {s : Spot} (top : ℕ) → Standing xs place s → is_masters s.here ≡ false
    → top ≡ place + size s.here → Site xs place top s 0 s.above
alone top a p e = record { at = a; plain = p; is = refl; ends = omega arith }

-- a block without slots that has the name of another
pub record Alike (place : ℕ) (b c : Block) : Type 0 where
  pub plain : is_masters c ≡ false
  pub named : names_of c ≡ names_of b
  pub placed : IsPlaced place b → IsPlaced place c

module _ {xs : List ℕ} {place top : ℕ} {s : Spot} {m : ℕ} {rest : List Block} (k : Site xs place top s m rest) where
  abbrev pub old : List Block
  old = s.below ++ ((s.here ∷ free m) ++ rest)

  pub stretch : Stretch place top s.below (s.here ∷ free m) rest
  stretch = grind (arith, span-free, no-slots-two)

  pub whole : zone_in xs ≡ old
  whole = k.at.whole ∙ ap (λ l. s.below ++ s.here ∷ l) k.is

  -- another block there, and Free bytes above it
  module _ (b : Block) (left : ℕ) (e : size b + left ≡ size s.here + m) where
    pub span : sizes (b ∷ free left) ≡ sizes (s.here ∷ free m)
    span = omega (arith, span-free)

    pub slot-back : is_masters b ≡ false → (t : ℕ) → IsSlot t (s.below ++ ((b ∷ free left) ++ rest)) → IsSlot t old
    slot-back p t j = slot-swap t s.below (b ∷ free left) (s.here ∷ free m) rest (no-slots-two b left p _) (sym span) j

  module _ {first count : ℕ} (i : IsSound xs first count) where
    pub was : Lays xs old (slot_in xs) i.unused
    was = rw whole at i.lays

    pub put-lays : (b : Block) (left : ℕ) → Alike place s.here b → size b + left ≡ size s.here + m
        → (new : List ℕ) → SameOutside place top xs new
        → Tiles (head_of (resource_in xs)) (piece place (top - place) new) (b ∷ free left)
        → Lays new (s.below ++ ((b ∷ free left) ++ rest)) (slot_in xs) i.unused
    put-lays b left a e new same t =
        let z = span b left e in
        let n : names (b ∷ free left) ≡ names (s.here ∷ free m) =
        names-left (b ∷ []) left ∙ ap (λ l. l ++ []) a.named ∙ sym (names-left (s.here ∷ []) m) in
        let l : LeadsTo place b new = grind (arith, each-map, word-outside stretch same, each-names, was) in
        lays-permuted xs new old _ (slot_in xs) i.unused was (lies-put stretch same (resource_in xs) was.lies
        (grind (arith, each-names, was)) (b ∷ free left) t z (l, leads-free (place + size b) left new))
        (same-names _ _ (grind (arith, names-append))) (slot-put stretch (b ∷ free left) z) (slot-back b left e a.plain)
        (placed-swap 0 s.below (s.here ∷ free m) (b ∷ free left) rest z
        (grind (arith, a, k.at), placed-run _ (free left) (each-free left)) was.placed)
        (λ t j q. word-outside stretch same t j) same.kept

-- or a block that was laid
pub laid-lays : {xs : List ℕ} {place top : ℕ} {s : Spot} {m : ℕ} {rest : List Block} (k : Site xs place top s m rest)
    {first count : ℕ} (i : IsSound xs first count) (h : Header) (held : ℕ) → MayLay h place top held xs → (b : Block)
    → Alike place s.here b → size b ≡ h.size
    → header_bytes h ++ resized_content h.logical (piece (place + 16) held xs) ≡ head_of (resource_in xs) b
    → Lays (laid h place top held xs) (s.below ++ ((b ∷ free (top - place - h.size)) ++ rest)) (slot_in xs) i.unused
laid-lays {xs} {place} {top} k i h held may b like e head = put-lays k i b _ like (omega (arith, k.ends)) _
    (laid-outside h place top held xs may) (laid-tiles h place top held xs may (resource_in xs) b e head)

-- a part of a block's bytes is written, and they are those of another of its size
pub inside-made : {xs : List ℕ} {place : ℕ} {s : Spot} (a : Standing xs place s) {first count : ℕ}
    (i : IsSound xs first count) → is_masters s.here ≡ false → (k at : ℕ) (w : List ℕ) (now : Block) → at ≡ place + k
    → k + length w ≤ length (head_of (resource_in xs) s.here)
    → written k w (head_of (resource_in xs) s.here) ≡ head_of (resource_in xs) now → size now ≡ size s.here
    → Alike place s.here now → tidy (s.below ++ now ∷ s.above) ≡ s.below ++ now ∷ s.above
    → Made (written at w xs) first count (s.below ++ now ∷ s.above) (slot_in xs)
inside-made {xs} {place} {s} a i p k at w now e l f z like y =
    let top = place + size s.here in
    made _ _ (slot_in xs) _ (put-lays (alone top a p refl) i now 0 like (omega arith) _
    (outside-written place top xs xs at w (omega arith) (omega (arith, a.tile.room))
    (outside-same place top xs (omega arith) a.inside))
    (tiles-piece (head_of (resource_in xs)) now place _ _ (omega arith) (subst (λ n. Tile (head_of (resource_in xs) now)
    n (drop place (written at w xs))) (sym z) (tile-inside _ _ w k _ place at xs e l f a.tile)))) _ _ y i.begins
    i.counted

-- a block in the place of one that has no name, to which a slot is made to lead
module _ {xs : List ℕ} {place top : ℕ} {s : Spot} {m : ℕ} {rest : List Block} (k : Site xs place top s m rest)
    (unnamed : names_of s.here ≡ []) {first count : ℕ} (i : IsSound xs first count) (number : ℕ)
    (used : IsTrue (is_used (slot_in xs number))) (none : has (is_relocatable number) (zone_in xs) ≡ false)
    (flags : Flags) (content : List ℕ) (left : ℕ)
    (e : size (Relocatable number flags content) + left ≡ size s.here + m) (mid : List ℕ)
    (same : SameOutside place top xs mid) (t : Tiles (head_of (resource_in xs)) (piece place (top - place) mid)
    (Relocatable number flags content ∷ free left)) where
  abbrev put : List Block
  put = Relocatable number flags content ∷ free left

  abbrev now : List Block
  now = s.below ++ (put ++ rest)

  abbrev done : List ℕ
  done = written number (word place) mid

  h : Lays xs (old k) (slot_in xs) i.unused
  h = was k i

  is-slot : IsSlot number (old k)
  is-slot = grind (arith, slot-is, whole)

  far : Each (Apart number) (names (old k))
  far = subst (λ z. Each (Apart number) (names z)) (whole k) (name-apart xs first count i number used none)

  -- one name more
  names-are : SameNames (number ∷ names (old k)) (names now)
  names-are =
      let n : names now ≡ (names s.below ++ number ∷ []) ++ names rest =
      grind (arith, names-append, names-left, append_assoc) in
      grind (arith, names-append, names-left, n, turned [] (number ∷ []) (names s.below) (names rest))

  into : (u : ℕ) → IsSlot u (old k) → IsSlot u now
  into = slot-put (stretch k) put (span k (Relocatable number flags content) left e)

  fits : number + 4 ≤ length mid
  fits = omega (arith, slot-inside number (old k) is-slot, length-tiles (head_of _) xs (old k) h.lies.tiles, same.kept)

  others : (u : ℕ) → IsSlot u (old k) → Apart number u → piece u 4 done ≡ piece u 4 xs
  others u j p = piece-clear number (word place) mid u (omega (arith, fits)) (apart-clear number place u p)
      ∙ word-outside (stretch k) same u j

  lies : Lies (resource_in xs) now done
  lies =
      let z = span k (Relocatable number flags content) left e in
      let o = each-both (λ u. IsSlot u (old k)) (Apart number) (λ u. piece u 4 done ≡ piece u 4 xs) others
      (names (old k)) h.has_slots.slots far in
      let l = leads-same xs done 0 (old k) o h.lies.leads in
      record {
        tiles = tiles-slot (head_of _) (length-masters _) mid (word place) number now (length-word place)
            (into number is-slot) (tiles-splice (head_of _) xs mid s.below (s.here ∷ free m) rest put place top k.at.low
            (stretch k).high h.lies.tiles same t);
        leads = leads-joined done s.below put rest place _ k.at.low (ap (λ n. place + n) z)
            (leads-left done 0 s.below _ l) (
              piece-written number (word place) mid 4 (sym (length-word place)) (omega (arith, fits)),
              leads-free _ left done,
            )
            (leads-right done place (s.here ∷ free m) rest (leads-from done s.below _ place k.at.low l));
      }

  pub named-lays : Lays done now (slot_in xs) i.unused
  named-lays = lays-changed xs done (old k) now (slot_in xs) i.unused h lies (record {
    slots = each-moved (λ u. IsSlot u now) (number ∷ names (old k)) (names now) names-are.from
        (into number is-slot, each-map (λ u. IsSlot u (old k)) (λ u. IsSlot u now) into _ h.has_slots.slots);
    apart = names-are.apart (far, h.has_slots.apart);
  }) into (slot-back k (Relocatable number flags content) left e refl)
      (placed-swap 0 s.below (s.here ∷ free m) put rest (span k (Relocatable number flags content) left e)
      (tt, placed-run _ (free left) (each-free left)) h.placed)
      (length-written number (word place) mid (omega (arith, length-word, fits)) ∙ same.kept)
      (each-moved (λ u. IsUsed (slot_in xs u)) (number ∷ names (old k)) (names now) names-are.from
      (grind (arith, used), h.used))
      (λ u r q j w. elim w [
        | inl v ↦ inl (names-are.to u (inr v))
        | inr v ↦ elim (cases_eq number u) [
          | inl d ↦ inl (names-are.to u (inl d))
          | inr d ↦
              let p = apart-of xs (old k) (slot_in xs) i.unused h number u is-slot j d in
              inr (
                each-moved (Apart u) (number ∷ names (old k)) (names now) names-are.from (apart-turned number u p, v.0),
                others u j p ∙ v.1,
              )
        ]
      ])
      (λ u j q. others u j (apart-of xs (old k) (slot_in xs) i.unused h number u is-slot j (λ d. grind (arith, used))))
