-- A new block at the lower end of a Free one.
use Rattle.zone_bytes.proofs.Cited.{◌≡◌, ℕ, ◌+◌, ◌-◌, ◌≤◌, IsTrue, Some, List, [], ◌∷◌, ◌++◌, replicate, cond, false, ◌==◌, rules, refl}
use Rattle.zone_bytes.proofs.Cited.{sym, ap, ◌∙◌, subst, arith, false≢true, length-replicate, IsSomeAnd, padded, word, word_at}
use Rattle.zone_bytes.proofs.Cited.{header_bytes, Header, Block, Free, Nonrelocatable, Relocatable, size, free, free_sum, is_relocatable}
use Rattle.zone_bytes.proofs.Cited.{no_flags, count, is_masters, is_room, resized_content, tidy, Spot, spot_at, filled, total-append}
use Rattle.zone_bytes.proofs.Cited.{apart-above, tidy-tidy, Heading, unjoined-above, cut-sized, filled-free, filled-count, head_of}
use Rattle.zone_bytes.proofs.Cited.{names_of, zone_in, Lays, slot_in, IsSound, laid, MayLay, new_header, is_free, written, has, is_used}
use Rattle.block_headers.specs.declared.header.Tag.TheVariants as tag
use Rattle.zone_bytes.proofs.Laws.Lawful.{Made, made}
use Rattle.zone_bytes.proofs.Tiles.Spelling.{le-back}
use Rattle.zone_bytes.proofs.Blocks.InPlace.{alone, laid-lays, named-lays}
use Rattle.zone_bytes.proofs.Places.Options.{the-spot}
use Rattle.zone_bytes.proofs.Placed.Standing.{Standing, standing, resource_in}
use Rattle.zone_bytes.proofs.Placed.Laid.{laid-tiles, laid-outside}
use Rattle.zone_bytes.proofs.SlotTable.Slotted.{flag-kept}

-- a Free block with room, at a place
pub record Roomy (xs : List ℕ) (place need : ℕ) : Type 0 where
  pub s : Spot
  pub is : spot_at place (zone_in xs) ≡ Some s
  pub at : Standing xs place s
  pub bytes : ℕ
  pub here : s.here ≡ Free bytes
  pub room : need ≤ bytes
  pub head : Heading s.above 0 s.above

pub roomy : (xs : List ℕ) (first count place need : ℕ) → IsSound xs first count
    → IsSomeAnd (spot_at place (zone_in xs)) (λ s. IsTrue (is_room need s.here)) → Roomy xs place need
roomy xs first count place need i h =
    let a = the-spot (spot_at place (zone_in xs)) (λ s. IsTrue (is_room need s.here)) h in
    let f = free-of a.0.here a.2 in
    let st = standing xs first count place i a.0 a.1 in
    record {
      s = a.0;
      is = a.1;
      at = st;
      bytes = f.0;
      here = f.1;
      room = f.2;
      head = grind (arith, unjoined-above, apart-above);
    }
  where
    free-of : (b : Block) → IsTrue (is_room need b) → (n : ℕ) × (b ≡ Free n) × (need ≤ n)
    free-of (Free n) h = (n, refl, le-back need n h)
    free-of _ h = absurd (false≢true h)

-- its bytes are among the Free ones
pub free-roomy : (xs : List ℕ) (place need : ℕ) → Roomy xs place need → need ≤ free_sum (zone_in xs)
free-roomy xs place need r = grind (arith, total-append)

module _ (xs : List ℕ) (place need : ℕ) (r : Roomy xs place need) where
  -- a block that isn't Free, and the rest of the bytes
  pub filled-is : (new : Block) → is_free new ≡ false → (k : ℕ) → k + size new ≡ size r.s.here
      → r.s.below ++ new ∷ (free k ++ r.s.above) ≡ filled new r.s
  filled-is new solid k e = grind (arith, cut-sized new solid r.s r.at.apart 0 r.s.above r.head)

  module _ (now : List ℕ) (new : Block) (solid : is_free new ≡ false) (fits : size new ≤ need)
      (is : zone_in now ≡ filled new r.s) where
    pub carved-free : free_sum (zone_in now) + size new ≡ free_sum (zone_in xs)
    carved-free = omega
        (arith, filled-free new solid r.s r.bytes r.here (omega arith), ap free_sum is, ap free_sum r.at.whole)

    pub carved-masters : count is_masters (zone_in now) ≡ count is_masters (zone_in xs) + cond (is_masters new) 1 0
    carved-masters =
        let a = filled-count new solid r.s r.bytes r.here (omega arith) is_masters (λ n. refl) in
        ap (count is_masters) is ∙ a ∙ ap (λ l. count is_masters l + cond (is_masters new) 1 0) (sym r.at.whole)

-- a new block of n bytes, all 0, may be laid in a Free one
pub may-carve : (xs : List ℕ) (place n top : ℕ) (r : Roomy xs place (padded n)) → top ≡ place + size r.s.here
    → (h : Header) → h.size ≡ padded n → h.logical ≡ n → MayLay h place top 0 xs
may-carve xs place n top r t h z l = grind arith

module _ (xs : List ℕ) (place n top z : ℕ) (r : Roomy xs place (padded n)) (t : top ≡ place + size r.s.here)
    (pz : z ≡ padded n) where
  abbrev head : Header
  head = record { size = z; tag = tag.Nonrelocatable; logical = n; slot = 0; flags = 0 }

  abbrev new : Block
  new = Nonrelocatable place (replicate n 0)

  head-is : header_bytes head ++ resized_content n [] ≡ head_of (resource_in xs) new
  unfolding head_of
  head-is = grind (arith, length-replicate)

  pub nonrelocatable-lays : (first count : ℕ) (i : IsSound xs first count)
      → Lays (laid head place top 0 xs) (filled new r.s) (slot_in xs) i.unused
  nonrelocatable-lays first count i =
      let l : size new ≡ padded n = ap padded (length-replicate {A = ℕ} n 0) in
      subst (λ bs. Lays (laid head place top 0 xs) bs (slot_in xs) i.unused)
      (filled-is xs place (padded n) r new refl (top - place - z) (omega (arith, ap size r.here)))
      (laid-lays (alone top r.at (ap is_masters r.here) t) i head 0 (may-carve xs place n top r t head pz refl) new
      (record { plain = refl; named = sym (ap names_of r.here); placed = λ p. refl }) (l ∙ sym pz) head-is)

-- a tidy list of blocks that was laid
pub tidy-made : (xs now : List ℕ) (first unused : ℕ) (i : IsSound xs first unused) (blocks : List Block)
    → Lays now (tidy blocks) (slot_in xs) i.unused → Made now first unused (tidy blocks) (slot_in xs)
tidy-made xs now first unused i blocks h = search (rules, made, tidy-tidy)

-- a block for a handle that was empty
module _ (xs : List ℕ) (first unused : ℕ) (i : IsSound xs first unused) (number : ℕ)
    (used : IsTrue (is_used (slot_in xs number))) (none : has (is_relocatable number) (zone_in xs) ≡ false)
    (place n top flags : ℕ) (r : Roomy xs place (padded n)) (t : top ≡ place + size r.s.here)
    (f : flags ≡ cond (word_at number xs == 18) 32 0) where
  abbrev pub block : Block
  block = Relocatable number no_flags (replicate n 0)

  relocatable-head : header_bytes (new_header number n flags) ++ resized_content n [] ≡ head_of (resource_in xs) block
  unfolding head_of
  relocatable-head = grind (arith, length-replicate, flag-kept xs first unused i number used none)

  pub relocatable-made : Made (written number (word place) (laid (new_header number n flags) place top 0 xs)) first
      unused (filled block r.s) (slot_in xs)
  relocatable-made =
      let h = new_header number n flags in
      let may = may-carve xs place n top r t h refl refl in
      let l : size block ≡ padded n = ap padded (length-replicate {A = ℕ} n 0) in
      let e : top - place - padded n + size block ≡ size r.s.here = omega (arith, ap size r.here) in
      tidy-made xs _ first unused i (r.s.below ++ block ∷ Free (size r.s.here - size block) ∷ r.s.above)
      (subst (λ bs. Lays (written number (word place) (laid h place top 0 xs)) bs (slot_in xs) i.unused)
      (filled-is xs place (padded n) r block refl (top - place - padded n) e)
      (named-lays (alone top r.at (ap is_masters r.here) t) (ap names_of r.here) i number used none no_flags
      (replicate n 0) (top - place - padded n) (omega (arith, e)) (laid h place top 0 xs)
      (laid-outside h place top 0 xs may) (laid-tiles h place top 0 xs may (resource_in xs) block l relocatable-head)))
