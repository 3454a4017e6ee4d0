-- A new Masters block at the lower end of a Free one.
use Rattle.zone_bytes.proofs.Cited.{◌≡◌, ℕ, IsTrue, ◌+◌, ◌-◌, ◌<◌, List, ◌∷◌, ◌++◌, length, zero, suc, refl, ap, ◌∙◌, subst, arith, Bool}
use Rattle.zone_bytes.proofs.Cited.{true, false, ◌*◌, ◌%◌, ◌≤◌, ◌⊎◌, inl, inr, [], take, drop, sym, Masters, size, Block, Free, sizes, free}
use Rattle.zone_bytes.proofs.Cited.{filled, is_used, Slot, NoSlot, Unused, Used, is_resource, tidy-tidy, slots_from, Lays, slot_in}
use Rattle.zone_bytes.proofs.Cited.{first_of, Has, Says, Chain, IsSound, slots_at, with_slots, HasMasters, is_slot_at, Thread, Threading}
use Rattle.zone_bytes.proofs.Cited.{cases_eq, take-take, drop-drop, drop-take, length-drop, piece, written, word, length-header, head_of}
use Rattle.zone_bytes.proofs.Cited.{Tile, IsSlot, names, Each, Pairs, Apart, SameOutside, laid, MayLay, Header, piece-written}
use Rattle.zone_bytes.proofs.Cited.{piece-written_above, length-word}
use Rattle.zone_bytes.proofs.Laws.Lawful.{Made, made}
use Rattle.zone_bytes.proofs.Placed.Carved.{Roomy, filled-is}
use Rattle.block_headers.specs.declared.header.Tag.TheVariants as tag
use Rattle.zone_bytes.proofs.Placed.Laid.{laid-outside, laid-left, laid-first, tiles-two}
use Rattle.zone_bytes.proofs.Tiles.Tiling.{slot-swap, slot-append_right, tiles-split, span-whole}
use Rattle.zone_bytes.proofs.Tiles.Leading.{each-append, each-map, names-append, each-names}
use Rattle.zone_bytes.proofs.Tiles.Keeping.{chain-kept, span-free, each-free, placed-run, placed-swap, leads-free}
use Rattle.zone_bytes.proofs.Tiles.Keeping.{run-no_slot}
use Rattle.zone_bytes.proofs.SlotTable.Tables.{each-both, lies-agree}
use Rattle.zone_bytes.proofs.Blocks.InPlace.{no-slots, lies-put, Stretch, clear, slot-put, word-outside}
use Rattle.zone_bytes.proofs.Tiles.Permuted.{has-left, has-right, each-of, pairs-join}
use Rattle.zone_bytes.proofs.Tiles.Splices.{outside-written}

-- a write below threaded slots
thread-above : (end at u n : ℕ) (xs w : List ℕ) → at + length w ≤ u → at ≤ length xs → Thread end xs (slots_from u n)
    → Thread end (written at w xs) (slots_from u n)
thread-above end at u zero xs w h l c = tt
thread-above end at u (suc n) xs w h l c =
    (piece-written_above at w xs u 4 h l ∙ c.0, thread-above end at (u + 4) n xs w (omega arith) l c.1)

pub threading-start : (place end : ℕ) (xs : List ℕ) → place % 4 ≡ 0 → place + 272 ≤ length xs
    → Threading place end (place + 272 - 4) xs (written (place + 272 - 4) (word (16 * end + 1)) xs)
threading-start place end xs e f =
    let w = length-word (16 * end + 1) in
    record {
      more = 0;
      at = omega arith;
      thread = (piece-written (place + 272 - 4) (word (16 * end + 1)) xs 4 (sym w) (omega arith), tt);
      outside = outside-written _ _ _ _ _ (word (16 * end + 1)) (omega arith) (omega arith) (grind arith);
      low = omega arith;
      even = omega arith;
    }

pub threading-step : (place end slot : ℕ) (old xs : List ℕ) → place % 4 ≡ 0 → place + 16 < slot
    → Threading place end slot old xs
    → Threading place end (slot - 4) old (written (slot - 4) (word (16 * slot + 1)) xs)
threading-step place end slot old xs e l q =
    let w = length-word (16 * slot + 1) in
    let v = q.even in
    let up : slot ≡ slot - 4 + 4 = omega arith in
    record {
      more = suc q.more;
      at = omega arith;
      thread = (
        piece-written (slot - 4) (word (16 * slot + 1)) xs 4 (sym w) (omega arith) ∙ ap (λ j. word (16 * j + 1)) up,
        subst (λ u. Thread end (written (slot - 4) (word (16 * slot + 1)) xs) (slots_from u (suc q.more))) up
            (thread-above _ _ _ (suc q.more) xs (word (16 * slot + 1)) (omega arith) (omega arith) q.thread),
      );
      outside = outside-written _ _ _ _ (slot - 4) (word (16 * slot + 1)) (grind arith) (omega arith) q.outside;
      low = omega arith;
      even = omega arith;
    }

pub threaded : (place end slot : ℕ) (old xs : List ℕ) → slot ≤ place + 16 → Threading place end slot old xs
    → Thread end xs (slots_at place)
threaded place end slot old xs l q =
    let count : suc q.more ≡ 64 = omega arith in
    subst (λ j. Thread end xs (slots_from (place + 16) j)) count (grind arith)

-- threaded slots before a list of unused ones that begins where they lead to
pub thread-chain : (end : ℕ) (xs slots unused : List ℕ) → end ≡ first_of unused → Thread end xs slots → Chain xs unused
    → Chain xs (slots ++ unused)
thread-chain end xs [] unused e t c = c
thread-chain end xs (s ∷ slots) unused e t c = grind (arith, thread-chain end xs slots unused e t.1 c)

-- each slot is among them
pub has-slot : (at n s : ℕ) → at ≤ s → s + 4 ≤ at + 4 * n → at % 4 ≡ 0 → s % 4 ≡ 0 → Has (slots_from at n) s
has-slot at zero s l h e f = absurd (omega arith)
has-slot at (suc n) s l h e f = elim (cases_eq at s) [
  | inl k ↦ inl k
  | inr k ↦ inr (has-slot (at + 4) n s (omega arith) (omega arith) (omega arith) f)
]

pub slots-in : (at n s : ℕ) → Has (slots_from at n) s → (at ≤ s) × (s + 4 ≤ at + 4 * n) × (s % 4 ≡ at % 4)
slots-in at zero s h = absurd h
slots-in at (suc n) s (inl e) = (omega arith, omega arith, ap (λ k. k % 4) (sym e))
slots-in at (suc n) s (inr h) = let r = slots-in (at + 4) n s h in (omega arith, omega arith, omega arith)

-- and they are apart
pub once-from : (at n : ℕ) → Pairs Apart (slots_from at n)
once-from at zero = tt
once-from at (suc n) = (each-of (Apart at) _ (λ s h. inl (slots-in (at + 4) n s h).0), once-from (at + 4) n)

-- a part of a stretch that was written anew
pub outside-within : (lo hi a b : ℕ) (xs mid new : List ℕ) → lo ≤ a → b ≤ hi → SameOutside lo hi xs mid
    → SameOutside a b mid new → SameOutside lo hi xs new
outside-within lo hi a b xs mid new l h s t = let up : (ys : List ℕ) → drop hi ys ≡ drop (hi - b) (drop b ys) =
    λ ys. ap (λ k. drop k ys) (sym (omega arith)) ∙ sym (drop-drop (hi - b) b ys) in
    record {
      kept = t.kept ∙ s.kept;
      ordered = s.ordered;
      low = sym (take-take lo a new l) ∙ ap (take lo) t.low ∙ take-take lo a mid l ∙ s.low;
      high = up new ∙ ap (drop (hi - b)) t.high ∙ sym (up mid) ∙ s.high;
    }

abbrev pub masters_header : Header
masters_header = record { size = 272; tag = tag.Masters; logical = 256; slot = 0; flags = 0 }

-- the block is laid, and its slots are chained
pub has-masters : (place size first : ℕ) (xs new : List ℕ) → MayLay masters_header place (place + size) 256 xs
    → SameOutside (place + 16) (place + 272) (laid masters_header place (place + size) 256 xs) new
    → Thread first new (slots_at place) → HasMasters place size first xs new
has-masters place size first xs new m o thread = record {
  outside = outside-within _ _ _ _ _ _ _ (omega arith) (omega arith) (laid-outside _ _ _ _ _ m) o;
  begins = sym (drop-take place 16 new) ∙ ap (drop place) o.low
      ∙ drop-take place 16 (laid masters_header place (place + size) 256 xs) ∙ laid-first _ _ _ _ _ m;
  rest = subst (λ k. (k ≡ 0) ⊎ ((0 < k) × (piece (place + 272) 4 new ≡ word k))) (omega arith)
      (elim (laid-left _ _ _ _ _ m) [ inl z ↦ inl z | inr z ↦ inr (z.0, ap (take 4) o.high ∙ z.1) ]);
  thread = thread;
}

-- the slots of a Masters block at a place
slot-at : (place s : ℕ) → place % 4 ≡ 0 → is_slot_at place s ≡ true → Has (slots_at place) s
slot-at place s e h = has-slot (place + 16) 64 s (grind arith) (grind arith) (omega arith) (grind arith)

module _ (xs : List ℕ) (below above : List Block) (n : ℕ) (slots : ℕ → Slot) (unused : List ℕ)
    (h : Lays xs (below ++ (Free n ∷ [] ++ above)) slots unused) (place : ℕ) (low : sizes below ≡ place)
    (room : 272 ≤ n) where
  abbrev all : List Block
  all = below ++ (Free n ∷ [] ++ above)

  abbrev put : List Block
  put = Masters ∷ free (n - 272)

  abbrev pub with_masters : List Block
  with_masters = below ++ (put ++ above)

  abbrev resource : ℕ → Bool
  resource = λ s. is_resource (slots s)

  abbrev now : ℕ → Slot
  now = with_slots place slots

  stretch : Stretch place (place + n) below (Free n ∷ []) above
  stretch = record { low = low; high = omega arith; plain = no-slots (Free n) refl }

  evens : (place % 16 ≡ 0) × (n % 16 ≡ 0)
  evens = grind (arith, tiles-split, span-whole)

  -- the slots that were there stay
  pub kept-slot : (s : ℕ) → IsSlot s all → now s ≡ slots s
  kept-slot s i = grind (arith, clear stretch s i)

  -- and there are new ones
  new-slot : (s : ℕ) → Has (slots_at place) s → IsSlot s with_masters × (now s ≡ Unused)
  new-slot s j =
      let b = slots-in (place + 16) 64 s j in
      let e = evens in (
        slot-append_right s below _ (omega arith) (inl (omega arith, omega arith, omega arith)),
        (grind arith),
      )

  module _ (new : List ℕ) (m : HasMasters place n (first_of unused) xs new) where
    masters-tile : Tile (head_of resource Masters) 272 (drop place new)
    unfolding head_of
    masters-tile = grind (arith, length-header, length-drop)

    forth : (s : ℕ) → IsSlot s all → IsSlot s with_masters
    forth = slot-put stretch put (omega (arith, span-free))

    back : (s : ℕ) → is_slot_at place s ≡ false → IsSlot s with_masters → IsSlot s all
    back s f i = slot-swap s below put (Free n ∷ []) above none (sym (omega (arith, span-free))) i
      where
        none : IsSlot (s - sizes below) put → ⊥
        none (inl b) = grind (arith, evens)
        none (inr b) = run-no_slot _ (free (n - 272)) (each-free (n - 272)) b.1

    names-now : names with_masters ≡ names all
    names-now = grind (arith, names-append)

    kept-piece : (s : ℕ) → IsSlot s all → piece s 4 new ≡ piece s 4 xs
    kept-piece = word-outside stretch m.outside

    says-old : (s : ℕ) (state : Slot) → is_slot_at place s ≡ false → Says all xs unused s state
        → Says with_masters new (slots_at place ++ unused) s state
    says-old s NoSlot f q = λ i. q (back s f i)
    says-old s Unused f q = (forth s q.0, has-right (slots_at place) unused s q.1)
    says-old s (Used r) f q = grind (arith, forth, names-now, kept-piece)

    says : (s : ℕ) (v : Bool) → is_slot_at place s ≡ v → Says with_masters new (slots_at place ++ unused) s (now s)
    says s true e =
        let j = slot-at place s (omega (arith, evens)) e in
        rw (new-slot s j).1 ((new-slot s j).0, has-left (slots_at place) unused s j)
    says s false e = grind (arith, says-old)

    pub lays-masters : Lays new with_masters now (slots_at place ++ unused)
    lays-masters = record {
      lies = lies-agree resource (λ s. is_resource (now s)) new with_masters
          (grind (arith, each-map, kept-slot, names-now))
          (lies-put stretch m.outside resource h.lies (grind (arith, each-names)) put
          (tiles-two resource Masters _ place _ new (omega arith) (omega arith) (omega (arith, evens)) masters-tile
          m.rest) (omega (arith, span-free))
          (tt, leads-free (place + 272) _ new));
      has_slots = grind (arith, each-map, forth, names-now);
      placed = placed-swap 0 below (Free n ∷ []) put above (omega (arith, span-free))
          (tt, placed-run _ (free (n - 272)) (each-free (n - 272))) h.placed;
      small = let o = m.outside.kept in omega arith;
      used = grind (arith, each-both, kept-slot, names-now);
      says = λ s. says s (is_slot_at place s) refl;
      chain = thread-chain (first_of unused) new (slots_at place) _ refl m.thread
          (chain-kept _ _ unused (each-map (λ s. IsSlot s all × (slots s ≡ Unused))
          (λ s. piece s 4 new ≡ piece s 4 xs) (λ s u. kept-piece s u.0) unused h.unused_slots) h.chain);
      unused_slots = each-append (λ s. IsSlot s with_masters × (now s ≡ Unused)) (slots_at place) _
          (each-of (λ s. IsSlot s with_masters × (now s ≡ Unused)) (slots_at place) new-slot)
          (grind (arith, each-map, forth, kept-slot));
      once = pairs-join (slots_at place) unused (once-from (place + 16) 64) h.once
          (each-of (λ s. Each (Apart s) unused) (slots_at place) (λ s j. let a = slots-in (place + 16) 64 s j in
          each-map (λ u. IsSlot u all × (slots u ≡ Unused)) (Apart s)
          (λ u v. let c = clear stretch u v.0 in grind arith) unused h.unused_slots));
    }

module _ (xs : List ℕ) (place : ℕ) (r : Roomy xs place 272) (first unused : ℕ) (i : IsSound xs first unused)
    (new : List ℕ) (m : HasMasters place (size r.s.here) first xs new) where
  pub masters-lays : Lays new (filled Masters r.s) (with_slots place (slot_in xs)) (slots_at place ++ i.unused)
  masters-lays = subst (λ bs. Lays new bs (with_slots place (slot_in xs)) (slots_at place ++ i.unused))
      (filled-is xs place 272 r Masters refl (r.bytes - 272) (omega (arith, ap size r.here)))
      (lays-masters _ _ _ _ (slot_in xs) _ (rw (r.at.whole, r.here) at i.lays) _ r.at.low r.room _
      (rw (r.here, i.begins) at m))

-- a slot that is used is none of a block that was Free
used-stays : (xs : List ℕ) (first unused place : ℕ) (i : IsSound xs first unused) (r : Roomy xs place 272) (k : ℕ)
    → IsTrue (is_used (slot_in xs k)) → with_slots place (slot_in xs) k ≡ slot_in xs k
used-stays xs first unused place i r k u = grind (arith, kept-slot)

-- the zone with the new block
module _ (xs now : List ℕ) (first unused place : ℕ) (i : IsSound xs first unused) (r : Roomy xs place 272)
    (h : Lays now (filled Masters r.s) (with_slots place (slot_in xs)) (slots_at place ++ i.unused)) where
  pub masters-made : Made now (place + 16) (unused + 64) (filled Masters r.s) (with_slots place (slot_in xs))
  masters-made = made _ _ (with_slots place (slot_in xs)) _ h _ _ (grind (arith, tidy-tidy)) refl (omega arith)

  pub masters-slots : (k : ℕ) → IsTrue (is_used (slot_in xs k)) → slot_in now k ≡ slot_in xs k
  masters-slots k u = masters-made.slots k ∙ used-stays _ _ _ _ i r k u
