-- The blocks of a run are passed one after another, and moved down or left in their places.
use Rattle.zone_bytes.proofs.Cited.{◌≡◌, ℕ, ◌+◌, ◌-◌, ◌%◌, ◌≤◌, ◌<◌, inl, inr, true, false, List, [], ◌∷◌, ◌++◌, rules, length, take, drop}
use Rattle.zone_bytes.proofs.Cited.{sym, refl, ap, ◌∙◌, subst, arith, append_assoc, append-nil, length-take-le, length-drop, drop-drop}
use Rattle.zone_bytes.proofs.Cited.{false≢true, written, piece, tag_number, word, Header, length-word, length-written, take-written_at}
use Rattle.zone_bytes.proofs.Cited.{take-written_below, take-written_above, drop-written_below, drop-written_above, piece-written}
use Rattle.zone_bytes.proofs.Cited.{written-same, Flags, Block, Free, Relocatable, size, sizes, free_sum, is_mover, in_run, movers, Loose}
use Rattle.zone_bytes.proofs.Cited.{loose-parts, head_of, kind, Tile, Tiles, IsSlot, names, Apart, Each, Leads, Lay, IsRunFrom, EndsRun}
use Rattle.zone_bytes.proofs.Cited.{Passing, SameOthers, runs_on, SameOutside, IsMoved, GREATEST_ZONE, sizes-movers}
use Rattle.zone_bytes.proofs.Tiles.Heads.{Next, next-there, length-masters, IsRead, read-tells, relocatable-told}
use Rattle.zone_bytes.proofs.Tiles.Decoding.{flag_word-small}
use Rattle.zone_bytes.proofs.Tiles.Tiling.{span-append, slot-inside, slot-append_left, slot-append_right, slot-beside}
use Rattle.zone_bytes.proofs.Tiles.Tiling.{span-whole, length-tiles, tile-take, tiles-append, tiles-one, slot-even}
use Rattle.zone_bytes.proofs.Tiles.Tiling.{tiles-slot}
use Rattle.zone_bytes.proofs.Tiles.Leading.{Clear, each-left, each-map, each-right, each-names, apart-turned}
use Rattle.zone_bytes.proofs.Tiles.Leading.{names-append, piece-clear, leads-append, leads-same, leads-left}
use Rattle.zone_bytes.proofs.Tiles.Leading.{leads-right}
use Rattle.zone_bytes.proofs.Tiles.Permuted.{SameNames, each-front, front}
use Rattle.zone_bytes.proofs.Tiles.Splices.{tiles-parts, tiles-splice, outside-written, piece-outside, leads-outside}
use Rattle.zone_bytes.proofs.Tiles.Keeping.{run-no_slot, Instead, slots-now}
use Rattle.zone_bytes.proofs.SlotTable.Tables.{apart-clear, each-both}

pub run-moved : (lay : Lay) (place stop : ℕ) → IsRunFrom lay place stop → IsMoved lay place stop
run-moved lay place stop r = grind (arith, leads-right, leads-left)

-- where the blocks lie that were passed, and those that were not
pub record Bounds (lay : Lay) (place stop from to : ℕ) (xs : List ℕ) (gone moved rest : List Block) : Type 0 where
  pub moved_end : sizes (lay.below ++ moved) ≡ to
  pub low : place ≤ to
  pub rest_end : from + sizes rest ≡ stop
  pub inside : stop ≤ length xs
  pub small : length xs ≤ GREATEST_ZONE
  pub evens : (to % 16 ≡ 0) × (from % 16 ≡ 0)
  pub gone_in : Loose gone
  pub rest_in : Loose rest

-- the next block of a run, of n bytes, is relocatable, and comes down
pub record NextMover (lay : Lay) (gap stop from to : ℕ) (xs : List ℕ) (gone moved rest : List Block) (n slot : ℕ)
    : Type 0 where
  pub inside : from + n ≤ stop
  pub slot_in : (slot % 4 ≡ 0) × (slot + 4 ≤ length xs)
  pub block : Block
  pub others : List Block
  pub mover : is_mover block ≡ true
  pub led : Leads from rest xs → (piece slot 4 xs ≡ word from) × Leads (from + n) others
      (written slot (word (to + gap)) (written to (piece from n xs) xs))
  pub state : Passing lay gap (from + n) (to + n) (written slot (word (to + gap)) (written to (piece from n xs) xs))
      (gone ++ block ∷ []) (moved ++ block ∷ []) others

module _ (lay : Lay) (place stop : ℕ) (r : IsMoved lay place stop) where
  abbrev all : List Block
  all = lay.below ++ (lay.run ++ lay.above)

  abbrev head : Block → List ℕ
  head = head_of lay.resource

  pub run-bounds : (place ≤ stop) × (stop + sizes lay.above ≡ length lay.bytes)
  run-bounds = grind (arith, length-tiles, span-append)

  -- so it is clear of a write inside the run
  pub slot-clear : (at n : ℕ) → place ≤ at → at + n ≤ stop → (s : ℕ) → IsSlot s all → Clear at n s
  slot-clear at n l h s i = elim (slot-beside s _ _ _ _ _ (run-no_slot _ lay.run r.in_run) r.bottom r.top i) [
    | inl j ↦ inl (omega arith)
    | inr j ↦ inr (omega arith)
  ]

  pub start : (gap : ℕ) → Passing lay gap place place lay.bytes [] [] lay.run
  start gap =
      let t = tiles-parts head lay.bytes lay.below lay.run lay.above place stop r.bottom r.top r.tiles in
      let h : Leads (sizes lay.below + sizes lay.run) lay.above lay.bytes =
      subst (λ k. Leads k lay.above lay.bytes) (omega arith) r.high in
      search rules

  module _ {gap from to : ℕ} {xs : List ℕ} {gone moved : List Block} where
    pub bounds : {rest : List Block} → Passing lay gap from to xs gone moved rest
        → Bounds lay place stop from to xs gone moved rest
    bounds {rest} q = grind (arith, run-bounds, span-append, length-take-le, length-tiles, loose-parts, span-whole)

    -- a block's header may be read
    pub passing-next : {rest : List Block} → Passing lay gap from to xs gone moved rest → from < length xs → Next xs
        from
    passing-next {rest} q l =
        let b = bounds q in
        next-there lay.resource xs from b.small (rest ++ lay.above) q.high b.evens.1 l

    -- a Free block is left out
    pub step-free : {rest : List Block} (n : ℕ) → Passing lay gap from to xs gone moved (Free n ∷ rest)
        → Passing lay gap (from + n) to xs (gone ++ Free n ∷ []) moved rest
    step-free {rest} n q = grind (arith, append_assoc, append-nil, names-append, drop-drop, span-append)

    module _ (b : Block) {rest : List Block} (q : Passing lay gap from to xs gone moved (b ∷ rest)) where
      -- a block comes down
      abbrev pub slid : List ℕ
      slid = written to (piece from (size b) xs) xs

      length-piece : length (piece from (size b) xs) ≡ size b
      length-piece = length-take-le (size b) (drop from xs) q.high.0.fits

      pub length-slid : length slid ≡ length xs
      length-slid = let p = bounds q in
          length-written to (piece from (size b) xs) xs (omega (arith, length-piece))

      slid-outside : SameOutside place stop xs slid
      slid-outside = let p = bounds q in
          outside-written place stop xs xs to (piece from (size b) xs) p.low (omega (arith, length-piece)) (grind arith)

      slid-low : Tiles head (take (to + size b) slid) (lay.below ++ (moved ++ b ∷ []))
      slid-low =
          let p = bounds q in
          let l = length-piece in
          let one = tiles-one head b _ l (tile-take head _ _ _ _ (omega arith) q.high.0.fits q.high.0) in
          rw (take-written_at to (piece from (size b) xs) xs (to + size b) (omega arith) (omega arith))
          (rw (← append_assoc lay.below moved (b ∷ [])) (tiles-append head _ _ _ _ q.low one))

  -- a Free block stays where it is
  pub step-stay : {from : ℕ} {xs : List ℕ} {gone rest : List Block} (n : ℕ)
      → Passing lay 0 from from xs gone gone (Free n ∷ rest)
      → Passing lay 0 (from + n) (from + n) xs (gone ++ Free n ∷ []) (gone ++ Free n ∷ []) rest
  step-stay {from} {xs} {gone} {rest} n q =
      let f = step-free n q in
      let p = bounds q in
      record {
        split = f.split;
        named = refl;
        low = subst (λ k. Tiles head (take (from + n) k) (lay.below ++ (gone ++ Free n ∷ [])))
            (written-same from n _ xs (omega arith) refl) (slid-low (Free n) q);
        high = f.high;
        up = f.up;
        down = omega arith;
        kept = f.kept;
        lead_low = f.lead_low;
        lead_moved = leads-append xs _ gone (Free n ∷ []) q.lead_moved (tt, tt);
        lead_high = f.lead_high;
        others = f.others;
      }

  -- a relocatable block comes down, and its slot follows
  module _ {gap from to : ℕ} {xs : List ℕ} {gone moved rest : List Block} (slot : ℕ) (flags : Flags) (content : List ℕ)
      (q : Passing lay gap from to xs gone moved (Relocatable slot flags content ∷ rest)) where
    abbrev block : Block
    block = Relocatable slot flags content

    abbrev done : List ℕ
    done = written slot (word (to + gap)) (slid block q)

    -- the names with this block's slot first
    named : SameNames (names all) (slot ∷ (names (lay.below ++ moved) ++ names (rest ++ lay.above)))
    named =
        let e : names all ≡ names (lay.below ++ moved) ++ slot ∷ names (rest ++ lay.above) =
        rw (← q.split) (simp (names-append, append_assoc, q.named)) in
        rw e (front (names (lay.below ++ moved)) slot (names (rest ++ lay.above)))

    abbrev P : ℕ → Type 0
    P s = IsSlot s all

    abbrev Kept : ℕ → Type 0
    Kept s = piece s 4 done ≡ piece s 4 xs

    are-slots : P slot × Each P (names (lay.below ++ moved) ++ names (rest ++ lay.above))
    are-slots = each-front P named r.slots.slots

    slot-fits : slot + 4 ≤ length xs
    slot-fits = omega (arith, slot-inside slot all are-slots.0, length-tiles head lay.bytes all r.tiles)

    -- the other slots hold what they held
    others-kept : (s : ℕ) → IsSlot s all → Apart slot s → Kept s
    others-kept s i a = piece-clear slot _ (slid block q) s (omega (arith, slot-fits, length-slid block q))
        (apart-clear slot (to + gap) s a) ∙ piece-outside place stop xs (slid block q) s (slid-outside block q)
        (slot-clear place (stop - place) (omega arith) (omega arith) s i)

    kept : Each Kept (names (lay.below ++ moved) ++ names (rest ++ lay.above))
    kept = each-both P (Apart slot) Kept others-kept _ are-slots.1 (named.apart r.slots.apart).0

    kept-high : Each Kept (names rest) × Each Kept (names lay.above)
    kept-high = each-names Kept rest lay.above (each-right Kept (names (lay.below ++ moved)) _ kept)

    done-tiles : Tiles head (take (to + size block) done) (lay.below ++ (moved ++ block ∷ []))
        × Tiles head (drop (from + size block) done) (rest ++ lay.above)
    done-tiles =
        let p = bounds q in
        let f = slot-fits in
        let l = length-slid block q in
        let m = length-masters lay.resource in
        let ys = word (to + gap) in
        let w = length-word (to + gap) in
        let zs = slid block q in
        let low = slid-low block q in
        let high : Tiles head (drop (from + size block) zs) (rest ++ lay.above) =
        search (rules, bounds, length-piece, drop-written_above, drop-drop) in
        elim (slot-beside slot _ _ _ _ _ (run-no_slot _ lay.run r.in_run) r.bottom r.top are-slots.0) [
          | inl j ↦ (
            rw (take-written_above slot ys zs (to + size block) (omega arith) (omega arith))
                (tiles-slot head m _ ys slot _ w (slot-append_left slot lay.below _ j.1) low),
            rw (drop-written_above slot ys zs (from + size block) (omega arith) (omega arith)) high,
          )
          | inr j ↦
              let e : slot - stop ≡ slot - (from + size block) - sizes rest = omega arith in (
                rw (take-written_below slot ys zs (to + size block) (omega arith) (omega arith)) low,
                rw (drop-written_below slot ys zs (from + size block) (omega arith) (omega arith))
                    (tiles-slot head m _ ys _ _ w (slot-append_right _ rest _ (omega arith)
                    (subst (λ k. IsSlot k lay.above) e j.1)) high),
              )
        ]

    step-move : Passing lay gap (from + size block) (to + size block) done (gone ++ block ∷ []) (moved ++ block ∷ [])
        rest
    step-move =
        let p = bounds q in
        let f = slot-fits in
        let l = length-slid block q in
        let w = length-word (to + gap) in
        let low = each-names Kept lay.below moved (each-left Kept _ (names (rest ++ lay.above)) kept) in
        let e : to + gap ≡ sizes lay.below + gap + sizes moved = omega (arith, span-append lay.below moved) in
        record {
          split = append_assoc gone (block ∷ []) rest ∙ q.split;
          named = names-append moved (block ∷ []) ∙ ap (λ k. k ++ slot ∷ []) q.named ∙ sym
              (names-append gone (block ∷ []));
          low = done-tiles.0;
          high = done-tiles.1;
          up = omega (arith, span-append gone (block ∷ []));
          down = omega arith;
          kept = length-written slot (word (to + gap)) (slid block q) (omega arith) ∙ l ∙ q.kept;
          lead_low = leads-same xs done 0 lay.below low.0 q.lead_low;
          lead_moved = leads-append done _ moved (block ∷ []) (leads-same xs done _ moved low.1 q.lead_moved)
              (piece-written slot _ (slid block q) 4 (sym w) (omega arith) ∙ ap word e, tt);
          lead_high = leads-same xs done _ lay.above kept-high.1 q.lead_high;
          others = λ s i a. others-kept s i (apart-turned s slot (each-front (Apart s) named a).0)
              ∙ q.others s i a;
        }

  -- whether the next block belongs to a run, as its header tells
  module _ (from : ℕ) (xs : List ℕ) (h : Header) (e : IsRead from xs h) where
    runs-told : (b : Block) → length xs ≤ GREATEST_ZONE → Tile (head b) (size b) (drop from xs)
        → runs_on (tag_number h.tag) h.flags ≡ in_run b
    runs-told b small t =
        ap (λ j. runs_on j h.flags) (read-tells lay.resource xs from small h e b t).1 ∙ of-kind b t
      where
        of-kind : (b : Block) → Tile (head b) (size b) (drop from xs) → runs_on (kind b) h.flags ≡ in_run b
        of-kind (Relocatable slot flags content) t =
            let m = (relocatable-told lay.resource from xs slot flags content t).marked
            (omega (arith, flag_word-small flags (lay.resource slot))) in
            grind arith
        of-kind _ t = refl

  -- and what it is
  module _ {gap from to : ℕ} {xs : List ℕ} {gone moved : List Block} (h : Header) (e : IsRead from xs h) where
    pub next-mover : (rest : List Block) → Passing lay gap from to xs gone moved rest → (rest ≡ [] → ⊥)
        → tag_number h.tag ≡ 3 → NextMover lay gap stop from to xs gone moved rest h.size h.slot
    next-mover [] q some k = absurd (some refl)
    next-mover (Relocatable slot flags content ∷ rest) q some k =
        let b = bounds q in
        let t = read-tells lay.resource xs from b.small h e _ q.high.0 in
        let fits = slot-fits slot flags content q in
        let mine : h.slot ≡ slot =
        e.slot ∙ (relocatable-told lay.resource from xs slot flags content q.high.0).named (omega arith) in
        let is-slot = (are-slots slot flags content q).0 in
        rw (t.0, mine) (record {
          inside = omega arith;
          slot_in = (slot-even head _ slot all r.tiles is-slot, fits);
          block = Relocatable slot flags content;
          others = rest;
          mover = b.rest_in.0;
          led = λ l. (l.0, leads-same xs _ _ rest (kept-high slot flags content q).0 l.1);
          state = step-move slot flags content q;
        })
    next-mover (b ∷ rest) q some k =
        absurd (omega (arith, read-tells lay.resource xs from (bounds q).small h e _ q.high.0))

    pub next-free : (rest : List Block) → Passing lay gap from to xs gone moved rest → (rest ≡ [] → ⊥)
        → tag_number h.tag < 3 → (others : List Block) × (rest ≡ Free h.size ∷ others)
    next-free [] q some k = absurd (some refl)
    next-free (Free m ∷ rest) q some k =
        (rest, ap (λ j. Free j ∷ rest) (sym (read-tells lay.resource xs from (bounds q).small h e _ q.high.0).0))
    next-free (b ∷ rest) q some k =
        let t = read-tells lay.resource xs from (bounds q).small h e _ q.high.0 in
        let r = (bounds q).rest_in in
        absurd (grind arith)

    -- no block of the run is left if it does not
    pub beyond : (rest : List Block) → Passing lay gap from to xs gone moved rest
        → false ≡ runs_on (tag_number h.tag) h.flags → rest ≡ []
    beyond [] q b = refl
    beyond (c ∷ rest) q b =
        let p = bounds q in absurd (false≢true (b ∙ runs-told from xs h e c p.small q.high.0 ∙ p.rest_in.0))

    -- and some block is left if it does
    pub within : Passing lay gap from to xs gone moved [] → EndsRun lay.above → from < length xs
        → true ≡ runs_on (tag_number h.tag) h.flags → ⊥
    within q o l b = outside lay.above (bounds q).small q.high o
      where
        outside : (above : List Block) → length xs ≤ GREATEST_ZONE → Tiles head (drop from xs) above → EndsRun above → ⊥
        outside [] small t o = omega (arith, length-drop from xs, ap length t)
        outside (c ∷ above) small t o = false≢true (sym o ∙ sym (runs-told from xs h e c small t.0) ∙ sym b)

  -- other blocks lie in the run's place, and their slots are still to be rewritten
  module _ (now : List Block) (k : Instead lay.below lay.run now lay.above) (mid : List ℕ)
      (s : SameOutside place stop lay.bytes mid) (t : Tiles head (piece place (stop - place) mid) now) where
    abbrev Out : ℕ → Type 0
    Out = Clear place (stop - place)

    clear-of : (j : ℕ) → IsSlot j all → Out j
    clear-of = slot-clear place (stop - place) (omega arith) (omega arith)

    -- the slots of the blocks lie outside the run
    pub clears : Each Out (names lay.below) × Each Out (names lay.run) × Each Out (names lay.above)
    clears = grind (arith, each-names, each-map, clear-of)

    pub is-moved : IsMoved (record lay { run = now; bytes = mid }) place stop
    is-moved = grind (arith, tiles-splice, slots-now, leads-outside, clears)

    -- the other slots stay
    pub others-moved : SameOthers all lay.bytes mid
    others-moved j i a = piece-outside place stop lay.bytes mid j s (clear-of j i)

-- blocks that were packed leave their Free bytes behind
pub gap-left : (lay : Lay) (place stop : ℕ) (r : IsMoved lay place stop) {gap from to : ℕ} {xs : List ℕ}
    {gone rest : List Block} → Passing lay gap from to xs gone (movers gone) rest → from ≡ to + free_sum gone
gap-left lay place stop r {gone = gone} q =
    let b = bounds lay place stop r q in
    omega (arith, sizes-movers gone b.gone_in, span-append lay.below (movers gone))
