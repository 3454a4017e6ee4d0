-- The blocks of a run are packed one after another, all of them or the first of them.
use Rattle.zone_bytes.proofs.Cited.{◌≡◌, ℕ, ◌+◌, ◌-◌, ◌≤◌, true, cond, nat_lt, List, [], ◌∷◌, ◌++◌, sym, refl, ap, ◌∙◌, subst, arith, ◌<◌}
use Rattle.zone_bytes.proofs.Cited.{◌⊎◌, inl, inr, nat_le, rules, length, append_assoc, append-nil, filter-append, written, piece, word}
use Rattle.zone_bytes.proofs.Cited.{Block, Free, size, sizes, is_mover, free_of, free_sum, free, movers, settle, Leads, head_of, Tiles}
use Rattle.zone_bytes.proofs.Cited.{IsSlot, names, Each, lowered_in_run_from, Lay, IsRunFrom, Passing, Packing, Packed, cut, first_in}
use Rattle.zone_bytes.proofs.Cited.{left_behind, gone_to, UntilAt, PackedUntil, Settled, IsMoved, length-word, piece-written, total-append}
use Rattle.zone_bytes.proofs.Cited.{sizes-settle, sizes-movers, SameOutside, GREATEST_ZONE}
use Rattle.zone_bytes.proofs.Tiles.Leading.{leads-left, leads-from, Clear, each-map, each-names, leads-append}
use Rattle.zone_bytes.proofs.Runs.Packed.{run-moved, start, bounds, step-free, NextMover, gap-left, run-bounds}
use Rattle.zone_bytes.proofs.Runs.Packed.{slot-clear}
use Rattle.zone_bytes.proofs.Tiles.Heads.{free-at}
use Rattle.zone_bytes.proofs.Tiles.Tiling.{span-append}
use Rattle.zone_bytes.proofs.Tiles.Splices.{outside-same, outside-written, piece-outside, leads-outside, tiles-joined}

-- those that come lower among the first blocks, and those among the others
falling-append : (gap : ℕ) (gone rest : List Block)
    → lowered_in_run_from gap (gone ++ rest) ≡ lowered_in_run_from gap gone + lowered_in_run_from (gap + free_sum gone)
    rest
falling-append gap [] rest = grind arith
falling-append gap (b ∷ gone) rest =
    let e : gap + free_of b + free_sum gone ≡ gap + (free_of b + free_sum gone) = omega arith in
    omega (arith, falling-append (gap + free_of b) gone rest, ap (λ g. lowered_in_run_from g rest) e)

-- at most one move for each block
lowered-one : (gap : ℕ) (b : Block) → lowered_in_run_from gap (b ∷ []) ≤ size b
lowered-one gap b = grind arith

lowered-span : (gap : ℕ) (run : List Block) → lowered_in_run_from gap run ≤ sizes run
lowered-span gap [] = omega arith
lowered-span gap (b ∷ run) = omega (arith, lowered-one gap b, lowered-span (gap + free_of b) run)

pub begun : (lay : Lay) (place stop : ℕ) → IsRunFrom lay place stop → (gap : ℕ) → Packing lay gap place place 0
    lay.bytes []
begun lay place stop r gap = record {
  rest = lay.run;
  state = start lay place stop (run-moved lay place stop r) gap;
  leads = leads-left lay.bytes place lay.run lay.above
      (leads-from lay.bytes lay.below (lay.run ++ lay.above) place r.bottom r.lies.leads);
  count = refl;
}

-- one block more
pub movers-more : (gone : List Block) (b : Block) → is_mover b ≡ true → movers (gone ++ b ∷ []) ≡ movers gone ++ b ∷ []
movers-more gone b m = filter-append is_mover gone (b ∷ []) ∙ ap (λ v. movers gone ++ cond v (b ∷ []) []) m

pub movers-free : (gone : List Block) (n : ℕ) → movers (gone ++ Free n ∷ []) ≡ movers gone
movers-free gone n = filter-append is_mover gone (Free n ∷ []) ∙ append-nil (movers gone)

module _ (lay : Lay) (place stop : ℕ) (r : IsMoved lay place stop) {gap from to moves : ℕ} {xs : List ℕ}
    {gone : List Block} (p : Packing lay gap from to moves xs gone) where
  -- no more blocks come lower than there are bytes
  pub moves-bound : moves ≤ GREATEST_ZONE
  moves-bound =
      let b = bounds lay place stop r p.state in
      omega (arith, lowered-span 0 gone)

  pub past-free : (n : ℕ) → (others : List Block) × (p.rest ≡ Free n ∷ others)
      → Packing lay gap (from + n) to moves xs (gone ++ Free n ∷ [])
  past-free n f =
      let q = subst (Passing lay gap from to xs gone (movers gone)) f.1 p.state in
      record {
        rest = f.0;
        state = rw (movers-free gone n) (step-free lay place stop r n q);
        leads = (subst (λ l. Leads from l xs) f.1 p.leads).1;
        count = omega (arith, p.count, falling-append 0 gone (Free n ∷ []));
      }

  pub past-mover : {n slot : ℕ} (m : NextMover lay gap stop from to xs gone (movers gone) p.rest n slot) (k : ℕ)
      → k ≡ cond (nat_lt 0 (from - to)) 1 0 → Packing lay gap (from + n) (to + n) (moves + k)
      (written slot (word (to + gap)) (written to (piece from n xs) xs)) (gone ++ m.block ∷ [])
  past-mover m k e = grind (arith, gap-left, nat_lt, movers-more, falling-append)

-- the first blocks, as their bytes tell them
cut-back : (head : Block → List ℕ) (xs : List ℕ) (gone rest above : List Block) → Tiles head xs (rest ++ above)
    → (first_in (sizes gone) (gone ++ rest) ≡ gone) × (left_behind (sizes gone) (gone ++ rest) ≡ rest)
cut-back head xs [] [] above t = (refl, refl)
cut-back head xs [] (b ∷ rest) above t = grind arith
cut-back head xs (b ∷ gone) rest above t =
    let e : nat_le (size b) (size b + sizes gone) ≡ true = grind arith in
    let m : size b + sizes gone - size b ≡ sizes gone = omega arith in
    let k = cut-back head xs gone rest above t in (
      (λ i. cond (e i) (b ∷ first_in (m i) (gone ++ rest)) []) ∙ ap (λ l. b ∷ l) k.0,
      (λ i. cond (e i) (left_behind (m i) (gone ++ rest)) (b ∷ (gone ++ rest))) ∙ k.1,
    )

module _ (lay : Lay) (gone rest : List Block) (split : gone ++ rest ≡ lay.run) where
  -- cutting a run leaves all blocks
  pub cut-same : lay.below ++ (gone ++ (rest ++ lay.above)) ≡ lay.below ++ (lay.run ++ lay.above)
  cut-same = ap (λ l. lay.below ++ l) (sym (append_assoc gone rest lay.above) ∙ ap (λ l. l ++ lay.above) split)

  pub cut-movers : movers lay.run ≡ movers gone ++ movers rest
  cut-movers = ap movers (sym split) ∙ filter-append is_mover gone rest

  pub cut-sums : (free_sum lay.run ≡ free_sum gone + free_sum rest) × (sizes lay.run ≡ sizes gone + sizes rest)
  cut-sums = rw (← split) (total-append free_of gone rest, span-append gone rest)

module _ (lay : Lay) (place stop : ℕ) (r : IsMoved lay place stop) {gap from to moves : ℕ} {xs : List ℕ}
    {gone : List Block} (p : Packing lay gap from to moves xs gone) where
  is-cut : (first_in (from - sizes lay.below) lay.run ≡ gone) × (left_behind (from - sizes lay.below) lay.run ≡ p.rest)
  is-cut =
      let e : from - sizes lay.below ≡ sizes gone = omega arith in
      rw (e, ← p.state.split) (cut-back (head_of lay.resource) _ gone p.rest lay.above p.state.high)

  pub gone-is : gone ≡ gone_to lay from
  gone-is = sym is-cut.0

  -- the bytes between the packed blocks and the rest become one Free block
  module _ (zs : List ℕ) (s : SameOutside to from xs zs)
      (w : (from - to ≡ 0) ⊎ ((0 < from - to) × (piece to 4 zs ≡ word (from - to)))) where
    packed : Packed (cut lay gone p.rest) gap moves zs
    packed =
        let q = p.state in
        let b = bounds lay place stop r q in
        let g = gap-left lay place stop r q in
        let head = head_of lay.resource in
        let n : from - to ≡ free_sum gone = omega arith in
        let over : Leads from (p.rest ++ lay.above) xs =
        leads-append xs from p.rest lay.above p.leads (subst (λ j. Leads j lay.above xs) (omega arith) q.lead_high) in
        let mid = free-at lay.resource to (from - to) zs (omega (arith, s.kept)) (omega arith) w in
        let tiles = tiles-joined head zs (lay.below ++ movers gone) (free (from - to)) (p.rest ++ lay.above) to from
        q.down (rw s.low q.low) mid (rw s.high q.high) in
        let shape : (lay.below ++ movers gone) ++ (free (from - to) ++ (p.rest ++ lay.above))
        ≡ lay.below ++ (settle gone ++ (p.rest ++ lay.above)) = rw n (simp append_assoc) in
        let P : ℕ → Type 0 = Clear to (from - to) in
        let clear = slot-clear lay place stop r to (from - to) b.low (omega arith) in
        let c = each-map (λ t. IsSlot t (lay.below ++ (lay.run ++ lay.above))) P clear _ r.slots.slots in
        let k = each-names P lay.below _ (subst (λ l. Each P (names l)) (sym (cut-same lay gone p.rest q.split)) c) in
        let m = each-names P gone _ k.1 in
        grind (arith, leads-outside, cut-same, piece-outside)

    until : (enough : ℕ) → (p.rest ≡ []) ⊎ ((place < to) × (enough ≤ from - to))
        → PackedUntil lay place gap enough moves to from zs
    until enough ended =
        let b = bounds lay place stop r p.state in
        let g = gap-left lay place stop r p.state in
        let at : UntilAt lay place gap enough moves to from zs gone p.rest = record {
          split = p.state.split;
          packed = packed;
          top_at = omega (arith, span-append lay.below (movers gone), r.bottom);
          stop_at = omega arith;
          ended = elim ended [ inl e ↦ inl e | inr e ↦ inr (e.0, omega arith) ];
        } in
        rw (is-cut.0, is-cut.1) at

  module _ (enough : ℕ) (ended : (p.rest ≡ []) ⊎ ((place < to) × (enough ≤ from - to))) where
    pub until-none : from ≤ to → PackedUntil lay place gap enough moves to from xs
    until-none l =
        let b = bounds lay place stop r p.state in
        until xs (outside-same to from xs p.state.down (omega arith)) (inl (omega arith)) enough ended

    pub until-free : to < from → PackedUntil lay place gap enough moves to from (written to (word (from - to)) xs)
    until-free l =
        let b = bounds lay place stop r p.state in
        let w = length-word (from - to) in
        until _ (outside-written to from xs xs to (word (from - to)) (omega arith) (omega arith)
        (outside-same to from xs p.state.down (omega arith)))
        (inr (omega arith, piece-written to (word (from - to)) xs 4 (sym w) (omega arith))) enough ended

-- a run without enough Free bytes is packed whole
module _ (lay : Lay) (place : ℕ) (r : IsRunFrom lay place (place + sizes lay.run)) {gap enough moves top stop : ℕ}
    {xs : List ℕ} {gone rest : List Block} (p : UntilAt lay place gap enough moves top stop xs gone rest) where
  pub all-gone : length lay.bytes < enough → rest ≡ []
  all-gone l = elim p.ended [
    | inl n ↦ n
    | inr e ↦
        let b = run-bounds lay place _ (run-moved lay place _ r) in
        absurd (omega (arith, cut-sums lay gone rest p.split, sizes-movers lay.run r.in_run))
  ]

  module _ (n : rest ≡ []) where
    pub whole : UntilAt lay place gap enough moves top stop xs lay.run []
    whole = search rules

-- a packed run whose slots lead to its blocks
pub settled-of : (lay : Lay) (place stop gap moves : ℕ) (xs : List ℕ) → IsRunFrom lay place stop → Packed lay gap moves
    xs → Leads (sizes lay.below) (movers lay.run) xs → Settled lay moves xs
settled-of lay place stop gap moves xs r p l = grind (arith, sizes-settle, leads-append)

pub settled-led : (lay : Lay) (place stop moves : ℕ) (xs : List ℕ) → IsRunFrom lay place stop → Packed lay 0 moves xs
    → Settled lay moves xs
settled-led lay place stop moves xs r p =
    settled-of lay place stop 0 moves xs r p (subst (λ k. Leads k (movers lay.run) xs) (omega arith) p.leads)
