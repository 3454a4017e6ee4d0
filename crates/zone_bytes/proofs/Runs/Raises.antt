-- A run that is packed and raised.
use Rattle.zone_bytes.proofs.Cited.{◌≡◌, ℕ, ◌+◌, ◌-◌, ◌%◌, ◌<◌, ◌≤◌, ◌⊎◌, inl, inr, List, [], ◌∷◌, ◌++◌, length, drop, sym, refl, ◌∙◌}
use Rattle.zone_bytes.proofs.Cited.{subst, arith, append_assoc, ap, rules, length-take-le, length-drop, written, piece, word, length-word}
use Rattle.zone_bytes.proofs.Cited.{length-written, piece-written, piece-written_below, piece-written_above, Block, Free, free, free_sum}
use Rattle.zone_bytes.proofs.Cited.{sizes, free-some, head_of, Tiles, Leads, loose-append, loose-parts, SameOutside, IsMoved, MayRaise}
use Rattle.zone_bytes.proofs.Cited.{lifted, MayLift, Lifted, movers, settle, low, Loose, sizes-low, sizes-settle, sizes-movers, in-settle}
use Rattle.zone_bytes.proofs.Cited.{tidy-apart, total-append, free_sum-free, apart-low, no-movers, Lay, EndsRun, IsRunFrom, Packed, cut}
use Rattle.zone_bytes.proofs.Cited.{UntilAt, Settled, AreEdges, Edges}
use Rattle.zone_bytes.proofs.Tiles.Heads.{free-at}
use Rattle.zone_bytes.proofs.Tiles.Tiling.{span-append, span-whole}
use Rattle.zone_bytes.proofs.Tiles.Leading.{each-names, Clear, leads-append, leads-joined}
use Rattle.zone_bytes.proofs.Tiles.Splices.{tiles-parts, tiles-next, outside-same, outside-written, leads-outside}
use Rattle.zone_bytes.proofs.Tiles.Keeping.{Instead, instead, names-left, span-free, each-free, leads-free}
use Rattle.zone_bytes.proofs.Tiles.Keeping.{names-movers, others-now, slots-now, instead-settle}
use Rattle.zone_bytes.proofs.Runs.Packed.{run-bounds, is-moved, clears, others-moved, run-moved}
use Rattle.zone_bytes.proofs.Runs.Settled.{cut-same, cut-movers, cut-sums, settled-of, whole}

-- a Free block has no relocatable one, and its bytes
movers-above : (n : ℕ) (blocks : List Block) → movers (free n ++ blocks) ≡ movers blocks
movers-above n blocks = grind arith

-- without relocatable blocks
pub lifted-none : (gap : ℕ) (run : List Block) → 0 < gap → gap ≤ free_sum run → movers run ≡ []
    → lifted gap run ≡ settle run
lifted-none gap run some enough none = grind arith

-- and with some
pub lifted-some : (gap : ℕ) (run : List Block) → 0 < gap → (movers run ≡ [] → ⊥) → lifted gap run ≡ low (Free gap) run
lifted-some gap run some movers-some = tidy-apart _ (apart-low gap run some movers-some)

pub any-movers : (run : List Block) → (movers run ≡ []) ⊎ (movers run ≡ [] → ⊥)
any-movers run = cases (movers run)
  where
    cases : (l : List Block) → (l ≡ []) ⊎ (l ≡ [] → ⊥)
    cases [] = inl refl
    cases (b ∷ l) = inr (λ e. omega (arith, ap length e))

-- blocks at the top of the run's Free bytes
low-instead : (gap : ℕ) (below run above : List Block) → gap ≤ free_sum run → Loose run
    → Instead below run (low (Free gap) run) above
low-instead gap below run above enough r =
    let left = free_sum run - gap in
    instead below run (low (Free gap) run) above r
    (refl, loose-append (movers run) (free left) (loose-parts (movers run) _ (in-settle run)).0 (each-free left))
    (sizes-low (Free gap) run enough r) (names-left (movers run) left ∙ names-movers run r)

pub lifted-instead : (gap : ℕ) (below run above : List Block) → 0 < gap → gap ≤ free_sum run → Loose run
    → Instead below run (lifted gap run) above
lifted-instead gap below run above some enough r = elim (any-movers run) [
  | inl n ↦ rw (lifted-none gap run some enough n) (instead-settle below run above r)
  | inr s ↦ rw (lifted-some gap run some s) (low-instead gap below run above enough r)
]

pub gap-fits : (lay : Lay) (place gap : ℕ) → MayLift lay place gap → gap ≤ length lay.bytes
gap-fits lay place gap h =
    omega (arith, h.enough, sizes-movers lay.run h.run.in_run, (run-bounds lay place _ (run-moved lay place _ h.run)))

module _ (lay : Lay) (place top stop gap : ℕ) (xs : List ℕ) (h : MayRaise lay place top stop gap xs) where
  abbrev head : Block → List ℕ
  head = head_of lay.resource

  abbrev rest : ℕ
  rest = free_sum lay.run - gap

  -- the run as it was packed, and as it is to be
  abbrev was : Lay
  was = record lay { run = settle lay.run; bytes = xs }

  abbrev now : List Block
  now = low (Free gap) lay.run

  settled : Instead lay.below lay.run (settle lay.run) lay.above
  settled = instead-settle lay.below lay.run lay.above h.lift.run.in_run

  run : IsMoved was place stop
  run = let p = h.packed in grind (arith, slots-now, settled, sizes-settle)

  raised-instead : Instead lay.below (settle lay.run) now lay.above
  raised-instead =
      let r = h.lift.run.in_run in
      instead lay.below (settle lay.run) now lay.above (in-settle lay.run) (low-instead gap [] lay.run [] h.lift.enough
      r).in_now (sizes-low (Free gap) lay.run h.lift.enough r ∙ sym (sizes-settle lay.run r))
      (names-left (movers lay.run) rest ∙ sym (names-left (movers lay.run) (free_sum lay.run)))

  pub wide : (top + (gap + rest) ≡ stop) × (stop ≤ length xs) × (place ≤ top)
  wide = omega (arith, run-bounds was place stop run, sizes-movers lay.run h.lift.run.in_run, h.lift.enough)

  -- where the movers lie
  mover-tiles : Tiles head (piece place (top - place) xs) (movers lay.run)
  mover-tiles = (tiles-parts head xs lay.below (movers lay.run) (free (free_sum lay.run) ++ lay.above) place top
      run.bottom (sym h.top_at) (rw (← append_assoc (movers lay.run) (free (free_sum lay.run)) lay.above) run.tiles)).2

  pub evens : (place % 16 ≡ 0) × (top % 16 ≡ 0) × (rest % 16 ≡ 0)
  evens =
      let v = wide in
      let p = tiles-parts head xs lay.below (settle lay.run) lay.above place stop run.bottom run.top run.tiles in
      let a = span-whole head _ lay.below p.0 in
      let b = span-whole head _ (movers lay.run) mover-tiles in
      let c = span-whole head _ (settle lay.run) p.2 in
      let d = run in
      (omega arith, omega arith, omega arith)

  -- the bytes before the slots are rewritten
  module _ (mid : List ℕ) (s : SameOutside place stop xs mid)
      (m : piece (place + gap) (top - place) mid ≡ piece place (top - place) xs) (f : piece place 4 mid ≡ word gap)
      (w : (rest ≡ 0) ⊎ ((0 < rest) × (piece (top + gap) 4 mid ≡ word rest))) where
    new-tiles : Tiles head (piece place (stop - place) mid) now
    new-tiles =
        let v = wide in
        let e = evens in
        let low = free-at lay.resource place gap mid (omega (arith, s.kept)) h.lift.even (inr (h.lift.some, f)) in
        let high = free-at lay.resource (top + gap) rest mid (omega (arith, s.kept)) e.2 w in
        let p : place + gap + (top - place) ≡ top + gap = omega arith in
        let n : stop - place ≡ gap + ((top - place) + rest) = omega arith in
        let one = subst (Tiles head (piece place gap mid)) (free-some gap h.lift.some) low in
        rw n (tiles-next head mid place gap _ (Free gap ∷ []) (movers lay.run ++ free rest) one
        (tiles-next head mid (place + gap) (top - place) rest (movers lay.run) _ (rw m mover-tiles) (rw p high)))

    is-raised : Lifted lay gap mid
    is-raised =
        let some : movers lay.run ≡ [] → ⊥ = λ n. omega (arith, ap sizes n, h.top_at, h.some) in
        let m = is-moved was place stop run now raised-instead mid s new-tiles in
        let c = clears was place stop run now raised-instead mid s new-tiles in
        let d = each-names (Clear place (stop - place)) (movers lay.run) (free (free_sum lay.run)) c.1 in
        let o : sizes lay.below + gap ≡ place + gap = omega (arith, run.bottom) in
        let led = leads-outside place stop xs mid (place + gap) (movers lay.run) s d.0 (rw (← o) h.packed.leads) in
        rw (lifted-some gap lay.run h.lift.some some) (record {
          lies = record {
            tiles = m.tiles;
            leads = leads-joined mid lay.below now lay.above place stop run.bottom m.top m.low
                (tt, leads-append mid _ (movers lay.run) (free rest) led (leads-free _ rest mid)) m.high;
          };
          others = others-now settled lay.bytes xs mid h.packed.others
              (others-moved was place stop run now raised-instead mid s new-tiles);
          kept = s.kept ∙ h.packed.kept;
        })

  -- what the writes leave
  abbrev slid : List ℕ
  slid = written (place + gap) (piece place (top - place) xs) xs

  abbrev gapped : List ℕ
  gapped = written place (word gap) slid

  gap-written : SameOutside place stop xs gapped
      × (piece (place + gap) (top - place) gapped ≡ piece place (top - place) xs) ×
      (piece place 4 gapped ≡ word gap)
  gap-written =
      let v = wide in
      let w = length-word gap in
      let l : length (piece place (top - place) xs) ≡ top - place =
      length-take-le (top - place) (drop place xs) (omega (arith, length-drop place xs)) in
      let n = length-written (place + gap) (piece place (top - place) xs) xs (omega arith) in (
        outside-written place stop _ _ place (word gap) (omega arith) (omega arith)
            (outside-written place stop xs xs _ (piece place (top - place) xs) (omega arith)
            (omega arith) (outside-same place stop xs (omega arith) (omega arith))),
        piece-written_above place (word gap) slid _ _ (omega arith) (omega arith)
            ∙ piece-written _ (piece place (top - place) xs) xs (top - place) (sym l) (omega arith),
        piece-written place (word gap) slid 4 (sym w) (omega arith),
      )

  pub raised-none : stop - top ≤ gap → Lifted lay gap gapped
  raised-none l = let g = gap-written in is-raised gapped g.0 g.1 g.2 (inl (omega (arith, wide)))

  pub raised-rest : gap < stop - top → Lifted lay gap (written (top + gap) (word (stop - top - gap)) gapped)
  raised-rest l =
      let g = gap-written in
      let v = wide in
      let w = length-word rest in
      let r : rest ≡ stop - top - gap = omega arith in
      let big : 16 ≤ rest = omega (arith, evens) in
      rw (← r) (is-raised (written (top + gap) (word rest) gapped)
      (outside-written place stop xs gapped (top + gap) (word rest) (omega arith) (omega arith) g.0)
      (piece-written_below (top + gap) (word rest) gapped (place + gap) (top - place) (omega arith) (omega arith)
      ∙ g.1) (piece-written_below (top + gap) (word rest) gapped place 4 (omega arith) (omega arith) ∙ g.2)
      (inr (omega arith, piece-written (top + gap) (word rest) gapped 4 (sym w) (omega arith))))

module _ (lay : Lay) (place gap : ℕ) (h : MayLift lay place gap) (moves : ℕ) (xs : List ℕ)
    (p : Packed lay gap moves xs) where
  -- a run without relocatable blocks is raised as it is packed
  is-lifted-none : (top : ℕ) → top ≡ place + sizes (movers lay.run) → top ≤ place → Lifted lay gap xs
  is-lifted-none top t l =
      let none = no-movers lay.run (omega arith) in
      rw (lifted-none gap lay.run h.some h.enough none) (settled-of _ _ _ _ _ _ h.run p
      (subst (λ l. Leads (sizes lay.below) l xs) (sym none) tt)).zone

-- the raised blocks, and what is to be packed above them
abbrev pub upper : Lay → ℕ → List Block → List Block → List ℕ → Lay
upper lay gap gone rest ys = record {
  resource = lay.resource;
  below = lay.below ++ (Free gap ∷ movers gone);
  run = free (free_sum gone - gap) ++ rest;
  above = lay.above;
  bytes = ys;
}

-- The first blocks of a run are raised, and the others are packed above them.
module _ (lay : Lay) (place gap : ℕ) (h : MayLift lay place gap) (o : EndsRun lay.above) (moves top stop : ℕ)
    (xs : List ℕ)
    (gone rest : List Block) (p : UntilAt lay place gap gap moves top stop xs gone rest) where
  abbrev part : Lay
  part = cut lay gone rest

  cut-at : IsRunFrom part place (place + sizes gone)
  cut-at = grind (arith, cut-same, loose-parts)

  pub none-lifted : top ≤ place → Lifted lay gap xs
  none-lifted l = let w = whole lay place h.run p (elim p.ended [ inl e ↦ e | inr e ↦ absurd (omega arith) ]) in
      is-lifted-none _ _ _ h _ _ w.packed _ w.top_at l

  pub none-edges : top ≤ place → (edges : Edges) → AreEdges edges (place + gap) (movers gone)
      → AreEdges edges (place + gap) (movers lay.run)
  none-edges l edges = search rules

  -- the relocatable blocks of both parts
  pub both-edges : (edges : Edges)
      → AreEdges edges (place + gap) (movers gone ++ movers (free (free_sum gone - gap) ++ rest))
      → AreEdges edges (place + gap) (movers lay.run)
  both-edges edges = grind (arith, movers-above, cut-movers)

  module _ (some : place < top) where
    enough : gap ≤ free_sum gone
    enough = search rules

    pub raise-part : MayRaise part place top stop gap xs
    raise-part = grind (arith, run, cut-at, enough)

    abbrev pub left : ℕ
    left = free_sum gone - gap

    module _ (ys : List ℕ) (d : Lifted part gap ys) where
      upper-is : lay.below ++ (lifted gap gone ++ (rest ++ lay.above))
          ≡ (lay.below ++ (Free gap ∷ movers gone)) ++ ((free left ++ rest) ++ lay.above)
      upper-is = grind (arith, lifted-some, append_assoc)

      part-instead : Instead lay.below gone (lifted gap gone) (rest ++ lay.above)
      part-instead = lifted-instead gap lay.below gone (rest ++ lay.above) h.some enough cut-at.in_run

      pub upper-run : IsRunFrom (upper lay gap gone rest ys) (top + gap) (top + gap + sizes (free left ++ rest))
      upper-run =
          grind (arith, upper-is, slots-now, part-instead, cut-at, span-append, loose-append, each-free, loose-parts)

      module _ (lowered : ℕ) (zs : List ℕ) (t : Settled (upper lay gap gone rest ys) lowered zs) where
        all-is : (lay.below ++ (Free gap ∷ movers gone)) ++ (settle (free left ++ rest) ++ lay.above)
            ≡ lay.below ++ (lifted gap lay.run ++ lay.above)
        all-is =
            let m = cut-movers lay gone rest p.split in
            let n : free_sum (free left ++ rest) ≡ free_sum lay.run - gap =
            omega (arith, total-append, free_sum-free, cut-sums, enough) in
            let any : movers lay.run ≡ [] → ⊥ = λ n. omega (arith, ap sizes (sym m ∙ n), span-append, some) in
            rw (lifted-some gap lay.run h.some any, n, movers-above left rest, m) (simp append_assoc)

        pub both-lifted : Lifted lay gap zs
        both-lifted = grind (arith, all-is, cut-same, others-now, part-instead, upper-is)

        pub both-stop : (at : ℕ) → at ≡ top + gap + sizes (free left ++ rest) → at ≡ place + sizes lay.run
        both-stop at e = e ∙ (omega (arith, span-append, span-free, sizes-movers gone cut-at.in_run, cut-sums, enough))
