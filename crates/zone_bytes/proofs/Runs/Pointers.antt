-- A run whose slots are made to lead to it.
use Rattle.zone_bytes.proofs.Cited.{◌≡◌, ℕ, ◌+◌, ◌<◌, ◌≤◌, List, [], ◌∷◌, ◌++◌, length, drop, refl, ap, subst, arith, append_assoc}
use Rattle.zone_bytes.proofs.Cited.{take-append-drop, written, piece, written-same, word, Block, Free, sizes, head_of, Lay, Passing}
use Rattle.zone_bytes.proofs.Cited.{IsMoved, Pointing, Pointed, GREATEST_ZONE}
use Rattle.zone_bytes.proofs.Tiles.Tiling.{tiles-append, tiles-none}
use Rattle.zone_bytes.proofs.Tiles.Leading.{leads-joined}
use Rattle.zone_bytes.proofs.Runs.Packed.{bounds, start, step-stay, NextMover}

module _ (lay : Lay) (place stop : ℕ) (r : IsMoved lay place stop) where
  pub start-pointing : Pointing lay place lay.bytes
  start-pointing = record { done = []; rest = lay.run; state = start lay place stop r 0 }

  module _ {from : ℕ} {xs : List ℕ} (p : Pointing lay from xs) where
    pub pointing-bounds : (from ≤ stop) × (stop ≤ length xs) × (length xs ≤ GREATEST_ZONE)
    pointing-bounds = let b = bounds lay place stop r p.state in (omega arith, b.inside, b.small)

    pub pointed : stop ≤ from → Pointed lay xs
    pointed l =
        let e = (bounds lay place stop r p.state).rest_end in
        let n = tiles-none (head_of lay.resource) (drop from xs) p.rest lay.above p.state.high (omega arith) in
        grind (arith, append_assoc, take-append-drop, tiles-append, leads-joined)

    pub some-left : from < stop → p.rest ≡ [] → ⊥
    some-left l e = omega (arith, (bounds lay place stop r p.state).rest_end, ap sizes e, l)

    pub past-free : (n : ℕ) → (others : List Block) × (p.rest ≡ Free n ∷ others) → Pointing lay (from + n) xs
    past-free n f = record {
      done = p.done ++ Free n ∷ [];
      rest = f.0;
      state = step-stay lay place stop r n (subst (Passing lay 0 from from xs p.done p.done) f.1 p.state);
    }

    pub past-slot : {n slot : ℕ} (m : NextMover lay 0 stop from from xs p.done p.done p.rest n slot)
        → Pointing lay (from + n) (written slot (word from) xs)
    past-slot {n} {slot} m =
        let b = bounds lay place stop r p.state in
        let o : from + 0 ≡ from = omega arith in
        let same : written slot (word (from + 0)) (written from (piece from n xs) xs) ≡ written slot (word from) xs =
        λ j. written slot (word (o j)) (written-same from n _ xs (omega (arith, m.inside)) refl j) in
        subst (Pointing lay (from + n)) same
        (record { done = p.done ++ m.block ∷ []; rest = m.others; state = m.state })
