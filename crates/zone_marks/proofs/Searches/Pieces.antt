-- The blocks from one place of a zone up to another.
use Rattle.zone_marks.proofs.Cited.{◌≡◌, ℕ, ◌+◌, ◌≤◌, ◌<◌, ◌⊎◌, inl, inr, List, [], ◌∷◌, ◌++◌, length, take, drop, get_or, append_assoc}
use Rattle.zone_marks.proofs.Cited.{refl, sym, ap, subst, arith, drop-drop, drop_more, Block, sizes, zone_in, IsSound, AreMarks, IsTally}
use Rattle.zone_marks.proofs.Cited.{between, next_of, no_mark, tally_of, told, above_all, Begins, IsPiece, IsStretch, place_at, left_in}
use Rattle.zone_marks.proofs.Cited.{slot_in, Landmark, Tally, GROUP, sizes-length, left-above, left-none, span-append, join, Counting}
use Rattle.zone_marks.proofs.Cited.{Stretch}
use Rattle.zone_marks.proofs.Marks.Lowering.{mark-at}
use Rattle.zone_marks.specs.declared.landmark.Tally.TheVariants as tally
use Rattle.zone_marks.proofs.Marks.Between.{CountAlike, tally-as, between-parts}
use Rattle.zone_marks.proofs.Marks.Lowering.{begins-way, mark-begins, seen-from, marks-below, marks-parted}
use Rattle.zone_marks.proofs.Marks.Lowering.{mark-first, begins-end}
use Rattle.zone_marks.proofs.Marks.Passing.{begins-either, begins-here, begins-within, parts}
use Rattle.zone_marks.proofs.Marks.Tallies.{group-tally}
use Rattle.zone_marks.proofs.Stretches.Monoid.{joined-is}

-- a piece and the one above it
pub piece-more : (xs : List ℕ) (from at to : ℕ) (low high : List Block) → IsPiece from at xs low → IsPiece at to xs high
    → IsPiece from to xs (low ++ high)
piece-more xs from at to low high p q = grind (arith, append_assoc, span-append)

-- and what they come to
abbrev pub stretch-more : (w : Counting) (xs : List ℕ) (from at to : ℕ) (a b s : Stretch)
    → IsStretch w (tally.Known a) from at xs → IsStretch w (tally.Known b) at to xs → s ≡ join a b
    → IsStretch w (tally.Known s) from to xs
stretch-more w xs from at to a b s p q j = (
  p.0 ++ q.0,
  piece-more xs from at to p.0 q.0 p.1 q.1,
  sym (joined-is w p.0 q.0 a b s j (sym p.2) (sym q.2)),
)

module _ (xs : List ℕ) (first unused : ℕ) (i : IsSound xs first unused) where
  pub zone-long : sizes (zone_in xs) ≡ length xs
  zone-long = sizes-length xs (zone_in xs) (slot_in xs) i.unused i.lays

  pub left-long : (edge : ℕ) → Begins edge 0 (zone_in xs) → edge + sizes (left_in edge xs) ≡ length xs
  left-long edge b =
      let s = seen-from xs first unused i edge b in
      omega (arith, ap sizes s.is, span-append, zone-long)

  pub edge-within : (p : ℕ) → Begins p 0 (zone_in xs) → p ≤ length xs
  edge-within p b = omega (arith, (begins-within p 0 _ b).1, zone-long)

  pub piece-of : (from to : ℕ) → Begins from 0 (zone_in xs) → Begins to 0 (zone_in xs) → from ≤ to
      → (here : List Block) × IsPiece from to xs here
  piece-of from to b e l =
      let s = seen-from xs first unused i from b in
      let behind : Begins to from (left_in from xs)
      = elim (begins-either to 0 s.below (left_in from xs) (subst (Begins to 0) s.is e)) [
        | inl d ↦ let w = begins-within to 0 s.below d in grind (arith, begins-here)
        | inr d ↦ grind arith
      ] in
      let r = parts to from (left_in from xs) behind in
      let above = left-above xs first unused i (s.below ++ r.below) r.above to (grind (arith, append_assoc))
      (omega (arith, span-append, s.low, r.low)) in
      (r.below, record { is = grind arith; up = r.low; edge = e })

  -- what is known of the blocks from an edge on up to a landmark, up to an edge below it
  pub stretch-at : (w : Counting) (t : Tally) (at to next : ℕ) → Begins at 0 (zone_in xs)
      → IsTally w t (between at to 0 (zone_in xs)) → Begins next 0 (zone_in xs) → at ≤ next → next ≤ to
      → (next ≡ to) ⊎ (next ≡ length xs) → IsStretch w t at next xs
  stretch-at w t at to next b k e r h o =
      let p = piece-of at next b e r in
      let s = seen-from xs first unused i at b in
      let ends : (to ≡ at + sizes p.0) ⊎ (left_in next xs ≡ []) = elim o [
        | inl q ↦ inl (omega (arith, p.1.up))
        | inr q ↦ inr (left-none next xs (begins-way xs first unused i next e) (omega arith))
      ] in
      let same : CountAlike (between at to 0 (zone_in xs)) p.0
      = rw (s.is, p.1.is) (between-parts _ _ _ _ _ s.low (let u = p.1.up in omega arith) ends) in
      (p.0, p.1, tally-as w t _ _ (record { same = λ w. sym (same.same w) }) k)

  -- what is known up to a landmark is so up to where a search goes below it
  pub stretch-before : (w : Counting) (t : Tally) (at : ℕ) (rest : List Landmark)
      → AreMarks above_all (zone_in xs) rest → Begins at 0 (zone_in xs) → at ≤ next_of above_all rest
      → IsTally w t (between at (next_of above_all rest) 0 (zone_in xs))
      → IsStretch w t at (next_of (length xs) rest) xs
  stretch-before w t at [] a b r k = stretch-at w t at above_all (length xs) b k (subst (λ p. Begins p 0 (zone_in xs))
      (grind (arith, zone-long)) (begins-end 0 (zone_in xs))) (edge-within at b)
      (omega arith) (inr refl)
  stretch-before w t at (m ∷ rest) a b r k = stretch-at w t at m.at m.at b k a.0.begins r (omega arith) (inl refl)

  module _ (w : Counting) (marks : List Landmark) (a : AreMarks above_all (zone_in xs) marks) where
    -- so the stretch of a landmark is known up to there
    pub next-stretch : (index : ℕ) → index < length marks
        → IsStretch w (told w (get_or marks index no_mark).tally) (place_at index marks xs)
        (place_at (index + 1) marks xs) xs
    next-stretch index l =
        let k = mark-at _ _ marks index no_mark l a in
        rw (mark-first (length xs) marks index no_mark l) (stretch-before w _ _ (drop (index + 1) marks)
        (marks-parted _ _ _ (index + 1) a).1 k.begins k.order (k.tells w))

    -- and so are the stretches of a group
    pub group-stretch : (low : ℕ) (s : Stretch) → low < length marks
        → tally_of w (take GROUP (drop low marks)) ≡ tally.Known s
        → IsStretch w (tally.Known s) (place_at low marks xs) (place_at (low + GROUP) marks xs) xs
    group-stretch low s l known =
        let part = take GROUP (drop low marks) in
        let to = next_of above_all (drop (low + GROUP) marks) in
        let are : AreMarks to (zone_in xs) part
        = subst (λ k. AreMarks (next_of above_all k) (zone_in xs) part) (drop-drop GROUP low marks)
        (marks-parted _ _ (drop low marks) GROUP (marks-parted above_all (zone_in xs) marks low a).1).0 in
        let first : next_of to part ≡ (get_or marks low no_mark).at
        = ap (λ k. next_of to (take GROUP k)) (drop_more marks low no_mark l) in
        let below = marks-below to (zone_in xs) part are in
        rw (mark-first (length xs) marks low no_mark l) (stretch-before w (tally.Known s) _ (drop (low + GROUP) marks)
        (marks-parted above_all (zone_in xs) marks (low + GROUP) a).1
        (mark-begins above_all (zone_in xs) marks low no_mark l a) (omega (arith, first))
        (rw (known, first) at (group-tally w _ _ _ are)))
