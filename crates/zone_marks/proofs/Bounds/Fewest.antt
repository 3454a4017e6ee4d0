-- The blocks that may be purged below a run, counted from an edge of a zone below which none may be.
use Rattle.zone_marks.proofs.Cited.{Counting, stretch_by, load, join, ◌≡◌, ℕ, ◌+◌, ◌-◌, ◌≤◌, List, ◌++◌, inl, refl, sym, ap, ◌∙◌, subst}
use Rattle.zone_marks.proofs.Cited.{arith, Block, sizes, count_of, most_purges, opened, spared, GREATEST_ZONE, Sparing, sizes-opened}
use Rattle.zone_marks.proofs.Cited.{count_within, zone_in, IsSound, Begins, IsTally, between, Tally, NoneGoes, Stays, IsStretch, left_in}
use Rattle.zone_marks.proofs.Cited.{Stretch}
use Rattle.zone_marks.specs.declared.landmark.Tally.TheVariants as tally
use Rattle.zone_marks.proofs.Bounds.Going.{count-none}
use Rattle.zone_marks.proofs.Marks.Lowering.{seen-from, one-here}
use Rattle.zone_marks.proofs.Marks.Passing.{at-left}
use Rattle.zone_marks.proofs.Searches.Pieces.{stretch-at, zone-long}
use Rattle.zone_marks.proofs.Stretches.Fewest.{count-few, count-past, opened-append}
use Rattle.zone_marks.proofs.Stretches.Monoid.{stretch_by-append}
use Rattle.zone_marks.proofs.Stretches.Sums.{load-counted}

pub count-below : (xs : List ℕ) (first unused : ℕ) (i : IsSound xs first unused) (from edge run : ℕ) (n : Sparing)
    (low rest : List Block) → Begins edge 0 (zone_in xs) → edge ≤ from → NoneGoes from (zone_in xs) → edge ≤ run
    → zone_in xs ≡ low ++ rest → sizes low ≡ run
    → count_within (spared n) (run - edge) (opened n (left_in edge xs)) ≡ count_of (spared n) (opened n low)
count-below xs first unused i from edge run n low rest b under none less is at =
    let sp = spared n in
    let e = seen-from xs first unused i edge b in
    let past = count-past sp (opened n e.below) (opened n (left_in edge xs)) run
    (omega (arith, sizes-opened n e.below)) in
    let all = count-past sp (opened n low) (opened n rest) run (omega (arith, sizes-opened n low)) in
    let none_below = count-none n _ 0 _
    (at-left (Stays from) 0 e.below (left_in edge xs) (subst (NoneGoes from) e.is none)) (omega arith) in
    let p : run - edge ≡ run - sizes (opened n e.below) = omega (arith, sizes-opened n e.below) in
    let z : run - sizes (opened n low) ≡ 0 = omega (arith, sizes-opened n low) in
    omega (
      arith,
      past,
      all,
      ap (count_within sp run) (sym (opened-append n e.below (left_in edge xs)) ∙ ap (opened n) (sym e.is ∙ is) ∙
          opened-append n low rest),
      none_below,
      ap (λ k. count_within sp k (opened n (left_in edge xs))) p,
      ap (λ k. count_within sp k (opened n rest)) z,
    )

-- no zone has more blocks than bytes
pub most-fits : (xs : List ℕ) (first unused : ℕ) → IsSound xs first unused → (n : Sparing)
    → most_purges n (zone_in xs) ≤ GREATEST_ZONE
most-fits xs first unused i n = omega (arith, count-few, sizes-opened, zone-long)

-- what blocks that are known come to, below others
module _ (xs : List ℕ) (first unused : ℕ) (i : IsSound xs first unused) where
  pub stretch-from : (w : Counting) (t : Tally) (from to : ℕ) → Begins from 0 (zone_in xs) → Begins to 0 (zone_in xs)
      → from ≤ to → IsTally w t (between from to from (left_in from xs)) → IsStretch w t from to xs
  stretch-from w t from to b e l k = stretch-at _ _ _ i w t _ _ _ b
      (one-here _ _ _ i w t _ _ b k) e l (omega arith) (inl refl)

-- what blocks come to, by what those up to a place do
module _ (w : Counting) (xs : List ℕ) (from to : ℕ) (runs : Stretch) (s : IsStretch w (tally.Known runs) from to xs) where
  pub known-past : stretch_by w (left_in from xs) ≡ join runs (stretch_by w (left_in to xs))
  known-past = grind (arith, stretch_by-append)

  pub known-fits : from + load runs ≤ to
  known-fits = omega (arith, load-counted w s.0, ap load s.2)
