use Rattle.zone_drawing.proofs.Cited.{◌≡◌, ℕ, ◌+◌, ◌≤◌, Bool, true, false, not, ◌&&◌, List, [], ◌∷◌, refl, ◌∙◌, ap, arith, map, max, cond}
use Rattle.zone_drawing.proofs.Cited.{cond-true, cond-false, Block, Free, Nonrelocatable, Masters, Relocatable, total, Stretch, segments}
use Rattle.zone_drawing.proofs.Cited.{largest, seen, seen_size, Seen, in_run, could_be_free, pass, largest_purged}
use Rattle.block_store.specs.Run as run
use Rattle.block_store.specs.declared.sparing.Seen.TheVariants as see
use Rattle.zone_drawing.specs.Totals as whole

-- A pass over the runs of a zone gives the greatest of them.

seen-run : (b : Block) → in_run (seen b) ≡ run.in_run b
seen-run (Free n) = refl
seen-run (Nonrelocatable id content) = refl
seen-run Masters = refl
seen-run (Relocatable id flags content) = refl

seen-free : (b : Block) → could_be_free (seen b) ≡ whole.could_be_free b
seen-free (Free n) = refl
seen-free (Nonrelocatable id content) = refl
seen-free Masters = refl
seen-free (Relocatable id flags content) = refl

-- no more of a block could be free than it has
pub free-le : (b : Seen) → could_be_free b ≤ seen_size b
free-le (see.Free n) = omega arith
free-le (see.Nonrelocatable n) = omega arith
free-le see.Masters = omega arith
free-le (see.Relocatable id flags n) = cases (not flags.locked && flags.purgeable)
  where
    cases : (t : Bool) → cond {A = ℕ} t (seen_size (see.Relocatable id flags n)) 0 ≤ seen_size (see.Relocatable id flags n)
    cases true = omega arith
    cases false = omega arith

-- what is free in the first run of a zone, and in its other runs
first : List Block → ℕ
first zone = total whole.could_be_free (segments zone).first

others : List Block → ℕ
others zone = largest (total whole.could_be_free) (map (λ (p : Stretch). p.run) (segments zone).rest)

passed : (n best : ℕ) (zone : List Block) → pass n best (map seen zone) ≡ max best (max (n + first zone) (others zone))
unfolding first others
passed n best [] = omega arith
passed n best (b ∷ zone) = cases (run.in_run b) refl (λ k m. passed k m zone)
  where
    cases : (t : Bool) → run.in_run b ≡ t
        → ((k m : ℕ) → pass k m (map seen zone) ≡ max m (max (k + first zone) (others zone)))
        → pass n best (map seen (b ∷ zone)) ≡ max best (max (n + first (b ∷ zone)) (others (b ∷ zone)))
    cases true e again =
        let step : pass n best (map seen (b ∷ zone)) ≡ pass (n + could_be_free (seen b)) best (map seen zone) =
        cond-true (in_run (seen b)) _ _ (seen-run b ∙ e) in
        let more : first (b ∷ zone) ≡ whole.could_be_free b + first zone =
        ap (λ (s : run.Segments). total whole.could_be_free s.first) (cond-true (run.in_run b) _ _ e) in
        let same : others (b ∷ zone) ≡ others zone =
        ap (λ (s : run.Segments). largest (total whole.could_be_free) (map (λ (p : Stretch). p.run) s.rest))
        (cond-true (run.in_run b) _ _ e) in
        let rest = again (n + could_be_free (seen b)) best in
        let free = seen-free b in
        step ∙ rest ∙ omega (arith, more, same, free)
    cases false e again =
        let step : pass n best (map seen (b ∷ zone)) ≡ pass 0 (max best n) (map seen zone) =
        cond-false (in_run (seen b)) _ _ (seen-run b ∙ e) in
        let none : first (b ∷ zone) ≡ 0 =
        ap (λ (s : run.Segments). total whole.could_be_free s.first) (cond-false (run.in_run b) _ _ e) in
        let more : others (b ∷ zone) ≡ max (first zone) (others zone) =
        ap (λ (s : run.Segments). largest (total whole.could_be_free) (map (λ (p : Stretch). p.run) s.rest))
        (cond-false (run.in_run b) _ _ e) in
        let rest = again 0 (max best n) in
        step ∙ rest ∙ omega (arith, more, none)

pub pass-all : (zone : List Block) → pass 0 0 (map seen zone) ≡ largest_purged zone
unfolding first others
pass-all zone = passed 0 0 zone ∙ omega arith
