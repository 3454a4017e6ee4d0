-- Where a run of a zone ends, and that a packed one leaves the zone tidy.
use Rattle.block_store.proofs.Cited.{◌≡◌, ℕ, ◌-◌, ◌==◌, nat_le, zero, suc, Bool, true, false, not, cond, Option, Some, None, List, [], ◌∷◌}
use Rattle.block_store.proofs.Cited.{◌++◌, refl, sym, ◌∙◌, ap, subst, append_assoc, false≢true, none-some, same_Some, option_map, Block}
use Rattle.block_store.proofs.Cited.{Free, Nonrelocatable, Masters, Relocatable, sizes, free_sum, free, tidy, in_run, Stretch, Segments}
use Rattle.block_store.proofs.Cited.{segments, joined, RunSpot, run_raised, run_from, run_at, movers, settle, Loose}
use Rattle.block_store.proofs.Zone.Apart.{Apart, apart-above, apart-next, apart-tidied, barrier-alone, tidy-apart}
use Rattle.block_store.proofs.Regroup.Packed.{first-stop, first-more}
use Rattle.block_store.proofs.Regroup.RunLists.{run_at-is}

-- blocks begin with one that ends a run
abbrev pub Stops : List Block → Type 0
Stops [] = Unit {0}
Stops (b ∷ above) = in_run b ≡ false

-- blocks end with one that ends a run
abbrev pub Bars : List Block → Type 0
Bars [] = Unit {0}
Bars (b ∷ []) = in_run b ≡ false
Bars (b ∷ c ∷ blocks) = Bars (c ∷ blocks)

-- each barrier ends a run
abbrev pub Stopped : List Stretch → Type 0
Stopped [] = Unit {0}
Stopped (p ∷ parts) = (in_run p.barrier ≡ false) × Stopped parts

stopped-below : (b : Block) (t : Bool) → in_run b ≡ t → (s : Segments) → Stopped s.rest
    → Stopped (cond {A = Segments} t (record { first = b ∷ s.first; rest = s.rest })
    (record { first = []; rest = record { barrier = b; run = s.first } ∷ s.rest })).rest
stopped-below b true e s h = h
stopped-below b false e s h = (e, h)

stopped-segments : (zone : List Block) → Stopped (segments zone).rest
stopped-segments [] = tt
stopped-segments (b ∷ above) = stopped-below b (in_run b) refl (segments above) (stopped-segments above)

pub record Ended (r : RunSpot) : Type 0 where
  pub bars : Bars r.below
  pub stops : Stops r.above

bars-append : (run : List Block) (b : Block) (below : List Block) → in_run b ≡ false → Bars below
    → Bars (run ++ b ∷ below)
bars-append [] b [] e h = e
bars-append [] b (c ∷ below) e h = h
bars-append (a ∷ []) b below e h = bars-append [] b below e h
bars-append (a ∷ d ∷ run) b below e h = bars-append (d ∷ run) b below e h

mapped : (blocks : List Block) (o : Option RunSpot) (r : RunSpot) → option_map (run_raised blocks) o ≡ Some r
    → (q : RunSpot) × (o ≡ Some q) × (run_raised blocks q ≡ r)
mapped blocks None r e = absurd (none-some r e)
mapped blocks (Some q) r e = (q, refl, same_Some (run_raised blocks q) r e)

run_from-ended : (place : ℕ) (run : List Block) (parts : List Stretch) (r : RunSpot) → Stopped parts
    → run_from place run parts ≡ Some r → Ended r
run_from-ended place run [] r h e = cases (place == 0) e
  where
    cases : (t : Bool) → cond t (Some (record { below = []; run = run; above = [] })) None ≡ Some r → Ended r
    cases false e = absurd (none-some r e)
    cases true e = subst Ended (same_Some (record { below = []; run = run; above = [] }) r e)
        (record { bars = tt; stops = tt })
run_from-ended place run (p ∷ parts) r h e =
    cases (place == 0) (nat_le (sizes low) place) (run_from (place - sizes low) p.run parts)
    (λ q f. run_from-ended (place - sizes low) p.run parts q h.1 f) e
  where
    low : List Block
    low = run ++ p.barrier ∷ []

    here : RunSpot
    here = record { below = []; run = run; above = p.barrier ∷ joined p.run parts }

    cases : (t u : Bool) (o : Option RunSpot) → ((q : RunSpot) → o ≡ Some q → Ended q)
        → cond t (Some here) (cond u (option_map (run_raised low) o) None) ≡ Some r → Ended r
    cases true u o known e = subst Ended (same_Some here r e) (record { bars = tt; stops = h.0 })
    cases false false o known e = absurd (none-some r e)
    cases false true o known e =
        let m = mapped low o r e in
        let k = known m.0 m.1 in
        subst Ended m.2 (record {
          bars = subst Bars (sym (append_assoc run (p.barrier ∷ []) m.0.below))
              (bars-append run p.barrier m.0.below h.0 k.bars);
          stops = k.stops;
        })

pub run_at-ended : (place : ℕ) (zone : List Block) (r : RunSpot) → run_at place zone ≡ Some r → Ended r
run_at-ended place zone r e = run_from-ended place (segments zone).first (segments zone).rest r (stopped-segments zone)
    e

-- the first run, where a run comes first
pub first-run : (run above : List Block) → Loose run → Stops above → (segments (run ++ above)).first ≡ run
first-run [] [] l s = refl
first-run [] (b ∷ above) l s = first-stop b above s
first-run (b ∷ run) above l s = first-more b (run ++ above) l.0 ∙ ap (λ q. b ∷ q) (first-run run above l.1 s)

apart-below : (below old new : List Block) → Bars below → Apart (below ++ old) → Apart new → Apart (below ++ new)
apart-below [] old new b a h = h
apart-below (c ∷ []) old new b a h = (barrier-alone c new b, h)
apart-below (c ∷ d ∷ below) old new b a h = (
  apart-next c d (below ++ old) (below ++ new) a.0,
  apart-below (d ∷ below) old new b a.1 h,
)

apart-free : (n : ℕ) (above : List Block) → Stops above → Apart above → Apart (free n ++ above)
apart-free zero above s a = a
apart-free (suc n) [] s a = (refl, tt)
apart-free (suc n) (Free m ∷ above) s a = absurd (false≢true (sym s))
apart-free (suc n) (Nonrelocatable id content ∷ above) s a = (refl, a)
apart-free (suc n) (Masters ∷ above) s a = (refl, a)
apart-free (suc n) (Relocatable id flags content ∷ above) s a = (refl, a)

pub apart-movers : (run above : List Block) → Apart above → Apart (movers run ++ above)
apart-movers [] above a = a
apart-movers (Free n ∷ run) above a = apart-movers run above a
apart-movers (Nonrelocatable id content ∷ run) above a = apart-movers run above a
apart-movers (Masters ∷ run) above a = apart-movers run above a
apart-movers (Relocatable id flags content ∷ run) above a = cases flags.locked (apart-movers run above a)
  where
    cases : (t : Bool) → Apart (movers run ++ above)
        → Apart (cond (not t) (Relocatable id flags content ∷ movers run) (movers run) ++ above)
    cases true h = h
    cases false h = (refl, h)

pub settled-tidy : (place : ℕ) (zone : List Block) (r : RunSpot) → tidy zone ≡ zone → run_at place zone ≡ Some r
    → tidy (r.below ++ (settle r.run ++ r.above)) ≡ r.below ++ (settle r.run ++ r.above)
settled-tidy place zone r t e =
    let d = run_at-ended place zone r e in
    let a = subst Apart (sym (run_at-is place zone r e)) (apart-tidied zone t) in
    let up = apart-above r.run r.above (apart-above r.below (r.run ++ r.above) a) in
    let packed : Apart (settle r.run ++ r.above) =
    subst Apart (sym (append_assoc (movers r.run) (free (free_sum r.run)) r.above))
    (apart-movers r.run (free (free_sum r.run) ++ r.above) (apart-free (free_sum r.run) r.above d.stops up)) in
    tidy-apart (r.below ++ (settle r.run ++ r.above))
    (apart-below r.below (r.run ++ r.above) (settle r.run ++ r.above) d.bars a packed)
