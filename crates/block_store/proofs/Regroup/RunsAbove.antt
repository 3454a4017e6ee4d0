use Rattle.block_store.proofs.Cited.{◌≡◌, ℕ, ◌+◌, ◌-◌, ◌≤◌, ◌==◌, nat_le, Bool, true, false, cond, Option, Some, None, List, [], ◌∷◌, ◌++◌}
use Rattle.block_store.proofs.Cited.{take, drop, refl, sym, ◌∙◌, ap, subst, arith, none-some, same_Some, leb-true, nat_tests}
use Rattle.block_store.proofs.Cited.{take-append-drop, option_map, IfSome, Block, size, sizes, Stretch, RunSpot, run_raised, run_from}
use Rattle.block_store.proofs.Cited.{run_at, joined, segments, beyond, place_behind, next_run, run_of_index}
use Rattle.block_store.proofs.Zone.Totals.{total-append}
use Rattle.block_store.proofs.Zone.Zones.{joined-segments, joined-is}

-- The run above a run.

-- a run that was found at a place has so many bytes below it
run_from-bottom : (place : ℕ) (run : List Block) (parts : List Stretch) (r : RunSpot)
    → run_from place run parts ≡ Some r → sizes r.below ≡ place
run_from-bottom place run [] r e = cases (place == 0) refl e
  where
    cases : (t : Bool) → (place == 0) ≡ t → cond t (Some (record { below = []; run = run; above = [] })) None ≡ Some r
        → sizes r.below ≡ place
    cases false is e = absurd (none-some r e)
    cases true is e = ap (λ (q : RunSpot). sizes q.below) (sym (same_Some _ r e))
        ∙ (let f : (place == 0) ≡ true = is in let z : 0 ≡ place = grind (arith, nat_tests, f) in z)
run_from-bottom place run (p ∷ parts) r e =
    cases (place == 0) refl (nat_le (sizes low) place) refl (run_from (place - sizes low) p.run parts)
    (λ q f. run_from-bottom (place - sizes low) p.run parts q f) e
  where
    low : List Block
    low = run ++ p.barrier ∷ []

    cases : (t : Bool) → (place == 0) ≡ t → (u : Bool) → nat_le (sizes low) place ≡ u → (o : Option RunSpot)
        → ((q : RunSpot) → o ≡ Some q → sizes q.below ≡ place - sizes low)
        → cond t (Some (record { below = []; run = run; above = p.barrier ∷ joined p.run parts }))
        (cond u (option_map (run_raised low) o) None) ≡ Some r → sizes r.below ≡ place
    cases true is u fits o known e = ap (λ (q : RunSpot). sizes q.below) (sym (same_Some _ r e))
        ∙ (let f : (place == 0) ≡ true = is in let z : 0 ≡ place = grind (arith, nat_tests, f) in z)
    cases false is false fits o known e = absurd (none-some r e)
    cases false is true fits None known e = absurd (none-some r e)
    cases false is true fits (Some q) known e =
        let all : sizes (low ++ q.below) ≡ sizes low + sizes q.below = total-append size low q.below in
        ap (λ (q : RunSpot). sizes q.below) (sym (same_Some _ r e))
        ∙ (let z : sizes (low ++ q.below) ≡ place = omega (arith, all, known q refl, leb-true (sizes low) place fits) in
        z)

pub run_at-bottom : (place : ℕ) (zone : List Block) (r : RunSpot) → run_at place zone ≡ Some r → sizes r.below ≡ place
run_at-bottom place zone r e = run_from-bottom place (segments zone).first (segments zone).rest r e

-- a place with blocks more below it
pub behind-more : (below place : ℕ) (above : List Block) → place_behind (below + place) above
    ≡ option_map (λ n. below + n) (place_behind place above)
behind-more below place [] = refl
behind-more below place (b ∷ above) = ap Some (let z : below + place + size b ≡ below + (place + size b) = omega arith
    in z)

-- the place of the run above is told by the blocks from a run's bottom on
pub above-told : (place i : ℕ) (zone : List Block) (told : Option ℕ)
    → run_at place zone ≡ Some (run_of_index i zone)
    → told ≡ place_behind (sizes (segments (drop i zone)).first) (beyond (segments (drop i zone)).rest)
    → IfSome (run_at place zone) (λ r. option_map (λ n. place + n) told ≡ next_run r)
above-told place i zone told at is =
    let r = run_of_index i zone in
    subst (λ (o : Option RunSpot). IfSome o (λ r. option_map (λ n. place + n) told ≡ next_run r)) (sym at)
    (ap (option_map (λ n. place + n)) is
    ∙ sym (behind-more place (sizes r.run) r.above)
    ∙ ap (λ n. place_behind (n + sizes r.run) r.above) (sym (run_at-bottom place zone r at)))

-- the run above begins in the zone, or where it ends
pub behind-within : (place : ℕ) (above : List Block) (n : ℕ) → place_behind place above ≡ Some n
    → n ≤ place + sizes above
behind-within place [] n e = absurd (none-some n e)
behind-within place (b ∷ above) n e = let z = same_Some _ n e in omega (arith, z)

pub above-within : (place i : ℕ) (zone : List Block) (n : ℕ) → run_at place zone ≡ Some (run_of_index i zone)
    → Some n ≡ place_behind (sizes (segments (drop i zone)).first) (beyond (segments (drop i zone)).rest)
    → place + n ≤ sizes zone
above-within place i zone n at is =
    let r = run_of_index i zone in
    let s = segments (drop i zone) in
    let below = run_at-bottom place zone r at in
    let whole : sizes (s.first ++ beyond s.rest) ≡ sizes (drop i zone) =
    ap sizes (sym (joined-is s.first s.rest) ∙ joined-segments (drop i zone)) in
    let two : sizes (s.first ++ beyond s.rest) ≡ sizes s.first + sizes (beyond s.rest) =
    total-append size s.first (beyond s.rest) in
    let parts : sizes (take i zone ++ drop i zone) ≡ sizes (take i zone) + sizes (drop i zone) =
    total-append size (take i zone) (drop i zone) in
    let all : sizes (take i zone ++ drop i zone) ≡ sizes zone = ap sizes (take-append-drop i zone) in
    omega (arith, below, whole, two, parts, all, behind-within (sizes s.first) (beyond s.rest) n (sym is))
