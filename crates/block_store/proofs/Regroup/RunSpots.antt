use Rattle.block_store.proofs.Cited.{◌≡◌, ℕ, ◌+◌, ◌-◌, ◌<◌, zero, suc, Bool, true, false, ◌==◌, List, [], ◌∷◌, ◌++◌, drop, ◌≤◌, refl, sym}
use Rattle.block_store.proofs.Cited.{◌∙◌, ap, cond, arith, Option, Some, None, nat_le, none-some, same_Some, cond-true, cond-false}
use Rattle.block_store.proofs.Cited.{nat_tests, option_map, Block, Free, Nonrelocatable, Masters, Relocatable, size, sizes, in_run, RunSpot}
use Rattle.block_store.proofs.Cited.{run_raised, lowest_run, run_spot, run_from, run_at, segments, Segments, Stretch, joined}
use Rattle.block_store.proofs.Cited.{FindsLowestRun, nth_run_of, nth_run, FindsRun}
use Rattle.block_store.proofs.Zone.Totals.{total-append}
use Rattle.block_store.proofs.Plain.Options.{has_place}

-- each block that ends a run takes bytes
abbrev pub Barred : List Stretch → Type 0
Barred [] = Unit {0}
Barred (p ∷ parts) = (0 < size p.barrier) × Barred parts

pub barrier-size : (b : Block) → in_run b ≡ false → 0 < size b
barrier-size (Free n) e = let f : true ≡ false = e in cc
barrier-size (Nonrelocatable id content) e = omega arith
barrier-size Masters e = omega arith
barrier-size (Relocatable id flags content) e = omega arith

pub barred-segments : (zone : List Block) → Barred (segments zone).rest
barred-segments [] = tt
barred-segments (b ∷ above) = cases (in_run b) refl (barred-segments above)
  where
    cases : (t : Bool) → in_run b ≡ t → Barred (segments above).rest
        → (let s : Segments = cond t (record { first = b ∷ (segments above).first; rest = (segments above).rest })
        (record { first = []; rest = record { barrier = b; run = (segments above).first } ∷ (segments above).rest })
        in Barred s.rest)
    cases true e rest = rest
    cases false e rest = (barrier-size b e, rest)

-- the run at a place that is past the first run and its barrier
run_from-past : (run : List Block) (p : Stretch) (parts : List Stretch) (r : RunSpot) → 0 < size p.barrier
    → run_from (sizes r.below) p.run parts ≡ Some r
    → run_from (sizes (run ++ p.barrier ∷ [] ++ r.below)) run (p ∷ parts) ≡ Some (run_raised (run ++ p.barrier ∷ []) r)
run_from-past run p parts r some rest =
    let whole : sizes (run ++ p.barrier ∷ [] ++ r.below) ≡ sizes (run ++ p.barrier ∷ []) + sizes r.below =
    total-append size (run ++ p.barrier ∷ []) r.below in
    let first : sizes (run ++ p.barrier ∷ []) ≡ sizes run + (size p.barrier + 0) =
    total-append size run (p.barrier ∷ []) in
    let place = sizes (run ++ p.barrier ∷ [] ++ r.below) in
    cond-false (place == 0) _ _ (grind (arith, nat_tests))
    ∙ cond-true (nat_le (sizes (run ++ p.barrier ∷ [])) place) _ _ (grind (arith, nat_tests))
    ∙ ap (λ n. option_map (run_raised (run ++ p.barrier ∷ [])) (run_from n p.run parts))
    (let z : place - sizes (run ++ p.barrier ∷ []) ≡ sizes r.below = omega arith in z)
    ∙ ap (option_map (run_raised (run ++ p.barrier ∷ []))) rest

-- the lowest run that passes is the run of its place
run_from-lowest : (passes : List Block → Bool) (run : List Block) (parts : List Stretch) (r : RunSpot) → Barred parts
    → lowest_run passes run parts ≡ Some r → run_from (sizes r.below) run parts ≡ Some r
run_from-lowest passes run [] r barred e = cases (passes run) e
  where
    cases : (t : Bool) → cond t (Some (record { below = []; run = run; above = [] })) None ≡ Some r
        → run_from (sizes r.below) run [] ≡ Some r
    cases true e = ap (λ (x : RunSpot). run_from (sizes x.below) run []) (sym (same_Some _ _ e))
        ∙ ap Some (same_Some _ _ e)
    cases false e = absurd (none-some _ e)
run_from-lowest passes run (p ∷ parts) r barred e = cases (passes run) (lowest_run passes p.run parts)
    (λ s e. run_from-lowest passes p.run parts s barred.1 e) e
  where
    cases : (t : Bool) (o : Option RunSpot) → ((s : RunSpot) → o ≡ Some s
        → run_from (sizes s.below) p.run parts ≡ Some s)
        → cond t (Some (record { below = []; run = run; above = p.barrier ∷ joined p.run parts }))
        (option_map (run_raised (run ++ p.barrier ∷ [])) o) ≡ Some r
        → run_from (sizes r.below) run (p ∷ parts) ≡ Some r
    cases true o rest e = ap (λ (x : RunSpot). run_from (sizes x.below) run (p ∷ parts)) (sym (same_Some _ _ e))
        ∙ ap Some (same_Some _ _ e)
    cases false None rest e = absurd (none-some _ e)
    cases false (Some s) rest e = ap (λ (x : RunSpot). run_from (sizes x.below) run (p ∷ parts)) (sym (same_Some _ _ e))
        ∙ run_from-past run p parts s barred.0 (rest s refl) ∙ ap Some (same_Some _ _ e)

-- the run of an index is the run of its place
run_from-nth : (i : ℕ) (run : List Block) (parts : List Stretch) (r : RunSpot) → Barred parts
    → nth_run_of i run parts ≡ Some r → run_from (sizes r.below) run parts ≡ Some r
run_from-nth zero run [] r barred e = ap (λ (x : RunSpot). run_from (sizes x.below) run []) (sym (same_Some _ _ e))
    ∙ ap Some (same_Some _ _ e)
run_from-nth zero run (p ∷ parts) r barred e = ap (λ (x : RunSpot). run_from (sizes x.below) run (p ∷ parts))
    (sym (same_Some _ _ e)) ∙ ap Some (same_Some _ _ e)
run_from-nth (suc i) run [] r barred e = absurd (none-some _ e)
run_from-nth (suc i) run (p ∷ parts) r barred e = cases (nth_run_of i p.run parts)
    (λ s e. run_from-nth i p.run parts s barred.1 e) e
  where
    cases : (o : Option RunSpot) → ((s : RunSpot) → o ≡ Some s → run_from (sizes s.below) p.run parts ≡ Some s)
        → option_map (run_raised (run ++ p.barrier ∷ [])) o ≡ Some r → run_from (sizes r.below) run (p ∷ parts) ≡ Some r
    cases None rest e = absurd (none-some _ e)
    cases (Some s) rest e = ap (λ (x : RunSpot). run_from (sizes x.below) run (p ∷ parts)) (sym (same_Some _ _ e))
        ∙ run_from-past run p parts s barred.0 (rest s refl) ∙ ap Some (same_Some _ _ e)

pub run_at-spot : (passes : List Block → Bool) (zone : List Block) (r : RunSpot) → run_spot passes zone ≡ Some r
    → run_at (sizes r.below) zone ≡ Some r
run_at-spot passes zone r e = run_from-lowest passes (segments zone).first (segments zone).rest r (barred-segments zone)
    e

pub run_at-nth : (i : ℕ) (zone : List Block) (r : RunSpot) → nth_run i zone ≡ Some r
    → run_at (sizes r.below) zone ≡ Some r
run_at-nth i zone r e = run_from-nth i (segments zone).first (segments zone).rest r (barred-segments zone) e

-- what is found by a test has its place
pub finds_run : (passes : List Block → Bool) (zone : List Block) (r : Option ℕ)
    → r ≡ option_map (λ (s : RunSpot). sizes s.below) (run_spot passes zone) → FindsLowestRun passes zone r
finds_run passes zone None is = has_place (λ (s : RunSpot). sizes s.below) (λ k. run_at k zone) (run_spot passes zone)
    (run_at-spot passes zone) None is
finds_run passes zone (Some place) is = has_place (λ (s : RunSpot). sizes s.below) (λ k. run_at k zone)
    (run_spot passes zone) (run_at-spot passes zone) (Some place) is

-- and what is found by an index
pub finds_nth : (i : ℕ) (zone : List Block) (r : Option ℕ) → r
    ≡ option_map (λ (s : RunSpot). sizes s.below) (nth_run i zone) → FindsRun i zone r
finds_nth i zone None is = has_place (λ (s : RunSpot). sizes s.below) (λ k. run_at k zone) (nth_run i zone)
    (run_at-nth i zone) None is
finds_nth i zone (Some place) is = has_place (λ (s : RunSpot). sizes s.below) (λ k. run_at k zone) (nth_run i zone)
    (run_at-nth i zone) (Some place) is

pub sizes-drop : (n : ℕ) (bs : List Block) → sizes (drop n bs) ≤ sizes bs
sizes-drop zero bs = omega arith
sizes-drop (suc n) [] = omega arith
sizes-drop (suc n) (b ∷ bs) = let less : sizes (drop n bs) ≤ sizes bs = sizes-drop n bs in
    let z : sizes (drop n bs) ≤ size b + sizes bs = omega arith in z

pub lowest_run-passes : (passes : List Block → Bool) (run : List Block) (parts : List Stretch) (r : RunSpot)
    → lowest_run passes run parts ≡ Some r → passes r.run ≡ true
lowest_run-passes passes run [] r e = cases (passes run) refl e
  where
    cases : (t : Bool) → passes run ≡ t → cond t (Some (record { below = []; run = run; above = [] })) None ≡ Some r
        → passes r.run ≡ true
    cases true is e = ap (λ (r : RunSpot). passes r.run) (sym (same_Some _ _ e)) ∙ is
    cases false is e = absurd (none-some _ e)
lowest_run-passes passes run (p ∷ parts) r e = cases (passes run) refl (lowest_run passes p.run parts)
    (lowest_run-passes passes p.run parts) e
  where
    cases : (t : Bool) → passes run ≡ t → (o : Option RunSpot) → ((r : RunSpot) → o ≡ Some r → passes r.run ≡ true)
        → cond t (Some (record { below = []; run = run; above = p.barrier ∷ joined p.run parts }))
        (option_map (run_raised (run ++ p.barrier ∷ [])) o) ≡ Some r → passes r.run ≡ true
    cases true is o rest e = ap (λ (r : RunSpot). passes r.run) (sym (same_Some _ _ e)) ∙ is
    cases false is None rest e = absurd (none-some _ e)
    cases false is (Some r') rest e = ap (λ (r : RunSpot). passes r.run) (sym (same_Some _ _ e)) ∙ rest r' refl

-- a run that is found has what was asked
pub run_spot-passes : (passes : List Block → Bool) (zone : List Block) (r : RunSpot) → run_spot passes zone ≡ Some r
    → passes r.run ≡ true
run_spot-passes passes zone r e = lowest_run-passes passes (segments zone).first (segments zone).rest r e
