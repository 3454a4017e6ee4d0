use Rattle.block_store.proofs.Cited.{◌≡◌, ℕ, ◌+◌, ◌-◌, ◌%◌, ◌≤◌, ◌<◌, Bool, true, false, List, [], ◌∷◌, ◌++◌, refl, sym, ◌∙◌, ap, cond, map}
use Rattle.block_store.proofs.Cited.{arith, ◌||◌, Option, Some, None, is_some, max, nat_le, le-leb, leb-true, leb-false, lt-leb, cond-true}
use Rattle.block_store.proofs.Cited.{cond-false, nat_tests, option_and_then, option_map, option_or, IfSome, IsSome, phys, padded, Block}
use Rattle.block_store.proofs.Cited.{Free, Nonrelocatable, Masters, Relocatable, free_of, free_sum, is_room, tidy, rename, in_run, Stretch}
use Rattle.block_store.proofs.Cited.{Segments, segments, runs, joined, RunSpot, run_raised, lowest_run, has, run_spot, with_run, change_run}
use Rattle.block_store.proofs.Cited.{has_free, settle, Spot, raised, rename_spot, spot, place, largest, largest_free, largest_run, Aligned}
use Rattle.block_store.proofs.Renamed.Renaming.{place-rename}
use Rattle.block_store.proofs.Zone.Aligned.{free_sum-aligned}
use Rattle.block_store.proofs.Regroup.RunSpots.{run_spot-passes}
use Rattle.block_store.proofs.Regroup.HavingRoom.{room-settled}
use Rattle.block_store.proofs.Regroup.Settling.{has-spot}

-- The most Free bytes of a run are the most that a block can have.

-- each run is
abbrev AllAligned : List (List Block) → Type 0
AllAligned [] = Unit {0}
AllAligned (run ∷ rs) = (Aligned run) × (AllAligned rs)

-- the runs of segments
abbrev runs_of : Segments → List (List Block)
runs_of s = s.first ∷ map (λ (p : Stretch). p.run) s.rest

aligned-runs : (zone : List Block) → Aligned zone → AllAligned (runs_of (segments zone))
aligned-runs [] a = (tt, tt)
aligned-runs (b ∷ above) a = cases (in_run b) (segments above) (aligned-runs above a.1)
  where
    cases : (t : Bool) (s : Segments) → AllAligned (runs_of s)
        → AllAligned (runs_of (cond t (record { first = b ∷ s.first; rest = s.rest })
        (record { first = []; rest = record { barrier = b; run = s.first } ∷ s.rest })))
    cases true s all = ((a.0, all.0), all.1)
    cases false s all = (tt, all)

largest-aligned : (rs : List (List Block)) → AllAligned rs → largest free_sum rs % 16 ≡ 0
largest-aligned [] a = refl
largest-aligned (run ∷ rs) a = let first = free_sum-aligned run a.0 in let rest = largest-aligned rs a.1 in omega arith

pub largest_run-aligned : (zone : List Block) → Aligned zone → largest_run zone % 16 ≡ 0
largest_run-aligned zone a = largest-aligned (runs zone) (aligned-runs zone a)

-- a run has at most so many Free bytes, and a Free block no more than its run
free-within : (zone : List Block) → largest_free zone ≤ largest free_sum (runs_of (segments zone))
free-within [] = omega arith
free-within (b ∷ above) = cases (in_run b) refl (segments above) (free-within above)
  where
    barrier : (b : Block) → in_run b ≡ false → free_of b ≡ 0
    barrier (Free n) e = let f : true ≡ false = e in cc
    barrier (Nonrelocatable id content) e = refl
    barrier Masters e = refl
    barrier (Relocatable id flags content) e = refl

    cases : (t : Bool) → in_run b ≡ t → (s : Segments) → largest_free above ≤ largest free_sum (runs_of s)
        → max (free_of b) (largest_free above) ≤ largest free_sum
        (runs_of (cond t (record { first = b ∷ s.first; rest = s.rest })
        (record { first = []; rest = record { barrier = b; run = s.first } ∷ s.rest })))
    cases true e s le = omega arith
    cases false e s le = let z = barrier b e in omega arith

room-none : (p : ℕ) (zone : List Block) → largest_free zone < p → spot (is_room p) zone ≡ None
room-none p [] less = refl
room-none p (b ∷ zone) less =
    let rest : largest_free zone < p = omega arith in
    let here : free_of b < p = omega arith in
    cond-false (is_room p b) _ _ (small b here) ∙ ap (option_map (raised b)) (room-none p zone rest)
  where
    small : (b : Block) → free_of b < p → is_room p b ≡ false
    small (Free n) less = lt-leb p n less
    small (Nonrelocatable id content) less = refl
    small Masters less = refl
    small (Relocatable id flags content) less = refl

pub run-none : (p : ℕ) (run : List Block) (parts : List Stretch)
    → largest free_sum (run ∷ map (λ (p : Stretch). p.run) parts) < p → lowest_run (has_free p) run parts ≡ None
run-none p run [] less = cond-false (has_free p run) _ _ (lt-leb p (free_sum run) (omega arith))
run-none p run (q ∷ parts) less =
    cond-false (has_free p run) _ _ (lt-leb p (free_sum run) (omega arith))
    ∙ ap (option_map (run_raised (run ++ q.barrier ∷ []))) (run-none p q.run parts (omega arith))

pub run-some : (p : ℕ) (run : List Block) (parts : List Stretch)
    → p ≤ largest free_sum (run ∷ map (λ (p : Stretch). p.run) parts)
    → is_some (lowest_run (has_free p) run parts) ≡ true
run-some p run [] le = ap is_some (cond-true (has_free p run) _ _ (le-leb p (free_sum run) (omega arith)))
run-some p run (q ∷ parts) le = cases (has_free p run) refl (lowest_run (has_free p) q.run parts)
    (λ less. run-some p q.run parts (omega arith))
  where
    cases : (t : Bool) → has_free p run ≡ t → (o : Option RunSpot) → (free_sum run < p → is_some o ≡ true)
        → is_some (cond t (Some (record { below = []; run = run; above = q.barrier ∷ joined q.run parts }))
        (option_map (run_raised (run ++ q.barrier ∷ [])) o)) ≡ true
    cases true e o rest = refl
    cases false e (Some r) rest = refl
    cases false e None rest = rest (let f : nat_le p (free_sum run) ≡ false = e in grind (arith, nat_tests, f))

-- a Free block has so many bytes just where the largest has
pub room-largest : (p : ℕ) (zone : List Block) → 0 < p → nat_le p (largest_free zone) ≡ has (is_room p) zone
room-largest p [] pos = lt-leb p 0 pos
room-largest p (b ∷ zone) pos = le-max (free_of b) (largest_free zone)
    ∙ ap (λ t. t || nat_le p (largest_free zone)) (here b)
    ∙ ap (λ t. is_room p b || t) (room-largest p zone pos)
  where
    le-max : (n m : ℕ) → nat_le p (max n m) ≡ (nat_le p n || nat_le p m)
    le-max n m = cases (nat_le p n) refl (nat_le p m) refl
      where
        cases : (t : Bool) → nat_le p n ≡ t → (u : Bool) → nat_le p m ≡ u → nat_le p (max n m) ≡ (t || u)
        cases true e u f = le-leb p (max n m) (omega (arith, leb-true p n e))
        cases false e true f = le-leb p (max n m) (omega (arith, leb-true p m f))
        cases false e false f = lt-leb p (max n m) (omega (arith, leb-false p n e, leb-false p m f))

    here : (b : Block) → nat_le p (free_of b) ≡ is_room p b
    here (Free n) = refl
    here (Nonrelocatable id content) = lt-leb p 0 pos
    here Masters = lt-leb p 0 pos
    here (Relocatable id flags content) = lt-leb p 0 pos

-- no more bytes than the most of a run have a place
pub place-none : (p : ℕ) (zone : List Block) → largest_run zone < p → place p zone ≡ None
place-none p zone less =
    let within : largest_free zone ≤ largest_run zone = free-within zone in
    ap (λ o. option_or o (option_and_then (spot (is_room p)) (option_map tidy (change_run (has_free p) settle zone))))
    (room-none p zone (omega arith))
    ∙ ap (λ o. option_and_then (spot (is_room p)) (option_map tidy (option_map (with_run settle) o)))
    (run-none p (segments zone).first (segments zone).rest less)

-- and so many have one
pub place-some : (p : ℕ) (zone : List Block) → 0 < p → p ≤ largest_run zone → is_some (place p zone) ≡ true
place-some p zone pos le = cases (spot (is_room p) zone) (run_spot (has_free p) zone) refl
    (run-some p (segments zone).first (segments zone).rest le)
  where
    cases : (o : Option Spot) (q : Option RunSpot) → run_spot (has_free p) zone ≡ q → is_some q ≡ true
        → is_some (option_or o (option_and_then (spot (is_room p)) (option_map tidy (option_map (with_run settle) q))))
        ≡ true
    cases (Some s) q e some = refl
    cases None None e some = some
    cases None (Some r) e some = sym (has-spot (is_room p) (tidy (with_run settle r)))
        ∙ room-settled p pos r (run_spot-passes (has_free p) zone r e)

-- a run has so many bytes just where the most are no fewer
pub run-there : (p : ℕ) (zone : List Block) → is_some (run_spot (has_free p) zone) ≡ nat_le p (largest_run zone)
run-there p zone = cases (nat_le p (largest_run zone)) refl
  where
    cases : (t : Bool) → nat_le p (largest_run zone) ≡ t → is_some (run_spot (has_free p) zone) ≡ t
    cases true e = run-some p (segments zone).first (segments zone).rest (leb-true p (largest_run zone) e)
    cases false e = ap is_some (run-none p (segments zone).first (segments zone).rest (leb-false p (largest_run zone) e))

-- and just there a block has a place
pub placed-is : (p : ℕ) (zone : List Block) → 0 < p
    → is_some (place p zone) ≡ is_some (run_spot (has_free p) zone)
placed-is p zone pos = cases (nat_le p (largest_run zone)) refl ∙ sym (run-there p zone)
  where
    cases : (t : Bool) → nat_le p (largest_run zone) ≡ t → is_some (place p zone) ≡ t
    cases true e = place-some p zone pos (leb-true p (largest_run zone) e)
    cases false e = ap is_some (place-none p zone (leb-false p (largest_run zone) e))

-- what holds of the bytes that a block takes holds where there can be such a block
pub phys-holds : (n : ℕ) (P : ℕ → Type 0) → P (padded n) → IfSome (phys n) P
phys-holds n P holds = cases (nat_le n 2147483616)
  where
    cases : (t : Bool) → IfSome (cond t (Some (padded n)) None) P
    cases true = holds
    cases false = tt

padded-most : (most : ℕ) → most % 16 ≡ 0 → 0 < most - 16 → padded (most - 16) ≡ most
padded-most most even pos = omega arith

padded-more : (most : ℕ) → most < padded (most - 16 + 1)
padded-more most = omega arith

-- a block of the most bytes has a place, by any names
pub most-placed : (f g : ℕ → ℕ) (zone : List Block) (n most : ℕ) → Aligned zone → most ≡ largest_run zone
    → n ≡ most - 16 → 0 < n → IfSome (phys n) (λ p. IsSome (place p (rename f g zone)))
most-placed f g zone n most a is less pos = phys-holds n (λ p. IsSome (place p (rename f g zone)))
    (ap is_some (place-rename f g (padded n) zone) ∙ renamed (place (padded n) zone)
    ∙ place-some (padded n) zone (omega arith) fits)
  where
    fits : padded n ≤ largest_run zone
    fits = let even = largest_run-aligned zone a in let e : padded n ≡ largest_run zone =
        ap padded (less ∙ ap (λ k. k - 16) is) ∙ padded-most (largest_run zone) even (omega arith) in omega arith

    renamed : (o : Option Spot) → is_some (option_map (rename_spot f g) o) ≡ is_some o
    renamed None = refl
    renamed (Some s) = refl

-- and one of a byte more has none
pub no_more-placed : (f g : ℕ → ℕ) (zone : List Block) (n most : ℕ) → most ≡ largest_run zone → n ≡ most - 16
    → IfSome (phys (n + 1)) (λ p. place p (rename f g zone) ≡ None)
no_more-placed f g zone n most is less =
    phys-holds (n + 1) (λ p. place p (rename f g zone) ≡ None)
    (place-rename f g (padded (n + 1)) zone
    ∙ ap (option_map (rename_spot f g)) (place-none (padded (n + 1)) zone (let more = padded-more most in
    let e : padded (n + 1) ≡ padded (most - 16 + 1) = ap (λ k. padded (k + 1)) less in omega arith)))
