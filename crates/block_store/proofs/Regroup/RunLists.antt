use Rattle.block_store.proofs.Cited.{◌≡◌, ℕ, ◌+◌, ◌-◌, ◌≤◌, ◌<◌, Bool, true, false, not, ◌==◌, List, [], ◌∷◌, ◌++◌, refl, sym, ◌∙◌, ap}
use Rattle.block_store.proofs.Cited.{cond, subst, arith, Option, Some, None, nat_le, append_assoc, append-nil, cond-true, cond-false}
use Rattle.block_store.proofs.Cited.{nat_tests, none-some, same_Some, option_map, Block, size, sizes, in_run, Stretch, Segments, segments}
use Rattle.block_store.proofs.Cited.{joined, RunSpot, run_raised, run_from, run_at, lowest_run, run_spot, Loose}
use Rattle.block_store.proofs.Zone.Zones.{joined-segments}

-- the runs of the parts are made of what runs may have
abbrev pub AreLoose : List Stretch → Type 0
AreLoose [] = Unit {0}
AreLoose (p ∷ parts) = Loose p.run × AreLoose parts

-- a zone is cut into runs
pub segments-loose : (zone : List Block) → Loose (segments zone).first × AreLoose (segments zone).rest
segments-loose [] = (tt, tt)
segments-loose (b ∷ above) = cases (in_run b) refl (segments above) (segments-loose above)
  where
    cases : (t : Bool) → in_run b ≡ t → (s : Segments) → Loose s.first × AreLoose s.rest
        → (let put : Segments = cond t (record { first = b ∷ s.first; rest = s.rest })
        (record { first = []; rest = record { barrier = b; run = s.first } ∷ s.rest }) in
        Loose put.first × AreLoose put.rest)
    cases true e s l = ((e, l.0), l.1)
    cases false e s l = (tt, (l.0, l.1))

-- what is known of a run that is there
pub record KnownRun (zone : List Block) (r : RunSpot) : Type 0 where
  pub whole : r.below ++ r.run ++ r.above ≡ zone
  pub loose : Loose r.run

parts-raised : (below zone : List Block) (o : Option RunSpot) (r : RunSpot)
    → ((q : RunSpot) → o ≡ Some q → KnownRun zone q) → option_map (run_raised below) o ≡ Some r
    → KnownRun (below ++ zone) r
parts-raised below zone None r known e = absurd (none-some _ e)
parts-raised below zone (Some q) r known e =
    let k = known q refl in
    let P : RunSpot → Type 0 = λ s. KnownRun (below ++ zone) s in
    subst P (same_Some _ _ e) (record {
      whole = ap (λ l. l ++ q.above) (append_assoc below q.below q.run) ∙ append_assoc below (q.below ++ q.run) q.above
          ∙ ap (λ l. below ++ l) k.whole;
      loose = k.loose;
    })

-- the only run, if it is taken
only-parts : (t : Bool) (run : List Block) (r : RunSpot) → Loose run
    → cond t (Some (record { below = []; run = run; above = [] })) None ≡ Some r → KnownRun run r
only-parts false run r loose e = absurd (none-some _ e)
only-parts true run r loose e =
    let P : RunSpot → Type 0 = λ s. KnownRun run s in
    subst P (same_Some _ _ e) (record { whole = append-nil run; loose = loose })

run_from-parts : (place : ℕ) (run : List Block) (parts : List Stretch) (r : RunSpot) → Loose run → AreLoose parts
    → run_from place run parts ≡ Some r → KnownRun (joined run parts) r
run_from-parts place run [] r loose are e = only-parts (place == 0) run r loose e
run_from-parts place run (p ∷ parts) r loose are e =
    cases (place == 0) (nat_le (sizes (run ++ p.barrier ∷ [])) place)
    (run_from (place - sizes (run ++ p.barrier ∷ [])) p.run parts)
    (λ q f. run_from-parts (place - sizes (run ++ p.barrier ∷ [])) p.run parts q are.0 are.1 f) e
  where
    cases : (t u : Bool) (o : Option RunSpot) → ((q : RunSpot) → o ≡ Some q → KnownRun (joined p.run parts) q)
        → cond t (Some (record { below = []; run = run; above = p.barrier ∷ joined p.run parts }))
        (cond u (option_map (run_raised (run ++ p.barrier ∷ [])) o) None) ≡ Some r
        → KnownRun (run ++ p.barrier ∷ joined p.run parts) r
    cases true u o known e =
        let P : RunSpot → Type 0 = λ s. KnownRun (run ++ p.barrier ∷ joined p.run parts) s in
        subst P (same_Some _ _ e) (record { whole = refl; loose = loose })
    cases false false o known e = absurd (none-some _ e)
    cases false true o known e =
        let P : List Block → Type 0 = λ l. KnownRun l r in
        subst P (append_assoc run (p.barrier ∷ []) (joined p.run parts))
        (parts-raised (run ++ p.barrier ∷ []) (joined p.run parts) o r known e)

-- a run at a place is a part of the zone
pub run_at-parts : (place : ℕ) (zone : List Block) (r : RunSpot) → run_at place zone ≡ Some r → KnownRun zone r
run_at-parts place zone r e =
    let loose = segments-loose zone in
    let P : List Block → Type 0 = λ l. KnownRun l r in
    subst P (joined-segments zone) (run_from-parts place (segments zone).first (segments zone).rest r loose.0 loose.1 e)

pub run_at-is : (place : ℕ) (zone : List Block) (r : RunSpot) → run_at place zone ≡ Some r
    → r.below ++ (r.run ++ r.above) ≡ zone
run_at-is place zone r e = sym (append_assoc r.below r.run r.above) ∙ (run_at-parts place zone r e).whole

-- and so is the lowest run that passes
lowest-parts : (passes : List Block → Bool) (run : List Block) (parts : List Stretch) (r : RunSpot) → Loose run
    → AreLoose parts → lowest_run passes run parts ≡ Some r → KnownRun (joined run parts) r
lowest-parts passes run [] r loose are e = only-parts (passes run) run r loose e
lowest-parts passes run (p ∷ parts) r loose are e = cases (passes run) (lowest_run passes p.run parts)
    (λ q f. lowest-parts passes p.run parts q are.0 are.1 f) e
  where
    cases : (t : Bool) (o : Option RunSpot) → ((q : RunSpot) → o ≡ Some q → KnownRun (joined p.run parts) q)
        → cond t (Some (record { below = []; run = run; above = p.barrier ∷ joined p.run parts }))
        (option_map (run_raised (run ++ p.barrier ∷ [])) o) ≡ Some r
        → KnownRun (run ++ p.barrier ∷ joined p.run parts) r
    cases true o known e =
        let P : RunSpot → Type 0 = λ s. KnownRun (run ++ p.barrier ∷ joined p.run parts) s in
        subst P (same_Some _ _ e) (record { whole = refl; loose = loose })
    cases false o known e =
        let P : List Block → Type 0 = λ l. KnownRun l r in
        subst P (append_assoc run (p.barrier ∷ []) (joined p.run parts))
        (parts-raised (run ++ p.barrier ∷ []) (joined p.run parts) o r known e)

pub run_spot-parts : (passes : List Block → Bool) (zone : List Block) (r : RunSpot) → run_spot passes zone ≡ Some r
    → KnownRun zone r
run_spot-parts passes zone r e =
    let loose = segments-loose zone in
    let P : List Block → Type 0 = λ l. KnownRun l r in
    subst P (joined-segments zone) (lowest-parts passes (segments zone).first (segments zone).rest r loose.0 loose.1 e)

-- the run whose bottom is at this distance from the bottom of a run, and isn't that one
abbrev pub later : ℕ → List Block → List Stretch → Option RunSpot
later place run [] = None
later place run (p ∷ parts) = cond (nat_le (sizes (run ++ p.barrier ∷ [])) place)
    (option_map (run_raised (run ++ p.barrier ∷ [])) (run_from (place - sizes (run ++ p.barrier ∷ [])) p.run parts))
    None

-- the run at this distance from blocks, which begin at the bottom of a run or in one
abbrev pub walked : Bool → ℕ → List Block → Option RunSpot
walked true place zone = run_at place zone
walked false place zone = later place (segments zone).first (segments zone).rest

pub run_from-later : (place : ℕ) (run : List Block) (parts : List Stretch) → (place ≡ 0 → ⊥)
    → run_from place run parts ≡ later place run parts
run_from-later place run [] some = cond-false (place == 0) _ _ (grind (arith, nat_tests))
run_from-later place run (p ∷ parts) some = cond-false (place == 0) _ _ (grind (arith, nat_tests))

-- away from its bottom, how the walk came doesn't matter
pub walked-later : (bottom : Bool) (place : ℕ) (zone : List Block) → (bottom ≡ true → place ≡ 0 → ⊥)
    → walked bottom place zone ≡ walked false place zone
walked-later true place zone some = run_from-later place (segments zone).first (segments zone).rest (some refl)
walked-later false place zone some = refl

-- the walk goes on
later-step : (place : ℕ) (b : Block) (s : Segments) (t : Bool) → size b ≤ place
    → (let put : Segments = cond t (record { first = b ∷ s.first; rest = s.rest })
    (record { first = []; rest = record { barrier = b; run = s.first } ∷ s.rest }) in
    later place put.first put.rest)
    ≡ option_map (run_raised (b ∷ [])) (cond t (later (place - size b) s.first s.rest)
    (run_from (place - size b) s.first s.rest))
later-step place b s false fits =
    cond-true (nat_le (size b + 0) place) _ _ (grind (arith, nat_tests))
    ∙ ap (λ n. option_map (run_raised (b ∷ [])) (run_from n s.first s.rest))
    (let z : place - (size b + 0) ≡ place - size b = omega arith in z)
later-step place b s true fits = cases s.rest
  where
    raise : (below : List Block) (o : Option RunSpot) → option_map (run_raised (b ∷ below)) o
        ≡ option_map (run_raised (b ∷ [])) (option_map (run_raised below) o)
    raise below None = refl
    raise below (Some r) = refl

    choose : (t : Bool) (below : List Block) (o : Option RunSpot)
        → cond t (option_map (run_raised (b ∷ below)) o) None ≡ option_map (run_raised (b ∷ []))
        (cond t (option_map (run_raised below) o) None)
    choose true below o = raise below o
    choose false below o = refl

    less : (n m k : ℕ) → n ≤ k → nat_le (n + m) k ≡ nat_le m (k - n)
    less n m k le = grind (arith, nat_tests)

    cases : (parts : List Stretch) → later place (b ∷ s.first) parts
        ≡ option_map (run_raised (b ∷ [])) (later (place - size b) s.first parts)
    cases [] = refl
    cases (p ∷ parts) =
        let n = sizes (s.first ++ p.barrier ∷ []) in
        ap (λ t. cond t (option_map (run_raised (b ∷ s.first ++ p.barrier ∷ []))
        (run_from (place - (size b + n)) p.run parts)) None) (less (size b) n place fits)
        ∙ ap (λ k. cond (nat_le n (place - size b)) (option_map (run_raised (b ∷ s.first ++ p.barrier ∷ []))
        (run_from k p.run parts)) None) (let z : place - (size b + n) ≡ place - size b - n = omega arith in z)
        ∙ choose (nat_le n (place - size b)) (s.first ++ p.barrier ∷ []) (run_from (place - size b - n) p.run parts)

pub walked-step : (place : ℕ) (b : Block) (above : List Block) → size b ≤ place
    → walked false place (b ∷ above) ≡ option_map (run_raised (b ∷ [])) (walked (not (in_run b)) (place - size b) above)
walked-step place b above fits = later-step place b (segments above) (in_run b) fits ∙ cases (in_run b)
  where
    cases : (t : Bool) → option_map (run_raised (b ∷ [])) (cond t
        (later (place - size b) (segments above).first (segments above).rest)
        (run_from (place - size b) (segments above).first (segments above).rest))
        ≡ option_map (run_raised (b ∷ [])) (walked (not t) (place - size b) above)
    cases true = refl
    cases false = refl

-- the place is within a block
pub walked-past : (place : ℕ) (b : Block) (above : List Block) → place < size b → walked false place (b ∷ above) ≡ None
walked-past place b above past = cases (in_run b) (segments above)
  where
    cases : (t : Bool) (s : Segments) → (let put : Segments = cond t (record { first = b ∷ s.first; rest = s.rest })
        (record { first = []; rest = record { barrier = b; run = s.first } ∷ s.rest }) in
        later place put.first put.rest) ≡ None
    cases false s = cond-false (nat_le (size b + 0) place) _ _ (grind (arith, nat_tests))
    cases true s = elim s.rest as (λ parts. later place (b ∷ s.first) parts ≡ None) [
      | [] ↦ refl
      | p ∷ parts ↦ cond-false (nat_le (size b + sizes (s.first ++ p.barrier ∷ [])) place) _ _
          (grind (arith, nat_tests))
    ]

-- a run seen with a block more below, and others below that
pub raised-twice : (below : List Block) (b : Block) (o : Option RunSpot)
    → option_map (run_raised below) (option_map (run_raised (b ∷ [])) o) ≡ option_map (run_raised (below ++ b ∷ [])) o
raised-twice below b None = refl
raised-twice below b (Some r) = ap (λ l. Some (record { below = l; run = r.run; above = r.above }))
    (sym (append_assoc below (b ∷ []) r.below))
