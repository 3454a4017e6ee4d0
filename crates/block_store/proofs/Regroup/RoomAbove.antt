use Rattle.block_store.proofs.Cited.{◌≡◌, ℕ, ◌+◌, ◌-◌, nat_le, Bool, true, false, ◌&&◌, ◌||◌, List, [], ◌∷◌, ◌++◌, refl, sym, ◌∙◌, ap, cond}
use Rattle.block_store.proofs.Cited.{arith, Option, Some, None, is_some, true≢false, and_parts, and_from, le-leb, leb-true, none-some}
use Rattle.block_store.proofs.Cited.{same_Some, option_map, is_some-map, Block, Free, Nonrelocatable, Masters, Relocatable, free_of}
use Rattle.block_store.proofs.Cited.{free_sum, free, has, has_free, in_run, segments, joined, Stretch, RunSpot, run_raised, lowest_run}
use Rattle.block_store.proofs.Cited.{run_spot, Spot, raised, spot, taken}

-- Room above a block is room in its run.

-- a lowest run is found where the first run passes, where one above it does, and where one did before
lowest-first : (passes : List Block → Bool) (run : List Block) (parts : List Stretch) → passes run ≡ true
    → is_some (lowest_run passes run parts) ≡ true
lowest-first passes run [] is = rw is refl
lowest-first passes run (p ∷ parts) is = rw is refl

lowest-above : (passes : List Block → Bool) (run : List Block) (p : Stretch) (parts : List Stretch)
    → is_some (lowest_run passes p.run parts) ≡ true → is_some (lowest_run passes run (p ∷ parts)) ≡ true
lowest-above passes run p parts is = cases (passes run)
  where
    cases : (t : Bool) → is_some {T = RunSpot} (cond t
        (Some (record { below = []; run = run; above = p.barrier ∷ joined p.run parts }))
        (option_map (run_raised (run ++ p.barrier ∷ [])) (lowest_run passes p.run parts))) ≡ true
    cases true = refl
    cases false = is_some-map (run_raised (run ++ p.barrier ∷ [])) (lowest_run passes p.run parts) ∙ is

lowest-more : (passes : List Block → Bool) (run more : List Block) (parts : List Stretch)
    → (passes run ≡ true → passes more ≡ true) → is_some (lowest_run passes run parts) ≡ true
    → is_some (lowest_run passes more parts) ≡ true
lowest-more passes run more [] rises is = cases (passes run) refl is
  where
    cases : (t : Bool) → passes run ≡ t
        → is_some {T = RunSpot} (cond t (Some (record { below = []; run = run; above = [] })) None) ≡ true
        → is_some (lowest_run passes more []) ≡ true
    cases true e is = lowest-first passes more [] (rises e)
    cases false e is = absurd (true≢false (sym is))
lowest-more passes run more (p ∷ parts) rises is = cases (passes run) refl is
  where
    cases : (t : Bool) → passes run ≡ t → is_some {T = RunSpot} (cond t
        (Some (record { below = []; run = run; above = p.barrier ∷ joined p.run parts }))
        (option_map (run_raised (run ++ p.barrier ∷ [])) (lowest_run passes p.run parts))) ≡ true
        → is_some (lowest_run passes more (p ∷ parts)) ≡ true
    cases true e is = lowest-first passes more (p ∷ parts) (rises e)
    cases false e is = lowest-above passes more p parts
        (sym (is_some-map (run_raised (run ++ p.barrier ∷ [])) (lowest_run passes p.run parts)) ∙ is)

module _ (test : Block → Bool) (d : ℕ)
  where
    abbrev suits : List Block → Bool
    suits run = has test run && has_free d run

    -- a run that suits does with one block more
    suits-more : (b : Block) (run : List Block) → suits run ≡ true → suits (b ∷ run) ≡ true
    suits-more b run is =
        let parts = and_parts (has test run) (has_free d run) is in
        and_from (has test (b ∷ run)) (has_free d (b ∷ run)) (either (test b) (has test run) parts.0)
        (le-leb d (free_of b + free_sum run) (omega (arith, leb-true d (free_sum run) parts.1)))
      where
        either : (t u : Bool) → u ≡ true → (t || u) ≡ true
        either true u e = refl
        either false u e = e

    -- the Free block above a block is in its run
    next-free : (above : List Block) → is_some (taken d above) ≡ true → has_free d (segments above).first ≡ true
    next-free [] is = absurd (true≢false (sym is))
    next-free (Free n ∷ above) is = cases (nat_le d n) refl is
      where
        cases : (t : Bool) → nat_le d n ≡ t → is_some (cond t (Some (free (n - d) ++ above)) None) ≡ true
            → nat_le d (n + free_sum (segments above).first) ≡ true
        cases true e is = le-leb d (n + free_sum (segments above).first) (omega (arith, leb-true d n e))
        cases false e is = absurd (true≢false (sym is))
    next-free (Nonrelocatable id content ∷ above) is = absurd (true≢false (sym is))
    next-free (Masters ∷ above) is = absurd (true≢false (sym is))
    next-free (Relocatable id flags content ∷ above) is = absurd (true≢false (sym is))

    -- one block more at the bottom leaves a run that suits
    put-below : (b : Block) (above : List Block) → is_some (run_spot suits above) ≡ true
        → is_some (run_spot suits (b ∷ above)) ≡ true
    put-below b above is = cases (in_run b) refl
      where
        cases : (t : Bool) → in_run b ≡ t → is_some (run_spot suits (b ∷ above)) ≡ true
        cases true e = rw e (lowest-more suits (segments above).first (b ∷ (segments above).first) (segments above).rest
            (suits-more b (segments above).first) is)
        cases false e = rw e (lowest-above suits []
            (record { barrier = b; run = (segments above).first }) (segments above).rest is)

    -- the run of a block has the bytes that are free above it
    pub above-run : (zone : List Block) (s : Spot) → spot test zone ≡ Some s → in_run s.here ≡ true
        → is_some (taken d s.above) ≡ true → is_some (run_spot suits zone) ≡ true
    above-run [] s at loose room = absurd (none-some _ at)
    above-run (b ∷ above) s at loose room = cases (test b) refl (spot test above) (above-run above) at
      where
        here : s ≡ record { below = []; here = b; above = above } → test b ≡ true
            → is_some (run_spot suits (b ∷ above)) ≡ true
        here same passes =
            let bottom : in_run b ≡ true = sym (ap (λ (s : Spot). in_run s.here) same) ∙ loose in
            let fits : has_free d (segments above).first ≡ true = next-free above
            (sym (ap (λ (s : Spot). is_some (taken d s.above)) same) ∙ room) in
            rw bottom (lowest-first suits (b ∷ (segments above).first) (segments above).rest
            (and_from (has test (b ∷ (segments above).first)) (has_free d (b ∷ (segments above).first))
            (ap (λ t. t || has test (segments above).first) passes)
            (le-leb d (free_of b + free_sum (segments above).first)
            (omega (arith, leb-true d (free_sum (segments above).first) fits)))))

        cases : (t : Bool) → test b ≡ t → (o : Option Spot)
            → ((s : Spot) → o ≡ Some s → in_run s.here ≡ true → is_some (taken d s.above) ≡ true
            → is_some (run_spot suits above) ≡ true)
            → cond t (Some (record { below = []; here = b; above = above })) (option_map (raised b) o) ≡ Some s
            → is_some (run_spot suits (b ∷ above)) ≡ true
        cases true e o rest at = here (sym (same_Some _ _ at)) e
        cases false e None rest at = absurd (none-some _ at)
        cases false e (Some t) rest at =
            let same : raised b t ≡ s = same_Some _ _ at in
            put-below b above (rest t refl (ap (λ (s : Spot). in_run s.here) same ∙ loose)
            (ap (λ (s : Spot). is_some (taken d s.above)) same ∙ room))
