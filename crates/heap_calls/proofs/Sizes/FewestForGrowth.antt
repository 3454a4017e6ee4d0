use Rattle.heap_calls.proofs.Cited.{◌≡◌, ℕ, ◌-◌, ◌<◌, inr, Bool, true, false, ◌&&◌, ◌||◌, List, ◌∷◌, ◌++◌, refl, sym, ◌∙◌, ap, subst, arith}
use Rattle.heap_calls.proofs.Cited.{Option, Some, None, is_some, option_or, is_some-map, Block, Free, Nonrelocatable, Masters, Relocatable}
use Rattle.heap_calls.proofs.Cited.{size, is_mover, is_relocatable, has, has_free, in_run, run_spot, Spot, spot, place, growth, taken}
use Rattle.heap_calls.proofs.Cited.{grow_up, move_away, grow_last, grow_mover, least_or_last, serves, serves_block, smaller, IsFewest}
use Rattle.heap_calls.proofs.Cited.{purged, most_purges, Sparing, fewest-either, fewest-last, least_or_last-at, placed-is, above-run}
use Rattle.heap_calls.proofs.Cited.{Spares, OpensNone, grown}
use Rattle.std.proofs.Common.{IsSomeAnd, IsTrue, MatchOption}
use Rattle.block_store.proofs.Purged.Rising.{purged-all}
use Rattle.heap_calls.proofs.Sizes.Growth.{block-stays}

-- The least number of purges after which an unlocked block grows.

-- one of three ways, of which the first implies the third
three-ways : {A : Type 0} (a b c : Option A) (u v : Bool) → (is_some a ≡ true → v ≡ true) → is_some b ≡ u
    → is_some c ≡ v → is_some (option_or a (option_or b c)) ≡ (u || v)
three-ways (Some x) b c true v implies bu cv = refl
three-ways (Some x) b c false v implies bu cv = sym (implies refl)
three-ways None (Some y) c u v implies bu cv = ap (λ t. t || v) bu
three-ways None None c u v implies bu cv = cv ∙ ap (λ t. t || v) bu

-- an unlocked block grows where it has a place of its own, or where its run has the bytes that it grows by
module _ (slot n p d : ℕ) (sparing : Sparing) (zone : List Block)
    (takes : size (grown n (spot (is_relocatable slot) zone)) ≡ p) (positive : 0 < p)
    (spares : Spares sparing (is_relocatable slot)) (stays : OpensNone sparing)
    (mover : IsSomeAnd (spot (is_relocatable slot) zone) (λ s. IsTrue (is_mover s.here)))
    (more : IsSomeAnd (spot (is_relocatable slot) zone)
    (λ s. growth (grown n (spot (is_relocatable slot) zone)) s ≡ d))
  where
    abbrev new : Block
    new = grown n (spot (is_relocatable slot) zone)

    abbrev grows : ℕ → Bool
    grows k = is_some (grow_mover (is_relocatable slot) (grown n (spot (is_relocatable slot) zone))
        (purged k sparing zone))

    loose : (b : Block) → is_mover b ≡ true → in_run b ≡ true
    loose (Free n) e = refl
    loose (Nonrelocatable id content) e = e
    loose Masters e = e
    loose (Relocatable id flags content) e = e

    at-zone : (after : List Block) → (o : Option Spot) → spot (is_relocatable slot) after ≡ o
        → IsSomeAnd o (λ s. IsTrue (is_mover s.here)) → IsSomeAnd o (λ s. size new - size s.here ≡ d)
        → is_some (grow_mover (is_relocatable slot) new after) ≡ (is_some (run_spot (has_free p) after)
        || is_some (run_spot (λ run. has (is_relocatable slot) run && has_free d run) after))
    at-zone after None at moves grown_by = absurd moves
    at-zone after (Some s) at moves grown_by =
        let by : growth new s ≡ d = grown_by in
        rw at (three-ways (grow_up new s) (move_away (is_relocatable slot) new after)
        (grow_last (is_relocatable slot) new (growth new s) after) _ _
        (λ up. above-run (is_relocatable slot) d after s at (loose s.here moves)
        (ap (λ m. is_some (taken m s.above)) (sym by)
        ∙ sym (is_some-map (λ l. s.below ++ new ∷ l) (taken (growth new s) s.above)) ∙ up))
        (is_some-map _ (place (size new) after) ∙ ap (λ m. is_some (place m after)) takes ∙ placed-is p after positive)
        (is_some-map _ (run_spot (λ run. has (is_relocatable slot) run && has_free (growth new s) run) after)
        ∙ ap (λ m. is_some (run_spot (λ run. has (is_relocatable slot) run && has_free m run) after)) by))

    grows-is : (k : ℕ) → grows k ≡ (serves p sparing zone k || serves_block slot d sparing zone k)
    grows-is k = at-zone (purged k sparing zone) (spot (is_relocatable slot) (purged k sparing zone)) refl
        (block-stays (is_relocatable slot) (λ b. IsTrue (is_mover b)) sparing (λ m. refl) spares stays k zone mover)
        (block-stays (is_relocatable slot) (λ b. size new - size b ≡ d) sparing (λ m. refl) spares stays k zone more)

    module _ (one other : Option ℕ)
        (for_place : MatchOption one ((k : ℕ) → serves p sparing zone k ≡ false) (IsFewest (serves p sparing zone)))
        (in_its_run : MatchOption other ((k : ℕ) → serves_block slot d sparing zone k ≡ false)
        (IsFewest (serves_block slot d sparing zone)))
      where
        fewest : MatchOption (smaller one other) ((k : ℕ) → grows k ≡ false) (IsFewest grows)
        fewest = fewest-either (serves p sparing zone) (serves_block slot d sparing zone) grows grows-is one other
            for_place in_its_run

        -- the least number that serves
        pub growth-fewest : (k : ℕ) → smaller one other ≡ Some k
            → IsFewest (λ k. is_some (grow_mover (is_relocatable slot) (grown n (spot (is_relocatable slot) zone))
            (purged k sparing zone))) k
        growth-fewest k is =
            let P : Option ℕ → Type 0 = λ o. MatchOption o ((k : ℕ) → grows k ≡ false) (IsFewest grows) in
            subst P is fewest

        pub growth-least : (k : ℕ) → smaller one other ≡ Some k
            → k ≡ least_or_last (λ k. is_some (grow_mover (is_relocatable slot)
            (grown n (spot (is_relocatable slot) zone)) (purged k sparing zone))) (most_purges sparing zone)
        growth-least k is = fewest-last grows (most_purges sparing zone) k
            (λ j le. ap (λ z. is_some (grow_mover (is_relocatable slot) new z)) (purged-all sparing zone j le))
            (growth-fewest k is)

        -- or none does
        pub growth-fails : smaller one other ≡ None → (k : ℕ)
            → is_some (grow_mover (is_relocatable slot) (grown n (spot (is_relocatable slot) zone))
            (purged k sparing zone)) ≡ false
        growth-fails is =
            let P : Option ℕ → Type 0 = λ o. MatchOption o ((k : ℕ) → grows k ≡ false) (IsFewest grows) in
            subst P is fewest

        pub growth-never : smaller one other ≡ None
            → most_purges sparing zone ≡ least_or_last (λ k. is_some (grow_mover (is_relocatable slot)
            (grown n (spot (is_relocatable slot) zone)) (purged k sparing zone))) (most_purges sparing zone)
        growth-never is = sym (least_or_last-at grows (most_purges sparing zone) (most_purges sparing zone) (omega arith)
            (λ j less. growth-fails is j) (inr refl))
