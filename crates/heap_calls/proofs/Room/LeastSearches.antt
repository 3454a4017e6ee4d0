use Rattle.heap_calls.proofs.Cited.{◌≡◌, ℕ, ◌<◌, inr, zero, suc, nat_lt, Bool, true, false, cond, Option, Some, None, is_some, List, refl}
use Rattle.heap_calls.proofs.Cited.{sym, ◌∙◌, ap, arith, option_or, cond-true, nat_tests, Block, size, is_relocatable, count, tidy}
use Rattle.heap_calls.proofs.Cited.{has_free, run_spot, spot, least, may_be_purged, place, grow_mover, FindsLowest, least_or_last, serves}
use Rattle.heap_calls.proofs.Cited.{IsFewest, spared, opened, purged, most_purges, Sparing, fewest-last, least_or_last-at, FindsPlacement}
use Rattle.heap_calls.proofs.Cited.{FindsGrowth, OpensNone, grown, Placement, Growth, purges_for}
use Rattle.block_store.proofs.Purged.Rising.{purged-all}
use Rattle.heap_calls.proofs.Room.Searching.{count-tidy, count-none, count-some, placement-some}
use Rattle.heap_calls.proofs.Sizes.Growth.{growth-some, opened-whole}

-- The least number of purges that serves.

-- the least answer is the one at the least number that has one
least-last : {A : Type 0} (answer : ℕ → Option A) (n : ℕ)
    → least answer n ≡ answer (least_or_last (λ k. is_some (answer k)) n)
least-last answer zero = refl
least-last {A = A} answer (suc n) = cases (answer 0) refl (least-last (λ k. answer (suc k)) n)
  where
    cases : (o : Option A) → answer 0 ≡ o
        → least (λ k. answer (suc k)) n ≡ answer (suc (least_or_last (λ k. is_some (answer (suc k))) n))
        → option_or o (least (λ k. answer (suc k)) n)
        ≡ answer (cond {A = ℕ} (is_some o) 0 (suc (least_or_last (λ k. is_some (answer (suc k))) n)))
    cases None e more = more
    cases (Some x) e more = sym e

-- what is found at the least number that serves is the least answer
pub least-of : {A : Type 0} (answer : ℕ → Option A) (n k : ℕ) → k ≡ least_or_last (λ j. is_some (answer j)) n
    → least answer n ≡ answer k
least-of answer n k e = least-last answer n ∙ ap answer (sym e)

-- where there is an answer at first, it is the least
pub first-is : (test : ℕ → Bool) (n : ℕ) → test 0 ≡ true → 0 ≡ least_or_last test n
first-is test zero is = refl
first-is test (suc n) is = sym (cond-true {A = ℕ} (test 0) 0 _ is)

-- a search that counts no block as Free sees a tidy zone as it stands
pub purged-first : (n : Sparing) (zone : List Block) → tidy zone ≡ zone → opened n zone ≡ zone → purged 0 n zone ≡ zone
purged-first n zone tidied same = ap tidy same ∙ tidied

-- the least number of purges after which a run has so many bytes
module _ (p : ℕ) (n : Sparing) (zone : List Block) where
  pub run-fewest : (k : ℕ) → IsFewest (serves p n zone) k → k ≡ least_or_last (serves p n zone) (most_purges n zone)
  run-fewest k fewest = fewest-last (serves p n zone) (most_purges n zone) k
      (λ j le. ap (λ z. is_some (run_spot (has_free p) z)) (purged-all n zone j le)) fewest

  pub run-never : ((k : ℕ) → serves p n zone k ≡ false)
      → most_purges n zone ≡ least_or_last (serves p n zone) (most_purges n zone)
  run-never none = sym (least_or_last-at (serves p n zone) (most_purges n zone) (most_purges n zone) (omega arith)
      (λ j less. none j) (inr refl))

-- what a search for the next block to go tells
pub next-goes : (n : Sparing) (zone : List Block) (r : Option ℕ)
    → FindsLowest (may_be_purged (spared n)) (tidy (opened n zone)) r → is_some r ≡ nat_lt 0 (most_purges n zone)
next-goes n zone None found =
    let none : most_purges n zone ≡ 0 = sym (count-tidy (spared n) (opened n zone))
    ∙ count-none (may_be_purged (spared n)) (tidy (opened n zone)) found in
    grind (arith, nat_tests, none)
next-goes n zone (Some at) found =
    let all : count (may_be_purged (spared n)) (tidy (opened n zone)) ≡ most_purges n zone =
    count-tidy (spared n) (opened n zone) in
    let some : 0 < most_purges n zone = omega (
      arith,
      all,
      count-some (may_be_purged (spared n)) (tidy (opened n zone)) found.0 found.1,
    ) in
    grind (arith, nat_tests, some)

-- what a search for a placement tells
pub placement-there : (p : ℕ) (zone : List Block) → 0 < p → (o : Option Placement) → FindsPlacement p zone o
    → is_some o ≡ is_some (place p zone)
placement-there p zone pos None found = ap is_some (sym found)
placement-there p zone pos (Some placement) found = sym (placement-some p zone pos (Some placement) found refl)

-- what a search for a way to grow tells
pub growth-there : (test : Block → Bool) (new : Block) (zone : List Block) → 0 < size new → (o : Option Growth)
    → FindsGrowth test new zone o → is_some o ≡ is_some (grow_mover test new zone)
growth-there test new zone pos None found = ap is_some (sym found)
growth-there test new zone pos (Some g) found = sym (growth-some test new zone pos (Some g) found refl)

-- a block that grows without a purge does so after the least number
module _ (slot n : ℕ) (sparing : Sparing) (zone : List Block) (stays : OpensNone sparing)
    (tidied : tidy zone ≡ zone)
  where
    pub growth-whole : purged 0 sparing zone ≡ zone
    growth-whole = purged-first sparing zone tidied (opened-whole sparing stays zone)

    pub growth-first : is_some (grow_mover (is_relocatable slot) (grown n (spot (is_relocatable slot) zone)) zone) ≡ true
        → 0 ≡ purges_for (λ z. is_some (grow_mover (is_relocatable slot) (grown n (spot (is_relocatable slot) zone)) z))
        (spared sparing) (opened sparing zone)
    growth-first there = first-is (λ k. is_some (grow_mover (is_relocatable slot)
        (grown n (spot (is_relocatable slot) zone)) (purged k sparing zone))) (most_purges sparing zone)
        (ap (λ z. is_some (grow_mover (is_relocatable slot) (grown n (spot (is_relocatable slot) zone)) z)) growth-whole
        ∙ there)
