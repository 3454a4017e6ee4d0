use Rattle.heap_calls.proofs.Cited.{◌≡◌, ℕ, ◌+◌, ◌-◌, ◌≤◌, zero, suc, Bool, true, false, ◌==◌, List, [], ◌∷◌, ◌++◌, refl, sym, ◌∙◌, ap}
use Rattle.heap_calls.proofs.Cited.{cond, map, arith, Option, Some, None, subst, nat_le, append_assoc, none-some, same_Some, le-leb}
use Rattle.heap_calls.proofs.Cited.{cond-true, cond-false, nat_tests, option_map, Block, Free, Nonrelocatable, Masters, Relocatable, size}
use Rattle.heap_calls.proofs.Cited.{sizes, tidy, rename, in_run, Stretch, RunSpot, run_raised, runs, segments, settle, Spot, raised}
use Rattle.heap_calls.proofs.Cited.{spot_at, seen, Seen, beyond, settled_runs, settled, nth_run, FindsRun, Loose, AreParts, in-parts}
use Rattle.heap_calls.proofs.Cited.{seen_in_run, stretches, settled_spot, nth-settled}
use mir.Val.{bool_byte}
use Rattle.std.proofs.lemmas.List.{append-nil}
use Rattle.block_store.specs.Compact.{has_block}
use Rattle.heap_calls.proofs.Room.Packing.{Solid, solid-tidy}

-- How many of the runs have a block.

-- 1 for a run that has a block
abbrev one : List Block → ℕ
one run = cond {A = ℕ} (has_block run) 1 0

-- nothing, or a block that ends the run below it
abbrev Ends : List Block → Type 0
Ends [] = Unit {0}
Ends (b ∷ above) = in_run b ≡ false

-- what is looked at a place
abbrev looked : ℕ → List Block → Option Seen
looked place zone = option_map (λ (s : Spot). seen s.here) (spot_at place zone)

looked-raised : (b : Block) (o : Option Spot) → option_map (λ (s : Spot). seen s.here) (option_map (raised b) o)
    ≡ option_map (λ (s : Spot). seen s.here) o
looked-raised b None = refl
looked-raised b (Some s) = refl

-- above other blocks stands what is lowest of the blocks above them
looked-above : (below above : List Block) → Solid below → looked (sizes below) (below ++ above) ≡ looked 0 above
looked-above [] above s = refl
looked-above (x ∷ below) above s =
    let e : sizes (x ∷ below) ≡ size x + sizes below = refl in
    let some : (sizes (x ∷ below) == 0) ≡ false = grind (arith, nat_tests, e, s.0) in
    let more : nat_le (size x) (sizes (x ∷ below)) ≡ true = le-leb _ _ (omega (arith, e)) in
    let left : sizes (x ∷ below) - size x ≡ sizes below = omega (arith, e) in
    ap (option_map (λ (s : Spot). seen s.here)) (cond-false (sizes (x ∷ below) == 0) _ _ some
    ∙ cond-true (nat_le (size x) (sizes (x ∷ below))) _ _ more)
    ∙ looked-raised x (spot_at (sizes (x ∷ below) - size x) (below ++ above))
    ∙ ap (λ n. looked n (below ++ above)) left ∙ looked-above below above s.1

solid-below : (below above : List Block) → Solid (below ++ above) → Solid below
solid-below [] above s = tt
solid-below (b ∷ below) above s = (s.0, solid-below below above s.1)

seen_in_run-is : (b : Block) → seen_in_run (Some (seen b)) ≡ in_run b
seen_in_run-is (Free n) = refl
seen_in_run-is (Nonrelocatable id content) = refl
seen_in_run-is Masters = refl
seen_in_run-is (Relocatable id flags content) = refl

-- a run has a block where one of a run is lowest
starts : (run above : List Block) → Loose run → Ends above → seen_in_run (looked 0 (run ++ above)) ≡ has_block run
starts [] [] within ends = refl
starts [] (b ∷ above) within ends = seen_in_run-is b ∙ ends
starts (b ∷ run) above within ends = seen_in_run-is b ∙ within.0

-- the run that is next, in the zone where those below it are settled
record Next (k : ℕ) (run : List Block) (parts : List Stretch) (r : RunSpot) : Type 0 where
  is : settled_runs k run parts ≡ r.below ++ (r.run ++ r.above)
  within : Loose r.run
  ends : Ends r.above
  count : stretches (suc k) (run ∷ map (λ (p : Stretch). p.run) parts)
      ≡ stretches k (run ∷ map (λ (p : Stretch). p.run) parts) + one r.run

next-run : (k : ℕ) (run : List Block) (parts : List Stretch) (r : RunSpot) → Loose run → AreParts parts
    → settled_spot k run parts ≡ Some r → Next k run parts r
next-run zero run parts r within are e = let P : RunSpot → Type 0 = λ r. Next zero run parts r in
    subst P (same_Some _ _ e) (record {
      is = lowest parts;
      within = within;
      ends = ending parts are;
      count = omega
          arith;
    })
  where
    lowest : (parts : List Stretch) → settled_runs 0 run parts ≡ run ++ beyond parts
    lowest [] = sym (append-nil run)
    lowest (p ∷ parts) = refl

    ending : (parts : List Stretch) → AreParts parts → Ends (beyond parts)
    ending [] are = tt
    ending (p ∷ parts) are = are.0
next-run (suc k) run [] r within are e = absurd (none-some _ e)
next-run (suc k) run (p ∷ parts) r within are e = cases (settled_spot k p.run parts)
    (λ r e. next-run k p.run parts r are.1 are.2 e) e
  where
    below : List Block
    below = settle run ++ p.barrier ∷ []

    cases : (o : Option RunSpot) → ((r : RunSpot) → o ≡ Some r → Next k p.run parts r)
        → option_map (run_raised below) o ≡ Some r → Next (suc k) run (p ∷ parts) r
    cases None rest e = absurd (none-some _ e)
    cases (Some r') rest e =
        let P : RunSpot → Type 0 = λ r. Next (suc k) run (p ∷ parts) r in
        let n = rest r' refl in
        let c = n.count in
        subst P (same_Some _ _ e)
        (record {
          is = ap (λ l. settle run ++ p.barrier ∷ l) n.is ∙ sym (append_assoc (settle run) (p.barrier ∷ [])
              (r'.below ++ (r'.run ++ r'.above))) ∙ sym (append_assoc below r'.below (r'.run ++ r'.above));
          within = n.within;
          ends = n.ends;
          count = omega arith;
        })

bool_byte-is : (t : Bool) → bool_byte t ≡ cond {A = ℕ} t 1 0
bool_byte-is true = refl
bool_byte-is false = refl

-- one more run is counted where a block of it begins at its place
pub stretches-next : (k place : ℕ) (start zone : List Block) (o : Option Seen) (t : Bool) (m n : ℕ) → tidy zone ≡ zone
    → zone ≡ settled k start → FindsRun k zone (Some place) → o
    ≡ option_map (λ (s : Spot). seen s.here) (spot_at place zone)
    → t ≡ seen_in_run o → m ≡ bool_byte t → n ≡ stretches k (runs start) → n + m ≡ stretches (k + 1) (runs start)
stretches-next k place start zone o t m n tidied is found there begins as_number before =
    let r : RunSpot = found.0 in
    let here : settled_spot k (segments start).first (segments start).rest ≡ Some r = sym (nth-settled k start)
    ∙ ap (nth_run k) (sym is) ∙ found.1 in
    let next : Next k (segments start).first (segments start).rest r =
    next-run k (segments start).first (segments start).rest r (in-parts start).0 (in-parts start).1 here in
    let whole : zone ≡ r.below ++ (r.run ++ r.above) = is ∙ next.is in
    let solid : Solid r.below = solid-below r.below (r.run ++ r.above)
    (subst Solid (tidied ∙ whole) (solid-tidy zone)) in
    let at : looked place zone ≡ looked 0 (r.run ++ r.above) = ap (λ (n : ℕ). looked n zone) (sym found.3)
    ∙ ap (looked (sizes r.below)) whole ∙ looked-above r.below (r.run ++ r.above) solid in
    let counts : t ≡ has_block r.run = begins ∙ ap seen_in_run (there ∙ at)
    ∙ starts r.run r.above next.within next.ends in
    let same : m ≡ one r.run = as_number ∙ bool_byte-is t ∙ ap {B = ℕ} (λ (t : Bool). cond {A = ℕ} t 1 0) counts in
    let count = next.count in
    let more : suc k ≡ k + 1 = omega arith in
    let end : stretches (suc k) (runs start) ≡ stretches (k + 1) (runs start) =
    ap (λ (m : ℕ). stretches m (runs start)) more in
    let sum : n + m ≡ stretches (suc k) (runs start) = omega arith in
    sum ∙ end

-- what the search ends with
pub stretches-end : (n m k : ℕ) (rs : List (List Block)) → n ≡ stretches k rs → k ≡ m → n ≡ stretches m rs
stretches-end n m k rs is same = is ∙ ap (λ (j : ℕ). stretches j rs) same

-- no more than the runs
pub stretches-le : (k : ℕ) (rs : List (List Block)) → stretches k rs ≤ k
stretches-le zero rs = omega arith
stretches-le (suc k) [] = omega arith
stretches-le (suc k) (run ∷ rs) = cases (has_block run) (stretches-le k rs)
  where
    cases : (t : Bool) → stretches k rs ≤ k → cond {A = ℕ} t 1 0 + stretches k rs ≤ suc k
    cases true r = omega arith
    cases false r = omega arith

-- names aren't seen
pub stretches-rename : (f g : ℕ → ℕ) (k : ℕ) (rs : List (List Block))
    → stretches k (map (rename f g) rs) ≡ stretches k rs
stretches-rename f g zero rs = refl
stretches-rename f g (suc k) [] = refl
stretches-rename f g (suc k) ([] ∷ rs) = ap (λ (n : ℕ). 0 + n) (stretches-rename f g k rs)
stretches-rename f g (suc k) ((b ∷ run) ∷ rs) = ap (λ (n : ℕ). 1 + n) (stretches-rename f g k rs)
