use Rattle.block_store.proofs.Cited.{◌≡◌, ℕ, ◌+◌, ◌≤◌, ◌<◌, zero, suc, Bool, true, false, ◌||◌, ◌⊎◌, inl, inr, List, [], ◌∷◌, ◌++◌, length}
use Rattle.block_store.proofs.Cited.{refl, sym, ◌∙◌, ap, cond, map, arith, Option, Some, None, subst, is_some, ◌==◌, append-nil, none-some}
use Rattle.block_store.proofs.Cited.{same_Some, nat_tests, option_map, IfSome, Block, Free, Nonrelocatable, Masters, Relocatable, size}
use Rattle.block_store.proofs.Cited.{sizes, free_sum, free, tidy, in_run, Stretch, Segments, segments, runs, joined, RunSpot, run_raised}
use Rattle.block_store.proofs.Cited.{run_at, has, with_run, movers, settle, Spot, raised, spot, FindsLowest, Rest, IsRest, KeepsSlots}
use Rattle.block_store.proofs.Cited.{with_moves, counted, lowered_in_run, beyond, settled_runs, settled, lowered_in_runs, has_room}
use Rattle.block_store.proofs.Cited.{runs_settled, nth_run_of, nth_run, FindsRun, Loose}
use Rattle.std.proofs.lemmas.List.{append_assoc}
use Rattle.block_store.proofs.Zone.Apart.{Apart, tidy-apart, apart-tidied, barrier-alone, apart-above}
use Rattle.block_store.proofs.Zone.Totals.{total-append}
use Rattle.block_store.proofs.Zone.Zones.{joined-segments}
use Rattle.block_store.proofs.Regroup.Parts.{AreParts, in-parts, segments-part, segments-alone, segments-joined}
use Rattle.block_store.proofs.Regroup.Parts.{in-settle}
use Rattle.block_store.proofs.Plain.Trials.{least_or_last-at}
use Rattle.block_store.proofs.Regroup.Ends.{apart-movers}

-- Settling the runs of a zone one after another, lowest first.

-- the run of an index, with the runs below it settled
abbrev pub settled_spot : (k : ℕ) (run : List Block) (parts : List Stretch) → Option RunSpot
settled_spot zero run parts = Some (record { below = []; run = run; above = beyond parts })
settled_spot (suc k) run [] = None
settled_spot (suc k) run (p ∷ parts) = option_map (run_raised (settle run ++ p.barrier ∷ []))
    (settled_spot k p.run parts)

nth-runs : (k : ℕ) (run : List Block) (parts : List Stretch) → Loose run → AreParts parts
    → nth_run k (settled_runs k run parts) ≡ settled_spot k run parts
nth-runs zero run parts r a = ap (λ (s : Segments). nth_run_of 0 s.first s.rest) (segments-joined run parts r a)
nth-runs (suc k) run [] r a = ap (λ (s : Segments). nth_run_of (suc k) s.first s.rest)
    (segments-alone (settle run) (in-settle run))
nth-runs (suc k) run (p ∷ parts) r a =
    ap (λ (s : Segments). nth_run_of (suc k) s.first s.rest) (segments-part (settle run) p.barrier
    (settled_runs k p.run parts) (in-settle run) a.0)
    ∙ ap (option_map (run_raised (settle run ++ p.barrier ∷ []))) (nth-runs k p.run parts a.1 a.2)

-- once k runs are settled, the next one is that of the zone
pub nth-settled : (k : ℕ) (zone : List Block) → nth_run k (settled k zone)
    ≡ settled_spot k (segments zone).first (segments zone).rest
nth-settled k zone = nth-runs k (segments zone).first (segments zone).rest (in-parts zone).0 (in-parts zone).1

-- and settling it leaves one run more settled
with-settled : (k : ℕ) (run : List Block) (parts : List Stretch) (r : RunSpot) → settled_spot k run parts ≡ Some r
    → with_run settle r ≡ settled_runs (suc k) run parts
with-settled zero run [] r e = ap (with_run settle) (sym (same_Some _ _ e)) ∙ append-nil (settle run)
with-settled zero run (p ∷ parts) r e = ap (with_run settle) (sym (same_Some _ _ e))
with-settled (suc k) run [] r e = absurd (none-some _ e)
with-settled (suc k) run (p ∷ parts) r e = cases (settled_spot k p.run parts) (with-settled k p.run parts) e
  where
    cases : (o : Option RunSpot) → ((r : RunSpot) → o ≡ Some r → with_run settle r ≡ settled_runs (suc k) p.run parts)
        → option_map (run_raised (settle run ++ p.barrier ∷ [])) o ≡ Some r
        → with_run settle r ≡ settle run ++ p.barrier ∷ settled_runs (suc k) p.run parts
    cases None rest e = absurd (none-some _ e)
    cases (Some r') rest e =
        ap (with_run settle) (sym (same_Some _ _ e))
        ∙ ap (λ l. l ++ r'.above) (append_assoc (settle run ++ p.barrier ∷ []) r'.below (settle r'.run))
        ∙ append_assoc (settle run ++ p.barrier ∷ []) (r'.below ++ settle r'.run) r'.above
        ∙ append_assoc (settle run) (p.barrier ∷ []) (r'.below ++ settle r'.run ++ r'.above)
        ∙ ap (λ l. settle run ++ p.barrier ∷ l) (rest r' refl)

apart-free : (n : ℕ) (b : Block) (above : List Block) → in_run b ≡ false → Apart (b ∷ above)
    → Apart (free n ++ b ∷ above)
apart-free zero b above e a = a
apart-free (suc n) (Free m) above e a = let f : true ≡ false = e in cc
apart-free (suc n) (Nonrelocatable id content) above e a = (refl, a)
apart-free (suc n) Masters above e a = (refl, a)
apart-free (suc n) (Relocatable id flags content) above e a = (refl, a)

apart-last : (n : ℕ) → Apart (free n)
apart-last zero = tt
apart-last (suc n) = (refl, tt)

apart-settled : (k : ℕ) (run : List Block) (parts : List Stretch) → AreParts parts → Apart (joined run parts)
    → Apart (settled_runs k run parts)
apart-settled zero run parts are a = a
apart-settled (suc k) run [] are a = apart-movers run (free (free_sum run)) (apart-last (free_sum run))
apart-settled (suc k) run (p ∷ parts) are a =
    let above : Apart (p.barrier ∷ joined p.run parts) = apart-above run (p.barrier ∷ joined p.run parts) a in
    let rest : Apart (p.barrier ∷ settled_runs k p.run parts) =
    (barrier-alone p.barrier (settled_runs k p.run parts) are.0, apart-settled k p.run parts are.2 above.1) in
    subst Apart (sym (append_assoc (movers run) (free (free_sum run)) (p.barrier ∷ settled_runs k p.run parts)))
    (apart-movers run (free (free_sum run) ++ p.barrier ∷ settled_runs k p.run parts)
    (apart-free (free_sum run) p.barrier (settled_runs k p.run parts) are.0 rest))

-- a tidy zone is tidy with runs settled
pub settled-tidy : (k : ℕ) (zone : List Block) → tidy zone ≡ zone → tidy (settled k zone) ≡ settled k zone
settled-tidy k zone e =
    tidy-apart (settled k zone) (apart-settled k (segments zone).first (segments zone).rest (in-parts zone).1
    (subst Apart (sym (joined-segments zone)) (apart-tidied zone e)))

-- settling the run of index k, where those below it are settled
pub settled-next : (k place : ℕ) (start zone zone' : List Block) → tidy start ≡ start → zone ≡ settled k start
    → FindsRun k zone (Some place) → IfSome (run_at place zone) (λ r. zone' ≡ tidy (with_run settle r))
    → zone' ≡ settled (k + 1) start
settled-next k place start zone zone' tidied is found done =
    let P : Option RunSpot → Type 0 = λ o. IfSome o (λ r. zone' ≡ tidy (with_run settle r)) in
    let here : zone' ≡ tidy (with_run settle found.0) = subst P found.2 done in
    let next : settled_spot k (segments start).first (segments start).rest ≡ Some found.0 = sym (nth-settled k start)
    ∙ ap (nth_run k) (sym is) ∙ found.1 in
    here ∙ ap tidy (with-settled k (segments start).first (segments start).rest found.0 next)
    ∙ settled-tidy (suc k) start tidied ∙ ap (λ n. settled n start) (let e : suc k ≡ k + 1 = omega arith in e)

-- the blocks that move with the next run
lowered_in_runs-runs : (k : ℕ) (run : List Block) (parts : List Stretch) (r : RunSpot) → settled_spot k run parts
    ≡ Some r
    → lowered_in_runs (suc k) (run ∷ map (λ (p : Stretch). p.run) parts)
    ≡ lowered_in_runs k (run ∷ map (λ (p : Stretch). p.run) parts) + lowered_in_run r.run
lowered_in_runs-runs zero run parts r e = let same : lowered_in_run run ≡ lowered_in_run r.run =
    ap (λ (r : RunSpot). lowered_in_run r.run) (same_Some _ _ e) in omega arith
lowered_in_runs-runs (suc k) run [] r e = absurd (none-some _ e)
lowered_in_runs-runs (suc k) run (p ∷ parts) r e = cases (settled_spot k p.run parts)
    (lowered_in_runs-runs k p.run parts) e
  where
    cases : (o : Option RunSpot) → ((r : RunSpot) → o ≡ Some r
        → lowered_in_runs (suc k) (p.run ∷ map (λ (p : Stretch). p.run) parts)
        ≡ lowered_in_runs k (p.run ∷ map (λ (p : Stretch). p.run) parts) + lowered_in_run r.run)
        → option_map (run_raised (settle run ++ p.barrier ∷ [])) o ≡ Some r
        → lowered_in_run run + lowered_in_runs (suc k) (p.run ∷ map (λ (p : Stretch). p.run) parts)
        ≡ lowered_in_run run + lowered_in_runs k (p.run ∷ map (λ (p : Stretch). p.run) parts) + lowered_in_run r.run
    cases None rest e = absurd (none-some _ e)
    cases (Some r') rest e =
        let same : lowered_in_run r'.run ≡ lowered_in_run r.run = ap (λ (r : RunSpot). lowered_in_run r.run)
        (same_Some _ _ e) in
        let more = rest r' refl in
        omega arith

counted-more : (n a b : ℕ) → counted (counted n a) b ≡ counted n (a + b)
counted-more n a b = omega arith

pub moves-next : (k place : ℕ) (start zone : List Block) (first rest rest' : Rest) → zone ≡ settled k start
    → FindsRun k zone (Some place) → IfSome (run_at place zone) (λ r. IsRest (with_moves (lowered_in_run r.run) rest)
    rest')
    → rest.moves ≡ counted first.moves (lowered_in_runs k (runs start)) → rest'.moves
    ≡ counted first.moves (lowered_in_runs (k + 1) (runs start))
moves-next k place start zone first rest rest' is found done before =
    let P : Option RunSpot → Type 0 = λ o. IfSome o (λ r. IsRest (with_moves (lowered_in_run r.run) rest) rest') in
    let now : IsRest (with_moves (lowered_in_run found.0.run) rest) rest' = subst P found.2 done in
    let next : settled_spot k (segments start).first (segments start).rest ≡ Some found.0 = sym (nth-settled k start)
    ∙ ap (nth_run k) (sym is) ∙ found.1 in
    now.moves ∙ ap (λ n. counted n (lowered_in_run found.0.run)) before
    ∙ counted-more first.moves (lowered_in_runs k (runs start)) (lowered_in_run found.0.run)
    ∙ ap (counted first.moves) (sym (lowered_in_runs-runs k (segments start).first (segments start).rest found.0 next))
    ∙ ap (λ n. counted first.moves (lowered_in_runs n (runs start))) (let e : suc k ≡ k + 1 = omega arith in e)

pub keeps-next : (place : ℕ) (zone : List Block) (r : RunSpot) (first rest rest' : Rest) → run_at place zone ≡ Some r
    → IfSome (run_at place zone) (λ r. IsRest (with_moves (lowered_in_run r.run) rest) rest') → KeepsSlots first rest
    → KeepsSlots first rest'
keeps-next place zone r first rest rest' at done before =
    let P : Option RunSpot → Type 0 = λ o. IfSome o (λ r. IsRest (with_moves (lowered_in_run r.run) rest) rest') in
    let now : IsRest (with_moves (lowered_in_run r.run) rest) rest' = subst P at done in
    record {
      slots = λ n. now.slots n ∙ before.slots n;
      unused = now.unused ∙ before.unused;
      all = now.all
          ∙ before.all;
      moves = refl;
      placed = refl;
      window = now.window ∙ before.window;
    }

-- an index with a run, and one past all runs
run-within : (k : ℕ) (run : List Block) (parts : List Stretch) (r : RunSpot) → settled_spot k run parts ≡ Some r
    → k < length (run ∷ map (λ (p : Stretch). p.run) parts)
run-within zero run parts r e = omega arith
run-within (suc k) run [] r e = absurd (none-some _ e)
run-within (suc k) run (p ∷ parts) r e = cases (settled_spot k p.run parts) (run-within k p.run parts) e
  where
    cases : (o : Option RunSpot) → ((r : RunSpot) → o ≡ Some r
        → k < length (p.run ∷ map (λ (p : Stretch). p.run) parts))
        → option_map (run_raised (settle run ++ p.barrier ∷ [])) o ≡ Some r
        → suc k < suc (length (p.run ∷ map (λ (p : Stretch). p.run) parts))
    cases None rest e = absurd (none-some _ e)
    cases (Some r') rest e = let more = rest r' refl in omega arith

run-past : (k : ℕ) (run : List Block) (parts : List Stretch) → settled_spot k run parts ≡ None
    → length (run ∷ map (λ (p : Stretch). p.run) parts) ≤ k
run-past zero run parts e = absurd (none-some _ (sym e))
run-past (suc k) run [] e = omega arith
run-past (suc k) run (p ∷ parts) e = cases (settled_spot k p.run parts) (run-past k p.run parts) e
  where
    cases : (o : Option RunSpot) → (o ≡ None → length (p.run ∷ map (λ (p : Stretch). p.run) parts) ≤ k)
        → option_map (run_raised (settle run ++ p.barrier ∷ [])) o ≡ None
        → suc (length (p.run ∷ map (λ (p : Stretch). p.run) parts)) ≤ suc k
    cases None rest e = let more = rest refl in omega arith
    cases (Some r') rest e = absurd (none-some _ (sym e))

pub next-within : (k place : ℕ) (start zone : List Block) → zone ≡ settled k start → FindsRun k zone (Some place)
    → k < length (runs start)
next-within k place start zone is found = run-within k (segments start).first (segments start).rest found.0
    (sym (nth-settled k start) ∙ ap (nth_run k) (sym is) ∙ found.1)

pub next-past : (k : ℕ) (start zone : List Block) → zone ≡ settled k start → FindsRun k zone None
    → length (runs start) ≤ k
next-past k start zone is found = run-past k (segments start).first (segments start).rest
    (sym (nth-settled k start) ∙ ap (nth_run k) (sym is) ∙ found)

-- a zone has fewer barriers than bytes
pub runs-few : (zone : List Block) → length (runs zone) ≤ sizes zone + 1
runs-few zone = let e : sizes (joined (segments zone).first (segments zone).rest) ≡ sizes zone =
    ap sizes (joined-segments zone) in let few = parts-few (segments zone).first (segments zone).rest
    (in-parts zone).1 in omega arith
  where
    barrier-size : (b : Block) → in_run b ≡ false → 0 < size b
    barrier-size (Free n) e = let f : true ≡ false = e in cc
    barrier-size (Nonrelocatable id content) e = omega arith
    barrier-size Masters e = omega arith
    barrier-size (Relocatable id flags content) e = omega arith

    parts-few : (run : List Block) (parts : List Stretch) → AreParts parts
        → length (map (λ (p : Stretch). p.run) parts) ≤ sizes (joined run parts)
    parts-few run [] a = omega arith
    parts-few run (p ∷ parts) a = omega (
      arith,
      parts-few p.run parts a.2,
      barrier-size p.barrier a.0,
      total-append size
          run (p.barrier ∷ joined p.run parts),
    )

-- a block passes where the lowest that passes is found
pub has-spot : (test : Block → Bool) (bs : List Block) → has test bs ≡ is_some (spot test bs)
has-spot test [] = refl
has-spot test (b ∷ bs) = ap (λ t. test b || t) (has-spot test bs) ∙ cases (test b) (spot test bs)
  where
    cases : (t : Bool) (o : Option Spot) → (t || is_some o) ≡ is_some
        (cond t (Some (record { below = []; here = b; above = bs })) (option_map (raised b) o))
    cases true o = refl
    cases false None = refl
    cases false (Some s) = refl

pub room-found : (test : Block → Bool) (zone zone' : List Block) (r : Option ℕ) → zone' ≡ zone
    → FindsLowest test zone' r → is_some r ≡ has test zone
room-found test zone zone' r same found = let P : List Block → Type 0 = λ z. FindsLowest test z r in
    by_result r (subst P same found)
  where
    by_result : (r : Option ℕ) → FindsLowest test zone r → is_some r ≡ has test zone
    by_result None found = sym (has-spot test zone ∙ ap is_some found)
    by_result (Some place) found = sym (has-spot test zone ∙ ap is_some found.1)

-- the search ends where a block has room, or at the last run
pub settled-enough : (p : Option ℕ) (start zone : List Block) (k : ℕ) → zone ≡ settled k start → k ≤ length (runs start)
    → ((j : ℕ) → j < k → has_room p (settled j start) ≡ false)
    → (has_room p zone ≡ true) ⊎ (length (runs start) ≤ k) → runs_settled p start ≡ k
settled-enough p start zone k is within none end = least_or_last-at (λ k. has_room p (settled k start))
    (length (runs start)) k within none (cases end)
  where
    cases : (has_room p zone ≡ true) ⊎ (length (runs start) ≤ k)
        → (has_room p (settled k start) ≡ true) ⊎ (k ≡ length (runs start))
    cases (inl room) = inl (ap (has_room p) (sym is) ∙ room)
    cases (inr past) = inr (omega arith)

-- one more without room
pub none-next : (p : Option ℕ) (start zone : List Block) (k : ℕ) → zone ≡ settled k start → has_room p zone ≡ false
    → ((j : ℕ) → j < k → has_room p (settled j start) ≡ false) → (j : ℕ) → j < k + 1
    → has_room p (settled j start) ≡ false
none-next p start zone k is here before j less = cases (j == k) refl
  where
    cases : (t : Bool) → (j == k) ≡ t → has_room p (settled j start) ≡ false
    cases true e = let same : j ≡ k = grind (arith, nat_tests, e) in
        ap (λ n. has_room p (settled n start)) same ∙ ap (has_room p) (sym is) ∙ here
    cases false e = before j (grind (arith, nat_tests, e))

-- what holds of the runs that were settled, told by the number that the search ends with
pub zone-end : (k n : ℕ) (start zone : List Block) → zone ≡ settled k start → k ≡ n → zone ≡ settled n start
zone-end k n start zone is same = is ∙ ap (λ m. settled m start) same

pub moves-end : (k n first moves : ℕ) (rs : List (List Block)) → moves ≡ counted first (lowered_in_runs k rs) → k ≡ n
    → moves ≡ counted first (lowered_in_runs n rs)
moves-end k n first moves rs is same = is ∙ ap (λ m. counted first (lowered_in_runs m rs)) same
