use Rattle.block_store.proofs.Cited.{◌≡◌, ℕ, ◌+◌, ◌<◌, ◌≤◌, zero, suc, List, [], ◌∷◌, ◌++◌, refl, sym, ◌∙◌, ap, subst, arith, Option, Some}
use Rattle.block_store.proofs.Cited.{None, none-some, same_Some, option_map, IfSome, Block, size, sizes, IsEdge, Stretch, Segments, joined}
use Rattle.block_store.proofs.Cited.{RunSpot, run_raised, run_at, segments, settle, beyond, place_behind, next_run, settled_runs, settled}
use Rattle.block_store.proofs.Cited.{nth_run_of, nth_run, FindsRun, Loose}
use Rattle.block_store.proofs.Nonrelocatable.Placing.{sizes-settle}
use Rattle.block_store.proofs.Regroup.Parts.{AreParts, in-parts, in-settle, segments-alone, segments-joined}
use Rattle.block_store.proofs.Regroup.Parts.{segments-part}
use Rattle.block_store.proofs.Regroup.RunLists.{run_at-is}
use Rattle.block_store.proofs.Regroup.RunSpots.{Barred, barred-segments, run_at-nth, finds_nth}
use Rattle.block_store.proofs.Regroup.RunsAbove.{behind-more}
use Rattle.block_store.proofs.Regroup.Settling.{settled_spot, nth-settled}
use Rattle.block_store.proofs.Zone.Edges.{edge-between}
use Rattle.block_store.proofs.Zone.Zones.{joined-segments}
use Rattle.block_store.proofs.Zone.Totals.{total-append}

-- Runs taken one after another, lowest first.

-- the lowest run is at place 0
pub first-run : (zone : List Block) → FindsRun 0 zone (Some 0)
first-run zone =
    let r : RunSpot = record { below = []; run = (segments zone).first; above = beyond (segments zone).rest } in
    (r, refl, run_at-nth 0 zone r refl, refl)

-- where a run is
abbrev place_of : RunSpot → ℕ
place_of r = sizes r.below

-- behind a run and the block that ends it
past : (n : ℕ) (run : List Block) (b : Block) → n ≡ sizes run → sizes (run ++ b ∷ [] ++ []) ≡ n + size b
past n run b is =
    let all : sizes (run ++ b ∷ [] ++ []) ≡ sizes (run ++ b ∷ []) + 0 = total-append size (run ++ b ∷ []) [] in
    let one : sizes (run ++ b ∷ []) ≡ sizes run + (size b + 0) = total-append size run (b ∷ []) in
    omega arith

places-raised : (blocks : List Block) (o : Option RunSpot) → option_map place_of (option_map (run_raised blocks) o)
    ≡ option_map (λ p. sizes blocks + p) (option_map place_of o)
places-raised blocks None = refl
places-raised blocks (Some r) = ap Some (total-append size blocks r.below)

next-raised : (blocks : List Block) (r : RunSpot) → next_run (run_raised blocks r)
    ≡ option_map (λ p. sizes blocks + p) (next_run r)
next-raised blocks r =
    ap (λ n. place_behind (n + sizes r.run) r.above) (total-append size blocks r.below)
    ∙ ap (λ n. place_behind n r.above) (let z : sizes blocks + sizes r.below + sizes r.run
    ≡ sizes blocks + (sizes r.below + sizes r.run) = omega arith in z)
    ∙ behind-more (sizes blocks) (sizes r.below + sizes r.run) r.above

-- the run above the run of an index is that of the next index
next-nth : (i : ℕ) (run : List Block) (parts : List Stretch) (r : RunSpot) → nth_run_of i run parts ≡ Some r
    → next_run r ≡ option_map place_of (nth_run_of (suc i) run parts)
next-nth zero run [] r e = ap next_run (sym (same_Some _ _ e))
next-nth zero run (p ∷ parts) r e = ap next_run (sym (same_Some _ _ e))
    ∙ ap Some (sym (past (0 + sizes run) run p.barrier (omega arith)))
next-nth (suc i) run [] r e = absurd (none-some _ e)
next-nth (suc i) run (p ∷ parts) r e = cases (nth_run_of i p.run parts) (next-nth i p.run parts) e
  where
    cases : (o : Option RunSpot)
        → ((r : RunSpot) → o ≡ Some r → next_run r ≡ option_map place_of (nth_run_of (suc i) p.run parts))
        → option_map (run_raised (run ++ p.barrier ∷ [])) o ≡ Some r
        → next_run r ≡ option_map place_of (option_map (run_raised (run ++ p.barrier ∷ []))
        (nth_run_of (suc i) p.run parts))
    cases None rest e = absurd (none-some _ e)
    cases (Some s) rest e =
        ap next_run (sym (same_Some _ _ e)) ∙ next-raised (run ++ p.barrier ∷ []) s
        ∙ ap (option_map (λ n. sizes (run ++ p.barrier ∷ []) + n)) (rest s refl)
        ∙ sym (places-raised (run ++ p.barrier ∷ []) (nth_run_of (suc i) p.run parts))

-- what a run that was found has above it
pub above-run : (i place : ℕ) (zone : List Block) (next : Option ℕ) → FindsRun i zone (Some place)
    → IfSome (run_at place zone) (λ r. next ≡ next_run r) → FindsRun (suc i) zone next
above-run i place zone next found is =
    let P : Option RunSpot → Type 0 = λ o. IfSome o (λ r. next ≡ next_run r) in
    let here : next ≡ next_run found.0 = subst P found.2 is in
    finds_nth (suc i) zone next
    (here ∙ next-nth i (segments zone).first (segments zone).rest found.0 found.1)

-- settling a run leaves the place of the run above it
place-settled : (k : ℕ) (run : List Block) (parts : List Stretch) → Loose run → AreParts parts
    → option_map place_of (nth_run (suc k) (settled_runs k run parts))
    ≡ option_map place_of (settled_spot (suc k) run parts)
place-settled zero run parts loose are =
    ap (λ (s : Segments). option_map place_of (nth_run_of 1 s.first s.rest)) (segments-joined run parts loose are)
    ∙ one parts
  where
    one : (parts : List Stretch) → option_map place_of (nth_run_of 1 run parts)
        ≡ option_map place_of (settled_spot 1 run parts)
    one [] = refl
    one (p ∷ parts) = ap Some (past (sizes run) run p.barrier refl
        ∙ sym (past (sizes run) (settle run) p.barrier (sym (sizes-settle run loose))))
place-settled (suc k) run [] loose are =
    ap (λ (s : Segments). option_map place_of (nth_run_of (suc (suc k)) s.first s.rest))
    (segments-alone (settle run) (in-settle run))
place-settled (suc k) run (p ∷ parts) loose are =
    ap (λ (s : Segments). option_map place_of (nth_run_of (suc (suc k)) s.first s.rest))
    (segments-part (settle run) p.barrier (settled_runs k p.run parts) (in-settle run) are.0)
    ∙ places-raised (settle run ++ p.barrier ∷ []) (nth_run (suc k) (settled_runs k p.run parts))
    ∙ ap (option_map (λ n. sizes (settle run ++ p.barrier ∷ []) + n)) (place-settled k p.run parts are.1 are.2)
    ∙ sym (places-raised (settle run ++ p.barrier ∷ []) (settled_spot (suc k) p.run parts))

pub above-settled : (k : ℕ) (start : List Block) (next : Option ℕ) → FindsRun (suc k) (settled k start) next
    → FindsRun (suc k) (settled (suc k) start) next
above-settled k start next found =
    let parts = in-parts start in
    finds_nth (suc k) (settled (suc k) start) next (told next found
    ∙ place-settled k (segments start).first (segments start).rest parts.0 parts.1
    ∙ ap (option_map place_of) (sym (nth-settled (suc k) start)))
  where
    told : (next : Option ℕ) → FindsRun (suc k) (settled k start) next
        → next ≡ option_map place_of (nth_run (suc k) (settled k start))
    told None found = sym (ap (option_map place_of) found)
    told (Some place) found = sym (ap (option_map place_of) found.1 ∙ ap Some found.3)

-- the run above the last that was settled, once that is
pub next-settled : (k place : ℕ) (start zone zone' : List Block) (next : Option ℕ) → zone ≡ settled k start
    → zone' ≡ settled (k + 1) start → FindsRun k zone (Some place)
    → IfSome (run_at place zone) (λ r. next ≡ next_run r) → FindsRun (k + 1) zone' next
next-settled k place start zone zone' next is is' found above =
    let more : suc k ≡ k + 1 = omega arith in
    let P : List Block → Type 0 = λ z. FindsRun (suc k) z next in
    let Q : ℕ → Type 0 = λ n. FindsRun n zone' next in
    let before : FindsRun (suc k) (settled k start) next = subst P is (above-run k place zone next found above) in
    let done : zone' ≡ settled (suc k) start = is' ∙ ap (λ n. settled n start) (sym more) in
    subst Q more (subst P (sym done) (above-settled k start next before))

-- what is above a run begins with a block that takes bytes
abbrev Ended : List Block → Type 0
Ended [] = Unit {0}
Ended (b ∷ above) = 0 < size b

nth-ended : (i : ℕ) (run : List Block) (parts : List Stretch) (r : RunSpot) → Barred parts
    → nth_run_of i run parts ≡ Some r → Ended r.above
nth-ended zero run [] r barred e = subst (λ (r : RunSpot). Ended r.above) (same_Some _ _ e) tt
nth-ended zero run (p ∷ parts) r barred e = subst (λ (r : RunSpot). Ended r.above) (same_Some _ _ e) barred.0
nth-ended (suc i) run [] r barred e = absurd (none-some _ e)
nth-ended (suc i) run (p ∷ parts) r barred e = cases (nth_run_of i p.run parts)
    (λ r e. nth-ended i p.run parts r barred.1 e) e
  where
    cases : (o : Option RunSpot) → ((r : RunSpot) → o ≡ Some r → Ended r.above)
        → option_map (run_raised (run ++ p.barrier ∷ [])) o ≡ Some r → Ended r.above
    cases None rest e = absurd (none-some _ e)
    cases (Some s) rest e = subst (λ (r : RunSpot). Ended r.above) (same_Some _ _ e) (rest s refl)

-- the run above a run is higher, and in the zone
pub next-higher : (i place next : ℕ) (zone : List Block) → FindsRun i zone (Some place)
    → IfSome (run_at place zone) (λ r. Some next ≡ next_run r) → (place < next) × (next ≤ sizes zone)
next-higher i place next zone found is =
    let P : Option RunSpot → Type 0 = λ o. IfSome o (λ r. Some next ≡ next_run r) in
    let r : RunSpot = found.0 in
    let ended = nth-ended i (segments zone).first (segments zone).rest r (barred-segments zone) found.1 in
    let whole = ap sizes (run_at-is place zone r found.2) in
    cases r.above (subst P found.2 is) ended (sym (total-append size r.below (r.run ++ r.above)) ∙ whole)
  where
    cases : (above : List Block) → Some next ≡ place_behind (sizes found.0.below + sizes found.0.run) above
        → Ended above → sizes found.0.below + sizes (found.0.run ++ above) ≡ sizes zone
        → (place < next) × (next ≤ sizes zone)
    cases [] e ended whole = absurd (none-some _ (sym e))
    cases (b ∷ above) e ended whole =
        let at : next ≡ sizes found.0.below + sizes found.0.run + size b = same_Some _ _ e in
        let all : sizes (found.0.run ++ b ∷ above) ≡ sizes found.0.run + (size b + sizes above) =
        total-append size found.0.run (b ∷ above) in
        let here : sizes found.0.below ≡ place = found.3 in
        let some : 0 < size b = ended in
        (omega (arith, at, here, some), omega (arith, at, all, whole))

-- settling runs leaves a zone's size
pub sizes-settled : (k : ℕ) (zone : List Block) → sizes (settled k zone) ≡ sizes zone
sizes-settled k zone = all k (segments zone).first (segments zone).rest (in-parts zone).0 (in-parts zone).1
    ∙ ap sizes (joined-segments zone)
  where
    all : (k : ℕ) (run : List Block) (parts : List Stretch) → Loose run → AreParts parts
        → sizes (settled_runs k run parts) ≡ sizes (joined run parts)
    all zero run parts loose are = refl
    all (suc k) run [] loose are = sizes-settle run loose
    all (suc k) run (p ∷ parts) loose are = omega (
      arith,
      total-append size (settle run) (p.barrier ∷ settled_runs k p.run parts),
      total-append size run (p.barrier ∷ joined p.run parts),
      sizes-settle run loose,
      all k p.run parts are.1 are.2,
    )

-- a block begins at a run's bottom, or the zone ends there
pub run-edge : (i place : ℕ) (zone : List Block) → FindsRun i zone (Some place) → IsEdge place zone
run-edge i place zone found = edge-between place zone found.0.below (found.0.run ++ found.0.above)
    (run_at-is place zone found.0 found.2) found.3
