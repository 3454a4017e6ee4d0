use Rattle.heap_calls.proofs.Cited.{◌≡◌, ℕ, ◌≤◌, ◌<◌, Bool, true, ◌&&◌, List, refl, sym, ◌∙◌, ap, subst, cond, arith}
use Rattle.heap_calls.proofs.Cited.{Option, Some, None, is_some, cond-true, option_map, option_or, IfSome, option_and_then}
use Rattle.heap_calls.proofs.Cited.{Block, size, is_relocatable, is_room, count, tidy, resized, RunSpot, run_spot, run_at, has, has_free}
use Rattle.heap_calls.proofs.Cited.{settle, with_run, high, Spot, spot, spot-passes, place, growth, grow_up, Rest, IsRest, counted}
use Rattle.heap_calls.proofs.Cited.{with_moves, with_placed, lowered_in_run, Placement, FindsGrowth, grown, Packs}
use Rattle.heap_calls.proofs.Cited.{FindsPlacement, counted-none, Grow, is_same}
use Rattle.heap_calls.proofs.Cited.{lowered_by, lowered_in, place_lowers, last_lowers, growth_lowers, Result, OsErr, Log, Anchor, Memory}
use Rattle.heap_calls.proofs.Cited.{moving, memory_of}
use Rattle.heap_calls.specs.declared.growing.Growth.TheVariants as grows
use Rattle.heap_calls.specs.declared.search.Placement.TheVariants as see
use Rattle.heap_calls.proofs.Same.Growing.{same-handle}
use Rattle.heap_calls.proofs.Sizes.Carrying.{IsLast, high-at}
use Rattle.heap_calls.proofs.Numbering.Changing.{unmoved}
use Rattle.heap_calls.proofs.Room.Searching.{room-found, placement-some}

-- How many blocks packing moves down.

-- none
pub packs-none : (old new : Rest) (n : ℕ) → new.moves ≡ old.moves → n ≡ 0 → Packs n old new
packs-none old new n same none = same ∙ sym (counted-none old.moves) ∙ ap (counted old.moves) (sym none)

-- those of a run that was packed, after what moved none
pub packs-run : (a b c : Rest) (n m : ℕ) → b.moves ≡ a.moves → IsRest (with_moves n b) c → m ≡ n → Packs m a c
packs-run a b c n m before packed same = packed.moves ∙ ap (λ k. counted k n) before ∙ ap (counted a.moves) (sym same)

pub packs-after : (a b c : Rest) (n : ℕ) → b.moves ≡ a.moves → Packs n b c → Packs n a c
packs-after a b c n before packed = packed ∙ ap (λ k. counted k n) before

-- A place.

pub at-free : (p at : ℕ) (zone : List Block) → FindsPlacement p zone (Some (see.Free at)) → place_lowers p zone ≡ 0
at-free p at zone found = rw found.1 refl

pub at-packed : (p run : ℕ) (zone : List Block) (found : FindsPlacement p zone (Some (see.Run run)))
    → place_lowers p zone ≡ lowered_in_run found.1.0.run
at-packed p run zone found = rw (found.0, found.1.1) refl

pub no-place : (p : ℕ) (zone : List Block) → 0 < p → place p zone ≡ None → place_lowers p zone ≡ 0
no-place p zone pos none = cases (spot (is_room p) zone) (run_spot (has_free p) zone) refl none
  where
    cases : (o : Option Spot) (r : Option RunSpot) → run_spot (has_free p) zone ≡ r
        → option_or o (option_and_then (spot (is_room p)) (option_map tidy (option_map (with_run settle) r))) ≡ None
        → cond {A = ℕ} (is_some o) 0 (lowered_in r) ≡ 0
    cases (Some s) r is e = refl
    cases None None is e = refl
    cases None (Some r) is e = absurd (room-found p pos zone r is (tidy (with_run settle r)) refl e)

-- Growth.

-- into the free block above it
pub up-moves : (test : Block → Bool) (new : Block) (zone : List Block) → is_same new ≡ test
    → FindsGrowth test new zone (Some grows.Up) → lowered_by (Grow new) zone ≡ 0
up-moves test new zone same found = ap (growth_lowers new zone) (ap (λ t. spot t zone) same ∙ found.1)
    ∙ cond-true {A = ℕ} (is_some (grow_up new found.0)) 0 _ found.2

-- or at a place of its own
pub away-moves : (test : Block → Bool) (new : Block) (zone : List Block) → is_same new ≡ test → (p : ℕ)
    (placement : Placement) → size new ≡ p → 0 < p → FindsGrowth test new zone (Some (grows.Away placement))
    → lowered_by (Grow new) zone ≡ place_lowers p zone
away-moves test new zone same p placement takes pos found =
    let there : is_some (place (size new) zone) ≡ true = placement-some (size new) zone (omega (arith, takes, pos))
    (Some placement) found.3 refl in
    ap (growth_lowers new zone) (ap (λ t. spot t zone) same ∙ found.1)
    ∙ rw (found.2, there) (ap (λ k. place_lowers k zone) takes)

-- the packing once the block was moved to the top of its run
pub last-moves : (number n : ℕ) (zone zone1 : List Block) (run : ℕ) (k : IsLast number n zone run) → tidy zone ≡ zone
    → count (is_relocatable number) zone ≤ 1
    → IfSome (run_at run zone) (λ r. zone1 ≡ tidy (with_run (high (is_relocatable number)) r)) → (a b c d : Rest)
    → IsRest (with_placed 1 a) b → IfSome (run_at run zone1) (λ r. IsRest (with_moves (lowered_in_run r.run) b) c) → IsRest c d
    → Packs (lowered_by (Grow (grown n (spot (is_relocatable number) zone))) zone) a d
last-moves number n zone zone1 run k tidied once hoisted a b c d before packed after =
    let P : Option RunSpot → Type 0 = λ o. IfSome o (λ r. IsRest (with_moves (lowered_in_run r.run) b) c) in
    let at : IsRest (with_moves (lowered_in_run (high (is_relocatable number) k.r.run)) b) c =
    subst P (high-at number zone run k.r k.s tidied once k.at k.passes k.found zone1 hoisted) packed in
    let t = is_relocatable number in
    let new = resized n k.s.here in
    let same : is_same new ≡ t = same-handle number n k.s.here (spot-passes t zone k.s k.found) in
    let last : (Block → Bool) → ℕ = λ u. cond (is_some (grow_up new k.s)) 0 (cond (is_some (place (size new) zone))
    (place_lowers (size new) zone) (last_lowers u (run_spot (λ run. has u run && has_free (growth new k.s) run) zone))) in
    let many : lowered_by (Grow (grown n (spot t zone))) zone ≡ lowered_in_run (high t k.r.run) =
    ap (λ o. lowered_by (Grow (grown n o)) zone) k.found
    ∙ ap (growth_lowers new zone) (ap (λ u. spot u zone) same ∙ k.found) ∙ ap last same
    ∙ rw (k.not_up, k.nowhere, k.lowest) refl in
    after.moves ∙ packs-run a b c (lowered_in_run (high t k.r.run)) (lowered_by (Grow (grown n (spot t zone))) zone)
    before.moves at many

-- A heap.

-- a call whose packing moved so many blocks
pub moving-done : {T : Type 0} (m n : ℕ) (a : Result T OsErr × Memory) (r : Result T OsErr) (zone : List Block)
    (rest rest' : Rest) (es : List Anchor) (log : Log)
    → a ≡ (r, memory_of zone (unmoved rest rest') es log) → m ≡ n → Packs n rest rest'
    → moving m a ≡ (r, memory_of zone rest' es log)
moving-done m n a r zone rest rest' es log is same now =
    ap (moving m) is ∙ ap (λ (k : ℕ). (r, record (memory_of zone rest' es log) { moves = counted rest.moves k })) same
    ∙ ap (λ (k : ℕ). (r, record (memory_of zone rest' es log) { moves = k })) (sym now)
