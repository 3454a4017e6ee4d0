use Rattle.heap_calls.proofs.Cited.{◌≡◌, ℕ, ◌+◌, ◌≤◌, ◌<◌, ◌⊎◌, inl, inr, Bool, true, false, List, length, Option, Some, None, refl, sym}
use Rattle.heap_calls.proofs.Cited.{◌∙◌, ap, cond, subst, arith, ◌==◌, none-some, same_Some, nat_tests, option_map, IfSome, Block, sizes}
use Rattle.heap_calls.proofs.Cited.{tidy, compacted, lowered_in_runs, has_room, next_run, packed_stretches, runs_settled, settled, FindsRun}
use Rattle.heap_calls.proofs.Cited.{Rest, IsRest, KeepsSlots, counted, lowered_in_run, with_moves, Spot, spot_at, RunSpot, run_at, runs}
use Rattle.heap_calls.proofs.Cited.{settle, with_run, seen, Seen, first-run, next-higher, next-settled, sizes-settled, keeps-next}
use Rattle.heap_calls.proofs.Cited.{moves-end, moves-next, next-past, next-within, none-next, runs-few, settled-enough, settled-next}
use Rattle.heap_calls.proofs.Cited.{zone-end, still-settled, joined-segments, seen_in_run, stretches}
use mir.Val.{bool_byte}
use Rattle.heap_calls.proofs.Numbering.Hoisting.{rest-same}
use Rattle.heap_calls.proofs.Room.Stretches.{stretches-end, stretches-le, stretches-next}

-- Compaction, one run after another.

-- so many of the lowest runs are settled, and there was no room before the last of them was
pub record SettledTo (k : ℕ) (bytes : Option ℕ) (start : List Block) (first : Rest) (zone : List Block) (rest : Rest)
    (n : ℕ) : Type 0 where
  pub within : k ≤ length (runs start)
  pub zone_is : zone ≡ settled k start
  pub moves : rest.moves ≡ counted first.moves (lowered_in_runs k (runs start))
  pub keeps : KeepsSlots first rest
  pub placed : rest.placed ≡ first.placed
  pub count : n ≡ stretches k (runs start)
  pub none : (j : ℕ) → j < k → has_room bytes (settled j start) ≡ false

-- and the next run is at a place
pub record IsNext (bytes : Option ℕ) (start : List Block) (first : Rest) (zone : List Block) (rest : Rest) (place n : ℕ)
    : Type 0 where
  pub k : ℕ
  pub so_far : SettledTo k bytes start first zone rest n
  pub found : FindsRun k zone (Some place)

-- at first none are
pub begins : (bytes : Option ℕ) (start : List Block) (first : Rest) → IsNext bytes start first start first 0 0
begins bytes start first = record {
  k = 0;
  so_far = record {
    within = omega arith;
    zone_is = sym (joined-segments start);
    moves = omega arith;
    keeps = rest-same first;
    placed = refl;
    count = refl;
    none = λ j less. absurd (omega arith);
  };
  found = first-run start;
}

-- what a look at the bottom of a run counts
pub record Counts (zone : List Block) (place m : ℕ) : Type 0 where
  pub there : Option Seen
  pub begins : Bool
  pub there_is : there ≡ option_map (λ (s : Spot). seen s.here) (spot_at place zone)
  pub begins_is : begins ≡ seen_in_run there
  pub as_number : m ≡ bool_byte begins

-- a zone has fewer runs than bytes
pub few : (bytes : Option ℕ) (start : List Block) (first : Rest) (zone : List Block) (rest : Rest) (place n m : ℕ)
    → tidy zone ≡ zone → IsNext bytes start first zone rest place n → Counts zone place m → n + m ≤ sizes start + 1
few bytes start first zone rest place n m tidied i c =
    let f = i.so_far in
    let sum = stretches-next i.k place start zone c.there c.begins m n tidied f.zone_is i.found c.there_is c.begins_is
    c.as_number f.count in
    omega (
      arith,
      sum,
      stretches-le (i.k + 1) (runs start),
      next-within i.k place start zone f.zone_is i.found,
      runs-few start,
    )

-- a run that is settled is placed nowhere else
unplaced-next : (place : ℕ) (zone : List Block) (r : RunSpot) (rest rest' : Rest) → run_at place zone ≡ Some r
    → IfSome (run_at place zone) (λ r. IsRest (with_moves (lowered_in_run r.run) rest) rest')
    → rest'.placed ≡ rest.placed
unplaced-next place zone r rest rest' at rest_is =
    let P : Option RunSpot → Type 0 = λ o. IfSome o (λ r. IsRest (with_moves (lowered_in_run r.run) rest) rest') in
    (subst P at rest_is).placed

-- one more
pub one-more : (bytes : Option ℕ) (start : List Block) (first : Rest) (zone : List Block) (rest : Rest) (place n m : ℕ)
    (zone' : List Block) (rest' : Rest) → tidy start ≡ start → tidy zone ≡ zone → has_room bytes zone ≡ false
    → (i : IsNext bytes start first zone rest place n) → Counts zone place m
    → IfSome (run_at place zone) (λ r. zone' ≡ tidy (with_run settle r))
    → IfSome (run_at place zone) (λ r. IsRest (with_moves (lowered_in_run r.run) rest) rest')
    → SettledTo (i.k + 1) bytes start first zone' rest' (n + m)
one-more bytes start first zone rest place n m zone' rest' tidied tidied_now full i c done rest_is =
    let k = i.k in
    let f = i.so_far in
    let within = next-within k place start zone f.zone_is i.found in
    record {
      within = omega (arith, within);
      zone_is = settled-next k place start zone zone' tidied f.zone_is i.found done;
      moves = moves-next k place start zone first rest rest' f.zone_is i.found rest_is f.moves;
      keeps = keeps-next place zone i.found.0 first rest rest' i.found.2 rest_is f.keeps;
      placed = unplaced-next place zone i.found.0 rest rest' i.found.2 rest_is ∙ f.placed;
      count = stretches-next k place start zone c.there c.begins m n tidied_now f.zone_is i.found c.there_is c.begins_is
          c.as_number f.count;
      none = none-next bytes start zone k f.zone_is full f.none;
    }

-- with another run above it
pub goes-on : (bytes : Option ℕ) (start : List Block) (first : Rest) (zone : List Block) (rest : Rest)
    (place n next n' : ℕ) (zone' : List Block) (rest' : Rest) → (i : IsNext bytes start first zone rest place n)
    → SettledTo (i.k + 1) bytes start first zone' rest' n' → IfSome (run_at place zone) (λ r. Some next ≡ next_run r)
    → IsNext bytes start first zone' rest' next n'
goes-on bytes start first zone rest place n next n' zone' rest' i done above = record {
  k = i.k + 1;
  so_far = done;
  found = next-settled i.k place start zone zone' (Some next) i.so_far.zone_is done.zone_is i.found above;
}

-- what compaction comes to
pub record IsCompacted (bytes : Option ℕ) (start : List Block) (first : Rest) (zone : List Block) (rest : Rest) (n : ℕ)
    : Type 0 where
  pub zone_is : zone ≡ compacted bytes start
  pub moves : rest.moves ≡ counted first.moves (lowered_in_runs (runs_settled bytes start) (runs start))
  pub keeps : KeepsSlots first rest
  pub placed : rest.placed ≡ first.placed
  pub count : n ≡ stretches (runs_settled bytes start) (runs start)

ends : (k : ℕ) (bytes : Option ℕ) (start : List Block) (first : Rest) (zone : List Block) (rest : Rest) (n : ℕ)
    → SettledTo k bytes start first zone rest n → (has_room bytes zone ≡ true) ⊎ (length (runs start) ≤ k)
    → IsCompacted bytes start first zone rest n
ends k bytes start first zone rest n f end =
    let all : k ≡ runs_settled bytes start = sym (settled-enough bytes start zone k f.zone_is f.within f.none end) in
    record {
      zone_is = zone-end k (runs_settled bytes start) start zone f.zone_is all;
      moves = moves-end k (runs_settled bytes start) first.moves rest.moves (runs start) f.moves all;
      keeps = f.keeps;
      placed = f.placed;
      count = stretches-end n (runs_settled bytes start) k (runs start) f.count all;
    }

-- where there is room
pub ends-there : (bytes : Option ℕ) (start : List Block) (first : Rest) (zone : List Block) (rest : Rest) (place n : ℕ)
    → IsNext bytes start first zone rest place n → has_room bytes zone ≡ true
    → IsCompacted bytes start first zone rest n
ends-there bytes start first zone rest place n i room = ends i.k bytes start first zone rest n i.so_far (inl room)

-- where all runs are settled
pub ends-above : (bytes : Option ℕ) (start : List Block) (first : Rest) (zone : List Block) (rest : Rest)
    (place n n' : ℕ) (zone' : List Block) (rest' : Rest) → (i : IsNext bytes start first zone rest place n)
    → SettledTo (i.k + 1) bytes start first zone' rest' n' → IfSome (run_at place zone) (λ r. None ≡ next_run r)
    → IsCompacted bytes start first zone' rest' n'
ends-above bytes start first zone rest place n n' zone' rest' i done above =
    ends (i.k + 1) bytes start first zone' rest' n' done (inr (next-past (i.k + 1) start zone' done.zone_is
    (next-settled i.k place start zone zone' None i.so_far.zone_is done.zone_is i.found above)))

-- the next run is higher, and in the zone
pub higher : (bytes : Option ℕ) (start : List Block) (first : Rest) (zone : List Block) (rest : Rest)
    (place n next : ℕ) → IsNext bytes start first zone rest place n
    → IfSome (run_at place zone) (λ r. Some next ≡ next_run r) → (place < next) × (next ≤ sizes start)
higher bytes start first zone rest place n next i above =
    let found = next-higher i.k place next zone i.found above in
    let size = ap sizes i.so_far.zone_is ∙ sizes-settled i.k start in
    (found.0, omega (arith, found.1, size))

-- where no block moves, nothing changes, and all runs count
pub packed : (bytes : Option ℕ) (start : List Block) (first : Rest) (n : ℕ) → tidy start ≡ start
    → has_room bytes start ≡ false → Some n ≡ packed_stretches (runs start) → IsCompacted bytes start first start first n
packed bytes start first n tidied full e = cases (lowered_in_runs all rs == 0) refl e
  where
    rs : List (List Block)
    rs = runs start

    all : ℕ
    all = length rs

    cases : (t : Bool) → (lowered_in_runs all rs == 0) ≡ t → Some n ≡ cond t (Some (stretches all rs)) None
        → IsCompacted bytes start first start first n
    cases false d e = absurd (none-some n (sym e))
    cases true d e =
        let none : lowered_in_runs all rs ≡ 0 = grind (arith, nat_tests, d) in
        ends all bytes start first start first n (record {
          within = omega arith;
          zone_is = sym (still-settled all start tidied none);
          moves = omega (arith, none);
          keeps = rest-same first;
          placed = refl;
          count = same_Some _ _ e;
          none = λ j less. ap (has_room bytes) (still-settled j start tidied none) ∙ full;
        }) (inr (omega arith))
