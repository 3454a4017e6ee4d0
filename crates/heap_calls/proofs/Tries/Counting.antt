use Rattle.heap_calls.proofs.Cited.{◌≡◌, ℕ, ◌+◌, ◌≤◌, ◌<◌, Bool, true, false, length, refl, sym, subst, arith, cond, Option, Some, None}
use Rattle.heap_calls.proofs.Cited.{OsErr, Told, count, is_masters, counted, counted-none, Memory, Asked, answered, Row, row, answer_of}
use Rattle.heap_calls.proofs.Cited.{moves_of, keep_code, gate, gated, notes, CountsSearches, CountsMoves, row_searches, row_moves}
use Rattle.heap_calls.proofs.Cited.{SearchesFew}
use Rattle.heap_calls.specs.Row as table
use Rattle.heap_calls.specs.Counts.{behind}
use Rattle.heap_calls.proofs.Gates.Served.{served-gated}
use Rattle.heap_calls.proofs.Promises.FewSearches.{row_few, row_searched}

-- What a try counts.

-- a row counts its moves
moved-by : (r : Row) (m : Memory) → (answer_of r m).1.moves ≡ counted m.moves (moves_of r m.heap)
moved-by (table.Plain bar tell call) m = sym (counted-none m.moves)
moved-by (table.Quiet bar tell call) m = sym (counted-none m.moves)
moved-by (table.Does bar tell does) m = refl
moved-by (table.Seeks bar tell searches gone call) m = sym (counted-none m.moves)
moved-by (table.Compacts moves searches call) m = refl
moved-by table.PurgesAll m = refl
moved-by table.LastCode m = sym (counted-none m.moves)
moved-by (table.Leaves left r) m = moved-by r m

moved : (a : Asked) (m : Memory) → (answered a m).1.moves ≡ counted m.moves (row_moves a m.heap)
moved a m = moved-by (row a) m

-- and so does a try; where it is barred, it counts nothing
pub counts_searches : (a : Asked) (m : Memory) → CountsSearches a m
counts_searches a m =
    let Q : Told × Memory → Type 0 = λ answer. answer.1.log.searches
    ≡ counted m.log.searches (behind (gate a m) (row_searches a m.heap)) in
    subst Q (sym (served-gated a m)) (by_gate (gate a m))
  where
    by_notes : (why : OsErr) (t : Bool) → (cond t (keep_code why m) m).log.searches ≡ m.log.searches
    by_notes why true = refl
    by_notes why false = refl

    by_gate : (o : Option OsErr) → (gated o a m).1.log.searches
        ≡ counted m.log.searches (behind o (row_searches a m.heap))
    by_gate None = row_searched a m
    by_gate (Some why) =
        let P : ℕ → Type 0 = λ n. (cond (notes a) (keep_code why m) m).log.searches ≡ n in
        subst P (sym (counted-none m.log.searches)) (by_notes why (notes a))

pub counts_moves : (a : Asked) (m : Memory) → CountsMoves a m
counts_moves a m =
    let Q : Told × Memory → Type 0 = λ answer. answer.1.moves
    ≡ counted m.moves (behind (gate a m) (row_moves a m.heap)) in
    subst Q (sym (served-gated a m)) (by_gate (gate a m))
  where
    by_notes : (why : OsErr) (t : Bool) → (cond t (keep_code why m) m).moves ≡ m.moves
    by_notes why true = refl
    by_notes why false = refl

    by_gate : (o : Option OsErr) → (gated o a m).1.moves ≡ counted m.moves (behind o (row_moves a m.heap))
    by_gate None = moved a m
    by_gate (Some why) =
        let P : ℕ → Type 0 = λ n. (cond (notes a) (keep_code why m) m).moves ≡ n in
        subst P (sym (counted-none m.moves)) (by_notes why (notes a))

-- in a zone with a Masters block a try searches at most once more than there are blocks
pub try_few : (a : Asked) (m : Memory) → 0 < count is_masters m.heap.zone → SearchesFew a m
try_few a m masters = by_gate (gate a m)
  where
    by_gate : (o : Option OsErr) → behind o (row_searches a m.heap) ≤ length m.heap.zone + 1
    by_gate None = row_few a m masters
    by_gate (Some why) = omega arith
