use Rattle.fork_format.proofs.Cited.{◌≡◌, ◌+◌, ◌*◌, ◌≤◌, ◌^◌, ◌-◌, sum_by, list_all, type_size, refs_fit, offsets, sizes_if}
use Rattle.fork_format.proofs.Loops.{counted}
use Rattle.fork_format.proofs.layout.types_size_of.Given as goal

abbrev pub invariant-loop : goal.invariant-loop
invariant-loop l = record {
  place : l.at ≡ l.fn.first + 8 * l.counter;
  small : l.data ≤ l.counter * (65536 * (2 ^ 32 + 3));
  sizes : counted l.data (sizes_if (list_all (refs_fit l.bytes) (offsets l.at 8 (l.count - l.counter)))
      (sum_by (type_size l.bytes) (offsets l.at 8 (l.count - l.counter))))
      ≡ sizes_if (list_all (refs_fit l.bytes) (offsets l.fn.first 8 l.count))
      (sum_by (type_size l.bytes) (offsets l.fn.first 8 l.count));
}
