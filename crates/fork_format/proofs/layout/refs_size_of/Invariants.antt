use Rattle.fork_format.proofs.Cited.{◌≡◌, ◌+◌, ◌*◌, ◌≤◌, ◌^◌, ◌-◌, sum_by, list_all, ref_size, ref_fits, offsets, sizes_if}
use Rattle.fork_format.proofs.Loops.{counted}
use Rattle.fork_format.proofs.layout.refs_size_of.Given as goal

abbrev pub invariant-loop : goal.invariant-loop
invariant-loop l = record {
  place : l.at ≡ l.fn.first + 12 * l.counter;
  small : l.data ≤ l.counter * (2 ^ 32 + 3);
  sizes : counted l.data (sizes_if (list_all (ref_fits l.bytes) (offsets l.at 12 (l.count - l.counter)))
      (sum_by (ref_size l.bytes) (offsets l.at 12 (l.count - l.counter))))
      ≡ sizes_if (list_all (ref_fits l.bytes) (offsets l.fn.first 12 l.count))
      (sum_by (ref_size l.bytes) (offsets l.fn.first 12 l.count));
}
