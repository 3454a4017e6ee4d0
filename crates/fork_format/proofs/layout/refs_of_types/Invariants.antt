use Rattle.fork_format.proofs.Cited.{◌≡◌, ◌+◌, ◌*◌, ◌≤◌, ◌-◌, sum_by, ref_count, offsets}
use Rattle.fork_format.proofs.layout.refs_of_types.Given as goal

abbrev pub invariant-loop : goal.invariant-loop
invariant-loop l = record {
  place : l.at ≡ l.fn.first + 8 * l.counter;
  small : l.refs ≤ l.counter * 65536;
  sum : l.refs + sum_by (ref_count l.bytes) (offsets l.at 8 (l.count - l.counter))
      ≡ sum_by (ref_count l.bytes) (offsets l.fn.first 8 l.count);
}
