use Rattle.fork_format.proofs.Cited.{◌≡◌, ◌+◌, ◌*◌, ◌-◌, ◌++◌, map, true, list_all, ref_at, ref_fits, offsets, view_ref}
use Rattle.fork_format.proofs.read.read_refs.Given as goal

abbrev pub invariant-loop : goal.invariant-loop
invariant-loop l = record {
  place : l.at ≡ l.fn.first + 12 * l.counter;
  fits : list_all (ref_fits l.bytes) (offsets l.at 12 (l.count - l.counter)) ≡ true;
  refs : map view_ref l.refs.items ++ map (ref_at l.bytes) (offsets l.at 12 (l.count - l.counter))
      ≡ map view_ref l.fn.refs.items ++ map (ref_at l.bytes) (offsets l.fn.first 12 l.count);
}
