use Rattle.fork_format.proofs.Cited.{◌≡◌, ◌+◌, ◌*◌, ◌-◌, ◌++◌, map, kind_in, offsets}
use Rattle.fork_format.proofs.read.kinds_of.Given as goal

-- the types so far, with those to come, are all
abbrev pub invariant-loop : goal.invariant-loop
invariant-loop l = record {
  at : l.at ≡ l.fn.first + 8 * l.counter;
  kinds : l.kinds.items ++ map (kind_in l.bytes) (offsets l.at 8 (l.count - l.counter))
      ≡ map (kind_in l.bytes) (offsets l.fn.first 8 l.count);
}
