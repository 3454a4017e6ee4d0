use Rattle.fork_rules.proofs.Cited.{◌≡◌, ◌+◌, ◌*◌, ◌-◌, offsets, broken_type, first_of}
use Rattle.fork_rules.proofs.breaking.broken_types_of.Given as goal

-- what the types that are left break is what all break
abbrev pub invariant-loop : goal.invariant-loop
invariant-loop l = record {
  place : l.at ≡ l.fn.first + 8 * l.counter;
  rest : first_of (broken_type l.bytes) (offsets l.at 8 (l.count - l.counter))
      ≡ first_of (broken_type l.bytes) (offsets l.fn.first 8 l.count);
}
