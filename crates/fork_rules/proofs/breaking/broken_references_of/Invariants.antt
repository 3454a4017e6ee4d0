use Rattle.fork_rules.proofs.Cited.{◌≡◌, ◌+◌, ◌*◌, ◌-◌, offsets, broken_reference, first_of}
use Rattle.fork_rules.proofs.breaking.broken_references_of.Given as goal

-- what the references that are left break is what all break
abbrev pub invariant-loop : goal.invariant-loop
invariant-loop l = record {
  place : l.at ≡ l.fn.first + 12 * l.counter;
  rest : first_of (broken_reference l.bytes l.entry) (offsets l.at 12 (l.count - l.counter))
      ≡ first_of (broken_reference l.bytes l.entry) (offsets l.fn.first 12 l.count);
}
