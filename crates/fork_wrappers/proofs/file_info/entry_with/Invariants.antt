use Rattle.fork_wrappers.proofs.Cited.{◌≡◌, ◌+◌, ◌*◌, ◌-◌, offsets, first_with}
use Rattle.fork_wrappers.proofs.file_info.entry_with.Given as goal

-- the first of the entries that are left is the first of all
abbrev pub invariant-loop : goal.invariant-loop
invariant-loop l = record {
  place : l.at ≡ 26 + 12 * l.counter;
  rest : first_with l.id l.bytes (offsets l.at 12 (l.count - l.counter)) ≡ first_with l.id l.bytes (offsets 26 12 l.count);
}
