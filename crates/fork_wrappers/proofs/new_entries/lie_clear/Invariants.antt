use Rattle.fork_wrappers.proofs.Cited.{◌≡◌, ◌+◌, ◌*◌, ◌-◌, list_all, offsets, is_clear}
use Rattle.fork_wrappers.proofs.new_entries.lie_clear.Given as goal

-- whether the entries that are left are clear is whether all are
abbrev pub invariant-loop : goal.invariant-loop
invariant-loop l = record {
  place : l.at ≡ 26 + 12 * l.counter;
  rest : list_all (is_clear l.file l.span) (offsets l.at 12 (l.count - l.counter))
      ≡ list_all (is_clear l.file l.span) (offsets 26 12 l.count);
}
