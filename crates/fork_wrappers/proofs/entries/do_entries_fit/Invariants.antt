use Rattle.fork_wrappers.proofs.Cited.{◌≡◌, ◌+◌, ◌*◌, ◌-◌, list_all, offsets, entry_fits}
use Rattle.fork_wrappers.proofs.entries.do_entries_fit.Given as goal

-- whether the entries that are left fit is whether all do
abbrev pub invariant-loop : goal.invariant-loop
invariant-loop l = record {
  place : l.at ≡ 26 + 12 * l.counter;
  rest : list_all (entry_fits l.bytes) (offsets l.at 12 (l.count - l.counter))
      ≡ list_all (entry_fits l.bytes) (offsets 26 12 l.count);
}
