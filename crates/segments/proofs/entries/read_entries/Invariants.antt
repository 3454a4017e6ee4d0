use Rattle.segments.proofs.Cited.{◌≡◌, ◌+◌, ◌*◌, ◌-◌, ◌++◌, map, offsets, entry_at, entries_of, view_entries}
use Rattle.segments.proofs.entries.read_entries.Given as goal

-- the entries so far, with those to come, are all
abbrev pub invariant-loop : goal.invariant-loop
invariant-loop l = record {
  at : l.at ≡ 16 + 8 * l.counter;
  entries : view_entries l.entries.items ++ map (entry_at l.code) (offsets l.at 8 (l.count - l.counter))
      ≡ map (entry_at l.code) (offsets 16 8 (entries_of l.code));
}
