use Rattle.fork_wrappers.proofs.Cited.{◌≡◌, ◌+◌, ◌*◌, ◌-◌, ◌++◌, true, list_all, flat_map, offsets, entry_fits, is_clear, new_entry}
use Rattle.fork_wrappers.proofs.new_entries.put_entries.Given as goal

-- what was written, with the entries that are left
abbrev pub invariant-loop : goal.invariant-loop
invariant-loop l = record {
  place : l.at ≡ 26 + 12 * l.counter;
  fits : list_all (entry_fits l.file) (offsets l.at 12 (l.count - l.counter)) ≡ true;
  clear : list_all (is_clear l.file l.span) (offsets l.at 12 (l.count - l.counter)) ≡ true;
  written : l.out.items ++ flat_map (new_entry l.file l.span l.new) (offsets l.at 12 (l.count - l.counter))
      ≡ l.fn.out.items ++ flat_map (new_entry l.file l.span l.new) (offsets 26 12 l.count);
}
