use Rattle.fork_wrappers.proofs.Cited.{◌≡◌, ◌+◌, ◌*◌, ◌≤◌, ◌-◌, ◌++◌, length, true, IfSome, filter, list_all, option_to_list, offsets}
use Rattle.fork_wrappers.proofs.Cited.{entry_fits, is_fork_entry}
use Rattle.fork_wrappers.proofs.entries.fork_entry_of.Given as goal

-- the entry that was found, with those that are left, are all
abbrev pub invariant-loop : goal.invariant-loop
invariant-loop l = record {
  place : l.at ≡ 26 + 12 * l.counter;
  fits : list_all (entry_fits l.bytes) (offsets l.at 12 (l.count - l.counter)) ≡ true;
  entry : option_to_list l.found ++ filter (is_fork_entry l.bytes) (offsets l.at 12 (l.count - l.counter))
      ≡ filter (is_fork_entry l.bytes) (offsets 26 12 l.count);
  room : IfSome l.found (λ at. at + 12 ≤ length l.bytes);
  whole : IfSome l.found (λ at. entry_fits l.bytes at ≡ true);
}
