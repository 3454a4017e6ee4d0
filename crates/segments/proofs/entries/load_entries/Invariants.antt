use Rattle.segments.proofs.Cited.{◌≡◌, ◌+◌, ◌-◌, loaded_from, view_entries}
use Rattle.segments.proofs.entries.load_entries.Given as goal

-- with those to come loaded it is the table with all of them loaded
abbrev pub invariant-loop-i : goal.invariant-loop-i
invariant-loop-i l = loaded_from (l.named.first + l.i) (l.named.count - l.i) (view_entries l.entries)
    ≡ loaded_from l.named.first l.named.count (view_entries l.fn.entries)
