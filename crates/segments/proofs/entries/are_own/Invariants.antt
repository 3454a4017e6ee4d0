use Rattle.segments.proofs.Cited.{◌≡◌, ◌+◌, ◌-◌, view_entries, are_own}
use Rattle.segments.proofs.entries.are_own.Given as goal

-- it goes by the entries to come
abbrev pub invariant-loop-i : goal.invariant-loop-i
invariant-loop-i l = are_own l.segment (l.named.first + l.i) (l.named.count - l.i) (view_entries l.entries)
    ≡ are_own l.segment l.named.first l.named.count (view_entries l.entries)
