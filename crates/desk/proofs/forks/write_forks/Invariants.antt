use Rattle.desk.proofs.Cited.{◌≡◌, ◌++◌, map, drop, flat_map, Extends, forks_of, told_seen}
use Rattle.desk.proofs.forks.write_forks.Given as goal

-- the lines so far, and those of the applications that are left
abbrev pub invariant-loop-app : goal.invariant-loop-app
invariant-loop-app l =
    (l.text.items ++ flat_map forks_of (map told_seen (drop l.app-index l.apps))
    ≡ l.fn.text.items ++ flat_map forks_of (map told_seen l.apps))
    × Extends l.fn.text.items l.text.items
