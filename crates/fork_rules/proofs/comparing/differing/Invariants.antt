use Rattle.fork_rules.proofs.Cited.{◌≡◌, ◌++◌, drop, filter, differs}
use Rattle.fork_rules.proofs.comparing.differing.Given as goal

-- the regions so far, with those of the others that differ, are all
abbrev pub invariant-loop-region : goal.invariant-loop-region
invariant-loop-region l = l.found.items ++ filter (differs l.bytes l.others) (drop l.region-index l.regions)
    ≡ filter (differs l.bytes l.others) l.regions
