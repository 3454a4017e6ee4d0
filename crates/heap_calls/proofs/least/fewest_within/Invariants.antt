use Rattle.heap_calls.proofs.Cited.{◌≡◌, ◌<◌, ◌-◌, true, false}
use Rattle.heap_calls.proofs.least.fewest_within.Given as goal

-- after the number before it isn't there, and after the other it is
abbrev pub invariant-loop-purges : goal.invariant-loop-purges
invariant-loop-purges g l = record {
  before : g.L.Sought.is_there l.sought (g.S.BlockStore.zone l.store) l.before ≡ false;
  less : l.before < l.purges;
  there : g.L.Sought.is_there l.sought (g.S.BlockStore.zone l.store) l.purges ≡ true;
}

abbrev pub decreases-loop-purges : goal.decreases-loop-purges
decreases-loop-purges g l = l.purges - l.before
