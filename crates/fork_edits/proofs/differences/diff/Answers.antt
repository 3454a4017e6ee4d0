use Rattle.fork_edits.proofs.Cited.{view, view_difference}
use Rattle.fork_edits.proofs.Same.{alike_seen}
use Rattle.fork_edits.proofs.differences.diff.Goals as goal

pub returns-clause-alike : goal.returns-clause-alike
returns-clause-alike c = alike_seen view_difference c.in_ok-found.found.items (view c.args.a.now)
    (view c.args.b.now) c.in_ok-found.ensures
