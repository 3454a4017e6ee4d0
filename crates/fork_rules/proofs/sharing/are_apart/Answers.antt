use Rattle.fork_rules.proofs.Cited.{told_apart}
use Rattle.fork_rules.proofs.sharing.are_apart.Goals as goal

pub returns : goal.returns
returns c = told_apart c.args.numbers.now c.sort_unstable.new.self _ c.sort_unstable.ensures.permutation
    c.sort_unstable.ensures.sorted c.do_climb.ensures
