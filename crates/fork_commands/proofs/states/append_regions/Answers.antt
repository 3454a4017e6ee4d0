use Rattle.fork_commands.proofs.Stated.{why_of_whole}
use Rattle.fork_commands.proofs.states.append_regions.Goals as goal

pub returns : goal.returns
returns c = why_of_whole c.args.fork.now c.args.text.now.items _ c.requires c.in_ok-append_why.ensures
