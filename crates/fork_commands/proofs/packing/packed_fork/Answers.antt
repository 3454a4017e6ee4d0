use Rattle.fork_commands.proofs.Cited.{◌∙◌, ap, sym, canonical}
use Rattle.fork_commands.proofs.Pairs.{also_ok}
use Rattle.fork_commands.proofs.packing.packed_fork.Goals as goal

pub returns-clause-made : goal.returns-clause-made
returns-clause-made c =
    also_ok _ _ c.canonical.result (λ fork made. ap canonical (sym c.in_ok-content.ensures) ∙ made) c.canonical.ensures.made
