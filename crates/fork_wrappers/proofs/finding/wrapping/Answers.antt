use Rattle.fork_wrappers.proofs.Cited.{sym, ◌∙◌, cond-false}
use Rattle.fork_wrappers.proofs.finding.wrapping.Goals as goal

pub returns-else-is_first_file-clause-wrapping : goal.returns-else-is_first_file-clause-wrapping
returns-else-is_first_file-clause-wrapping c = sym
    (cond-false _ _ _ (sym c.if-is_resource_fork.ensures) ∙ cond-false _ _ _ (sym c.if-is_apple_single_file.ensures)
    ∙ cond-false _ _ _ (sym c.if-is_apple_double_file.ensures) ∙ cond-false _ _ _ (sym c.if-is_third_file.ensures)
    ∙ cond-false _ _ _ (sym c.if-is_second_file.ensures) ∙ cond-false _ _ _ (sym c.if-is_first_file.ensures.first))
