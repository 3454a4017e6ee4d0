use Rattle.fork_tasks.proofs.Cited.{map, subst, message_of, AreSurveyed}
use Rattle.fork_tasks.proofs.Accesses.{also_err}
use Rattle.fork_tasks.proofs.Surveyed.{unlisted}
use Rattle.fork_tasks.proofs.surveying.print_survey.Goals as goal

-- the lines were not printed to their end
pub returns-clause-undone : goal.returns-clause-undone
returns-clause-undone g c =
    let went = c.in_ok-lines.ensures.surveyed in
    let are = subst (λ l. AreSurveyed (map (λ path. path.now) l) went.0) c.as_slice.ensures.value went.1 in
    also_err _ _ c.print_lines.result (λ fault h. unlisted _ c.args.survey.now.why went.0 c.in_ok-lines.lines.text.items
    _ _ _ _ _ _ (message_of fault) c.in_ok-lines.ensures.silent are went.2.made went.2.lines h)
    c.print_lines.ensures.undelivered
