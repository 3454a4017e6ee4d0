use Rattle.fork_tasks.proofs.Cited.{◌++◌, ◌∙◌, false, ap, flat_map, message_of, line_of, IsFolderSurveyed}
use Rattle.fork_tasks.proofs.Accesses.{also_err}
use Rattle.fork_tasks.proofs.Surveyed.{unlisted}
use Rattle.fork_tasks.proofs.surveying.print_folder.Goals as goal

-- the lines were not printed to their end
pub returns-clause-undone : goal.returns-clause-undone
returns-clause-undone g c =
    let went = c.in_ok-survey_folder.ensures.surveyed in
    let all = went.2.lines ∙ ap (λ text. text ++ flat_map (line_of false) went.0) c.new-lines.ensures.text in
    also_err _ _ c.print_lines.result (λ fault h. unlisted (IsFolderSurveyed c.args.folder.now) false went.0
    c.survey_folder.new.lines.text.items _ _ _ _ _ _ (message_of fault) c.in_ok-survey_folder.ensures.silent went.1 went.2.made
    all h) c.print_lines.ensures.undelivered
