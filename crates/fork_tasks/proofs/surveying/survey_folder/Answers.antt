use Rattle.fork_tasks.proofs.Cited.{List, map, string_bytes, subst, Access, AreSeen, Went}
use Rattle.std.specs.Prelude.{OnOk}
use Rattle.fork_tasks.proofs.Surveyed.{folder_surveyed, folder_stopped}
use Rattle.fork_tasks.proofs.surveying.survey_folder.Goals as goal

pub returns-in-Ok-clause-surveyed : goal.returns-in-Ok-clause-surveyed
returns-in-Ok-clause-surveyed g c =
    folder_surveyed _ _ _ (map string_bytes c.in-Ok.files.items) _ _ _ _ _ _ _ c.in-Ok.ensures.listed
    (subst (λ l. OnOk c.survey_files.result ((seen : List Access) × AreSeen (map string_bytes l) seen
    × Went c.args.why seen (g.H.Host.accesses c.list.new.self) (g.H.Host.accesses c.survey_files.new.host)
    c.args.lines.now.text.items c.survey_files.new.lines.text.items c.args.lines.now.good c.survey_files.new.lines.good))
    c.as_slice.ensures.value c.survey_files.ensures.seen)

pub returns-in-Ok-clause-stopped : goal.returns-in-Ok-clause-stopped
returns-in-Ok-clause-stopped g c =
    folder_stopped _ _ _ _ _ _ c.in-Ok.ensures.listed c.survey_files.ensures.stopped
