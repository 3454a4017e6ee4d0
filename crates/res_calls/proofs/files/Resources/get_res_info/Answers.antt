use Rattle.res_calls.proofs.Cited.{seen_info, managers}
use Rattle.res_calls.specs.Rows as rows
use Rattle.res_calls.proofs.Noting.{is_noted}
use Rattle.res_calls.proofs.files.Resources.get_res_info.Goals as goal

pub returns-clause-answer : goal.returns-clause-answer
returns-clause-answer c = λ m. is_noted seen_info (rows.get_res_info c.args.handle)
    (managers c.args.self.now m) _ _ _ _ m
    (c.info_at-answer.ensures.answer m) c.note.ensures.answer c.note.ensures.noted
