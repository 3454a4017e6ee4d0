use Rattle.desk.proofs.Cited.{◌∙◌, ◌++◌, ap, List, ℕ, end_line}
use Rattle.desk.proofs.Coming.{has_ended_so}
use Rattle.desk.proofs.live.Live.end.Goals as goal

pub returns-clause-came : goal.returns-clause-came
returns-clause-came g c = λ asked.
    let s = c.args.self.now in
    has_ended_so s.partition.window s.steps s.text.items c.write_end.new.text.items s.application c.end.new.self c.args.exit asked
    c.in_ok-code.code c.in_ok-code.ensures.code (c.in_ok-write_end.ensures.line
    ∙ ap (λ (t : List ℕ). t ++ end_line c.in_ok-code.code.0) c.reserve.ensures.items) c.in_ok-code.ensures.after
