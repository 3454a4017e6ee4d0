use Rattle.script_text.proofs.Cited.{◌≡◌, true, length, rules, ◌==◌, input_seen, may_follow}
use Rattle.script_text.proofs.JobKept.{kept_with_input}
use Rattle.script_text.proofs.job_lines.JobLines.add_input.Goals as goal

pub invariant_of-self-then-fits : goal.invariant_of-self-then-fits
invariant_of-self-then-fits c =
    let none : (length c.self.inside.events.items == 0) ≡ true = search rules in
    let fits : may_follow c.self.inside.inputs (input_seen c.args.input) ≡ true = search rules in
    kept_with_input c.self.inside.memory c.self.inside.inputs c.push.new.self (input_seen c.args.input)
    c.self.inside.events.items c.in_ok-push.ensures.added c.self.invariant none fits
