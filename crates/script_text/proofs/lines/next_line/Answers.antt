use Rattle.script_text.proofs.Cited.{◌≡◌, ◌+◌, take, rules, strip_carriage_return}
use Rattle.script_text.proofs.Cutting.{cut_line, last_line, at_end}
use Rattle.script_text.proofs.Digits.{all_behind}
use Rattle.script_text.proofs.lines.next_line.Goals as goal

pub returns-in-Some-clause-lines : goal.returns-in-Some-clause-lines
returns-in-Some-clause-lines c =
    let stripped : c.without_return.result.now ≡ strip_carriage_return (take c.in-Some.end c.args.text.now)
    = search rules in
    rw (all_behind (c.in-Some.end + 1) c.args.text.now, stripped)
    (cut_line c.args.text.now c.in-Some.end c.in-Some.ensures)

pub returns-in-None-clause-lines : goal.returns-in-None-clause-lines
returns-in-None-clause-lines c = rw (at_end c.args.text.now) (last_line c.args.text.now c.requires c.in-None.ensures)
