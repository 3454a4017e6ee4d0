use Rattle.lint.proofs.Cited.{◌≡◌, ◌+◌, ◌++◌, ◌∙◌, ◌==◌, true, length, map, sym, ap, rules, script_faults, unfinished_lines, seen}
use Rattle.lint.proofs.Stepping.{at_end}
use Rattle.lint.proofs.script.script_faults.Goals as goal

pub returns : goal.returns
unfolding script_faults
returns c =
    let so_far = map seen c.loop-rest.faults.items in
    let empty : (length c.loop-rest.rest.now == 0) ≡ true = search rules in
    let unfinished : map seen c.say_unfinished.new.faults.items ≡ so_far ++ unfinished_lines c.loop-rest.above
    = search rules in
    unfinished ∙ ap (λ faults. so_far ++ faults) (sym (at_end (c.loop-rest.number + 1) c.loop-rest.above c.loop-rest.rest.now empty))
    ∙ c.loop-rest.invariant.1
