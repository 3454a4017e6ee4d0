use Rattle.script_text.proofs.Cited.{sym, ◌∙◌}
use Rattle.script_text.proofs.Digits.{over}
use Rattle.script_text.proofs.argument.number_up_to.Goals as goal

pub returns-then-next-limit : goal.returns-then-next-limit
returns-then-next-limit c =
    let digit = sym c.is_ascii_digit.ensures.value ∙ c.if-not-is_ascii_digit.false in
    sym (over c.args.limit c.loop-rest.found c.loop-rest.rest.now c.in-len1-up.len_at_least digit c.if-next-limit.true)
    ∙ c.loop-rest.invariant.1
