use Rattle.script_text.proofs.Cited.{◌≡◌, pos, rules, sym, ap, ◌∙◌, to_z, to_z-of_z, w16, FitsSigned}
use Rattle.script_text.proofs.Shown.{zero_told}
use Rattle.script_text.proofs.transcript.push_code.Goals as goal

pub returns-then-number-eq0-clause-code : goal.returns-then-number-eq0-clause-code
returns-then-number-eq0-clause-code c =
    let fits : FitsSigned w16 c.number.result = search rules in
    let same : c.number.result ≡ c.args.code.0 = search rules in
    let zero : c.number.result ≡ pos 0 = sym (to_z-of_z fits) ∙ ap (to_z w16) c.if-number-eq0.true in
    rw (zero_told c.args.code.0 (sym same ∙ zero)) c.in_ok-push.ensures.items
