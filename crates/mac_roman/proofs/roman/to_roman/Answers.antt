use Rattle.mac_roman.proofs.Cited.{◌≡◌, ◌∙◌, sym, ap, subst, Ok, IfOk, IfErr, chars, Stops, bytes_of, to_roman}
use Rattle.mac_roman.proofs.Encoding.{utf8_made, raw_made}
use Rattle.mac_roman.proofs.roman.to_roman.Goals.{In-Ok}
use Rattle.mac_roman.proofs.roman.to_roman.Goals as goal

made : (c : In-Ok) → bytes_of (chars c.in-Ok.text.now) ≡ to_roman c.args.text.now
made c = ap (λ t. bytes_of (chars t)) c.in-Ok.ensures.cases.0 ∙ sym (utf8_made c.args.text.now c.in-Ok.ensures.cases.1)

pub returns-in-Ok-clause-made : goal.returns-in-Ok-clause-made
returns-in-Ok-clause-made c = subst (λ r. IfOk c.encoded_text.result (λ out. r ≡ Ok out.items))
    (made (goal.at.returns-in-Ok-clause-made c).In-Ok) c.encoded_text.ensures.made

pub returns-in-Ok-clause-fault : goal.returns-in-Ok-clause-fault
returns-in-Ok-clause-fault c = subst (λ r. IfErr c.encoded_text.result (λ fault. Stops fault r))
    (made (goal.at.returns-in-Ok-clause-fault c).In-Ok) c.encoded_text.ensures.fault

pub returns-in_ok-copied-in-Err-clause-made : goal.returns-in_ok-copied-in-Err-clause-made
returns-in_ok-copied-in-Err-clause-made c =
    raw_made c.args.text.now c.in-Err.ensures.cases.0 ∙ ap Ok (sym c.in_ok-copied-in-Err.ensures)
