use Rattle.rez_text.proofs.Cited.{subst, ◌∙◌, GivesAt, bytes_in}
use Rattle.rez_text.proofs.Decoding.{decoded_utf8, decoded_other}
use Rattle.rez_text.proofs.coding.decoded.Goals as goal

pub returns-in-Ok : goal.returns-in-Ok
returns-in-Ok c = subst (GivesAt bytes_in c.converted.result)
    (decoded_utf8 c.args.text.now c.in-Ok.characters.now c.in-Ok.ensures.cases.0 c.in-Ok.ensures.cases.1) c.converted.ensures

pub returns-in-Err : goal.returns-in-Err
returns-in-Err c = decoded_other c.args.text.now c.last_line_of.result c.valid_up_to.result c.in-Err.ensures.cases.0
    (c.valid_up_to.ensures ∙ c.in-Err.ensures.valid_len) c.last_line_of.ensures
