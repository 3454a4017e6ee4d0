use Rattle.script_text.proofs.Cited.{sym, ◌∙◌, ltb-true}
use Rattle.script_text.proofs.JobKnown.{may_have_there, may_have_past}
use Rattle.script_text.proofs.owners.may_own.Goals as goal

pub returns-in-Some : goal.returns-in-Some
returns-in-Some c =
    let (below, here, _, _, _) = c.in-Some.ensures.lookup in
    c.may_have.ensures
    ∙ may_have_there c.args.number c.args.name.now.0.items c.args.owners.now c.in-Some.owner.now (ltb-true _ _ (sym below)) here

pub returns-in-None : goal.returns-in-None
returns-in-None c =
    let (_, _, _, past, _) = c.in-None.ensures.lookup in
    may_have_past c.args.number c.args.name.now.0.items c.args.owners.now past
