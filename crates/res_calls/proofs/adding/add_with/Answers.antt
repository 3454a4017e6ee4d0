use Rattle.res_calls.proofs.Cited.{◌≡◌, ◌==◌, ◌∙◌, sym, false, arith, ne_eqb, managers, chained, view_new}
use Rattle.res_calls.proofs.Joining.{added_found}
use Rattle.res_calls.proofs.adding.add_with.Goals as goal

pub returns-clause-answer : goal.returns-clause-answer
returns-clause-answer g c = λ r role current known.
    let some : (c.args.current == 0) ≡ false =
    ne_eqb c.args.current 0 (λ e. omega (arith, e, c.if-current-eq0.false)) in
    added_found role (view_new c.args.new) c.args.new.handle c.args.current
    (managers (chained c.args.files.now.items r) c.args.heap.now.memory) _ _ known
    (sym c.is_resource.ensures ∙ c.if-is_resource.false) (sym c.has_block.ensures ∙ c.if-not-has_block.false) current
    some (c.add_to.ensures.answer r)
