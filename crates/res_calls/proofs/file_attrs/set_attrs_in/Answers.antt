use Rattle.res_calls.proofs.Cited.{◌≡◌, ◌==◌, ap, false, arith, ne_eqb, view_open}
use Rattle.res_calls.proofs.FileAttrs.{attrs_set}
use Rattle.res_calls.proofs.file_attrs.set_attrs_in.Goals as goal

pub returns-clause-answer : goal.returns-clause-answer
returns-clause-answer c = λ r m.
    let own : (c.args.number == 0) ≡ false = ne_eqb c.args.number 0 (λ e. omega (arith, e, c.if-number-eq0.false)) in
    attrs_set c.args.number c.args.attrs c.in-Some.at c.args.chain.now.items c.index_mut.result.now c.put_attrs.new.file r
    m (rw c.deref.ensures.value at c.in-Some.ensures.within) c.index_mut.ensures.value
    (rw c.deref.ensures.value at c.in-Some.ensures.found) own c.put_attrs.ensures.map
    (ap view_open c.put_attrs.ensures.touched)
