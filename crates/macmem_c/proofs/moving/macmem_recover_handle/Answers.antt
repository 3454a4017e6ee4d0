use Rattle.macmem_c.proofs.Cited.{◌∙◌, Some, refl, sym, ap, rules, w32, SFits, Given, RecoverHandle, telling}
use Rattle.macmem_c.proofs.Serving.{serves-c, numbers}
use Rattle.macmem_c.proofs.moving.macmem_recover_handle.Goals as goal

pub returns-clause-served : goal.returns-clause-served
returns-clause-served c =
    let fits : SFits w32 c.handle_of.result = search rules in
    serves-c (RecoverHandle c.args.place) Given _ _
    c.recover_handle-found.result c.handle_of.result fits (λ n. refl) (record {
      before = _;
      after = _;
      was = c.take-boxed.ensures.taken ∙ ap Some (sym c.deref_mut-inside.ensures.value ∙ sym c.inside.view_is);
      is = c.of.ensures;
      answer = ap (telling Given) c.recover_handle-found.ensures.answer;
    })
    c.handle_of.ensures.code

pub returns-clause-number : goal.returns-clause-number
returns-clause-number c = numbers (RecoverHandle c.args.place) Given _ _ c.recover_handle-found.result _ _ (λ n. refl) (record {
  before = _;
  after = _;
  was = c.take-boxed.ensures.taken ∙ ap Some (sym c.deref_mut-inside.ensures.value ∙ sym c.inside.view_is);
  is = c.of.ensures;
  answer = ap (telling Given) c.recover_handle-found.ensures.answer;
}) c.handle_of.ensures.number
