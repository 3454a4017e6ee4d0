use Rattle.macmem_c.proofs.Cited.{◌∙◌, Some, refl, sym, ap, rules, w32, SFits, Number, HGetState, telling}
use Rattle.macmem_c.proofs.Serving.{serves-c, numbers}
use Rattle.macmem_c.proofs.properties.macmem_h_get_state.Goals as goal

pub returns-clause-served : goal.returns-clause-served
returns-clause-served c =
    let fits : SFits w32 c.state_of.result = search rules in
    serves-c (HGetState (Some c.args.handle)) Number _ _
    c.h_get_state-told.result c.state_of.result fits (λ n. refl) (record {
      before = _;
      after = _;
      was = c.take-boxed.ensures.taken ∙ ap Some (sym c.deref_mut-inside.ensures.value ∙ sym c.inside.view_is);
      is = c.of.ensures;
      answer = ap (telling Number) c.h_get_state-told.ensures.answer;
    })
    c.state_of.ensures.code

pub returns-clause-number : goal.returns-clause-number
returns-clause-number c = numbers (HGetState (Some c.args.handle)) Number _ _ c.h_get_state-told.result _ _ (λ n. refl) (record {
  before = _;
  after = _;
  was = c.take-boxed.ensures.taken ∙ ap Some (sym c.deref_mut-inside.ensures.value ∙ sym c.inside.view_is);
  is = c.of.ensures;
  answer = ap (telling Number) c.h_get_state-told.ensures.answer;
}) c.state_of.ensures.state
