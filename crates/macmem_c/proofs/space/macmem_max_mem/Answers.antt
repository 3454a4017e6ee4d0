use Rattle.macmem_c.proofs.Cited.{◌∙◌, Some, refl, sym, ap, rules, w32, SFits, Number, MaxMem}
use Rattle.macmem_c.proofs.Serving.{serves-in-c, numbers-in-c}
use Rattle.macmem_c.proofs.space.macmem_max_mem.Goals as goal

pub returns-clause-served : goal.returns-clause-served
returns-clause-served c =
    let fits : SFits w32 c.measure_in.result = search rules in
    serves-in-c MaxMem Number _ _
    c.max_mem-told.result c.measure_in.result fits (λ n. refl) (record {
      before = _;
      after = _;
      was = c.take-boxed.ensures.taken ∙ ap Some (sym c.deref_mut-inside.ensures.value ∙ sym c.inside.view_is);
      is = c.of.ensures;
      result = _;
      row = refl;
      answer = c.max_mem-told.ensures.answer;
    })
    c.measure_in.ensures.code

pub returns-clause-number : goal.returns-clause-number
returns-clause-number c =
    let fits : SFits w32 c.measure_in.result = search rules in
    numbers-in-c MaxMem Number _ _
    c.max_mem-told.result _ _ c.measure_in.result fits (λ n. refl) (record {
      before = _;
      after = _;
      was = c.take-boxed.ensures.taken ∙ ap Some (sym c.deref_mut-inside.ensures.value ∙ sym c.inside.view_is);
      is = c.of.ensures;
      result = _;
      row = refl;
      answer = c.max_mem-told.ensures.answer;
    })
    c.measure_in.ensures.number c.measure_in.ensures.code
