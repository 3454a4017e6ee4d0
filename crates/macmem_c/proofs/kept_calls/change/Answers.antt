use Rattle.macmem_c.proofs.Cited.{◌∙◌, Some, refl, sym, ap, rules, w32, SFits, done, changing}
use Rattle.macmem_c.proofs.Serving.{serves-c}
use Rattle.macmem_c.proofs.kept_calls.change.Goals as goal

pub returns : goal.returns
returns c =
    let fits : SFits w32 c.code_of.result = search rules in
    serves-c (changing c.args.call (Some c.args.name)) done _ _ c.apply-done.result c.code_of.result fits (λ n. refl) (record {
      before = _;
      after = _;
      was = c.take-boxed.ensures.taken ∙ ap Some (sym c.deref_mut-inside.ensures.value ∙ sym c.inside.view_is);
      is = c.of.ensures;
      answer = c.apply-done.ensures.answer.row;
    }) c.code_of.ensures
