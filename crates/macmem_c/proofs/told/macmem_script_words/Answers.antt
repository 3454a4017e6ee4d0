use Rattle.macmem_c.proofs.Cited.{rules, w32, SFits, IsTold}
use Rattle.macmem_c.proofs.Giving.{given}
use Rattle.macmem_c.proofs.told.macmem_script_words.Goals as goal

pub returns-clause-run : goal.returns-clause-run
returns-clause-run c good =
    let fits : SFits w32 c.hand_over_script.result = search rules in
    given (λ v. v.items) (IsTold c.args.size c.args.from c.args.to c.args.script.now) c.words_of.result _ _ _ _ _ _ _ _ fits
    c.words_of.ensures.told c.words_of.ensures.fault c.hand_over_script.ensures.handed c.hand_over_script.ensures.stopped
