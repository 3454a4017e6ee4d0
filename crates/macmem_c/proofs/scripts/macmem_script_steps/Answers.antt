use Rattle.macmem_c.proofs.Cited.{rules, w32, SFits, IsShowing}
use Rattle.macmem_c.specs.declared.replaying.Showing.TheVariants as showing
use Rattle.macmem_c.proofs.Giving.{given}
use Rattle.macmem_c.proofs.scripts.macmem_script_steps.Goals as goal

pub returns-clause-run : goal.returns-clause-run
returns-clause-run c good =
    let fits : SFits w32 c.hand_over_script.result = search rules in
    given (λ v. v.items) (IsShowing c.args.size (showing.Steps c.args.from c.args.to) c.args.script.now)
    c.view_of.result _ _ _ _ _ _ _ _ fits
    c.view_of.ensures.shown c.view_of.ensures.fault c.hand_over_script.ensures.handed c.hand_over_script.ensures.stopped
