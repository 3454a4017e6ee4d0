use Rattle.macmem_c.proofs.Cited.{◌≡◌, true, rules, w32, SFits, state_words}
use Rattle.macmem_c.proofs.Writing.{written}
use Rattle.macmem_c.proofs.described.macmem_fork_check.Goals as goal

pub returns : goal.returns
returns c =
    let fits : SFits w32 c.give.result = search rules in
    written (λ v. v.items) (λ text. text ≡ state_words true c.args.file.now) c.state_of.result _ _ _ _ _ fits
    c.state_of.ensures c.give.ensures.given c.give.ensures.unchanged
