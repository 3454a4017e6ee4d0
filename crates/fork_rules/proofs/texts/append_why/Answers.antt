use Rattle.fork_rules.proofs.Cited.{sym}
use Rattle.fork_rules.proofs.Forming.{on_ok}
use Rattle.fork_rules.proofs.Keeping.{kept}
use Rattle.fork_rules.proofs.Reading.{damaged, undamaged}
use Rattle.fork_rules.proofs.texts.append_why.Goals as goal

pub append_whole-requires : goal.append_whole-requires
append_whole-requires c = kept c.args.bytes.now (sym c.in-None.ensures)

pub returns-in-Some : goal.returns-in-Some
returns-in-Some c = on_ok c.append_damaged.result (damaged c.args.bytes.now c.args.text.now.items _ c.in-Some.broken
    c.in-Some.ensures) c.append_damaged.ensures

pub returns-in-None : goal.returns-in-None
returns-in-None c = on_ok c.append_whole.result (undamaged c.args.bytes.now c.args.text.now.items _ c.in-None.ensures)
    c.append_whole.ensures
