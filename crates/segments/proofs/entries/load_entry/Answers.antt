use Rattle.segments.proofs.Cited.{arith}
use Rattle.segments.proofs.Marking.{load_put, load_past}
use Rattle.segments.proofs.entries.load_entry.Goals as goal

pub returns-then-at-entries : goal.returns-then-at-entries
returns-then-at-entries c =
    load_put c.args.entries.now c.args.at c.set_loaded.result _ (omega arith) c.set_loaded.ensures

pub returns-else-at-entries : goal.returns-else-at-entries
returns-else-at-entries c = load_past c.args.entries.now c.args.at (omega arith)
