use Rattle.fork_edits.proofs.Cited.{sym, take_all}
use Rattle.fork_edits.proofs.file_names.shown.Goals as goal

pub returns-then-bytes-le-SHOWN : goal.returns-then-bytes-le-SHOWN
returns-then-bytes-le-SHOWN c = sym (take_all 48 c.args.bytes.now c.if-bytes-le-SHOWN.true)
