use Rattle.fork_tasks.proofs.Cited.{◌+◌, rules, arith}
use Rattle.fork_tasks.proofs.Wholes.{below_limit}
use Rattle.fork_tasks.proofs.reading.read_all.Goals as goal

pub returns-in-Ok-clause-whole : goal.returns-in-Ok-clause-whole
returns-in-Ok-clause-whole g c =
    below_limit (g.R.Read.remaining c.args.reader.now) (c.args.most + 1) c.in_ok-bytes.bytes.items
    c.read_to_end.new.buf.items (search rules) (search (rules, arith)) (search rules)
