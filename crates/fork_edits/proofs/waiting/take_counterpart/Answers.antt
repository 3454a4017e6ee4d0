use Rattle.fork_edits.proofs.Cited.{map, view_row, waits}
use Rattle.fork_edits.proofs.Queues.{first_waits, others_wait, shrunk_rows}
use Rattle.fork_edits.proofs.waiting.take_counterpart.Goals as goal

pub returns-clause-found : goal.returns-clause-found
returns-clause-found c rows waiting =
    first_waits c.key_of-key.result (view_row c.args.row.now) rows (waits c.args.waiting.now c.key_of-key.result)
    c.take_queue-queue.result.rows.items c.pop_front-first.new.self.items c.pop_front-first.result c.take_queue-queue.result.rows.len
    c.pop_front-first.new.self.len _ c.key_of-key.ensures c.take_queue-queue.ensures.queue
    (waiting c.key_of-key.result) c.pop_front-first.ensures.items c.take_queue-queue.result.rows.ok.0 c.pop_front-first.ensures.cases

pub returns-clause-others : goal.returns-clause-others
returns-clause-others c rows waiting q =
    others_wait c.key_of-key.result (view_row c.args.row.now) (map view_row c.pop_front-first.new.self.items) rows
    (waits c.args.waiting.now) (waits c.take_queue-queue.new.waiting) (waits c.put_queue.new.waiting) c.key_of-key.ensures waiting
    c.take_queue-queue.ensures.rest c.in_ok-put_queue.ensures
    (shrunk_rows c.take_queue-queue.result.rows.items c.pop_front-first.new.self.items (waits c.args.waiting.now c.key_of-key.result)
    c.pop_front-first.ensures.rest c.take_queue-queue.ensures.queue) q
