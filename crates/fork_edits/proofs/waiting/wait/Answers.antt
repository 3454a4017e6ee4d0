use Rattle.fork_edits.proofs.Cited.{◌∙◌, ◌∷◌, ◌++◌, [], ap, map, Row, view_row, waits}
use Rattle.fork_edits.proofs.Queues.{one_more_waits}
use Rattle.fork_edits.proofs.waiting.wait.Goals as goal

pub returns : goal.returns
returns c rows waiting q =
    let x : Row = view_row c.args.row.now in
    one_more_waits c.key_of-key.result x (map view_row c.join.new.queue.rows.items) rows (waits c.args.waiting.now)
    (waits c.take_queue-queue.new.waiting) (waits c.put_queue.new.waiting) c.key_of-key.ensures waiting c.take_queue-queue.ensures.rest
    c.in_ok-put_queue.ensures (c.in_ok-join.ensures ∙ ap (λ l. l ++ x ∷ []) c.take_queue-queue.ensures.queue) q
