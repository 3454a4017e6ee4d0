use Rattle.heap_calls.proofs.Filled.Owned.{owned-emptied}
use Rattle.heap_calls.proofs.heap.Heap.new_empty_resource.Goals as goal

pub returns-clause-answer : goal.returns-clause-answer
returns-clause-answer g c =
    rw c.own.ensures.answer (owned-emptied c.args.guarded c.args.self.now.memory
    c.make_empty_handle-answer.new.self.memory
    c.own.new.self.memory c.make_empty_handle-answer.result c.make_empty_handle-answer.ensures.answer
    c.own.ensures.owned)
