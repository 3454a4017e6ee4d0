use Rattle.heap_calls.proofs.Filled.Owned.{owned-answer}
use Rattle.heap_calls.proofs.heap.Heap.new_resource.Goals as goal

pub returns-clause-answer : goal.returns-clause-answer
returns-clause-answer g c =
    rw c.own.ensures.answer (owned-answer c.args.guarded c.args.flags c.args.bytes.now c.args.self.now.memory
    c.fill_handle-answer.new.self.memory c.own.new.self.memory c.fill_handle-answer.result
    c.fill_handle-answer.ensures.answer
    c.own.ensures.owned)
