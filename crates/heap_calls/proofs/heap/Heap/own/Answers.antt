use Rattle.heap_calls.proofs.Cited.{sym, ◌∙◌, ap, inside, owned_by}
use Rattle.heap_calls.proofs.Filled.Owned.{own-done}
use Rattle.heap_calls.proofs.heap.Heap.own.Goals as goal

pub returns-in-Ok-clause-owned : goal.returns-in-Ok-clause-owned
returns-in-Ok-clause-owned g c =
    own-done c.args.guarded c.in-Ok.number c.args.self.now.memory c.set_resource.new.self.memory
    c.set_guard.new.self.memory
    c.set_resource.ensures c.set_guard.ensures
    ∙ ap (λ r. inside (owned_by c.args.guarded r) c.args.self.now.memory) (sym c.in-Ok.is)
