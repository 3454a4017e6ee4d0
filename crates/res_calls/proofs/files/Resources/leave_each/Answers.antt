use Rattle.res_calls.proofs.Cited.{◌∙◌, sym, refl, on_err, managers}
use Rattle.res_calls.proofs.LastOpened.{leaves-lies, leaves_next, one_more, stops_there}
use Rattle.res_calls.proofs.files.Resources.leave_each.Goals as goal

pub returns-in_err-next-clause-lies : goal.returns-in_err-next-clause-lies
returns-in_err-next-clause-lies g c =
    c.in_err-next.ensures.lies
    ∙ leaves-lies c.loop-alloc.code (managers c.loop-alloc.self c.loop-alloc.heap.memory)
    (managers c.args.self.now c.args.heap.now.memory) c.loop-alloc.invariant.leaves

pub returns-clause-lies : goal.returns-clause-lies
returns-clause-lies g c = leaves-lies c.loop-alloc.code (managers c.loop-alloc.self c.loop-alloc.heap.memory)
    (managers c.args.self.now c.args.heap.now.memory) c.loop-alloc.invariant.leaves

pub loop-alloc-preserved : goal.loop-alloc-preserved
loop-alloc-preserved g c = record {
  leaves = rw c.first_code-code.ensures
      (leaves_next c.loop-alloc.code c.in_ok-next.next (managers c.loop-alloc.self c.loop-alloc.heap.memory)
      (managers c.leave_last.new.self c.leave_last.new.heap.memory) (managers c.args.self.now c.args.heap.now.memory)
      (sym c.has_own.ensures ∙ c.loop-alloc-test.true) c.in_ok-next.ensures.code c.in_ok-next.ensures.after
      c.loop-alloc.invariant.leaves);
  some = one_more (managers c.loop-alloc.self c.loop-alloc.heap.memory)
      (managers c.leave_last.new.self c.leave_last.new.heap.memory) (managers c.args.self.now c.args.heap.now.memory)
      c.in_ok-next.ensures.after c.loop-alloc.invariant.some;
  undone = c.in_ok-next.ensures.undone ∙ c.loop-alloc.invariant.undone;
}

pub returns-in_err-next-clause-stopped : goal.returns-in_err-next-clause-stopped
returns-in_err-next-clause-stopped g c =
    on_err c.from_residual.result _
    (stops_there (managers c.loop-alloc.self c.loop-alloc.heap.memory) (managers c.leave_last.new.self
    c.leave_last.new.heap.memory)
    (managers c.args.self.now c.args.heap.now.memory) (sym c.has_own.ensures ∙ c.loop-alloc-test.true)
    (rw (c.in_err-next.ensures.kept, c.in_err-next.ensures.heap) refl) c.loop-alloc.invariant.some)
