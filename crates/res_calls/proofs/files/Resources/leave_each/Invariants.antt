use Rattle.res_calls.proofs.Cited.{◌≡◌, length, managers, undone}
use Rattle.res_calls.proofs.LastOpened.{Leaves, LeftSome}
use Rattle.res_calls.proofs.files.Resources.leave_each.Given as goal

-- the code so far and the code of the rest is the code of all, and the rest is left as all is; some files were left; the
-- files with what was replaced so far are the files as they were
abbrev pub invariant-loop-alloc : goal.invariant-loop-alloc
invariant-loop-alloc g l = record {
  leaves : Leaves l.code (managers l.self l.heap.memory) (managers l.fn.self l.fn.heap.memory);
  some : LeftSome (managers l.self l.heap.memory) (managers l.fn.self l.fn.heap.memory);
  undone : undone l.undo.items l.self.files ≡ undone l.fn.undo.items l.fn.self.files;
}

abbrev pub decreases-loop-alloc : goal.decreases-loop-alloc
decreases-loop-alloc g l = length l.self.chain
