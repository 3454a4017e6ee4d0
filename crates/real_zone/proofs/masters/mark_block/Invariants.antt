use Rattle.real_zone.proofs.Cited.{◌≡◌, ◌+◌, ◌*◌, ◌-◌, ◌++◌, marks, block_marks}
use Rattle.real_zone.proofs.masters.mark_block.Given as goal

-- the marks so far, with those that are left, are all
abbrev pub invariant-loop : goal.invariant-loop
invariant-loop l = record {
  place : l.master ≡ l.at + 2 * l.counter;
  marked : l.marks.items ++ marks l.form l.bytes l.at (l.count - l.counter) l.master
      ≡ l.fn.marks.items ++ block_marks l.form l.bytes l.at;
}
