use Rattle.zone_marks.proofs.Cited.{◌-◌, ◌%◌, arith, next-header, stepped}
use Rattle.zone_marks.proofs.Marks.Spanned.{span-made}
use Rattle.zone_marks.proofs.measuring.span_at.Goals as goal

pub read_word-first-requires : goal.read_word-first-requires
read_word-first-requires c =
    let h = next-header c.args.at c.args.part.now.bytes c.requires.way c.requires.some in
    (h.even, omega arith)

pub overflow_add-result : goal.overflow_add-result
overflow_add-result c =
    let h = next-header c.args.at c.args.part.now.bytes c.requires.way c.requires.some in
    let r = c.read_word-first in
    let s = stepped _ _ c.requires.way c.requires.some (r.result - r.result % 16) (r.result % 16) (omega arith)
    (omega arith) (omega arith) in
    omega arith

pub ends_run_at-requires-clause-inside : goal.ends_run_at-requires-clause-inside
ends_run_at-requires-clause-inside c = grind (arith, next-header)

pub returns : goal.returns
returns c = grind (arith, next-header, span-made)
