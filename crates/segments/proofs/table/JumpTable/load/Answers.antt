use Rattle.segments.proofs.Cited.{◌≡◌, pos, false, rules, int_eq, w16, to_z-of_z, managers, seen_fetched, program}
use Rattle.segments.proofs.Loading.{loaded_answer}
use Rattle.segments.proofs.table.JumpTable.load.Goals as goal

pub returns-clause-answer : goal.returns-clause-answer
returns-clause-answer g c =
    let segment = to_z-of_z w16 c.args.segment c.ranges.segment in
    let some : int_eq c.args.segment (pos 0) ≡ false = search rules in
    loaded_answer c.args.segment (program c.args.self.now c.args.resources.now c.args.heap.now.memory)
    c.in-Some.datum.now
    (seen_fetched c.in-Ok.fetched) c.in-Some-named.named (managers c.fetch_own.new.self c.fetch_own.new.heap.memory)
    c.load_entries.new.self c.hold_high.new.self.memory some
    (rw segment at c.in-Some.ensures) (rw segment at c.in-Ok.ensures.answer.0) (rw segment at c.in-Ok.ensures.answer.1)
    (rw segment at c.in-Some-named.ensures.named) c.load_entries.ensures c.hold_high.ensures
