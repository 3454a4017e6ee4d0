use Rattle.heap_calls.proofs.Munged.{narrowed-is, narrowed-kept, narrowed-never}
use Rattle.heap_calls.proofs.heap.Heap.narrow.Goals as goal

pub unreachable-requires : goal.unreachable-requires
unreachable-requires g c =
    narrowed-never c.args.handle c.args.found c.args.new.now c.args.len c.args.self.now.memory c.requires.has
    c.requires.within c.requires.less c.requires.small c.shift.result c.shift.new.self.memory c.shift.ensures.answer
    c.in_default.field-0 c.in_default.is

pub returns-clause-answer : goal.returns-clause-answer
returns-clause-answer g c =
    narrowed-is c.args.handle c.args.found c.args.new.now c.args.len c.args.self.now.memory c.requires.has
    c.requires.within c.requires.less c.requires.small c.shift.result c.shift.new.self.memory c.shift.ensures.answer
    c.size_with-size.result c.size_with-size.ensures c.give_size.result c.give_size.new.self.memory
    c.give_size.ensures.answer

pub returns-clause-kept : goal.returns-clause-kept
returns-clause-kept g c =
    narrowed-kept c.args.handle c.args.found c.args.new.now c.args.len c.args.self.now.memory c.requires.has
    c.requires.within c.requires.less c.requires.small c.shift.result c.shift.new.self.memory c.shift.ensures.answer
    c.size_with-size.result c.size_with-size.ensures c.give_size.result c.give_size.new.self.memory
    c.give_size.ensures.answer (λ host. (c.give_size.ensures.stops host).kept)
