use Rattle.heap_calls.proofs.Cited.{◌≡◌, ◌∙◌, arith, err_from_is_err_and, exchanged, doing_silently}
use Rattle.heap_calls.proofs.Munged.{widened-fits, widened-is}
use Rattle.heap_calls.proofs.Numbering.Memories.{reply-as}
use Rattle.heap_calls.proofs.heap.Heap.widen.Given.{Over}
use Rattle.heap_calls.proofs.heap.Heap.widen.Goals.{After-shift}
use Rattle.heap_calls.proofs.heap.Heap.widen.Goals as goal

-- what the call answers where the block got the size
told : (g : Over) (c : After-shift g)
    → doing_silently (exchanged c.args.handle c.args.found c.args.new.now) c.args.self.now.memory
    ≡ (c.shift.result, c.shift.new.self.memory)
told g c =
    widened-is c.args.handle c.args.found c.args.new.now c.args.len c.args.self.now.memory c.requires.has c.requires.within
    c.size_with-size.result c.size_with-size.ensures (omega (arith, c.requires.more)) c.a_heap_tells_what_goes.ensures.once
    c.give_size.new.self.memory c.in-Ok.ensures.answer ∙ c.shift.ensures.answer

pub shift-requires-clause-fits : goal.shift-requires-clause-fits
shift-requires-clause-fits g c =
    widened-fits c.args.handle c.args.found c.args.new.now c.args.len c.args.self.now.memory c.requires.has c.requires.within
    c.size_with-size.result c.size_with-size.ensures (omega (arith, c.requires.more)) c.a_heap_tells_what_goes.ensures.once
    c.give_size.new.self.memory c.in-Ok.ensures.answer c.a_heap_tells_what_goes-in-Ok.ensures.small

pub returns-in_err-shift-in-Ok-clause-answer : goal.returns-in_err-shift-in-Ok-clause-answer
returns-in_err-shift-in-Ok-clause-answer g c =
    let p = err_from_is_err_and c.from_residual.result c.from_residual.ensures.1 in
    rw (p.1, p.2) (reply-as (told g (goal.at.returns-in_err-shift-in-Ok-clause-answer g c).After-shift)
    c.in_err-shift-in-Ok.was)

pub returns-in_ok-shift-in-Ok-clause-answer : goal.returns-in_ok-shift-in-Ok-clause-answer
returns-in_ok-shift-in-Ok-clause-answer g c =
    reply-as (told g (goal.at.returns-in_ok-shift-in-Ok-clause-answer g c).After-shift) c.in_ok-shift-in-Ok.was

pub returns-in_ok-shift-in-Ok-clause-fits : goal.returns-in_ok-shift-in-Ok-clause-fits
returns-in_ok-shift-in-Ok-clause-fits g c =
    widened-fits c.args.handle c.args.found c.args.new.now c.args.len c.args.self.now.memory c.requires.has c.requires.within
    c.size_with-size.result c.size_with-size.ensures (omega (arith, c.requires.more)) c.a_heap_tells_what_goes.ensures.once
    c.give_size.new.self.memory c.in-Ok.ensures.answer c.a_heap_tells_what_goes-in-Ok.ensures.small
