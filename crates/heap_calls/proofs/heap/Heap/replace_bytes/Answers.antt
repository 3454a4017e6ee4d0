use Rattle.heap_calls.proofs.Cited.{◌≡◌, ◌∙◌, err_from_is_err_and, pointer_to_x_hand, doing_silently}
use Rattle.heap_calls.proofs.Exchanging.{replace-written}
use Rattle.heap_calls.proofs.Numbering.Memories.{reply-as}
use Rattle.heap_calls.proofs.heap.Heap.replace_bytes.Given.{Over}
use Rattle.heap_calls.proofs.heap.Heap.replace_bytes.Goals.{After-write_block}
use Rattle.heap_calls.proofs.heap.Heap.replace_bytes.Goals as goal

-- what the call answers where the block got the size
told : (g : Over) (c : After-write_block g)
    → doing_silently (pointer_to_x_hand c.args.handle c.args.bytes.now) c.args.self.now.memory
    ≡ (c.write_block.result, c.write_block.new.self.memory)
told g c =
    replace-written c.args.handle c.args.bytes.now c.size_of.result c.args.self.now.memory c.give_size.new.self.memory
    c.size_of.ensures c.a_heap_tells_what_goes.ensures.once c.in-Ok.ensures.answer ∙ c.write_block.ensures.answer

pub returns-in_err-write_block-in-Ok-clause-answer : goal.returns-in_err-write_block-in-Ok-clause-answer
returns-in_err-write_block-in-Ok-clause-answer g c =
    let p = err_from_is_err_and c.from_residual.result c.from_residual.ensures.1 in
    rw (p.1, p.2)
    (reply-as (told g (goal.at.returns-in_err-write_block-in-Ok-clause-answer g c).After-write_block)
    c.in_err-write_block-in-Ok.was)

pub returns-in_ok-write_block-in-Ok-clause-answer : goal.returns-in_ok-write_block-in-Ok-clause-answer
returns-in_ok-write_block-in-Ok-clause-answer g c =
    reply-as (told g (goal.at.returns-in_ok-write_block-in-Ok-clause-answer g c).After-write_block)
    c.in_ok-write_block-in-Ok.was
