use Rattle.res_calls.proofs.Preloads.{loaded_file, loaded_memory}
use Rattle.res_calls.proofs.preloading.preload.Goals as goal

pub returns-clause-file : goal.returns-clause-file
returns-clause-file g c = loaded_file c.args.file.now c.give_all.new.file c.args.heap.now.memory
    c.make_all.new.heap.memory _
    c.in_ok-numbers.numbers.items c.in_ok-numbers.ensures.answer c.give_all.ensures c.deref.ensures.value

pub returns-clause-heap : goal.returns-clause-heap
returns-clause-heap g c = loaded_memory c.args.file.now.references c.args.heap.now.memory c.make_all.new.heap.memory
    c.in_ok-numbers.numbers.items c.in_ok-numbers.ensures.answer
