use Rattle.res_calls.proofs.Preloads.{loaded_file, loaded_memory, tells_loaded}
use Rattle.res_calls.proofs.preloading.preload_told.Goals as goal

pub returns-clause-file : goal.returns-clause-file
returns-clause-file g c all = loaded_file c.args.file.now c.give_all.new.file c.args.heap.now.memory
    c.make_told.new.heap.memory _
    c.make_told.new.numbers.items (c.in_ok-whole.ensures.all all) c.give_all.ensures c.deref.ensures.value

pub returns-clause-heap : goal.returns-clause-heap
returns-clause-heap g c all = loaded_memory c.args.file.now.references c.args.heap.now.memory
    c.make_told.new.heap.memory
    c.make_told.new.numbers.items (c.in_ok-whole.ensures.all all)

pub returns-clause-hears : goal.returns-clause-hears
returns-clause-hears g c = record {
  tells = λ all listens.
      tells_loaded g.K.PurgeSink.told c.args.file.now.references c.args.heap.now.memory
      c.args.sink.now c.make_told.new.sink (c.in_ok-whole.ensures.hears.tells all listens);
  rests = c.in_ok-whole.ensures.hears.rests;
}
