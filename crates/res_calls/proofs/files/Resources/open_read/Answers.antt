use Rattle.res_calls.proofs.Cited.{rules, resources_of}
use Rattle.res_calls.proofs.Soundness.Methods.{opened_in, opened_stopped}
use Rattle.res_calls.proofs.files.Resources.open_read.Goals as goal

pub invariant_of-self-2 : goal.invariant_of-self-2
invariant_of-self-2 g c = opened_in c.self.inside.chain.items c.put_first.new.chain.items
    (resources_of c.self.inside.files.items c.self.inside.chain.items c.self.inside.current c.self.inside.next
    c.self.inside.loading c.self.inside.purging c.self.inside.error) c.args.self.now c.args.heap.now.memory c.args.at
    c.args.read c.self.invariant
    c.self.view_is c.requires.place c.requires.read (c.in_ok-whole.ensures.chain (search rules))

pub invariant_of-self-then-not-whole : goal.invariant_of-self-then-not-whole
invariant_of-self-then-not-whole g c = opened_stopped g.K.PurgeSink.told g.S.BlockStore.TAKES_HOST c.self.inside.loading
    c.self.inside.chain.items c.put_first.new.chain.items
    (resources_of c.self.inside.files.items c.self.inside.chain.items c.self.inside.current c.self.inside.next
    c.self.inside.loading c.self.inside.purging c.self.inside.error) c.args.self.now c.args.heap.now.memory
    c.put_first.new.heap.memory
    c.args.at c.args.read c.args.sink.now c.put_first.new.sink c.self.invariant
    c.self.view_is c.requires.place c.requires.read (c.in_ok-whole.ensures.stopped (search rules))
