use Rattle.res_calls.proofs.Cited.{resources_of}
use Rattle.res_calls.proofs.Soundness.Methods.{loaded_first}
use Rattle.res_calls.proofs.files.Resources.preload.Goals as goal

pub invariant_of-self : goal.invariant_of-self
invariant_of-self g c = loaded_first c.self.inside.chain.items c.load_first.new.chain.items
    (resources_of c.self.inside.files.items c.self.inside.chain.items c.self.inside.current c.self.inside.next
    c.self.inside.loading c.self.inside.purging c.self.inside.error) c.args.heap.now.memory c.load_first.new.heap.memory
    c.load_first.result
    c.self.invariant c.load_first.ensures.done c.load_first.ensures.kept
