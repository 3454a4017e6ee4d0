use Rattle.res_calls.proofs.Cited.{ap, view_new, view_open}
use Rattle.res_calls.proofs.Joining.{file_added}
use Rattle.res_calls.proofs.adding.add_to.Goals as goal

pub returns-clause-answer : goal.returns-clause-answer
returns-clause-answer g c = λ r.
    file_added r c.args.files.now.items c.args.current c.in-Some.at c.index_mut.result.now c.add_in.new.file
    (view_new c.args.new) c.args.new.handle c.args.heap.now.memory c.set_resource.new.self.memory
    (rw c.deref.ensures.value at c.in-Some.ensures.within) c.index_mut.ensures.value
    (rw c.deref.ensures.value at c.in-Some.ensures.found) c.in_ok-add_in.ensures.map
    (ap view_open c.in_ok-add_in.ensures.touched) c.set_resource.ensures
