use Rattle.res_calls.proofs.Cited.{Resources, managers, stored_in, resources_of}
use Rattle.res_calls.proofs.LastOpened.{last_left, sound_left_last}
use Rattle.res_calls.proofs.files.Resources.leave_last.Goals as goal

pub invariant_of-self-2 : goal.invariant_of-self-2
invariant_of-self-2 g c =
    let r : Resources = resources_of c.self.inside.files.items c.self.inside.chain.items c.self.inside.current
    c.self.inside.next c.self.inside.loading c.self.inside.purging c.self.inside.error in
    sound_left_last r c.args.self.now (stored_in c.update_last.new.files.items c.update_last.new.chain.items r)
    c.args.heap.now.memory c.in_ok-code.code
    (managers (resources_of c.update_last.new.files.items c.close_last-self-inside.new.chain.items
    c.close_last-self-inside.result c.self.inside.next c.self.inside.loading c.self.inside.purging c.self.inside.error)
    c.close_last-self-inside.new.heap.memory)
    c.self.view_is c.requires (c.in_ok-code.ensures.answer r)
    (c.close_last-self-inside.ensures.closed c.update_last.new.files.items r) c.self.invariant

pub returns-clause-code : goal.returns-clause-code
returns-clause-code g c =
    let r : Resources = resources_of c.self.inside.files.items c.self.inside.chain.items c.self.inside.current
    c.self.inside.next c.self.inside.loading c.self.inside.purging c.self.inside.error in
    (last_left r c.args.self.now (stored_in c.update_last.new.files.items c.update_last.new.chain.items r)
    c.args.heap.now.memory c.in_ok-code.code
    (managers (resources_of c.update_last.new.files.items c.close_last-self-inside.new.chain.items
    c.close_last-self-inside.result c.self.inside.next c.self.inside.loading c.self.inside.purging c.self.inside.error)
    c.close_last-self-inside.new.heap.memory)
    c.self.view_is c.requires (c.in_ok-code.ensures.answer r)
    (c.close_last-self-inside.ensures.closed c.update_last.new.files.items r)).0

pub returns-clause-after : goal.returns-clause-after
returns-clause-after g c =
    let r : Resources = resources_of c.self.inside.files.items c.self.inside.chain.items c.self.inside.current
    c.self.inside.next c.self.inside.loading c.self.inside.purging c.self.inside.error in
    (last_left r c.args.self.now (stored_in c.update_last.new.files.items c.update_last.new.chain.items r)
    c.args.heap.now.memory c.in_ok-code.code
    (managers (resources_of c.update_last.new.files.items c.close_last-self-inside.new.chain.items
    c.close_last-self-inside.result c.self.inside.next c.self.inside.loading c.self.inside.purging c.self.inside.error)
    c.close_last-self-inside.new.heap.memory)
    c.self.view_is c.requires (c.in_ok-code.ensures.answer r)
    (c.close_last-self-inside.ensures.closed c.update_last.new.files.items r)).1
