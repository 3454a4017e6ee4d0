use Rattle.res_calls.proofs.Cited.{Some, subst, Memory, Resources, resources_of, IsAnswered, managers, write_part_found, found_from}
use Rattle.res_calls.proofs.Cited.{chained}
use Rattle.res_calls.specs.Partial as partial
use Rattle.res_calls.proofs.Noting.{found_so}
use Rattle.res_calls.proofs.Soundness.Calls.{write_part_found_sound}
use Rattle.res_calls.proofs.Soundness.Methods.{answered_in}
use Rattle.res_calls.proofs.files.Resources.write_part.Goals as goal

pub invariant_of-self : goal.invariant_of-self
invariant_of-self g c =
    let r : Resources = resources_of c.self.inside.files.items c.self.inside.chain.items c.self.inside.current
    c.self.inside.next c.self.inside.loading c.self.inside.purging c.self.inside.error in
    answered_in (λ (u : Unit {0}). u) (Some c.in-Some.number)
    (write_part_found (Some c.in-Some.number) c.args.offset c.args.bytes.now)
    (write_part_found_sound c.args.offset c.args.bytes.now (Some c.in-Some.number)) c.self.inside.chain.items
    c.write_at.new.files.items r c.args.self.now c.in-Some-find_handle.at c.args.heap.now.memory c.args.heap.now.memory
    c.write_at.result c.self.invariant c.self.view_is c.in-Some-find_handle.ensures.found
    c.in-Some-find_handle.ensures.placed (c.write_at.ensures.answer r) c.write_at.ensures.kept

pub returns-clause-answer : goal.returns-clause-answer
returns-clause-answer g c =
    let r : Resources = resources_of c.self.inside.files.items c.self.inside.chain.items c.self.inside.current
    c.self.inside.next c.self.inside.loading c.self.inside.purging c.self.inside.error in
    let m : Memory = c.args.heap.now.memory in
    rw c.in-Some.is (subst (λ (q : Resources). IsAnswered (λ (u : Unit {0}). u)
    (partial.write_partial_resource (Some c.in-Some.number) c.args.offset c.args.bytes.now (managers q m))
    c.write_at.result (managers (chained c.write_at.new.files.items r) m)) c.self.view_is
    (found_so (λ (u : Unit {0}). u)
    (write_part_found (Some c.in-Some.number) c.args.offset c.args.bytes.now (managers r m))
    (found_from (Some c.in-Some-find_handle.at) r.chain) _ _ _ _
    (rw (← c.self.view_is) at c.in-Some-find_handle.ensures.placed)
    (rw (← c.self.view_is) at c.in-Some-find_handle.ensures.found) (c.write_at.ensures.answer r)))
