use Rattle.res_calls.proofs.Cited.{refl, subst, sym, ◌∙◌, ap, List, Some, w16, to_z-of_z, big_number, Known, new_reference, OpenFile}
use Rattle.res_calls.proofs.Cited.{Resources, IsAnswered, managers, chained, resources_of, add_found}
use Rattle.res_calls.specs.Changing as changing
use Rattle.res_calls.proofs.Joining.{on_role}
use Rattle.res_calls.proofs.Soundness.Calls.{add_resource_sound}
use Rattle.res_calls.proofs.Soundness.Laws.{answered_sound}
use Rattle.res_calls.proofs.files.Resources.add.Goals as goal

pub returns-clause-answer : goal.returns-clause-answer
returns-clause-answer g c =
    let id = to_z-of_z w16 c.args.id c.ranges.id in
    let r : Resources = resources_of c.self.inside.files.items c.self.inside.chain.items c.self.inside.current
    c.self.inside.next c.self.inside.loading c.self.inside.purging c.self.inside.error in
    subst (λ (q : Resources). IsAnswered (λ (u : Unit {0}). u)
    (changing.add_resource c.args.handle (big_number 4 c.args.ty.0) c.args.id c.args.name.now.0.items
    (managers q c.args.heap.now.memory)) c.add_with.result
    (managers (chained c.add_with.new.files.items r) c.add_with.new.heap.memory))
    c.self.view_is
    (rw c.in-Some.is (on_role (λ (u : Unit {0}). u) (λ (k : Known). add_found k.role
    (new_reference (big_number 4 c.args.ty.0) c.args.id c.args.name.now.0.items k.number) k.number
    (managers r c.args.heap.now.memory)) c.in-Some.number (managers r c.args.heap.now.memory) _ _
    (sym c.is_handle.ensures ∙ c.if-not-is_handle.false)
    (λ role known. rw id at c.add_with.ensures.answer r role refl known)))

pub invariant_of-self : goal.invariant_of-self
invariant_of-self g c =
    let id = to_z-of_z w16 c.args.id c.ranges.id in
    let r : Resources = resources_of c.self.inside.files.items c.self.inside.chain.items c.self.inside.current
    c.self.inside.next c.self.inside.loading c.self.inside.purging c.self.inside.error in
    answered_sound (λ (u : Unit {0}). u) (changing.add_resource (Some c.in-Some.number) (big_number 4 c.args.ty.0)
    c.args.id c.args.name.now.0.items (managers r c.args.heap.now.memory)) c.add_with.result r
    (chained c.add_with.new.files.items r) c.add_with.new.heap.memory c.self.invariant
    (add_resource_sound (Some c.in-Some.number) (big_number 4 c.args.ty.0) c.args.id c.args.name.now.0.items
    (managers r c.args.heap.now.memory) c.self.invariant)
    (on_role (λ (u : Unit {0}). u) (λ (k : Known). add_found k.role
    (new_reference (big_number 4 c.args.ty.0) c.args.id c.args.name.now.0.items k.number) k.number
    (managers r c.args.heap.now.memory)) c.in-Some.number (managers r c.args.heap.now.memory) _ _
    (sym c.is_handle.ensures ∙ c.if-not-is_handle.false)
    (λ role known. rw id at c.add_with.ensures.answer r role refl known))
    (λ e. ap (λ (l : List OpenFile). record r { chain = l }) (c.add_with.ensures.kept e))
