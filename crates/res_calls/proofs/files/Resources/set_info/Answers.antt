use Rattle.res_calls.proofs.Cited.{Some, subst, w16, to_z-of_z, Resources, IsAnswered, managers, found_from, chained, resources_of}
use Rattle.res_calls.proofs.Cited.{rename_found}
use Rattle.res_calls.specs.Changing as changing
use Rattle.res_calls.proofs.Noting.{found_so}
use Rattle.res_calls.proofs.Soundness.Calls.{rename_found_sound}
use Rattle.res_calls.proofs.Soundness.Methods.{answered_in, no_memory}
use Rattle.res_calls.proofs.files.Resources.set_info.Goals as goal

pub returns-in-Some-clause-answer : goal.returns-in-Some-clause-answer
returns-in-Some-clause-answer c = λ m.
    let id = to_z-of_z w16 c.args.id c.ranges.id in
    let r : Resources = resources_of c.self.inside.files.items c.self.inside.chain.items c.self.inside.current
    c.self.inside.next c.self.inside.loading c.self.inside.purging c.self.inside.error in
    subst (λ (q : Resources). IsAnswered (λ (u : Unit {0}). u)
    (changing.set_res_info c.args.handle c.args.id c.args.name.now.0.items (managers q m)) c.rename_at.result
    (managers (chained c.rename_at.new.files.items r) m))
    c.self.view_is
    (found_so (λ (u : Unit {0}). u) (rename_found c.args.id c.args.name.now.0.items (managers r m))
    (found_from (Some c.in-Some.at) r.chain) _ _ _ _ (rw (← c.self.view_is) at c.in-Some.ensures.placed)
    (rw (← c.self.view_is) at c.in-Some.ensures.found) (rw id at c.rename_at.ensures.answer r m))

pub invariant_of-self : goal.invariant_of-self
invariant_of-self c =
    let id = to_z-of_z w16 c.args.id c.ranges.id in
    let r : Resources = resources_of c.self.inside.files.items c.self.inside.chain.items c.self.inside.current
    c.self.inside.next c.self.inside.loading c.self.inside.purging c.self.inside.error in
    answered_in (λ (u : Unit {0}). u) c.args.handle (rename_found c.args.id c.args.name.now.0.items)
    (rename_found_sound c.args.id c.args.name.now.0.items c.args.handle) c.self.inside.chain.items
    c.rename_at.new.files.items r c.args.self.now c.in-Some.at no_memory no_memory c.rename_at.result c.self.invariant
    c.self.view_is c.in-Some.ensures.found c.in-Some.ensures.placed (rw id at c.rename_at.ensures.answer r no_memory)
    c.rename_at.ensures.kept
