use Rattle.res_calls.proofs.Cited.{Some, subst, Resources, IsAnswered, managers, found_from, chained, resources_of, set_found}
use Rattle.res_calls.specs.Changing as changing
use Rattle.res_calls.proofs.Noting.{found_so}
use Rattle.res_calls.proofs.Soundness.Calls.{set_found_sound}
use Rattle.res_calls.proofs.Soundness.Methods.{answered_in, no_memory}
use Rattle.res_calls.proofs.files.Resources.set_all_attrs.Goals as goal

pub invariant_of-self : goal.invariant_of-self
invariant_of-self c =
    let r : Resources = resources_of c.self.inside.files.items c.self.inside.chain.items c.self.inside.current
    c.self.inside.next c.self.inside.loading c.self.inside.purging c.self.inside.error in
    answered_in (λ (u : Unit {0}). u) c.args.handle (set_found c.args.attrs.0)
    (set_found_sound c.args.attrs.0 c.args.handle)
    c.self.inside.chain.items c.set_attrs_at.new.files.items r c.args.self.now c.in-Some.at no_memory no_memory
    c.set_attrs_at.result c.self.invariant c.self.view_is c.in-Some.ensures.found c.in-Some.ensures.placed
    (c.set_attrs_at.ensures.answer r no_memory) (λ e. absurd (c.set_attrs_at.ensures.host e))

pub returns-in-Some-clause-answer : goal.returns-in-Some-clause-answer
returns-in-Some-clause-answer c = λ m.
    let r : Resources = resources_of c.self.inside.files.items c.self.inside.chain.items c.self.inside.current
    c.self.inside.next c.self.inside.loading c.self.inside.purging c.self.inside.error in
    subst (λ (q : Resources). IsAnswered (λ (u : Unit {0}). u)
    (changing.set_res_attrs c.args.handle c.args.attrs.0 (managers q m))
    c.set_attrs_at.result (managers (chained c.set_attrs_at.new.files.items r) m)) c.self.view_is
    (found_so (λ (u : Unit {0}). u) (set_found c.args.attrs.0 (managers r m))
    (found_from (Some c.in-Some.at) r.chain) _ _ _ _
    (rw (← c.self.view_is) at c.in-Some.ensures.placed) (rw (← c.self.view_is) at c.in-Some.ensures.found)
    (c.set_attrs_at.ensures.answer r m))
