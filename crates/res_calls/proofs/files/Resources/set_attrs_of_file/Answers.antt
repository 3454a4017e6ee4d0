use Rattle.res_calls.proofs.Cited.{subst, Resources, IsAnswered, managers, chained, resources_of}
use Rattle.res_calls.specs.Changing as changing
use Rattle.res_calls.proofs.Soundness.Calls.{set_res_file_attrs_sound}
use Rattle.res_calls.proofs.Soundness.Laws.{answered_sound}
use Rattle.res_calls.proofs.Soundness.Methods.{no_memory}
use Rattle.res_calls.proofs.files.Resources.set_attrs_of_file.Goals as goal

pub invariant_of-self : goal.invariant_of-self
invariant_of-self c =
    let r : Resources = resources_of c.self.inside.files.items c.self.inside.chain.items c.self.inside.current
    c.self.inside.next c.self.inside.loading c.self.inside.purging c.self.inside.error in
    answered_sound (λ (u : Unit {0}). u)
    (changing.set_res_file_attrs c.args.number c.args.attrs (managers r no_memory)) c.set_attrs_in.result r
    (chained c.set_attrs_in.new.chain.items r) no_memory c.self.invariant
    (set_res_file_attrs_sound c.args.number c.args.attrs (managers r no_memory) c.self.invariant)
    (c.set_attrs_in.ensures.answer r no_memory) (λ e. absurd (c.set_attrs_in.ensures.host e))

pub returns-clause-answer : goal.returns-clause-answer
returns-clause-answer c = λ m.
    let r : Resources = resources_of c.self.inside.files.items c.self.inside.chain.items c.self.inside.current
    c.self.inside.next c.self.inside.loading c.self.inside.purging c.self.inside.error in
    subst (λ (q : Resources). IsAnswered (λ (u : Unit {0}). u)
    (changing.set_res_file_attrs c.args.number c.args.attrs (managers q m)) c.set_attrs_in.result
    (managers (chained c.set_attrs_in.new.chain.items r) m)) c.self.view_is (c.set_attrs_in.ensures.answer r m)
