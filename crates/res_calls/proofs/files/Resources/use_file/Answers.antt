use Rattle.res_calls.proofs.Cited.{ap, map, ◌∙◌, Resources, view_open, resources_of}
use Rattle.res_calls.proofs.Soundness.Methods.{current_sound, used_here, number_missing}
use Rattle.res_calls.proofs.files.Resources.use_file.Goals as goal

pub invariant_of-self : goal.invariant_of-self
invariant_of-self c = current_sound c.args.number c.in-Some.field-0 c.deref.result.now _ c.self.invariant
    (ap (map view_open) c.deref.ensures.value) c.in-Some.ensures.found

pub returns-in-Some-clause-answer : goal.returns-in-Some-clause-answer
returns-in-Some-clause-answer c = used_here c.args.number c.in-Some.field-0 c.deref.result.now
    (resources_of c.self.inside.files.items c.self.inside.chain.items c.self.inside.current c.self.inside.next
    c.self.inside.loading c.self.inside.purging c.self.inside.error) c.args.self.now c.self.view_is
    (ap (map view_open) c.deref.ensures.value) c.in-Some.ensures.found

pub returns-in-None-clause-answer : goal.returns-in-None-clause-answer
returns-in-None-clause-answer c = λ m. number_missing c.args.number c.deref.result.now c.args.self.now
    (ap (map view_open) c.deref.ensures.value ∙ ap (λ (r : Resources). r.chain) c.self.view_is) c.in-None.ensures.found
    m _
