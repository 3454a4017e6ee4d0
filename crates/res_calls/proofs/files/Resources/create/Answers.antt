use Rattle.res_calls.proofs.Cited.{Resources, resources_of}
use Rattle.res_calls.proofs.Soundness.Methods.{created_in, no_memory}
use Rattle.res_calls.proofs.files.Resources.create.Goals as goal

pub invariant_of-self : goal.invariant_of-self
invariant_of-self c =
    let r : Resources = resources_of c.self.inside.files.items c.self.inside.chain.items c.self.inside.current
    c.self.inside.next c.self.inside.loading c.self.inside.purging c.self.inside.error in
    created_in c.args.name.now.0.items r c.self.inside.files.items c.create_in.new.files.items c.create_in.result
    c.self.invariant (c.create_in.ensures.answer r no_memory) c.create_in.ensures.kept
