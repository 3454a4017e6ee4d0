use Rattle.res_calls.proofs.Cited.{subst, sym, Resources, Sound, resources_of}
use Rattle.res_calls.proofs.Storing.{stored-sound, stored-there}
use Rattle.res_calls.proofs.files.Resources.store_one.Goals as goal

pub returns-in-Some : goal.returns-in-Some
returns-in-Some c =
    let r : Resources = resources_of c.self.inside.files.items c.self.inside.chain.items c.self.inside.current
    c.self.inside.next c.self.inside.loading c.self.inside.purging c.self.inside.error in
    stored-there c.args.purged.handle c.args.purged.bytes.items c.self.inside.chain.items c.store_at.new.files.items r
    c.args.self.now c.in-Some.at c.self.view_is c.in-Some.ensures.found c.in-Some.ensures.placed
    (c.store_at.ensures r)

pub invariant_of-self : goal.invariant_of-self
invariant_of-self c =
    subst (λ (q : Resources). Sound q) (sym (returns-in-Some c))
    (stored-sound c.args.purged.handle c.args.purged.bytes.items c.args.self.now
    (subst (λ (q : Resources). Sound q) c.self.view_is c.self.invariant))
