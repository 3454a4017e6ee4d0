use Rattle.res_calls.proofs.Cited.{refl, Some, Resources, resources_of, remove_found}
use Rattle.res_calls.proofs.Soundness.Calls.{remove_found_sound}
use Rattle.res_calls.proofs.Soundness.Methods.{answered_in}
use Rattle.res_calls.proofs.files.Resources.remove.Goals as goal

pub invariant_of-self : goal.invariant_of-self
invariant_of-self g c =
    let r : Resources = resources_of c.self.inside.files.items c.self.inside.chain.items c.self.inside.current
    c.self.inside.next c.self.inside.loading c.self.inside.purging c.self.inside.error in
    answered_in (λ (u : Unit {0}). u) (Some c.in-Some.number) (remove_found c.in-Some.number)
    (remove_found_sound (Some c.in-Some.number) c.in-Some.number) c.self.inside.chain.items c.remove_at.new.files.items
    r c.args.self.now c.in-Some-find_handle.at c.args.heap.now.memory
    c.remove_at.new.heap.memory c.remove_at.result c.self.invariant c.self.view_is c.in-Some-find_handle.ensures.found
    c.in-Some-find_handle.ensures.placed (λ f e. c.remove_at.ensures.answer r f e refl)
    (λ e. absurd (c.remove_at.ensures.host e))
