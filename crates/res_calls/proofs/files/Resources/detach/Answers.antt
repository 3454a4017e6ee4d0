use Rattle.res_calls.proofs.Cited.{Resources, resources_of, detach_found}
use Rattle.std.specs.Prelude.{Some}
use Rattle.res_calls.proofs.Soundness.Calls.{detach_found_sound}
use Rattle.res_calls.proofs.Soundness.Methods.{answered_in}
use Rattle.res_calls.proofs.files.Resources.detach.Goals as goal

pub invariant_of-self : goal.invariant_of-self
invariant_of-self g c =
    let r : Resources = resources_of c.self.inside.files.items c.self.inside.chain.items c.self.inside.current
    c.self.inside.next c.self.inside.loading c.self.inside.purging c.self.inside.error in
    answered_in (λ (u : Unit {0}). u) (Some c.in-Some.number) (detach_found (Some c.in-Some.number))
    (detach_found_sound (Some c.in-Some.number)) c.self.inside.chain.items
    c.detach_at.new.files.items
    r c.args.self.now c.in-Some-find_handle.at c.args.heap.now.memory
    c.detach_at.new.heap.memory c.detach_at.result c.self.invariant c.self.view_is c.in-Some-find_handle.ensures.found
    c.in-Some-find_handle.ensures.placed (c.detach_at.ensures.answer r) (λ e. absurd (c.detach_at.ensures.host e))
