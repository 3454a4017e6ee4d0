use Rattle.applications.proofs.Cited.{refl, ap, rules, ℤ, to_z, of_z, FitsSigned, w16, to_z-of_z, Done, load_seg, unload_seg, program}
use Rattle.applications.proofs.Cited.{tell_loaded, tell_called, tell_shown}
use Rattle.segments.specs.Asked.{telling}
use Rattle.applications.proofs.JumpCalls.{load-settled, call-settled, unload-settled, show-settled, jumped, jumped_at_once}
use Rattle.applications.proofs.application.Application.answer_segment.Goals as goal

pub returns-in-LoadSeg-clause-tried : goal.returns-in-LoadSeg-clause-tried
returns-in-LoadSeg-clause-tried g c =
    let fits : FitsSigned w16 c.in-LoadSeg.segment = search rules in
    jumped tell_loaded _ c.loaded.result _ _ c.args.call.now _ c.args.self.now _ c.loaded.ensures.tried c.load.ensures.answer (load-settled
    (to_z w16 (of_z w16 c.in-LoadSeg.segment)) (program c.self.inside.table c.self.inside.resources c.self.inside.heap.memory))
    (ap (λ (n : ℤ). telling tell_loaded (load_seg n (program c.self.inside.table c.self.inside.resources c.self.inside.heap.memory)))
    (to_z-of_z w16 c.in-LoadSeg.segment fits)) c.in-LoadSeg.is c.self.view_is

pub returns-in-UnloadSeg-clause-tried : goal.returns-in-UnloadSeg-clause-tried
returns-in-UnloadSeg-clause-tried g c =
    let fits : FitsSigned w16 c.in-UnloadSeg.segment = search rules in
    jumped_at_once (λ (u : Unit {0}). Done) c.unloaded.result _ _ c.args.call.now _ c.args.self.now _ c.unloaded.ensures
    c.unload.ensures.reply (unload-settled (to_z w16 (of_z w16 c.in-UnloadSeg.segment)) (program c.self.inside.table c.self.inside.resources
    c.self.inside.heap.memory)) (ap (λ (n : ℤ). telling (λ (u : Unit {0}). Done) (unload_seg n (program c.self.inside.table
    c.self.inside.resources c.self.inside.heap.memory))) (to_z-of_z w16 c.in-UnloadSeg.segment fits)) c.in-UnloadSeg.is c.self.view_is

pub returns-in-CallEntry-clause-tried : goal.returns-in-CallEntry-clause-tried
returns-in-CallEntry-clause-tried g c =
    jumped tell_called _ c.called.result _ _ c.args.call.now _ c.args.self.now _ c.called.ensures.tried c.call.ensures.answer
    (call-settled c.in-CallEntry.index (program c.self.inside.table c.self.inside.resources c.self.inside.heap.memory)) refl
    c.in-CallEntry.is c.self.view_is

pub returns-in-ShowEntry-clause-tried : goal.returns-in-ShowEntry-clause-tried
returns-in-ShowEntry-clause-tried g c =
    jumped_at_once tell_shown c.shown.result _ _ c.args.call.now _ c.args.self.now _ c.shown.ensures (c.show.ensures _)
    (show-settled c.in-ShowEntry.index (program c.self.inside.table c.self.inside.resources c.self.inside.heap.memory)) refl
    c.in-ShowEntry.is c.self.view_is
