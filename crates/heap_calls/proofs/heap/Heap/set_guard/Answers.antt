use Rattle.heap_calls.proofs.Cited.{slice_set, refl, sym, ◌∙◌, cast, guarded_as}
use Rattle.heap_calls.specs.declared.anchor.Anchor.TheVariants.{Handle}
use Rattle.heap_calls.proofs.Numbering.Roles.{entry-of, agrees-cast, cast-done, guarded-role, slots-same, inside-done}
use Rattle.heap_calls.proofs.Numbering.Memories.{memory_as}
use Rattle.heap_calls.proofs.heap.Heap.set_guard.Goals as goal

pub invariant_of-self : goal.invariant_of-self
invariant_of-self g c =
    let a = c.self.inside in
    let es = a.names.items in
    let f = c.in-Ok.found in
    let h = c.args.number in
    let at = entry-of es c.deref.result.now h f c.deref.ensures.value (sym c.slot_of.ensures ∙ c.in-Ok.is) in
    let rest = g.S.BlockStore.rest a.store in
    agrees-cast (g.S.BlockStore.zone a.store) rest rest es h f.slot (rest.slots f.slot) c.args.guarded c.self.invariant
    at (c.self.invariant.used h f.slot f.guarded at) (slots-same rest.slots f.slot) refl refl

pub returns : goal.returns
returns g c =
    let a = c.self.inside in
    let es = a.names.items in
    let f = c.in-Ok.found in
    let h = c.args.number in
    let at = entry-of es c.deref.result.now h f c.deref.ensures.value (sym c.slot_of.ensures ∙ c.in-Ok.is) in
    let zone = g.S.BlockStore.zone a.store in
    let rest = g.S.BlockStore.rest a.store in
    inside-done (cast (guarded_as c.args.guarded) h) c.args.self.now.memory zone zone rest rest es
    (slice_set es h (Handle f.slot c.args.guarded)) a.log (memory_as c.self.view_is)
    (cast-done zone rest rest es h f.slot (rest.slots f.slot) c.args.guarded c.self.invariant at
    (c.self.invariant.used h f.slot f.guarded at) (slots-same rest.slots f.slot) refl refl
    (guarded_as c.args.guarded) (guarded-role (rest.slots f.slot) f.guarded c.args.guarded))
    refl refl
