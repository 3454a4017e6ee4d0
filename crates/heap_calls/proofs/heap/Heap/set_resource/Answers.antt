use Rattle.heap_calls.proofs.Cited.{List, false, subst, slice_set, refl, sym, ◌∙◌, ap, Block, Used, cast, owned_as, state_of, role_of}
use Rattle.heap_calls.proofs.Cited.{Agrees}
use Rattle.heap_calls.specs.declared.anchor.Anchor.TheVariants.{Handle}
use Rattle.heap_calls.proofs.Numbering.Roles.{entry-of, agrees-cast, cast-done, owned-role, inside-done}
use Rattle.heap_calls.proofs.Numbering.Memories.{memory_as}
use Rattle.heap_calls.proofs.heap.Heap.set_resource.Goals as goal

pub invariant_of-self : goal.invariant_of-self
invariant_of-self g c =
    let a = c.self.inside in
    let es = a.names.items in
    let f = c.in-Ok.found in
    let h = c.args.number in
    let at = entry-of es c.deref.result.now h f c.deref.ensures.value (sym c.slot_of.ensures ∙ c.in-Ok.is) in
    let now = c.set_resource.ensures.rest in
    let rest' = g.S.BlockStore.rest c.set_resource.new.self in
    let P : List Block → Type 0 = λ z. Agrees z rest' (slice_set es h (Handle f.slot false)) in
    subst P (sym c.set_resource.ensures.zone) (agrees-cast (g.S.BlockStore.zone a.store) (g.S.BlockStore.rest a.store)
    rest' es h f.slot (Used c.args.resource) false c.self.invariant at refl now.slots now.unused now.all)

pub returns : goal.returns
returns g c =
    let a = c.self.inside in
    let es = a.names.items in
    let f = c.in-Ok.found in
    let h = c.args.number in
    let at = entry-of es c.deref.result.now h f c.deref.ensures.value (sym c.slot_of.ensures ∙ c.in-Ok.is) in
    let now = c.set_resource.ensures.rest in
    let zone = g.S.BlockStore.zone a.store in
    let rest = g.S.BlockStore.rest a.store in
    let rest' = g.S.BlockStore.rest c.set_resource.new.self in
    let es' = slice_set es h (Handle f.slot false) in
    inside-done (cast (owned_as c.args.resource) h) c.args.self.now.memory zone (g.S.BlockStore.zone
    c.set_resource.new.self)
    rest rest' es es' a.log (memory_as c.self.view_is)
    (cast-done zone rest rest' es h f.slot (Used c.args.resource) false c.self.invariant at refl now.slots now.unused
    now.all (owned_as c.args.resource) (owned-role c.args.resource (role_of (rest.slots f.slot) f.guarded))
    ∙ ap (λ (z : List Block). state_of z rest'.slots es') (sym c.set_resource.ensures.zone))
    now.window now.moves
