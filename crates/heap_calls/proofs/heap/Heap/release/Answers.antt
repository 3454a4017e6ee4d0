use Rattle.heap_calls.proofs.Cited.{ℕ, ◌≡◌, ◌+◌, slice_set, cond, ◌==◌, sym, ◌∙◌, ap, arith, List, subst, slice_get_within, Block}
use Rattle.heap_calls.proofs.Cited.{is_relocatable, tidy, has, freed, Unused, set_slot, AreSlots, Rest, has-released, released, state_of}
use Rattle.heap_calls.proofs.Cited.{Agrees}
use Rattle.heap_calls.specs.declared.anchor.Anchor.TheVariants.{Disposed}
use Rattle.heap_calls.proofs.Numbering.Changing.{agrees-left, without-done}
use Rattle.heap_calls.proofs.Numbering.Roles.{entry-of, released-is, inside-done}
use Rattle.heap_calls.proofs.Numbering.Memories.{memory_as}
use Rattle.heap_calls.proofs.heap.Heap.release.Given.{Over}
use Rattle.heap_calls.proofs.heap.Heap.release.Goals.{After-give_slot}
use Rattle.heap_calls.proofs.heap.Heap.release.Goals as goal

pub give_slot-requires-clause-no_block : goal.give_slot-requires-clause-no_block
give_slot-requires-clause-no_block g c = ap (has (is_relocatable c.in-Ok.found.slot)) c.release.ensures.zone
    ∙ has-released c.in-Ok.found.slot (g.S.BlockStore.zone c.self.inside.store)

pub index_mut-requires : goal.index_mut-requires
index_mut-requires g c =
    let at = entry-of c.self.inside.names.items c.deref.result.now c.args.number c.in-Ok.found c.deref.ensures.value
    (sym c.slot_of.ensures ∙ c.in-Ok.is) in
    let within = slice_get_within c.self.inside.names.items c.args.number _ at in
    omega (arith, within)

-- the handle's slot is unused and its block Free
record Gone (zone : List Block) (rest : Rest) (slot : ℕ) (zone' : List Block) (rest' : Rest) : Type 0 where
  now : AreSlots (set_slot rest.slots slot Unused) rest'.slots
  one : rest'.unused ≡ rest.unused + 1
  all : rest'.all ≡ rest.all
  zone_is : zone' ≡ tidy (freed (is_relocatable slot) zone)
  window : rest'.window ≡ rest.window
  moves : rest'.moves ≡ rest.moves

gone : (g : Over) (c : After-give_slot g) → Gone (g.S.BlockStore.zone c.self.inside.store)
    (g.S.BlockStore.rest c.self.inside.store) c.in-Ok.found.slot (g.S.BlockStore.zone c.give_slot.new.self)
    (g.S.BlockStore.rest c.give_slot.new.self)
gone g c =
    let released = c.release.ensures.rest in
    let gave = c.give_slot.ensures.rest in
    record {
      now = λ k. gave.slots k ∙ ap (cond (k == c.in-Ok.found.slot) Unused) (released.slots k);
      one = gave.unused ∙ ap (λ n. n + 1) released.unused;
      all = gave.all ∙ released.all;
      zone_is = c.give_slot.ensures.zone ∙ c.release.ensures.zone;
      window = gave.window ∙ released.window;
      moves = gave.moves ∙ released.moves;
    }

pub invariant_of-self : goal.invariant_of-self
invariant_of-self g c =
    let k = gone g (goal.at.invariant_of-self g c).After-give_slot in
    let a = c.self.inside in
    let f = c.in-Ok.found in
    let at = entry-of a.names.items c.deref.result.now c.args.number f c.deref.ensures.value
    (sym c.slot_of.ensures ∙ c.in-Ok.is) in
    let P : List Block → Type 0 = λ z. Agrees z (g.S.BlockStore.rest c.give_slot.new.self)
    (slice_set a.names.items c.args.number Disposed) in
    subst P (sym k.zone_is) (agrees-left _ (g.S.BlockStore.rest a.store) _ _ c.args.number f.slot c.self.invariant at
    (omega arith) k.now k.one k.all)

pub returns : goal.returns
returns g c =
    let k = gone g (goal.at.returns g c).After-give_slot in
    let a = c.self.inside in
    let f = c.in-Ok.found in
    let h = c.args.number in
    let at = entry-of a.names.items c.deref.result.now h f c.deref.ensures.value (sym c.slot_of.ensures ∙ c.in-Ok.is) in
    let zone = g.S.BlockStore.zone a.store in
    let rest = g.S.BlockStore.rest a.store in
    let rest' = g.S.BlockStore.rest c.give_slot.new.self in
    let left = slice_set a.names.items h Disposed in
    inside-done (released h) c.args.self.now.memory zone (g.S.BlockStore.zone c.give_slot.new.self) rest rest'
    a.names.items
    left a.log (memory_as c.self.view_is)
    (released-is zone rest.slots a.names.items h f.slot at
    ∙ without-done zone rest rest' a.names.items h f.slot c.self.invariant at (omega arith) k.now k.one k.all
    ∙ ap (λ (z : List Block). state_of z rest'.slots left) (sym k.zone_is))
    k.window k.moves
