use Rattle.heap_calls.proofs.Cited.{◌≡◌, Option, ℕ, Relocatable, ◌∙◌, ap, sym, subst, is_some, refl, spared}
use Rattle.heap_calls.proofs.Cited.{told_along, seek_block, fresh_block, IfSome, IsFresh, replaced_at, unwrap_or}
use Rattle.heap_calls.proofs.Cited.{phys, true}
use Rattle.heap_calls.proofs.Hearing.{hears-as, hears-both}
use Rattle.heap_calls.proofs.NewBlocks.NewSlots.{taken-slot, slot-kept}
use Rattle.heap_calls.proofs.NewBlocks.Seeking.{went-then, told-then, went-stop, stops}
use Rattle.heap_calls.proofs.new_block.new_block.Goals as goal

pub returns-in_default-clause-went : goal.returns-in_default-clause-went
returns-in_default-clause-went g c flags x long =
    let zone1 = g.S.BlockStore.zone c.make_slot.new.store in
    let w = went-stop (spared c.args.sparing) (g.S.BlockStore.zone c.args.store.now) _ (seek_block c.args.sparing c.args.size
    (Relocatable (unwrap_or c.in_ok-taken.taken.slot 0) flags x)) c.in_ok-taken.ensures.went (ap is_some c.in_default.is) in
    record {
      finds = w.finds;
      leaves = ap (λ o. replaced_at o flags x zone1) c.in_default.is ∙ w.leaves;
      looks = w.looks;
      lowers = w.lowers;
    }

pub returns-clause-went : goal.returns-clause-went
returns-clause-went g c flags x long =
    went-then (spared c.args.sparing) (g.S.BlockStore.zone c.args.store.now) _ (seek_block c.args.sparing c.args.size
    (Relocatable (unwrap_or c.in_ok-made.made.slot 0) flags x)) c.in_ok-taken.ensures.went (ap is_some c.in-Some.is)
    (c.in_ok-made.ensures.went flags x long)

pub returns-in_default-clause-fresh : goal.returns-in_default-clause-fresh
returns-in_default-clause-fresh g c =
    let P : Option ℕ → Type 0 = λ o. IfSome o (λ k. IsFresh k c.args.size (g.S.BlockStore.zone c.make_slot.new.store)) in
    subst P (sym c.in_default.is) tt

pub returns-in_default-clause-fits : goal.returns-in_default-clause-fits
returns-in_default-clause-fits g c =
    let P : Option ℕ → Type 0 = λ o. IfSome o (λ k. is_some (phys c.args.size) ≡ true) in
    subst P (sym c.in_default.is) tt

pub returns-in_default-clause-slot : goal.returns-in_default-clause-slot
returns-in_default-clause-slot g c =
    taken-slot c.in_ok-taken.taken.slot (g.S.BlockStore.zone c.make_slot.new.store) (g.S.BlockStore.rest c.args.store.now)
    (g.S.BlockStore.rest c.make_slot.new.store) c.in_ok-taken.ensures.slot

pub returns-clause-slot : goal.returns-clause-slot
returns-clause-slot g c =
    slot-kept c.in_ok-taken.taken.slot c.in_ok-made.made.slot c.in-Some.slot (g.S.BlockStore.zone c.make_slot.new.store)
    (g.S.BlockStore.rest c.args.store.now) (g.S.BlockStore.rest c.make_slot.new.store)
    (g.S.BlockStore.rest c.add_block.new.store) c.in-Some.is c.in_ok-taken.ensures.slot c.in_ok-made.ensures.slot

pub returns-in_err-taken-clause-nonrelocatable : goal.returns-in_err-taken-clause-nonrelocatable
returns-in_err-taken-clause-nonrelocatable g c place = c.make_slot.ensures.nonrelocatable place

pub returns-in_err-made-clause-nonrelocatable : goal.returns-in_err-made-clause-nonrelocatable
returns-in_err-made-clause-nonrelocatable g c place = c.add_block.ensures.nonrelocatable place ∙ c.make_slot.ensures.nonrelocatable place

pub returns-clause-nonrelocatable : goal.returns-clause-nonrelocatable
returns-clause-nonrelocatable g c place = c.add_block.ensures.nonrelocatable place ∙ c.make_slot.ensures.nonrelocatable place

pub returns-in_default-clause-hears : goal.returns-in_default-clause-hears
returns-in_default-clause-hears g c =
    let zone = g.S.BlockStore.zone c.args.store.now in
    hears-as g.K.PurgeSink.told g.K.PurgeSink.waits g.K.PurgeSink.listens _ _ _ _ _ _ (λ done. done)
    (ap (λ r. told_along c.args.names.now (spared c.args.sparing) r zone) (sym (stops (spared c.args.sparing) zone _
    (seek_block c.args.sparing c.args.size (fresh_block 0 c.args.size)) c.in_ok-taken.ensures.went
    (ap is_some c.in_default.is)))) c.in_ok-taken.ensures.hears

pub returns-clause-hears : goal.returns-clause-hears
returns-clause-hears g c =
    hears-as g.K.PurgeSink.told g.K.PurgeSink.waits g.K.PurgeSink.listens _ _ _ _ _ _ (λ done. done)
    (told-then (spared c.args.sparing) (g.S.BlockStore.zone c.args.store.now) _
    (seek_block c.args.sparing c.args.size (fresh_block 0 c.args.size)) c.in_ok-taken.ensures.went (ap is_some c.in-Some.is)
    c.args.names.now)
    (hears-both g.K.PurgeSink.told g.K.PurgeSink.waits g.K.PurgeSink.listens _ _ _ _ _ _ _ _ (λ done. refl) (λ done. refl)
    c.in_ok-taken.ensures.hears c.in_ok-made.ensures.hears)
