use Rattle.heap_calls.proofs.Cited.{◌≡◌, ◌<◌, true, false, sym, ◌∙◌, ap, arith, is_mover, seen_mover, is_loose, no_number}
use Rattle.heap_calls.proofs.Numbering.Answering.{slot_of-ok}
use Rattle.heap_calls.proofs.Numbering.Hoisting.{seen-at, seen_mover-is}
use Rattle.heap_calls.proofs.Numbering.Loosening.{loose_at-by}
use Rattle.heap_calls.proofs.emptying.loose_slot.Goals as goal

pub returns-in_default : goal.returns-in_default
returns-in_default g c =
    let zone = g.S.BlockStore.zone c.args.store.now in
    let f = c.in_ok-found.found in
    let is = slot_of-ok c.args.handle c.args.names.now f (sym c.slot_of.ensures ∙ c.in_ok-found.was) in
    let small : f.number < no_number = omega arith in (
      f.number,
      f.guarded,
      loose_at-by zone (g.S.BlockStore.rest c.args.store.now).slots c.args.names.now c.args.handle f.number f.slot true
          is.0 is.1 c.requires.apart small (ap is_loose c.in_default.ensures),
      is.1,
      small,
    )

pub returns-then-not-can_move : goal.returns-then-not-can_move
returns-then-not-can_move g c =
    let zone = g.S.BlockStore.zone c.args.store.now in
    let f = c.in_ok-found.found in
    let is = slot_of-ok c.args.handle c.args.names.now f (sym c.slot_of.ensures ∙ c.in_ok-found.was) in
    let there = c.in-Some.ensures in
    let locked : is_mover there.0.here ≡ false =
    sym (seen_mover-is there.0.here) ∙ sym (seen-at seen_mover c.in-Some.place zone there.0 c.block_at.result there.2
    c.block_at.ensures) ∙ sym c.can_move.ensures ∙ c.if-not-can_move.true in
    loose_at-by zone (g.S.BlockStore.rest c.args.store.now).slots c.args.names.now c.args.handle f.number f.slot false
    is.0 is.1 c.requires.apart (omega arith) (ap is_loose there.1 ∙ locked)

pub returns : goal.returns
returns g c =
    let zone = g.S.BlockStore.zone c.args.store.now in
    let f = c.in_ok-found.found in
    let is = slot_of-ok c.args.handle c.args.names.now f (sym c.slot_of.ensures ∙ c.in_ok-found.was) in
    let there = c.in-Some.ensures in
    let small : f.number < no_number = omega arith in
    let free : is_mover there.0.here ≡ true =
    sym (seen_mover-is there.0.here) ∙ sym (seen-at seen_mover c.in-Some.place zone there.0 c.block_at.result there.2
    c.block_at.ensures) ∙ sym c.can_move.ensures ∙ c.if-not-can_move.false in (
      f.number,
      f.guarded,
      loose_at-by zone (g.S.BlockStore.rest c.args.store.now).slots c.args.names.now c.args.handle f.number f.slot true
          is.0 is.1 c.requires.apart small (ap is_loose there.1 ∙ free),
      is.1,
      small,
    )
