use Rattle.heap_calls.proofs.Cited.{sym, ◌∙◌, ap, arith, option_map, ok_or, NIL_HANDLE, rename_spot, handle_number, pointer_number}
use Rattle.heap_calls.proofs.Numbering.Answering.{slot_of-ok, look_up-by, held}
use Rattle.heap_calls.proofs.reaching.reach.Goals as goal

pub returns-in_default : goal.returns-in_default
returns-in_default g c =
    let zone = g.S.BlockStore.zone c.args.store.now in
    let slots = (g.S.BlockStore.rest c.args.store.now).slots in
    let es = c.args.names.now in
    let f = c.in_ok-found.found in
    let is = slot_of-ok c.args.handle es f (sym c.slot_of.ensures ∙ c.in_ok-found.was) in
    look_up-by zone slots es c.args.handle f.number f.slot is.0 is.1 c.requires.apart (omega arith)
    ∙ ap (λ o. ok_or (option_map (held f.number) (option_map (rename_spot (handle_number es) (pointer_number es)) o))
    NIL_HANDLE) c.in_default.ensures

pub returns : goal.returns
returns g c =
    let zone = g.S.BlockStore.zone c.args.store.now in
    let slots = (g.S.BlockStore.rest c.args.store.now).slots in
    let es = c.args.names.now in
    let f = c.in_ok-found.found in
    let is = slot_of-ok c.args.handle es f (sym c.slot_of.ensures ∙ c.in_ok-found.was) in
    let there = c.in-Some.ensures in (
      there.0,
      look_up-by zone slots es c.args.handle f.number f.slot is.0 is.1 c.requires.apart (omega arith)
          ∙ ap (λ o. ok_or (option_map (held f.number) (option_map (rename_spot (handle_number es) (pointer_number es))
          o)) NIL_HANDLE) there.1,
      there.1,
      there,
      f.guarded,
      is.1,
      omega arith,
    )
