use Rattle.heap_calls.proofs.Cited.{◌≡◌, ◌≤◌, ◌<◌, length, sym, ◌∙◌, arith, true, false, length-map, State, name_of, state_of}
use Rattle.heap_calls.proofs.Recovered.{handle-next, handle-last}
use Rattle.heap_calls.proofs.recovering.handle_of.Goals as goal

pub loop-number-preserved : goal.loop-number-preserved
loop-number-preserved g c =
    let slots = (g.S.BlockStore.rest c.args.store.now).slots in
    let s : State = state_of (g.S.BlockStore.zone c.args.store.now) slots c.args.names.now in
    let len : length s.names ≡ length c.args.names.now = length-map c.args.names.now (name_of slots) in
    let less : c.loop-number.number < length s.names = omega (arith, len, c.loop-number-test.true) in
    sym (handle-next c.args.place c.loop-number.number s less false (sym c.stands_at.ensures ∙ c.if-stands_at.false))
    ∙ c.loop-number.invariant

pub returns-then-stands_at : goal.returns-then-stands_at
returns-then-stands_at g c =
    let slots = (g.S.BlockStore.rest c.args.store.now).slots in
    let s : State = state_of (g.S.BlockStore.zone c.args.store.now) slots c.args.names.now in
    let len : length s.names ≡ length c.args.names.now = length-map c.args.names.now (name_of slots) in
    let less : c.loop-number.number < length s.names = omega (arith, len, c.loop-number-test.true) in
    sym (handle-next c.args.place c.loop-number.number s less true (sym c.stands_at.ensures ∙ c.if-stands_at.true))
    ∙ c.loop-number.invariant

pub returns : goal.returns
returns g c =
    let slots = (g.S.BlockStore.rest c.args.store.now).slots in
    let s : State = state_of (g.S.BlockStore.zone c.args.store.now) slots c.args.names.now in
    let len : length s.names ≡ length c.args.names.now = length-map c.args.names.now (name_of slots) in
    let past : length s.names ≤ c.loop-number.number = omega (arith, len, c.loop-number-test.false) in
    sym (handle-last c.args.place c.loop-number.number s past) ∙ c.loop-number.invariant
