use Rattle.heap_calls.proofs.Cited.{rules, arith, ◌≡◌, ◌+◌, ◌-◌, ◌<◌, drop, length, refl, ◌∙◌, inl, inr, sym, length-drop, on_err}
use Rattle.heap_calls.proofs.Filled.Several.{made-next, stops-here}
use Rattle.heap_calls.proofs.filling.add_resources.Goals as goal

pub loop-filling-preserved : goal.loop-filling-preserved
loop-filling-preserved g c =
    let l = c.loop-filling in
    let ws = c.args.wanted.now in
    let less : l.filling-index < length ws = search rules in
    let rest : length (drop l.filling-index ws) ≡ length ws - l.filling-index = length-drop l.filling-index ws in
    let rest' : length (drop (l.filling-index + 1) ws) ≡ length ws - (l.filling-index + 1) =
    length-drop (l.filling-index + 1) ws in
    record {
      made = rw c.push_reserved.ensures.items (made-next g.K.PurgeSink.told (g.K.PurgeSink.listens c.args.sink.now)
          l.filling-index ws _ l.numbers.items _ c.args.sink.now l.sink l.invariant.made less _
          c.in_ok-number.number _ c.add_resource.new.sink c.in_ok-number.ensures.next
          (λ is. c.in_ok-number.ensures.told (l.invariant.listens ∙ is)));
      agrees = c.add_resource.ensures.agrees;
      room = omega (
        arith,
        less,
        rest,
        rest',
        l.invariant.room,
        c.add_resource.ensures.len,
        c.add_resource.ensures.capacity,
      );
      numbers = omega (
        arith,
        less,
        rest,
        rest',
        l.invariant.numbers,
        c.push_reserved.ensures.len,
        c.push_reserved.ensures.capacity,
      );
      idle = c.add_resource.ensures.rests.idle;
      listens = c.add_resource.ensures.rests.same ∙ l.invariant.listens;
      lies = c.add_resource.ensures.lies ∙ l.invariant.lies;
      capacity = c.add_resource.ensures.capacity ∙ l.invariant.capacity;
      reserved = c.add_resource.ensures.reserved ∙ l.invariant.reserved;
    }

pub returns-in_err-number-clause-left : goal.returns-in_err-number-clause-left
returns-in_err-number-clause-left g c =
    let l = c.loop-filling in
    let less : l.filling-index < length c.args.wanted.now = search rules in
    on_err c.from_residual.result _ (elim c.in_err-number.ensures.left [
      | inl takes ↦ inl takes
      | inr left ↦ elim (c.in_err-number.ensures.host refl) [
        | inl takes ↦ inl takes
        | inr listens ↦ inr (stops-here g.K.PurgeSink.told (g.K.PurgeSink.listens c.args.sink.now) l.filling-index
            c.args.wanted.now _ l.numbers.items _ c.args.sink.now l.sink l.invariant.made less
            (sym l.invariant.listens ∙ listens) _ c.add_resource.new.sink left)
      ]
    ])
