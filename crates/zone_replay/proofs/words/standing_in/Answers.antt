use Rattle.zone_replay.proofs.Cited.{◌∙◌, ap, map, sym, State, stands_for_handle}
use Rattle.zone_replay.proofs.words.standing_in.Goals as goal

pub returns : goal.returns
returns g c =
    let slots = (g.S.BlockStore.rest c.numbered.result.0.now).slots in
    let handles = c.in_ok-handles.ensures slots
    ∙ sym (ap (λ (s : State). map stands_for_handle s.names) c.numbered.ensures)
    ∙ ap (λ m. map stands_for_handle m.heap.names) c.heap.ensures in
    λ i. record { blocks = c.in_ok-blocks.ensures i; handles = handles i }
