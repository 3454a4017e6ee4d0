use Rattle.zone_replay.proofs.Cited.{◌∙◌, sym, ap, handle_number, pointer_number, State, lines, largest_of, known_by, tag_by, block_lines}
use Rattle.zone_replay.proofs.Numbered.{lines-numbered, largest-numbered}
use Rattle.zone_replay.proofs.shown.seen_in.Goals as goal

pub returns-clause-lines : goal.returns-clause-lines
returns-clause-lines g c =
    let zone = g.S.BlockStore.zone c.numbered.result.0.now in
    let anchors = c.numbered.result.1.now in
    let known = tag_by c.args.names.now c.args.owners.now in
    let held = known_by c.in_ok-handles.handles c.in_ok-pointers.pointers in
    c.in_ok-lines.ensures ∙ ap (lines held 0) (c.as_slice.ensures.value ∙ c.in_ok-blocks.ensures.blocks)
    ∙ lines-numbered held known (handle_number anchors) (pointer_number anchors) c.in_ok-handles.ensures
    c.in_ok-pointers.ensures 0 zone (g.met.S.BlockStore.placed c.numbered.result.0.now)
    ∙ sym (ap (λ (s : State). block_lines known 0 s.zone) c.numbered.ensures)

pub returns-clause-largest : goal.returns-clause-largest
returns-clause-largest g c =
    let zone = g.S.BlockStore.zone c.numbered.result.0.now in
    let anchors = c.numbered.result.1.now in
    c.largest_of-largest.ensures ∙ largest-numbered (handle_number anchors) (pointer_number anchors) zone
    ∙ sym (ap (λ (s : State). largest_of s.zone) c.numbered.ensures)
