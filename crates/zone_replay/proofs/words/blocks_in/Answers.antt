use Rattle.zone_replay.proofs.Cited.{◌≡◌, ◌∙◌, ap, map, view_line, lent_binding, placed, given, name_of, owner_of, tag, tag_by, zone_lines}
use Rattle.zone_replay.proofs.words.blocks_in.Goals as goal

pub returns : goal.returns
returns g c =
    let bound = ap (map lent_binding) c.as_slice.ensures.value ∙ c.in_ok-bound.ensures ∙ c.names.ensures in
    let opened = c.open_files.ensures ∙ ap (λ r. r.chain) c.resources.ensures in
    let tags : tag_by c.in_ok-names.names c.in_ok-owners.owners ≡ tag c.args.application.now =
    λ i n. record {
      name = (c.in_ok-names.ensures.names n ∙ ap (name_of n) bound) i;
      owner = (c.in_ok-owners.ensures.owners n ∙ ap (owner_of n) opened) i;
      number = given n;
    } in
    c.in_ok-blocks.ensures ∙ ap (λ ls. placed (map view_line ls)) c.as_slice-2.ensures.value
    ∙ ap placed c.in_ok-seen.ensures.lines ∙ (λ i. placed (zone_lines (tags i) (c.heap.ensures i).heap.zone))
