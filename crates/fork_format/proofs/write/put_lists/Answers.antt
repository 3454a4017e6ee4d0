use Rattle.fork_format.proofs.Cited.{◌∙◌, ◌+◌, ◌*◌, ap, map, List, sym, is_some, length-map, refs_of, refs_offset, refs_end, behind}
use Rattle.fork_format.proofs.Cited.{no_starts, view_group, view}
use Rattle.fork_format.specs.declared.content.Group.{Group as StoredGroup}
use Rattle.fork_format.proofs.Extending.{refs_end-some, behind-some}
use Rattle.fork_format.proofs.write.put_lists.Goals as goal

pub put_types-requires : goal.put_types-requires
put_types-requires c =
    ap (λ n. is_some (refs_end (2 + 8 * n) (map view_group c.as_slice-groups.result.now)))
    (sym (length-map c.as_slice-groups.result.now view_group))
    ∙ ap (λ (l : List StoredGroup). is_some (refs_end (refs_offset (map view_group l)) (map view_group l)))
    c.as_slice-groups.ensures.value ∙ refs_end-some (view c.args.content.now) c.requires

pub put_all_references-requires : goal.put_all_references-requires
put_all_references-requires c = ap (λ (l : List StoredGroup). is_some (behind no_starts (refs_of (map view_group l))))
    c.as_slice-groups.ensures.value ∙ behind-some (view c.args.content.now) c.requires
