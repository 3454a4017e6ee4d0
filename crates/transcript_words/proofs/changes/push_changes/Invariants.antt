use Rattle.transcript_words.proofs.Cited.{◌≡◌, ◌++◌, map, drop, get, flat_map, nat_cmp, change_by, view_placed}
use Rattle.transcript_words.proofs.changes.push_changes.Given as goal

-- what is written, before the changes of the blocks that are left
abbrev pub invariant-loop-block : goal.invariant-loop-block
invariant-loop-block l = l.text.items
    ++ flat_map (change_by (get nat_cmp l.places) l.handles) (map view_placed (drop l.block-index l.blocks))
    ≡ l.fn.text.items ++ flat_map (change_by (get nat_cmp l.places) l.handles) (map view_placed l.blocks)
