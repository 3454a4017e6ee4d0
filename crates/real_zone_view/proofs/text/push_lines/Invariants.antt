use Rattle.real_zone_view.proofs.Cited.{◌≡◌, ◌++◌, drop, get, nat_cmp, lines_text}
use Rattle.real_zone_view.proofs.text.push_lines.Given as goal

-- what is written, before the lines that are still to be written
abbrev pub invariant-loop-block : goal.invariant-loop-block
invariant-loop-block l =
    l.text.items ++ lines_text l.style (get nat_cmp l.resources) (drop l.block-index l.blocks)
    ≡ l.fn.text.items ++ lines_text l.style (get nat_cmp l.resources) l.blocks
