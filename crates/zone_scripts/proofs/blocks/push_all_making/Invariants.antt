use Rattle.zone_scripts.proofs.Cited.{◌≡◌, ◌++◌, drop, flat_map, parts_of, making, lines_text}
use Rattle.zone_scripts.proofs.blocks.push_all_making.Given as goal

-- what is written, before the calls that are still to be written
abbrev pub invariant-loop-block : goal.invariant-loop-block
invariant-loop-block l =
    l.text.items ++ lines_text (flat_map making (parts_of (drop l.block-index l.blocks)))
    ≡ l.fn.text.items ++ lines_text (flat_map making (parts_of l.blocks))
