use Rattle.zone_scripts.proofs.Cited.{◌≡◌, ◌++◌, replicate, MoreMasters, lines_text}
use Rattle.zone_scripts.proofs.blocks.push_masters.Given as goal

-- what was written
abbrev pub invariant-loop-masters : goal.invariant-loop-masters
invariant-loop-masters l = l.text.items ≡ l.fn.text.items ++ lines_text (replicate l._masters MoreMasters)
