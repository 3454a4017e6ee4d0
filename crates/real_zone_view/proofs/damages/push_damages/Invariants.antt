use Rattle.real_zone_view.proofs.Cited.{◌≡◌, ◌++◌, drop, damages_text}
use Rattle.real_zone_view.proofs.damages.push_damages.Given as goal

-- what is written, before the lines that are still to be written
abbrev pub invariant-loop-damage : goal.invariant-loop-damage
invariant-loop-damage l =
    l.text.items ++ damages_text (drop l.damage-index l.damages) ≡ l.fn.text.items ++ damages_text l.damages
