use Rattle.real_zone_view.proofs.Cited.{◌≡◌, ◌++◌, drop, flat_map, find_text}
use Rattle.real_zone_view.proofs.finds.push_each.Given as goal

-- what is written, before the lines that are still to be written
abbrev pub invariant-loop-zone : goal.invariant-loop-zone
invariant-loop-zone l =
    l.text.items ++ flat_map (find_text l.style l.dump l.base) (drop l.zone-index l.zones)
    ≡ l.fn.text.items ++ flat_map (find_text l.style l.dump l.base) l.zones
