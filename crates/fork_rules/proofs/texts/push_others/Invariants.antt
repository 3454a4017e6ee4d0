use Rattle.fork_rules.proofs.Cited.{◌≡◌, ◌++◌, drop, flat_map, next_text}
use Rattle.fork_rules.proofs.texts.push_others.Given as goal

-- what is written so far, with the regions that are left, is all
abbrev pub invariant-loop-region : goal.invariant-loop-region
invariant-loop-region l = l.text.items ++ flat_map next_text (drop l.region-index l.regions)
    ≡ l.fn.text.items ++ flat_map next_text l.regions
