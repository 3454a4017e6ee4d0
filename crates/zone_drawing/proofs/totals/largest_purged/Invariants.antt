use Rattle.zone_drawing.proofs.Cited.{◌≡◌, ◌+◌, ◌≤◌, drop, GREATEST_ZONE, pass, seen_sizes}
use Rattle.zone_drawing.proofs.totals.largest_purged.Given as goal

-- what the pass over the blocks that are left gives is what the whole pass gives
abbrev pub invariant-loop-block : goal.invariant-loop-block
invariant-loop-block l = (pass l.run l.best (drop l.block-index l.blocks) ≡ pass 0 0 l.blocks)
    × (l.run + seen_sizes (drop l.block-index l.blocks) ≤ GREATEST_ZONE)
