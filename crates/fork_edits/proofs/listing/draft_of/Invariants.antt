use Rattle.fork_edits.proofs.Cited.{◌≡◌, ◌+◌, drop, map, lines_read, no_draft, view_draft}
use Rattle.fork_edits.proofs.listing.draft_of.Given as goal

-- what the lines to come add to those so far is what all say
abbrev pub invariant-loop-i : goal.invariant-loop-i
invariant-loop-i l = lines_read (l.i + 1) (view_draft l.draft) (map (λ line. line.now) (drop l.i l.lines))
    ≡ lines_read 1 no_draft (map (λ line. line.now) l.lines)
