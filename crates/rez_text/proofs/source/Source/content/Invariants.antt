use Rattle.rez_text.proofs.Cited.{◌≡◌, ◌++◌, drop, map, clear_group, view_group, group_said}
use Rattle.rez_text.proofs.source.Source.content.Given as goal

-- the groups that are lent, with those to come, are all
abbrev pub invariant-loop-group : goal.invariant-loop-group
invariant-loop-group l =
    map view_group l.groups.items ++ map clear_group (map group_said (drop l.group-index l.self.groups.list.items))
    ≡ map clear_group (map group_said l.self.groups.list.items)
