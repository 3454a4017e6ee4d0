use Rattle.fork_edits.proofs.Cited.{◌≡◌, ◌∙◌, ◌+◌, sym, ap, map, drop, List, true, false, option_map, is_some, find, Ref, view_ref}
use Rattle.fork_edits.proofs.Cited.{view_group, rest-map, Row, group_rows, rows, is_at}
use Rattle.fork_format.specs.declared.content.Group.{Group as StoredGroup}
use Rattle.fork_edits.proofs.Finding.{find_first, find_second}
use Rattle.fork_edits.proofs.resources.first_of.Goals as goal

pub returns-then-is_some : goal.returns-then-is_some
returns-then-is_some c =
    let f : Row → Ref = λ x. x.resource in
    let p = is_at c.args.key.now.kind c.args.key.now.id in
    let all : List StoredGroup = c.args.groups.now in
    let item : StoredGroup = c.group-item.result in
    let rest : List Row = rows (map view_group (drop (c.loop-group.group-index + 1) all)) in
    let some : is_some c.find_of-first.result ≡ true = cc in
    find_first p f view_ref (group_rows (view_group item)) rest c.find_of-first.result c.find_of-first.ensures some
    ∙ ap (option_map f) (ap (λ l. find p (rows l)) (sym
    (rest-map view_group all c.loop-group.group-index item c.loop-group-test.true c.group-item.is))
    ∙ c.loop-group.invariant)

pub loop-group-preserved : goal.loop-group-preserved
loop-group-preserved c =
    let f : Row → Ref = λ x. x.resource in
    let p = is_at c.args.key.now.kind c.args.key.now.id in
    let all : List StoredGroup = c.args.groups.now in
    let item : StoredGroup = c.group-item.result in
    let rest : List Row = rows (map view_group (drop (c.loop-group.group-index + 1) all)) in
    let none : is_some c.find_of-first.result ≡ false = cc in
    sym (find_second p f view_ref (group_rows (view_group item)) rest c.find_of-first.result c.find_of-first.ensures
    none) ∙ ap (λ l. find p (rows l)) (sym
    (rest-map view_group all c.loop-group.group-index item c.loop-group-test.true c.group-item.is))
    ∙ c.loop-group.invariant
