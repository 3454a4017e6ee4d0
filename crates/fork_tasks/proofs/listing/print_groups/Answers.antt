use Rattle.fork_tasks.proofs.Cited.{◌≡◌, ◌∙◌, ◌++◌, ◌+◌, List, ℕ, drop, map, rules, arith, common_steps, flat_map, view_group, group_lines}
use Rattle.fork_tasks.proofs.Cited.{PrintsBut}
use Rattle.fork_tasks.proofs.Prints.{first-further, first-front-further}
use Rattle.fork_tasks.proofs.listing.print_groups.Goals as goal

pub returns-in_err-print_group-clause-front : goal.returns-in_err-print_group-clause-front
returns-in_err-print_group-clause-front g c =
    let lines = λ (i : ℕ). flat_map (group_lines c.args.spelling) (map view_group (drop i c.args.content.now.groups.items)) in
    let i : ℕ = c.loop-group.group-index in
    let first : List ℕ = c.loop-group.lines.items ++ group_lines c.args.spelling (view_group c.group-item.result) in
    let split : c.loop-group.lines.items ++ lines i ≡ first ++ lines (i + 1) = grind (arith, common_steps) in
    first-front-further _ _ first (lines (i + 1)) _ _ _ c.loop-group.invariant.printed split c.print_group.ensures.front

pub loop-group-preserved : goal.loop-group-preserved
loop-group-preserved g c =
    let lines = λ (i : ℕ). flat_map (group_lines c.args.spelling) (map view_group (drop i c.args.content.now.groups.items)) in
    let i : ℕ = c.loop-group.group-index in
    let first : List ℕ = c.loop-group.lines.items ++ group_lines c.args.spelling (view_group c.group-item.result) in
    let split : c.loop-group.lines.items ++ lines i ≡ first ++ lines (i + 1) = grind (arith, common_steps) in
    let now : PrintsBut first c.print_group.new.lines.items (g.H.Host.printed c.loop-group.host)
    (g.H.Host.printed c.print_group.new.host) = search rules in
    record {
      printed = first-further _ _ first _ (lines (i + 1)) _ _ _ c.loop-group.invariant.printed split now;
      files = c.in_ok-print_group.ensures.files ∙ c.loop-group.invariant.files;
    }
