use Rattle.fork_tasks.proofs.Cited.{◌≡◌, ◌∙◌, ◌++◌, ◌+◌, List, ℕ, drop, map, rules, arith, common_steps, flat_map, big_number, view_ref}
use Rattle.fork_tasks.proofs.Cited.{PrintsBut}
use Rattle.fork_tasks.specs.Listing.{line_of}
use Rattle.fork_tasks.proofs.Prints.{first-further, first-front-further}
use Rattle.fork_tasks.proofs.listing.print_group.Goals as goal

pub returns-in_err-print_many-clause-front : goal.returns-in_err-print_many-clause-front
returns-in_err-print_many-clause-front g c =
    let lines = λ (i : ℕ). flat_map (line_of c.args.spelling (big_number 4 c.args.group.now.ty.0))
    (map view_ref (drop i c.args.group.now.refs.items)) in
    let i : ℕ = c.loop-resource.resource-index in
    let first : List ℕ = c.push_resource.new.text.items in
    let split : c.loop-resource.lines.items ++ lines i ≡ first ++ lines (i + 1) = grind (arith, common_steps) in
    first-front-further _ _ first (lines (i + 1)) _ _ _ c.loop-resource.invariant.printed split c.print_many.ensures.front

pub loop-resource-preserved : goal.loop-resource-preserved
loop-resource-preserved g c =
    let lines = λ (i : ℕ). flat_map (line_of c.args.spelling (big_number 4 c.args.group.now.ty.0))
    (map view_ref (drop i c.args.group.now.refs.items)) in
    let i : ℕ = c.loop-resource.resource-index in
    let first : List ℕ = c.push_resource.new.text.items in
    let split : c.loop-resource.lines.items ++ lines i ≡ first ++ lines (i + 1) = grind (arith, common_steps) in
    let now : PrintsBut first c.print_many.new.lines.items (g.H.Host.printed c.loop-resource.host)
    (g.H.Host.printed c.print_many.new.host) = search rules in
    record {
      printed = first-further _ _ first _ (lines (i + 1)) _ _ _ c.loop-resource.invariant.printed split now;
      files = c.in_ok-print_many.ensures.files ∙ c.loop-resource.invariant.files;
    }
