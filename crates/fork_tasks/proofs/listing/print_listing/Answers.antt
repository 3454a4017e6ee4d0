use Rattle.fork_tasks.proofs.Cited.{rules, listing, view, PrintsBut}
use Rattle.fork_tasks.proofs.Prints.{nothing, front-further}
use Rattle.fork_tasks.proofs.listing.print_listing.Goals as goal

pub returns-in_err-lines-clause-front : goal.returns-in_err-lines-clause-front
returns-in_err-lines-clause-front g c = nothing _ _

pub returns-in_err-push_first-clause-front : goal.returns-in_err-push_first-clause-front
returns-in_err-push_first-clause-front g c = nothing _ _

pub returns-clause-front : goal.returns-clause-front
returns-clause-front g c =
    let before : PrintsBut (listing c.args.listing.now.spelling c.args.listing.now.info.items (view c.args.listing.now.content))
    c.print_groups.new.lines.items (g.H.Host.printed c.args.host.now) (g.H.Host.printed c.print_groups.new.host) = search rules in
    front-further _ _ _ _ _ _ before c.as_slice.ensures.value c.print.ensures.front
