use Rattle.fork_wrappers.proofs.Cited.{◌≡◌, length, true, rules, are_clear, is_entries_file, with_fork}
use Rattle.fork_wrappers.proofs.Rewraps.{is_made_among}
use Rattle.fork_wrappers.proofs.new_entries.with_fork_of.Goals as goal

pub returns-clause-made : goal.returns-clause-made
returns-clause-made c =
    let file = c.args.file.now in
    let fork = c.args.fork.now in
    let span = c.span_in-span.result in
    let clear : are_clear file span ≡ true = search rules in
    let small : is_entries_file file span (length fork) ≡ true = search rules in
    let written : c.put_file.new.out.items ≡ with_fork file span fork = search rules in
    is_made_among file fork c.put_file.new.out.items span c.span_in-span.ensures.span clear small written
