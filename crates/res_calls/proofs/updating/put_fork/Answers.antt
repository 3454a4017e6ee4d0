use Rattle.res_calls.proofs.Cited.{ℕ, map, ◌∙◌, ap, rules, slice_set, given_back, view_file}
use Rattle.res_calls.proofs.PuttingBack.{back_again}
use Rattle.res_calls.proofs.WritingAnew.{fork_put, fork_past}
use Rattle.res_calls.proofs.updating.put_fork.Goals as goal

pub returns-then-at-len-clause-files : goal.returns-then-at-len-clause-files
returns-then-at-len-clause-files c =
    fork_put c.args.fork.items c.args.files.now.items c.args.place c.in-Some.at c.index_mut.result.now
    c.give_fork.new.file c.in-Some.is (search rules) c.index_mut.ensures.value c.give_fork.ensures.file

pub returns-then-at-len-clause-replaced : goal.returns-then-at-len-clause-replaced
returns-then-at-len-clause-replaced c =
    ap (λ (i : ℕ). given_back i c.give_fork.result.fork.items c.give_fork.result.written
    (map view_file (slice_set c.args.files.now.items c.in-Some.at c.give_fork.new.file))) c.give_fork.ensures.place
    ∙ back_again c.give_fork.result.fork.items c.give_fork.result.written c.args.files.now.items c.in-Some.at
    c.index_mut.result.now c.give_fork.new.file (search rules) c.index_mut.ensures.value c.give_fork.ensures.replaced

pub returns-else-at-len-clause-files : goal.returns-else-at-len-clause-files
returns-else-at-len-clause-files c =
    fork_past c.args.fork.items c.args.files.now.items c.args.place c.in-Some.at c.in-Some.is (search rules)
