use Rattle.fork_commands.proofs.Cited.{◌≡◌, Ok, rules, view, with_setting, content_in}
use Rattle.fork_commands.proofs.Pairs.{setting_made, setting_stopped, also_ok, also_err}
use Rattle.fork_commands.proofs.pair.fork_set.Goals as goal

pub returns-clause-made : goal.returns-clause-made
returns-clause-made c =
    let has : content_in c.args.first.now ≡ Ok (view c.in_ok-content.content) = search rules in
    let is : view c.change.new.content ≡ with_setting c.args.setting.now c.args.second.now (view c.in_ok-content.content) =
    search rules in
    also_ok _ _ c.written.result (λ out made. setting_made c.args.setting.now c.args.packaging c.args.first.now
    c.args.second.now out.items (view c.in_ok-content.content) (view c.change.new.content) has is made)
    c.written.ensures.made

pub returns-clause-fault : goal.returns-clause-fault
returns-clause-fault c =
    let has : content_in c.args.first.now ≡ Ok (view c.in_ok-content.content) = search rules in
    let is : view c.change.new.content ≡ with_setting c.args.setting.now c.args.second.now (view c.in_ok-content.content) =
    search rules in
    also_err _ _ c.written.result (λ fault stops. setting_stopped c.args.setting.now c.args.packaging c.args.first.now
    c.args.second.now (view c.in_ok-content.content) (view c.change.new.content) fault has is stops)
    c.written.ensures.fault
