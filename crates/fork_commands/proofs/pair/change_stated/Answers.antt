use Rattle.fork_commands.proofs.Cited.{ap, rules, big_number, view, view_ref, Renaming, view_renaming, bytes_alone}
use Rattle.fork_commands.proofs.Pairs.{no_refusal}
use Rattle.fork_commands.proofs.pair.change_stated.Goals as goal

pub unreachable-requires : goal.unreachable-requires
unreachable-requires c = no_refusal (big_number 4 c.args.setting.now.key.ty.0) c.args.setting.now.key.id
    (bytes_alone (view_ref c.args.stated.now)) (view_renaming c.stated_naming-naming.result) (view c.args.content.now)
    (view c.set_resource.new.content) c.in-Err.field-0 (ap (λ (n : Renaming). n.id) c.stated_naming-naming.ensures)
    (search rules) (search rules)
