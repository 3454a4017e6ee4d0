use Rattle.macmem_c.proofs.Cited.{rules, w32, SFits, IsUnstated}
use Rattle.macmem_c.proofs.Writing.{written}
use Rattle.macmem_c.proofs.linted.macmem_source_faults.Goals as goal

pub returns : goal.returns
returns c =
    let fits : SFits w32 c.give.result = search rules in
    written (λ v. v.items) (IsUnstated c.args.source.now) c.source_lines.result _ _ _ _ _ fits
    c.source_lines.ensures c.give.ensures.given c.give.ensures.unchanged
