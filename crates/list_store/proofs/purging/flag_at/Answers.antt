use Rattle.list_store.proofs.Cited.{with_flags}
use Rattle.list_store.proofs.Zone.Spots.{changed-at}
use Rattle.list_store.proofs.purging.flag_at.Goals as goal

pub returns : goal.returns
returns c =
    changed-at c.args.entries.now.items _ c.args.place c.in-Some.i c.replace-entry.result _ c.replace-entry.new.dest
    c.flagged_entry.result
    (with_flags c.args.flags) c.deref.ensures.value c.in-Some.ensures c.replace-entry.ensures.value
    c.index_mut.ensures.value c.flagged_entry.ensures
