use Rattle.list_store.proofs.Cited.{◌∙◌, ap, tidy, lowest_purged, spared}
use Rattle.list_store.proofs.Purged.Purges.{changed_above}
use Rattle.list_store.proofs.purging.purge_above.Goals as goal

pub returns : goal.returns
returns c = changed_above c.args.entries.now.items _ c.args.place c.in-Some.i
    (lowest_purged c.args.purges (spared c.args.sparing)) _ c.deref.ensures.value c.in-Some.ensures
    (c.tidy_entries.ensures ∙ ap tidy c.empty_from.ensures.blocks)
