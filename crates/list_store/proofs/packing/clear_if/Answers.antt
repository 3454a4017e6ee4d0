use Rattle.list_store.proofs.Cited.{◌∙◌, sym, ap, slice_set, block_of, is_free}
use Rattle.list_store.specs.declared.entries.StoredBlock.TheVariants as entry
use Rattle.list_store.proofs.Zone.Spots.{blocks-set}
use Rattle.list_store.proofs.Regroup.Packed.{cleared-set, cleared-same}
use Rattle.list_store.proofs.packing.clear_if.Goals as goal

pub returns-then-is_free_entry : goal.returns-then-is_free_entry
returns-then-is_free_entry c =
    let es = c.args.run.now in
    let e = c.index-run-i.result in
    cleared-set es c.args.i e (slice_set es c.args.i (entry.Free 0)) c.requires c.index-run-i.is
    (ap (λ x. is_free (block_of x)) c.index-run-i.is ∙ sym c.is_free_entry.ensures ∙ c.if-is_free_entry.true)
    (blocks-set es c.args.i (entry.Free 0) c.requires)

pub returns-else-is_free_entry : goal.returns-else-is_free_entry
returns-else-is_free_entry c =
    cleared-same c.args.run.now c.args.i c.index-run-i.result c.requires c.index-run-i.is
    (ap (λ x. is_free (block_of x)) c.index-run-i.is ∙ sym c.is_free_entry.ensures ∙ c.if-is_free_entry.false)
