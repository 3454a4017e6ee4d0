use Rattle.zone_marks.proofs.Cited.{sym, ◌∙◌}
use Rattle.block_store.specs.declared.sparing.Sparing.TheVariants as sparing
use Rattle.zone_marks.proofs.Searches.RunStarting.{found-lowest, known-finds}
use Rattle.zone_marks.proofs.keeping.Landmarks.find_run.Goals as goal

pub search_on-requires-clause-begins : goal.search_on-requires-clause-begins
search_on-requires-clause-begins c = c.run_below-scan.ensures.piece.edge

pub returns : goal.returns
returns c = found-lowest _ 0 sparing.Nothing _ _ _ c.args.sound.now.sound.tidied
    (c.search_on.ensures ∙ sym (known-finds _ _ _ _ c.run_below-scan.ensures))
