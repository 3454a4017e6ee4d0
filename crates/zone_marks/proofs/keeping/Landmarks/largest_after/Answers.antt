use Rattle.zone_marks.proofs.Cited.{refl, sym, ap, ◌∙◌, arith, largest_free, zone_in, left-zone, spaces_of}
use Rattle.block_store.specs.declared.sparing.Sparing.TheVariants as sparing
use Rattle.zone_marks.proofs.Bounds.Fewest.{most-fits}
use Rattle.zone_marks.proofs.Marks.Passing.{begins-here}
use Rattle.zone_marks.proofs.Bounds.Space.{largest-from}
use Rattle.zone_marks.proofs.keeping.Landmarks.largest_after.Goals as goal
use Rattle.zone_marks.proofs.Stretches.Fewest.{purged-most}

pub returns : goal.returns
returns c =
    let i = c.args.sound.now.sound in
    let f = largest-from _ _ _ i c.args.purges c.under.result (c.under.ensures _ c.requires) in
    grind arith

pub stretch_above-requires-clause-begins : goal.stretch_above-requires-clause-begins
stretch_above-requires-clause-begins c = begins-here 0 _

-- as many purges as a zone can have blocks
pub returns-then-purges-ge-GREATEST_ZONE : goal.returns-then-purges-ge-GREATEST_ZONE
returns-then-purges-ge-GREATEST_ZONE c =
    let zone = zone_in c.args.sound.now.part.bytes in
    c.best.ensures.space zone (c.stretch_above.ensures.all refl ∙ ap spaces_of (left-zone _))
    ∙ sym (ap largest_free (purged-most _ sparing.Nothing zone
    (omega (arith, most-fits _ _ c.args.sound.now.unused c.args.sound.now.sound sparing.Nothing))))
