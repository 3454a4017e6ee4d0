use Rattle.zone_marks.proofs.Cited.{ap, ◌∙◌, most_purges}
use Rattle.zone_marks.proofs.Bounds.Going.{count-from}
use Rattle.zone_marks.proofs.going.count_purgeable.Goals as goal

pub returns : goal.returns
returns c =
    c.purgeable_in.ensures ∙ ap (most_purges c.args.sparing) c.walk_at.ensures.is
    ∙ count-from _ _ _ c.args.sound.now.sound _ c.requires.begins c.requires.none _ c.requires.plain
