use Rattle.zone_bytes.proofs.Cited.{◌∙◌, ap, arith, word, written}
use Rattle.zone_bytes.proofs.Tiles.Tags.{tag-small}
use Rattle.zone_bytes.proofs.Places.Stepped.{may-read}
use Rattle.zone_bytes.proofs.Places.HeaderTells.{size-at}
use Rattle.zone_bytes.proofs.Blocks.Adopted.{length-at}
use Rattle.zone_bytes.proofs.adopting.adopt.Goals as goal

pub read_header-nonrelocatable-requires : goal.read_header-nonrelocatable-requires
read_header-nonrelocatable-requires c = may-read _ _ c.requires.way c.requires.some

pub write_header-requires-clause-within : goal.write_header-requires-clause-within
write_header-requires-clause-within c =
    (may-read c.args.place c.args.part.now.bytes c.requires.way c.requires.some).within

pub returns-clause-bytes : goal.returns-clause-bytes
returns-clause-bytes c id content above e =
    let a = c.args in
    let t = c.read_header-nonrelocatable.ensures in
    let size = size-at _ _ c.requires.way c.requires.some _ _ t.first t.size
    (tag-small c.read_header-nonrelocatable.result.tag) _ _ e in
    let long = t.logical ∙ length-at a.place a.part.now.bytes c.requires.way id content above e in
    c.write_word.ensures.bytes ∙ ap (written a.slot (word a.place)) (grind arith)
