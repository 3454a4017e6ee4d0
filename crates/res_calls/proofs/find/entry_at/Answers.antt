use Rattle.res_calls.proofs.Cited.{◌∙◌, ◌<◌, ap, subst, length, slice_get, view_open}
use Rattle.res_calls.specs.declared.files.OpenFile.{OpenFile}
use Rattle.res_calls.proofs.Standing.{inside_map, entry_here}
use Rattle.res_calls.proofs.find.entry_at.Goals as goal

pub reference-requires : goal.reference-requires
reference-requires c =
    subst (λ (x : OpenFile). c.args.at.reference < length x.map.references) c.index-files-at.is
    (inside_map view_open c.args.files.now c.args.at c.index-files-at.result c.index-files-at.is c.requires)

pub returns : goal.returns
returns c =
    entry_here view_open c.args.files.now c.args.at c.index-files-at.result _ c.index-files-at.is c.requires
    (ap (λ (x : OpenFile). slice_get x.map.references c.args.at.reference) c.index-files-at.is ∙ c.reference.ensures)
