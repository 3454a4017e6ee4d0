use Rattle.zone_bytes.proofs.Cited.{◌+◌, sym, ap, ◌∙◌, arith, rules, tag_number, content_of, piece}
use Rattle.zone_bytes.proofs.Tiles.Tags.{tag-small}
use Rattle.zone_bytes.proofs.Places.Stepped.{Stepped, may-read, stepped}
use Rattle.zone_bytes.proofs.Places.HeaderTells.{holds, holds-none, same-here}
use Rattle.zone_bytes.proofs.contents.content_at.Goals as goal
use Rattle.zone_bytes.proofs.contents.content_at.Goals.{After-read_header-header}

-- the block at the place
step : (c : After-read_header-header) → Stepped c.args.place c.args.part.now.bytes c.read_header-header.result.size
    (tag_number c.read_header-header.result.tag)
step c =
    let h = c.read_header-header.ensures in
    stepped _ _ c.requires.way c.requires.some _ _ h.first h.size (tag-small c.read_header-header.result.tag)

pub read_header-header-requires : goal.read_header-header-requires
read_header-header-requires c = may-read _ _ c.requires.way c.requires.some

pub get_bytes-requires : goal.get_bytes-requires
get_bytes-requires c =
    let h = holds _ _ _ (step (goal.at.get_bytes-requires c).After-read_header-header)
    (sym c.has_content.ensures ∙ c.if-has_content.true) in omega (arith, h)

pub returns-then-has_content : goal.returns-then-has_content
returns-then-has_content c = λ b above q.
    let o = step (goal.at.returns-then-has_content c).After-read_header-header in
    c.get_bytes.ensures
    ∙ ap (λ n. piece (c.args.place + 16) n c.args.part.now.bytes) c.read_header-header.ensures.logical
    ∙ (holds _ _ _ o (sym c.has_content.ensures ∙ c.if-has_content.true)).is ∙ ap content_of (same-here _ _ _ o b _ q)

pub returns-else-has_content : goal.returns-else-has_content
returns-else-has_content c = λ b above q.
    let o = step (goal.at.returns-else-has_content c).After-read_header-header in
    sym (holds-none _ _ _ o (search rules)) ∙ ap content_of (same-here _ _ _ o b _ q)
