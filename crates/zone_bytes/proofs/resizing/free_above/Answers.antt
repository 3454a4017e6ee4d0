use Rattle.zone_bytes.proofs.Cited.{◌∙◌, sym, ap, arith, tag_number, free_of, free_first}
use Rattle.zone_bytes.proofs.Places.Stepped.{Stepped, may-read, stepped, left-none}
use Rattle.zone_bytes.proofs.Joined.Above.{free-is, free-other}
use Rattle.zone_bytes.proofs.Tiles.Tags.{tag-small, free-true, free-false}
use Rattle.zone_bytes.proofs.resizing.free_above.Goals as goal
use Rattle.zone_bytes.proofs.resizing.free_above.Goals.{After-read_header-header}

-- the block that begins there
step : (c : After-read_header-header) → Stepped c.args.at c.args.part.now.bytes c.read_header-header.result.size
    (tag_number c.read_header-header.result.tag)
step c =
    let h = c.read_header-header.ensures in
    stepped _ _ c.requires (omega arith) _ _ h.first h.size (tag-small c.read_header-header.result.tag)

pub returns-then-at-len : goal.returns-then-at-len
returns-then-at-len c = sym (ap free_first (left-none _ _ c.requires (omega arith)))

pub read_header-header-requires : goal.read_header-header-requires
read_header-header-requires c = may-read _ _ c.requires (omega arith)

pub returns-then-eq : goal.returns-then-eq
returns-then-eq c =
    let o = step (goal.at.returns-then-eq c).After-read_header-header in
    o.bytes ∙ sym (ap free_of (free-is o.here (sym o.tag ∙ free-true _ (sym c.if-eq.true ∙ c.eq.ensures))))
    ∙ sym (ap free_first o.is)

pub returns-else-eq : goal.returns-else-eq
returns-else-eq c =
    let o = step (goal.at.returns-else-eq c).After-read_header-header in
    let f = free-false _ (sym c.if-eq.false ∙ c.eq.ensures) in
    sym (free-other o.here (omega (arith, o.tag))) ∙ sym (ap free_first o.is)
