use Rattle.zone_bytes.proofs.Cited.{◌≡◌, ◌%◌, ◌==◌, ◌∙◌, false, ap, sym, arith, Some, Spot, spot_at, kind, zone_in}
use Rattle.zone_bytes.proofs.Placed.Sizes.{Sizing, sizing, room-at, cut-lays, free-sized, grown-lays, header-is}
use Rattle.zone_bytes.proofs.Placed.Sizes.{kept-cut, kept-grown, kept-replaced, may-size, sized-replaced}
use Rattle.zone_bytes.proofs.Placed.Standing.{Standing}
use Rattle.zone_bytes.proofs.resizing.resize_block.Goals as goal
use Rattle.zone_bytes.proofs.resizing.resize_block.Goals.{Then-not-has_content, After-free_above}
use Rattle.zone_bytes.proofs.Places.Stepped.{may-read}

-- a block that holds nothing
none : (c : Then-not-has_content) → (s : Spot) × (spot_at c.args.place (zone_in c.args.part.now.bytes) ≡ Some s)
    × Standing c.args.part.now.bytes c.args.place s × ((kind s.here % 2 == 1) ≡ false)
none c =
    let a = room-at _ _ _ _ c.args.bytes c.requires.sound.2 c.requires.room in
    let k = (header-is {hd = c.read_header-header.result} a.3 (grind arith)).1 in
    (a.0, a.1, a.3, ap (λ t. t % 2 == 1) (sym k) ∙ sym c.has_content.ensures ∙ c.if-not-has_content.true)

-- one that holds bytes, and the Free bytes above it
there : (c : After-free_above) → (s : Spot) × (spot_at c.args.place (zone_in c.args.part.now.bytes) ≡ Some s)
    × Sizing c.args.part.now.bytes c.args.place c.args.bytes s c.read_header-header.result c.free_above.result
there c =
    let a = room-at _ _ _ _ c.args.bytes c.requires.sound.2 c.requires.room in (
      a.0,
      a.1,
      sizing c.requires.sound.2 _ _ _ a.3 a.2 _ (grind arith) (sym c.has_content.ensures ∙ c.if-not-has_content.false) _
          c.free_above.ensures,
    )

pub read_header-header-requires : goal.read_header-header-requires
read_header-header-requires c =
    let a = room-at _ _ _ _ c.args.bytes c.requires.sound.2 c.requires.room in may-read _ _ a.3.way (omega arith)

pub returns-then-not-has_content-clause-cut : goal.returns-then-not-has_content-clause-cut
returns-then-not-has_content-clause-cut c = λ first unused i.
    let a = none (goal.at.returns-then-not-has_content-clause-cut c).Then-not-has_content in
    rw a.1 (λ le. kept-cut _ a.2 a.3 i)

pub returns-then-not-has_content-clause-grown : goal.returns-then-not-has_content-clause-grown
returns-then-not-has_content-clause-grown c = λ first unused i.
    let a = none (goal.at.returns-then-not-has_content-clause-grown c).Then-not-has_content in
    rw a.1 (kept-grown _ a.2 a.3 i)

pub returns-then-not-has_content-clause-replaced : goal.returns-then-not-has_content-clause-replaced
returns-then-not-has_content-clause-replaced c = λ first unused i.
    kept-replaced (none (goal.at.returns-then-not-has_content-clause-replaced c).Then-not-has_content).2

pub overflow_add-end : goal.overflow_add-end
overflow_add-end c =
    let a = room-at _ _ _ _ c.args.bytes c.requires.sound.2 c.requires.room in
    omega (arith, header-is {hd = c.read_header-header.result} a.3 (grind arith))

pub free_above-requires : goal.free_above-requires
free_above-requires c =
    let a = room-at _ _ _ _ c.args.bytes c.requires.sound.2 c.requires.room in
    rw (header-is {hd = c.read_header-header.result} a.3 (grind arith)).0 a.3.way_above

pub overflow_add-top : goal.overflow_add-top
overflow_add-top c =
    let k = (there (goal.at.overflow_add-top c).After-free_above).2 in
    omega (arith, k.ends, k.at.small)

pub padded_size-requires : goal.padded_size-requires
padded_size-requires c =
    let k = (there (goal.at.padded_size-requires c).After-free_above).2 in
    omega (arith, k.ends, k.at.small, k.fits)

pub lay_block-requires : goal.lay_block-requires
lay_block-requires c = may-size (there (goal.at.lay_block-requires c).After-free_above).2 _ c.padded_size.ensures

pub overflow_add-result : goal.overflow_add-result
overflow_add-result c =
    let k = (there (goal.at.overflow_add-result c).After-free_above).2 in
    omega (arith, free-sized k _ c.padded_size.ensures c.requires.sound.2 _ c.requires.free, k.ends, k.at.small)

pub overflow_sub-result : goal.overflow_sub-result
overflow_sub-result c = (free-sized (there (goal.at.overflow_sub-result c).After-free_above).2 _ c.padded_size.ensures
    c.requires.sound.2 _ c.requires.free).0

pub returns-clause-cut : goal.returns-clause-cut
returns-clause-cut c = λ first unused i.
    let a = there (goal.at.returns-clause-cut c).After-free_above in
    rw (c.lay_block.ensures.bytes, a.1) (cut-lays a.2 _ c.padded_size.ensures i)

pub returns-clause-grown : goal.returns-clause-grown
returns-clause-grown c = λ first unused i.
    let a = there (goal.at.returns-clause-grown c).After-free_above in
    rw (c.lay_block.ensures.bytes, a.1) (grown-lays a.2 _ c.padded_size.ensures i)

pub returns-clause-free : goal.returns-clause-free
returns-clause-free c =
    rw c.lay_block.ensures.bytes (free-sized (there (goal.at.returns-clause-free c).After-free_above).2 _
    c.padded_size.ensures c.requires.sound.2 _ c.requires.free).2

pub returns-clause-replaced : goal.returns-clause-replaced
returns-clause-replaced c = λ first unused i. rw c.lay_block.ensures.bytes (sized-replaced
    (there (goal.at.returns-clause-replaced c).After-free_above).2 _ c.padded_size.ensures i)
