use Rattle.block_headers.proofs.Cited.{◌+◌, ℕ, ap, ◌∙◌, arith, word_at}
use Rattle.block_headers.proofs.Headers.{first_reads, logical_reads, slot_reads, flags_read, same_first, tag_low}
use Rattle.block_headers.proofs.laws.header_read_again.Goals as goal

pub read_header-requires-clause-tag : goal.read_header-requires-clause-tag
read_header-requires-clause-tag c =
    let h = c.args.header in
    let low = tag_low h.tag in
    let first = ap (word_at c.args.at) c.write_header.ensures.bytes
    ∙ first_reads c.args.at h c.args.part.now.bytes c.requires.inside (omega (arith, low, c.requires.small_size)) in
    omega (arith, first, low, c.requires.size)

pub returns-clause-again : goal.returns-clause-again
returns-clause-again c =
    let h = c.args.header in
    let at = c.args.at in
    let xs = c.args.part.now.bytes in
    let low = tag_low h.tag in
    let there = λ (k : ℕ). ap (word_at k) c.write_header.ensures.bytes in
    let first = there at ∙ first_reads at h xs c.requires.inside (omega (arith, low, c.requires.small_size)) in
    let same =
    same_first c.read_header.result.size h.size c.read_header.result.tag h.tag c.read_header.ensures.size
    c.requires.size (c.read_header.ensures.first ∙ first) in
    let logical = c.read_header.ensures.logical ∙ there (at + 4)
    ∙ logical_reads at h xs c.requires.inside c.requires.small_logical in
    let slot = c.read_header.ensures.slot ∙ there (at + 8)
    ∙ slot_reads at h xs c.requires.inside c.requires.small_slot in
    let flags = c.read_header.ensures.flags ∙ there (at + 12)
    ∙ flags_read at h xs c.requires.inside c.requires.small_flags in
    λ i. record { size = same.0 i; tag = same.1 i; logical = logical i; slot = slot i; flags = flags i }
