use Rattle.macmem_c.proofs.Cited.{◌≡◌, ◌∙◌, ℕ, ap, sym, length, arith, zone_of, rest_of, fresh, sizes, fresh_memory, sizes-fresh}
use Rattle.macmem_c.proofs.zone.Zone.new.Goals as goal

-- the zone is fresh, and fills the region
pub new-heap-requires-clause-zone : goal.new-heap-requires-clause-zone
new-heap-requires-clause-zone c =
    let low = c.requires.low in
    let long : length c.cut.result.bytes ≡ c.args.size = c.cut.ensures.part_length in
    let whole : sizes (zone_of c.new-store.result) ≡ length c.cut.result.bytes =
    ap sizes c.new-store.ensures.zone ∙ sizes-fresh (length c.cut.result.bytes) (omega (arith, low, long)) in
    c.new-store.ensures.zone ∙ ap fresh (sym whole)

-- it has all bytes of the region
pub returns : goal.returns
returns c =
    let low = c.requires.low in
    let long : length c.cut.result.bytes ≡ c.args.size = c.cut.ensures.part_length in
    let whole : sizes (zone_of c.new-store.result) ≡ c.args.size =
    ap sizes c.new-store.ensures.zone ∙ sizes-fresh (length c.cut.result.bytes) (omega (arith, low, long)) ∙ long in
    record {
      at = (rest_of c.new-store.result).window;
      memory = c.new-heap.ensures.memory ∙ ap (λ (n : ℕ). fresh_memory n (rest_of c.new-store.result).window) whole;
      placings = c.new-heap.ensures.placings ∙ c.new-store.ensures.placed;
    }
