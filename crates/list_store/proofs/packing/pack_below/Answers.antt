use Rattle.list_store.proofs.Cited.{◌≡◌, ◌-◌, ◌++◌, ◌∷◌, [], length, take, drop, subst, ◌∙◌, ap, sym, arith, map-append, is_relocatable}
use Rattle.list_store.proofs.Cited.{sizes, size, tidy, blocks_of, block_of, Loose, total-append, loose-without, high-done}
use Rattle.list_store.proofs.Regroup.Packed.{topped}
use Rattle.list_store.proofs.packing.pack_below.Goals as goal

pub pack-requires-clause-loose : goal.pack-requires-clause-loose
pack-requires-clause-loose c =
    let within = c.in-Some.ensures.0 in
    let t = topped (is_relocatable c.args.number) (blocks_of c.args.run.now) c.move_last.new.entries c.in-Some.i
    (omega arith) c.in-Some.ensures.1 c.move_last.ensures in
    subst Loose (sym t.rest) (loose-without t.s.below t.s.above t.s.here (subst Loose (sym t.whole) c.requires.loose))

pub pack-requires-clause-fits : goal.pack-requires-clause-fits
pack-requires-clause-fits c =
    let within = c.in-Some.ensures.0 in
    let t = topped (is_relocatable c.args.number) (blocks_of c.args.run.now) c.move_last.new.entries c.in-Some.i
    (omega arith) c.in-Some.ensures.1 c.move_last.ensures in
    let part = ap sizes t.rest ∙ total-append size t.s.below t.s.above in
    let all = sym (ap sizes t.whole) ∙ total-append size t.s.below (t.s.here ∷ t.s.above) in
    let fits = c.requires.fits in
    omega arith

pub returns : goal.returns
returns c =
    let run = blocks_of c.args.run.now in
    let es = c.move_last.new.entries in
    let n = length es - 1 in
    let within = c.in-Some.ensures.0 in
    let t = topped (is_relocatable c.args.number) run es c.in-Some.i (omega arith) c.in-Some.ensures.1
    c.move_last.ensures in
    let after = blocks_of c.pack.new.run in
    let whole : blocks_of (c.pack.new.run ++ drop n es) ≡ after ++ t.s.here ∷ [] =
    map-append block_of c.pack.new.run (drop n es) ∙ ap (λ l. after ++ l) t.top in
    λ above. ap (λ l. tidy (l ++ above)) whole ∙ high-done c.args.number run (blocks_of (take n es)) after t.s t.whole
    t.passes c.requires.once t.rest c.pack.ensures above
