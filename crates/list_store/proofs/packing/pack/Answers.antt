use Rattle.list_store.proofs.Cited.{◌≡◌, ◌-◌, ◌++◌, ◌∷◌, [], true, length, refl, ◌∙◌, ap, arith, slice_set, tidy, free, movers, is_free}
use Rattle.list_store.proofs.Cited.{blocks_of, nth_spot, packed-none, the_some}
use Rattle.list_store.specs.declared.entries.StoredBlock.TheVariants as entry
use Rattle.list_store.proofs.Regroup.Packed.{pack-done}
use Rattle.list_store.proofs.packing.pack.Goals as goal

pub returns-in_default : goal.returns-in_default
returns-in_default c = λ above. ap (λ l. tidy (l ++ above))
    (packed-none (blocks_of c.args.run.now) c.args.less c.requires.loose c.in_default.ensures)

pub returns : goal.returns
returns c =
    let run = blocks_of c.args.run.now in
    let moved = blocks_of c.move_last.new.entries in
    let es = c.clear.new.run in
    let n = length es - 1 in
    let left = c.free_total.result - c.args.less in
    let at = the_some (nth_spot c.in-Some.i run) (λ s. is_free s.here ≡ true)
    (λ s. moved ≡ s.below ++ s.above ++ s.here ∷ []) c.in-Some.ensures.1 c.move_last.ensures in
    let within = c.in-Some.ensures.0 in
    λ above. pack-done run moved (blocks_of (slice_set es n (entry.Free left))) es c.in-Some.i n left at.0 at.1 at.2
    c.requires.loose at.3 c.clear.ensures (omega arith) refl above
    ∙ ap (λ k. tidy (movers run ++ free (k - c.args.less) ++ above)) c.free_total.ensures
