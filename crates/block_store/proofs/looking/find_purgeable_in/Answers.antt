use Rattle.block_store.proofs.Cited.{◌∙◌, sym, ap, arith, spared, opened}
use Rattle.block_store.proofs.Purged.Looks.{next_from, next-is, found-here, found-goes, found-stays, found-end}
use Rattle.block_store.proofs.Walks.Telling.{ReadBlock, told, told-none, told-size, told-sizes}
use Rattle.block_store.proofs.looking.find_purgeable_in.Given.{Over}
use Rattle.block_store.proofs.looking.find_purgeable_in.Goals.{In-Some, then-may_purge+else-left-eq0}
use Rattle.block_store.proofs.looking.find_purgeable_in.Goals.{else-may_purge}
use Rattle.block_store.proofs.looking.find_purgeable_in.Goals as goal

here : (g : Over) (c : In-Some g)
    → ReadBlock (g.W.Walk.rest c.loop-block.walk) c.in-Some.block (g.W.Walk.rest c.next_block.new.self)
here g c = told (g.W.Walk.rest c.loop-block.walk) (g.W.Walk.rest c.next_block.new.self) c.next_block.result
    c.in-Some.block c.next_block.ensures c.in-Some.is

pub loop-block-init : goal.loop-block-init
loop-block-init g c = record {
  above = next-is c.args.sparing c.args.purges (g.W.Walk.rest c.args.walk.now);
  bytes = omega arith;
}

pub returns-then-left-eq0 : goal.returns-then-left-eq0
returns-then-left-eq0 g c =
    let t = here g (goal.at.returns-then-left-eq0 g c).In-Some in
    sym (found-here c.args.sparing t.block (g.W.Walk.rest c.next_block.new.self) c.loop-block.place c.loop-block.left
    (sym (c.may_purge.ensures t.block t.is) ∙ c.if-may_purge.true) c.if-left-eq0.true)
    ∙ ap (λ l. next_from c.loop-block.place (spared c.args.sparing) c.loop-block.left (opened c.args.sparing l))
    (sym t.before_is) ∙ c.loop-block.invariant.above

pub loop-block-preserved : goal.loop-block-preserved
loop-block-preserved g c =
    let t = here g (goal.at.loop-block-preserved g c).In-Some in
    let after = g.W.Walk.rest c.next_block.new.self in
    let same = c.size_of_seen-place.ensures ∙ told-size t in
    record {
      above = elim c.if-may_purge.branch [
        | then-may_purge+else-left-eq0 w ↦ found-goes c.args.sparing t.block after c.loop-block.place
            c.loop-block.left c.size_of_seen-place.result c.if-may_purge.left
            (sym (c.may_purge.ensures t.block t.is) ∙ w.if-may_purge.true) w.if-left-eq0.false same w.left-is
        | else-may_purge w ↦ found-stays c.args.sparing t.block after c.loop-block.place c.loop-block.left
            c.size_of_seen-place.result c.if-may_purge.left
            (sym (c.may_purge.ensures t.block t.is) ∙ w.if-may_purge.false) same w.left-is
      ] ∙ ap (λ l. next_from c.loop-block.place (spared c.args.sparing) c.loop-block.left (opened c.args.sparing l))
          (sym t.before_is) ∙ c.loop-block.invariant.above;
      bytes = omega (arith, c.size_of_seen-place.ensures, c.loop-block.invariant.bytes, told-sizes t);
    }

pub returns : goal.returns
returns g c =
    let none = told-none (g.W.Walk.rest c.loop-block.walk) (g.W.Walk.rest c.next_block.new.self) c.next_block.result
    c.next_block.ensures c.in_default.is in
    sym (found-end c.args.sparing (g.W.Walk.rest c.loop-block.walk) c.loop-block.place c.loop-block.left none)
    ∙ c.loop-block.invariant.above
