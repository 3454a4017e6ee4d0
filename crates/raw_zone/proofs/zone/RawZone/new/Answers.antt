use Rattle.raw_zone.proofs.Cited.{sym, ◌-◌, ◌∙◌, ap, arith, fresh, fresh-made, fresh-all, fresh-unused, free-fresh, with-marks}
use Rattle.raw_zone.proofs.Cited.{purgeable_sum, given-fresh, kept-made, fresh_slots}
use Rattle.raw_zone.proofs.zone.RawZone.new.Goals as goal

pub invariant_of-sound : goal.invariant_of-sound
invariant_of-sound c = record { sound = (fresh-made c.make_fresh.new.part.bytes c.len-end.result c.make_fresh.ensures.lays).sound }

pub invariant_of-result : goal.invariant_of-result
invariant_of-result c =
    let end = c.len-end.result in
    let z = ap purgeable_sum (fresh-made c.make_fresh.new.part.bytes end c.make_fresh.ensures.lays).zone in
    let f = given-fresh end in
    with-marks _ _ _ _ (kept-made c.make_fresh.new.part.bytes 16 64 (end - 272) (fresh end) fresh_slots
    (fresh-made c.make_fresh.new.part.bytes end c.make_fresh.ensures.lays) (sym (free-fresh end))) c.of-marks.ensures (omega (arith, z, f))

pub returns-clause-zone : goal.returns-clause-zone
returns-clause-zone c = (fresh-made c.make_fresh.new.part.bytes c.len-end.result c.make_fresh.ensures.lays).zone
    ∙ ap fresh c.len-end.ensures.count

pub returns-clause-no_handle : goal.returns-clause-no_handle
returns-clause-no_handle c = fresh-unused c.make_fresh.new.part.bytes c.len-end.result c.make_fresh.ensures.lays

pub returns-clause-all : goal.returns-clause-all
returns-clause-all c = fresh-all c.make_fresh.new.part.bytes c.len-end.result c.make_fresh.ensures.lays
