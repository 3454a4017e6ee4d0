use Rattle.raw_zone.proofs.Cited.{ap, ◌∙◌, subst, refl, arith, free_sum, IsRest, purged, rest_in, zone_in, Gained, gained-fits, gained-kept}
use Rattle.raw_zone.proofs.Cited.{gained-rest, purge-gained, zone_of, rest_of, with-marks, replaced-as}
use Rattle.raw_zone.proofs.zone.RawZone.empty.Goals as goal
use Rattle.raw_zone.proofs.zone.RawZone.empty.Goals.{After-purge_lowest-freed}

pub purge_lowest-freed-requires : goal.purge_lowest-freed-requires
purge_lowest-freed-requires c = c.self.invariant.marked

done : (c : goal.After-purge_lowest-freed)
    → Gained c.self.inside.sound.part.bytes c.purge_lowest-freed.new.sound.part.bytes c.self.inside.sound.first c.self.inside.sound.unused
    c.purge_lowest-freed.result.bytes (purged c.args.purges c.args.sparing (zone_in c.self.inside.sound.part.bytes))
done c = purge-gained _ _ _ c.self.inside.sound.sound c.args.purges c.args.sparing _ _ _ _ c.purge_lowest-freed.ensures.purged

pub overflow_add-self : goal.overflow_add-self
overflow_add-self c = let f =
    gained-fits _ _ _ _ _ _ (done (goal.at.overflow_add-self c).After-purge_lowest-freed) c.self.inside.free c.self.invariant.free_is in
    omega (arith, f)

pub note-requires : goal.note-requires
note-requires c = (
  zone_in c.self.inside.sound.part.bytes,
  replaced-as _ _ _ _ _ _ refl (done (goal.at.note-requires c).After-purge_lowest-freed).made.zone
      c.purge_lowest-freed.ensures.purged.replaced,
  c.self.invariant.marked,
)

pub invariant_of-self : goal.invariant_of-self
invariant_of-self c =
    let d = done (goal.at.invariant_of-self c).After-purge_lowest-freed in
    with-marks _ _ _ _ (gained-kept _ _ _ _ _ _ d c.self.inside.free c.self.invariant.free_is) c.seek.ensures
    (c.purgeable_left-self-inside.ensures c.args.purges (zone_in c.self.inside.sound.part.bytes) d.made.zone
    (ap free_sum d.made.zone ∙ d.sum) c.self.invariant.purgeable_is)

pub returns-clause-zone : goal.returns-clause-zone
returns-clause-zone c = (done (goal.at.returns-clause-zone c).After-purge_lowest-freed).made.zone
    ∙ ap (λ v. purged c.args.purges c.args.sparing (zone_of v)) c.self.view_is

pub returns-clause-rest : goal.returns-clause-rest
returns-clause-rest c =
    rw c.purge_lowest-freed.ensures.slots.1 (subst (λ v. IsRest (rest_of v) (rest_in c.purge_lowest-freed.new.sound.part
    c.self.inside.sound.unused c.self.inside.moves c.self.inside.placings)) c.self.view_is
    (gained-rest c.self.inside.sound.part c.purge_lowest-freed.new.sound.part _ _ _ _
    (done (goal.at.returns-clause-rest c).After-purge_lowest-freed) c.purge_lowest-freed.ensures.same c.self.inside.moves
    c.self.inside.placings))
