use Rattle.raw_zone.proofs.Cited.{◌≡◌, ◌+◌, Some, ◌∷◌, ◌++◌, ◌∙◌, ap, sym, subst, arith, IfSome, IsSome, tidy, IsRest, Spot, spot_at}
use Rattle.raw_zone.proofs.Cited.{lowest_purged, spared, rest_in, zone_in, if-spot, a-spot, Gained, gained-fits, gained-kept, gained-rest}
use Rattle.raw_zone.proofs.Cited.{spot-at, may-purge, above-gained, zone_of, rest_of, with-marks, replaced-as, purgeable_sum, given-purged}
use Rattle.raw_zone.proofs.Cited.{whole}
use Rattle.raw_zone.proofs.zone.RawZoneBlockStore.purge_after.Goals as goal
use Rattle.raw_zone.proofs.zone.RawZoneBlockStore.purge_after.Goals.{After-self, After-purge_above-freed}

-- the block at the place
here : (c : goal.After-self) → (s : Spot) × (spot_at c.args.place (zone_in c.self.inside.sound.part.bytes) ≡ Some s)
here c = a-spot (spot_at c.args.place (zone_in c.self.inside.sound.part.bytes))
    (subst (λ v. IsSome (spot_at c.args.place (zone_of v))) (sym c.self.view_is) c.requires)

pub purge_above-freed-requires : goal.purge_above-freed-requires
purge_above-freed-requires c =
    let s = c.self.inside.sound.sound in
    let a = here (goal.at.purge_above-freed-requires c).After-self in (
      spot-at _ _ _ s c.args.purges c.args.sparing c.args.place a.0 a.1,
      may-purge _ _ _ s c.args.purges c.args.sparing c.args.place a.0 a.1,
    )

gained-at : (c : goal.After-purge_above-freed) (s : Spot) → spot_at c.args.place (zone_in c.self.inside.sound.part.bytes) ≡ Some s
    → Gained c.self.inside.sound.part.bytes c.purge_above-freed.new.part.bytes c.self.inside.sound.first c.self.inside.sound.unused
    c.purge_above-freed.result.bytes (tidy (s.below ++ s.here ∷ lowest_purged c.args.purges (spared c.args.sparing) s.above))
gained-at c s e =
    let f = c.purge_above-freed in
    above-gained _ _ _ c.self.inside.sound.sound c.args.purges c.args.sparing c.args.place s e
    f.result.from f.result.to f.new.part.bytes f.result.bytes f.ensures.purged

done : (c : goal.After-purge_above-freed)
    → (a : (s : Spot) × (spot_at c.args.place (zone_in c.self.inside.sound.part.bytes) ≡ Some s))
    → Gained c.self.inside.sound.part.bytes c.purge_above-freed.new.part.bytes c.self.inside.sound.first c.self.inside.sound.unused
    c.purge_above-freed.result.bytes
    (tidy (a.0.below ++ a.0.here ∷ lowest_purged c.args.purges (spared c.args.sparing) a.0.above))
done c a = gained-at c a.0 a.1

pub overflow_add-self : goal.overflow_add-self
overflow_add-self c = let f = gained-fits _ _ _ _ _ _ (done (goal.at.overflow_add-self c).After-purge_above-freed
    (here (goal.at.overflow_add-self c).After-self)) c.self.inside.free c.self.invariant.free_is in
    omega (arith, f)

pub note-requires : goal.note-requires
note-requires c =
    let n = c.self.inside in
    let i = c.self.inside.sound.sound in
    let f = c.purge_above-freed in
    let a = here (goal.at.note-requires c).After-self in (
      zone_in n.sound.part.bytes,
      replaced-as _ _ _ _ _ _ (whole _ _ _ i c.args.place a.0 a.1)
          (done (goal.at.note-requires c).After-purge_above-freed
          (here (goal.at.note-requires c).After-self)).made.zone
          (f.ensures.purged (spot-at _ _ _ i c.args.purges c.args.sparing c.args.place a.0 a.1)
          (may-purge _ _ _ i c.args.purges c.args.sparing c.args.place a.0 a.1)).replaced,
      c.self.invariant.marked,
    )

pub invariant_of-self-inside : goal.invariant_of-self-inside
invariant_of-self-inside c =
    let d = done (goal.at.invariant_of-self-inside c).After-purge_above-freed
    (here (goal.at.invariant_of-self-inside c).After-self) in
    record { sound = d.made.sound }

-- what the blocks would free, before and afterwards
given : (c : After-purge_above-freed)
    → (s : Spot) × (spot_at c.args.place (zone_in c.self.inside.sound.part.bytes) ≡ Some s)
    → purgeable_sum (zone_in c.purge_above-freed.new.part.bytes) + c.purge_above-freed.result.bytes
    ≡ purgeable_sum (zone_in c.self.inside.sound.part.bytes)
given c a =
    let n = c.self.inside in
    let d = done c a in
    ap (λ z. purgeable_sum z + c.purge_above-freed.result.bytes) d.made.zone
    ∙ given-purged a.0.below a.0.here c.args.purges (spared c.args.sparing) a.0.above (zone_in n.sound.part.bytes)
    (whole _ _ _ c.self.inside.sound.sound c.args.place a.0 a.1) c.purge_above-freed.result.bytes d.sum

pub overflow_sub-self : goal.overflow_sub-self
overflow_sub-self c =
    let g = given (goal.at.overflow_sub-self c).After-purge_above-freed (here (goal.at.overflow_sub-self c).After-self) in
    let p = c.self.invariant.purgeable_is in
    omega (arith, g, p)

pub invariant_of-self : goal.invariant_of-self
invariant_of-self c =
    let a = here (goal.at.invariant_of-self c).After-self in
    let d = done (goal.at.invariant_of-self c).After-purge_above-freed a in
    let g = given (goal.at.invariant_of-self c).After-purge_above-freed a in
    let p = c.self.invariant.purgeable_is in
    with-marks _ _ _ _ (gained-kept _ _ _ _ _ _ d c.self.inside.free c.self.invariant.free_is) c.note.ensures (omega (arith, g, p))

pub returns-clause-zone : goal.returns-clause-zone
returns-clause-zone c =
    let ys = c.purge_above-freed.new.part.bytes in
    let goal-of : Spot
    → Type 0 = λ s. zone_in ys ≡ tidy (s.below ++ s.here ∷ lowest_purged c.args.purges (spared c.args.sparing)
    s.above) in
    subst (λ v. IfSome (spot_at c.args.place (zone_of v)) goal-of) c.self.view_is
    (if-spot (spot_at c.args.place (zone_in c.self.inside.sound.part.bytes)) goal-of
    (λ s e. (gained-at (goal.at.returns-clause-zone c).After-purge_above-freed s e).made.zone))

pub returns-clause-rest : goal.returns-clause-rest
returns-clause-rest c =
    subst (λ v. IsRest (rest_of v) (rest_in c.purge_above-freed.new.part c.self.inside.sound.unused c.self.inside.moves
    c.self.inside.placings)) c.self.view_is (gained-rest c.self.inside.sound.part c.purge_above-freed.new.part _ _ _ _
    (done (goal.at.returns-clause-rest c).After-purge_above-freed (here (goal.at.returns-clause-rest c).After-self))
    c.purge_above-freed.ensures.same c.self.inside.moves c.self.inside.placings)
