use Rattle.raw_zone.proofs.Cited.{◌≡◌, ◌∙◌, ◌+◌, ◌≤◌, ◌++◌, ◌∷◌, ap, sym, subst, arith, length, IfSome, IsSomeAnd, content_of, with_content}
use Rattle.raw_zone.proofs.Cited.{count, is_masters, free_sum, written, spot_at, IsRest, zone_in, slot_in, zone_of, rest_of, rest_in, whole}
use Rattle.raw_zone.proofs.Cited.{low, if-spot, the-spot, one-spot, rest-made, kept-made, content-inside, written-in, masters-kept}
use Rattle.raw_zone.proofs.Cited.{free-kept, with-written}
use Rattle.raw_zone.proofs.zone.RawZoneBlockStore.write.Goals as goal

pub overflow_add-place : goal.overflow_add-place
overflow_add-place c =
    let a = the-spot (spot_at c.args.place (zone_in c.self.inside.sound.part.bytes))
    (λ s. c.args.from + length c.args.bytes.now ≤ length (content_of s.here))
    (subst (λ v. IsSomeAnd (spot_at c.args.place (zone_of v))
    (λ s. c.args.from + length c.args.bytes.now ≤ length (content_of s.here))) (sym c.self.view_is) c.requires) in
    let f = content-inside _ _ _ c.self.inside.sound.sound c.args.place c.args.from c.args.bytes.now a.0.below a.0.here a.0.above
    (whole _ _ _ c.self.inside.sound.sound c.args.place a.0 a.1) (low _ _ _ c.self.inside.sound.sound c.args.place a.0 a.1) in
    let m = c.self.inside.sound.sound.lays.small in
    omega (arith, f, m)

pub overflow_add-place-2 : goal.overflow_add-place-2
overflow_add-place-2 c =
    let a = the-spot (spot_at c.args.place (zone_in c.self.inside.sound.part.bytes))
    (λ s. c.args.from + length c.args.bytes.now ≤ length (content_of s.here))
    (subst (λ v. IsSomeAnd (spot_at c.args.place (zone_of v))
    (λ s. c.args.from + length c.args.bytes.now ≤ length (content_of s.here))) (sym c.self.view_is) c.requires) in
    let f = content-inside _ _ _ c.self.inside.sound.sound c.args.place c.args.from c.args.bytes.now a.0.below a.0.here a.0.above
    (whole _ _ _ c.self.inside.sound.sound c.args.place a.0 a.1) (low _ _ _ c.self.inside.sound.sound c.args.place a.0 a.1) in
    let m = c.self.inside.sound.sound.lays.small in
    let w = a.2 in
    omega (arith, f, m, w)

pub put_bytes-requires : goal.put_bytes-requires
put_bytes-requires c =
    let a = the-spot (spot_at c.args.place (zone_in c.self.inside.sound.part.bytes))
    (λ s. c.args.from + length c.args.bytes.now ≤ length (content_of s.here))
    (subst (λ v. IsSomeAnd (spot_at c.args.place (zone_of v))
    (λ s. c.args.from + length c.args.bytes.now ≤ length (content_of s.here))) (sym c.self.view_is) c.requires) in
    let f = content-inside _ _ _ c.self.inside.sound.sound c.args.place c.args.from c.args.bytes.now a.0.below a.0.here a.0.above
    (whole _ _ _ c.self.inside.sound.sound c.args.place a.0 a.1) (low _ _ _ c.self.inside.sound.sound c.args.place a.0 a.1) in
    let w = a.2 in
    omega (arith, f, w)

pub invariant_of-self-inside : goal.invariant_of-self-inside
invariant_of-self-inside c =
    let a = the-spot (spot_at c.args.place (zone_in c.self.inside.sound.part.bytes))
    (λ s. c.args.from + length c.args.bytes.now ≤ length (content_of s.here))
    (subst (λ v. IsSomeAnd (spot_at c.args.place (zone_of v))
    (λ s. c.args.from + length c.args.bytes.now ≤ length (content_of s.here))) (sym c.self.view_is) c.requires) in
    let m = written-in _ _ _ c.self.inside.sound.sound c.args.place c.args.from c.args.bytes.now a.0.below a.0.here a.0.above
    (whole _ _ _ c.self.inside.sound.sound c.args.place a.0 a.1) (low _ _ _ c.self.inside.sound.sound c.args.place a.0 a.1) a.2 in
    record { sound = rw c.put_bytes.ensures.bytes m.sound }

pub invariant_of-self : goal.invariant_of-self
invariant_of-self c =
    let a = the-spot (spot_at c.args.place (zone_in c.self.inside.sound.part.bytes))
    (λ s. c.args.from + length c.args.bytes.now ≤ length (content_of s.here))
    (subst (λ v. IsSomeAnd (spot_at c.args.place (zone_of v))
    (λ s. c.args.from + length c.args.bytes.now ≤ length (content_of s.here))) (sym c.self.view_is) c.requires) in
    let m = written-in _ _ _ c.self.inside.sound.sound c.args.place c.args.from c.args.bytes.now a.0.below a.0.here a.0.above
    (whole _ _ _ c.self.inside.sound.sound c.args.place a.0 a.1) (low _ _ _ c.self.inside.sound.sound c.args.place a.0 a.1) a.2 in
    let z = c.self.inside in
    let h = whole _ _ _ c.self.inside.sound.sound c.args.place a.0 a.1 in
    rw c.put_bytes.ensures.bytes (with-written _ _ _ _ a.0.below a.0.above a.0.here c.args.from c.args.bytes.now
    (zone_in z.sound.part.bytes) (kept-made _ _ _ _ _ _ m (c.self.invariant.free_is ∙ ap free_sum h
    ∙ sym (free-kept (written c.args.from c.args.bytes.now (content_of a.0.here)) a.0.below a.0.here a.0.above)))
    m.zone h a.2 c.self.invariant.marked c.self.invariant.purgeable_is)

pub returns-clause-zone : goal.returns-clause-zone
returns-clause-zone c =
    let a = the-spot (spot_at c.args.place (zone_in c.self.inside.sound.part.bytes))
    (λ s. c.args.from + length c.args.bytes.now ≤ length (content_of s.here))
    (subst (λ v. IsSomeAnd (spot_at c.args.place (zone_of v))
    (λ s. c.args.from + length c.args.bytes.now ≤ length (content_of s.here))) (sym c.self.view_is) c.requires) in
    let xs = c.self.inside.sound.part.bytes in
    subst (λ v. IfSome (spot_at c.args.place (zone_of v))
    (λ s. zone_in c.put_bytes.new.part.bytes ≡ s.below ++ with_content
    (written c.args.from c.args.bytes.now (content_of s.here)) s.here ∷ s.above)) c.self.view_is
    (if-spot (spot_at c.args.place (zone_in xs))
    (λ s. zone_in c.put_bytes.new.part.bytes ≡ s.below ++ with_content
    (written c.args.from c.args.bytes.now (content_of s.here)) s.here ∷ s.above) (λ s e.
    ap zone_in c.put_bytes.ensures.bytes ∙ (written-in _ _ _ c.self.inside.sound.sound
    c.args.place c.args.from c.args.bytes.now s.below s.here s.above (whole _ _ _ c.self.inside.sound.sound c.args.place s
    e) (low _ _ _ c.self.inside.sound.sound c.args.place s e)
    (subst (λ t. c.args.from + length c.args.bytes.now ≤ length (content_of t.here))
    (one-spot (spot_at c.args.place (zone_in xs)) a.0 s a.1 e) a.2)).zone))

pub returns-clause-rest : goal.returns-clause-rest
returns-clause-rest c =
    let a = the-spot (spot_at c.args.place (zone_in c.self.inside.sound.part.bytes))
    (λ s. c.args.from + length c.args.bytes.now ≤ length (content_of s.here))
    (subst (λ v. IsSomeAnd (spot_at c.args.place (zone_of v))
    (λ s. c.args.from + length c.args.bytes.now ≤ length (content_of s.here))) (sym c.self.view_is) c.requires) in
    let m = written-in _ _ _ c.self.inside.sound.sound c.args.place c.args.from c.args.bytes.now a.0.below a.0.here a.0.above
    (whole _ _ _ c.self.inside.sound.sound c.args.place a.0 a.1) (low _ _ _ c.self.inside.sound.sound c.args.place a.0 a.1) a.2 in
    subst (λ v. IsRest (rest_of v) (rest_in c.put_bytes.new.part c.self.inside.sound.unused c.self.inside.moves c.self.inside.placings))
    c.self.view_is
    (rest-made c.self.inside.sound.part c.put_bytes.new.part (slot_in c.self.inside.sound.part.bytes) c.self.inside.sound.unused
    c.self.inside.moves c.self.inside.placings (rw c.put_bytes.ensures.bytes m.slots)
    (ap (λ ys. count is_masters (zone_in ys)) c.put_bytes.ensures.bytes ∙ ap (count is_masters) m.zone
    ∙ masters-kept (written c.args.from c.args.bytes.now (content_of a.0.here)) a.0.below a.0.here a.0.above
    ∙ ap (count is_masters) (sym (whole _ _ _ c.self.inside.sound.sound c.args.place a.0 a.1))) c.put_bytes.ensures.same)
