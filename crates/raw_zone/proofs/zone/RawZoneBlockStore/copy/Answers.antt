use Rattle.raw_zone.proofs.Cited.{◌≡◌, ◌∙◌, ◌+◌, ◌≤◌, ◌∷◌, ◌++◌, Some, length, take, drop, ap, sym, subst, arith, IfSome, IsSomeAnd}
use Rattle.raw_zone.proofs.Cited.{length-take-le, length-drop, written, content_of, with_content, Spot, spot_at, IsRest, zone_in, slot_in}
use Rattle.raw_zone.proofs.Cited.{rest_in, if-spot, the-spot, one-spot, rest-made, standing, holds-inside, copied, copied-kept}
use Rattle.raw_zone.proofs.Cited.{copied-masters, whole, with-written, zone_of, rest_of}
use Rattle.raw_zone.proofs.zone.RawZoneBlockStore.copy.Goals as goal
use Rattle.raw_zone.proofs.zone.RawZoneBlockStore.copy.Goals.{After-move_bytes}

pub overflow_add-source : goal.overflow_add-source
overflow_add-source c =
    let a = the-spot (spot_at c.args.source (zone_in c.self.inside.sound.part.bytes)) (λ s. c.args.start + c.args.bytes ≤ length
    (content_of s.here))
    (subst (λ v. IsSomeAnd (spot_at c.args.source (zone_of v)) (λ s. c.args.start + c.args.bytes ≤ length (content_of s.here)))
    (sym c.self.view_is) c.requires.source) in
    let s = standing _ _ _ c.args.source c.self.inside.sound.sound a.0 a.1 in
    let i = s.inside in
    let g = s.some in
    let m = s.small in
    omega (arith, i, g, m)

pub overflow_add-source-2 : goal.overflow_add-source-2
overflow_add-source-2 c =
    let a = the-spot (spot_at c.args.source (zone_in c.self.inside.sound.part.bytes)) (λ s. c.args.start + c.args.bytes ≤ length
    (content_of s.here))
    (subst (λ v. IsSomeAnd (spot_at c.args.source (zone_of v)) (λ s. c.args.start + c.args.bytes ≤ length (content_of s.here)))
    (sym c.self.view_is) c.requires.source) in
    let s = standing _ _ _ c.args.source c.self.inside.sound.sound a.0 a.1 in
    let h = holds-inside c.self.inside.sound.part.bytes c.args.source (c.args.start + c.args.bytes) a.0 s a.2 in
    let m = s.small in
    omega (arith, h, m)

pub overflow_add-place : goal.overflow_add-place
overflow_add-place c =
    let a = the-spot (spot_at c.args.place (zone_in c.self.inside.sound.part.bytes))
    (λ s. c.args.from + c.args.bytes ≤ length (content_of s.here))
    (subst (λ v. IsSomeAnd (spot_at c.args.place (zone_of v)) (λ s. c.args.from + c.args.bytes ≤ length
    (content_of s.here))) (sym c.self.view_is) c.requires.within) in
    let s = standing _ _ _ c.args.place c.self.inside.sound.sound a.0 a.1 in
    let i = s.inside in
    let g = s.some in
    let m = s.small in
    omega (arith, i, g, m)

pub overflow_add-place-2 : goal.overflow_add-place-2
overflow_add-place-2 c =
    let a = the-spot (spot_at c.args.place (zone_in c.self.inside.sound.part.bytes))
    (λ s. c.args.from + c.args.bytes ≤ length (content_of s.here))
    (subst (λ v. IsSomeAnd (spot_at c.args.place (zone_of v)) (λ s. c.args.from + c.args.bytes ≤ length
    (content_of s.here))) (sym c.self.view_is) c.requires.within) in
    let s = standing _ _ _ c.args.place c.self.inside.sound.sound a.0 a.1 in
    let h = holds-inside c.self.inside.sound.part.bytes c.args.place (c.args.from + c.args.bytes) a.0 s a.2 in
    let m = s.small in
    omega (arith, h, m)

pub move_bytes-requires-clause-from : goal.move_bytes-requires-clause-from
move_bytes-requires-clause-from c =
    let a = the-spot (spot_at c.args.source (zone_in c.self.inside.sound.part.bytes)) (λ s. c.args.start + c.args.bytes ≤ length
    (content_of s.here))
    (subst (λ v. IsSomeAnd (spot_at c.args.source (zone_of v)) (λ s. c.args.start + c.args.bytes ≤ length (content_of s.here)))
    (sym c.self.view_is) c.requires.source) in
    let h = holds-inside c.self.inside.sound.part.bytes c.args.source (c.args.start + c.args.bytes) a.0
    (standing _ _ _ c.args.source c.self.inside.sound.sound a.0 a.1) a.2 in
    omega (arith, h)

pub move_bytes-requires-clause-to : goal.move_bytes-requires-clause-to
move_bytes-requires-clause-to c =
    let a = the-spot (spot_at c.args.place (zone_in c.self.inside.sound.part.bytes))
    (λ s. c.args.from + c.args.bytes ≤ length (content_of s.here))
    (subst (λ v. IsSomeAnd (spot_at c.args.place (zone_of v)) (λ s. c.args.from + c.args.bytes ≤ length
    (content_of s.here))) (sym c.self.view_is) c.requires.within) in
    let s = standing _ _ _ c.args.place c.self.inside.sound.sound a.0 a.1 in
    let h = holds-inside c.self.inside.sound.part.bytes c.args.place (c.args.from + c.args.bytes) a.0 s a.2 in
    omega (arith, h)

-- the block that is read, and the one that is written
source-of : (c : After-move_bytes) → (s : Spot) × (spot_at c.args.source (zone_in c.self.inside.sound.part.bytes) ≡ Some s)
    × (c.args.start + c.args.bytes ≤ length (content_of s.here))
source-of c = the-spot (spot_at c.args.source (zone_in c.self.inside.sound.part.bytes)) (λ s. c.args.start + c.args.bytes ≤ length
    (content_of s.here))
    (subst (λ v. IsSomeAnd (spot_at c.args.source (zone_of v)) (λ s. c.args.start + c.args.bytes ≤ length (content_of s.here)))
    (sym c.self.view_is) c.requires.source)

target-of : (c : After-move_bytes) → (s : Spot) × (spot_at c.args.place (zone_in c.self.inside.sound.part.bytes) ≡ Some s)
    × (c.args.from + c.args.bytes ≤ length (content_of s.here))
target-of c = the-spot (spot_at c.args.place (zone_in c.self.inside.sound.part.bytes))
    (λ s. c.args.from + c.args.bytes ≤ length (content_of s.here))
    (subst (λ v. IsSomeAnd (spot_at c.args.place (zone_of v)) (λ s. c.args.from + c.args.bytes ≤ length
    (content_of s.here))) (sym c.self.view_is) c.requires.within)

pub invariant_of-self-inside : goal.invariant_of-self-inside
invariant_of-self-inside c =
    let t = source-of c in
    let s = target-of c in
    let m = copied _ _ _ c.args.source c.args.start c.args.bytes c.args.place
    c.args.from c.self.inside.sound.sound t.0 s.0 t.1 s.1 t.2 s.2 in
    record { sound = rw c.move_bytes.ensures.bytes m.sound }

pub invariant_of-self : goal.invariant_of-self
invariant_of-self c =
    let z = c.self.inside in
    let t = source-of (goal.at.invariant_of-self c).After-move_bytes in
    let s = target-of (goal.at.invariant_of-self c).After-move_bytes in
    let k = length-take-le c.args.bytes (drop c.args.start (content_of t.0.here))
    (let r = length-drop c.args.start (content_of t.0.here) in let l = t.2 in omega (arith, r, l)) in
    let w = s.2 in
    rw c.move_bytes.ensures.bytes (with-written _ _ _ _ s.0.below s.0.above s.0.here c.args.from
    (take c.args.bytes (drop c.args.start (content_of t.0.here))) (zone_in z.sound.part.bytes)
    (copied-kept _ _ _ c.args.source c.args.start c.args.bytes c.args.place c.args.from
    c.self.inside.sound.sound t.0 s.0 t.1 s.1 t.2 s.2 z.free c.self.invariant.free_is)
    (copied _ _ _ c.args.source c.args.start c.args.bytes c.args.place c.args.from
    c.self.inside.sound.sound t.0 s.0 t.1 s.1 t.2 s.2).zone
    (whole _ _ _ c.self.inside.sound.sound c.args.place s.0 s.1) (omega (arith, k, w))
    c.self.invariant.marked c.self.invariant.purgeable_is)

pub returns-clause-zone : goal.returns-clause-zone
returns-clause-zone c =
    let xs = c.self.inside.sound.part.bytes in
    let t1 = source-of (goal.at.returns-clause-zone c).After-move_bytes in
    let s1 = target-of (goal.at.returns-clause-zone c).After-move_bytes in
    subst (λ v. IfSome (spot_at c.args.source (zone_of v)) (λ t. IfSome (spot_at c.args.place (zone_of v)) (λ s.
    zone_in c.move_bytes.new.part.bytes
    ≡ s.below ++ with_content (written c.args.from (take c.args.bytes (drop c.args.start (content_of t.here)))
    (content_of s.here)) s.here ∷ s.above)))
    c.self.view_is
    (if-spot (spot_at c.args.source (zone_in xs)) _ (λ t e. if-spot (spot_at c.args.place (zone_in xs)) _ (λ s f.
    ap zone_in c.move_bytes.ensures.bytes ∙ (copied _ _ _ c.args.source c.args.start c.args.bytes c.args.place c.args.from
    c.self.inside.sound.sound t s e f
    (subst (λ q. c.args.start + c.args.bytes ≤ length (content_of q.here)) (one-spot (spot_at c.args.source
    (zone_in xs)) t1.0 t t1.1 e) t1.2)
    (subst (λ q. c.args.from + c.args.bytes ≤ length (content_of q.here)) (one-spot (spot_at c.args.place
    (zone_in xs)) s1.0 s s1.1 f) s1.2)).zone)))

pub returns-clause-rest : goal.returns-clause-rest
returns-clause-rest c =
    let t = source-of (goal.at.returns-clause-rest c).After-move_bytes in
    let s = target-of (goal.at.returns-clause-rest c).After-move_bytes in
    let m = copied _ _ _ c.args.source c.args.start c.args.bytes c.args.place
    c.args.from c.self.inside.sound.sound t.0 s.0 t.1 s.1 t.2 s.2 in
    subst (λ v. IsRest (rest_of v) (rest_in c.move_bytes.new.part c.self.inside.sound.unused c.self.inside.moves c.self.inside.placings))
    c.self.view_is (rest-made c.self.inside.sound.part c.move_bytes.new.part
    (slot_in c.self.inside.sound.part.bytes) c.self.inside.sound.unused c.self.inside.moves c.self.inside.placings
    (rw c.move_bytes.ensures.bytes m.slots) (rw c.move_bytes.ensures.bytes (copied-masters _ _ _ c.args.source
    c.args.start c.args.bytes c.args.place c.args.from c.self.inside.sound.sound t.0 s.0 t.1 s.1 t.2 s.2))
    c.move_bytes.ensures.same)
