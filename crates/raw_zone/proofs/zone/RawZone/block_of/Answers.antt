use Rattle.raw_zone.proofs.Cited.{◌≡◌, ℕ, Some, sym, subst, IfSome, IsSome, is_relocatable, Spot, spot, FindsLowest, seen, zone_in, Held}
use Rattle.raw_zone.proofs.Cited.{held, zone_of, a-spot, if-spot, led-slot, leads-here, led-found, led-told}
use Rattle.block_store.specs.declared.sparing.Seen.TheVariants as see
use Rattle.raw_zone.proofs.zone.RawZone.block_of.Goals as goal

-- the block that the slot leads to
led : (old : Held) (view : Held) (number : ℕ) → old ≡ view → IsSome (spot (is_relocatable number) (zone_of view))
    → (s : Spot) × (spot (is_relocatable number) (zone_of old) ≡ Some s)
led old view number e some = a-spot (spot (is_relocatable number) (zone_of old))
    (subst (λ v. IsSome (spot (is_relocatable number) (zone_of v))) (sym e) some)

pub block_of_slot-requires-clause-slot : goal.block_of_slot-requires-clause-slot
block_of_slot-requires-clause-slot c =
    let i = c.self.inside in
    let a = led (held i) c.args.self.now c.args.number c.self.view_is c.requires in
    led-slot _ _ _ c.self.inside.sound.sound c.args.number a.0 a.1

pub block_of_slot-requires-clause-leads : goal.block_of_slot-requires-clause-leads
block_of_slot-requires-clause-leads c =
    let i = c.self.inside in
    let a = led (held i) c.args.self.now c.args.number c.self.view_is c.requires in
    leads-here _ _ _ c.self.inside.sound.sound c.args.number a.0 a.1

pub returns-clause-place : goal.returns-clause-place
returns-clause-place c =
    let i = c.self.inside in
    let a = led (held i) c.args.self.now c.args.number c.self.view_is c.requires in
    subst (λ v. FindsLowest (is_relocatable c.args.number) (zone_of v) (Some c.block_of_slot.result.place))
    c.self.view_is (led-found _ _ _ c.self.inside.sound.sound c.args.number a.0 a.1 c.block_of_slot.result.place
    c.block_of_slot.ensures.place)

pub returns-clause-block : goal.returns-clause-block
returns-clause-block c =
    let i = c.self.inside in
    let r = c.block_of_slot.result in
    subst (λ v. IfSome (spot (is_relocatable c.args.number) (zone_of v)) (λ s.
    seen s.here ≡ see.Relocatable c.args.number r.flags r.length)) c.self.view_is
    (if-spot (spot (is_relocatable c.args.number) (zone_in i.sound.part.bytes))
    (λ s. seen s.here ≡ see.Relocatable c.args.number r.flags r.length) (λ s e.
    led-told _ _ _ c.self.inside.sound.sound c.args.number s e r.flags r.length c.block_of_slot.ensures.block))
