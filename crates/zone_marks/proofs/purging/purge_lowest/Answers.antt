use Rattle.zone_marks.proofs.Cited.{arith, refl, subst, zone_in, purge_zone, Begins}
use Rattle.zone_marks.proofs.Joined.PurgeStarts.{all-start, going-is, lowest-start, may-go, purge-gained}
use Rattle.zone_marks.proofs.Joined.Released.{leads-up, here-read}
use Rattle.zone_marks.proofs.purging.purge_lowest.Goals as goal

pub purge_from-requires : goal.purge_from-requires
purge_from-requires c = (
  purge_zone 0 c.args.sound.now.part.bytes c.args.sound.now.sound.unused c.args.purges c.args.sparing,
  all-start _ _ _ c.args.sound.now.sound _ _,
)

pub returns-in_default-clause-purged : goal.returns-in_default-clause-purged
returns-in_default-clause-purged c =
    rw c.purge_from.ensures.from (c.purge_from.ensures.purged _ (all-start _ _ _ c.args.sound.now.sound _ _))

pub last_free_below-start-requires-clause-up : goal.last_free_below-start-requires-clause-up
last_free_below-start-requires-clause-up c =
    let i = c.args.sound.now.sound in
    let f = c.in-Some.ensures.lowest in
    let p = c.in-Some.ensures.plain refl in
    leads-up _ _ _ (may-go _ _ _ i c.args.purges _ _ f.1 _ f.3 p) _
    (subst (Begins c.below-from.result 0) (going-is _ _ _ i c.args.purges _ _ f.1 _ f.3 p)
    (c.below-from.ensures.begins (zone_in c.args.sound.now.part.bytes) c.requires)) c.below-from.ensures.below

pub last_free_below-start-requires-clause-inside : goal.last_free_below-start-requires-clause-inside
last_free_below-start-requires-clause-inside c =
    let f = c.in-Some.ensures.lowest in
    let r = here-read _ _ _ (may-go _ _ _ c.args.sound.now.sound c.args.purges _ _ f.1 _ f.3
    (c.in-Some.ensures.plain refl)) in
    omega arith

pub purge_from-requires-2 : goal.purge_from-requires-2
purge_from-requires-2 c =
    let f = c.in-Some.ensures.lowest in
    let s = c.last_free_below-start in (
      purge_zone s.result c.args.sound.now.part.bytes c.args.sound.now.sound.unused c.args.purges c.args.sparing,
      lowest-start _ _ _ c.args.sound.now.sound _ _ _ f.1 _ f.3 (c.in-Some.ensures.plain refl) _ s.ensures,
    )

pub returns-clause-purged : goal.returns-clause-purged
returns-clause-purged c =
    let f = c.in-Some.ensures.lowest in
    rw c.purge_from-2.ensures.from (c.purge_from-2.ensures.purged _ (lowest-start _ _ _ c.args.sound.now.sound _ _ _ f.1 _ f.3
    (c.in-Some.ensures.plain refl) _ c.last_free_below-start.ensures))

pub invariant_of-sound : goal.invariant_of-sound
invariant_of-sound c =
    let i = c.args.sound.now.sound in
    let g = purge-gained _ _ _ i c.args.purges c.args.sparing _ _ _ _ (c.purge_from.ensures.purged _ (all-start _ _ _ i _ _)) in
    record { sound = g.made.sound }

pub invariant_of-sound-2 : goal.invariant_of-sound-2
invariant_of-sound-2 c =
    let i = c.args.sound.now.sound in
    let f = c.in-Some.ensures.lowest in
    let g = purge-gained _ _ _ i c.args.purges c.args.sparing _ _ _ _ (c.purge_from-2.ensures.purged _ (lowest-start _ _ _ i _ _
    _ f.1 _ f.3 (c.in-Some.ensures.plain refl) _ c.last_free_below-start.ensures)) in
    record { sound = g.made.sound }
