-- A run of a zone is changed.
use Rattle.zone_bytes.proofs.Cited.{◌≡◌, ℕ, ◌+◌, Option, Some, List, ◌++◌, refl, sym, ap, ◌∙◌, subst, arith, append_assoc, IfSome, Block}
use Rattle.zone_bytes.proofs.Cited.{total, count, is_masters, free_sum, sizes, tidy, RunSpot, run_at, with_run, settle, lowered_in_run}
use Rattle.zone_bytes.proofs.Cited.{Slot, is_resource, Loose, Adds, run_at-is, run_at-parts, settle-total, settled-tidy, total-changed}
use Rattle.zone_bytes.proofs.Cited.{Relaid, Settled, zone_in, Lays, slot_in, IsSound, lay_at, Replaced, purgeable_sum, run_at-bottom}
use Rattle.zone_bytes.proofs.Cited.{head_of, Tiles}
use Rattle.zone_bytes.proofs.Tiles.Splices.{tiles-parts}
use Rattle.zone_bytes.proofs.Tiles.Keeping.{Instead, instead-settle, lays-run}
use Rattle.zone_bytes.proofs.Laws.Lawful.{Made, made}
use Rattle.zone_bytes.proofs.Places.Options.{if-spot, one-spot}
use Rattle.zone_bytes.proofs.Runs.RunsAt.{whole, bottom, in-run, lay-is, lowered-lowered_in_run}

pub if-one : (o : Option RunSpot) (P : RunSpot → Type 0) (r : RunSpot) → o ≡ Some r → P r → IfSome o P
if-one o P r e p = if-spot o P (λ q f. subst P (one-spot o r q e f) p)

-- the bytes are those of the zone with the run at a place changed, and its Masters blocks, Free bytes and those that
-- may be purged stay
pub record ChangedRun (change : List Block → List Block) (zone : List Block) (r : RunSpot) (new : List ℕ)
    (first unused : ℕ) (table : ℕ → Slot) : Type 0 where
  pub made : Made new first unused (tidy (with_run change r)) table
  pub is : zone_in new ≡ r.below ++ (change r.run ++ r.above)
  pub span : sizes (change r.run) ≡ sizes r.run
  pub masters : count is_masters (zone_in new) ≡ count is_masters zone
  pub free : free_sum (tidy (with_run change r)) ≡ free_sum zone
  pub purgeable : purgeable_sum (zone_in new) ≡ purgeable_sum zone

-- some blocks of the run were laid otherwise, as the change would have it
pub relaid-run : (change : List Block → List Block) (place : ℕ) (zone : List Block) (r : RunSpot)
    → run_at place zone ≡ Some r
    → ((of : Block → ℕ) → Adds of → Loose r.run → total of (change r.run) ≡ total of r.run)
    → tidy (with_run change r) ≡ with_run change r → (xs : List ℕ) (first unused : ℕ) (i : IsSound xs first unused)
    {below was now above : List Block} → Instead below was now above → zone_in xs ≡ below ++ (was ++ above)
    → below ++ (now ++ above) ≡ with_run change r → (new : List ℕ)
    → Relaid (λ s. is_resource (slot_in xs s)) (below ++ (was ++ above)) (below ++ (now ++ above)) xs new
    → ChangedRun change zone r new first unused (slot_in xs)
relaid-run change place zone r e keeps t xs first unused i k is shape new d =
    let l = (run_at-parts place zone r e).loose in
    let laid = subst (λ z. Lays xs z (slot_in xs) i.unused) is i.lays in
    let lays = subst (λ z. Lays new z (slot_in xs) i.unused) shape (lays-run k xs new (slot_in xs) i.unused laid d) in
    let m = subst (λ z. Made new first unused z (slot_in xs)) (sym t)
    (made new _ (slot_in xs) _ lays first unused t i.begins i.counted) in
    grind (arith, append_assoc, total-changed)

-- so the blocks from the run's bottom to its top became others
pub replaced-run : {change : List Block → List Block} {zone : List Block} {r : RunSpot} {new : List ℕ}
    {first unused : ℕ}
    {table : ℕ → Slot} (place stop : ℕ) → tidy zone ≡ zone → run_at place zone ≡ Some r → stop ≡ place + sizes r.run
    → ChangedRun change zone r new first unused table → Replaced place stop zone (zone_in new)
replaced-run {change} {zone} {r} {new} place stop t e u d = grind (arith, run_at-is, run_at-bottom)

-- a run is packed
pub settled-run : (xs : List ℕ) (first unused : ℕ) (i : IsSound xs first unused) (place : ℕ) (r : RunSpot)
    (e : run_at place (zone_in xs) ≡ Some r)
    (stop : ℕ) → place + sizes r.run ≡ stop → (moves : ℕ) (new : List ℕ) → Settled (lay_at xs place) moves new
    → ChangedRun settle (zone_in xs) r new first unused (slot_in xs) × (moves ≡ lowered_in_run r.run)
settled-run xs first unused i place r e stop t moves new d =
    let s = subst (λ l. Settled l moves new) (lay-is xs first unused i place r e) d in
    let w = whole xs first unused i place r e in
    let runs = in-run xs first unused i place r e in
    let shape = sym (append_assoc r.below (settle r.run) r.above) in
    let head = head_of (λ s. is_resource (slot_in xs s)) in
    let tiles = tiles-parts head xs r.below r.run r.above place _ (bottom xs first unused i place r e) refl
    (subst (Tiles head xs) w i.lays.lies.tiles) in (
      relaid-run settle place (zone_in xs) r e (λ of adds l. settle-total of adds _ l)
          (ap tidy (sym shape) ∙ settled-tidy place (zone_in xs) r i.tidied e ∙ shape) xs first unused i
          (instead-settle r.below r.run r.above runs) w shape new s.zone,
      s.moved ∙ lowered-lowered_in_run head _ _ tiles.2 runs,
    )
