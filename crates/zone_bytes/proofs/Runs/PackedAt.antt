-- A zone in bytes, one of whose runs was packed.
use Rattle.zone_bytes.proofs.Cited.{◌≡◌, ℕ, ◌+◌, Some, List, ◌++◌, cond, refl, sym, ap, ◌∙◌, arith, append_assoc, IfSome, IsSomeAnd, Bytes}
use Rattle.zone_bytes.proofs.Cited.{Block, is_masters, free_sum, sizes, tidy, total, RunSpot, run_at, movers, settle, with_run, Rest}
use Rattle.zone_bytes.proofs.Cited.{IsRest, Slot, Loose, settled-tidy, settle-total, Adds, total-changed, run_at-parts, zone_in, Replaced}
use Rattle.zone_bytes.proofs.Cited.{purgeable_of, purgeable_sum, slot_in, IsSound, KeepsPlace, rest_in, run_at-bottom}
use Rattle.zone_bytes.proofs.Laws.Lawful.{rest-made}
use Rattle.zone_bytes.proofs.Places.Options.{the-spot, the-if}
use Rattle.zone_bytes.proofs.Runs.Changed.{ChangedRun}

-- the zone that the bytes spell is `old` with its run from place to stop packed, whose Free block begins at top
pub record IsPacked (xs : List ℕ) (first unused place top stop : ℕ) (old : List Block) : Type 0 where
  pub sound : IsSound xs first unused
  pub tidied : tidy old ≡ old
  pub spot : RunSpot
  pub is : run_at place old ≡ Some spot
  pub zone : zone_in xs ≡ tidy (with_run settle spot)
  pub top_is : top ≡ place + sizes (movers spot.run)
  pub stop_is : stop ≡ place + sizes spot.run

pub is-packed : (xs : List ℕ) (first unused place top stop : ℕ) (old : List Block) (A : RunSpot → Type 0)
    → IsSound xs first unused → tidy old ≡ old → IsSomeAnd (run_at place old) A
    → IfSome (run_at place old) (λ r. zone_in xs ≡ tidy (with_run settle r))
    → IfSome (run_at place old) (λ r. top ≡ place + sizes (movers r.run))
    → IfSome (run_at place old) (λ r. stop ≡ place + sizes r.run)
    → (k : IsPacked xs first unused place top stop old) × A k.spot
is-packed xs first unused place top stop old A i t a z m n =
    let s = the-spot (run_at place old) A a in
    let zone = the-if (run_at place old) (λ r. zone_in xs ≡ tidy (with_run settle r)) s.0 s.1 z in
    let top_is = the-if (run_at place old) (λ r. top ≡ place + sizes (movers r.run)) s.0 s.1 m in
    let stop_is = the-if (run_at place old) (λ r. stop ≡ place + sizes r.run) s.0 s.1 n in
    (record { sound = i; tidied = t; spot = s.0; is = s.1; zone = zone; top_is = top_is; stop_is = stop_is }, s.2)

-- what stays, of what stayed
rest-again : (a b c : Rest) → IsRest a b → IsRest b c → IsRest a c
rest-again a b c p q = grind arith

module _ {xs : List ℕ} {first unused place top stop : ℕ} {old : List Block}
    (k : IsPacked xs first unused place top stop old) where
  abbrev r : RunSpot
  r = k.spot

  pub packed-zone : zone_in xs ≡ r.below ++ (settle r.run ++ r.above)
  packed-zone = k.zone ∙ ap tidy (append_assoc r.below (settle r.run) r.above) ∙ settled-tidy place old r k.tidied k.is

  pub bottom : sizes r.below ≡ place
  bottom = run_at-bottom place old r k.is

  pub loose : Loose r.run
  loose = (run_at-parts place old r k.is).loose

  pub total-packed : (of : Block → ℕ) → Adds of → total of (zone_in xs) ≡ total of old
  total-packed of adds = ap (total of) k.zone ∙ total-changed of adds settle place old r k.is
      (settle-total of adds r.run loose)

  -- after another change of the run
  pub kept-changed : (change : List Block → List Block) (new : List ℕ) (table : ℕ → Slot) (n : ℕ)
      → ChangedRun change old r new first unused table → n ≡ free_sum (zone_in xs) → n ≡ free_sum (zone_in new)
  kept-changed change new table n d e = grind (arith, total-packed)

  pub purgeable-changed : (change : List Block → List Block) (new : List ℕ) (table : ℕ → Slot)
      → ChangedRun change old r new first unused table → purgeable_sum (zone_in xs) ≡ purgeable_sum (zone_in new)
  purgeable-changed change new table d = total-packed purgeable_of (λ n m. refl) ∙ sym d.purgeable

  pub replaced-changed : (change : List Block → List Block) (new : List ℕ) (table : ℕ → Slot)
      → ChangedRun change old r new first unused table → Replaced place stop (zone_in xs) (zone_in new)
  replaced-changed change new table d = grind (arith, settle-total, loose, packed-zone, bottom)

pub rest-changed : {first unused place top stop : ℕ} {old : List Block} (part after : Bytes)
    (k : IsPacked part.bytes first unused place top stop old) (change : List Block → List Block) (before : Rest)
    (moves placed : ℕ) → ChangedRun change old k.spot after.bytes first unused (slot_in part.bytes)
    → IsRest before (rest_in part unused moves placed) → KeepsPlace part after
    → IsRest before (rest_in after unused moves placed)
rest-changed {unused = unused} part after k change before moves placed d p same =
    rest-again _ _ _ p (rest-made _ _ (slot_in part.bytes) _ _ _ d.made.slots (d.masters
    ∙ sym (total-packed k (λ b. cond (is_masters b) 1 0) (λ n m. refl))) same)
