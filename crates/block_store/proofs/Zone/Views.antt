use Rattle.block_store.proofs.Cited.{◌≡◌, ℕ, ◌≤◌, ◌<◌, ◌-◌, Bool, true, false, List, [], ◌∷◌, ◌++◌, refl, sym, ◌∙◌, ap, subst, cond, Option}
use Rattle.block_store.proofs.Cited.{Some, None, nat_le, append_assoc, ◌⊎◌, inl, inr, arith, none-some, same_Some, option_and_then_some}
use Rattle.block_store.proofs.Cited.{leb-true, nat_tests, option_map, option_or, option_and_then, Block, size, free, free_sum, tidy}
use Rattle.block_store.proofs.Cited.{is_mover, is_room, resized, Stretch, segments, joined, RunSpot, run_spot, with_run, change_run}
use Rattle.block_store.proofs.Cited.{has_free, movers, settle, Spot, spot, filled, place, purge, count_of, room, Loose, taken, taken_low}
use Rattle.block_store.proofs.Cited.{grow_mover, grow_nonrelocatable, grow_at, grow, beyond}
use Rattle.std.specs.Prelude.{if◌then◌else◌}
use Rattle.block_store.proofs.Zone.Zones.{joined-segments, joined-is}
use Rattle.block_store.proofs.Regroup.RunLists.{segments-loose, run_spot-parts}
use Rattle.block_store.proofs.Regroup.RunSpots.{run_spot-passes}
use Rattle.block_store.proofs.Plain.Trials.{least-found}

-- What was found, as a way to see the zone it was found in.

-- where something is, it is of what it was made from
pub map-some : {A B : Type 0} (f : A → B) (o : Option A) (y : B) (R : Type 0) → option_map f o ≡ Some y
    → ((x : A) → o ≡ Some x → f x ≡ y → R) → R
map-some f None y R e goes = absurd (none-some _ e)
map-some f (Some x) y R e goes = goes x refl (same_Some _ _ e)

pub or-some : {A : Type 0} (a b : Option A) (y : A) → option_or a b ≡ Some y → (a ≡ Some y) ⊎ (b ≡ Some y)
or-some None b y e = inr e
or-some (Some x) b y e = inl e

pub if-some : {A : Type 0} (t : Bool) (x y : A) → cond t (Some x) None ≡ Some y → (t ≡ true) × (x ≡ y)
if-some true x y e = (refl, same_Some _ _ e)
if-some false x y e = absurd (none-some _ e)

-- what is answered after some purges
pub room-some : (try : List Block → Option (List Block)) (spared : Block → Bool) (zone z : List Block)
    → room try spared zone ≡ Some z → (k : ℕ) × (try (purge k spared zone) ≡ Some z)
room-some try spared zone z e = least-found (λ k. try (purge k spared zone)) (count_of spared zone) z e

-- a run that was found, with what is below it and above it
pub run_spot-is : (passes : List Block → Bool) (zone : List Block) (r : RunSpot) → run_spot passes zone ≡ Some r
    → (zone ≡ r.below ++ (r.run ++ r.above)) × Loose r.run × (passes r.run ≡ true)
run_spot-is passes zone r e =
    let parts = run_spot-parts passes zone r e in
    (sym parts.whole ∙ append_assoc r.below r.run r.above, parts.loose, run_spot-passes passes zone r e)

-- a zone in which the lowest run that passes was changed
pub change_run-some : (passes : List Block → Bool) (change : List Block → List Block) (zone z : List Block) (R : Type 0)
    → change_run passes change zone ≡ Some z
    → ((r : RunSpot) → zone ≡ r.below ++ (r.run ++ r.above) → Loose r.run → passes r.run ≡ true
    → z ≡ r.below ++ (change r.run ++ r.above) → R) → R
change_run-some passes change zone z R e goes =
    map-some (with_run change) (run_spot passes zone) z R e
    (λ r found is. let v = run_spot-is passes zone r found in goes r v.0 v.1 v.2
    (sym is ∙ append_assoc r.below (change r.run) r.above))

-- a place is a Free block of the zone, or of the zone with a run settled
pub place-some : (p : ℕ) (zone : List Block) (s : Spot) (R : Type 0) → place p zone ≡ Some s
    → (spot (is_room p) zone ≡ Some s → R)
    → ((z : List Block) → change_run (has_free p) settle zone ≡ Some z → spot (is_room p) (tidy z) ≡ Some s → R) → R
place-some p zone s R e here after = cases (or-some (spot (is_room p) zone) _ s e)
  where
    cases : (spot (is_room p) zone ≡ Some s) ⊎ (option_and_then (spot (is_room p))
        (option_map tidy (change_run (has_free p) settle zone)) ≡ Some s) → R
    cases (inl found) = here found
    cases (inr found) =
        option_and_then_some (spot (is_room p)) (option_map tidy (change_run (has_free p) settle zone)) s found
        (λ t is at. map-some tidy (change_run (has_free p) settle zone) t R is
        (λ z changed same. after z changed (subst (λ (t : List Block). spot (is_room p) t ≡ Some s) (sym same) at)))

-- bytes that were taken from the Free block that comes first
pub taken-some : (d : ℕ) (above z : List Block) (R : Type 0) → taken d above ≡ Some z
    → ((next : Block) (rest : List Block) → above ≡ next ∷ rest → is_room d next ≡ true
    → z ≡ free (size next - d) ++ rest → R) → R
taken-some d [] z R e goes = absurd (none-some _ e)
taken-some d (next ∷ above) z R e goes = let v = if-some (is_room d next) _ z e in goes next above refl v.0 (sym v.1)

-- bytes that were taken in the run that comes first
pub taken_low-some : (d : ℕ) (spared : Block → Bool) (above z : List Block) (R : Type 0)
    → taken_low d spared above ≡ Some z
    → ((run rest : List Block) (k : ℕ) → Loose run → above ≡ run ++ rest → has_free d (purge k spared run) ≡ true
    → z ≡ (movers (purge k spared run) ++ free (free_sum (purge k spared run) - d)) ++ rest → R) → R
taken_low-some d spared above z R e goes =
    map-some (λ run. joined (movers run ++ free (free_sum run - d)) parts)
    (room (λ run. if has_free d run then Some run else None) spared first) z R e
    (λ run found is. let r = room-some (λ run. if has_free d run then Some run else None) spared first run found in
    let v = if-some (has_free d (purge r.0 spared first)) (purge r.0 spared first) run r.1 in
    goes first (beyond parts) r.0 (segments-loose above).0 (sym (joined-segments above) ∙ joined-is first parts) v.0
    (sym is ∙ joined-is (movers run ++ free (free_sum run - d)) parts
    ∙ ap (λ l. (movers l ++ free (free_sum l - d)) ++ beyond parts) (sym v.1)))
  where
    first : List Block
    first = (segments above).first

    parts : List Stretch
    parts = (segments above).rest

-- a zone in which a block grew or was cut
pub grow-some : (test spared : Block → Bool) (n : ℕ) (zone z : List Block) (R : Type 0)
    → ((s : Spot) → spot test zone ≡ Some s → size (resized n s.here) ≤ size s.here → z ≡ filled (resized n s.here) s
    → R)
    → ((s : Spot) (k : ℕ) → spot test zone ≡ Some s → size s.here < size (resized n s.here) → is_mover s.here ≡ true
    → grow_mover test (resized n s.here) (purge k spared zone) ≡ Some z → R)
    → ((s : Spot) → spot test zone ≡ Some s → size s.here < size (resized n s.here) → is_mover s.here ≡ false
    → grow_nonrelocatable spared (resized n s.here) s ≡ Some z → R)
    → grow test spared n zone ≡ Some z → R
grow-some test spared n zone z R cut moved nonrelocatable e =
    option_and_then_some (λ s. grow_at test spared (resized n s.here) zone s) (spot test zone) z e
    (λ s found is. by_size s found (nat_le (size (resized n s.here)) (size s.here)) refl is)
  where
    by_kind : (s : Spot) → spot test zone ≡ Some s → size s.here < size (resized n s.here) → (u : Bool)
        → is_mover s.here ≡ u
        → cond u (room (grow_mover test (resized n s.here)) spared zone) (grow_nonrelocatable spared (resized n s.here) s)
        ≡ Some z → R
    by_kind s found more true u is = let r = room-some (grow_mover test (resized n s.here)) spared zone z is in
        moved s r.0 found more u r.1
    by_kind s found more false u is = nonrelocatable s found more u is

    by_size : (s : Spot) → spot test zone ≡ Some s → (t : Bool) → nat_le (size (resized n s.here)) (size s.here) ≡ t
        → cond t (Some (filled (resized n s.here) s)) (cond (is_mover s.here)
        (room (grow_mover test (resized n s.here)) spared zone) (grow_nonrelocatable spared (resized n s.here) s)) ≡ Some z
        → R
    by_size s found true t is = cut s found (leb-true (size (resized n s.here)) (size s.here) t)
        (sym (same_Some _ _ is))
    by_size s found false t is = by_kind s found (grind (arith, nat_tests)) (is_mover s.here) refl is
