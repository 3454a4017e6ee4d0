use Rattle.zone_script_laws.proofs.Cited.{◌≡◌, ℕ, ◌+◌, ◌-◌, ◌≤◌, Bool, true, false, ◌&&◌, nat_le, nat_lt, List, refl, sym, cond, arith}
use Rattle.zone_script_laws.proofs.Cited.{Option, Some, None, length, take, length-drop, length-take-le, and_parts, leb-true, ltb-false}
use Rattle.zone_script_laws.proofs.Cited.{none-some, first, is_zone, is_zone_at, damages, has_record, has_limit, from_zone, limit_of}
use Rattle.zone_script_laws.proofs.Cited.{zone_bytes, Damage, Form, form_for, fault_to, dump_fault, room_fault, damage_or, DumpFault}
use Rattle.zone_script_laws.proofs.Cited.{TooLong, TooLarge, Place, parts_in, fits, asks_script, parts_at}
use Rattle.real_zone.proofs.Zones.{stands}

-- Where a script of a zone is shown, the zone keeps all rules, and has room in a partition.

-- a zone that keeps all rules, in the last 32 bits of addresses
pub record Sound (form : Form) (zone : ℕ) (bytes : List ℕ) : Type 0 where
  pub sound : is_zone form zone bytes ≡ true
  pub record_in : 52 ≤ length bytes
  pub below : zone + length bytes ≤ 4294967296

no-damage : (found : Option Damage) (other : Option DumpFault) → damage_or found other ≡ None → (None ≡ found) × (other ≡ None)
no-damage None other e = (refl, e)
no-damage (Some damage) other e = absurd (none-some _ (sym e))

room : (form : Form) (zone : ℕ) (bytes : List ℕ) → room_fault form zone bytes ≡ None → fits (parts_in form zone bytes) ≡ true
room form zone bytes e = cases (fits (parts_in form zone bytes)) e
  where
    cases : (t : Bool) → cond {A = Option DumpFault} t None (Some (TooLarge zone)) ≡ None → t ≡ true
    cases true h = refl
    cases false h = absurd (none-some _ (sym h))

unless : (t u : Bool) → cond t false u ≡ true → (t ≡ false) × (u ≡ true)
unless true u e = let f : false ≡ true = e in cc
unless false u e = (refl, e)

taken : (n : ℕ) (bytes : List ℕ) → n ≤ length bytes → length (take n bytes) ≡ n
taken n bytes inside = length-take-le n bytes inside

in-dump : (form : Form) (dump : List ℕ) (base zone : ℕ) → base + length dump ≤ 4294967296 → is_zone_at form dump base zone ≡ true
    → Sound form zone (zone_bytes form dump base zone)
unfolding is_zone_at
in-dump form dump base zone small is =
    let outer = and_parts (has_record dump base zone && has_limit form zone (from_zone dump base zone))
    (is_zone form zone (zone_bytes form dump base zone)) is in
    let inner = and_parts (has_record dump base zone) (has_limit form zone (from_zone dump base zone)) outer.0 in
    let there = unless (nat_lt zone base) (nat_le (zone - base + 52) (length dump)) inner.0 in
    let limit = unless (nat_lt (limit_of form (from_zone dump base zone)) (zone + 52))
    (nat_le (limit_of form (from_zone dump base zone) - zone) (length (from_zone dump base zone))) inner.1 in
    let above = ltb-false zone base there.0 in
    let held = leb-true (zone - base + 52) (length dump) there.1 in
    let least = ltb-false (limit_of form (from_zone dump base zone)) (zone + 52) limit.0 in
    let most = leb-true (limit_of form (from_zone dump base zone) - zone) (length (from_zone dump base zone)) limit.1 in
    let rest = length-drop (zone - base) dump in
    let long = taken (limit_of form (from_zone dump base zone) - zone) (from_zone dump base zone) most in
    record { sound = outer.1; record_in = omega arith; below = omega arith }

no-fault : (t : Bool) (other : Option DumpFault) → cond t (Some TooLong) other ≡ None → (t ≡ false) × (other ≡ None)
no-fault true other e = absurd (none-some _ (sym e))
no-fault false other e = (refl, e)

-- what holds where the question has an answer
pub record Shown (base : ℕ) (place : Place) (dump : List ℕ) : Type 0 where
  pub zone : Sound (form_for place dump base) place.address (zone_bytes (form_for place dump base) dump base place.address)
  pub room : fits (parts_at base place dump) ≡ true

pub shown : (base : ℕ) (place : Place) (dump : List ℕ) → dump_fault (asks_script base place) dump ≡ None → Shown base place dump
unfolding dump_fault
shown base place dump none =
    let long = no-fault (nat_lt 0x100000000 (base + length dump)) (fault_to (asks_script base place).question base dump) none in
    let small = ltb-false 0x100000000 (base + length dump) long.0 in
    let both = no-damage (first (damages (form_for place dump base) dump base place.address))
    (room_fault (form_for place dump base) place.address (zone_bytes (form_for place dump base) dump base place.address)) long.1 in
    record {
      zone = in-dump (form_for place dump base) dump base place.address small
          (stands (form_for place dump base) dump base place.address both.0);
      room = room (form_for place dump base) place.address (zone_bytes (form_for place dump base) dump base place.address) both.1;
    }
