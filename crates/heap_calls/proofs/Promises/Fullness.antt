use Rattle.heap_calls.proofs.Cited.{◌≡◌, ℕ, ◌<◌, zero, suc, Bool, true, false, replicate, refl, sym, ◌∙◌, ap, cond, arith, Some, None, Err}
use Rattle.heap_calls.proofs.Cited.{List, length, nat_le, nat_lt, leb-true, leb-false, length-replicate, phys, padded, OsErr, MEM_FULL}
use Rattle.heap_calls.proofs.Cited.{not_some, Block, filled, place, purge, put_in_place, largest_run, least_or_last, map-none, place-some}
use Rattle.heap_calls.proofs.Cited.{Put, no_room, seek, if_fits, seek_slot, then_seek, State, used_slots, all_slots, Answer, nothing}
use Rattle.heap_calls.proofs.Cited.{answer_made, reply_of, is_unused, next_block, purgeable, purged_all}
use Rattle.std.specs.Prelude.{is_some}
use Rattle.heap_calls.specs.Rows as rows
use Rattle.heap_calls.proofs.Numbering.Changing.{phys-some}

-- NewHandle is refused for want of room only.

-- a test that fails at the least number at which it passes, or the last, fails at the last
last-not : (t : ℕ → Bool) (n : ℕ) → t (least_or_last t n) ≡ false → t n ≡ false
last-not t zero e = e
last-not t (suc n) e = cases (t 0) refl e (last-not (λ k. t (suc k)) n)
  where
    cases : (u : Bool) → t 0 ≡ u → t (cond {A = ℕ} u 0 (suc (least_or_last (λ k. t (suc k)) n))) ≡ false
        → (t (suc (least_or_last (λ k. t (suc k)) n)) ≡ false → t (suc n) ≡ false) → t (suc n) ≡ false
    cases true is e last = let f : true ≡ false = sym is ∙ e in cc
    cases false is e last = last e

not-found : (t : Bool) (value : ℕ) (code : OsErr) → reply_of t value ≡ Err code → t ≡ false
not-found true value code e = cc
not-found false value code e = refl

no-place : (p : ℕ) (zone : List Block) → place p zone ≡ None → is_some (place p zone) ≡ true → {P : Type 0} → P
no-place p zone none some = let f : false ≡ true = sym (ap is_some none) ∙ some in cc

-- with an unused slot, -108 comes only for a size that no block can have, or where no run has so many Free bytes once
-- all is purged that may be
pub full_only : (n p : ℕ) (s after : State) → answer_made (rows.new_handle n) s ≡ (Err MEM_FULL, after)
    → nat_lt (used_slots s) (all_slots s) ≡ true → phys n ≡ Some p → largest_run (purged_all s.zone) < p
full_only n p s after full free fits = cases (nat_le p (largest_run (purged_all s.zone))) refl
  where
    new : Block
    new = next_block (replicate n 0) s

    there : List Block → Bool
    there z = is_some (put_in_place new z)

    by_slot : Bool → Bool
    by_slot t = (then_seek nothing s.zone (seek_slot t nothing s.zone)
        (λ zone. if_fits n (seek (Put new) nothing zone))).found

    by_size : Bool → Bool
    by_size t = (cond t (seek (Put new) nothing s.zone) no_room).found

    last : there (purged_all s.zone) ≡ false
    last = last-not (λ k. there (purge k nothing s.zone)) (purgeable s.zone)
        (sym (ap by_slot free ∙ ap by_size (ap is_some fits))
        ∙ not-found (by_slot (is_unused s)) (length s.names) MEM_FULL (ap (λ (x : Answer ℕ). x.0) full))

    takes : padded (length {A = ℕ} (replicate n 0)) ≡ p
    takes = ap padded (length-replicate {A = ℕ} n 0) ∙ sym ((phys-some n p fits).1)

    none : place p (purged_all s.zone) ≡ None
    none =
        sym (ap (λ k. place k (purged_all s.zone)) takes)
        ∙ map-none (filled new) (place (padded (length {A = ℕ} (replicate n 0))) (purged_all s.zone))
        (not_some (put_in_place new (purged_all s.zone)) last)

    cases : (t : Bool) → nat_le p (largest_run (purged_all s.zone)) ≡ t → largest_run (purged_all s.zone) < p
    cases false e = leb-false p (largest_run (purged_all s.zone)) e
    cases true e = no-place p (purged_all s.zone) none (place-some p (purged_all s.zone)
        (let z = (phys-some n p fits).1 in omega arith) (leb-true p (largest_run (purged_all s.zone)) e))
