use Rattle.heap_calls.proofs.Cited.{◌≡◌, ℕ, Bool, true, false, refl, ◌∙◌, ap, cond, Option, Some, None, Result, Ok, Err, slice_get}
use Rattle.heap_calls.proofs.Cited.{option_or, OsErr, Role, Plain, Resource, SystemResource, Memory, Meaning, Handle, Pointer, Disposed}
use Rattle.heap_calls.proofs.Cited.{Known, Held, handle_at, known_as, look_up, Asked, answered, Bar, row, bar_of, barred_by, Places, idle}
use Rattle.heap_calls.proofs.Cited.{is_busy, bar, known_bars, pointer_bars, either_bars, barred, guard, known_guards, change_barred}
use Rattle.heap_calls.proofs.Cited.{NoneGuarded, pointer_barred, either_barred, next_barred, both_barred, keep_code, either_guards}
use Rattle.heap_calls.proofs.Cited.{either_change_barred, move_barred, block_named, gate, notes, gated, served, BarredLeaves, Told}
use Rattle.heap_calls.specs.Row as table
use Rattle.heap_calls.proofs.Gates.Served.{served-gated}

-- What bars a call: a number that is busy, and a handle of a System resource.

-- what holds where nothing bars a call, where a number may, and where a handle that is bound may, holds of each gate
module _ (P : Option OsErr → Type 0) (m : Memory) (none : P None) (one : (n : ℕ) → P (bar (is_busy n m.log.busy)))
    (of : (n : ℕ) (role : Role) → slice_get m.heap.names n ≡ Some (Handle role)
    → P (option_or (bar (is_busy n m.log.busy)) (guard role)))
  where
    by-handle : (handle : Option ℕ) → P (barred handle m)
    by-handle handle = by_known (handle_at handle m.heap)
      where
        by_known : (r : Result Known OsErr) → P (known_bars m.log.busy r)
        by_known (Err code) = none
        by_known (Ok known) = one known.number

    by-change : (handle : Option ℕ) → P (change_barred handle m)
    by-change None = none
    by-change (Some h) = by_meaning (slice_get m.heap.names h) refl
      where
        by_meaning : (o : Option Meaning) → slice_get m.heap.names h ≡ o
            → P (known_guards m.log.busy (known_as h o))
        by_meaning None is = none
        by_meaning (Some (Handle role)) is = of h role is
        by_meaning (Some Pointer) is = none
        by_meaning (Some Disposed) is = none

    by-pointer : (pointer : Option ℕ) → P (pointer_barred pointer m)
    by-pointer None = none
    by-pointer (Some p) = by_meaning (slice_get m.heap.names p)
      where
        by_meaning : (o : Option Meaning) → P (pointer_bars m.log.busy p o)
        by_meaning None = none
        by_meaning (Some (Handle role)) = none
        by_meaning (Some Pointer) = one p
        by_meaning (Some Disposed) = none

    by-either : (name : Option ℕ) → P (either_barred name m)
    by-either None = none
    by-either (Some n) = by_meaning (slice_get m.heap.names n)
      where
        by_meaning : (o : Option Meaning) → P (either_bars m.log.busy n o)
        by_meaning None = none
        by_meaning (Some (Handle role)) = one n
        by_meaning (Some Pointer) = one n
        by_meaning (Some Disposed) = none

    by-both : (from to : Option ℕ) → P (both_barred from to m)
    by-both from to = by_first (handle_at from m.heap)
      where
        other : Option OsErr
        other = next_barred (look_up from m.heap) (change_barred to m)

        by_held : (r : Result Held OsErr) → P (next_barred r (change_barred to m))
        by_held (Err code) = none
        by_held (Ok held) = by-change to

        by_bar : (t : Bool) → P (bar t) → P (option_or (bar t) other)
        by_bar true bars = bars
        by_bar false free = by_held (look_up from m.heap)

        by_first : (r : Result Known OsErr) → P (option_or (known_bars m.log.busy r) other)
        by_first (Err code) = by_held (look_up from m.heap)
        by_first (Ok known) = by_bar (is_busy known.number m.log.busy) (one known.number)

    by-either-change : (name : Option ℕ) → P (either_change_barred name m)
    by-either-change None = none
    by-either-change (Some n) = by_meaning (slice_get m.heap.names n) refl
      where
        by_meaning : (o : Option Meaning) → slice_get m.heap.names n ≡ o → P (either_guards m.log.busy n o)
        by_meaning None is = none
        by_meaning (Some (Handle role)) is = of n role is
        by_meaning (Some Pointer) is = one n
        by_meaning (Some Disposed) is = none

    by-move : (from to : Option ℕ) → P (move_barred from to m)
    by-move None to = by_held (block_named None m.heap)
      where
        by_held : (r : Result Held OsErr) → P (next_barred r (either_change_barred to m))
        by_held (Err code) = none
        by_held (Ok held) = by-either-change to
    by-move (Some n) to = by_meaning (slice_get m.heap.names n)
      where
        other : Option OsErr
        other = next_barred (block_named (Some n) m.heap) (either_change_barred to m)

        by_held : (r : Result Held OsErr) → P (next_barred r (either_change_barred to m))
        by_held (Err code) = none
        by_held (Ok held) = by-either-change to

        by_bar : (t : Bool) → P (bar t) → P (option_or (bar t) other)
        by_bar true bars = bars
        by_bar false free = by_held (block_named (Some n) m.heap)

        by_meaning : (o : Option Meaning) → P (option_or (either_bars m.log.busy n o) other)
        by_meaning None = by_held (block_named (Some n) m.heap)
        by_meaning (Some (Handle role)) = by_bar (is_busy n m.log.busy) (one n)
        by_meaning (Some Pointer) = by_bar (is_busy n m.log.busy) (one n)
        by_meaning (Some Disposed) = by_held (block_named (Some n) m.heap)

    by-bar : (b : Bar) → P (barred_by b m)
    by-bar table.Open = none
    by-bar (table.OnHandle handle) = by-handle handle
    by-bar (table.OnChange handle) = by-change handle
    by-bar (table.OnBoth from to) = by-both from to
    by-bar (table.OnPointer pointer) = by-pointer pointer
    by-bar (table.OnEither name) = by-either name
    by-bar (table.OnMove from to) = by-move from to

    pub by-gate : (a : Asked) → P (gate a m)
    by-gate a = by-bar (bar_of (row a))

-- a call that is barred changes nothing but the code
pub served-barred : (a : Asked) (m : Memory) → BarredLeaves a m
served-barred a m code bars = (
  ap (λ (x : Told × Memory). x.0) (served-gated a m) ∙ ap (λ (o : Option OsErr). (gated o a m).0) bars,
  ap (λ (x : Told × Memory). x.1) (served-gated a m) ∙ ap (λ (o : Option OsErr). (gated o a m).1) bars
      ∙ by_notes (notes a),
)
  where
    by_notes : (t : Bool) → cond t (keep_code code m) m ≡ keep_code (cond t code m.log.code) m
    by_notes true = refl
    by_notes false = refl

-- where no name is busy and no handle a System resource's, nothing bars a call
pub gate-idle : (a : Asked) (m : Memory) → m.log.busy ≡ idle → NoneGuarded m.heap → gate a m ≡ None
gate-idle a m free own =
    by-gate (λ o. o ≡ None) m refl (λ n. ap (λ (busy : Places). bar (is_busy n busy)) free)
    (λ n role is. ap (λ (busy : Places). option_or (bar (is_busy n busy)) (guard role)) free ∙ unguarded n role is) a
  where
    unguarded : (n : ℕ) (role : Role) → slice_get m.heap.names n ≡ Some (Handle role) → guard role ≡ None
    unguarded n Plain is = refl
    unguarded n Resource is = refl
    unguarded n SystemResource is = absurd (own n is)

-- then a try is the call's row
pub served_idle : (a : Asked) (m : Memory) → m.log.busy ≡ idle → NoneGuarded m.heap → served a m ≡ answered a m
served_idle a m free own = served-gated a m ∙ ap (λ (o : Option OsErr). gated o a m) (gate-idle a m free own)
