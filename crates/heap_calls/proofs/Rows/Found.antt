use Rattle.heap_calls.proofs.Cited.{◌≡◌, ℕ, ◌<◌, Bool, true, false, not, ◌&&◌, ◌||◌, List, length, Option, Some, None, Ok, refl, sym, subst}
use Rattle.heap_calls.proofs.Cited.{slice_get, and_parts, slice_get_within, Block, Free, Nonrelocatable, Masters, Relocatable, is_mover}
use Rattle.heap_calls.proofs.Cited.{is_relocatable, is_nonrelocatable, spot, Base, Refuses, seek-refused, State, Meaning, Handle, Pointer}
use Rattle.heap_calls.proofs.Cited.{not-true, Disposed, Held, look_up, held_at, known_as, nothing}
use Rattle.heap_calls.specs.Rows as rows
use Rattle.heap_calls.proofs.Promises.Knowing.{look_up-spot}

-- The block that a call names, where it stands.

-- a handle with a block is one that was given
pub look_up-within : (handle : Option ℕ) (s : State) (held : Held) → look_up handle s ≡ Ok held
    → (held.number < length s.names) × (spot (is_relocatable held.number) s.zone ≡ Some held.at)
look_up-within None s held e = cc
look_up-within (Some h) s held e =
    let found = look_up-spot h s held e in (
      subst (λ (k : ℕ). k < length s.names) (sym found.1) (by_name (slice_get s.names h) refl e),
      subst (λ (k : ℕ). spot (is_relocatable k) s.zone ≡ Some held.at) (sym found.1) found.0,
    )
  where
    by_name : (o : Option Meaning) → slice_get s.names h ≡ o → held_at (known_as h o) s ≡ Ok held → h < length s.names
    by_name None is e = cc
    by_name (Some (Handle role)) is e = slice_get_within s.names h (Handle role) is
    by_name (Some Pointer) is e = cc
    by_name (Some Disposed) is e = cc

-- what is spared is not purged
pub spared-stays : (t b : Bool) → (t && not b) ≡ true → b ≡ false
spared-stays t b e = not-true b (and_parts t (not b) e).1

pub or-false : (a b : Bool) → (a || b) ≡ false → b ≡ false
or-false true b e = let f : true ≡ false = e in cc
or-false false b e = e

-- a pointer's block never moves
pub pointer-still : (p : ℕ) (b : Block) → is_nonrelocatable p b ≡ true → is_mover b ≡ false
pointer-still p (Free m) e = refl
pointer-still p (Nonrelocatable id content) e = refl
pointer-still p Masters e = refl
pointer-still p (Relocatable id flags content) e = let f : false ≡ true = e in cc

-- where no free block is found for ReserveMem
pub room_for-refused : (o : Option ℕ) (zone : List Block) → Refuses nothing (rows.room_for o zone)
room_for-refused None zone none = (0, λ z. refl)
room_for-refused (Some p) zone none = seek-refused nothing (Base (Free p)) zone none
