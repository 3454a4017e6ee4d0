use Rattle.heap_calls.proofs.Cited.{◌≡◌, ℕ, Bool, List, [], ◌∷◌, Option, Some, None, Result, Ok, Err, refl, sym, ◌∙◌, ap}
use Rattle.heap_calls.proofs.Cited.{option_map, ok_or, result_ok, none-some, same_Some}
use Rattle.heap_calls.proofs.Cited.{OsErr, NIL_HANDLE, Block, is_relocatable, is_nonrelocatable, Spot, spot, freed, Put}
use Rattle.heap_calls.proofs.Cited.{Drop, Sought, seek, if_fits}
use Rattle.heap_calls.proofs.Cited.{around, State, Meaning, Handle, Pointer, Disposed}
use Rattle.heap_calls.proofs.Cited.{Known, Held, held_at, nothing, pointed, pointed_at}
use Rattle.heap_calls.proofs.Cited.{fresh_block}
use Rattle.std.specs.Prelude.{slice_get}

-- Blocks at the spots where they are found, and a block that is freed before a search.

-- a block that is found stands at its spot
spot-held : (kind : ℕ → Block → Bool) (k : ℕ) (zone : List Block) (held : Held) → ok_or (option_map (λ (at : Spot).
    let held : Held = record { number = k; at = at } in held) (spot (kind k) zone)) NIL_HANDLE ≡ Ok held
    → spot (kind held.number) zone ≡ Some held.at
spot-held kind k zone held e = cases (spot (kind k) zone) refl e
  where
    cases : (o : Option Spot) → spot (kind k) zone ≡ o → ok_or (option_map (λ (at : Spot).
        let held : Held = record { number = k; at = at } in held) o) NIL_HANDLE ≡ Ok held
        → spot (kind held.number) zone ≡ Some held.at
    cases None is e = absurd (none-some _ (ap result_ok e))
    cases (Some at) is e =
        let same = same_Some _ _ (ap result_ok e) in
        ap (λ (h : Held). spot (kind h.number) zone) (sym same) ∙ is ∙ ap (λ (h : Held). Some h.at) same

pub held-spot : (r : Result Known OsErr) (s : State) (held : Held) → held_at r s ≡ Ok held
    → spot (is_relocatable held.number) s.zone ≡ Some held.at
held-spot (Err code) s held e = absurd (none-some _ (ap result_ok e))
held-spot (Ok k) s held e = spot-held is_relocatable k.number s.zone held e

pub pointer-spot : (pointer : Option ℕ) (s : State) (held : Held) → pointed_at pointer s ≡ Ok held
    → spot (is_nonrelocatable held.number) s.zone ≡ Some held.at
pointer-spot None s held e = absurd (none-some _ (ap result_ok e))
pointer-spot (Some p) s held e = cases (slice_get s.names p) e
  where
    cases : (m : Option Meaning) → pointed p m s ≡ Ok held → spot (is_nonrelocatable held.number) s.zone ≡ Some held.at
    cases None e = absurd (none-some _ (ap result_ok e))
    cases (Some (Handle role)) e = absurd (none-some _ (ap result_ok e))
    cases (Some Pointer) e = spot-held is_nonrelocatable p s.zone held e
    cases (Some Disposed) e = absurd (none-some _ (ap result_ok e))

-- the new block of a handle, of n bytes
abbrev pub again : ℕ → ℕ → List Block → Sought
again h n zone = around (Drop h ∷ []) [] (if_fits n (seek (Put (fresh_block h n)) nothing (freed (is_relocatable h) zone)))
