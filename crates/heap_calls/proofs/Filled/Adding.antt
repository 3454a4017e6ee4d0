use Rattle.heap_calls.proofs.Cited.{◌≡◌, ℕ, false, true, List, length, refl, sym, ◌∙◌, ap, subst, Some, None, Ok, Err, Result, slice_get}
use Rattle.heap_calls.proofs.Cited.{slice_set, OsErr, MEM_FULL, Flags, Block, Used, Rest, IsRest, with_slot, Log, Anchor, Code, Memory}
use Rattle.heap_calls.proofs.Cited.{Plain, Resource, cast, inside, new_inside, number_if, IsNext, state_of, memory_of, Agrees, entered}
use Rattle.heap_calls.specs.declared.anchor.Anchor.TheVariants.{Handle}
use Rattle.heap_calls.proofs.Filled.Owned.{get-last, set-last, owned-answer}
use Rattle.heap_calls.proofs.Numbering.Roles.{agrees-cast, cast-done, inside-done}

-- New resources one after another.

-- its resource flag is set
module _ (zone zone' : List Block) (rest rest' : Rest) (es : List Anchor) (slot : ℕ)
    (agrees : Agrees zone rest (entered (Some slot) es))
    (now : IsRest (with_slot slot (Used true) rest.unused rest) rest') (same : zone' ≡ zone)
  where
    at : slice_get (entered (Some slot) es) (length es) ≡ Some (Handle slot false)
    at = get-last es (Handle slot false)

    still : slice_set (entered (Some slot) es) (length es) (Handle slot false) ≡ entered (Some slot) es
    still = set-last es (Handle slot false) (Handle slot false)

    pub added-agrees : Agrees zone' rest' (entered (Some slot) es)
    added-agrees =
        let P : List Block → Type 0 = λ z. Agrees z rest' (entered (Some slot) es) in
        let Q : List Anchor → Type 0 = λ l. Agrees zone rest' l in
        subst P (sym same) (subst Q still (agrees-cast zone rest rest' (entered (Some slot) es) (length es) slot
        (Used true)
        false agrees at refl now.slots now.unused now.all))

    added-done : (log : Log) → memory_of zone' rest' (entered (Some slot) es) log
        ≡ inside (cast (λ _. Resource) (length es)) (memory_of zone rest (entered (Some slot) es) log)
    added-done log =
        inside-done (cast (λ _. Resource) (length es)) (memory_of zone rest (entered (Some slot) es) log) zone zone' rest
        rest' (entered (Some slot) es) (entered (Some slot) es) log refl
        (cast-done zone rest rest' (entered (Some slot) es) (length es) slot (Used true) false agrees at refl now.slots
        now.unused now.all (λ _. Resource) refl
        ∙ ap (λ l. state_of zone rest'.slots l) still
        ∙ ap (λ z. state_of z rest'.slots (entered (Some slot) es)) (sym same))
        now.window now.moves

    pub added-next : (flags : Flags) (x : List ℕ) (old : Memory) (log : Log)
        → new_inside Plain flags x old ≡ (Ok (length es), memory_of zone rest (entered (Some slot) es) log)
        → IsNext flags x old (Some (length es)) (memory_of zone' rest' (entered (Some slot) es) log)
    added-next flags x old log is =
        let new = memory_of zone' rest' (entered (Some slot) es) log in
        let done : new_inside Resource flags x old ≡ (Ok (length es), new) =
        owned-answer false flags x old (memory_of zone rest (entered (Some slot) es) log) new (Ok (length es)) is
        (added-done log) in
        (ap (λ (a : Result ℕ OsErr × Memory). number_if a.0) done, ap (λ (a : Result ℕ OsErr × Memory). a.1) done)

-- there is no room
pub not-added : (flags : Flags) (x : List ℕ) (old new : Memory) → new_inside Plain flags x old ≡ (Err MEM_FULL, new)
    → IsNext flags x old None new
not-added flags x old new is =
    let done : new_inside Resource flags x old ≡ (Err MEM_FULL, new) =
    owned-answer false flags x old new new (Err (Code MEM_FULL)) is refl in
    (ap (λ (a : Result ℕ OsErr × Memory). number_if a.0) done, ap (λ (a : Result ℕ OsErr × Memory). a.1) done)
