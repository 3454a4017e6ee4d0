use Rattle.res_calls.proofs.Cited.{◌≡◌, ◌<◌, ℕ, true, false, cond, Option, Some, None, Result, Ok, List, map, length, refl, sym, ◌∙◌, ap}
use Rattle.res_calls.proofs.Cited.{subst, get_or, WRITE_PERMISSION, option_map, slice_get, slice_set, is_ok, State, Memory, Role, Meaning}
use Rattle.res_calls.proofs.Cited.{Handle, Pointer, Disposed, Known, known_as, handle_at, inside, cast, owned_as, is_owned, has_block}
use Rattle.res_calls.proofs.Cited.{Refusal, Split, split, place, replaced, Reference, added, split-set, OpenFile, Resources, view_open}
use Rattle.res_calls.proofs.Cited.{Managers, Answer, done, refused, on_open, on_file, on_handle, added_to, IsAnswered, managers, chained}
use Rattle.res_calls.proofs.Cited.{add_found}
use Rattle.std.specs.Prelude.{◌==◌}
use Rattle.heap_calls.specs.Purging.{is_resource as is_owner}
use Rattle.res_calls.specs.declared.files.OpenFile.{OpenFile as StoredOpenFile}
use Rattle.res_calls.proofs.Lookups.{found_seen}
use Rattle.res_calls.proofs.Standing.{listed, touched_as, map_set}

-- A handle joins the references of an open file.

-- what is answered on a handle, of whatever role
known_role : (h : ℕ) (s : State) → is_ok (handle_at (Some h) s) ≡ true
    → (role : Role) × (handle_at (Some h) s ≡ Ok (let k : Known = record { number = h; role = role } in k))
known_role h s e = cases (slice_get s.names h) e
  where
    cases : (o : Option Meaning) → is_ok (known_as h o) ≡ true
        → (role : Role) × (known_as h o ≡ Ok (let k : Known = record { number = h; role = role } in k))
    cases None is = cc
    cases (Some (Handle role)) is = (role, refl)
    cases (Some Pointer) is = cc
    cases (Some Disposed) is = cc

pub on_role : {T V : Type 0} (seen : V → T) (answer : Known → Answer T) (h : ℕ) (s : Managers)
    (result : Result V Refusal) (after : Managers) → is_ok (handle_at (Some h) s.memory.heap) ≡ true
    → ((role : Role)
    → handle_at (Some h) s.memory.heap ≡ Ok (let k : Known = record { number = h; role = role } in k)
    → IsAnswered seen (answer (record { number = h; role = role })) result after)
    → IsAnswered seen (on_handle (Some h) s answer) result after
on_role seen answer h s result after e each =
    let known = known_role h s.memory.heap e in
    rw (known.1) (each known.0 known.1)

-- a reference that is added to the open file that was found
pub file_added : (r : Resources) (xs : List StoredOpenFile) (n i : ℕ) (x y : StoredOpenFile) (new : Reference) (h : ℕ)
    (m m' : Memory) → i < length xs → x ≡ get_or xs i x
    → Some i ≡ option_map place (split (λ (f : OpenFile). f.number == n) (map view_open xs))
    → y.map ≡ listed (added new x.map.references) x.map → view_open y ≡ touched_as y.map (view_open x)
    → m' ≡ inside (cast (owned_as true) h) m
    → IsAnswered (λ (u : Unit {0}). u) (on_file n (managers (chained xs r) m)
    (λ at. done tt (added_to at new h (managers (chained xs r) m)))) (Ok tt)
    (managers (chained (slice_set xs i y) r) m')
file_added r xs n i x y new h m m' inside_files is found list touched_so cast_so =
    let at = found_seen view_open (λ (f : OpenFile). f.number == n) xs i x inside_files is found in
    let s : Managers = managers (chained xs r) m in
    let here : touched_as (listed (added new at.0.here.map.references) at.0.here.map) at.0.here ≡ view_open y =
    ap (λ (f : OpenFile). touched_as (listed (added new f.map.references) f.map) f) at.1.1.1
    ∙ ap (λ l. touched_as l (view_open x)) (sym list) ∙ sym touched_so in
    let chain : replaced (touched_as (listed (added new at.0.here.map.references) at.0.here.map) at.0.here) at.0
    ≡ map view_open (slice_set xs i y) =
    ap (λ f. replaced f at.0) here
    ∙ sym (split-set (λ (f : OpenFile). f.number == n) (map view_open xs) (view_open y) at.0 at.1.0)
    ∙ ap (λ k. slice_set (map view_open xs) k (view_open y)) (sym at.1.1.0) ∙ sym (map_set view_open xs i y) in
    subst (λ (o : Option (Split OpenFile)). IsAnswered (λ (u : Unit {0}). u) (on_open o s
    (λ at. done tt (added_to at new h s))) (Ok tt) (managers (chained (slice_set xs i y) r) m'))
    (sym at.1.0) (
      refl,
      ap (λ c. (let t : Managers = managers (record r { chain = c }) (inside (cast (owned_as true) h) m) in t)) chain
          ∙ ap (λ k. managers (chained (slice_set xs i y) r) k) (sym cast_so),
    )

-- a handle with a block, of a file that isn't the System's
pub added_found : (role : Role) (new : Reference) (h n : ℕ) (s : Managers) (result : Result (Unit {0}) Refusal)
    (after : Managers) → handle_at (Some h) s.memory.heap ≡ Ok (let k : Known = record { number = h; role = role } in k)
    → is_owned (handle_at (Some h) s.memory.heap) ≡ false → has_block h s.memory.heap ≡ true
    → s.resources.current ≡ n → (n == 0) ≡ false
    → IsAnswered (λ (u : Unit {0}). u) (on_file n s (λ at. done tt (added_to at new h s))) result after
    → IsAnswered (λ (u : Unit {0}). u) (add_found role new h s) result after
added_found role new h n s result after known free block current some e =
    let plain : is_owner role ≡ false = sym (ap is_owned known) ∙ free in
    rw (plain, block) (subst (λ (k : ℕ). IsAnswered (λ (u : Unit {0}). u) (cond (k == 0) (refused WRITE_PERMISSION s)
    (on_file k s (λ at. done tt (added_to at new h s)))) result after) (sym current) (rw some e))
