use Rattle.heap_calls.proofs.Cited.{◌≡◌, ℕ, ◌+◌, ◌<◌, Bool, true, false, List, [], ◌∷◌, refl, sym, ◌∙◌, ap, cond, Option, Some, None}
use Rattle.heap_calls.proofs.Cited.{Result, Ok, Err, slice_get, subst, slice_get-map, none-some, option_map, OsErr, PURGED, Block, Free}
use Rattle.heap_calls.proofs.Cited.{Nonrelocatable, Masters, Relocatable, size, rename, rename_block, is_relocatable, is_mover, tidy, Slot}
use Rattle.heap_calls.proofs.Cited.{Spot, spot, raised, rename_spot, Rest, IsRest, seen, freed, spot-rename, is_mover-rename, tidy-rename}
use Rattle.heap_calls.proofs.Cited.{freed-rename, Log, State, Memory, Answer, Known, Held, handle_at, known_as, held_at, for_found}
use Rattle.heap_calls.proofs.Cited.{on_block, refused, nothing, silent, seen_flags, bit, is_resource, block_bits, h_get_state, is_loose}
use Rattle.heap_calls.proofs.Cited.{emptied_at, empty_handle, is_owned, Done, changed, reallocate_handle, FindsLoose, bits_of, loose}
use Rattle.heap_calls.proofs.Cited.{loose_at, state_of, memory_of, name_of, role_of, handle_number, pointer_number, no_number, Anchor}
use Rattle.heap_calls.specs.Rows as rows
use Rattle.heap_calls.proofs.Same.Resizing.{again}
use Rattle.heap_calls.specs.declared.anchor.Anchor.TheVariants.{Handle}
use Rattle.heap_calls.proofs.Numbering.Numbers.{Apart, is_relocatable-number}
use Rattle.heap_calls.proofs.Numbering.Changing.{silent-kept, silent-refused}

-- Handles that have no block that is locked, and calls that search for room.

-- a handle as it is known
abbrev pub known : (ℕ → Slot) → ℕ → ℕ → Bool → Known
known slots h slot guarded = record { number = h; role = role_of (slots slot) guarded }

pub handle_at-by : (zone : List Block) (slots : ℕ → Slot) (es : List Anchor) (handle : Option ℕ) (h slot : ℕ)
    {guarded : Bool} → handle ≡ Some h → slice_get es h ≡ Some (Handle slot guarded)
    → handle_at handle (state_of zone slots es) ≡ Ok (known slots h slot guarded)
handle_at-by zone slots es handle h slot bound at =
    ap (λ o. handle_at o (state_of zone slots es)) bound ∙ ap (known_as h)
    (slice_get-map (name_of slots) es h ∙ ap (option_map (name_of slots)) at)

is_loose-rename : (f g : ℕ → ℕ) (o : Option Spot) → is_loose (option_map (rename_spot f g) o) ≡ is_loose o
is_loose-rename f g None = refl
is_loose-rename f g (Some s) = is_mover-rename f g s.here

-- a handle is loose where its slot is
pub loose_at-by : (zone : List Block) (slots : ℕ → Slot) (es : List Anchor) (handle : Option ℕ) (h slot : ℕ) (t : Bool)
    {guarded : Bool} → handle ≡ Some h → slice_get es h ≡ Some (Handle slot guarded) → Apart es → h < no_number
    → is_loose (spot (is_relocatable slot) zone) ≡ t → loose_at handle (state_of zone slots es)
    ≡ cond t (Ok (known slots h slot guarded)) (Err PURGED)
loose_at-by zone slots es handle h slot t {guarded} bound at apart small is =
    ap (λ r. loose r (rename f g zone)) (handle_at-by zone slots es handle h slot bound at)
    ∙ ap (λ u. cond u (Ok (known slots h slot guarded)) (Err PURGED))
    (ap is_loose (spot-rename f g (is_relocatable h) (is_relocatable slot)
    (is_relocatable-number es h slot at apart small) zone) ∙ is_loose-rename f g (spot (is_relocatable slot) zone)
    ∙ is)
  where
    f : ℕ → ℕ
    f = handle_number es

    g : ℕ → ℕ
    g = pointer_number es

-- where no block passes none is freed
pub freed-none : (test : Block → Bool) (bs : List Block) → spot test bs ≡ None → freed test bs ≡ bs
freed-none test [] e = refl
freed-none test (b ∷ bs) e = cases (test b) (spot test bs) (freed-none test bs) e
  where
    cases : (t : Bool) (o : Option Spot) → (o ≡ None → freed test bs ≡ bs)
        → cond t (Some (record { below = []; here = b; above = bs })) (option_map (raised b) o) ≡ None
        → cond t (Free (size b)) b ∷ freed test bs ≡ b ∷ bs
    cases true o rest e = absurd (none-some _ (sym e))
    cases false (Some s) rest e = absurd (none-some _ (sym e))
    cases false None rest e = ap (λ l. b ∷ l) (rest refl)

-- the answer of EmptyHandle at a handle that is loose
abbrev pub emptied_answer : State → Known → Answer (Unit {0})
emptied_answer s k = (Ok tt, record s { zone = tidy (freed (is_relocatable k.number) s.zone) })

pub empty_handle-loose : (handle : Option ℕ) (s : State) → tidy s.zone ≡ s.zone
    → empty_handle handle s ≡ for_found (loose_at handle s) s (emptied_answer s)
empty_handle-loose handle s tidied = found (handle_at handle s)
  where
    here : (k : Known) (o : Option Spot) → spot (is_relocatable k.number) s.zone ≡ o
        → emptied_at k.number o s ≡ for_found (cond (is_loose o) (Ok k) (Err PURGED)) s (emptied_answer s)
    here k None is = ap (λ z. (Ok tt, record s { zone = z })) (sym
        (ap tidy (freed-none (is_relocatable k.number) s.zone is) ∙ tidied))
    here k (Some at) is = cases (is_mover at.here)
      where
        cases : (t : Bool) → cond t (Ok tt, record s { zone = tidy (freed (is_relocatable k.number) s.zone) })
            (refused PURGED s) ≡ for_found (cond t (Ok k) (Err PURGED)) s (emptied_answer s)
        cases true = refl
        cases false = refl

    found : (r : Result Known OsErr) → for_found r s (λ k. emptied_at k.number (spot (is_relocatable k.number) s.zone)
        s) ≡ for_found (loose r s.zone) s (emptied_answer s)
    found (Err code) = refl
    found (Ok k) = here k (spot (is_relocatable k.number) s.zone) refl

-- ReallocateHandle, for a handle that is loose
abbrev pub renewed_row : ℕ → State → ℕ → Done (Unit {0})
renewed_row n s h = changed nothing (again h n s.zone) s

pub reallocate-loose : (handle : Option ℕ) (n : ℕ) (s : State) (r : Result Known OsErr) → loose_at handle s ≡ r
    → reallocate_handle handle n s ≡ rows.for_found r s (λ k. renewed_row n s k.number)
reallocate-loose handle n s r is =
    found (handle_at handle s) ∙ ap (λ r. rows.for_found r s (λ (k : Known). renewed_row n s k.number)) is
  where
    here : (k : Known) (t : Bool) → cond t (renewed_row n s k.number) (rows.refused PURGED s)
        ≡ rows.for_found (cond t (Ok k) (Err PURGED)) s (λ (k : Known). renewed_row n s k.number)
    here k true = refl
    here k false = refl

    found : (r : Result Known OsErr) → rows.for_found r s (λ (k : Known). cond (is_loose (spot (is_relocatable k.number)
        s.zone)) (renewed_row n s k.number) (rows.refused PURGED s))
        ≡ rows.for_found (loose r s.zone) s (λ (k : Known). renewed_row n s k.number)
    found (Err code) = refl
    found (Ok k) = here k (is_loose (spot (is_relocatable k.number) s.zone))

-- the bits of a handle's block, and the one of a resource's
abbrev pub bits_answer : ℕ → State → Held → Answer ℕ
bits_answer more s held = (Ok (block_bits held.at.here + more), s)

-- the bit of a handle that was looked up
abbrev pub role_bit : Result Known OsErr → ℕ
role_bit r = bit 32 (is_owned r)

pub h_get_state-by : (handle : Option ℕ) (s : State) → h_get_state handle s
    ≡ on_block handle s (bits_answer (role_bit (handle_at handle s)) s)
h_get_state-by handle s = found (handle_at handle s)
  where
    found : (r : Result Known OsErr) → for_found r s (λ k. for_found (held_at r s) s (λ held.
        (Ok (block_bits held.at.here + bit 32 (is_resource k.role)), s)))
        ≡ for_found (held_at r s) s (bits_answer (role_bit r) s)
    found (Err code) = refl
    found (Ok k) = refl

pub block_bits-rename : (f g : ℕ → ℕ) (b : Block) → block_bits (rename_block f g b)
    ≡ bits_of (seen_flags (Some (seen b)))
block_bits-rename f g (Free n) = refl
block_bits-rename f g (Nonrelocatable id content) = refl
block_bits-rename f g Masters = refl
block_bits-rename f g (Relocatable id flags content) = refl

-- the row of HGetState over a store is that of its bits
pub h_get_state-bits : (handle : Option ℕ) (value : Memory) (zone : List Block) (rest : Rest) (es : List Anchor)
    (log : Log) → memory_of zone rest es log ≡ value → silent (h_get_state handle) value
    ≡ silent (λ s. on_block handle s (bits_answer (role_bit (handle_at handle (state_of zone rest.slots es))) s)) value
h_get_state-bits handle value zone rest es log is =
    let more = role_bit (handle_at handle (state_of zone rest.slots es)) in
    let P : Memory → Type 0 = λ m. silent (h_get_state handle) m
    ≡ silent (λ s. on_block handle s (bits_answer more s)) m in
    subst P is (ap (λ (a : Answer ℕ). (a.0, record (memory_of zone rest es log) { heap = a.1 }))
    (h_get_state-by handle (state_of zone rest.slots es)))

-- the same for a copy of the entries
pub loose_in : (zone : List Block) (slots : ℕ → Slot) (es es' : List Anchor) (handle : Option ℕ) (r : Result ℕ OsErr)
    → es' ≡ es → FindsLoose zone slots es' handle r → FindsLoose zone slots es handle r
loose_in zone slots es es' handle r same found = let P : List Anchor → Type 0 = λ l. FindsLoose zone slots l handle r in
    subst P same found

-- a call that is refused, since its handle isn't loose
pub loose_refused : {T : Type 0} (row : State → Answer T) (code : OsErr) (zone : List Block) (rest : Rest)
    (es : List Anchor) (log : Log) (handle : Option ℕ) (value : Memory) (answer : Known → Answer T)
    → memory_of zone rest es log ≡ value
    → FindsLoose zone rest.slots es handle (Err code) → row (state_of zone rest.slots es)
    ≡ for_found (loose_at handle (state_of zone rest.slots es)) (state_of zone rest.slots es) answer
    → silent row value ≡ (Err code, value)
loose_refused row code zone rest es log handle value answer is found by =
    silent-refused row value zone rest es log code is (by ∙ ap (λ r. for_found r (state_of zone rest.slots es) answer)
    found)

-- EmptyHandle, at what was found in a copy of the entries
pub not_emptied : (handle : Option ℕ) (code : OsErr) (zone : List Block) (rest : Rest) (es copy : List Anchor)
    (log : Log) (value : Memory) → tidy zone ≡ zone → memory_of zone rest es log ≡ value → copy ≡ es
    → FindsLoose zone rest.slots copy handle (Err code) → silent (empty_handle handle) value ≡ (Err code, value)
not_emptied handle code zone rest es copy log value tidied is same found =
    let state : State = state_of zone rest.slots es in
    let f : ℕ → ℕ = handle_number es in
    let g : ℕ → ℕ = pointer_number es in
    loose_refused (empty_handle handle) code zone rest es log handle value (emptied_answer state) is
    (loose_in zone rest.slots es copy handle (Err code) same found)
    (empty_handle-loose handle state (tidy-rename f g zone ∙ ap (rename f g) tidied))

-- the answer of EmptyHandle, where the block of its slot was released
pub empty_handle-done : (value : Memory) (zone zone' : List Block) (rest rest' : Rest) (es : List Anchor) (log : Log)
    (handle : Option ℕ) (h slot : ℕ) {guarded : Bool} → memory_of zone rest es log ≡ value
    → loose_at handle (state_of zone rest.slots es) ≡ Ok (known rest.slots h slot guarded)
    → slice_get es h ≡ Some (Handle slot guarded)
    → Apart es → h < no_number → tidy zone ≡ zone
    → IsRest rest rest' → zone' ≡ tidy (freed (is_relocatable slot) zone)
    → silent (empty_handle handle) value ≡ (Ok tt, memory_of zone' rest' es log)
empty_handle-done value zone zone' rest rest' es log handle h slot is found at apart small tidied now done =
    let state : State = state_of zone rest.slots es in
    silent-kept (empty_handle handle) value zone zone' rest rest' es log (Ok tt) is
    (empty_handle-loose handle state (tidy-rename f g zone ∙ ap (rename f g) tidied)
    ∙ ap (λ r. for_found r state (emptied_answer state)) found
    ∙ ap (λ z. (Ok tt, record state { zone = z }))
    (ap tidy (freed-rename f g (is_relocatable h) (is_relocatable slot) (is_relocatable-number es h slot at apart small)
    zone) ∙ tidy-rename f g (freed (is_relocatable slot) zone) ∙ ap (rename f g) (sym done))) now
  where
    f : ℕ → ℕ
    f = handle_number es

    g : ℕ → ℕ
    g = pointer_number es
