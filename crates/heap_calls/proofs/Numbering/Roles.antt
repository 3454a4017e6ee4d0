use Rattle.heap_calls.proofs.Cited.{◌≡◌, ℕ, ◌+◌, ◌<◌, Bool, true, false, ◌==◌, ◌||◌, List, [], ◌∷◌, refl, sym, ◌∙◌, ap, cond, map, arith}
use Rattle.heap_calls.proofs.Cited.{Option, Some, None, Ok, Err, slice_get, slice_set, get_or, count_by, subst, inl, inr, length, is_some}
use Rattle.heap_calls.proofs.Cited.{zero, suc, map-set, length-map, sum_by-set, same_Some, slice_get_within, slice_get-map}
use Rattle.heap_calls.proofs.Cited.{get_or_from_slice_get, cond-true, cond-false, false_from_ne_true, Decides-eqb, option_map, Block, Free}
use Rattle.heap_calls.proofs.Cited.{Nonrelocatable, Masters, Relocatable, rename, is_relocatable, has, spot, FindsLowest, Slot, NoSlot}
use Rattle.heap_calls.proofs.Cited.{Unused, Used, set_slot, AreSlots, is_used, Rest, has-rename, has-spot, State, Memory, Meaning, Role}
use Rattle.heap_calls.proofs.Cited.{uses_slot, without, inside, cast, cast_as, owned_as, guarded_as, released, released_as, slot_of}
use Rattle.heap_calls.proofs.Cited.{slot_at, state_of, memory_of, name_of, handle_number, pointer_number, number_from, leads_to, points_to}
use Rattle.heap_calls.proofs.Cited.{no_number, role_of, Agrees, Log, OsErr, Found, Anchor}
use Rattle.heap_calls.specs.State as names
use Rattle.heap_calls.specs.declared.anchor.Anchor.TheVariants.{Handle, Pointer, Disposed}
use Rattle.heap_calls.proofs.Numbering.Numbers.{is_relocatable-number, leads_to-is, leads_to-same, number_from-found}
use Rattle.heap_calls.proofs.Numbering.Answering.{slot_of-ok}
use Rattle.heap_calls.proofs.Numbering.Changing.{slice_get-set, names-same, used_by}
use Rattle.heap_calls.proofs.Numbering.Loosening.{handle_at-by}

-- The roles of handles.

-- the entry of a handle that was found in a copy of the entries
pub entry-of : (es copy : List Anchor) (h : ℕ) (f : Found) → copy ≡ es → slot_of (Some h) copy ≡ Ok f
    → slice_get es h ≡ Some (Handle f.slot f.guarded)
entry-of es copy h f same is =
    let p = slot_of-ok (Some h) copy f is in
    ap (λ l. slice_get l h) (sym same) ∙ ap (slice_get copy) (same_Some _ _ p.0) ∙ p.1

-- a change of the heap, told of the whole memory
pub inside-done : (change : State → State) (value : Memory) (zone zone' : List Block) (rest rest' : Rest)
    (es es' : List Anchor) (log : Log) → memory_of zone rest es log ≡ value
    → change (state_of zone rest.slots es) ≡ state_of zone' rest'.slots es'
    → rest'.window ≡ rest.window → rest'.moves ≡ rest.moves → memory_of zone' rest' es' log ≡ inside change value
inside-done change value zone zone' rest rest' es es' log is done window moves =
    let P : Memory → Type 0 = λ m. memory_of zone' rest' es' log ≡ inside change m in
    subst P is (ap (λ s. let m : Memory = record { heap = s; log = log; moves = rest'.moves; window = rest'.window } in
    m) (sym done)
    ∙ ap (λ n. let m : Memory = record {
      heap = change (state_of zone rest.slots es);
      log = log;
      moves = n;
      window = rest'.window;
    } in m) moves
    ∙ ap (λ w. let m : Memory = record {
      heap = change (state_of zone rest.slots es);
      log = log;
      moves = rest.moves;
      window = w;
    } in m) window)

-- a handle that is let go
pub released-is : (zone : List Block) (slots : ℕ → Slot) (es : List Anchor) (h slot : ℕ) {guarded : Bool}
    → slice_get es h ≡ Some (Handle slot guarded)
    → released h (state_of zone slots es) ≡ without h (state_of zone slots es)
released-is zone slots es h slot at = ap (λ r. released_as r (state_of zone slots es))
    (handle_at-by zone slots es (Some h) h slot refl at)

-- a handle has a block where its slot leads to one
pub block-there : (zone : List Block) (slots : ℕ → Slot) (es : List Anchor) (h slot : ℕ) {guarded : Bool}
    (place : Option ℕ) → slice_get es h ≡ Some (Handle slot guarded)
    → ((j k s : ℕ) (g o : Bool) → slice_get es j ≡ Some (Handle s g) → slice_get es k ≡ Some (Handle s o) → j ≡ k)
    → h < no_number → FindsLowest (is_relocatable slot) zone place
    → is_some place ≡ has (is_relocatable h) (state_of zone slots es).zone
block-there zone slots es h slot place at apart small lowest = sym (
    has-rename (handle_number es) (pointer_number es) (is_relocatable h) (is_relocatable slot)
    (is_relocatable-number es h slot at apart small) zone ∙ has-spot (is_relocatable slot) zone ∙ by_place place lowest)
  where
    by_place : (place : Option ℕ) → FindsLowest (is_relocatable slot) zone place
        → is_some (spot (is_relocatable slot) zone) ≡ is_some place
    by_place None e = ap is_some e
    by_place (Some p) there = ap is_some there.1

-- a number that is no handle's has none
pub block-none : (zone : List Block) (slots : ℕ → Slot) (es : List Anchor) (h : ℕ) (code : OsErr)
    → slot_of (Some h) es ≡ Err code → h < no_number → has (is_relocatable h) (state_of zone slots es).zone ≡ false
block-none zone slots es h code is small = over zone
  where
    no_handle : (o : Option Anchor) (slot : ℕ) (guarded : Bool) → slot_at h o ≡ Err code
        → o ≡ Some (Handle slot guarded) → ⊥
    no_handle None slot guarded f at = cc
    no_handle (Some (Handle s g)) slot guarded f at = cc
    no_handle (Some (Pointer p)) slot guarded f at = cc
    no_handle (Some Disposed) slot guarded f at = cc

    other : (id : ℕ) → handle_number es id ≡ h → ⊥
    other id same =
        let found = number_from-found 0 (leads_to id) es h same small in
        let place : found.0 ≡ h = omega (arith, found.2) in
        let led = leads_to-is id found.1 found.4 in
        no_handle (slice_get es h) id led.0 is (ap (slice_get es) (sym place) ∙ found.3 ∙ ap Some led.1)

    over : (zone : List Block) → has (is_relocatable h) (rename (handle_number es) (pointer_number es) zone) ≡ false
    over [] = refl
    over (Free n ∷ zone) = over zone
    over (Nonrelocatable id content ∷ zone) = over zone
    over (Masters ∷ zone) = over zone
    over (Relocatable id flags content ∷ zone) =
        ap (λ t. t || has (is_relocatable h) (rename (handle_number es) (pointer_number es) zone))
        (false_from_ne_true (handle_number es id == h) (λ t. other id ((Decides-eqb (handle_number es id) h).0 t)))
        ∙ over zone

-- an entry that is changed to one that passes the same test
number_from-same : (n : ℕ) (test : Anchor → Bool) (es : List Anchor) (h : ℕ) (old new : Anchor)
    → slice_get es h ≡ Some old → test new ≡ test old
    → number_from n test (slice_set es h new) ≡ number_from n test es
number_from-same n test [] h old new at same = refl
number_from-same n test (x ∷ es) zero old new at same =
    ap (λ t. cond t n (number_from (n + 1) test es)) (same ∙ sym (ap test (same_Some _ _ at)))
number_from-same n test (x ∷ es) (suc h) old new at same =
    ap (cond (test x) n) (number_from-same (n + 1) test es h old new at same)

-- the names of a heap with a handle in another role
module _ (zone : List Block) (rest rest' : Rest) (es : List Anchor) (h slot : ℕ) {guarded : Bool} (state : Slot)
    (guarded' : Bool) (agrees : Agrees zone rest es) (at : slice_get es h ≡ Some (Handle slot guarded))
    (used : is_used state ≡ true) (now : AreSlots (set_slot rest.slots slot state) rest'.slots)
    (unused : rest'.unused ≡ rest.unused) (all : rest'.all ≡ rest.all)
  where
    -- the entries with the new one
    abbrev pub es' : List Anchor
    es' = slice_set es h (Handle slot guarded')

    slot-now : rest'.slots slot ≡ state
    slot-now = now slot ∙ cond-true (slot == slot) state (rest.slots slot) (leads_to-same slot)

    -- a handle was one before
    was : (k s : ℕ) (g : Bool) → slice_get es' k ≡ Some (Handle s g)
        → (o : Bool) × (slice_get es k ≡ Some (Handle s o))
    was k s g found = elim (slice_get-set es h (Handle slot guarded') k (Handle s g) found) [
      | inl old ↦ (g, old)
      | inr new ↦ (
        guarded,
        ap (slice_get es) new.0 ∙ at ∙ ap (λ n. Some (Handle n guarded)) (sym (handle-same s g new.1)),
      )
    ]
      where
        handle-same : (s : ℕ) (g : Bool) → Handle s g ≡ Handle slot guarded' → s ≡ slot
        handle-same s g e = cc

    pointer-was : (k p : ℕ) → slice_get es' k ≡ Some (Pointer p) → slice_get es k ≡ Some (Pointer p)
    pointer-was k p found = elim (slice_get-set es h (Handle slot guarded') k (Pointer p) found)
        [ inl old ↦ old | inr new ↦ absurd (not_handle new.1) ]
      where
        not_handle : Pointer p ≡ Handle slot guarded' → ⊥
        not_handle e = cc

    still-used : (s : ℕ) → is_used (rest.slots s) ≡ true → is_used (rest'.slots s) ≡ true
    still-used s old = ap is_used (now s) ∙ cases (s == slot)
      where
        cases : (t : Bool) → is_used (cond t state (rest.slots s)) ≡ true
        cases true = used
        cases false = old

    names-cast : map (name_of rest'.slots) es'
        ≡ slice_set (map (name_of rest.slots) es) h (names.Handle (role_of state guarded'))
    names-cast =
        map-set (name_of rest'.slots) es h (Handle slot guarded')
        ∙ ap (λ t. slice_set (map (name_of rest'.slots) es) h (names.Handle (role_of t guarded'))) slot-now
        ∙ same es h at (λ k s g found other. now s ∙ cond-false (s == slot) state (rest.slots s)
        (false_from_ne_true (s == slot) (λ t. other (agrees.apart k h slot g guarded
        (found ∙ ap (λ n. Some (Handle n g)) ((Decides-eqb s slot).0 t)) at))))
      where
        new : Meaning
        new = names.Handle (role_of state guarded')

        same : (es : List Anchor) (h : ℕ) → slice_get es h ≡ Some (Handle slot guarded)
            → ((k s : ℕ) (g : Bool) → slice_get es k ≡ Some (Handle s g) → (k ≡ h → ⊥) → rest'.slots s ≡ rest.slots s)
            → slice_set (map (name_of rest'.slots) es) h new ≡ slice_set (map (name_of rest.slots) es) h new
        same [] h at others = refl
        same (x ∷ es) zero at others = ap (λ l. new ∷ l) (names-same rest.slots rest'.slots es
            (λ k s g found. others (suc k) s g found (λ e. let z : suc k ≡ 0 = e in omega arith)))
        same (x ∷ es) (suc h) at others =
            ap (λ y. y ∷ slice_set (map (name_of rest'.slots) es) h new) (first x refl)
            ∙ ap (λ l. name_of rest.slots x ∷ l) (same es h at
            (λ k s g found other. others (suc k) s g found (λ e. let z : suc k ≡ suc h = e in other (omega arith))))
          where
            first : (y : Anchor) → x ≡ y → name_of rest'.slots y ≡ name_of rest.slots y
            first (Handle s g) e = ap (λ t. names.Handle (role_of t g))
                (others 0 s g (ap Some e) (λ e. let z : 0 ≡ suc h = e in omega arith))
            first (Pointer p) e = refl
            first Disposed e = refl

    zone-cast : rename (handle_number es') (pointer_number es') zone
        ≡ rename (handle_number es) (pointer_number es) zone
    zone-cast =
        ap (λ f. rename f (pointer_number es') zone)
        (λ i k. number_from-same 0 (leads_to k) es h (Handle slot guarded) (Handle slot guarded') at refl i)
        ∙ ap (λ f. rename (handle_number es) f zone)
        (λ i k. number_from-same 0 (points_to k) es h (Handle slot guarded) (Handle slot guarded') at refl i)

    pub agrees-cast : Agrees zone rest' es'
    agrees-cast = record {
      used = λ k s g found. let old = was k s g found in still-used s (agrees.used k s old.0 old.1);
      apart = λ j k s g o a b. agrees.apart j k s (was j s g a).0 (was k s o b).0 (was j s g a).1 (was k s o b).1;
      pointed = λ k p found. agrees.pointed k p (pointer-was k p found);
      lone = λ j k p a b. agrees.lone j k p (pointer-was j p a) (pointer-was k p b);
      counted =
          let a = agrees.counted in
          let l : List Meaning = map (name_of rest.slots) es in
          let e : count_by uses_slot (map (name_of rest'.slots) es')
          ≡ count_by uses_slot (slice_set l h (names.Handle (role_of state guarded'))) =
          ap (count_by uses_slot) names-cast in
          let there : used_by (get_or l h names.Disposed) ≡ 1 = ap used_by
          (get_or_from_slice_get l h _ names.Disposed
          (slice_get-map (name_of rest.slots) es h ∙ ap (option_map (name_of rest.slots)) at)) in
          let c = sum_by-set used_by l h (names.Handle (role_of state guarded')) names.Disposed
          (let w : h < length es = slice_get_within es h (Handle slot guarded) at in
          omega (arith, length-map es (name_of rest.slots))) in
          omega (arith, unused, all);
      masters = let a = agrees.masters in omega (arith, all);
    }

    pub cast-done : (change : Role → Role) → role_of state guarded' ≡ change (role_of (rest.slots slot) guarded)
        → cast change h (state_of zone rest.slots es) ≡ state_of zone rest'.slots es'
    cast-done change role =
        let s : State = state_of zone rest.slots es in
        ap (λ r. cast_as change r s) (handle_at-by zone rest.slots es (Some h) h slot refl at)
        ∙ ap (λ r. let n : State = record { zone = s.zone; names = slice_set s.names h (names.Handle r) } in n)
        (sym role)
        ∙ ap (λ z. let n : State = record {
          zone = z;
          names = slice_set s.names h
              (names.Handle (role_of state guarded'));
        } in n) (sym zone-cast)
        ∙ ap (λ l. let n : State = record { zone = rename (handle_number es') (pointer_number es') zone; names = l } in
        n)
        (sym names-cast)

-- the slots with one as it is
pub slots-same : (slots : ℕ → Slot) (slot : ℕ) → AreSlots (set_slot slots slot (slots slot)) slots
slots-same slots slot k = cases (k == slot) refl
  where
    cases : (t : Bool) → (k == slot) ≡ t → slots k ≡ cond t (slots slot) (slots k)
    cases true e = ap slots ((Decides-eqb k slot).0 e)
    cases false e = refl

-- the role of a handle that becomes a resource's or an application's own
pub owned-role : (resource : Bool) (role : Role) → role_of (Used resource) false ≡ owned_as resource role
owned-role true role = refl
owned-role false role = refl

-- and of one that is guarded or not
pub guarded-role : (slot : Slot) (guarded guarded' : Bool)
    → role_of slot guarded' ≡ guarded_as guarded' (role_of slot guarded)
guarded-role NoSlot guarded guarded' = refl
guarded-role Unused guarded guarded' = refl
guarded-role (Used false) guarded guarded' = refl
guarded-role (Used true) true true = refl
guarded-role (Used true) true false = refl
guarded-role (Used true) false true = refl
guarded-role (Used true) false false = refl
