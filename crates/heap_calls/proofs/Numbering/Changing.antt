use Rattle.heap_calls.proofs.Cited.{◌≡◌, ℕ, ◌+◌, ◌-◌, ◌*◌, ◌≤◌, ◌<◌, zero, suc, Bool, true, false, ◌==◌, List, [], ◌∷◌, ◌++◌, length, refl}
use Rattle.heap_calls.proofs.Cited.{sym, ◌∙◌, ap, cond, map, arith, Option, Some, None, Result, Ok, Err, slice_get, slice_set, get_or}
use Rattle.heap_calls.proofs.Cited.{count_by, subst, ◌⊎◌, inl, inr, nat_le, OnOk, map-append, map_push, map-set, length-map, sum_by_push}
use Rattle.heap_calls.proofs.Cited.{sum_by-set, none-some, same_Some, slice_get_within, slice_get-map, get_or_from_slice_get, cond-true}
use Rattle.heap_calls.proofs.Cited.{cond-false, false_from_ne_true, Decides-eqb, nat_tests, option_map, IfSome, IsSomeAnd, IsTrue, phys}
use Rattle.heap_calls.proofs.Cited.{padded, OsErr, Log, PROFILE, Block, Free, Nonrelocatable, Masters, Relocatable, size, count, free_sum}
use Rattle.heap_calls.proofs.Cited.{free_of, rename, rename_block, is_nonrelocatable, is_relocatable, is_room, content_of, with_content}
use Rattle.heap_calls.proofs.Cited.{is_masters, tidy, written, has, Slot, Unused, Used, set_slot, AreSlots, is_used, Rest, IsRest}
use Rattle.heap_calls.proofs.Cited.{KeepsSlots, with_placed, KeepsAllButPlaced, Spot, spot_at, raised, rename_spot, filled, freed}
use Rattle.heap_calls.proofs.Cited.{total-rename, free_of-rename, freed-rename, tidy-rename, rename-unless, rename_nonrelocatable-unless}
use Rattle.heap_calls.proofs.Cited.{has-released, not_nonrelocatable-room, State, Memory, CountedMemory, Meaning, Plain, uses_slot, Answer}
use Rattle.heap_calls.proofs.Cited.{Held, refused, without, written_at, for_found, silent, Anchor, state_of, memory_of, heap_of, name_of}
use Rattle.heap_calls.proofs.Cited.{handle_number, pointer_number, number_from, leads_to, points_to, no_number, role_of}
use Rattle.heap_calls.proofs.Cited.{KeepsNonrelocatable, Agrees}
use Rattle.std.proofs.Common.{OnErr}
use Rattle.std.specs.Prelude.{is_some}
use Rattle.heap_calls.specs.State as names
use Rattle.heap_calls.specs.declared.anchor.Anchor.TheVariants.{Handle, Pointer, Disposed}
use Rattle.heap_calls.proofs.Numbering.Memories.{counted_as}
use Rattle.heap_calls.proofs.Numbering.Answering.{content_of-rename, with_content-rename, held}
use Rattle.heap_calls.proofs.Room.Staying.{nonrelocatable-released, nonrelocatable-filled}
use Rattle.heap_calls.proofs.Numbering.Numbers.{is_relocatable-number, leads_to-same, leads_to-is, flipped}

-- an entry that doesn't pass changes no number
pub number_from-push : (n : ℕ) (test : Anchor → Bool) (es : List Anchor) (e : Anchor) → test e ≡ false
    → number_from n test (es ++ e ∷ []) ≡ number_from n test es
number_from-push n test [] e fails = cond-false (test e) n no_number fails
number_from-push n test (x ∷ es) e fails = ap (cond (test x) n) (number_from-push (n + 1) test es e fails)

-- the number of a new entry
pub number_from-new : (n : ℕ) (test : Anchor → Bool) (es : List Anchor) (e : Anchor) → test e ≡ true
    → ((k : ℕ) (x : Anchor) → slice_get es k ≡ Some x → test x ≡ false)
    → number_from n test (es ++ e ∷ []) ≡ n + length es
number_from-new n test [] e is none = cond-true (test e) n no_number is ∙ omega arith
number_from-new n test (x ∷ es) e is none =
    cond-false (test x) n _ (none 0 x refl) ∙ number_from-new (n + 1) test es e is (λ k y at. none (suc k) y at)
    ∙ omega arith

-- an entry that is changed from one that doesn't pass to another that doesn't
pub number_from-set : (n : ℕ) (test : Anchor → Bool) (es : List Anchor) (h : ℕ) (old new : Anchor)
    → slice_get es h ≡ Some old → test old ≡ false → test new ≡ false
    → number_from n test (slice_set es h new) ≡ number_from n test es
number_from-set n test [] h old new at fails fails' = refl
number_from-set n test (x ∷ es) zero old new at fails fails' =
    cond-false (test new) n _ fails' ∙ sym (cond-false (test x) n _ (ap test (same_Some _ _ at) ∙ fails))
number_from-set n test (x ∷ es) (suc h) old new at fails fails' =
    ap (cond (test x) n) (number_from-set (n + 1) test es h old new at fails fails')

-- an entry of a list with one more
pub slice_get-push : (es : List Anchor) (e : Anchor) (h : ℕ) (x : Anchor) → slice_get (es ++ e ∷ []) h ≡ Some x
    → (slice_get es h ≡ Some x) ⊎ ((h ≡ length es) × (x ≡ e))
slice_get-push [] e zero x at = inr (refl, sym (same_Some _ _ at))
slice_get-push [] e (suc h) x at = absurd (none-some _ at)
slice_get-push (y ∷ es) e zero x at = inl at
slice_get-push (y ∷ es) e (suc h) x at = elim (slice_get-push es e h x at)
    [ inl found ↦ inl found | inr new ↦ inr (ap suc new.0, new.1) ]

-- an entry of a list with one changed
pub slice_get-set : (es : List Anchor) (i : ℕ) (e : Anchor) (h : ℕ) (x : Anchor)
    → slice_get (slice_set es i e) h ≡ Some x → (slice_get es h ≡ Some x) ⊎ ((h ≡ i) × (x ≡ e))
slice_get-set [] i e h x at = absurd (none-some _ at)
slice_get-set (y ∷ es) zero e zero x at = inr (refl, sym (same_Some _ _ at))
slice_get-set (y ∷ es) zero e (suc h) x at = inl at
slice_get-set (y ∷ es) (suc i) e zero x at = inl at
slice_get-set (y ∷ es) (suc i) e (suc h) x at = elim (slice_get-set es i e h x at)
    [ inl found ↦ inl found | inr new ↦ inr (ap suc new.0, new.1) ]

pub slice_get-set_same : (es : List Anchor) (i : ℕ) (e : Anchor) → i < length es
    → slice_get (slice_set es i e) i ≡ Some e
slice_get-set_same [] i e within = absurd (let z : i < 0 = within in omega arith)
slice_get-set_same (y ∷ es) zero e within = refl
slice_get-set_same (y ∷ es) (suc i) e within = slice_get-set_same es i e (let z : suc i < suc (length es) = within in
    omega arith)

-- entries stand for the same names where their slots are in the same state
pub names-same : (slots slots' : ℕ → Slot) (es : List Anchor)
    → ((h s : ℕ) (g : Bool) → slice_get es h ≡ Some (Handle s g) → slots' s ≡ slots s)
    → map (name_of slots') es ≡ map (name_of slots) es
names-same slots slots' [] same = refl
names-same slots slots' (Handle s g ∷ es) same = rw (same 0 s g refl)
    (ap (λ l. names.Handle (role_of (slots s) g) ∷ l) (names-same slots slots' es (λ h s g at. same (suc h) s g at)))
names-same slots slots' (Pointer p ∷ es) same = ap (λ l. names.Pointer ∷ l)
    (names-same slots slots' es (λ h s g at. same (suc h) s g at))
names-same slots slots' (Disposed ∷ es) same = ap (λ l. names.Disposed ∷ l)
    (names-same slots slots' es (λ h s g at. same (suc h) s g at))

unused-not_used : {P : Type 0} (state : Slot) → state ≡ Unused → is_used state ≡ true → P
unused-not_used state a b = let fails : false ≡ true = sym (ap is_used a) ∙ b in cc

-- one for a name with a slot
abbrev pub used_by : Meaning → ℕ
used_by x = cond (uses_slot x) 1 0

-- one for a Masters block
abbrev masters_in : Block → ℕ
masters_in b = cond (is_masters b) 1 0

-- the Masters blocks of a zone
pub masters-rename : (f g : ℕ → ℕ) (zone : List Block) → count is_masters (rename f g zone) ≡ count is_masters zone
masters-rename f g zone = total-rename f g masters_in masters_in same zone
  where
    same : (b : Block) → masters_in (rename_block f g b) ≡ masters_in b
    same (Free n) = refl
    same (Nonrelocatable id content) = refl
    same Masters = refl
    same (Relocatable id flags content) = refl

-- a heap whose entries agree with its store has a Masters block
pub some-masters : (zone : List Block) (rest : Rest) (es : List Anchor) → Agrees zone rest es
    → rest.all ≡ 64 * count is_masters zone → 0 < count is_masters (state_of zone rest.slots es).zone
some-masters zone rest es agrees all =
    let some = agrees.masters in
    let same = masters-rename (handle_number es) (pointer_number es) zone in
    omega (arith, all)

-- a size that has room
pub phys-some : (n bytes : ℕ) → phys n ≡ Some bytes → (is_some (phys n) ≡ true) × (bytes ≡ padded n)
phys-some n bytes is = (ap is_some is, cases (nat_le n 2147483616) is)
  where
    cases : (t : Bool) → cond t (Some (padded n)) None ≡ Some bytes → bytes ≡ padded n
    cases true e = sym (same_Some _ _ e)
    cases false e = absurd (none-some _ e)

-- the names of a heap with a handle more
module _ {before : List Block} (zone : List Block) (rest rest' : Rest) (es : List Anchor) (slot : ℕ)
    (agrees : Agrees before rest es) (was : rest.slots slot ≡ Unused)
    (now : AreSlots (set_slot rest.slots slot (Used false)) rest'.slots) (one : rest'.unused + 1 ≡ rest.unused)
    (all : rest'.all ≡ rest.all) (none : has (is_relocatable slot) zone ≡ false)
  where
    -- the entries with the new one
    abbrev pub es' : List Anchor
    es' = es ++ Handle slot false ∷ []

    other-slot : (k : ℕ) → (k == slot) ≡ false → rest'.slots k ≡ rest.slots k
    other-slot k apart = now k ∙ cond-false (k == slot) (Used false) (rest.slots k) apart

    pub slot-now : rest'.slots slot ≡ Used false
    slot-now = now slot ∙ cond-true (slot == slot) (Used false) (rest.slots slot) (leads_to-same slot)

    apart-from : (h s : ℕ) (g : Bool) → slice_get es h ≡ Some (Handle s g) → (s == slot) ≡ false
    apart-from h s g at = false_from_ne_true (s == slot) (λ e. unused-not_used (rest.slots s)
        (ap rest.slots ((Decides-eqb s slot).0 e) ∙ was) (agrees.used h s g at))

    pub number-now : handle_number es' slot ≡ length es
    number-now =
        number_from-new 0 (leads_to slot) es (Handle slot false) (leads_to-same slot)
        (λ k x at. false_from_ne_true (leads_to slot x) (λ e. let is = leads_to-is slot x e in
        unused-not_used (rest.slots slot) was (agrees.used k slot is.0 (at ∙ ap Some is.1))))
        ∙ omega arith

    -- the zone as it was has the names that it had
    pub zone-kept : rename (handle_number es') (pointer_number es') zone
        ≡ rename (handle_number es) (pointer_number es) zone
    zone-kept =
        rename_nonrelocatable-unless (handle_number es') (pointer_number es) (pointer_number es')
        (λ k. number_from-push 0 (points_to k) es (Handle slot false) refl) zone
        ∙ rename-unless (handle_number es) (handle_number es') (pointer_number es) slot
        (λ k e. number_from-push 0 (leads_to k) es (Handle slot false) (flipped slot k e)) zone none

    pub names-now : map (name_of rest'.slots) es' ≡ map (name_of rest.slots) es ++ names.Handle Plain ∷ []
    names-now =
        map_push (name_of rest'.slots) es (Handle slot false)
        ∙ ap (λ l. l ++ names.Handle (role_of (rest'.slots slot) false) ∷ [])
        (names-same rest.slots rest'.slots es (λ h s g at. other-slot s (apart-from h s g at)))
        ∙ ap (λ t. map (name_of rest.slots) es ++ names.Handle (role_of t false) ∷ []) slot-now

    pub agrees-now : (zone' : List Block) → KeepsNonrelocatable before zone' → Agrees zone' rest' es'
    agrees-now zone' nonrelocatable = record {
      used = λ h s g at. elim (slice_get-push es (Handle slot false) h (Handle s g) at) [
        | inl found ↦ ap is_used (other-slot s (apart-from h s g found)) ∙ agrees.used h s g found
        | inr new ↦
            (let is : s ≡ slot = handle-same s slot g new.1 in ap is_used (ap rest'.slots is ∙ slot-now))
      ];
      apart = λ h k s g o at at'. elim (slice_get-push es (Handle slot false) h (Handle s g) at) [
        | inl found ↦ elim (slice_get-push es (Handle slot false) k (Handle s o) at') [
          | inl found' ↦ agrees.apart h k s g o found found'
          | inr new' ↦ absurd
              (clash h s g found (handle-same s slot o new'.1))
        ]
        | inr new ↦ elim (slice_get-push es (Handle slot false) k (Handle s o) at')
            [ inl found' ↦ absurd (clash k s o found' (handle-same s slot g new.1)) | inr new' ↦ new.0 ∙ sym new'.0 ]
      ];
      pointed = λ h p at. nonrelocatable p ∙ agrees.pointed h p (old h p at);
      lone = λ h k p at at'. agrees.lone h k p (old h p at) (old k p at');
      counted =
          let a = agrees.counted in
          let e : count_by uses_slot (map (name_of rest'.slots) es')
          ≡ count_by uses_slot (map (name_of rest.slots) es ++ names.Handle Plain ∷ []) =
          ap (count_by uses_slot) names-now in
          let c : count_by uses_slot (map (name_of rest.slots) es ++ names.Handle Plain ∷ [])
          ≡ count_by uses_slot (map (name_of rest.slots) es) + 1 =
          sum_by_push (λ x. cond (uses_slot x) 1 0) (map (name_of rest.slots) es) (names.Handle Plain) in
          omega (arith, one, all);
      masters = let a = agrees.masters in omega (arith, all);
    }
      where
        handle-same : (s t : ℕ) (g : Bool) → Handle s g ≡ Handle t false → s ≡ t
        handle-same s t g e = cc

        not_handle : (p s : ℕ) → Pointer p ≡ Handle s false → ⊥
        not_handle p s e = cc

        old : (h p : ℕ) → slice_get es' h ≡ Some (Pointer p) → slice_get es h ≡ Some (Pointer p)
        old h p at = elim (slice_get-push es (Handle slot false) h (Pointer p) at)
            [ inl found ↦ found | inr new ↦ absurd (not_handle p slot new.1) ]

        clash : (h s : ℕ) (g : Bool) → slice_get es h ≡ Some (Handle s g) → s ≡ slot → ⊥
        clash h s g found is = unused-not_used (rest.slots s) (ap rest.slots is ∙ was) (agrees.used h s g found)

-- a name that stays where one is disposed of is another
pub without-other : (es : List Anchor) (h : ℕ) (old : Anchor) → slice_get es h ≡ Some old → (k : ℕ) (x : Anchor)
    → (x ≡ Disposed → ⊥) → slice_get (slice_set es h Disposed) k ≡ Some x → (slice_get es k ≡ Some x) × (k ≡ h → ⊥)
without-other es h old at k x stays found = elim (slice_get-set es h Disposed k x found) [
  | inl was ↦ (
    was,
    λ same. stays (same_Some _ _ (sym found ∙ ap (slice_get (slice_set es h Disposed)) same
        ∙ slice_get-set_same es h Disposed (slice_get_within es h old at))),
  )
  | inr new ↦ absurd (stays new.1)
]

pub handle-stays : (s : ℕ) (g : Bool) → Handle s g ≡ Disposed → ⊥
handle-stays s g e = cc

pub pointer-stays : (place : ℕ) → Pointer place ≡ Disposed → ⊥
pointer-stays place e = cc

-- the slots that are used where one name is disposed of
pub used-without : (slots : ℕ → Slot) (es : List Anchor) (h : ℕ) (old : Anchor) (left : List Meaning)
    → slice_get es h ≡ Some old → left ≡ slice_set (map (name_of slots) es) h names.Disposed
    → count_by uses_slot left + used_by (name_of slots old) ≡ count_by uses_slot (map (name_of slots) es)
used-without slots es h old left at is =
    let e : count_by uses_slot left ≡ count_by uses_slot (slice_set (map (name_of slots) es) h names.Disposed) =
    ap (count_by uses_slot) is in
    let was : get_or (map (name_of slots) es) h names.Disposed ≡ name_of slots old =
    get_or_from_slice_get (map (name_of slots) es) h _ names.Disposed
    (slice_get-map (name_of slots) es h ∙ ap (option_map (name_of slots)) at) in
    let there : used_by (get_or (map (name_of slots) es) h names.Disposed) ≡ used_by (name_of slots old) =
    ap used_by was in
    let c = sum_by-set used_by (map (name_of slots) es) h names.Disposed names.Disposed
    (let w : h < length es = slice_get_within es h old at in
    omega (arith, length-map es (name_of slots))) in
    omega arith

-- the state of a heap whose zone and names are known
pub state-left : (zone' : List Block) (slots : ℕ → Slot) (left : List Anchor) (zone : List Block) (l : List Meaning)
    → zone ≡ rename (handle_number left) (pointer_number left) zone' → map (name_of slots) left ≡ l
    → (let s : State = record { zone = zone; names = l } in s) ≡ state_of zone' slots left
state-left zone' slots left zone l done named =
    ap (λ z. let s : State = record { zone = z; names = l } in s) done
    ∙ ap (λ l. let s : State = record { zone = rename (handle_number left) (pointer_number left) zone'; names = l } in
    s) (sym named)

-- the names of a heap with a handle disposed of
module _ (zone : List Block) (rest rest' : Rest) (es : List Anchor) (h slot : ℕ) {guarded : Bool}
    (agrees : Agrees zone rest es) (at : slice_get es h ≡ Some (Handle slot guarded)) (small : h < no_number)
    (now : AreSlots (set_slot rest.slots slot Unused) rest'.slots) (one : rest'.unused ≡ rest.unused + 1)
    (all : rest'.all ≡ rest.all)
  where
    -- the entries without it
    abbrev pub left : List Anchor
    left = slice_set es h Disposed

    other-left : (k s : ℕ) (g : Bool) → slice_get left k ≡ Some (Handle s g) → (slice_get es k ≡ Some (Handle s g))
        × ((s == slot) ≡ false)
    other-left k s g found =
        let other = without-other es h (Handle slot guarded) at k (Handle s g) (handle-stays s g) found in (
          other.0,
          false_from_ne_true (s == slot) (λ e. other.1 (agrees.apart k h s g guarded other.0
              (at ∙ ap (λ n. Some (Handle n guarded)) (sym ((Decides-eqb s slot).0 e))))),
        )

    slots-left : (s : ℕ) → (s == slot) ≡ false → rest'.slots s ≡ rest.slots s
    slots-left s e = now s ∙ cond-false (s == slot) Unused (rest.slots s) e

    pub names-left : map (name_of rest'.slots) left ≡ slice_set (map (name_of rest.slots) es) h names.Disposed
    names-left = names-same rest.slots rest'.slots left (λ k s g found. slots-left s (other-left k s g found).1)
        ∙ map-set (name_of rest.slots) es h Disposed

    pointer-left : (k p : ℕ) → slice_get left k ≡ Some (Pointer p) → slice_get es k ≡ Some (Pointer p)
    pointer-left k p found = (without-other es h (Handle slot guarded) at k (Pointer p) (pointer-stays p) found).0

    pub agrees-left : Agrees (tidy (freed (is_relocatable slot) zone)) rest' left
    agrees-left = record {
      used = λ k s g found. ap is_used (slots-left s (other-left k s g found).1)
          ∙ agrees.used k s g (other-left k s g found).0;
      apart = λ j k s g o a b. agrees.apart j k s g o (other-left j s g a).0 (other-left k s o b).0;
      pointed = λ k p found. nonrelocatable-released slot zone p ∙ agrees.pointed k p (pointer-left k p found);
      lone = λ j k p a b. agrees.lone j k p (pointer-left j p a) (pointer-left k p b);
      counted =
          let a = agrees.counted in
          let c : count_by uses_slot (map (name_of rest'.slots) left) + 1
          ≡ count_by uses_slot (map (name_of rest.slots) es) =
          used-without rest.slots es h (Handle slot guarded) _ at names-left in
          omega (arith, one, all);
      masters = let a = agrees.masters in omega (arith, all);
    }

    -- the heap without it
    pub without-done : without h (state_of zone rest.slots es)
        ≡ state_of (tidy (freed (is_relocatable slot) zone)) rest'.slots left
    without-done =
        state-left (tidy (freed (is_relocatable slot) zone)) rest'.slots left _ _ zone-left names-left
      where
        zone-left : tidy (freed (is_relocatable h) (rename (handle_number es) (pointer_number es) zone))
            ≡ rename (handle_number left) (pointer_number left) (tidy (freed (is_relocatable slot) zone))
        zone-left =
            ap tidy (freed-rename (handle_number es) (pointer_number es) (is_relocatable h) (is_relocatable slot)
            (is_relocatable-number es h slot at agrees.apart small) zone)
            ∙ tidy-rename (handle_number es) (pointer_number es) (freed (is_relocatable slot) zone)
            ∙ sym (rename_nonrelocatable-unless (handle_number left) (pointer_number es) (pointer_number left)
            (λ k. number_from-set 0 (points_to k) es h (Handle slot guarded) Disposed at refl refl)
            (tidy (freed (is_relocatable slot) zone))
            ∙ rename-unless (handle_number es) (handle_number left) (pointer_number es) slot
            (λ k e. number_from-set 0 (leads_to k) es h (Handle slot guarded) Disposed at (flipped slot k e) refl)
            (tidy (freed (is_relocatable slot) zone)) (has-released slot zone))

-- the spot of a place is a way to see the zone
pub spot_at-is : (place : ℕ) (zone : List Block) (s : Spot) → spot_at place zone ≡ Some s
    → zone ≡ s.below ++ s.here ∷ s.above
spot_at-is place [] s e = absurd (none-some _ e)
spot_at-is place (b ∷ above) s e = cases (place == 0) (nat_le (size b) place) (spot_at (place - size b) above)
    (spot_at-is (place - size b) above) e
  where
    cases : (t u : Bool) (o : Option Spot) → ((s : Spot) → o ≡ Some s → above ≡ s.below ++ s.here ∷ s.above)
        → cond t (Some (record { below = []; here = b; above = above })) (cond u (option_map (raised b) o) None)
        ≡ Some s → b ∷ above ≡ s.below ++ s.here ∷ s.above
    cases true u o rest e = ap (λ (s : Spot). s.below ++ s.here ∷ s.above) (same_Some _ _ e)
    cases false false o rest e = absurd (none-some _ e)
    cases false true None rest e = absurd (none-some _ e)
    cases false true (Some s') rest e = ap (λ l. b ∷ l) (rest s' refl)
        ∙ ap (λ (s : Spot). s.below ++ s.here ∷ s.above) (same_Some _ _ e)

-- the nonrelocatable blocks stay where a block is changed at the spot of a place
pub nonrelocatable-at : (place : ℕ) (zone zone' : List Block) (s : Spot) → spot_at place zone ≡ Some s
    → KeepsNonrelocatable (s.below ++ s.here ∷ s.above) zone' → KeepsNonrelocatable zone zone'
nonrelocatable-at place zone zone' s at stays p = stays p ∙ ap (has (is_nonrelocatable p)) (sym (spot_at-is place zone s at))

-- and where another block than a nonrelocatable one is put there
pub nonrelocatable-carved : (place n : ℕ) (zone after : List Block) (new : Block) → ((p : ℕ) → is_nonrelocatable p new ≡ false)
    → IsSomeAnd (spot_at place zone) (λ s. IsTrue (is_room n s.here))
    → IfSome (spot_at place zone) (λ s. after ≡ filled new s) → KeepsNonrelocatable zone after
nonrelocatable-carved place n zone after new none wide done = cases (spot_at place zone) refl wide done
  where
    cases : (o : Option Spot) → spot_at place zone ≡ o → IsSomeAnd o (λ s. IsTrue (is_room n s.here))
        → IfSome o (λ s. after ≡ filled new s) → KeepsNonrelocatable zone after
    cases None at wide done p = absurd wide
    cases (Some s) at wide done p =
        ap (has (is_nonrelocatable p)) done ∙ nonrelocatable-at place zone (filled new s) s at
        (nonrelocatable-filled new s (λ p. none p ∙ sym (not_nonrelocatable-room p n s.here wide))) p

-- the store goes on with the same slots
pub agrees-kept : (zone zone' : List Block) (rest rest' : Rest) (es : List Anchor) → Agrees zone rest es
    → KeepsNonrelocatable zone zone' → KeepsSlots rest rest' → Agrees zone' rest' es
agrees-kept zone zone' rest rest' es agrees nonrelocatable now = record {
  used = λ h s g at. ap is_used (now.slots s) ∙ agrees.used h s g at;
  apart = agrees.apart;
  pointed = λ h p at. nonrelocatable p ∙ agrees.pointed h p at;
  lone = agrees.lone;
  counted =
      let a = agrees.counted in
      let e : count_by uses_slot (map (name_of rest'.slots) es) ≡ count_by uses_slot (map (name_of rest.slots) es) =
      ap (count_by uses_slot) (names-same rest.slots rest'.slots es (λ h s g at. now.slots s)) in
      omega (arith, now.unused, now.all);
  masters = let a = agrees.masters in omega (arith, now.all);
}

-- with the same counts, the rest is what it was
as_many : (rest rest' : Rest) (moves placed : ℕ) → IsRest rest rest'
    → IsRest (record rest { moves = moves; placed = placed }) (record rest' { moves = moves; placed = placed })
as_many rest rest' moves placed now = record {
  slots = now.slots;
  unused = now.unused;
  all = now.all;
  moves = refl;
  placed = refl;
  window = now.window;
}

-- where nothing is moved the slots are kept
pub kept : (rest rest' : Rest) → IsRest rest rest' → KeepsSlots rest rest'
kept rest rest' now = as_many rest rest' rest'.moves rest'.placed now

-- what a store has beside its blocks, as if none had moved or been placed
abbrev pub unmoved : Rest → Rest → Rest
unmoved rest rest' = record rest' { moves = rest.moves; placed = rest.placed }

pub unmoved-is : (rest rest' : Rest) → KeepsSlots rest rest' → IsRest rest (unmoved rest rest')
unmoved-is rest rest' now =
    as_many (record rest { moves = rest'.moves; placed = rest'.placed }) rest' rest.moves rest.placed now

pub agrees-same : (zone zone' : List Block) (rest rest' : Rest) (es : List Anchor) → Agrees zone rest es
    → KeepsNonrelocatable zone zone' → IsRest rest rest' → Agrees zone' rest' es
agrees-same zone zone' rest rest' es agrees nonrelocatable now = agrees-kept zone zone' rest rest' es agrees nonrelocatable
    (kept rest rest' now)

-- what a store has beside its blocks, as if none had been placed
abbrev pub unplaced : Rest → Rest → Rest
unplaced rest rest' = record rest' { placed = rest.placed }

pub unplaced-is : (rest rest' : Rest) → KeepsAllButPlaced rest rest' → IsRest rest (unplaced rest rest')
unplaced-is rest rest' now = record {
  slots = now.slots;
  unused = now.unused;
  all = now.all;
  moves = now.moves;
  placed = refl;
  window = now.window;
}

-- where blocks may have been placed the slots are kept
pub slots_kept : (rest rest' : Rest) → KeepsAllButPlaced rest rest' → KeepsSlots rest rest'
slots_kept rest rest' now = as_many rest (unplaced rest rest') rest'.moves rest'.placed (unplaced-is rest rest' now)

pub agrees-placed : (zone zone' : List Block) (rest rest' : Rest) (es : List Anchor) → Agrees zone rest es
    → KeepsNonrelocatable zone zone' → KeepsAllButPlaced rest rest' → Agrees zone' rest' es
agrees-placed zone zone' rest rest' es agrees nonrelocatable now =
    agrees-kept zone zone' rest rest' es agrees nonrelocatable (slots_kept rest rest' now)

-- one placing is counted, or more
pub once_placed : (n : ℕ) (rest rest' : Rest) → IsRest (with_placed n rest) rest' → KeepsAllButPlaced rest rest'
once_placed n rest rest' now = record {
  slots = now.slots;
  unused = now.unused;
  all = now.all;
  moves = now.moves;
  placed = refl;
  window = now.window;
}

pub none_placed : (rest rest' : Rest) → IsRest rest rest' → KeepsAllButPlaced rest rest'
none_placed rest rest' now = record {
  slots = now.slots;
  unused = now.unused;
  all = now.all;
  moves = now.moves;
  placed = refl;
  window = now.window;
}

-- it is counted where the store had host memory for it
pub may_place : {T E : Type 0} (r : Result T E) (n : ℕ) (rest rest' : Rest) → OnOk r (IsRest (with_placed n rest) rest')
    → OnErr r (IsRest rest rest') → KeepsAllButPlaced rest rest'
may_place (Ok x) n rest rest' ok err = once_placed n rest rest' ok
may_place (Err e) n rest rest' ok err = none_placed rest rest' err

-- a heap over another zone and the same slots
pub memory-same : (zone : List Block) (rest rest' : Rest) (es : List Anchor) (log : Log) → IsRest rest rest'
    → memory_of zone rest' es log ≡ memory_of zone rest es log
memory-same zone rest rest' es log now =
    ap (λ l. record {
      heap = record { zone = rename (handle_number es) (pointer_number es) zone; names = l };
      log = log;
      moves = rest'.moves;
      window = rest'.window;
    }) (names-same rest.slots rest'.slots es (λ h s g at. now.slots s))
    ∙ ap (λ m. record { heap = state_of zone rest.slots es; log = log; moves = m; window = rest'.window }) now.moves
    ∙ ap (λ w. record { heap = state_of zone rest.slots es; log = log; moves = rest.moves; window = w }) now.window

-- the same heap, over the same zone, slots and entries
pub heap-same : (zone zone' : List Block) (rest rest' : Rest) (es es' : List Anchor) (log : Log) {old : CountedMemory}
    → heap_of zone rest es log ≡ old → es' ≡ es → zone' ≡ zone → IsRest rest rest' → heap_of zone' rest' es' log ≡ old
heap-same zone zone' rest rest' es es' log is entries same now =
    ap (λ z. heap_of z rest' es' log) same ∙ ap (λ (l : List Anchor). heap_of zone rest' l log) entries
    ∙ counted_as {held = heap_of zone rest' es log} {value = heap_of zone rest es log}
    (memory-same zone rest rest' es log now) now.placed ∙ is

-- what a call gives, told of the whole heap
pub silent-done : {T : Type 0} (row : State → Answer T) (value : Memory) (zone zone' : List Block) (rest rest' : Rest)
    (es es' : List Anchor) (log : Log) (r : Result T OsErr)
    → memory_of zone rest es log ≡ value → row (state_of zone rest.slots es) ≡ (r, state_of zone' rest'.slots es')
    → rest'.window ≡ rest.window → rest'.moves ≡ rest.moves → silent row value ≡ (r, memory_of zone' rest' es' log)
silent-done {T = T} row value zone zone' rest rest' es es' log r is done window moves =
    let P : Memory → Type 0 = λ m. silent {T = T} row m ≡ (r, memory_of zone' rest' es' log) in
    subst P is ((λ i. ((done i).0, record (memory_of zone rest es log) { heap = (done i).1 }))
    ∙ ap (λ m. (r, record { heap = state_of zone' rest'.slots es'; log = log; moves = m; window = rest.window }))
    (sym moves)
    ∙ ap (λ w. (r, record { heap = state_of zone' rest'.slots es'; log = log; moves = rest'.moves; window = w }))
    (sym window))

-- what a call gives that leaves another zone and the names as they were
pub silent-kept : {T : Type 0} (row : State → Answer T) (value : Memory) (zone zone' : List Block) (rest rest' : Rest)
    (es : List Anchor) (log : Log) (r : Result T OsErr) → memory_of zone rest es log ≡ value
    → row (state_of zone rest.slots es) ≡ (
      r,
      record (state_of zone rest.slots es) { zone = rename (handle_number es) (pointer_number es) zone' },
    ) → IsRest rest rest' → silent row value ≡ (r, memory_of zone' rest' es log)
silent-kept {T = T} row value zone zone' rest rest' es log r is done now =
    silent-done row value zone zone' rest rest' es es log r is
    (done ∙ ap (λ l. (r, record { zone = rename (handle_number es) (pointer_number es) zone'; names = l }))
    (sym (names-same rest.slots rest'.slots es (λ h s g at. now.slots s))))
    now.window now.moves

-- what a refused call gives
pub silent-refused : {T : Type 0} (row : State → Answer T) (value : Memory) (zone : List Block) (rest : Rest)
    (es : List Anchor) (log : Log) (code : OsErr)
    → memory_of zone rest es log ≡ value → row (state_of zone rest.slots es) ≡ (Err code, state_of zone rest.slots es)
    → silent row value ≡ (Err code, value)
silent-refused row value zone rest es log code is done = silent-done row value zone zone rest rest es es log (Err code)
    is done refl refl ∙ ap (λ (m : Memory). (Err code, m)) is

-- what a call answers that writes bytes into the block that it looks up
written-row : (s : State) (f g : ℕ → ℕ) (look : State → Result Held OsErr) (h i : ℕ) (x : List ℕ) (at : Spot) (t : Bool)
    → look s ≡ Ok (held h (rename_spot f g at)) → nat_le (i + length x) (length (content_of at.here)) ≡ t
    → for_found (look s) s (λ k. written_at i x k.at s) ≡ cond t (
      Ok tt,
      record s {
        zone = rename f g at.below
            ++ with_content (written i x (content_of (rename_block f g at.here))) (rename_block f g at.here)
            ∷ rename f g at.above;
      },
    ) (refused PROFILE s)
written-row s f g look h i x at t found test =
    ap (λ r. for_found r s (λ k. written_at i x k.at s)) found
    ∙ ap (λ t. cond t (
      Ok tt,
      record s {
        zone = rename f g at.below
            ++ with_content (written i x (content_of (rename_block f g at.here))) (rename_block f g at.here)
            ∷ rename f g at.above;
      },
    ) (refused PROFILE s)) (ap (λ c. nat_le (i + length x) (length c)) (content_of-rename f g at.here) ∙ test)

-- the answer where they were written
pub written-done : (value : Memory) (zone zone' : List Block) (rest rest' : Rest) (es : List Anchor) (log : Log)
    (look : State → Result Held OsErr) (h i : ℕ) (x : List ℕ) (s : Spot) → memory_of zone rest es log ≡ value
    → look (state_of zone rest.slots es) ≡ Ok (held h (rename_spot (handle_number es) (pointer_number es) s))
    → IsRest rest rest' → i + length x ≤ length (content_of s.here)
    → zone' ≡ s.below ++ with_content (written i x (content_of s.here)) s.here ∷ s.above
    → silent (λ s. for_found (look s) s (λ k. written_at i x k.at s)) value ≡ (Ok tt, memory_of zone' rest' es log)
written-done value zone zone' rest rest' es log look h i x s is found now fits done =
    let state : State = state_of zone rest.slots es in
    silent-kept (λ s. for_found (look s) s (λ k. written_at i x k.at s))
    value zone zone' rest rest' es log (Ok tt) is
    (written-row state f g look h i x s true found test
    ∙ ap (λ z. (Ok tt, record state { zone = z })) (ap (λ b. rename f g s.below ++ b ∷ rename f g s.above)
    (with_content-rename f g _ s.here ∙ ap (λ c. rename_block f g (with_content (written i x c) s.here))
    (content_of-rename f g s.here)) ∙ sym (map-append (rename_block f g) s.below
    (with_content (written i x (content_of s.here)) s.here ∷ s.above)) ∙ ap (rename f g) (sym done))) now
  where
    f : ℕ → ℕ
    f = handle_number es

    g : ℕ → ℕ
    g = pointer_number es

    test : nat_le (i + length x) (length (content_of s.here)) ≡ true
    test = grind (arith, nat_tests)

-- and where they don't fit
pub written-outside : (value : Memory) (zone : List Block) (rest : Rest) (es : List Anchor) (log : Log)
    (look : State → Result Held OsErr) (h i : ℕ) (x : List ℕ) (s : Spot) → memory_of zone rest es log ≡ value
    → look (state_of zone rest.slots es) ≡ Ok (held h (rename_spot (handle_number es) (pointer_number es) s))
    → length (content_of s.here) < i + length x → silent (λ s. for_found (look s) s (λ k. written_at i x k.at s)) value
    ≡ (Err PROFILE, value)
written-outside value zone rest es log look h i x s is found past =
    silent-refused (λ s. for_found (look s) s (λ k. written_at i x k.at s)) value zone rest es log PROFILE is
    (written-row (state_of zone rest.slots es) (handle_number es) (pointer_number es) look h i x s false found test)
  where
    test : nat_le (i + length x) (length (content_of s.here)) ≡ false
    test = grind (arith, nat_tests)

-- the Free bytes of a zone don't see names
pub free_sum-rename : (f g : ℕ → ℕ) (zone : List Block) → free_sum (rename f g zone) ≡ free_sum zone
free_sum-rename f g zone = total-rename f g free_of free_of (free_of-rename f g) zone
