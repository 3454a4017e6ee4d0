use Rattle.heap_calls.proofs.Cited.{is_used, ◌≡◌, ℕ, ◌+◌, ◌-◌, Bool, true, false, ◌||◌, List, [], ◌∷◌, ◌++◌, length, refl, sym, ◌∙◌, ap}
use Rattle.heap_calls.proofs.Cited.{cond, map, arith, Option, Some, None, slice_get, count_by, inl, inr, is_some, map_push}
use Rattle.heap_calls.proofs.Cited.{length-map, length-replicate, sum_by_push, same_Some, false_from_ne_true, IfSome, IsSomeAnd}
use Rattle.heap_calls.proofs.Cited.{IsTrue, phys, padded, Block, Free, size, rename, is_nonrelocatable, is_room, tidy, has, Placed, Rest}
use Rattle.heap_calls.proofs.Cited.{KeepsSlots, Spot, spot_at, filled, put_at_base, apart-tidied, spot-passes, some_and, cond-true}
use Rattle.heap_calls.proofs.Cited.{Refuses, fits-refused, seek-refused}
use Rattle.heap_calls.proofs.Cited.{not_nonrelocatable-room, State, Memory, uses_slot, nothing, fresh_nonrelocatable, seek_pointer, Stands}
use Rattle.heap_calls.proofs.Cited.{IsNewPlace, is_some-map, unwrap_or, run_spot, has_free, counted, Base, Did, did, Sought, no_room, seek}
use Rattle.heap_calls.proofs.Cited.{if_fits, rename_sought, along-if, along-seek, Names, PathNames, seek-rename, did-rename, Log, Went}
use Rattle.heap_calls.proofs.Cited.{told_along, told_blocks, doing_silently, purges_made, reply_of, new_pointer, memory_of}
use Rattle.heap_calls.proofs.Cited.{KeepsAllButPlaced, Anchor, state_of, name_of, handle_number, pointer_number, leads_to, points_to}
use Rattle.heap_calls.proofs.Cited.{KeepsNonrelocatable, Agrees}
use Rattle.heap_calls.specs.State as names
use Rattle.heap_calls.specs.Rows.{given}
use Rattle.heap_calls.proofs.Numbering.Changing.{slots_kept}
use Rattle.heap_calls.proofs.NewBlocks.NewSlots.{at_base, put_at_base-is}
use Rattle.heap_calls.proofs.Went.{given-is, path-names, seek-any, gone-alike, fits-rename}
use Rattle.heap_calls.specs.declared.anchor.Anchor.TheVariants.{Handle, Pointer}
use Rattle.heap_calls.proofs.Numbering.Numbers.{flipped, leads_to-same}
use Rattle.heap_calls.proofs.Numbering.Changing.{number_from-push, number_from-new, slice_get-push, names-same}
use Rattle.heap_calls.proofs.Numbering.Changing.{spot_at-is}
use Rattle.heap_calls.proofs.Room.Staying.{nonrelocatable-tidy}
use Rattle.heap_calls.proofs.Numbering.Pointing.{nonrelocatable-there, points_to-is, rename_pointer-unless, rename_slots-same}

-- New pointers.

-- a place where a Free block stands names no nonrelocatable block
pub free-place : (place n : ℕ) (zone : List Block) (s : Spot) → Placed 0 zone → tidy zone ≡ zone
    → spot_at place zone ≡ Some s → is_room n s.here ≡ true → has (is_nonrelocatable place) zone ≡ false
free-place place n zone s placed tidied at wide = false_from_ne_true (has (is_nonrelocatable place) zone) (λ e.
    let there = nonrelocatable-there place 0 zone placed (apart-tidied zone tidied) e in
    let same : place - 0 ≡ place = omega arith in
    let here : there.s ≡ s = same_Some _ _ (sym there.at ∙ ap (λ k. spot_at k zone) same ∙ at) in
    let passes : is_nonrelocatable place s.here ≡ true = ap (λ (s : Spot). is_nonrelocatable place s.here) (sym here)
    ∙ spot-passes (is_nonrelocatable place) zone there.s there.found in
    let f : true ≡ false = sym passes ∙ not_nonrelocatable-room place n s.here wide in cc)

-- the nonrelocatable blocks where one more fills a Free one
nonrelocatable-more : (below above : List Block) (b c d : Block) (p : ℕ) → is_nonrelocatable p b ≡ false → is_nonrelocatable p d ≡ false
    → has (is_nonrelocatable p) (below ++ c ∷ d ∷ above) ≡ (is_nonrelocatable p c || has (is_nonrelocatable p) (below ++ b ∷ above))
nonrelocatable-more [] above b c d p e e' = rw (e, e') refl
nonrelocatable-more (x ∷ below) above b c d p e e' = ap (λ t. is_nonrelocatable p x || t) (nonrelocatable-more below above b c d p e e')
    ∙ swap (is_nonrelocatable p x) (is_nonrelocatable p c) (has (is_nonrelocatable p) (below ++ b ∷ above))
  where
    swap : (t u v : Bool) → (t || (u || v)) ≡ (u || (t || v))
    swap true true v = refl
    swap true false v = refl
    swap false true v = refl
    swap false false v = refl

put-more : (place n : ℕ) (zone after : List Block) (new : Block)
    → IsSomeAnd (spot_at place zone) (λ s. IsTrue (is_room n s.here))
    → IfSome (spot_at place zone) (λ s. after ≡ filled new s) → (p : ℕ)
    → has (is_nonrelocatable p) after ≡ (is_nonrelocatable p new || has (is_nonrelocatable p) zone)
put-more place n zone after new wide done p = cases (spot_at place zone) refl wide done
  where
    cases : (o : Option Spot) → spot_at place zone ≡ o → IsSomeAnd o (λ s. IsTrue (is_room n s.here))
        → IfSome o (λ s. after ≡ filled new s)
        → has (is_nonrelocatable p) after ≡ (is_nonrelocatable p new || has (is_nonrelocatable p) zone)
    cases None at wide done = absurd wide
    cases (Some s) at wide done =
        ap (has (is_nonrelocatable p)) done
        ∙ nonrelocatable-tidy (s.below ++ new ∷ Free (size s.here - size new) ∷ s.above) p
        ∙ nonrelocatable-more s.below s.above s.here new (Free (size s.here - size new)) p (not_nonrelocatable-room p n s.here wide) refl
        ∙ ap (λ z. is_nonrelocatable p new || has (is_nonrelocatable p) z) (sym (spot_at-is place zone s at))

pub fresh-size : (n bytes : ℕ) → bytes ≡ padded n → (name : ℕ) → size (fresh_nonrelocatable name n) ≡ bytes
fresh-size n bytes fits name = ap padded (length-replicate n 0) ∙ sym fits

-- a block that was carved there stands where none stood
pub stands-new : (n bytes place : ℕ) (zone zone' after : List Block)
    → IsSomeAnd (spot_at place zone') (λ s. IsTrue (is_room bytes s.here))
    → Placed 0 zone' → tidy zone' ≡ zone' → KeepsNonrelocatable zone zone'
    → IfSome (spot_at place zone') (λ s. after ≡ filled (fresh_nonrelocatable place n) s) → Stands place zone after
stands-new n bytes place zone zone' after wide placed tidied keeps h =
    let b = some_and (spot_at place zone') (λ s. IsTrue (is_room bytes s.here)) wide in
    let more = put-more place bytes zone' after (fresh_nonrelocatable place n) wide h in
    record {
      none = sym (keeps place) ∙ free-place place bytes zone' b.0 placed tidied b.1 b.2;
      there = more place ∙ ap (λ t. t || has (is_nonrelocatable place) zone') (leads_to-same place);
      others = λ p e. more p ∙ (let same : has (is_nonrelocatable p) zone' ≡ true = keeps p ∙ e in
          rw same (either (is_nonrelocatable p (fresh_nonrelocatable place n))));
    }
  where
    either : (t : Bool) → (t || true) ≡ true
    either true = refl
    either false = refl

-- the search for a block that has a size
pub pointer-fits : (name n : ℕ) (zone : List Block) → is_some (phys n) ≡ true
    → seek_pointer name n zone ≡ seek (Base (fresh_nonrelocatable name n)) nothing zone
pointer-fits name n zone fits = cond-true (is_some (phys n)) _ _ fits

pub pointer-refused : (name n : ℕ) (zone : List Block) → Refuses nothing (seek_pointer name n zone)
pointer-refused name n zone =
    let new = Base (fresh_nonrelocatable name n) in
    fits-refused nothing n (seek new nothing zone) (seek-refused nothing new zone)

-- the names of a heap with a pointer more
module _ (zone zone' : List Block) (rest rest' : Rest) (es : List Anchor) (place : ℕ) (agrees : Agrees zone rest es)
    (now : KeepsSlots rest rest') (put : Stands place zone zone')
  where
    -- the entries with the new one
    abbrev pub with_pointer : List Anchor
    with_pointer = es ++ Pointer place ∷ []

    -- no pointer had that place
    apart-from : (h p : ℕ) → slice_get es h ≡ Some (Pointer p) → p ≡ place → ⊥
    apart-from h p at same = let there : has (is_nonrelocatable place) zone ≡ true = ap (λ k. has (is_nonrelocatable k) zone) (sym same)
        ∙ agrees.pointed h p at in let f : true ≡ false = sym there ∙ put.none in cc

    pub place-now : pointer_number with_pointer place ≡ length es
    place-now =
        number_from-new 0 (points_to place) es (Pointer place) (leads_to-same place)
        (λ k x at. false_from_ne_true (points_to place x) (λ e. absurd
        (apart-from k place (at ∙ ap Some (points_to-is place x e)) refl)))
        ∙ omega arith

    -- the zone as it was has the names that it had
    pub pointers-kept : rename (handle_number with_pointer) (pointer_number with_pointer) zone
        ≡ rename (handle_number es) (pointer_number es) zone
    pointers-kept =
        rename_slots-same (handle_number es) (handle_number with_pointer) (pointer_number with_pointer)
        (λ k. number_from-push 0 (leads_to k) es (Pointer place) refl) zone
        ∙ rename_pointer-unless (handle_number es) (pointer_number es) (pointer_number with_pointer) place
        (λ k e. number_from-push 0 (points_to k) es (Pointer place) (flipped place k e)) zone put.none

    pub names-more : map (name_of rest'.slots) with_pointer ≡ map (name_of rest.slots) es ++ names.Pointer ∷ []
    names-more = map_push (name_of rest'.slots) es (Pointer place)
        ∙ ap (λ l. l ++ names.Pointer ∷ []) (names-same rest.slots rest'.slots es (λ h s g at. now.slots s))

    pub agrees-more : Agrees zone' rest' with_pointer
    agrees-more = record {
      used = λ h s g at. ap is_used (now.slots s) ∙ agrees.used h s g (old h s g at);
      apart = λ h k s g o at at'. agrees.apart h k s g o (old h s g at) (old k s o at');
      pointed = λ h p at. elim (slice_get-push es (Pointer place) h (Pointer p) at) [
        | inl found ↦ put.others p (agrees.pointed h p found)
        | inr new ↦ ap (λ k. has (is_nonrelocatable k) zone')
            (place-same p place new.1) ∙ put.there
      ];
      lone = λ h k p at at'. elim (slice_get-push es (Pointer place) h (Pointer p) at) [
        | inl found ↦ elim (slice_get-push es (Pointer place) k (Pointer p) at') [
          | inl found' ↦ agrees.lone h k p found found'
          | inr new' ↦ absurd
              (apart-from h p found (place-same p place new'.1))
        ]
        | inr new ↦ elim (slice_get-push es (Pointer place) k (Pointer p) at')
            [ inl found' ↦ absurd (apart-from k p found' (place-same p place new.1)) | inr new' ↦ new.0 ∙ sym new'.0 ]
      ];
      counted =
          let a = agrees.counted in
          let e : count_by uses_slot (map (name_of rest'.slots) with_pointer)
          ≡ count_by uses_slot (map (name_of rest.slots) es ++ names.Pointer ∷ []) =
          ap (count_by uses_slot) names-more in
          let c : count_by uses_slot (map (name_of rest.slots) es ++ names.Pointer ∷ [])
          ≡ count_by uses_slot (map (name_of rest.slots) es) + 0 =
          sum_by_push (λ x. cond (uses_slot x) 1 0) (map (name_of rest.slots) es) names.Pointer in
          omega (arith, now.unused, now.all);
      masters = let a = agrees.masters in omega (arith, now.all);
    }
      where
        place-same : (s t : ℕ) → Pointer s ≡ Pointer t → s ≡ t
        place-same s t e = cc

        not_pointer : (s p : ℕ) (g : Bool) → Handle s g ≡ Pointer p → ⊥
        not_pointer s p g e = cc

        old : (h s : ℕ) (g : Bool) → slice_get with_pointer h ≡ Some (Handle s g) → slice_get es h ≡ Some (Handle s g)
        old h s g at = elim (slice_get-push es (Pointer place) h (Handle s g) at)
            [ inl found ↦ found | inr new ↦ absurd (not_pointer s place g new.1) ]

-- the entries with the new pointer, if one was had
abbrev pub pointed : Option ℕ → List Anchor → List Anchor
pointed None es = es
pointed (Some place) es = es ++ Pointer place ∷ []

-- What NewPtr answers and purges.
module _ (zone : List Block) (rest : Rest) (es : List Anchor) (log : Log) (value : Memory)
    (is : memory_of zone rest es log ≡ value) (n : ℕ)
  where
    abbrev s : State
    s = state_of zone rest.slots es

    abbrev new : ℕ → Block
    new k = fresh_nonrelocatable k n

    named : (f g : ℕ → ℕ) (k : ℕ) → seek_pointer (g k) n (rename f g zone) ≡ rename_sought f g (seek_pointer k n zone)
    named f g k = ap (if_fits n) (seek-rename f g nothing nothing (λ b. refl) (Base (new k)) tt zone)
        ∙ fits-rename f g (is_some (phys n)) (seek (Base (new k)) nothing zone)

    path-named : (f g : ℕ → ℕ) (k : ℕ) → PathNames f g (seek_pointer k n zone).path
    path-named f g k = path-names f g nothing (seek_pointer k n zone).path zone
        (along-if (λ m z. Names f g m) nothing (is_some (phys n)) (seek (Base (new k)) nothing zone) zone
        (along-seek (λ m z. Names f g m) nothing (λ n z. tt) (λ k z. tt) (Base (new k)) (λ z. tt) zone))

    -- a block has room, whatever its name
    sees : (a b : ℕ) (z : List Block) → is_some (put_at_base (new b) z) ≡ is_some (put_at_base (new a) z)
    sees a b z = ap is_some (put_at_base-is (new b) z) ∙ is_some-map (at_base (new b)) (run_spot (has_free (size (new b))) z)
        ∙ sym (ap is_some (put_at_base-is (new a) z)
        ∙ is_some-map (at_base (new a)) (run_spot (has_free (size (new a))) z))

    any : (a b : ℕ) (z : List Block) → (seek_pointer a n z).found ≡ false → seek_pointer a n z ≡ seek_pointer b n z
    any a b z = cases (is_some (phys n))
      where
        cases : (t : Bool) → (cond t (seek (Base (new a)) nothing z) no_room).found ≡ false
            → cond t (seek (Base (new a)) nothing z) no_room ≡ cond t (seek (Base (new b)) nothing z) no_room
        cases true none = seek-any nothing (Base (new a)) (Base (new b)) (sees a b) z none
        cases false none = refl

    any-gone : (a b : ℕ) (z : List Block)
        → (did nothing (seek_pointer a n z).path z).gone ≡ (did nothing (seek_pointer b n z).path z).gone
    any-gone a b z = cases (is_some (phys n))
      where
        cases : (t : Bool) → (did nothing (cond t (seek (Base (new a)) nothing z) no_room).path z).gone
            ≡ (did nothing (cond t (seek (Base (new b)) nothing z) no_room).path z).gone
        cases true = gone-alike nothing (Base (new a)) (Base (new b)) (λ z. refl) (λ z. refl) (sees a b) z
        cases false = refl

    module _ (zone' : List Block) (rest' : Rest) (m : ℕ) (kept : KeepsAllButPlaced rest rest')
      where
        abbrev after_it : Option ℕ → Memory
        after_it o = memory_of zone' rest' (pointed o es) (record log { searches = counted log.searches m })

        pub pointer-answer : Agrees zone rest es → (o : Option ℕ) → IsNewPlace o zone zone'
            → Went nothing zone (seek_pointer (unwrap_or o 0) n zone) (is_some o) m zone' rest rest'
            → doing_silently (new_pointer n) value ≡ (reply_of (is_some o) (length es), after_it o)
        pointer-answer agrees None put did =
            let f = handle_number es in
            let g = pointer_number es in
            given-is zone rest es log value is zone' rest' (new_pointer n) names.Pointer nothing nothing es (λ b. refl)
            (seek_pointer 0 n zone) (path-named f g 0) refl
            (ap (λ r. given names.Pointer nothing r s) (sym (any (g 0) (length s.names) s.zone
            (ap (λ (r : Sought). r.found) (named f g 0) ∙ sym did.finds)) ∙ named f g 0)) false m did
            (names-same rest.slots rest'.slots es (λ h s g at. kept.slots s)) kept.window
        pointer-answer agrees (Some place) put did =
            let now = slots_kept rest rest' kept in
            let es' = es ++ Pointer place ∷ [] in
            let f = handle_number es' in
            let g = pointer_number es' in
            let same = pointers-kept zone zone' rest rest' es place agrees now put in
            given-is zone rest es log value is zone' rest' (new_pointer n) names.Pointer nothing nothing es' (λ b. refl)
            (seek_pointer place n zone) (path-named f g place) same
            (ap (λ r. given names.Pointer nothing r s) (ap (λ k. seek_pointer k n s.zone) (length-map es (name_of rest.slots)
            ∙ sym (place-now zone zone' rest rest' es place agrees now put)) ∙ ap (seek_pointer (g place) n) (sym same)
            ∙ named f g place)) true m did (names-more zone zone' rest rest' es place agrees now put) kept.window

    pub pointer-gone : told_along es nothing (seek_pointer 0 n zone) zone ≡ purges_made (new_pointer n) value.heap
    pointer-gone =
        let f = handle_number es in
        let g = pointer_number es in
        ap (λ (k : ℕ). told_blocks k (rename f g (did nothing (seek_pointer 0 n zone).path zone).gone))
        (sym (length-map es (name_of rest.slots)))
        ∙ sym (ap (told_blocks (length s.names)) (any-gone (length s.names) (g 0) s.zone
        ∙ ap (λ (r : Sought). (did nothing r.path s.zone).gone) (named f g 0)
        ∙ ap (λ (d : Did). d.gone) (did-rename f g nothing nothing (λ b. refl) (seek_pointer 0 n zone).path
        (path-named f g 0) zone)))
        ∙ ap (λ (m : Memory). purges_made (new_pointer n) m.heap) is
