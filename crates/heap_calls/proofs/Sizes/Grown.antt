use Rattle.heap_calls.proofs.Cited.{◌≡◌, ℕ, ◌+◌, ◌<◌, Bool, true, false, ◌||◌, List, [], ◌∷◌, ◌++◌, length, map, Option, Some, Ok, Err, Result}
use Rattle.heap_calls.proofs.Cited.{refl, sym, ◌∙◌, ap, subst, cond, is_some, map-append, phys, OsErr, Block, rename_block, is_relocatable}
use Rattle.heap_calls.proofs.Cited.{is_nonrelocatable, content_of, resized, Rest, KeepsSlots, counted, Spot, spot, rename_spot, Slot, spared}
use Rattle.heap_calls.proofs.Cited.{Sparing, Nothing, One, Two, resized-rename, spot-passes, Move, Write, is_same, rename_move, Sought}
use Rattle.heap_calls.proofs.Cited.{no_room, seek_size, seek_resized, around, rename_sought, PathNames, resized-names, size_at-rename}
use Rattle.heap_calls.proofs.Cited.{Anchor, Log, Reached, State, Memory, Held, look_up, nothing, pointed_at, Done, doing_silently}
use Rattle.heap_calls.proofs.Cited.{purges_made, changed, append, set_handle_size, set_pointer_size, pointer_and_hand, hand_and_hand}
use Rattle.heap_calls.proofs.Cited.{bytes_of, length_of, seek_longer, Went, seek_sized, told_along, Agrees, state_of, memory_of}
use Rattle.heap_calls.proofs.Cited.{handle_number, pointer_number, no_number, Reaches, sized_reply}
use Rattle.moves.proofs.Renamed.{Apart}
use Rattle.heap_calls.specs.declared.anchor.Target.{Target}
use Rattle.heap_calls.specs.Rows.{refused, for_found}
use Rattle.heap_calls.proofs.Going.{sized-at}
use Rattle.heap_calls.proofs.Numbering.Answering.{held, content_of-rename}
use Rattle.heap_calls.proofs.Numbering.Changing.{names-same}
use Rattle.heap_calls.proofs.Numbering.Numbers.{handle_number-at, is_relocatable-number}
use Rattle.heap_calls.proofs.Numbering.Pointing.{Lone, IsHeld, is_nonrelocatable-number}
use Rattle.heap_calls.proofs.Same.Growing.{same-handle, same-pointer}
use Rattle.heap_calls.proofs.Went.{changed-is, changed-gone}

-- A call that gives a block another size: what its path does is what the store did.

-- the same for a copy of the entries
pub reached_in : (zone : List Block) (slots : ℕ → Slot) (es es' : List Anchor) (handle : Option ℕ)
    (r : Result Reached OsErr) → es' ≡ es → Reaches zone slots es' handle r → Reaches zone slots es handle r
reached_in zone slots es es' handle r same found = let P : List Anchor → Type 0 = λ l. Reaches zone slots l handle r in
    subst P same found

-- a handle without a block, and a name that is no pointer's
pub resize-none : (handle : Option ℕ) (n : ℕ) (s : State) (code : OsErr) → look_up handle s ≡ Err code
    → set_handle_size handle n s ≡ refused code s
resize-none handle n s code none = ap (λ r. for_found r s (λ (k : Held). changed (is_relocatable k.number)
    (seek_size n (is_relocatable k.number) s.zone k.at) s)) none

pub pointer-none : (pointer : Option ℕ) (n : ℕ) (s : State) (code : OsErr) → pointed_at pointer s ≡ Err code
    → set_pointer_size pointer n s ≡ refused code s
pointer-none pointer n s code none =
    ap (λ r. for_found r s (λ (k : Held). changed nothing (seek_size n nothing s.zone k.at) s)) none

pub slice-none : (handle : Option ℕ) (x : List ℕ) (s : State) (code : OsErr) → look_up handle s ≡ Err code
    → pointer_and_hand handle x s ≡ refused code s
slice-none handle x s code none = ap (λ r. for_found r s (λ (k : Held). append (is_relocatable k.number) k x s)) none

module _ (from to : Option ℕ) (s : State) (code : OsErr)
  where
    abbrev joined : Held → Held → Done (Unit {0})
    joined x y = append (λ b. is_relocatable x.number b || is_relocatable y.number b) y (content_of x.at.here) s

    pub hand-none : look_up from s ≡ Err code → hand_and_hand from to s ≡ refused code s
    hand-none none = ap (λ r. for_found r s (λ x. for_found (look_up to s) s (joined x))) none

    pub hand-nowhere : (x : Held) → look_up from s ≡ Ok x → look_up to s ≡ Err code
        → hand_and_hand from to s ≡ refused code s
    hand-nowhere x found none = ap (λ r. for_found r s (λ x. for_found (look_up to s) s (joined x))) found
        ∙ ap (λ r. for_found r s (joined x)) none

-- the names of a path, and what is written after it
names-append : (f g : ℕ → ℕ) (a b : List Move) → PathNames f g a → PathNames f g b → PathNames f g (a ++ b)
names-append f g [] b first later = later
names-append f g (m ∷ a) b first later = (first.0, names-append f g a b first.1 later)

pub around-names : (f g : ℕ → ℕ) (before later : List Move) (p : Sought) → PathNames f g before → PathNames f g p.path
    → PathNames f g later → PathNames f g (around before later p).path
around-names f g before later p first named also = cases p.found
  where
    cases : (t : Bool) → PathNames f g (cond t (before ++ p.path ++ later) p.path)
    cases true = names-append f g (before ++ p.path) later (names-append f g before p.path first named) also
    cases false = named

pub around-rename : (f g : ℕ → ℕ) (before later : List Move) (p : Sought)
    → around (map (rename_move f g) before) (map (rename_move f g) later) (rename_sought f g p)
    ≡ rename_sought f g (around before later p)
around-rename f g before later p = ap (λ (l : List Move). let s : Sought = record { found = p.found; path = l } in s)
    (cases p.found)
  where
    cases : (t : Bool) → cond t (map (rename_move f g) before ++ map (rename_move f g) p.path
        ++ map (rename_move f g) later) (map (rename_move f g) p.path)
        ≡ map (rename_move f g) (cond t (before ++ p.path ++ later) p.path)
    cases true = sym (map-append (rename_move f g) (before ++ p.path) later
        ∙ ap (λ l. l ++ map (rename_move f g) later) (map-append (rename_move f g) before p.path))
    cases false = refl

pub fits-names : (f g : ℕ → ℕ) (t : Bool) (p : Sought) → PathNames f g p.path → PathNames f g (cond t p no_room).path
fits-names f g true p named = named
fits-names f g false p named = tt

module _ (zone : List Block) (rest : Rest) (es : List Anchor)
  where
    abbrev s : State
    s = state_of zone rest.slots es

    abbrev f : ℕ → ℕ
    f = handle_number es

    abbrev g : ℕ → ℕ
    g = pointer_number es

    -- a block that gets another size, by names
    module _ (n : ℕ) (t u : Block → Bool) (named : (b : Block) → t (rename_block f g b) ≡ u b) (at : Spot)
        (found : spot u zone ≡ Some at) (here : is_same (resized n at.here) ≡ u)
        (there : is_same (resized n (rename_block f g at.here)) ≡ t)
      where
        apart : Apart f g (resized n at.here)
        apart b = ap (λ (v : Block → Bool). v (rename_block f g b)) (ap is_same (sym (resized-rename f g n at.here)) ∙ there)
            ∙ named b ∙ sym (ap (λ (v : Block → Bool). v b) here)

        sized-names : (q : Block → Bool) → PathNames f g (seek_sized u n q zone).path
        sized-names q = subst (λ (p : Sought). PathNames f g p.path) (sym (sized-at u n q zone at found))
            (fits-names f g (is_some (phys n)) (seek_resized (resized n at.here) q zone at)
            (resized-names f g (resized n at.here) q zone at apart))

        sized-row : (p q : Block → Bool) → ((b : Block) → p (rename_block f g b) ≡ q b)
            → seek_size n p s.zone (rename_spot f g at) ≡ rename_sought f g (seek_sized u n q zone)
        sized-row p q spares = size_at-rename f g p q spares n zone at apart
            ∙ ap (rename_sought f g) (sym (sized-at u n q zone at found))

    -- a call whose row has a path of the store, by names
    pub record IsCall (call : State → Done (Unit {0})) (p : Block → Bool) (nd : Sparing) (path : Sought) : Type 0 where
      pub spares : (b : Block) → p (rename_block f g b) ≡ spared nd b
      pub names : PathNames f g path.path
      pub row : call s ≡ changed p (rename_sought f g path) s

    -- what is answered where the store went its path, and what is purged
    module _ (log : Log) (value : Memory) (is : memory_of zone rest es log ≡ value) (call : State → Done (Unit {0}))
        (p : Block → Bool) (nd : Sparing) (path : Sought) (c : IsCall call p nd path)
      where
        pub grown-answer : (zone' : List Block) (rest' : Rest) (done : Bool) (m : ℕ) → KeepsSlots rest rest'
            → Went (spared nd) zone path done m zone' rest rest' → doing_silently call value
            ≡ (sized_reply done, memory_of zone' rest' es (record log { searches = counted log.searches m }))
        grown-answer zone' rest' done m kept went =
            changed-is zone rest es log value is zone' rest' call p (spared nd) c.spares path c.names c.row done m went
            (names-same rest.slots rest'.slots es (λ h k t at. kept.slots k), kept.window)

        pub grown-gone : told_along es (spared nd) path zone ≡ purges_made call value.heap
        grown-gone = changed-gone zone rest es log value is zone rest call p (spared nd) c.spares path c.names c.row

    -- SetPtrSize
    module _ (pointer : Option ℕ) (t : Target) (there : IsHeld zone rest.slots es pointer t) (lone : Lone es) (n : ℕ)
      where
        named_place : t.number < no_number → (b : Block)
            → is_nonrelocatable t.number (rename_block f g b) ≡ is_nonrelocatable t.place b
        named_place small = is_nonrelocatable-number es t.number t.place there.entry lone small

        place_same : is_same (resized n there.s.here) ≡ is_nonrelocatable t.place
        place_same = same-pointer t.place n there.s.here there.nonrelocatable

        pub pointer-call : t.number < no_number
            → IsCall (set_pointer_size pointer n) nothing Nothing (seek_sized (is_nonrelocatable t.place) n nothing zone)
        pointer-call small =
            let other = same-pointer t.number n (rename_block f g there.s.here)
            (named_place small there.s.here ∙ there.nonrelocatable) in record {
              spares = λ b. refl;
              names = sized-names n (is_nonrelocatable t.number) (is_nonrelocatable t.place) (named_place small) there.s
                  there.found place_same other nothing;
              row = ap (λ r. for_found r s (λ (k : Held). changed nothing (seek_size n nothing s.zone k.at) s)) there.looked
                  ∙ ap (λ x. changed nothing x s) (sized-row n (is_nonrelocatable t.number) (is_nonrelocatable t.place)
                  (named_place small) there.s there.found place_same other nothing nothing (λ b. refl));
            }

    module _ (agrees : Agrees zone rest es)
      where
        module _ (handle : Option ℕ) (r : Reached) (there : Reaches zone rest.slots es handle (Ok r))
          where
            abbrev own : Block → Bool
            own = is_relocatable r.number

            abbrev at : Spot
            at = there.0

            named : (b : Block) → own (rename_block f g b) ≡ is_relocatable r.slot b
            named = is_relocatable-number es r.number r.slot there.5 agrees.apart there.6

            slot_same : (n : ℕ) → is_same (resized n at.here) ≡ is_relocatable r.slot
            slot_same n = same-handle r.slot n at.here (spot-passes (is_relocatable r.slot) zone at there.2)

            own_same : (n : ℕ) → is_same (resized n (rename_block f g at.here)) ≡ own
            own_same n = same-handle r.number n (rename_block f g at.here)
                (named at.here ∙ spot-passes (is_relocatable r.slot) zone at there.2)

            -- SetHandleSize
            pub resize-call : (n : ℕ) → IsCall (set_handle_size handle n) own (One r.slot)
                (seek_sized (is_relocatable r.slot) n (is_relocatable r.slot) zone)
            resize-call n = record {
              spares = named;
              names = sized-names n own (is_relocatable r.slot) named at there.2 (slot_same n) (own_same n) (is_relocatable r.slot);
              row = ap (λ q. for_found q s (λ (k : Held). changed (is_relocatable k.number)
                  (seek_size n (is_relocatable k.number) s.zone k.at) s)) there.1
                  ∙ ap (λ x. changed own x s) (sized-row n own (is_relocatable r.slot) named at there.2 (slot_same n) (own_same n)
                  own (is_relocatable r.slot) named);
            }

            -- bytes appended
            abbrev len : ℕ
            len = length_of r.slot zone

            append-call : (call : State → Done (Unit {0})) (p : Block → Bool) (nd : Sparing)
                → ((b : Block) → p (rename_block f g b) ≡ spared nd b) → (x y : List ℕ) → x ≡ y
                → call s ≡ append p (held r.number (rename_spot f g at)) x s → IsCall call p nd (seek_longer r.slot y (spared nd) zone)
            append-call call p nd spares x y same_bytes row =
                let n = len + length y in
                let q = spared nd in
                let sized = seek_sized (is_relocatable r.slot) n q zone in record {
                  spares = spares;
                  names = around-names f g [] (Write r.slot len y ∷ []) sized tt
                      (sized-names n own (is_relocatable r.slot) named at there.2 (slot_same n) (own_same n) q) (
                        λ b. ap (λ (k : ℕ). is_relocatable k (rename_block f g b))
                            (handle_number-at es r.number r.slot there.5 agrees.apart) ∙ named b,
                        tt,
                      );
                  row = row
                      ∙ ap (λ (l : List ℕ). append p (held r.number (rename_spot f g at)) l s) same_bytes
                      ∙ ap (λ (k : ℕ). changed p (around [] (Write r.number k y ∷ [])
                      (seek_size (k + length y) p s.zone (rename_spot f g at))) s)
                      (ap length (content_of-rename f g at.here) ∙ ap (λ o. length (bytes_of o)) (sym there.2))
                      ∙ ap (λ z. changed p (around [] (Write r.number len y ∷ []) z) s)
                      (sized-row n own (is_relocatable r.slot) named at there.2 (slot_same n) (own_same n) p q spares)
                      ∙ ap (λ (k : ℕ). changed p (around [] (Write k len y ∷ []) (rename_sought f g sized)) s)
                      (sym (handle_number-at es r.number r.slot there.5 agrees.apart))
                      ∙ ap (λ z. changed p z s) (around-rename f g [] (Write r.slot len y ∷ []) sized);
                }

            -- PtrAndHand
            pub slice-call : (x : List ℕ) → IsCall (pointer_and_hand handle x) own (One r.slot)
                (seek_longer r.slot x (is_relocatable r.slot) zone)
            slice-call x = append-call (pointer_and_hand handle x) own (One r.slot) named x x refl
                (ap (λ q. for_found q s (λ (k : Held). append (is_relocatable k.number) k x s)) there.1)

        -- HandAndHand
        pub hand-call : (from to : Option ℕ) (a r : Reached) (source : Reaches zone rest.slots es from (Ok a))
            (there : Reaches zone rest.slots es to (Ok r)) → IsCall (hand_and_hand from to)
            (λ b. is_relocatable a.number b || is_relocatable r.number b) (Two a.slot r.slot)
            (seek_longer r.slot (bytes_of (spot (is_relocatable a.slot) zone)) (spared (Two a.slot r.slot)) zone)
        hand-call from to a r source there =
            append-call to r there (hand_and_hand from to) (λ b. is_relocatable a.number b || is_relocatable r.number b)
            (Two a.slot r.slot) (λ b. rw (named from a source b, named to r there b) refl)
            (content_of (rename_block f g source.0.here)) (bytes_of (spot (is_relocatable a.slot) zone))
            (content_of-rename f g source.0.here ∙ ap bytes_of (sym source.2))
            (ap (λ q. for_found q s (λ (x : Held). for_found (look_up to s) s (λ (y : Held). append
            (λ b. is_relocatable x.number b || is_relocatable y.number b) y (content_of x.at.here) s))) source.1
            ∙ ap (λ q. for_found q s (λ (y : Held). append (λ b. is_relocatable a.number b || is_relocatable y.number b) y
            (content_of (rename_block f g source.0.here)) s)) there.1)
