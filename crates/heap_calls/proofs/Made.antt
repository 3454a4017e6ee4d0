use Rattle.heap_calls.proofs.Cited.{◌≡◌, ℕ, ◌*◌, Bool, true, false, List, [], ◌∷◌, ◌++◌, length, map, replicate, Option, Some, None, refl}
use Rattle.heap_calls.proofs.Cited.{sym, ◌∙◌, ap, cond, is_some, unwrap_or, false_from_ne_true, length-map, length-replicate, phys, padded}
use Rattle.heap_calls.proofs.Cited.{Flags, Block, Relocatable, size, count, is_masters, is_relocatable, rename, rename_block, no_flags, has}
use Rattle.heap_calls.proofs.Cited.{is_used, Rest, counted, Nothing, Put, Did, did, did-rename, size-rename, told_blocks, Sought, no_room}
use Rattle.heap_calls.proofs.Cited.{seek, seek_slot, then_seek, rename_sought, along-if, along-then, along-seek, Names, PathNames}
use Rattle.heap_calls.proofs.Cited.{seek-rename, slot-rename, then-rename, State, Memory, Plain, Handle, nothing, Done, doing_silently}
use Rattle.heap_calls.proofs.Cited.{purges_made, purged_by, slot_gone, Role, new_filled, Went, told_along, reply_of, is_unused, new_handle}
use Rattle.heap_calls.proofs.Cited.{new_empty_handle, new_inside, Anchor, Log, HasSlot, IsTaken, entered, number_of, fresh_block, TakesSlot}
use Rattle.heap_calls.proofs.Cited.{some_left, seek_unused, seek_new, state_of, memory_of, name_of, handle_number, pointer_number, Agrees}
use Rattle.heap_calls.proofs.Cited.{KeepsNonrelocatable, zone_slot_gone}
use Rattle.heap_calls.specs.Rows.{given, made}
use Rattle.heap_calls.proofs.GoneBlocks.{slot_gone-is}
use Rattle.heap_calls.proofs.NewBlocks.NewHandles.{names-more, agrees-more, unused-is}
use Rattle.heap_calls.proofs.NewBlocks.NewSlots.{taken-slot}
use Rattle.heap_calls.proofs.NewBlocks.Seeking.{seek_made, made-alike, fits-any}
use Rattle.heap_calls.proofs.Numbering.Changing.{number-now, zone-kept, names-now, agrees-now}
use Rattle.heap_calls.proofs.Went.{given-is, path-names, slot-along, slot-names, fits-rename}

-- A call that makes a handle: what its path does is what the store did.

-- the path of a row, by names
module _ (f g : ℕ → ℕ) (p q : Block → Bool) (spares : (b : Block) → p (rename_block f g b) ≡ q b) (unused : Bool)
  where
    pub new-names : (new : Block) (fits : Bool) (zone : List Block) → PathNames f g (seek_made q unused new fits zone).path
    new-names new fits zone =
        path-names f g q (seek_made q unused new fits zone).path zone
        (along-then (λ m z. Names f g m) q (seek_slot unused q zone) (λ z. cond fits (seek (Put new) q z) no_room) zone
        (slot-along f g q unused zone) (λ z. along-if (λ m z. Names f g m) q fits (seek (Put new) q z) z
        (along-seek (λ m z. Names f g m) q (λ n z. tt) (λ k z. tt) (Put new) (λ z. tt) z)))

    pub new-rename : (new : Block) (fits : Bool) (zone : List Block)
        → seek_made p unused (rename_block f g new) fits (rename f g zone) ≡ rename_sought f g (seek_made q unused new fits zone)
    new-rename new fits zone =
        ap (λ r. then_seek p (rename f g zone) r (λ z. cond fits (seek (Put (rename_block f g new)) p z) no_room))
        (slot-rename f g p q spares unused zone)
        ∙ then-rename f g p q spares (seek_slot unused q zone) (slot-names f g q unused zone)
        (λ z. cond fits (seek (Put (rename_block f g new)) p z) no_room) (λ z. cond fits (seek (Put new) q z) no_room)
        (λ z. ap (λ r. cond fits r no_room) (seek-rename f g p q spares (Put new) tt z) ∙ fits-rename f g fits
        (seek (Put new) q z)) zone

-- a block that finds no room has any name
module _ (p : Block → Bool) (a b : Block) (same : size a ≡ size b)
  where
    pub new-any : (unused fits : Bool) (zone : List Block) → (seek_made p unused a fits zone).found ≡ false
        → seek_made p unused a fits zone ≡ seek_made p unused b fits zone
    new-any unused fits zone = cases slot.found
      where
        slot : Sought
        slot = seek_slot unused p zone

        ready : List Block
        ready = (did p slot.path zone).zone

        both : Sought → Sought
        both n = record { found = n.found; path = slot.path ++ n.path }

        cases : (t : Bool) → (cond t (both (cond fits (seek (Put a) p ready) no_room)) slot).found ≡ false
            → cond t (both (cond fits (seek (Put a) p ready) no_room)) slot
            ≡ cond t (both (cond fits (seek (Put b) p ready) no_room)) slot
        cases true none = ap both (fits-any p a b same fits ready none)
        cases false none = refl

-- the entries after the call
module _ (zone : List Block) (rest : Rest) (es : List Anchor) (masters : rest.all ≡ 64 * count is_masters zone)
    (agrees : Agrees zone rest es)
  where
    abbrev s : State
    s = state_of zone rest.slots es

    module _ (fresh : (k : ℕ) → is_used (rest.slots k) ≡ false → has (is_relocatable k) zone ≡ false) (rest' : Rest)
      where
        none-there : (slot : ℕ) → IsTaken slot rest rest' → has (is_relocatable slot) zone ≡ false
        none-there slot t = fresh slot (false_from_ne_true (is_used (rest.slots slot)) (λ e.
            let never : false ≡ true = sym (ap is_used t.was) ∙ ap is_used (t.has_more.slots slot e) ∙ e in cc))

        kept : (slot : Option ℕ) → HasSlot slot rest rest'
            → rename (handle_number (entered slot es)) (pointer_number (entered slot es)) zone ≡ s.zone
        kept None more = refl
        kept (Some slot) t = zone-kept zone t.more rest' es slot
            (agrees-more zone rest t.more es agrees (λ k. refl) t.has_more) t.was t.slots.slots t.one t.slots.all
            (none-there slot t)

        named : (slot : Option ℕ) → HasSlot slot rest rest' → map (name_of rest'.slots) (entered slot es)
            ≡ cond (is_some slot) (s.names ++ Handle Plain ∷ []) s.names
        named None more = names-more rest rest' es agrees more
        named (Some slot) t = names-now zone t.more rest' es slot
            (agrees-more zone rest t.more es agrees (λ k. refl) t.has_more) t.was t.slots.slots t.one t.slots.all
            (none-there slot t) ∙ ap (λ l. l ++ Handle Plain ∷ []) (names-more rest t.more es agrees t.has_more)

        lies : (slot : Option ℕ) → HasSlot slot rest rest' → rest'.window ≡ rest.window
        lies None more = more.window
        lies (Some slot) t = t.slots.window ∙ t.has_more.window

        pub made-agrees : (zone' : List Block) → KeepsNonrelocatable zone zone' → (slot : Option ℕ)
            → HasSlot slot rest rest' → Agrees zone' rest' (entered slot es)
        made-agrees zone' stays None more = agrees-more zone' rest rest' es agrees stays more
        made-agrees zone' stays (Some slot) t = agrees-now zone t.more rest' es slot
            (agrees-more zone rest t.more es agrees (λ k. refl) t.has_more) t.was t.slots.slots t.one t.slots.all
            (none-there slot t) zone' stays

        module _ (log : Log) (value : Memory) (is : memory_of zone rest es log ≡ value) (zone' : List Block)
            (p q : Block → Bool) (call : State → Done ℕ) (m : ℕ) (slot : Option ℕ) (slotted : HasSlot slot rest rest')
            (spares : (b : Block) → p (rename_block (handle_number (entered slot es)) (pointer_number (entered slot es)) b)
            ≡ q b)
          where
            abbrev f : ℕ → ℕ
            f = handle_number (entered slot es)

            abbrev g : ℕ → ℕ
            g = pointer_number (entered slot es)

            abbrev Answers : Type 0
            Answers = doing_silently call value ≡ (
              number_of slot es,
              memory_of zone' rest' (entered slot es) (record log { searches = counted log.searches m }),
            )

            answers : (st : Sought) → PathNames f g st.path → call s ≡ given (Handle Plain) p (rename_sought f g st) s
                → Went q zone st (is_some slot) m zone' rest rest' → Answers
            answers st names row did = given-is zone rest es log value is zone' rest' call (Handle Plain) p q
                (entered slot es) spares st names (kept slot slotted) row (is_some slot) m did (named slot slotted)
                (lies slot slotted) ∙ ap (λ r. (
                  r,
                  memory_of zone' rest' (entered slot es)
                      (record log { searches = counted log.searches m }),
                )) (reply slot)
              where
                reply : (slot : Option ℕ) → reply_of (is_some slot) (length es) ≡ number_of slot es
                reply None = refl
                reply (Some slot) = refl

            -- NewEmptyHandle
            pub empty-is : call s ≡ given (Handle Plain) p (seek_slot (is_unused s) p s.zone) s
                → Went q zone (seek_slot (some_left rest.unused) q zone) (is_some slot) m zone' rest rest' → Answers
            empty-is row did = answers (seek_slot (some_left rest.unused) q zone)
                (slot-names f g q (some_left rest.unused) zone)
                (row ∙ ap (λ r. given (Handle Plain) p r s) (ap (λ u. seek_slot u p s.zone) (unused-is zone rest es masters agrees)
                ∙ ap (seek_slot (some_left rest.unused) p) (sym (kept slot slotted))
                ∙ slot-rename f g p q spares (some_left rest.unused) zone)) did

            -- a new handle with a block of these flags and bytes
            module _ (flags : Flags) (x : List ℕ) (fits : Bool)
              where
                abbrev next_new : ℕ → Block
                next_new k = Relocatable k flags x

                abbrev stored : Sought
                stored = seek_made q (some_left rest.unused) (next_new (unwrap_or slot 0)) fits zone

                by_name : stored.found ≡ is_some slot
                    → seek_made p (some_left rest.unused) (next_new (length es)) fits (rename f g zone) ≡ rename_sought f g stored
                by_name finds = cases slot slotted refl
                  where
                    u : Bool
                    u = some_left rest.unused

                    renamed : seek_made p u (next_new (f (unwrap_or slot 0))) fits (rename f g zone) ≡ rename_sought f g stored
                    renamed = new-rename f g p q spares u (next_new (unwrap_or slot 0)) fits zone

                    cases : (o : Option ℕ) → HasSlot o rest rest' → slot ≡ o
                        → seek_made p u (next_new (length es)) fits (rename f g zone) ≡ rename_sought f g stored
                    cases None more e = sym (new-any p (next_new (f (unwrap_or slot 0))) (next_new (length es)) refl u fits
                        (rename f g zone) (ap (λ (r : Sought). r.found) renamed ∙ finds ∙ ap is_some e)) ∙ renamed
                    cases (Some k) t e = ap (λ (j : ℕ). seek_made p u (next_new j) fits (rename f g zone))
                        (sym (ap (λ o. handle_number (entered o es) (unwrap_or o 0)) e
                        ∙ number-now zone t.more rest' es k (agrees-more zone rest t.more es agrees (λ k. refl) t.has_more)
                        t.was t.slots.slots t.one t.slots.all (none-there k t))) ∙ renamed

                pub made-is : call s ≡ given (Handle Plain) p (seek_made p (is_unused s) (next_new (length s.names)) fits s.zone) s
                    → Went q zone stored (is_some slot) m zone' rest rest' → Answers
                made-is row did = answers stored (new-names f g p q spares (some_left rest.unused) (next_new (unwrap_or slot 0))
                    fits zone)
                    (row ∙ ap (λ r. given (Handle Plain) p r s)
                    (ap (λ u. seek_made p u (next_new (length s.names)) fits s.zone) (unused-is zone rest es masters agrees)
                    ∙ ap (λ k. seek_made p (some_left rest.unused) (next_new k) fits s.zone) (length-map es (name_of rest.slots))
                    ∙ ap (seek_made p (some_left rest.unused) (next_new (length es)) fits) (sym (kept slot slotted))
                    ∙ by_name (sym did.finds))) did

-- what a call that makes a handle purges
module _ (zone : List Block) (rest : Rest) (es : List Anchor) (masters : rest.all ≡ 64 * count is_masters zone)
    (agrees : Agrees zone rest es)
  where
    abbrev now : State
    now = state_of zone rest.slots es

    pub made-gone : (p q : Block → Bool) → ((b : Block) → p (rename_block (handle_number es) (pointer_number es) b) ≡ q b)
        → (call : State → Done ℕ) (a b : Block) (fits : Bool) → size a ≡ size b
        → call now ≡ made (Handle Plain) p (λ z. cond fits (seek (Put b) p z) no_room) now
        → told_along es q (seek_made q (some_left rest.unused) a fits zone) zone ≡ purges_made call now
    made-gone p q spares call a b fits same row =
        let f = handle_number es in
        let g = pointer_number es in
        let n = length now.names in
        let u = some_left rest.unused in
        let path = (seek_made q u a fits zone).path in
        ap (λ (k : ℕ). told_blocks k (rename f g (did q path zone).gone)) (sym (length-map es (name_of rest.slots)))
        ∙ sym (ap (λ (d : Done ℕ). purged_by d now) row
        ∙ ap (λ t. told_blocks n (did p (seek_made p t b fits now.zone).path now.zone).gone)
        (unused-is zone rest es masters agrees)
        ∙ ap (told_blocks n) (sym (made-alike p (rename_block f g a) b (size-rename f g a ∙ same) u fits now.zone))
        ∙ ap (λ (r : Sought). told_blocks n (did p r.path now.zone).gone) (new-rename f g p q spares u a fits zone)
        ∙ ap (λ (d : Did). told_blocks n d.gone)
        (did-rename f g p q spares path (new-names f g p q spares u a fits zone) zone))

    -- a new handle in any role, with any flags
    pub filled-gone : (role : Role) (flags : Flags) (x : List ℕ) → told_along es nothing (seek_new Nothing rest.unused
        (length x) (fresh_block 0 (length x)) zone) zone ≡ purges_made (new_filled role flags x) now
    filled-gone role flags x =
        made-gone nothing nothing (λ b. refl) (new_filled Plain flags x) (fresh_block 0 (length x))
        (Relocatable (length now.names) flags x) (is_some (phys (length x))) (ap padded (length-replicate (length x) 0))
        refl

-- what a call answers that made a handle, if a slot was had, and what it purges
module _ (zone : List Block) (rest : Rest) (es : List Anchor) (masters : rest.all ≡ 64 * count is_masters zone)
    (agrees : Agrees zone rest es) (fresh : (k : ℕ) → is_used (rest.slots k) ≡ false → has (is_relocatable k) zone ≡ false)
    (log : Log) (value : Memory) (is : memory_of zone rest es log ≡ value)
  where
    module _ (zone' : List Block) (rest' : Rest) (slot : Option ℕ) (m : ℕ)
      where
        abbrev after_it : Memory
        after_it = memory_of zone' rest' (entered slot es) (record log { searches = counted log.searches m })

        pub empty-answer : TakesSlot slot rest zone' rest'
            → Went nothing zone (seek_unused Nothing rest.unused zone) (is_some slot) m zone' rest rest'
            → doing_silently new_empty_handle value ≡ (number_of slot es, after_it)
        empty-answer took =
            empty-is zone rest es masters agrees fresh rest' log value is zone' nothing nothing new_empty_handle m slot
            (taken-slot slot zone' rest rest' took) (λ b. refl) refl

        pub new_handle-answer : (n : ℕ) → HasSlot slot rest rest' → Went nothing zone
            (seek_new Nothing rest.unused n (fresh_block (unwrap_or slot 0) n) zone) (is_some slot) m zone' rest rest'
            → doing_silently (new_handle n) value ≡ (number_of slot es, after_it)
        new_handle-answer n had = made-is zone rest es masters agrees fresh rest' log value is zone' nothing nothing
            (new_handle n) m slot had (λ b. refl) no_flags (replicate n 0) (is_some (phys n)) refl

        pub filled-answer : (flags : Flags) (x : List ℕ) → HasSlot slot rest rest' → Went nothing zone
            (seek_new Nothing rest.unused (length x) (Relocatable (unwrap_or slot 0) flags x) zone) (is_some slot) m zone'
            rest rest' → new_inside Plain flags x value ≡ (number_of slot es, after_it)
        filled-answer flags x had = made-is zone rest es masters agrees fresh rest' log value is zone' nothing nothing
            (new_filled Plain flags x) m slot had (λ b. refl) flags x (is_some (phys (length x))) refl

    pub new_handle-gone : (n : ℕ) → told_along es nothing (seek_new Nothing rest.unused n (fresh_block 0 n) zone) zone
        ≡ purges_made (new_handle n) value.heap
    new_handle-gone n =
        made-gone zone rest es masters agrees nothing nothing (λ b. refl) (new_handle n) (fresh_block 0 n)
        (fresh_block (length (state_of zone rest.slots es).names) n) (is_some (phys n)) refl refl
        ∙ ap (λ (m : Memory). purges_made (new_handle n) m.heap) is

    pub empty-gone : zone_slot_gone es Nothing rest.unused zone ≡ purges_made new_empty_handle value.heap
    empty-gone =
        slot_gone-is zone rest es masters agrees nothing Nothing (λ b. refl)
        ∙ ap (λ (m : Memory). slot_gone nothing m.heap) is
