use Rattle.heap_calls.proofs.Cited.{◌≡◌, ℕ, ◌+◌, ◌≤◌, ◌==◌, Bool, true, false, ◌||◌, List, [], ◌∷◌, ◌++◌, length, replicate, refl, sym, ◌∙◌}
use Rattle.heap_calls.proofs.Cited.{ap, subst, cond, arith, Option, Some, None, Result, Ok, Err, slice_get, nat_le, ℤ, pos, negsuc, ◌-◌}
use Rattle.heap_calls.proofs.Cited.{take, drop, if◌then◌else◌, phys, Told, Given, Refused, Offset, OsErr, MEM_FULL, PROFILE, PURGED}
use Rattle.heap_calls.proofs.Cited.{written, Block, Free, Nonrelocatable, Masters, Relocatable, total, is_relocatable, is_nonrelocatable}
use Rattle.heap_calls.proofs.Cited.{Flags, content_of, with_content, resized_content, no_flags, runs, Spot, spot, purge, freed, compacted}
use Rattle.heap_calls.proofs.Cited.{runs_settled, settled, SeesNoFree, purged-le, settled-le, spot-passes, Move, Put, Base, Drop, Write}
use Rattle.heap_calls.proofs.Cited.{Did, did, Sought, seek, if_fits, seek_slot, seek_size, around, did-append, Refuses, seek-refused}
use Rattle.heap_calls.proofs.Cited.{fits-refused, size-refused, around-refused, size-new, seek-more, if-more, again-more, State, Memory}
use Rattle.heap_calls.proofs.Cited.{Meaning, Plain, Answer, Held, nothing, refused, look_up, handle_at, for_found, written_at, pointed_at}
use Rattle.heap_calls.proofs.Cited.{pointed, block_named, named_block, moved_into, is_loose, blocks_purged, purgeable, purged_all, Asked}
use Rattle.heap_calls.proofs.Cited.{told_as, heap_after, reply_of, is_unused, next_block, answered, put_by, fun_ext, leb-true, Decides-eqb}
use Rattle.heap_calls.proofs.Cited.{found_in, behind, munged, Occurrence, hoisted}
use Rattle.std.specs.Prelude.{is_some}
use Rattle.mac_words.specs.Told.{Done}
use Rattle.heap_calls.specs.State as names
use Rattle.heap_calls.specs.Serving.{new_bytes, new_size}
use Rattle.heap_calls.specs.Table as asked
use Rattle.heap_calls.specs.Rows as rows
use Rattle.heap_calls.proofs.Same.Growing.{same-handle, same-pointer}
use Rattle.heap_calls.proofs.Rows.Found.{room_for-refused}
use Rattle.heap_calls.proofs.Rows.Effects as effects
use Rattle.heap_calls.proofs.Rows.Effects.{Effect, effect_of, writes, Changes, by-quiet}
use Rattle.heap_calls.proofs.Promises.Knowing.{Known, for_handle, for_pointer, look_up-spot, handle_at-name, pointed_at-spot}
use Rattle.heap_calls.proofs.Promises.Knowing.{known-at}
use Rattle.heap_calls.proofs.Promises.Knowing.{known-less, with_bytes, with-same, with-other}
use Rattle.heap_calls.proofs.Promises.Knowing.{holds-known}
use Rattle.heap_calls.proofs.Promises.KnownChanges.{More, known-based, known-new, known-sparing, known-new_pointer}
use Rattle.heap_calls.proofs.Promises.KnownChanges.{known-disposed, known-disposed_pointer, known-put}
use Rattle.heap_calls.proofs.Promises.KnownChanges.{known-put_pointer}
use Rattle.heap_calls.proofs.Promises.KnownChanges.{known-grown, known-grown_pointer, known-emptied, known-renewed}
use Rattle.heap_calls.proofs.Promises.KnownChanges.{known-flagged, known-flags, known-hoisted, known-filled, written-all, written-behind}
use Rattle.heap_calls.proofs.Finding.{found-within, written-munged}

-- Each call keeps what is known of each block's bytes.

-- what a call tells that answers nothing else
abbrev done : Result (Unit {0}) OsErr → Told
done r = told_as {T = Unit {0}} (λ (u : Unit {0}). Done) r

-- bytes that were written into the block that was looked up
known-written_at : (s : State) (bytes : ℕ → List ℕ) → Known s bytes → (it : Block → Bool) (i : ℕ) (x : List ℕ)
    (tells : Told → ℕ → List ℕ) → ((code : OsErr) → bytes ≡ tells (Refused code))
    → ((at : Spot) → spot it s.zone ≡ Some at → Known (record s {
      zone = at.below ++ with_content (written i x (content_of at.here)) at.here ∷ at.above;
    }) (tells Done))
    → (r : Result Held OsErr) → ((k : Held) → r ≡ Ok k → spot it s.zone ≡ Some k.at)
    → Known (for_found r s (λ k. written_at i x k.at s)).1 (tells (done (for_found r s (λ k. written_at i x k.at s)).0))
known-written_at s bytes known it i x tells refused_told put (Err code) found =
    subst (Known s) (refused_told code) known
known-written_at s bytes known it i x tells refused_told put (Ok k) found =
    by_test (nat_le (i + length x) (length (content_of k.at.here)))
  where
    put_at : Bool → Answer (Unit {0})
    put_at t = cond t (
      Ok tt,
      record s {
        zone = k.at.below ++ with_content (written i x (content_of k.at.here)) k.at.here
            ∷ k.at.above;
      },
    ) (refused PROFILE s)

    by_test : (t : Bool) → Known (put_at t).1 (tells (done (put_at t).0))
    by_test true = put k.at (found k refl)
    by_test false = subst (Known s) (refused_told PROFILE) known

-- what the path of a call leaves known, by whether room was found
module _ (s : State) (bytes : ℕ → List ℕ) (known : Known s bytes) (tells : Told → ℕ → List ℕ)
    (refused_told : (code : OsErr) → bytes ≡ tells (Refused code))
  where
    abbrev left : (Block → Bool) → Sought → List Block
    left sp r = (did sp r.path s.zone).zone

    done-found : {A T : Type 0} (tell : T → Told) (r : Result A OsErr) (call : A → rows.Done T)
        → ((k : A) → r ≡ Ok k → Known (heap_after (call k) s) (tells (told_as {T = T} tell (call k).reply)))
        → Known (heap_after (rows.for_found r s call) s) (tells (told_as {T = T} tell (rows.for_found r s call).reply))
    done-found tell (Err code) call each = subst (Known s) (refused_told code) known
    done-found tell (Ok k) call each = each k refl

    -- where no room is found
    known-still : (sp : Block → Bool) (r : Sought) → Refuses sp r → r.found ≡ false
        → Known (record s { zone = left sp r }) bytes
    known-still sp r only e = subst (λ (z : List Block). Known (record s { zone = z }) bytes)
        (sym (ap (λ (d : Did). d.zone) ((only e).1 s.zone))) known

    pub known-changed : (sp : Block → Bool) (r : Sought) → Refuses sp r
        → (r.found ≡ true → Known (record s { zone = left sp r }) (tells Done))
        → Known (heap_after (rows.changed sp r s) s) (tells (done (rows.changed sp r s).reply))
    known-changed sp r only found = cases r.found refl
      where
        cases : (t : Bool) → r.found ≡ t → Known (record s { zone = left sp r }) (tells (done (reply_of t tt)))
        cases true e = found e
        cases false e = subst (Known (record s { zone = left sp r })) (refused_told MEM_FULL) (known-still sp r only e)

    pub known-given : (sp : Block → Bool) (name : Meaning) (r : Sought) → (r.found ≡ true
        → Known (record { zone = left sp r; names = s.names ++ name ∷ [] }) (tells (Given (length s.names))))
        → (r.found ≡ false → Known (record s { zone = left sp r }) bytes)
        → Known (heap_after (rows.given name sp r s) s) (tells (told_as {T = ℕ} Given (rows.given name sp r s).reply))
    known-given sp name r found none = cases r.found refl
      where
        cases : (t : Bool) → r.found ≡ t
            → Known (record { zone = left sp r; names = cond t (s.names ++ name ∷ []) s.names })
            (tells (told_as {T = ℕ} Given (reply_of t (length s.names))))
        cases true e = found e
        cases false e = subst (Known (record s { zone = left sp r })) (refused_told MEM_FULL) (none e)

    -- a master pointer
    abbrev slot : (Block → Bool) → Sought
    slot sp = seek_slot (is_unused s) sp s.zone

    pub known-slot : (sp : Block → Bool) → Known (record s { zone = left sp (slot sp) }) bytes
    known-slot sp = cases (is_unused s)
      where
        cases : (t : Bool) → Known (record s { zone = left sp (seek_slot t sp s.zone) }) bytes
        cases true = known
        cases false = known-based s bytes known (left sp (seek (Base Masters) sp s.zone))
            (λ of none. seek-more of sp none (Base Masters) (λ z. tt) s.zone)

    -- a new handle with a block
    pub known-made : (role : names.Role) (flags : Flags) (sp : Block → Bool) (block : List Block → Sought) (x : List ℕ)
        → ((z : List Block) → Refuses sp (block z))
        → ((z : List Block) → More (Relocatable (length s.names) flags x) z (did sp (block z).path z).zone)
        → with_bytes (length s.names) x bytes ≡ tells (Given (length s.names))
        → Known (heap_after (rows.made (names.Handle role) sp block s) s)
        (tells (told_as {T = ℕ} Given (rows.made (names.Handle role) sp block s).reply))
    known-made role flags sp block x only more_by given_told =
        known-given sp (names.Handle role) (so (slot sp).found) (by_found (slot sp).found refl)
        (by_none (slot sp).found)
      where
        before : List Block
        before = left sp (slot sp)

        more : Sought
        more = block before

        so : Bool → Sought
        so t = cond t (record { found = more.found; path = (slot sp).path ++ more.path }) (slot sp)

        after : left sp (so true) ≡ (did sp more.path before).zone
        after = ap (λ (d : Did). d.zone) (did-append sp (slot sp).path more.path s.zone)

        by_found : (t : Bool) → (slot sp).found ≡ t → (so t).found ≡ true
            → Known (record { zone = left sp (so t); names = s.names ++ names.Handle role ∷ [] })
            (tells (Given (length s.names)))
        by_found true there e =
            subst (Known (record { zone = left sp (so true); names = s.names ++ names.Handle role ∷ [] })) given_told
            (subst (λ (z : List Block). Known (record { zone = z; names = s.names ++ names.Handle role ∷ [] })
            (with_bytes (length s.names) x bytes)) (sym after)
            (known-new (record s { zone = before }) bytes (known-slot sp) role flags x (did sp more.path before).zone
            (more_by before)))
        by_found false none e = let f : true ≡ false = sym e ∙ none in cc

        by_none : (t : Bool) → (so t).found ≡ false → Known (record s { zone = left sp (so t) }) bytes
        by_none true e = subst (λ (z : List Block). Known (record s { zone = z }) bytes)
            (sym (after ∙ ap (λ (d : Did). d.zone) ((only before e).1 before))) (known-slot sp)
        by_none false e = known-slot sp

    -- a handle's block that got n bytes
    known-sized : (sp : Block → Bool) (h n : ℕ) (at : Spot) → spot (is_relocatable h) s.zone ≡ Some at
        → (seek_size n sp s.zone at).found ≡ true
        → Known (record s { zone = left sp (seek_size n sp s.zone at) })
        (with_bytes h (resized_content n (bytes h)) bytes)
    known-sized sp h n at is there =
        known-grown s bytes known h n at (left sp (seek_size n sp s.zone at)) is
        (λ of none. size-new of sp none n s.zone at (is_relocatable h)
        (same-handle h n at.here (spot-passes (is_relocatable h) s.zone at is)) is (known.once h) there)

    -- bytes that are written into a handle's block once it has a size
    known-written : (sp : Block → Bool) (h n i : ℕ) (b : Held) (x last : List ℕ) → spot (is_relocatable h) s.zone ≡ Some b.at
        → b.number ≡ h → written i x (resized_content n (bytes h)) ≡ last → with_bytes h last bytes ≡ tells Done
        → Known (heap_after (rows.sized_written sp b n i x s) s) (tells (done (rows.sized_written sp b n i x s).reply))
    known-written sp h n i b x last at named so done_told =
        known-changed sp (around [] write sought) (around-refused sp [] write sought
        (size-refused sp n s.zone b.at)) (cases sought.found refl)
      where
        sought : Sought
        sought = seek_size n sp s.zone b.at

        write : List Move
        write = Write b.number i x ∷ []

        behind : sought.found ≡ true → Known (record s { zone = (did sp write (left sp sought)).zone })
            (with_bytes h last bytes)
        behind there =
            subst (λ (k : ℕ). Known (record s { zone = (did sp (Write k i x ∷ []) (left sp sought)).zone })
            (with_bytes h last bytes)) (sym named)
            (known-filled (record s { zone = left sp sought }) bytes h n i x last (known-at s bytes known h b.at at).2 so
            (known-sized sp h n b.at at there))

        cases : (t : Bool) → sought.found ≡ t → t ≡ true
            → Known (record s { zone = (did sp (cond t (sought.path ++ write) sought.path) s.zone).zone }) (tells Done)
        cases true e there =
            subst (λ (z : List Block). Known (record s { zone = z }) (tells Done))
            (sym (ap (λ (d : Did). d.zone) (did-append sp sought.path write s.zone)))
            (subst (Known (record s { zone = (did sp write (left sp sought)).zone })) done_told (behind e))
        cases false e there = let f : false ≡ true = there in cc

    -- bytes behind those of a handle's block
    known-behind : (sp : Block → Bool) (h : ℕ) (b : Held) (x : List ℕ) → spot (is_relocatable h) s.zone ≡ Some b.at
        → b.number ≡ h → with_bytes h (bytes h ++ x) bytes ≡ tells Done
        → Known (heap_after (rows.append sp b x s) s) (tells (done (rows.append sp b x s).reply))
    known-behind sp h b x at named done_told =
        let len = length (content_of b.at.here) in
        known-written sp h (len + length x) len b x (bytes h ++ x) at named
        (written-behind len x (bytes h) (ap (λ (c : Block). length (content_of c)) (sym (known-at s bytes known h b.at at).1)))
        done_told

-- bytes that were written into the block of a handle or a pointer
known-named : (s : State) (bytes : ℕ → List ℕ) → Known s bytes → (k i : ℕ) (x : List ℕ) (tells : Told → ℕ → List ℕ)
    → ((code : OsErr) → bytes ≡ tells (Refused code)) → with_bytes k (written i x (bytes k)) bytes ≡ tells Done
    → Known (for_found (block_named (Some k) s) s (λ b. written_at i x b.at s)).1
    (tells (done (for_found (block_named (Some k) s) s (λ b. written_at i x b.at s)).0))
known-named s bytes known k i x tells refused_told done_told = by_name (slice_get s.names k) refl
  where
    Knows : Result Held OsErr → Type 0
    Knows r = Known (for_found r s (λ b. written_at i x b.at s)).1 (tells (done (for_found r s (λ b. written_at i x b.at s)).0))

    of_handle : Knows (look_up (Some k) s)
    of_handle = known-written_at s bytes known (is_relocatable k) i x tells refused_told
        (λ at found. subst (Known (record s { zone = at.below ++ with_content (written i x (content_of at.here)) at.here ∷ at.above }))
        done_told (known-put s bytes known k i x at found (with_bytes k (written i x (bytes k)) bytes)
        (with-other k (written i x (bytes k)) bytes) (sym (with-same k (written i x (bytes k)) bytes))))
        (look_up (Some k) s) (λ b is. (look_up-spot k s b is).0)

    of_pointer : Knows (pointed_at (Some k) s)
    of_pointer = known-written_at s bytes known (is_nonrelocatable k) i x tells refused_told
        (λ at found. subst (Known (record s { zone = at.below ++ with_content (written i x (content_of at.here)) at.here ∷ at.above }))
        done_told (known-put_pointer s bytes known k i x at found))
        (pointed_at (Some k) s) (λ b is. (pointed_at-spot k s b is).0)

    by_name : (o : Option Meaning) → slice_get s.names k ≡ o → Knows (named_block k o s)
    by_name None is = of_handle
    by_name (Some (names.Handle role)) is = of_handle
    by_name (Some names.Pointer) is = subst Knows (ap (λ (o : Option Meaning). pointed k o s) is) of_pointer
    by_name (Some names.Disposed) is = of_handle

-- each effect keeps what is known where no bytes are written
known-changes : (e : Effect) (s : State) (bytes : ℕ → List ℕ) → writes e ≡ false → Known s bytes
    → Changes (λ t. Known t bytes) s e
known-changes (effects.Flagged (Some h) change) s bytes rests known = known-flagged change h s bytes known
known-changes (effects.Hoisted (Some h)) s bytes rests known = λ at found mover. known-hoisted h s bytes known
known-changes (effects.LockedHigh (Some h)) s bytes rests known = λ at found mover.
    known-flags (λ f. record f { locked = true }) h (record s { zone = hoisted h s.zone }) bytes
    (known-hoisted h s bytes known)
known-changes (effects.Disposed (Some h)) s bytes rests known = λ is. known-disposed s bytes known h (ap for_handle is)
known-changes (effects.DisposedPointer (Some p)) s bytes rests known = λ is.
    known-disposed_pointer s bytes known p (ap for_pointer is)
known-changes (effects.Emptied (Some h)) s bytes rests known = λ at found mover. known-emptied s bytes known h
known-changes (effects.Compacted n) s bytes rests known = known-less s (compacted (phys n) s.zone) bytes
    (λ of none. settled-le of none (runs_settled (phys n) s.zone) s.zone) known
known-changes (effects.Written call only) s bytes rests known = let f : true ≡ false = rests in cc
known-changes e s bytes rests known = tt

-- each call keeps what is known, with the bytes that it put
pub step-known : (a : Asked) (m : Memory) (bytes : ℕ → List ℕ) → Known m.heap bytes
    → Known (answered a m).1.heap (put_by a (answered a m).0 bytes)
step-known (asked.NewHandle x) m bytes known =
    let n = new_size x in
    let new = next_block (new_bytes x) m.heap in
    known-made m.heap bytes known (λ t. put_by (asked.NewHandle x) t bytes) (λ code. refl) Plain no_flags nothing
    (λ z. if_fits n (seek (Put new) nothing z)) (new_bytes x)
    (λ z. fits-refused nothing n (seek (Put new) nothing z) (seek-refused nothing (Put new) z))
    (λ z of none. if-more of nothing none (is_some (phys n)) (Put new) (λ y. tt) z) refl
step-known asked.NewEmptyHandle m bytes known =
    let tells : Told → ℕ → List ℕ = λ t. bytes in
    let ready = known-slot m.heap bytes known tells (λ code. refl) nothing in
    known-given m.heap bytes known tells (λ code. refl) nothing (names.Handle Plain)
    (seek_slot (is_unused m.heap) nothing m.heap.zone)
    (λ there. known-sparing (record m.heap {
      zone = (did nothing (seek_slot (is_unused m.heap) nothing m.heap.zone).path m.heap.zone).zone;
    }) bytes ready (names.Handle Plain)) (λ none. ready)
step-known (asked.SetHandleSize None n) m bytes known = known
step-known (asked.SetHandleSize (Some h) n) m bytes known =
    let s = m.heap in
    let tells : Told → ℕ → List ℕ = λ t. put_by (asked.SetHandleSize (Some h) n) t bytes in
    done-found s bytes known tells (λ code. refl) (λ u. Done) (look_up (Some h) s) _ (λ b e.
    let sp = is_relocatable b.number in
    known-changed s bytes known tells (λ code. refl) sp (seek_size n sp s.zone b.at) (size-refused sp n s.zone b.at)
    (known-sized s bytes known tells (λ code. refl) sp h n b.at (look_up-spot h s b e).0))
step-known (asked.ReallocateHandle None n) m bytes known = known
step-known (asked.ReallocateHandle (Some h) n) m bytes known =
    done-found s bytes known tells (λ code. refl) (λ u. Done) (handle_at (Some h) s) _ (λ k e.
    let f = handle_at-name h s k e in
    subst (λ (j : ℕ). KnownAfter j (is_loose (spot (is_relocatable j) s.zone))) (sym f.1)
    (by_test f.0 (is_loose (spot (is_relocatable h) s.zone))))
  where
    s : State
    s = m.heap

    tells : Told → ℕ → List ℕ
    tells t = put_by (asked.ReallocateHandle (Some h) n) t bytes

    sought : ℕ → Sought
    sought j = around (Drop j ∷ []) [] (if_fits n (seek (Put (Relocatable j no_flags (replicate n 0))) nothing
        (freed (is_relocatable j) s.zone)))

    answer : ℕ → Bool → rows.Done (Unit {0})
    answer j t = if t then rows.changed nothing (sought j) s else rows.refused PURGED s

    KnownAfter : ℕ → Bool → Type 0
    KnownAfter j t = Known (heap_after (answer j t) s) (tells (done (answer j t).reply))

    by_test : for_handle (slice_get s.names h) ≡ true → (t : Bool) → KnownAfter h t
    by_test is true =
        let new = Relocatable h no_flags (replicate n 0) in
        let free = freed (is_relocatable h) s.zone in
        known-changed s bytes known tells (λ code. refl) nothing (sought h)
        (around-refused nothing (Drop h ∷ []) [] (if_fits n (seek (Put new) nothing free))
        (fits-refused nothing n (seek (Put new) nothing free) (seek-refused nothing (Put new) free)))
        (λ there. known-renewed s bytes known h (replicate n 0) is (did nothing (sought h).path s.zone).zone
        (λ of none. again-more of nothing none (is_some (phys n)) h new s.zone there))
    by_test is false = known
step-known (asked.HandToHand None) m bytes known = known
step-known (asked.HandToHand (Some h)) m bytes known =
    let s = m.heap in
    let tells : Told → ℕ → List ℕ = λ t. put_by (asked.HandToHand (Some h)) t bytes in
    done-found s bytes known tells (λ code. refl) Given (look_up (Some h) s) _ (λ a e.
    let sp = is_relocatable a.number in
    let x = content_of a.at.here in
    known-made s bytes known tells (λ code. refl) Plain no_flags sp (seek (Put (next_block x s)) sp) x
    (seek-refused sp (Put (next_block x s)))
    (λ z of none. seek-more of sp none (Put (next_block x s)) (λ y. tt) z)
    (ap (λ (y : List ℕ). with_bytes (length s.names) y bytes)
    (ap content_of (known-at s bytes known h a.at (look_up-spot h s a e).0).1)))
step-known (asked.HandAndHand None to) m bytes known = known
step-known (asked.HandAndHand (Some h) None) m bytes known =
    done-found m.heap bytes known (λ t. bytes) (λ code. refl) (λ u. Done) (look_up (Some h) m.heap) _ (λ a e. known)
step-known (asked.HandAndHand (Some h) (Some to)) m bytes known =
    let s = m.heap in
    let tells : Told → ℕ → List ℕ = λ t. put_by (asked.HandAndHand (Some h) (Some to)) t bytes in
    done-found s bytes known tells (λ code. refl) (λ u. Done) (look_up (Some h) s) _ (λ a is.
    done-found s bytes known tells (λ code. refl) (λ u. Done) (look_up (Some to) s) _ (λ b e.
    let f = look_up-spot to s b e in
    known-behind s bytes known tells (λ code. refl)
    (λ block. is_relocatable a.number block || is_relocatable b.number block) to b (content_of a.at.here) f.0 f.1
    (ap (λ (y : List ℕ). with_bytes to (bytes to ++ y) bytes)
    (ap content_of (known-at s bytes known h a.at (look_up-spot h s a is).0).1))))
step-known (asked.PtrAndHand None x) m bytes known = known
step-known (asked.PtrAndHand (Some h) x) m bytes known =
    let s = m.heap in
    let tells : Told → ℕ → List ℕ = λ t. put_by (asked.PtrAndHand (Some h) x) t bytes in
    done-found s bytes known tells (λ code. refl) (λ u. Done) (look_up (Some h) s) _ (λ b e.
    let f = look_up-spot h s b e in
    known-behind s bytes known tells (λ code. refl) (is_relocatable b.number) h b x f.0 f.1 refl)
step-known (asked.PtrToXHand None x) m bytes known = known
step-known (asked.PtrToXHand (Some h) x) m bytes known =
    let s = m.heap in
    let tells : Told → ℕ → List ℕ = λ t. put_by (asked.PtrToXHand (Some h) x) t bytes in
    done-found s bytes known tells (λ code. refl) (λ u. Done) (look_up (Some h) s) _ (λ b e.
    let f = look_up-spot h s b e in
    known-written s bytes known tells (λ code. refl) (is_relocatable b.number) h (length x) 0 b x x f.0 f.1
    (written-all x (bytes h)) refl)
step-known (asked.Munger None i old x) m bytes known = known
step-known (asked.Munger (Some h) i old x) m bytes known =
    done-found s bytes known tells (λ code. refl) Offset (look_up (Some h) s)
    (λ b. call b (nat_le i (length (content_of b.at.here))))
    (λ b e. by_test b (look_up-spot h s b e) (nat_le i (length (content_of b.at.here))) refl)
  where
    s : State
    s = m.heap

    tells : Told → ℕ → List ℕ
    tells t = put_by (asked.Munger (Some h) i old x) t bytes

    call : Held → Bool → rows.Done ℤ
    call b t = if t then rows.replaced (is_relocatable b.number) b (found_in old i (content_of b.at.here)) x s
        else rows.refused PROFILE s

    -- what is told where these bytes were found
    told-found : (o : Option Occurrence) → found_in old i (bytes h) ≡ o → (at : ℤ)
        → with_bytes h (munged o x (bytes h)) bytes ≡ tells (Offset at)
    told-found o is at = ap (λ (f : Option Occurrence). with_bytes h (munged f x (bytes h)) bytes) (sym is)

    -- nothing was found
    none-put : with_bytes h (bytes h) bytes ≡ bytes
    none-put = fun_ext (λ k. cases k (h == k) refl)
      where
        cases : (k : ℕ) (t : Bool) → (h == k) ≡ t → cond t (bytes h) (bytes k) ≡ bytes k
        cases k true e = ap bytes ((Decides-eqb h k).0 e)
        cases k false e = refl

    by_found : (b : Held) → (spot (is_relocatable h) s.zone ≡ Some b.at) → b.number ≡ h → i ≤ length (content_of b.at.here)
        → content_of b.at.here ≡ bytes h → (o : Option Occurrence) → found_in old i (content_of b.at.here) ≡ o
        → Known (heap_after (rows.replaced (is_relocatable b.number) b o x s) s)
        (tells (told_as {T = ℤ} Offset (rows.replaced (is_relocatable b.number) b o x s).reply))
    by_found b at named fits same None is =
        subst (Known s) (sym none-put ∙ told-found None (ap (found_in old i) (sym same) ∙ is) (negsuc 0)) known
    by_found b at named fits same (Some f) is = by_reply (rows.sized_written sp b n f.at y s).reply written_known
      where
        sp : Block → Bool
        sp = is_relocatable b.number

        n : ℕ
        n = length (content_of b.at.here) - f.count + length x

        y : List ℕ
        y = x ++ behind f (content_of b.at.here)

        last : List ℕ
        last = munged (Some f) x (bytes h)

        -- what the call leaves known, told as a call that returns nothing
        leaves : Told → ℕ → List ℕ
        leaves Done = with_bytes h last bytes
        leaves t = bytes

        within : f.at + f.count ≤ length (content_of b.at.here)
        within = found-within old i (content_of b.at.here) f fits is

        so : written f.at y (resized_content n (bytes h)) ≡ last
        so = ap (λ (d : List ℕ). written f.at y (resized_content n d)) (sym same)
            ∙ written-munged f x (content_of b.at.here) within
            ∙ ap (munged (Some f) x) same

        written_known : Known (heap_after (rows.sized_written sp b n f.at y s) s)
            (leaves (done (rows.sized_written sp b n f.at y s).reply))
        written_known = known-written s bytes known leaves (λ code. refl) sp h n f.at b y last at named so refl

        by_reply : (r : Result (Unit {0}) OsErr)
            → Known (heap_after (rows.sized_written sp b n f.at y s) s) (leaves (done r))
            → Known (heap_after (rows.sized_written sp b n f.at y s) s)
            (tells (told_as {T = ℤ} Offset (rows.reply_with (pos (f.at + length x)) r)))
        by_reply (Ok u) there = subst (Known (heap_after (rows.sized_written sp b n f.at y s) s))
            (told-found (Some f) (ap (found_in old i) (sym same) ∙ is) (pos (f.at + length x))) there
        by_reply (Err code) there = there

    by_test : (b : Held) → (spot (is_relocatable h) s.zone ≡ Some b.at) × (b.number ≡ h) → (t : Bool)
        → nat_le i (length (content_of b.at.here)) ≡ t
        → Known (heap_after (call b t) s) (tells (told_as {T = ℤ} Offset (call b t).reply))
    by_test b f true e =
        by_found b f.0 f.1 (leb-true i (length (content_of b.at.here)) e)
        (ap content_of (known-at s bytes known h b.at f.0).1) (found_in old i (content_of b.at.here)) refl
    by_test b f false e = known
step-known (asked.BlockMove None i to j n) m bytes known = known
step-known (asked.BlockMove (Some a) i None j n) m bytes known = by_from (block_named (Some a) m.heap)
  where
    by_from : (r : Result Held OsErr)
        → Known (for_found r m.heap (λ b. for_found (block_named None m.heap) m.heap (moved_into i j n b m.heap))).1 bytes
    by_from (Err code) = known
    by_from (Ok b) = known
step-known (asked.BlockMove (Some a) i (Some b) j n) m bytes known = by_from (block_named (Some a) m.heap) refl
  where
    s : State
    s = m.heap

    tells : Told → ℕ → List ℕ
    tells t = put_by (asked.BlockMove (Some a) i (Some b) j n) t bytes

    Knows : Answer (Unit {0}) → Type 0
    Knows answer = Known answer.1 (tells (done answer.0))

    moved : List ℕ → Bool → Held → Answer (Unit {0})
    moved x t held = if t then written_at j (take n (drop i x)) held.at s else refused PROFILE s

    by_test : (x : List ℕ) → x ≡ bytes a → (t : Bool) → Knows (for_found (block_named (Some b) s) s (moved x t))
    by_test x same true = known-named s bytes known b j (take n (drop i x)) tells (λ code. refl)
        (ap (λ (y : List ℕ). with_bytes b (written j (take n (drop i y)) (bytes b)) bytes) same)
    by_test x same false = by_to (block_named (Some b) s)
      where
        by_to : (r : Result Held OsErr) → Knows (for_found r s (moved x false))
        by_to (Err code) = known
        by_to (Ok held) = known

    by_from : (r : Result Held OsErr) → block_named (Some a) s ≡ r
        → Knows (for_found r s (λ held. for_found (block_named (Some b) s) s (moved_into i j n held s)))
    by_from (Err code) is = known
    by_from (Ok held) is = by_test (content_of held.at.here) (holds-known s bytes known a held is)
        (nat_le (i + n) (length (content_of held.at.here)))
step-known (asked.NewPtr n) m bytes known =
    let s = m.heap in
    let tells : Told → ℕ → List ℕ = λ t. put_by (asked.NewPtr n) t bytes in
    let new = Nonrelocatable (length s.names) (replicate n 0) in
    let sought = if_fits n (seek (Base new) nothing s.zone) in
    known-given s bytes known tells (λ code. refl) nothing names.Pointer sought
    (λ there. known-new_pointer s bytes known (replicate n 0) (did nothing sought.path s.zone).zone
    (λ of none. if-more of nothing none (is_some (phys n)) (Base new) (λ z. tt) s.zone))
    (known-still s bytes known tells (λ code. refl) nothing sought
    (fits-refused nothing n (seek (Base new) nothing s.zone) (seek-refused nothing (Base new) s.zone)))
step-known (asked.SetPtrSize None n) m bytes known = known
step-known (asked.SetPtrSize (Some p) n) m bytes known =
    let s = m.heap in
    let tells : Told → ℕ → List ℕ = λ t. put_by (asked.SetPtrSize (Some p) n) t bytes in
    let test = is_nonrelocatable p in
    done-found s bytes known tells (λ code. refl) (λ u. Done) (pointed_at (Some p) s) _ (λ b e.
    let there = (pointed_at-spot p s b e).0 in
    let sought = seek_size n nothing s.zone b.at in
    known-changed s bytes known tells (λ code. refl) nothing sought (size-refused nothing n s.zone b.at)
    (λ found. known-grown_pointer s bytes known p n b.at (did nothing sought.path s.zone).zone there
    (λ of none. size-new of nothing none n s.zone b.at test
    (same-pointer p n b.at.here (spot-passes test s.zone b.at there)) there (known.single p) found)))
step-known (asked.PurgeMem n) m bytes known =
    known-less m.heap (purge (blocks_purged (phys n) m.heap.zone) nothing m.heap.zone) bytes
    (λ of none. purged-le of none (blocks_purged (phys n) m.heap.zone) nothing m.heap.zone) known
step-known asked.MaxMem m bytes known =
    let left : List Block = purged_all m.heap.zone in
    known-less m.heap (settled (length (runs left)) left) bytes
    (λ of none. let p = purged-le of none (purgeable m.heap.zone) nothing m.heap.zone in
    let q = settled-le of none (length (runs left)) left in omega arith) known
step-known (asked.ReserveMem n) m bytes known =
    known-changed s bytes known (λ t. bytes) (λ code. refl) nothing (rows.room_for (phys n) s.zone)
    (room_for-refused (phys n) s.zone)
    (λ there. known-less s (did nothing (rows.room_for (phys n) s.zone).path s.zone).zone bytes
    (λ of none. less of none (phys n)) known)
  where
    s : State
    s = m.heap

    less : (of : Block → ℕ) → SeesNoFree of → (o : Option ℕ)
        → total of (did nothing (rows.room_for o s.zone).path s.zone).zone ≤ total of s.zone
    less of none None = omega arith
    less of none (Some p) = let l = seek-more of nothing none (Base (Free p)) (λ z. tt) s.zone in
        omega (arith, none p, l)
step-known asked.MoreMasters m bytes known =
    let sought = seek (Base Masters) nothing m.heap.zone in
    known-changed m.heap bytes known (λ t. bytes) (λ code. refl) nothing sought
    (seek-refused nothing (Base Masters) m.heap.zone)
    (λ there. known-based m.heap bytes known (did nothing sought.path m.heap.zone).zone
    (λ of none. seek-more of nothing none (Base Masters) (λ z. tt) m.heap.zone))
step-known (asked.Put None i x) m bytes known = known
step-known (asked.Put (Some h) i x) m bytes known =
    known-written_at m.heap bytes known (is_relocatable h) i x (λ t. put_by (asked.Put (Some h) i x) t bytes)
    (λ code. refl)
    (λ at found. known-put m.heap bytes known h i x at found (with_bytes h (written i x (bytes h)) bytes)
    (with-other h (written i x (bytes h)) bytes) (sym (with-same h (written i x (bytes h)) bytes)))
    (look_up (Some h) m.heap) (λ k is. (look_up-spot h m.heap k is).0)
step-known (asked.PutPtr None i x) m bytes known = known
step-known (asked.PutPtr (Some p) i x) m bytes known =
    known-written_at m.heap bytes known (is_nonrelocatable p) i x (λ t. put_by (asked.PutPtr (Some p) i x) t bytes)
    (λ code. refl) (λ at found. known-put_pointer m.heap bytes known p i x at found) (pointed_at (Some p) m.heap)
    (λ k is. (pointed_at-spot p m.heap k is).0)
step-known a m bytes known =
    by-quiet (λ t. Known t (put_by a (answered a m).0 bytes)) a m refl known
    (known-changes (effect_of a) m.heap bytes refl known)
