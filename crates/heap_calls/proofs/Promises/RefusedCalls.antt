use Rattle.heap_calls.proofs.Cited.{◌≡◌, ◌≢◌, ℕ, ◌+◌, ◌≤◌, Bool, true, false, List, [], ◌∷◌, ◌++◌, length, refl, sym, ◌∙◌, ap, subst, cond}
use Rattle.heap_calls.proofs.Cited.{arith, Option, Some, None, Result, Ok, Err, replicate, nat_le, slice_get, slice_set, ◌/◌, ◌%◌, ◌==◌, ℤ}
use Rattle.heap_calls.proofs.Cited.{take, drop, option_map, ok_or, OsErr, NIL_HANDLE, LOCKED, PROFILE, PURGED, Flags, Block, Nonrelocatable}
use Rattle.heap_calls.proofs.Cited.{Masters, Relocatable, is_mover, is_relocatable, is_nonrelocatable, content_of, with_content, no_flags}
use Rattle.heap_calls.proofs.Cited.{sizes, tidy, count, written, Spot, spot, freed, State, Memory, Role, Plain, Resource, SystemResource}
use Rattle.heap_calls.proofs.Cited.{Meaning, Handle, Pointer, Disposed, Answer, Held, nothing, refused, disposed_of, flagged, change_flags}
use Rattle.heap_calls.proofs.Cited.{hoisted, look_up, held_at, handle_at, known_as, for_found, written_at, on_block, code_of, without}
use Rattle.heap_calls.proofs.Cited.{munger_nil, place_in, pointed_at, block_named, dispose_pointer, get_pointer_size, pointer_zone}
use Rattle.heap_calls.proofs.Cited.{put_pointer, show_pointer, place_of, recover_handle, block_move, moved_into, is_resource, block_bits}
use Rattle.heap_calls.proofs.Cited.{bit, emptied_at, h_purge, h_no_purge, h_get_state, h_set_state, empty_handle, purge_mem, Told, Given}
use Rattle.heap_calls.proofs.Cited.{Number, Bytes, Refused, Offset, Asked, told_as, answered, Move, Put, Base, Drop, Write, Did, did}
use Rattle.heap_calls.proofs.Cited.{Sought, seek, if_fits, seek_slot, seek_size, around, did-append, Refuses, seek-refused, fits-refused}
use Rattle.heap_calls.proofs.Cited.{slot-refused, size-refused, around-refused, heap_after, answer_made, is_unused, next_block, reply_of}
use Rattle.heap_calls.proofs.Cited.{code_left, slotted_zone, zone_left, no_room, left_by, row, Free}
use Rattle.heap_calls.specs.Answer as calls
use Rattle.mac_words.specs.Told.{Done}
use Rattle.heap_calls.specs.Rows as rows
use Rattle.heap_calls.specs.Table as asked
use Rattle.heap_calls.proofs.Promises.KnownChanges.{none-spot, hoisted-all}
use Rattle.heap_calls.proofs.Promises.Knowing.{look_up-spot}
use Rattle.heap_calls.proofs.Exchanging.{spot-count}
use Rattle.heap_calls.proofs.Rows.Shapes.{Shapes, Stays, by-shape}

-- A refused call leaves all as it was, but for the zone where the table says so.

-- what an answer leaves of a heap where it is a refusal
abbrev pub Leaves : {T : Type 0} → List Block → State → Answer T → Type 0
Leaves zone s answer = (code : OsErr) → answer.0 ≡ Err code → answer.1 ≡ record s { zone = zone }

-- what is told of a value isn't a refusal
abbrev Tells : {T : Type 0} → (T → Told) → Type 0
Tells {T = T} tell = (value : T) (code : OsErr) → tell value ≢ Refused code

refused-told : {T : Type 0} (tell : T → Told) → Tells tell → (r : Result T OsErr) (code : OsErr)
    → told_as tell r ≡ Refused code → r ≡ Err code
refused-told tell tells (Ok value) code e = absurd (tells value code e)
refused-told tell tells (Err other) code e = cc

done-tells : Tells {T = Unit {0}} (λ _. Done)
done-tells value code e = cc

given-tells : Tells {T = ℕ} Given
given-tells value code e = cc

number-tells : Tells {T = ℕ} Number
number-tells value code e = cc

offset-tells : Tells {T = ℤ} Offset
offset-tells value code e = cc

bytes-tells : Tells {T = List ℕ} Bytes
bytes-tells value code e = cc

-- a call as it is told: its code is noted
noted : {T : Type 0} (tell : T → Told) → Tells tell → (answer : Answer T) (m after : Memory) (zone : List Block)
    → Leaves zone m.heap answer
    → after.heap ≡ answer.1 → after.log.code ≡ code_of answer.0 → after.window ≡ m.window
    → (code : OsErr) → told_as tell answer.0 ≡ Refused code
    → (after.heap ≡ record m.heap { zone = zone }) × (after.log.code ≡ code) × (after.window ≡ m.window)
noted tell tells answer m after zone leaves heap told window code e =
    let is = refused-told tell tells answer.0 code e in
    (heap ∙ leaves code is, told ∙ ap code_of is, window)

-- or its code isn't noted
silent : {T : Type 0} (tell : T → Told) → Tells tell → (answer : Answer T) (m after : Memory)
    → Leaves m.heap.zone m.heap answer
    → after.heap ≡ answer.1 → after.log.code ≡ m.log.code → after.window ≡ m.window
    → (code : OsErr) → told_as tell answer.0 ≡ Refused code
    → (after.heap ≡ m.heap) × (after.log.code ≡ m.log.code) × (after.window ≡ m.window)
silent tell tells answer m after leaves heap same window code e =
    (heap ∙ leaves code (refused-told tell tells answer.0 code e), same, window)

-- the answers that a call is made of
pub done : {T : Type 0} (value : T) (zone : List Block) (s after : State) → Leaves zone s (Ok value, after)
done value zone s after code e = cc

refused-leaves : {T : Type 0} (why : OsErr) (s : State) → Leaves {T = T} s.zone s (refused why s)
refused-leaves why s code e = refl

found-leaves : {A T : Type 0} (r : Result A OsErr) (s : State) (answer : A → Answer T)
    → ((k : A) → Leaves s.zone s (answer k)) → Leaves s.zone s (for_found r s answer)
found-leaves (Err why) s answer each code e = refl
found-leaves (Ok k) s answer each code e = each k code e

written-leaves : (i : ℕ) (x : List ℕ) (at : Spot) (s : State) → Leaves s.zone s (written_at i x at s)
written-leaves i x at s = by_test (nat_le (i + length x) (length (content_of at.here)))
  where
    after : State
    after = record s { zone = at.below ++ with_content (written i x (content_of at.here)) at.here ∷ at.above }

    by_test : (t : Bool) → Leaves {T = Unit {0}} s.zone s (cond t (Ok tt, after) (refused PROFILE s))
    by_test true = done tt s.zone s after
    by_test false = refused-leaves PROFILE s

disposed-leaves : (role : Role) (h : ℕ) (s : State) → Leaves s.zone s (disposed_of role h s)
disposed-leaves Plain h s = done tt s.zone s (without h s)
disposed-leaves Resource h s = refused-leaves PROFILE s
disposed-leaves SystemResource h s = refused-leaves PROFILE s

emptied-leaves : (h : ℕ) (o : Option Spot) (s : State) → Leaves s.zone s (emptied_at h o s)
emptied-leaves h None s = done tt s.zone s s
emptied-leaves h (Some at) s = by_mover (is_mover at.here)
  where
    gone : State
    gone = record s { zone = tidy (freed (is_relocatable h) s.zone) }

    by_mover : (t : Bool) → Leaves {T = Unit {0}} s.zone s (cond t (Ok tt, gone) (refused PURGED s))
    by_mover true = done tt s.zone s gone
    by_mover false = refused-leaves PURGED s

flags-leave : (change : Flags → Flags) (handle : Option ℕ) (s : State) → Leaves s.zone s (change_flags change handle s)
flags-leave change handle s =
    found-leaves (look_up handle s) s
    (λ held. (Ok tt, record s { zone = held.at.below ++ flagged change held.at.here ∷ held.at.above }))
    (λ held. done tt s.zone s (record s { zone = held.at.below ++ flagged change held.at.here ∷ held.at.above }))

-- a handle with a block has one where its block is in another zone
found-again : (k : ℕ) (zone : List Block) (s : State) (held : Held) → look_up (Some k) s ≡ Ok held
    → 1 ≤ count (is_relocatable k) zone → {code : OsErr} → look_up (Some k) (record s { zone = zone }) ≢ Err code
found-again k zone s held is there {code = code} = by_name (slice_get s.names k) is
  where
    by_spot : (o : Option Spot) → spot (is_relocatable k) zone ≡ o
        → ok_or {E = OsErr} (option_map (λ (at : Spot). let x : Held = record { number = k; at = at } in x) o)
        NIL_HANDLE ≢ Err code
    by_spot None none e = let c = none-spot (is_relocatable k) zone none in omega arith
    by_spot (Some at) found e = cc

    by_name : (o : Option Meaning) → held_at (known_as k o) s ≡ Ok held
        → held_at (known_as k o) (record s { zone = zone }) ≢ Err code
    by_name None is = cc
    by_name (Some (Handle role)) is = by_spot (spot (is_relocatable k) zone) refl
    by_name (Some Pointer) is = cc
    by_name (Some Disposed) is = cc

-- flags are changed of each block that is found
flags-refused : (change : Flags → Flags) (handle : Option ℕ) (s : State) (code : OsErr)
    → (change_flags change handle s).0 ≡ Err code → look_up handle s ≡ Err code
flags-refused change handle s code e = by_held (look_up handle s) e
  where
    by_held : (r : Result Held OsErr)
        → (for_found {T = Unit {0}} r s
        (λ held. (Ok tt, record s { zone = held.at.below ++ flagged change held.at.here ∷ held.at.above }))).0
        ≡ Err code → r ≡ Err code
    by_held (Err why) e = cc
    by_held (Ok held) e = cc

moved-leaves : (handle : Option ℕ) (s : State) → Leaves s.zone s (calls.move_h_hi handle s)
moved-leaves handle s =
    found-leaves (look_up handle s) s (λ held. moved held (is_mover held.at.here))
    (λ held. by_mover held (is_mover held.at.here))
  where
    moved : Held → Bool → Answer (Unit {0})
    moved held t = cond t (Ok tt, record s { zone = hoisted held.number s.zone }) (refused LOCKED s)

    by_mover : (held : Held) (t : Bool) → Leaves s.zone s (moved held t)
    by_mover held true = done tt s.zone s (record s { zone = hoisted held.number s.zone })
    by_mover held false = refused-leaves LOCKED s

-- HLockHi isn't refused once the block was moved
locked_high-leaves : (handle : Option ℕ) (s : State) → Leaves s.zone s (calls.h_lock_hi handle s)
locked_high-leaves None s = refused-leaves NIL_HANDLE s
locked_high-leaves (Some k) s = by_held (look_up (Some k) s) (λ held is. is)
  where
    lock : Flags → Flags
    lock f = record f { locked = true }

    moved : ℕ → Bool → Answer (Unit {0})
    moved j t = cond t (Ok tt, record s { zone = hoisted j s.zone }) (refused LOCKED s)

    by_mover : (held : Held) → look_up (Some k) s ≡ Ok held → (t : Bool)
        → Leaves s.zone s (for_found (moved held.number t).0 s
        (λ (u : Unit {0}). change_flags lock (Some k) (moved held.number t).1))
    by_mover held is false = refused-leaves LOCKED s
    by_mover held is true = λ code e.
        let own = look_up-spot k s held is in
        let one = spot-count (is_relocatable k) s.zone held.at own.0 in
        let rises : ℕ → Type 0 = λ j. count (is_relocatable k) s.zone ≤ count (is_relocatable k) (hoisted j s.zone) in
        let more : rises held.number = subst rises (sym own.1)
        (hoisted-all (λ b. cond (is_relocatable k b) 1 0) (λ n. refl) k s.zone) in
        absurd
        (found-again k (hoisted held.number s.zone) s held is (omega arith)
        (flags-refused lock (Some k) (record s { zone = hoisted held.number s.zone }) code e))

    by_held : (r : Result Held OsErr) → ((held : Held) → r ≡ Ok held → look_up (Some k) s ≡ Ok held)
        → Leaves s.zone s (for_found (for_found {T = Unit {0}} r s
        (λ held. moved held.number (is_mover held.at.here))).0 s
        (λ (u : Unit {0}). change_flags lock (Some k)
        (for_found {T = Unit {0}} r s (λ held. moved held.number (is_mover held.at.here))).1))
    by_held (Err why) is = refused-leaves why s
    by_held (Ok held) is = by_mover held (is held refl) (is_mover held.at.here)

module _ (sp : Block → Bool) (r : Sought) (s : State)
  where
    -- a path that found room isn't refused, and one that found none leaves this zone
    pub refused-path : {T : Type 0} (zone : List Block) (value : T) (names : Bool → List Meaning) → names false ≡ s.names
        → (r.found ≡ false → (did sp r.path s.zone).zone ≡ zone)
        → Leaves {T = T} zone s (
          reply_of r.found value,
          record {
            zone = (did sp r.path s.zone).zone;
            names = names r.found;
          },
        )
    refused-path zone value names same left code e = by_room r.found refl e
      where
        by_room : (t : Bool) → r.found ≡ t → reply_of t value ≡ Err code
            → (let now : State = record { zone = (did sp r.path s.zone).zone; names = names t } in now)
            ≡ record s { zone = zone }
        by_room true is e = cc
        by_room false is e = ap (λ (z : List Block). let now : State = record { zone = z; names = names false } in now)
            (left is) ∙ ap (λ (n : List Meaning). let now : State = record { zone = zone; names = n } in now) same

    still : Refuses sp r → r.found ≡ false → (did sp r.path s.zone).zone ≡ s.zone
    still only none = ap (λ (d : Did). d.zone) ((only none).1 s.zone)

    pub changed-leaves : Refuses sp r → Leaves s.zone s ((rows.changed sp r s).reply, heap_after (rows.changed sp r s) s)
    changed-leaves only = refused-path s.zone tt (λ t. s.names) refl (still only)

    given-leaves : (name : Meaning) → Refuses sp r
        → Leaves s.zone s ((rows.given name sp r s).reply, heap_after (rows.given name sp r s) s)
    given-leaves name only =
        refused-path s.zone (length s.names) (λ t. cond t (s.names ++ name ∷ []) s.names) refl (still only)

-- a new Masters block stays, and so does what the search for it emptied and moved
pub made-leaves : (name : Meaning) (sp : Block → Bool) (block : List Block → Sought) (s : State)
    → ((z : List Block) → Refuses sp (block z))
    → Leaves (slotted_zone sp s) s ((rows.made name sp block s).reply, heap_after (rows.made name sp block s) s)
made-leaves name sp block s only =
    refused-path sp (then_so slot.found) s (slotted_zone sp s) (length s.names)
    (λ t. cond t (s.names ++ name ∷ []) s.names) refl (by_slot slot.found)
  where
    slot : Sought
    slot = seek_slot (is_unused s) sp s.zone

    more : Sought
    more = block (slotted_zone sp s)

    then_so : Bool → Sought
    then_so t = cond t (record { found = more.found; path = slot.path ++ more.path }) slot

    by_slot : (t : Bool) → (then_so t).found ≡ false → (did sp (then_so t).path s.zone).zone ≡ slotted_zone sp s
    by_slot true none = ap (λ (d : Did). d.zone) (did-append sp slot.path more.path s.zone)
        ∙ ap (λ (d : Did). d.zone) ((only (slotted_zone sp s) none).1 (slotted_zone sp s))
    by_slot false none = refl

sized-leaves : (sp : Block → Bool) (held : Held) (n i : ℕ) (x : List ℕ) (s : State)
    → Leaves s.zone s ((rows.sized_written sp held n i x s).reply, heap_after (rows.sized_written sp held n i x s) s)
sized-leaves sp held n i x s =
    let sought = seek_size n sp s.zone held.at in
    let write : List Move = Write held.number i x ∷ [] in
    changed-leaves sp (around [] write sought) s
    (around-refused sp [] write sought (size-refused sp n s.zone held.at))

-- a call with another reply leaves what it left
replied-leaves : {T U : Type 0} (value : U) (d : rows.Done T) (zone : List Block) (s : State)
    → Leaves zone s (d.reply, heap_after d s)
    → Leaves zone s ((rows.replying value d).reply, heap_after (rows.replying value d) s)
replied-leaves {T} {U} value d zone s leaves code e = leaves code (by_reply d.reply e)
  where
    by_reply : (r : Result T OsErr) → rows.reply_with {T = T} {U = U} value r ≡ Err code → r ≡ Err code
    by_reply (Ok x) e = cc
    by_reply (Err why) e = let same : why ≡ code = cc in ap (λ (c : OsErr). (let r : Result T OsErr = Err c in r)) same

-- what is sought where a block can have a size
fit-refused : (t : Bool) (sp : Block → Bool) (r : Sought) → Refuses sp r → Refuses sp (cond t r no_room)
fit-refused true sp r only = only
fit-refused false sp r only = λ none. (0, λ z. refl)

-- each path
shapes-leave : (a : Asked) (s : State)
    → Shapes (λ (T : Type 0) d. Leaves {T = T} (left_by (row a) s) s (d.reply, heap_after d s)) s a
shapes-leave a s = record {
  refuses = λ left T code. so left {T = T} (rows.refused code s) (refused-leaves code s);
  makes = λ sp left fits bytes.
      let block : List Block → Sought = λ z. cond fits (seek (Put (next_block bytes s)) sp z) no_room in
      subst (λ z. Leaves z s ((rows.made (Handle Plain) sp block s).reply, heap_after (rows.made (Handle Plain) sp block s) s))
      (sym left) (made-leaves (Handle Plain) sp block s (λ z. fit-refused fits sp (seek (Put (next_block bytes s)) sp z)
      (seek-refused sp (Put (next_block bytes s)) z)));
  empties = λ left.
      let sought = seek_slot (is_unused s) nothing s.zone in
      so left (rows.given (Handle Plain) nothing sought s)
      (given-leaves nothing sought s (Handle Plain) (slot-refused nothing (is_unused s) s.zone));
  points = λ left fits bytes.
      let new = Base (Nonrelocatable (length s.names) bytes) in
      let sought = cond fits (seek new nothing s.zone) no_room in
      so left (rows.given Pointer nothing sought s) (given-leaves nothing sought s Pointer
      (fit-refused fits nothing (seek new nothing s.zone) (seek-refused nothing new s.zone)));
  masters = λ left. moved left (seek (Base Masters) nothing s.zone) (seek-refused nothing (Base Masters) s.zone);
  reserves = λ left p. moved left (seek (Base (Free p)) nothing s.zone) (seek-refused nothing (Base (Free p)) s.zone);
  nowhere = λ left. moved left no_room (λ none. (0, λ z. refl));
  sizes = λ left handle held e n.
      let sp = is_relocatable held.number in
      let sought = seek_size n sp s.zone held.at in
      so left (rows.changed sp sought s) (changed-leaves sp sought s (size-refused sp n s.zone held.at));
  pointers = λ left pointer held e n.
      moved left (seek_size n nothing s.zone held.at) (size-refused nothing n s.zone held.at);
  writes = λ left sp handle held e spares n i x within.
      so left (rows.sized_written sp held n i x s) (sized-leaves sp held n i x s);
  replies = λ T U value d leaves. replied-leaves {T = T} {U = U} value d (left_by (row a) s) s leaves;
  rests = λ T value sp code e. cc;
  renews = λ left h n is loose.
      let new = Put (Relocatable h no_flags (replicate n 0)) in
      let there = freed (is_relocatable h) s.zone in
      moved left (around (Drop h ∷ []) [] (if_fits n (seek new nothing there))) (around-refused nothing (Drop h ∷ []) []
      (if_fits n (seek new nothing there)) (fits-refused nothing n (seek new nothing there) (seek-refused nothing new there)));
}
  where
    so : Stays a s → {T : Type 0} (d : rows.Done T) → Leaves s.zone s (d.reply, heap_after d s)
        → Leaves (left_by (row a) s) s (d.reply, heap_after d s)
    so left d leaves = subst (λ z. Leaves z s (d.reply, heap_after d s)) (sym left) leaves

    moved : Stays a s → (r : Sought) → Refuses nothing r
        → Leaves (left_by (row a) s) s ((rows.changed nothing r s).reply, heap_after (rows.changed nothing r s) s)
    moved left r only = so left (rows.changed nothing r s) (changed-leaves nothing r s only)

-- a call that is refused leaves this zone, its names as they were, this code, and the heap where it lay
abbrev LeavesSo : Asked → Memory → Told × Memory → Type 0
LeavesSo a m x =
    (code : OsErr) → x.0 ≡ Refused code
    → (x.1.heap ≡ record m.heap { zone = zone_left a m.heap })
    × (x.1.log.code ≡ code_left a code m.log.code)
    × (x.1.window ≡ m.window)

-- each call, refused, leaves its heap so
pub refused_leaves : (a : Asked) (m : Memory) → LeavesSo a m (answered a m)
refused_leaves (asked.NewHandle x) m =
    noted Given given-tells (answer_made (rows.new_handle_with x) m.heap) m (answered (asked.NewHandle x) m).1
    (zone_left (asked.NewHandle x) m.heap) (by-shape _ m.heap (asked.NewHandle x) (shapes-leave (asked.NewHandle x) m.heap)) refl refl refl
refused_leaves asked.NewEmptyHandle m =
    noted Given given-tells (answer_made rows.new_empty_handle m.heap) m (answered asked.NewEmptyHandle m).1
    (zone_left asked.NewEmptyHandle m.heap) (by-shape _ m.heap asked.NewEmptyHandle (shapes-leave asked.NewEmptyHandle m.heap)) refl refl refl
refused_leaves (asked.DisposeHandle handle) m =
    noted (λ _. Done) done-tells (calls.dispose_handle handle m.heap) m (answered (asked.DisposeHandle handle) m).1
    m.heap.zone
    (found-leaves (handle_at handle m.heap) m.heap (λ k. disposed_of k.role k.number m.heap)
    (λ k. disposed-leaves k.role k.number m.heap)) refl refl refl
refused_leaves (asked.GetHandleSize handle) m =
    noted Number number-tells (calls.get_handle_size handle m.heap) m (answered (asked.GetHandleSize handle) m).1
    m.heap.zone
    (found-leaves (look_up handle m.heap) m.heap (λ held. (Ok (length (content_of held.at.here)), m.heap))
    (λ held code e. refl)) refl refl refl
refused_leaves (asked.SetHandleSize handle n) m =
    noted (λ _. Done) done-tells (answer_made (rows.set_handle_size handle n) m.heap) m (answered (asked.SetHandleSize handle n) m).1
    (zone_left (asked.SetHandleSize handle n) m.heap) (by-shape _ m.heap (asked.SetHandleSize handle n) (shapes-leave (asked.SetHandleSize handle n) m.heap)) refl refl refl
refused_leaves (asked.ReallocateHandle handle n) m =
    noted (λ _. Done) done-tells (answer_made (rows.reallocate_handle handle n) m.heap) m (answered (asked.ReallocateHandle handle n) m).1
    (zone_left (asked.ReallocateHandle handle n) m.heap) (by-shape _ m.heap (asked.ReallocateHandle handle n) (shapes-leave (asked.ReallocateHandle handle n) m.heap)) refl refl refl
refused_leaves (asked.EmptyHandle handle) m =
    noted (λ _. Done) done-tells (empty_handle handle m.heap) m (answered (asked.EmptyHandle handle) m).1 m.heap.zone
    (found-leaves (handle_at handle m.heap) m.heap
    (λ k. emptied_at k.number (spot (is_relocatable k.number) m.heap.zone) m.heap)
    (λ k. emptied-leaves k.number (spot (is_relocatable k.number) m.heap.zone) m.heap)) refl refl refl
refused_leaves (asked.HLock handle) m =
    noted (λ _. Done) done-tells (calls.h_lock handle m.heap) m (answered (asked.HLock handle) m).1 m.heap.zone
    (flags-leave (λ f. record f { locked = true }) handle m.heap) refl refl refl
refused_leaves (asked.HUnlock handle) m =
    noted (λ _. Done) done-tells (calls.h_unlock handle m.heap) m (answered (asked.HUnlock handle) m).1 m.heap.zone
    (flags-leave (λ f. record f { locked = false }) handle m.heap) refl refl refl
refused_leaves (asked.HPurge handle) m =
    noted (λ _. Done) done-tells (h_purge handle m.heap) m (answered (asked.HPurge handle) m).1 m.heap.zone
    (flags-leave (λ f. record f { purgeable = true }) handle m.heap) refl refl refl
refused_leaves (asked.HNoPurge handle) m =
    noted (λ _. Done) done-tells (h_no_purge handle m.heap) m (answered (asked.HNoPurge handle) m).1 m.heap.zone
    (flags-leave (λ f. record f { purgeable = false }) handle m.heap) refl refl refl
refused_leaves (asked.HGetState handle) m =
    noted Number number-tells (h_get_state handle m.heap) m (answered (asked.HGetState handle) m).1 m.heap.zone
    (found-leaves (handle_at handle m.heap) m.heap
    (λ k. on_block handle m.heap (λ held. (Ok (block_bits held.at.here + bit 32 (is_resource k.role)), m.heap)))
    (λ k. found-leaves (look_up handle m.heap) m.heap
    (λ held. (Ok (block_bits held.at.here + bit 32 (is_resource k.role)), m.heap)) (λ held code e. refl)))
    refl refl refl
refused_leaves (asked.HSetState handle byte) m =
    noted (λ _. Done) done-tells (h_set_state handle byte m.heap) m (answered (asked.HSetState handle byte) m).1
    m.heap.zone
    (flags-leave (λ f. record { locked = byte / 128 % 2 == 1; purgeable = byte / 64 % 2 == 1 }) handle m.heap)
    refl refl refl
refused_leaves (asked.HandleZone handle) m =
    noted Number number-tells (calls.handle_zone handle m.heap) m (answered (asked.HandleZone handle) m).1 m.heap.zone
    (found-leaves (handle_at handle m.heap) m.heap (λ k. (Ok 0, m.heap)) (λ k code e. refl)) refl refl refl
refused_leaves (asked.MoveHHi handle) m =
    noted (λ _. Done) done-tells (calls.move_h_hi handle m.heap) m (answered (asked.MoveHHi handle) m).1 m.heap.zone
    (moved-leaves handle m.heap) refl refl refl
refused_leaves (asked.HLockHi handle) m =
    noted (λ _. Done) done-tells (calls.h_lock_hi handle m.heap) m (answered (asked.HLockHi handle) m).1 m.heap.zone
    (locked_high-leaves handle m.heap) refl refl refl
refused_leaves (asked.HandToHand handle) m =
    noted Given given-tells (answer_made (rows.hand_to_hand handle) m.heap) m (answered (asked.HandToHand handle) m).1
    (zone_left (asked.HandToHand handle) m.heap) (by-shape _ m.heap (asked.HandToHand handle) (shapes-leave (asked.HandToHand handle) m.heap)) refl refl refl
refused_leaves (asked.HandAndHand from to) m =
    noted (λ _. Done) done-tells (answer_made (rows.hand_and_hand from to) m.heap) m (answered (asked.HandAndHand from to) m).1
    (zone_left (asked.HandAndHand from to) m.heap) (by-shape _ m.heap (asked.HandAndHand from to) (shapes-leave (asked.HandAndHand from to) m.heap)) refl refl refl
refused_leaves (asked.PtrAndHand handle x) m =
    noted (λ _. Done) done-tells (answer_made (rows.pointer_and_hand handle x) m.heap) m (answered (asked.PtrAndHand handle x) m).1
    (zone_left (asked.PtrAndHand handle x) m.heap) (by-shape _ m.heap (asked.PtrAndHand handle x) (shapes-leave (asked.PtrAndHand handle x) m.heap)) refl refl refl
refused_leaves (asked.PtrToXHand handle x) m =
    noted (λ _. Done) done-tells (answer_made (rows.pointer_to_x_hand handle x) m.heap) m (answered (asked.PtrToXHand handle x) m).1
    (zone_left (asked.PtrToXHand handle x) m.heap) (by-shape _ m.heap (asked.PtrToXHand handle x) (shapes-leave (asked.PtrToXHand handle x) m.heap)) refl refl refl
refused_leaves (asked.Munger handle i old x) m =
    noted Offset offset-tells (answer_made (rows.munger handle i old x) m.heap) m (answered (asked.Munger handle i old x) m).1
    (zone_left (asked.Munger handle i old x) m.heap) (by-shape _ m.heap (asked.Munger handle i old x) (shapes-leave (asked.Munger handle i old x) m.heap)) refl refl refl
refused_leaves (asked.MungerNil handle i old) m =
    noted Offset offset-tells (munger_nil handle i old m.heap) m (answered (asked.MungerNil handle i old) m).1 m.heap.zone
    (found-leaves (look_up handle m.heap) m.heap (λ held. (place_in old i (content_of held.at.here), m.heap))
    (λ held code e. refl)) refl refl refl
refused_leaves (asked.RecoverHandle place) m =
    noted Given given-tells (recover_handle place m.heap) m (answered (asked.RecoverHandle place) m).1 m.heap.zone
    (λ code e. refl) refl refl refl
refused_leaves (asked.BlockMove from i to j n) m =
    noted (λ _. Done) done-tells (block_move from i to j n m.heap) m (answered (asked.BlockMove from i to j n) m).1
    m.heap.zone
    (found-leaves (block_named from m.heap) m.heap (λ a. for_found (block_named to m.heap) m.heap (moved_into i j n a m.heap))
    (λ a. found-leaves (block_named to m.heap) m.heap (moved_into i j n a m.heap)
    (λ b. by_test a b (nat_le (i + n) (length (content_of a.at.here)))))) refl refl refl
  where
    by_test : (a b : Held) (t : Bool) → Leaves {T = Unit {0}} m.heap.zone m.heap (cond t
        (written_at j (take n (drop i (content_of a.at.here))) b.at m.heap) (refused PROFILE m.heap))
    by_test a b true = written-leaves j (take n (drop i (content_of a.at.here))) b.at m.heap
    by_test a b false = refused-leaves PROFILE m.heap
refused_leaves (asked.NewPtr n) m =
    noted Given given-tells (answer_made (rows.new_pointer n) m.heap) m (answered (asked.NewPtr n) m).1
    (zone_left (asked.NewPtr n) m.heap) (by-shape _ m.heap (asked.NewPtr n) (shapes-leave (asked.NewPtr n) m.heap)) refl refl refl
refused_leaves (asked.DisposePtr pointer) m =
    noted (λ _. Done) done-tells (dispose_pointer pointer m.heap) m (answered (asked.DisposePtr pointer) m).1
    m.heap.zone
    (found-leaves (pointed_at pointer m.heap) m.heap (λ held. (Ok tt, gone held.number))
    (λ held. done tt m.heap.zone m.heap (gone held.number))) refl refl refl
  where
    gone : ℕ → State
    gone p = record { zone = tidy (freed (is_nonrelocatable p) m.heap.zone); names = slice_set m.heap.names p Disposed }
refused_leaves (asked.GetPtrSize pointer) m =
    noted Number number-tells (get_pointer_size pointer m.heap) m (answered (asked.GetPtrSize pointer) m).1 m.heap.zone
    (found-leaves (pointed_at pointer m.heap) m.heap (λ held. (Ok (length (content_of held.at.here)), m.heap))
    (λ held code e. refl)) refl refl refl
refused_leaves (asked.SetPtrSize pointer n) m =
    noted (λ _. Done) done-tells (answer_made (rows.set_pointer_size pointer n) m.heap) m (answered (asked.SetPtrSize pointer n) m).1
    (zone_left (asked.SetPtrSize pointer n) m.heap) (by-shape _ m.heap (asked.SetPtrSize pointer n) (shapes-leave (asked.SetPtrSize pointer n) m.heap)) refl refl refl
refused_leaves (asked.PtrZone pointer) m =
    noted Number number-tells (pointer_zone pointer m.heap) m (answered (asked.PtrZone pointer) m).1 m.heap.zone
    (found-leaves (pointed_at pointer m.heap) m.heap (λ held. (Ok 0, m.heap)) (λ held code e. refl)) refl refl refl
refused_leaves asked.FreeMem m = λ code e. cc
refused_leaves asked.MaxBlock m = λ code e. cc
refused_leaves asked.PurgeSpace m = λ code e. cc
refused_leaves (asked.CompactMem n) m = λ code e. cc
refused_leaves (asked.PurgeMem n) m =
    noted (λ _. Done) done-tells (purge_mem n m.heap) m (answered (asked.PurgeMem n) m).1
    (zone_left (asked.PurgeMem n) m.heap) (λ code e. refl) refl refl refl
refused_leaves asked.MaxMem m = λ code e. cc
refused_leaves (asked.ReserveMem n) m =
    noted (λ _. Done) done-tells (answer_made (rows.reserve_mem n) m.heap) m (answered (asked.ReserveMem n) m).1
    (zone_left (asked.ReserveMem n) m.heap) (by-shape _ m.heap (asked.ReserveMem n) (shapes-leave (asked.ReserveMem n) m.heap)) refl refl refl
refused_leaves asked.MoreMasters m =
    noted (λ _. Done) done-tells (answer_made rows.more_masters m.heap) m (answered asked.MoreMasters m).1
    (zone_left asked.MoreMasters m.heap) (by-shape _ m.heap asked.MoreMasters (shapes-leave asked.MoreMasters m.heap)) refl refl refl
refused_leaves asked.MemError m = λ code e. cc
refused_leaves (asked.Put handle i x) m =
    silent (λ _. Done) done-tells (calls.put handle i x m.heap) m (answered (asked.Put handle i x) m).1
    (found-leaves (look_up handle m.heap) m.heap (λ held. written_at i x held.at m.heap)
    (λ held. written-leaves i x held.at m.heap)) refl refl refl
refused_leaves (asked.Show handle) m =
    silent Bytes bytes-tells (calls.show handle m.heap) m (answered (asked.Show handle) m).1
    (found-leaves (look_up handle m.heap) m.heap (λ held. (Ok (content_of held.at.here), m.heap)) (λ held code e. refl))
    refl refl refl
refused_leaves (asked.PutPtr pointer i x) m =
    silent (λ _. Done) done-tells (put_pointer pointer i x m.heap) m (answered (asked.PutPtr pointer i x) m).1
    (found-leaves (pointed_at pointer m.heap) m.heap (λ held. written_at i x held.at m.heap)
    (λ held. written-leaves i x held.at m.heap)) refl refl refl
refused_leaves (asked.ShowPtr pointer) m =
    silent Bytes bytes-tells (show_pointer pointer m.heap) m (answered (asked.ShowPtr pointer) m).1
    (found-leaves (pointed_at pointer m.heap) m.heap (λ held. (Ok (content_of held.at.here), m.heap))
    (λ held code e. refl)) refl refl refl
refused_leaves (asked.Where name) m =
    silent Number number-tells (place_of name m.heap) m (answered (asked.Where name) m).1
    (found-leaves (block_named name m.heap) m.heap (λ held. (Ok (sizes held.at.below + 16), m.heap))
    (λ held code e. refl)) refl refl refl
