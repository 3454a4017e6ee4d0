use Rattle.heap_calls.proofs.Cited.{◌≡◌, ℕ, ◌+◌, ◌≤◌, ◌<◌, Bool, true, false, List, [], ◌∷◌, ◌++◌, length, refl, sym, ◌∙◌, ap, subst, cond}
use Rattle.heap_calls.proofs.Cited.{arith, Option, Some, None, Result, Ok, Err, nat_le, inl, inr, le-leb, option_map, ok_or, unwrap_or}
use Rattle.heap_calls.proofs.Cited.{OsErr, MEM_FULL, NIL_HANDLE, PROFILE, Block, Free, Nonrelocatable, Masters, Relocatable, count}
use Rattle.heap_calls.proofs.Cited.{is_relocatable, content_of, resized, Spot, spot, spot-passes, spot-is, total-append, Move, Write, Did}
use Rattle.heap_calls.proofs.Cited.{did, rewritten, Sought, no_room, seek_resized, seek_size, keeps, only-purgeable, did-append, size-new}
use Rattle.heap_calls.proofs.Cited.{size-weighs, State, Memory, Held, Known, held_at, handle_at, look_up, put, silent, searching, moving}
use Rattle.heap_calls.proofs.Cited.{refused, written_at, IsSizeOf, doing_silently, heap_after, reply_of, work}
use Rattle.std.specs.Prelude.{is_some}
use Rattle.heap_calls.specs.Answer as answers
use Rattle.heap_calls.specs.Rows as rows
use Rattle.heap_calls.proofs.Promises.KnownChanges.{none-spot}
use Rattle.heap_calls.proofs.Rows.Along.{Spared, is-spared}
use Rattle.heap_calls.proofs.Rows.Standing.{sized-fits}
use Rattle.heap_calls.proofs.Rows.Weighing.{alone, named-there}
use Rattle.heap_calls.proofs.Same.Growing.{same-handle}

-- SetHandleSize, and bytes that are then put: what PtrToXHand does, and Munger where the block grows.

-- what a call did in a memory
abbrev pub done_in : Memory → rows.Done (Unit {0}) → Result (Unit {0}) OsErr × Memory
done_in m d = moving (work d m.heap).lowered (searching (work d m.heap).searches (d.reply, record m { heap = heap_after d m.heap }))

-- no call that is refused was done
pub not-both : {R : Type 0} (code : OsErr) (a b : Memory)
    → (let x : Result (Unit {0}) OsErr × Memory = (Err code, a) in x) ≡ (Ok tt, b) → R
not-both code a b e =
    let never : (let r : Result (Unit {0}) OsErr = Err code in r) ≡ Ok tt = ap (λ (x : Result (Unit {0}) OsErr × Memory). x.0) e
    in cc

-- the handle of a name does not hang on the zone
pub at-same : (handle : Option ℕ) (s : State) (zone : List Block)
    → handle_at handle (let now : State = record s { zone = zone } in now) ≡ handle_at handle s
at-same None s zone = refl
at-same (Some h) s zone = refl

-- a handle that is looked up where its block is another one
pub relook : (r : Result Known OsErr) (s now : State) (held : Held) (at : Spot) → held_at r s ≡ Ok held
    → spot (is_relocatable held.number) now.zone ≡ Some at
    → held_at r now ≡ Ok (let k : Held = record { number = held.number; at = at } in k)
relook (Err code) s now held at e there = cc
relook (Ok k) s now held at e there = by_spot (spot (is_relocatable k.number) s.zone) e
  where
    found : Option Spot → Result Held OsErr
    found o = ok_or (option_map (λ (at : Spot). let held : Held = record { number = k.number; at = at } in held) o) NIL_HANDLE

    by_spot : (o : Option Spot) → found o ≡ Ok held
        → held_at (Ok k) now ≡ Ok (let h : Held = record { number = held.number; at = at } in h)
    by_spot None e = cc
    by_spot (Some old) e =
        let same : (let h : Held = record { number = k.number; at = old } in h) ≡ held = cc in
        let number : k.number ≡ held.number = ap (λ (h : Held). h.number) same in
        ap found (ap (λ (j : ℕ). spot (is_relocatable j) now.zone) number ∙ there)
        ∙ ap (λ (j : ℕ). (let r : Result Held OsErr = Ok (record { number = j; at = at }) in r)) number

-- a block that is found is counted
pub spot-count : (test : Block → Bool) (zone : List Block) (s : Spot) → spot test zone ≡ Some s → 1 ≤ count test zone
spot-count test zone s e =
    let whole : count test zone ≡ count test (s.below ++ s.here ∷ s.above) = ap (count test) (spot-is test zone s e) in
    let parts = total-append (λ b. cond {A = ℕ} (test b) 1 0) s.below (s.here ∷ s.above) in
    let here : cond {A = ℕ} (test s.here) 1 0 ≡ 1 = ap (λ (t : Bool). cond {A = ℕ} t 1 0) (spot-passes test zone s e) in
    omega (arith, whole, parts, here)

-- a block that got n bytes is there, and has them
module _ (s : State) (held : Held) (n : ℕ) (there : Spared (is_relocatable held.number) s held)
    (once : count (is_relocatable held.number) s.zone ≤ 1)
  where
    abbrev sp : Block → Bool
    sp = is_relocatable held.number

    abbrev after : List Block
    after = (did sp (seek_size n sp s.zone held.at).path s.zone).zone

    abbrev one : Block → ℕ
    one b = cond (is_relocatable held.number b) 1 0

    same : (b : Block) → one b ≡ one (resized n b)
    same (Free p) = refl
    same (Nonrelocatable id content) = refl
    same Masters = refl
    same (Relocatable id flags content) = refl

    -- the search keeps it
    still : count sp s.zone ≤ count sp after
    still = omega (
      arith,
      keeps one (λ p. refl) sp (seek_size n sp s.zone held.at).path s.zone
          (size-weighs one sp n s.zone held.at (same held.at.here) (named-there n sp s held there)
          (alone n sp s held there once)),
      only-purgeable one (λ p. refl) sp (λ b may. ap (λ (t : Bool). cond {A = ℕ} t 1 0) (there.kept b may))
          (seek_size n sp s.zone held.at).path s.zone,
    )

    pub block-there : (at : Spot) × (spot sp after ≡ Some at)
    block-there = by_spot (spot sp after) refl
      where
        by_spot : (o : Option Spot) → spot sp after ≡ o → (at : Spot) × (o ≡ Some at)
        by_spot None e = absurd (omega (arith, none-spot sp after e, still, spot-count sp s.zone held.at there.there))
        by_spot (Some at) e = (at, refl)

    pub block-fits : (seek_size n sp s.zone held.at).found ≡ true → (at : Spot) → spot sp after ≡ Some at
        → length (content_of at.here) ≡ n
    block-fits found at e =
        let named = same-handle held.number n held.at.here (spot-passes sp s.zone held.at there.there) in
        sized-fits held.number n s.zone after held.at there.there
        (λ of none. size-new of sp none n s.zone held.at sp named there.there once found) at e

-- a block that was found: its size and then bytes in it, and SetHandleSize
module _ (wanted i : ℕ) (x : List ℕ) (s : State) (held : Held)
  where
    abbrev own : Block → Bool
    own = is_relocatable held.number

    abbrev sought : ℕ → Sought
    sought n = seek_size n own s.zone held.at

    abbrev sized : ℕ → rows.Done (Unit {0})
    sized n = rows.changed own (sought n) s

    abbrev filled : rows.Done (Unit {0})
    filled = rows.sized_written own held wanted i x s

    abbrev write : List Move
    write = Write held.number i x ∷ []

-- the bytes are written as Put writes them
written-there : (handle : Option ℕ) (wanted i : ℕ) (x : List ℕ) → i + length x ≤ wanted → (m mid : Memory) (held : Held)
    → look_up handle m.heap ≡ Ok held
    → Spared (is_relocatable held.number) m.heap held → count (is_relocatable held.number) m.heap.zone ≤ 1
    → (sought wanted i x m.heap held wanted).found ≡ true → done_in m (sized wanted i x m.heap held wanted) ≡ (Ok tt, mid)
    → done_in m (filled wanted i x m.heap held) ≡ silent (put handle i x) mid
written-there handle wanted i x within m mid held is there once found e =
    ap (λ (t : Bool). whole (reply_of t tt) (did sp (cond t (path ++ write wanted i x m.heap held) path) m.heap.zone)) found
    ∙ ap (whole (Ok tt)) (did-append sp path (write wanted i x m.heap held) m.heap.zone)
    ∙ ap (λ (k : ℕ). leaves (unwrap_or (option_map (rewritten i x) (spot sp zone)) zone) (first.searches + k) (first.lowered + k))
    (let z : 0 + 0 ≡ 0 = omega arith in z)
    ∙ ap (λ (k : ℕ). leaves (unwrap_or (option_map (rewritten i x) (spot sp zone)) zone) k (first.lowered + 0))
    (let z : first.searches + 0 ≡ first.searches = omega arith in z)
    ∙ ap (λ (k : ℕ). leaves (unwrap_or (option_map (rewritten i x) (spot sp zone)) zone) first.searches k)
    (let z : first.lowered + 0 ≡ first.lowered = omega arith in z)
    ∙ ap (λ (o : Option Spot). leaves (unwrap_or (option_map (rewritten i x) o) zone) first.searches first.lowered) at.1
    ∙ sym (ap (λ (t : Bool). puts (cond {A = Result (Unit {0}) OsErr × State} t
    (Ok tt, record now { zone = rewritten i x at.0 }) (refused PROFILE now))) fits)
    ∙ sym (ap (λ (r : Result Held OsErr). puts (on r)) (relook (handle_at handle m.heap) m.heap now held at.0 is at.1))
    ∙ sym (ap (λ (r : Result Known OsErr). puts (on (held_at r now))) (at-same handle m.heap zone))
    ∙ ap (λ (y : Result (Unit {0}) OsErr × Memory). silent (put handle i x) y.1)
    (sym (ap (λ (t : Bool). whole (reply_of t tt) first) found) ∙ e)
  where
    sp : Block → Bool
    sp = is_relocatable held.number

    path : List Move
    path = (sought wanted i x m.heap held wanted).path

    first : Did
    first = did sp path m.heap.zone

    zone : List Block
    zone = first.zone

    now : State
    now = record m.heap { zone = zone }

    leaves : List Block → ℕ → ℕ → Result (Unit {0}) OsErr × Memory
    leaves z searches lowered = moving lowered (searching searches (Ok tt, record m { heap = record m.heap { zone = z } }))

    whole : Result (Unit {0}) OsErr → Did → Result (Unit {0}) OsErr × Memory
    whole reply d = moving d.lowered (searching d.searches (reply, record m { heap = record m.heap { zone = d.zone } }))

    at : (at : Spot) × (spot sp zone ≡ Some at)
    at = block-there m.heap held wanted there once

    fits : nat_le (i + length x) (length (content_of at.0.here)) ≡ true
    fits = le-leb (i + length x) (length (content_of at.0.here))
        (omega (arith, within, block-fits m.heap held wanted there once found at.0 at.1))

    -- what Put answers in the heap that is left
    mid_memory : Memory
    mid_memory = (whole (Ok tt) first).1

    puts : Result (Unit {0}) OsErr × State → Result (Unit {0}) OsErr × Memory
    puts y = (y.0, record mid_memory { heap = y.1 })

    on : Result Held OsErr → Result (Unit {0}) OsErr × State
    on r = answers.for_found r now (λ held. written_at i x held.at now)

-- the call that does so
abbrev pub filling : Option ℕ → ℕ → ℕ → List ℕ → State → rows.Done (Unit {0})
filling handle wanted i x s = rows.for_found (look_up handle s) s (λ held. rows.sized_written (is_relocatable held.number)
    held wanted i x s)

-- what is written: as Put does in what SetHandleSize leaves
pub fill-written : (handle : Option ℕ) (wanted i : ℕ) (x : List ℕ) (n : ℕ) (m mid : Memory) → IsSizeOf wanted n
    → i + length x ≤ wanted
    → ((h : ℕ) → h < length m.heap.names → count (is_relocatable h) m.heap.zone ≤ 1)
    → doing_silently (rows.set_handle_size handle n) m ≡ (Ok tt, mid)
    → doing_silently (filling handle wanted i x) m ≡ silent (put handle i x) mid
fill-written handle wanted i x n m mid size within once e = by_found (look_up handle m.heap) refl e
  where
    s : State
    s = m.heap

    by_found : (r : Result Held OsErr) → look_up handle s ≡ r
        → done_in m (rows.for_found r s (λ held. sized wanted i x s held n)) ≡ (Ok tt, mid)
        → done_in m (rows.for_found r s (λ held. filled wanted i x s held)) ≡ silent (put handle i x) mid
    by_found (Err why) is e = not-both why _ mid e
    by_found (Ok held) is e = by_size size
      where
        there : Spared (is_relocatable held.number) s held
        there = is-spared (is_relocatable held.number) handle s held is (λ b not. not)

        refused-not : {R : Type 0} → done_in m (sized wanted i x s held n) ≡ (Ok tt, mid) → (sought wanted i x s held n).found ≡ false → R
        refused-not e none =
            let never : (let r : Result (Unit {0}) OsErr = Err MEM_FULL in r) ≡ Ok tt =
            sym (ap (λ (t : Bool). reply_of t tt) none) ∙ ap (λ (y : Result (Unit {0}) OsErr × Memory). y.0) e in cc

        by_room : (t : Bool) → (sought wanted i x s held wanted).found ≡ t → done_in m (sized wanted i x s held wanted) ≡ (Ok tt, mid)
            → done_in m (filled wanted i x s held) ≡ silent (put handle i x) mid
        by_room false none e =
            let never : (let r : Result (Unit {0}) OsErr = Err MEM_FULL in r) ≡ Ok tt =
            sym (ap (λ (t : Bool). reply_of t tt) none) ∙ ap (λ (y : Result (Unit {0}) OsErr × Memory). y.0) e in cc
        by_room true found e = written-there handle wanted i x within m mid held is there (once held.number there.within) found e

        by_size : IsSizeOf wanted n → done_in m (filled wanted i x s held) ≡ silent (put handle i x) mid
        by_size (inl same) = by_room (sought wanted i x s held wanted).found refl
            (subst (λ (k : ℕ). done_in m (sized wanted i x s held k) ≡ (Ok tt, mid)) same e)
        by_size (inr (small, large)) = refused-not e
            (ap (λ (o : Option ℕ). (let r : Sought = cond (is_some o)
            (seek_resized (resized n held.at.here) (is_relocatable held.number) s.zone held.at) no_room in r).found) small)

-- PtrToXHand
pub replace-written : (handle : Option ℕ) (x : List ℕ) (n : ℕ) (m mid : Memory) → IsSizeOf (length x) n
    → ((h : ℕ) → h < length m.heap.names → count (is_relocatable h) m.heap.zone ≤ 1)
    → doing_silently (rows.set_handle_size handle n) m ≡ (Ok tt, mid)
    → doing_silently (rows.pointer_to_x_hand handle x) m ≡ silent (put handle 0 x) mid
replace-written handle x n m mid size = fill-written handle (length x) 0 x n m mid size (omega arith)
