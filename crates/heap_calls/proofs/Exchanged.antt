use Rattle.heap_calls.proofs.Cited.{◌≡◌, ℕ, ◌+◌, ◌-◌, ◌≤◌, Bool, true, false, List, [], ◌∷◌, ◌++◌, length, take, drop, refl, sym, ◌∙◌, ap}
use Rattle.heap_calls.proofs.Cited.{cond, arith, Option, Some, None, Result, Ok, Err, nat_le, slice_get, ◌<◌, ◌&&◌, ◌==◌, not, subst}
use Rattle.heap_calls.proofs.Cited.{replicate, inl, inr, is_some, ◌||◌, append-nil, cond-true, cond-false, le-leb, or_parts, length-append}
use Rattle.heap_calls.proofs.Cited.{length-drop, length-take-le, take-append-le, take-take, drop-append-le, take_all, none-some, same_Some}
use Rattle.heap_calls.proofs.Cited.{drop-append_seam, take-append_seam, option_map, OsErr, PROFILE, WRONG_ZONE, MEM_FULL, written, Block}
use Rattle.heap_calls.proofs.Cited.{Free, Nonrelocatable, Masters, Relocatable, is_relocatable, content_of, with_content, total, count}
use Rattle.heap_calls.proofs.Cited.{resized, resized_content, size, tidy, is_free, Spot, spot, raised, filled, length-written, spot-passes}
use Rattle.heap_calls.proofs.Cited.{spot-is, has-tidy, State, Memory, Meaning, Handle, Pointer, Disposed, Held, for_found, handle_at}
use Rattle.heap_calls.proofs.Cited.{held_at, known_as, look_up, put, refused, silent, written_at, moving, searching, block_named}
use Rattle.heap_calls.proofs.Cited.{named_block, block_move, moved_into, then_do, shifted, exchanged, doing_silently, heap_after, reply_of}
use Rattle.heap_calls.proofs.Cited.{bytes_eq-Decides, bytes_eq, unwrap_or, length-resized, size-resized, is_relocatable-resized, SeesNoFree}
use Rattle.heap_calls.proofs.Cited.{unless, total-append, total-le, Sought, no_room, seek_resized, seek_size, at_hand, around, size-new}
use Rattle.heap_calls.proofs.Cited.{behind, Occurrence, IsSizeOf, drop_of_length-le, phys, padded, has, tidy-parted, is_relocatable-content}
use Rattle.heap_calls.proofs.Cited.{Cut, Write, is_same, rewritten}
use Rattle.std.proofs.lemmas.List.{append_assoc}
use Rattle.heap_calls.specs.Rows as rows
use Rattle.heap_calls.proofs.Exchanging.{at-same, relook, done_in, filling, fill-written, block-there}
use Rattle.heap_calls.proofs.Finding.{behind-fits}
use Rattle.heap_calls.proofs.Rows.Along.{Spared, is-spared}
use Rattle.heap_calls.proofs.Same.Growing.{same-handle}
use Rattle.heap_calls.proofs.Rows.Found.{look_up-within}

-- What a heap is left after bytes of a handle's block are moved, and others written in front of them.

-- two stretches of bytes, the second written first, are written as one
pub written-twice : (at : ℕ) (x b c : List ℕ) → at + length x + length b ≤ length c
    → written at x (written (at + length x) b c) ≡ written at (x ++ b) c
written-twice at x b c fits =
    ap (λ (l : List ℕ). take at whole ++ x ++ l) past
    ∙ ap (λ (l : List ℕ). l ++ x ++ (b ++ rest)) front
    ∙ sym (append_assoc (take at c ++ x) b rest)
    ∙ ap (λ (l : List ℕ). l ++ rest) (append_assoc (take at c) x b)
    ∙ ap (λ (k : ℕ). take at c ++ (x ++ b) ++ drop k c) (omega (arith, length-append x b))
  where
    p : ℕ
    p = at + length x

    rest : List ℕ
    rest = drop (p + length b) c

    whole : List ℕ
    whole = take p c ++ b ++ rest

    long : length (take p c) ≡ p
    long = length-take-le p c (omega arith)

    -- grouped as the front and what follows it
    parted : whole ≡ take p c ++ (b ++ rest)
    parted = append_assoc (take p c) b rest

    past : drop p whole ≡ b ++ rest
    past = ap (drop p) parted ∙ ap (λ (k : ℕ). drop k (take p c ++ (b ++ rest))) (sym long)
        ∙ drop-append_seam (take p c) (b ++ rest)

    front : take at whole ≡ take at c
    front = ap (take at) parted ∙ take-append-le at (take p c) (b ++ rest) (omega (arith, long))
        ∙ take-take at p c (omega arith)

-- another block in the place of the one that was found
pub spot-swapped : (test : Block → Bool) (zone : List Block) (at : Spot) (b : Block) → spot test zone ≡ Some at → test b ≡ true
    → spot test (at.below ++ b ∷ at.above) ≡ Some (record { below = at.below; here = b; above = at.above })
spot-swapped test [] at b e passes = absurd (none-some _ e)
spot-swapped test (c ∷ zone) at b e passes = cases (test c) refl (spot test zone) (λ s is. spot-swapped test zone s b is passes) e
  where
    Swapped : Spot → Type 0
    Swapped s = spot test (s.below ++ b ∷ s.above) ≡ Some (record { below = s.below; here = b; above = s.above })

    cases : (t : Bool) → test c ≡ t → (o : Option Spot) → ((s : Spot) → o ≡ Some s → Swapped s)
        → cond t (Some (record { below = []; here = c; above = zone })) (option_map (raised c) o) ≡ Some at → Swapped at
    cases true is o rest e =
        subst Swapped (same_Some _ _ e) (cond-true (test b) _ _ passes)
    cases false is None rest e = absurd (none-some _ e)
    cases false is (Some s) rest e =
        subst Swapped (same_Some _ _ e) (cond-false (test c) _ _ is ∙ ap (option_map (raised c)) (rest s refl))

-- a handle that has a block leads there as a name of either kind
pub named-handle : (handle : Option ℕ) (s : State) (held : Held) → look_up handle s ≡ Ok held → block_named handle s ≡ Ok held
named-handle None s held is = cc
named-handle (Some h) s held is = by_name (slice_get s.names h) refl
  where
    by_name : (o : Option Meaning) → slice_get s.names h ≡ o → named_block h o s ≡ Ok held
    by_name None e = is
    by_name (Some (Handle role)) e = is
    by_name (Some Pointer) e =
        let never : (let r : Result Held OsErr = Err WRONG_ZONE in r) ≡ Ok held =
        sym (ap (λ (o : Option Meaning). held_at (known_as h o) s) e) ∙ is in cc
    by_name (Some Disposed) e = is

-- the content of a block that a handle leads to
content-with : (k : ℕ) (x : List ℕ) (b : Block) → is_relocatable k b ≡ true → content_of (with_content x b) ≡ x
content-with k x (Free n) e = cc
content-with k x (Nonrelocatable id content) e = cc
content-with k x Masters e = cc
content-with k x (Relocatable id flags content) e = refl

with-twice : (x y : List ℕ) (b : Block) → with_content y (with_content x b) ≡ with_content y b
with-twice x y (Free n) = refl
with-twice x y (Nonrelocatable id content) = refl
with-twice x y Masters = refl
with-twice x y (Relocatable id flags content) = refl

-- the block that was found, with other bytes in it
abbrev pub changed : List ℕ → Held → Held
changed x held = record {
  number = held.number;
  at = record { below = held.at.below; here = with_content x held.at.here; above = held.at.above };
}

abbrev pub zone_with : List ℕ → Held → List Block
zone_with x held = held.at.below ++ with_content x held.at.here ∷ held.at.above

abbrev pub left_with : List ℕ → Held → Memory → Memory
left_with x held m = record m { heap = record m.heap { zone = zone_with x held } }

-- the handle leads to it
pub look-changed : (handle : Option ℕ) (m : Memory) (held : Held) (x : List ℕ) → look_up handle m.heap ≡ Ok held
    → look_up handle (left_with x held m).heap ≡ Ok (changed x held)
look-changed handle m held x is =
    let there = (look_up-within handle m.heap held is).1 in
    let test = is_relocatable held.number in
    let now : State = (left_with x held m).heap in
    ap (λ r. held_at r now) (at-same handle m.heap (zone_with x held))
    ∙ relook (handle_at handle m.heap) m.heap now held (changed x held).at is
    (spot-swapped test m.heap.zone held.at (with_content x held.at.here) there
    (is_relocatable-content held.number x held.at.here ∙ spot-passes test m.heap.zone held.at there))

-- what Put and BlockMove leave
module _ (handle : Option ℕ) (m : Memory) (held : Held) (is : look_up handle m.heap ≡ Ok held)
  where
    abbrev c : List ℕ
    c = content_of held.at.here

    pub put-is : (k : ℕ) (x : List ℕ) → k + length x ≤ length c
        → silent (put handle k x) m ≡ (Ok tt, left_with (written k x c) held m)
    put-is k x fits =
        ap (λ (r : Result Held OsErr). silent (λ s. for_found r s (λ b. written_at k x b.at s)) m) is
        ∙ ap (λ (t : Bool). silent {T = Unit {0}} (λ s. cond t (Ok tt, record s { zone = zone_with (written k x c) held })
        (refused PROFILE s)) m) (le-leb (k + length x) (length c) fits)

    pub move-is : (i j n : ℕ) → i + n ≤ length c → j + n ≤ length c
        → silent (block_move handle i handle j n) m ≡ (Ok tt, left_with (written j (take n (drop i c)) c) held m)
    move-is i j n fits within =
        ap (λ (r : Result Held OsErr). silent (λ s. for_found r s (λ a. for_found r s (moved_into i j n a s))) m)
        (named-handle handle m.heap held is)
        ∙ ap (λ (t : Bool). silent {T = Unit {0}} (λ s. cond t (written_at j (take n (drop i c)) held.at s)
        (refused PROFILE s)) m) (le-leb (i + n) (length c) fits)
        ∙ ap (λ (t : Bool). silent {T = Unit {0}} (λ s. cond t
        (Ok tt, record s { zone = zone_with (written j (take n (drop i c)) c) held }) (refused PROFILE s)) m)
        (le-leb (j + length (take n (drop i c))) (length c) (omega (arith, long)))
      where
        long : length (take n (drop i c)) ≡ n
        long = length-take-le n (drop i c) (omega (arith, length-drop i c))

-- bytes moved up or down behind others, which are then written: as if both were written at once
pub shifted-is : (handle : Option ℕ) (m : Memory) (held : Held) → look_up handle m.heap ≡ Ok held → (i n k : ℕ) (x : List ℕ)
    → i + n ≤ length (content_of held.at.here) → k + length x + n ≤ length (content_of held.at.here)
    → shifted handle i (k + length x) n k x m
    ≡ (Ok tt, left_with (written k (x ++ take n (drop i (content_of held.at.here))) (content_of held.at.here)) held m)
shifted-is handle m held is i n k x fits within =
    ap (λ (r : Result (Unit {0}) OsErr × Memory). then_do r (silent (put handle k x)))
    (move-is handle m held is i (k + length x) n fits within)
    ∙ put-is handle mid (changed moved held) (look-changed handle m held moved is) k x (omega (arith, same-length))
    ∙ ap (λ (b : Block). (let y : Result (Unit {0}) OsErr × Memory = (
      Ok tt,
      record m { heap = record m.heap { zone = held.at.below ++ b ∷ held.at.above } },
    ) in y)) (ap (λ (l : List ℕ). with_content (written k x l) (with_content moved held.at.here)) content
    ∙ with-twice moved (written k x moved) held.at.here
    ∙ ap (λ (l : List ℕ). with_content l held.at.here) (written-twice k x part c (omega (arith, long))))
  where
    c : List ℕ
    c = content_of held.at.here

    part : List ℕ
    part = take n (drop i c)

    moved : List ℕ
    moved = written (k + length x) part c

    mid : Memory
    mid = left_with moved held m

    long : length part ≡ n
    long = length-take-le n (drop i c) (omega (arith, length-drop i c))

    content : content_of (with_content moved held.at.here) ≡ moved
    content = content-with held.number moved held.at.here
        (spot-passes (is_relocatable held.number) m.heap.zone held.at (look_up-within handle m.heap held is).1)

    same-length : length (content_of (with_content moved held.at.here)) ≡ length c
    same-length = ap length content ∙ length-written (k + length x) part c (omega (arith, long))

-- a handle's block that got a size passes what its bytes at that size pass
abbrev misplaced : (List ℕ → Bool) → ℕ → Block → ℕ
misplaced p k b = cond (is_relocatable k b && not (p (content_of b))) 1 0

sized-passes : (p : List ℕ → Bool) (k n : ℕ) (zone z : List Block) (s : Spot) → spot (is_relocatable k) zone ≡ Some s
    → p (resized_content n (content_of s.here)) ≡ true
    → ((of : Block → ℕ) → SeesNoFree of → total of z ≤ of (resized n s.here) + total (unless (is_relocatable k) of) zone)
    → (at : Spot) → spot (is_relocatable k) z ≡ Some at → p (content_of at.here) ≡ true
sized-passes p k n zone z s was holds less at found =
    let l = less (misplaced p k) (λ m. refl) in
    let o = total-le (unless (is_relocatable k) (misplaced p k)) (λ b. 0) none zone in
    let new = fits s.here (spot-passes (is_relocatable k) zone s was) holds in
    let whole : total (misplaced p k) z ≡ total (misplaced p k) (at.below ++ at.here ∷ at.above) =
    ap (total (misplaced p k)) (spot-is (is_relocatable k) z at found) in
    let few : misplaced p k at.here ≤ 0 = omega (
      arith,
      total-append (misplaced p k) at.below (at.here ∷ at.above),
      nothing_there zone,
    ) in
    let here : misplaced p k at.here ≡ cond (not (p (content_of at.here))) 1 0 =
    ap {B = ℕ} (λ (t : Bool). cond (t && not (p (content_of at.here))) 1 0) (spot-passes (is_relocatable k) z at found) in
    by_test (p (content_of at.here)) refl (omega arith)
  where
    fits : (b : Block) → is_relocatable k b ≡ true → p (resized_content n (content_of b)) ≡ true
        → misplaced p k (resized n b) ≡ 0
    fits (Free m) passes holds = refl
    fits (Nonrelocatable id content) passes holds = refl
    fits Masters passes holds = refl
    fits (Relocatable id flags content) passes holds =
        cond-false (id == k && not (p (resized_content n content))) 1 0 (rw (passes, holds) refl)

    none : (b : Block) → unless (is_relocatable k) (misplaced p k) b ≤ 0
    none b = cases (is_relocatable k b) (not (p (content_of b)))
      where
        cases : (t u : Bool) → cond {A = ℕ} t 0 (cond (t && u) 1 0) ≤ 0
        cases true u = omega arith
        cases false u = omega arith

    nothing_there : (bs : List Block) → total (λ b. 0) bs ≡ 0
    nothing_there [] = refl
    nothing_there (b ∷ bs) = omega (arith, nothing_there bs)

    by_test : (t : Bool) → p (content_of at.here) ≡ t → cond {A = ℕ} (not t) 1 0 ≤ 0 → p (content_of at.here) ≡ true
    by_test true is le = is
    by_test false is le = absurd (omega arith)

-- a stretch that is replaced, of a block that was found
module _ (handle : Option ℕ) (f : Occurrence) (x : List ℕ) (m : Memory) (held : Held) (is : look_up handle m.heap ≡ Ok held)
    (within : f.at + f.count ≤ length (content_of held.at.here))
  where
    abbrev bytes : List ℕ
    bytes = content_of held.at.here

    abbrev wanted : ℕ
    wanted = length bytes - f.count + length x

    abbrev new : List ℕ
    new = x ++ behind f bytes

    abbrev left : ℕ
    left = length bytes - (f.at + f.count)

    -- it is a size, and bytes that are put
    pub exchanged-is : exchanged handle f x m.heap ≡ filling handle wanted f.at new m.heap
    exchanged-is = ap (λ (r : Result Held OsErr). rows.for_found r m.heap (λ k. rows.sized_written (is_relocatable k.number) k
        (length (content_of k.at.here) - f.count + length x) f.at (x ++ behind f (content_of k.at.here)) m.heap)) is
        ∙ sym (ap (λ (r : Result Held OsErr). rows.for_found r m.heap (λ k. rows.sized_written (is_relocatable k.number) k
        wanted f.at new m.heap)) is)

    -- where the block grows, it is what SetHandleSize leaves, with bytes moved up and others written
    module _ (n : ℕ) (mid : Memory) (size : IsSizeOf wanted n) (more : f.count ≤ length x)
        (once : (h : ℕ) → h < length m.heap.names → count (is_relocatable h) m.heap.zone ≤ 1)
        (e : doing_silently (rows.set_handle_size handle n) m ≡ (Ok tt, mid))
      where
        there : Spared (is_relocatable held.number) m.heap held
        there = is-spared (is_relocatable held.number) handle m.heap held is (λ b not. not)

        -- the block in what SetHandleSize leaves, and its bytes
        pub grown-held : (k : Held) × (look_up handle mid.heap ≡ Ok k) × (content_of k.at.here ≡ resized_content wanted bytes)
        grown-held = by_size size
          where
            sp : Block → Bool
            sp = is_relocatable held.number

            sized : ℕ → rows.Done (Unit {0})
            sized k = rows.changed sp (seek_size k sp m.heap.zone held.at) m.heap

            so : done_in m (sized n) ≡ (Ok tt, mid)
            so = sym (ap (λ (r : Result Held OsErr). done_in m (rows.for_found r m.heap (λ k. rows.changed
                (is_relocatable k.number) (seek_size n (is_relocatable k.number) m.heap.zone k.at) m.heap))) is) ∙ e

            by_room : (t : Bool) → (seek_size wanted sp m.heap.zone held.at).found ≡ t → done_in m (sized wanted) ≡ (Ok tt, mid)
                → (k : Held) × (look_up handle mid.heap ≡ Ok k) × (content_of k.at.here ≡ resized_content wanted bytes)
            by_room false none done =
                let never : (let r : Result (Unit {0}) OsErr = Err MEM_FULL in r) ≡ Ok tt =
                sym (ap (λ (t : Bool). reply_of t tt) none) ∙ ap (λ (y : Result (Unit {0}) OsErr × Memory). y.0) done in cc
            by_room true found done =
                let at = block-there m.heap held wanted there (once held.number there.within) in
                let after : State = heap_after (sized wanted) m.heap in
                let heap : mid.heap ≡ after = sym (ap (λ (y : Result (Unit {0}) OsErr × Memory). y.1.heap) done) in
                let k : Held = record { number = held.number; at = at.0 } in
                let named = same-handle held.number wanted held.at.here (spot-passes sp m.heap.zone held.at there.there) in (
                  k,
                  ap (look_up handle) heap
                      ∙ ap (λ r. held_at r after) (at-same handle m.heap after.zone)
                      ∙ relook (handle_at handle m.heap) m.heap after held at.0 is at.1,
                  (bytes_eq-Decides (content_of at.0.here) (resized_content wanted bytes)).0
                      (sized-passes (λ l. bytes_eq l (resized_content wanted bytes)) held.number wanted m.heap.zone after.zone
                      held.at there.there
                      ((bytes_eq-Decides (resized_content wanted bytes) (resized_content wanted bytes)).1 refl)
                      (λ of none. size-new of sp none wanted m.heap.zone held.at sp named there.there
                      (once held.number there.within) found) at.0 at.1),
                )

            by_size : IsSizeOf wanted n
                → (k : Held) × (look_up handle mid.heap ≡ Ok k) × (content_of k.at.here ≡ resized_content wanted bytes)
            by_size (inl same) = by_room (seek_size wanted sp m.heap.zone held.at).found refl
                (subst (λ (k : ℕ). done_in m (sized k) ≡ (Ok tt, mid)) same so)
            by_size (inr (small, large)) =
                let none : (seek_size n sp m.heap.zone held.at).found ≡ false =
                ap (λ (o : Option ℕ). (let r : Sought = cond (is_some o) (seek_resized (resized n held.at.here) sp m.heap.zone
                held.at) no_room in r).found) small in
                let never : (let r : Result (Unit {0}) OsErr = Err MEM_FULL in r) ≡ Ok tt =
                sym (ap (λ (t : Bool). reply_of t tt) none) ∙ ap (λ (y : Result (Unit {0}) OsErr × Memory). y.0) so in cc

        -- the bytes that are moved up are those that stood behind
        moved-up : take left (drop (f.at + f.count) (resized_content wanted bytes)) ≡ behind f bytes
        moved-up = ap (λ (l : List ℕ). take left (drop (f.at + f.count) (l ++ zeros))) (take_all wanted bytes (omega arith))
            ∙ ap (take left) (drop-append-le (f.at + f.count) bytes zeros within)
            ∙ take-append-le left (behind f bytes) zeros (omega (arith, length-drop (f.at + f.count) bytes))
            ∙ take_all left (behind f bytes) (omega (arith, length-drop (f.at + f.count) bytes))
          where
            zeros : List ℕ
            zeros = replicate (wanted - length bytes) 0

        pub exchanged-grown : doing_silently (exchanged handle f x) m
            ≡ shifted handle (f.at + f.count) (f.at + length x) left f.at x mid
        exchanged-grown =
            let k = grown-held in
            let long : length (content_of k.0.at.here) ≡ wanted = ap length k.2 ∙ length-resized wanted bytes in
            let ends = behind-fits f x bytes within in
            ap (done_in m) exchanged-is
            ∙ fill-written handle wanted f.at new n m mid size (omega (arith, ends)) once e
            ∙ put-is handle mid k.0 k.1 f.at new (omega (arith, ends, long))
            ∙ ap (λ (b : List ℕ). (let y : Result (Unit {0}) OsErr × Memory =
            (Ok tt, left_with (written f.at (x ++ b) (content_of k.0.at.here)) k.0 mid) in y))
            (sym (ap (λ (l : List ℕ). take left (drop (f.at + f.count) l)) k.2 ∙ moved-up))
            ∙ sym (shifted-is handle mid k.0 k.1 (f.at + f.count) left f.at x (omega (arith, long)) (omega (arith, long)))

-- bytes that end where a block is cut are written before it is cut, or after
cut-written : (at : ℕ) (y c : List ℕ) (n : ℕ) → at + length y ≡ n → n ≤ length c
    → written at y (resized_content n c) ≡ resized_content n (written at y c)
cut-written at y c n ends fits =
    ap (λ (l : List ℕ). take at (resized_content n c) ++ y ++ l) past
    ∙ append-nil (take at (resized_content n c) ++ y)
    ∙ ap (λ (l : List ℕ). l ++ y) front
    ∙ sym whole
    ∙ sym (append-nil (take n (written at y c)))
    ∙ ap (λ (k : ℕ). take n (written at y c) ++ replicate k 0) none
  where
    past : drop (at + length y) (resized_content n c) ≡ []
    past = drop_of_length-le (resized_content n c) (omega (arith, length-resized n c))

    front : take at (resized_content n c) ≡ take at c
    front = take-append-le at (take n c) (replicate (n - length c) 0) (omega (arith, length-take-le n c fits))
        ∙ take-take at n c (omega arith)

    seam : length (take at c ++ y) ≡ n
    seam = omega (arith, length-append (take at c) y, length-take-le at c (omega arith))

    whole : take n (written at y c) ≡ take at c ++ y
    whole = ap (λ (k : ℕ). take k (written at y c)) (sym seam)
        ∙ take-append_seam (take at c ++ y) (drop (at + length y) c)

    none : 0 ≡ n - length (written at y c)
    none = omega (arith, length-written at y c (omega arith))

-- the block that is cut, with the bytes that are written
cut-block : (k at n : ℕ) (y : List ℕ) (b : Block) → is_relocatable k b ≡ true → at + length y ≡ n → n ≤ length (content_of b)
    → with_content (written at y (content_of (resized n b))) (resized n b)
    ≡ resized n (with_content (written at y (content_of b)) b)
cut-block k at n y (Free m) passes ends fits = cc
cut-block k at n y (Nonrelocatable id content) passes ends fits = cc
cut-block k at n y Masters passes ends fits = cc
cut-block k at n y (Relocatable id flags content) passes ends fits =
    ap (Relocatable id flags) (cut-written at y content n ends fits)

-- a block that a handle leads to has its bytes padded
pub size-held : (k : ℕ) (b : Block) → is_relocatable k b ≡ true → size b ≡ padded (length (content_of b))
size-held k (Free m) passes = cc
size-held k (Nonrelocatable id content) passes = cc
size-held k Masters passes = cc
size-held k (Relocatable id flags content) passes = refl

solid : (k : ℕ) (b : Block) → is_relocatable k b ≡ true → is_free b ≡ false
solid k (Free m) passes = cc
solid k (Nonrelocatable id content) passes = refl
solid k Masters passes = refl
solid k (Relocatable id flags content) passes = refl

-- the lowest block that passes, where none below it does
pub spot-parted : (test : Block → Bool) (below : List Block) (b : Block) (above : List Block) → has test below ≡ false → test b ≡ true
    → spot test (below ++ b ∷ above) ≡ Some (record { below = below; here = b; above = above })
spot-parted test [] b above none passes = cond-true (test b) _ _ passes
spot-parted test (c ∷ below) b above none passes =
    let parts = or_parts (test c) (has test below) none in
    cond-false (test c) _ _ parts.0
    ∙ ap (option_map (raised c)) (spot-parted test below b above parts.1 passes)

none-below : (test : Block → Bool) (zone : List Block) (at : Spot) → spot test zone ≡ Some at → has test at.below ≡ false
none-below test [] at e = absurd (none-some _ e)
none-below test (c ∷ zone) at e = cases (test c) refl (spot test zone) (none-below test zone) e
  where
    cases : (t : Bool) → test c ≡ t → (o : Option Spot) → ((s : Spot) → o ≡ Some s → has test s.below ≡ false)
        → cond t (Some (record { below = []; here = c; above = zone })) (option_map (raised c) o) ≡ Some at
        → has test at.below ≡ false
    cases true is o rest e = ap (λ (s : Spot). has test s.below) (sym (same_Some _ _ e))
    cases false is None rest e = absurd (none-some _ e)
    cases false is (Some s) rest e = ap (λ (s : Spot). has test s.below) (sym (same_Some _ _ e))
        ∙ ap (λ (t : Bool). t || has test s.below) is ∙ rest s refl

-- a block that is cut to n bytes
module _ (n : ℕ) (zone : List Block) (held : Held) (there : spot (is_relocatable held.number) zone ≡ Some held.at)
    (fits : n ≤ length (content_of held.at.here)) (small : length (content_of held.at.here) ≤ 134217728)
  where
    abbrev own : Block → Bool
    own = is_relocatable held.number

    abbrev cut : Block
    cut = resized n held.at.here

    passes : own held.at.here ≡ true
    passes = spot-passes own zone held.at there

    abbrev rest_above : List Block
    rest_above = tidy (Free (size held.at.here - size cut) ∷ held.at.above)

    pub cutting : seek_size n own zone held.at ≡ at_hand (Cut cut ∷ [])
    cutting = ap (λ (t : Bool). cond (is_some (cond {A = Option ℕ} t (Some (padded n)) None))
        (seek_resized cut own zone held.at) no_room) (le-leb n 2147483616 (omega arith))
        ∙ cond-true (nat_le (size cut) (size held.at.here)) _ _ (le-leb (size cut) (size held.at.here)
        (omega (arith, size-resized held.number n held.at.here passes, size-held held.number held.at.here passes)))

    pub cut-zone : unwrap_or (option_map (filled cut) (spot (is_same cut) zone)) zone
        ≡ tidy held.at.below ++ cut ∷ rest_above
    cut-zone =
        ap (λ (t : Block → Bool). unwrap_or (option_map (filled cut) (spot t zone)) zone)
        (same-handle held.number n held.at.here passes)
        ∙ ap (λ (o : Option Spot). unwrap_or (option_map (filled cut) o) zone) there
        ∙ tidy-parted held.at.below cut (Free (size held.at.here - size cut) ∷ held.at.above)
        (solid held.number cut (is_relocatable-resized held.number n held.at.here ∙ passes))

    -- with bytes that are written into it
    pub cut-spot : spot own (tidy held.at.below ++ cut ∷ rest_above)
        ≡ Some (record { below = tidy held.at.below; here = cut; above = rest_above })
    cut-spot = spot-parted own (tidy held.at.below) cut rest_above
        (has-tidy own (λ k. refl) held.at.below ∙ none-below own zone held.at there)
        (is_relocatable-resized held.number n held.at.here ∙ passes)

-- where the block is cut, it is SetHandleSize in what is left by bytes that are moved down and others that are written
pub exchanged-cut : (handle : Option ℕ) (f : Occurrence) (x : List ℕ) (m after : Memory) (held : Held) (n : ℕ)
    (r : Result (Unit {0}) OsErr) → look_up handle m.heap ≡ Ok held → f.at + f.count ≤ length (content_of held.at.here)
    → length x ≤ f.count → length (content_of held.at.here) ≤ 134217728
    → IsSizeOf (length (content_of held.at.here) - f.count + length x) n
    → doing_silently (rows.set_handle_size handle n)
    (left_with (written f.at (x ++ behind f (content_of held.at.here)) (content_of held.at.here)) held m) ≡ (r, after)
    → doing_silently (exchanged handle f x) m ≡ (r, after)
exchanged-cut handle f x m after held n r is within less small sized e = by_size sized
  where
    bytes : List ℕ
    bytes = content_of held.at.here

    wanted : ℕ
    wanted = length bytes - f.count + length x

    new : List ℕ
    new = x ++ behind f bytes

    sp : Block → Bool
    sp = is_relocatable held.number

    there : spot sp m.heap.zone ≡ Some held.at
    there = (look_up-within handle m.heap held is).1

    content : List ℕ
    content = written f.at new bytes

    mid : Memory
    mid = left_with content held m

    now : Held
    now = changed content held

    long : length (content_of now.at.here) ≡ length bytes
    long = ap length (content-with held.number content held.at.here (spot-passes sp m.heap.zone held.at there))
        ∙ length-written f.at new bytes (omega (arith, behind-fits f x bytes within))

    stands : spot sp mid.heap.zone ≡ Some now.at
    stands = spot-swapped sp m.heap.zone held.at (with_content content held.at.here) there
        (is_relocatable-content held.number content held.at.here ∙ spot-passes sp m.heap.zone held.at there)

    -- what each path does to the zone
    done_zone : List Block → Result (Unit {0}) OsErr × Memory
    done_zone z = moving 0 (searching 0 (Ok tt, record m { heap = record m.heap { zone = z } }))

    fits : wanted ≤ length bytes
    fits = omega arith

    by_row : done_in m (filling handle wanted f.at new m.heap)
        ≡ done_zone (tidy held.at.below
        ++ with_content (written f.at new (content_of (resized wanted held.at.here))) (resized wanted held.at.here)
        ∷ tidy (Free (size held.at.here - size (resized wanted held.at.here)) ∷ held.at.above))
    by_row = ap (λ (q : Result Held OsErr). done_in m (rows.for_found q m.heap (λ k. rows.sized_written
        (is_relocatable k.number) k wanted f.at new m.heap))) is
        ∙ ap (λ (s : Sought). done_in m (rows.changed sp (around [] (Write held.number f.at new ∷ []) s) m.heap))
        (cutting wanted m.heap.zone held there fits small)
        ∙ ap (λ (z : List Block). done_zone (unwrap_or (option_map (rewritten f.at new) (spot sp z)) z))
        (cut-zone wanted m.heap.zone held there fits small)
        ∙ ap (λ (o : Option Spot). done_zone (unwrap_or (option_map (rewritten f.at new) o)
        (tidy held.at.below ++ resized wanted held.at.here
        ∷ tidy (Free (size held.at.here - size (resized wanted held.at.here)) ∷ held.at.above))))
        (cut-spot wanted m.heap.zone held there fits small)

    by_steps : doing_silently (rows.set_handle_size handle wanted) mid
        ≡ done_zone (tidy held.at.below ++ resized wanted now.at.here
        ∷ tidy (Free (size now.at.here - size (resized wanted now.at.here)) ∷ held.at.above))
    by_steps = ap (λ (q : Result Held OsErr). done_in mid (rows.for_found q mid.heap (λ k. rows.changed
        (is_relocatable k.number) (seek_size wanted (is_relocatable k.number) mid.heap.zone k.at) mid.heap)))
        (look-changed handle m held content is)
        ∙ ap (λ (s : Sought). done_in mid (rows.changed sp s mid.heap))
        (cutting wanted mid.heap.zone now stands (omega (arith, long)) (omega (arith, long)))
        ∙ ap done_zone (cut-zone wanted mid.heap.zone now stands (omega (arith, long)) (omega (arith, long)))

    same : done_zone (tidy held.at.below ++ resized wanted now.at.here
        ∷ tidy (Free (size now.at.here - size (resized wanted now.at.here)) ∷ held.at.above))
        ≡ done_zone (tidy held.at.below
        ++ with_content (written f.at new (content_of (resized wanted held.at.here))) (resized wanted held.at.here)
        ∷ tidy (Free (size held.at.here - size (resized wanted held.at.here)) ∷ held.at.above))
    same =
        let p = spot-passes sp m.heap.zone held.at there in
        let q = spot-passes sp mid.heap.zone now.at stands in
        ap (λ (k : ℕ). done_zone (tidy held.at.below ++ resized wanted now.at.here ∷ tidy (Free k ∷ held.at.above)))
        (omega (
          arith,
          ap padded long,
          size-held held.number now.at.here q,
          size-held held.number held.at.here p,
          size-resized held.number wanted now.at.here q,
          size-resized held.number wanted held.at.here p,
        ))
        ∙ ap (λ (b : Block). done_zone (tidy held.at.below ++ b
        ∷ tidy (Free (size held.at.here - size (resized wanted held.at.here)) ∷ held.at.above)))
        (sym (cut-block held.number f.at wanted new held.at.here p (omega (arith, behind-fits f x bytes within)) fits))

    by_size : IsSizeOf wanted n → doing_silently (exchanged handle f x) m ≡ (r, after)
    by_size (inl k) = ap (done_in m) (exchanged-is handle f x m held is within) ∙ by_row ∙ sym same ∙ sym by_steps
        ∙ ap (λ (i : ℕ). doing_silently (rows.set_handle_size handle i) mid) (sym k) ∙ e
    by_size (inr (none, large)) =
        let some : phys wanted ≡ Some (padded wanted) =
        cond-true (nat_le wanted 2147483616) _ _ (le-leb wanted 2147483616 (omega arith)) in
        absurd (none-some _ (sym large ∙ some))
