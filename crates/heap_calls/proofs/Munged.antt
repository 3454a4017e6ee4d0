use Rattle.heap_calls.proofs.Cited.{◌≡◌, ℕ, ◌+◌, ◌-◌, ◌≤◌, ◌<◌, Bool, List, [], ◌∷◌, ◌++◌, length, take, drop, refl, sym, ◌∙◌, ap, subst}
use Rattle.heap_calls.proofs.Cited.{arith, Option, Some, Result, Ok, Err, length-drop, take_all, OsErr, written, Block, count}
use Rattle.heap_calls.proofs.Cited.{is_relocatable, content_of, resized, size, sizes, counted, spot, length-resized, counted-none}
use Rattle.heap_calls.proofs.Cited.{spot-passes, spot-is, total-append, GREATEST_ZONE, Cut, Write, Did, did, Sought, around, State, Memory}
use Rattle.heap_calls.proofs.Cited.{Held, look_up, IsSizeOf, IsAnswer, KeepsNames, HasBytes, exchanged, shifted, behind, doing_silently}
use Rattle.heap_calls.proofs.Cited.{Occurrence, Refusal, Code, HostMemory}
use Rattle.heap_calls.specs.Rows as rows
use Rattle.heap_calls.proofs.Exchanged.{exchanged-grown, exchanged-cut, grown-held, shifted-is, left_with, cutting}
use Rattle.heap_calls.proofs.Exchanged.{size-held}
use Rattle.heap_calls.proofs.Exchanging.{done_in}
use Rattle.heap_calls.proofs.Rows.Found.{look_up-within}

-- What the steps of Munger answer, where the handle has a block of so many bytes.

-- the bytes of a block that a handle leads to are among those of the zone
pub held-small : (handle : Option ℕ) (s : State) (held : Held) → look_up handle s ≡ Ok held
    → length (content_of held.at.here) ≤ sizes s.zone
held-small handle s held is =
    let test = is_relocatable held.number in
    let there = (look_up-within handle s held is).1 in
    let whole : sizes s.zone ≡ sizes (held.at.below ++ held.at.here ∷ held.at.above) = ap sizes (spot-is test s.zone held.at there)
    in
    omega (
      arith,
      whole,
      total-append size held.at.below (held.at.here ∷ held.at.above),
      size-held held.number held.at.here (spot-passes test s.zone held.at there),
    )

-- a stretch of a block that grows
module _ (handle : Option ℕ) (f : Occurrence) (x : List ℕ) (len : ℕ) (m : Memory) (has : HasBytes handle len m.heap)
    (within : f.at + f.count ≤ len) (n : ℕ) (wants : IsSizeOf (len - f.count + length x) n)
  where
    abbrev old_bytes : List ℕ
    old_bytes = content_of has.0.at.here

    stretch_ends : f.at + f.count ≤ length old_bytes
    stretch_ends = omega (arith, has.2)

    got : IsSizeOf (length old_bytes - f.count + length x) n
    got = subst (λ (l : ℕ). IsSizeOf (l - f.count + length x) n) (sym has.2) wants

    module _ (more : f.count ≤ length x)
        (once : (h : ℕ) → h < length m.heap.names → count (is_relocatable h) m.heap.zone ≤ 1)
        (mid : Memory) (e : doing_silently (rows.set_handle_size handle n) m ≡ (Ok tt, mid))
      where
        -- the zone has what is put into the block
        pub widened-fits : sizes mid.heap.zone ≤ GREATEST_ZONE → f.at + length x ≤ GREATEST_ZONE
        widened-fits small =
            let k = grown-held handle f x m has.0 has.1 stretch_ends n mid got more once e in
            omega (
              arith,
              held-small handle mid.heap k.0 k.1,
              ap length k.2,
              length-resized (length old_bytes - f.count + length x) old_bytes,
            )

        -- the answer
        pub widened-is : doing_silently (exchanged handle f x) m
            ≡ shifted handle (f.at + f.count) (f.at + length x) (len - (f.at + f.count)) f.at x mid
        widened-is = exchanged-grown handle f x m has.0 has.1 stretch_ends n mid got more once e
            ∙ ap (λ (l : ℕ). shifted handle (f.at + f.count) (f.at + length x) (l - (f.at + f.count)) f.at x mid) has.2

-- a stretch of a block that is cut
module _ (handle : Option ℕ) (f : Occurrence) (x : List ℕ) (len : ℕ) (m : Memory) (has : HasBytes handle len m.heap)
    (within : f.at + f.count ≤ len) (less : length x ≤ f.count) (small : len ≤ GREATEST_ZONE)
  where
    abbrev bytes : List ℕ
    bytes = content_of has.0.at.here

    ends : f.at + f.count ≤ length bytes
    ends = omega (arith, has.2)

    abbrev new : List ℕ
    new = x ++ behind f bytes

    abbrev wanted : ℕ
    wanted = length bytes - f.count + length x

    fits : wanted ≤ length bytes
    fits = omega arith

    few : length bytes ≤ 134217728
    few = omega (arith, has.2)

    abbrev sp : Block → Bool
    sp = is_relocatable has.0.number

    there : spot sp m.heap.zone ≡ Some has.0.at
    there = (look_up-within handle m.heap has.0 has.1).1

    -- its path
    abbrev path : Did
    path = did sp (Cut (resized wanted has.0.at.here) ∷ Write has.0.number f.at new ∷ []) m.heap.zone

    cut-row : {R : Type 0} (of : rows.Done (Unit {0}) → R)
        → of (exchanged handle f x m.heap)
        ≡ of (record {
          reply = Ok tt;
          names = m.heap.names;
          spared = sp;
          path = Cut (resized wanted has.0.at.here) ∷ Write has.0.number f.at new ∷ [];
        })
    cut-row of = ap (λ (q : Result Held OsErr). of (rows.for_found q m.heap (λ k. rows.sized_written
        (is_relocatable k.number) k (length (content_of k.at.here) - f.count + length x) f.at
        (x ++ behind f (content_of k.at.here)) m.heap))) has.1
        ∙ ap (λ (s : Sought). of (rows.changed sp (around [] (Write has.0.number f.at new ∷ []) s) m.heap))
        (cutting wanted m.heap.zone has.0 there fits few)

    -- what it leaves
    abbrev left : Memory
    left = record m { heap = record m.heap { zone = path.zone } }

    narrowed-left : doing_silently (exchanged handle f x) m ≡ (Ok tt, left)
    narrowed-left = cut-row (done_in m)
        ∙ ap (λ (k : ℕ). (let y : Result (Unit {0}) OsErr × Memory = (
          Ok tt,
          record left {
            log = record m.log { searches = k };
            moves = counted m.moves 0;
          },
        ) in y)) (counted-none m.log.searches)
        ∙ ap (λ (k : ℕ). (let y : Result (Unit {0}) OsErr × Memory = (Ok tt, record left { moves = k }) in y))
        (counted-none m.moves)

    -- the bytes that are moved down are those that stood behind
    moved-down : take (len - (f.at + f.count)) (drop (f.at + f.count) bytes) ≡ behind f bytes
    moved-down = take_all (len - (f.at + f.count)) (behind f bytes)
        (omega (arith, length-drop (f.at + f.count) bytes, has.2))

    -- they can be moved, and others written in front of them
    shifted-down : shifted handle (f.at + f.count) (f.at + length x) (len - (f.at + f.count)) f.at x m
        ≡ (Ok tt, left_with (written f.at new bytes) has.0 m)
    shifted-down = shifted-is handle m has.0 has.1 (f.at + f.count) (len - (f.at + f.count)) f.at x (omega (arith, has.2))
        (omega (arith, has.2))
        ∙ ap (λ (l : List ℕ). (let y : Result (Unit {0}) OsErr × Memory = (Ok tt, left_with (written f.at (x ++ l) bytes) has.0 m)
        in y)) moved-down

    module _ (reply : Result (Unit {0}) OsErr) (mid : Memory)
        (moved : shifted handle (f.at + f.count) (f.at + length x) (len - (f.at + f.count)) f.at x m ≡ (reply, mid))
      where
        pub narrowed-never : (code : OsErr) → reply ≡ Err code → ⊥
        narrowed-never code is =
            let never : (let r : Result (Unit {0}) OsErr = Ok tt in r) ≡ Err code =
            sym (ap (λ (y : Result (Unit {0}) OsErr × Memory). y.0) shifted-down)
            ∙ ap (λ (y : Result (Unit {0}) OsErr × Memory). y.0) moved ∙ is in cc

        mid-is : left_with (written f.at new bytes) has.0 m ≡ mid
        mid-is = sym (ap (λ (y : Result (Unit {0}) OsErr × Memory). y.1) shifted-down)
            ∙ ap (λ (y : Result (Unit {0}) OsErr × Memory). y.1) moved

        -- SetHandleSize after them
        module _ (n : ℕ) (wants : IsSizeOf (len - f.count + length x) n) (result : Result (Unit {0}) Refusal) (after : Memory)
            (e : IsAnswer (doing_silently (rows.set_handle_size handle n) mid) result after)
          where
            pub narrowed-is : IsAnswer (doing_silently (exchanged handle f x) m) result after
            narrowed-is = by_result result
                (subst (λ (k : Memory). IsAnswer (doing_silently (rows.set_handle_size handle n) k) result after) (sym mid-is) e)
              where
                sized : IsSizeOf wanted n
                sized = subst (λ (l : ℕ). IsSizeOf (l - f.count + length x) n) (sym has.2) wants

                by_result : (r : Result (Unit {0}) Refusal)
                    → IsAnswer (doing_silently (rows.set_handle_size handle n) (left_with (written f.at new bytes) has.0 m)) r after
                    → IsAnswer (doing_silently (exchanged handle f x) m) r after
                by_result (Ok u) e = exchanged-cut handle f x m after has.0 n (Ok tt) has.1 ends less few sized e
                by_result (Err (Code code)) e = exchanged-cut handle f x m after has.0 n (Err code) has.1 ends less few sized e
                by_result (Err HostMemory) e = tt

            pub narrowed-kept : (result ≡ Err HostMemory → KeepsNames mid after) → KeepsNames m after
            narrowed-kept stops = by_result result narrowed-is stops
              where
                by_result : (r : Result (Unit {0}) Refusal) → IsAnswer (doing_silently (exchanged handle f x) m) r after
                    → (r ≡ Err HostMemory → KeepsNames mid after) → KeepsNames m after
                by_result (Ok u) e stops = subst (KeepsNames m)
                    (ap (λ (y : Result (Unit {0}) OsErr × Memory). y.1) (sym narrowed-left ∙ e)) refl
                by_result (Err (Code code)) e stops =
                    let never : (let r : Result (Unit {0}) OsErr = Ok tt in r) ≡ Err code =
                    ap (λ (y : Result (Unit {0}) OsErr × Memory). y.0) (sym narrowed-left ∙ e) in cc
                by_result (Err HostMemory) e stops =
                    subst (λ (k : Memory). KeepsNames k after) (sym mid-is) (stops refl)
