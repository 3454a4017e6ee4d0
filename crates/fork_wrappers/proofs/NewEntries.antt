use Rattle.fork_wrappers.proofs.Cited.{◌≡◌, ℕ, zero, suc, ◌+◌, ◌-◌, ◌*◌, ◌<◌, ◌≤◌, Bool, true, false, ◌&&◌, ◌||◌, cond, List, [], ◌∷◌, ◌++◌}
use Rattle.fork_wrappers.proofs.Cited.{length, take, drop, refl, sym, ◌∙◌, ap, arith, length-append, ◌⊎◌, inl, inr, ◌==◌, nat_le, list_all}
use Rattle.fork_wrappers.proofs.Cited.{flat_map, append_assoc, drop-append_seam, and_parts, or_cases, leb-true, le-leb, eqb-true, cond-true}
use Rattle.fork_wrappers.proofs.Cited.{cond-false, append-nil, length-drop, length-take-le, take-append-drop, big_bytes, number, part}
use Rattle.fork_wrappers.proofs.Cited.{offsets, StandsAt, stands_whole, stands_first, stands_second, stands_same, stands_inside}
use Rattle.fork_wrappers.proofs.Cited.{number-stands, part-stands, entry_count, entries_end, entry_places, entry_fits, entry_part}
use Rattle.fork_wrappers.proofs.Cited.{is_fork_entry, named_place, named_length, is_after_list, is_beside, is_clear, moved, new_fork_entry}
use Rattle.fork_wrappers.proofs.Cited.{new_entry, added_entry, new_list, with_fork, ForkSpan}
use Rattle.fork_wrappers.proofs.Stretches.{part_stands_at, same_number, same_part, length-part}

-- AppleSingle and AppleDouble files with another fork.

-- what is known of a file and of the place of its fork
pub record Roomy (file : List ℕ) (span : ForkSpan) (new : ℕ) : Type 0 where
  pub header : 26 ≤ length file
  pub list : entries_end file ≤ span.at
  pub inside : span.at + span.len ≤ length file
  pub more : span.more ≤ 1
  pub count : entry_count file + span.more < 65536
  pub whole : length file - span.len + 12 * span.more + new < 4294967296
  pub fits : list_all (entry_fits file) (entry_places file) ≡ true
  pub clear : list_all (is_clear file span) (entry_places file) ≡ true

-- an entry has 12 bytes
length-entry : (file : List ℕ) (span : ForkSpan) (new at : ℕ) → at + 12 ≤ length file
    → length (new_entry file span new at) ≡ 12
length-entry file span new at h = cases (is_fork_entry file at)
  where
    place : ℕ
    place = moved span new (named_place file at) (named_length file at)

    kept : length (part 4 at file ++ big_bytes 4 place ++ part 4 (at + 8) file) ≡ 12
    kept =
        let a = length-append (part 4 at file ++ big_bytes 4 place) (part 4 (at + 8) file) in
        let b = length-append (part 4 at file) (big_bytes 4 place) in
        let c = length-part 4 at file (omega arith) in
        let d = length-part 4 (at + 8) file (omega arith) in
        let e : length (big_bytes 4 place) ≡ 4 = refl in
        omega (arith, a, b, c, d, e)

    cases : (t : Bool) → length (cond t (new_fork_entry span new)
        (part 4 at file ++ big_bytes 4 place ++ part 4 (at + 8) file)) ≡ 12
    cases true = refl
    cases false = kept

length-entries : (file : List ℕ) (span : ForkSpan) (new at n : ℕ) → at + 12 * n ≤ length file
    → length (flat_map (new_entry file span new) (offsets at 12 n)) ≡ 12 * n
length-entries file span new at zero h = refl
length-entries file span new at (suc n) h =
    let a = length-append (new_entry file span new at) (flat_map (new_entry file span new) (offsets (at + 12) 12 n)) in
    let b = length-entry file span new at (omega arith) in
    let c = length-entries file span new (at + 12) n (omega arith) in
    omega (arith, a, b, c)

length-added : (span : ForkSpan) (new : ℕ) → span.more ≤ 1 → length (added_entry span new) ≡ 12 * span.more
length-added span new h = cases span.more h
  where
    cases : (m : ℕ) → m ≤ 1 → length (cond (m == 0) [] (new_fork_entry span new)) ≡ 12 * m
    cases zero h = refl
    cases (suc zero) h = refl
    cases (suc (suc m)) h = absurd (omega arith)

-- where the pieces stand in the new file
pub record Laid (file : List ℕ) (span : ForkSpan) (fork : List ℕ) : Type 0 where
  pub head : StandsAt (take 24 file) 0 (with_fork file span fork)
  pub count : StandsAt (big_bytes 2 (entry_count file + span.more)) 24 (with_fork file span fork)
  pub entries : StandsAt (flat_map (new_entry file span (length fork)) (entry_places file)) 26 (with_fork file span fork)
  pub added : StandsAt (added_entry span (length fork)) (entries_end file) (with_fork file span fork)
  pub middle : StandsAt (part (span.at - entries_end file) (entries_end file) file) (entries_end file + 12 * span.more)
      (with_fork file span fork)
  pub own : StandsAt fork (12 * span.more + span.at) (with_fork file span fork)
  pub tail : StandsAt (drop (span.at + span.len) file) (12 * span.more + span.at + length fork) (with_fork file span fork)
  pub rest : drop (entries_end file + 12 * span.more) (with_fork file span fork)
      ≡ part (span.at - entries_end file) (entries_end file) file ++ fork ++ drop (span.at + span.len) file
  pub size : length (with_fork file span fork) ≡ length file - span.len + 12 * span.more + length fork

-- what stands after the list
after_list : (list middle fork tail : List ℕ)
    → drop (length list) (list ++ middle ++ fork ++ tail) ≡ middle ++ fork ++ tail
after_list list middle fork tail = ap (drop (length list)) (append_assoc (list ++ middle) fork tail
    ∙ append_assoc list middle (fork ++ tail) ∙ ap (λ l. list ++ l) (sym (append_assoc middle fork tail)))
    ∙ drop-append_seam list (middle ++ fork ++ tail)

pub laid : (file : List ℕ) (span : ForkSpan) (fork : List ℕ) → Roomy file span (length fork) → Laid file span fork
laid file span fork r =
    let n : ℕ = length fork in
    let new : List ℕ = with_fork file span fork in
    let list : List ℕ = new_list file span n in
    let count : List ℕ = big_bytes 2 (entry_count file + span.more) in
    let entries : List ℕ = flat_map (new_entry file span n) (entry_places file) in
    let added : List ℕ = added_entry span n in
    let middle : List ℕ = part (span.at - entries_end file) (entries_end file) file in
    let tail : List ℕ = drop (span.at + span.len) file in
    let h0 = r.header in
    let h1 = r.list in
    let h2 = r.inside in
    let s0 = stands_whole new in
    let s1 = stands_first (list ++ middle ++ fork) tail 0 new s0 in
    let s2 = stands_first (list ++ middle) fork 0 new s1 in
    let s3 = stands_first list middle 0 new s2 in
    let s4 = stands_first (take 24 file ++ count ++ entries) added 0 new s3 in
    let s5 = stands_first (take 24 file ++ count) entries 0 new s4 in
    let l_head = length-take-le 24 file (omega arith) in
    let l_count : length count ≡ 2 = refl in
    let l_first = length-append (take 24 file) count in
    let l_entries = length-entries file span n 26 (entry_count file) (omega arith) in
    let l_second = length-append (take 24 file ++ count) entries in
    let l_added = length-added span n r.more in
    let l_list = length-append (take 24 file ++ count ++ entries) added in
    let l_middle = length-part (span.at - entries_end file) (entries_end file) file (omega arith) in
    let l_third = length-append list middle in
    let l_fourth = length-append (list ++ middle) fork in
    let l_tail = length-drop (span.at + span.len) file in
    let l_whole = length-append (list ++ middle ++ fork) tail in
    record {
      head = stands_first (take 24 file) count 0 new s5;
      count = stands_same _ _ 24 new (omega (arith, l_head)) (stands_second (take 24 file) count 0 new s5);
      entries = stands_same _ _ 26 new (omega (arith, l_head, l_count, l_first))
          (stands_second (take 24 file ++ count) entries 0 new s4);
      added = stands_same _ _ (entries_end file) new (omega (arith, l_head, l_count, l_first, l_entries, l_second))
          (stands_second (take 24 file ++ count ++ entries) added 0 new s3);
      middle = stands_same _ _ (entries_end file + 12 * span.more) new
          (omega (arith, l_head, l_count, l_first, l_entries, l_second, l_added, l_list))
          (stands_second list middle 0 new s2);
      own = stands_same _ _ (12 * span.more + span.at) new
          (omega (arith, l_head, l_count, l_first, l_entries, l_second, l_added, l_list, l_middle, l_third, h1))
          (stands_second (list ++ middle) fork 0 new s1);
      tail = stands_same _ _ (12 * span.more + span.at + n) new
          (omega (arith, l_head, l_count, l_first, l_entries, l_second, l_added, l_list, l_middle, l_third, l_fourth, h1))
          (stands_second (list ++ middle ++ fork) tail 0 new s0);
      rest = ap (λ k. drop k new) (let is : entries_end file + 12 * span.more ≡ length list =
          omega (arith, l_head, l_count, l_first, l_entries, l_second, l_added, l_list) in is)
          ∙ after_list list middle fork tail;
      size = omega (
        arith,
        l_head,
        l_count,
        l_first,
        l_entries,
        l_second,
        l_added,
        l_list,
        l_middle,
        l_third,
        l_fourth,
        l_tail,
        l_whole,
        h1,
        h2,
      );
    }

-- an entry of the file, and what became of it
pub record Entry (file : List ℕ) (span : ForkSpan) (fork : List ℕ) (at : ℕ) : Type 0 where
  pub fits : entry_fits (with_fork file span fork) at ≡ true
  pub id : number 4 at (with_fork file span fork) ≡ number 4 at file
  pub other : is_fork_entry file at ≡ false → entry_part (with_fork file span fork) at ≡ entry_part file at
  pub own : is_fork_entry file at ≡ true → entry_part (with_fork file span fork) at ≡ fork

-- the entry of the fork
pub own_entry : (file : List ℕ) (span : ForkSpan) (fork : List ℕ) (at : ℕ) → Roomy file span (length fork)
    → StandsAt (new_fork_entry span (length fork)) at (with_fork file span fork)
    → (number 4 at (with_fork file span fork) ≡ 2) × (entry_fits (with_fork file span fork) at ≡ true)
    × (entry_part (with_fork file span fork) at ≡ fork)
own_entry file span fork at r s =
    let n : ℕ = length fork in
    let new : List ℕ = with_fork file span fork in
    let place : ℕ = 12 * span.more + span.at in
    let h = r.inside in
    let w = r.whole in
    let l = laid file span fork r in
    let first = stands_first (big_bytes 4 2 ++ big_bytes 4 place) (big_bytes 4 n) at new s in
    let id = number-stands 4 2 at new (omega arith) (stands_first (big_bytes 4 2) (big_bytes 4 place) at new first) in
    let from = number-stands 4 place (at + 4) new (omega (arith, h, w))
    (stands_second (big_bytes 4 2) (big_bytes 4 place) at new first) in
    let size = number-stands 4 n (at + 8) new (omega (arith, h, w))
    (stands_second (big_bytes 4 2 ++ big_bytes 4 place) (big_bytes 4 n) at new s) in
    let inside = stands_inside fork place new l.own in (
      id,
      le-leb _ (length new) (omega (arith, from, size, inside)),
      ap (λ k. part k (number 4 (at + 4) new) new) size
          ∙ ap (λ k. part n k new) from ∙ part-stands fork place new l.own,
    )

-- the bytes from an offset on stand there
rest_stands : (at : ℕ) (file : List ℕ) → at ≤ length file → StandsAt (drop at file) at file
rest_stands at file h = record {
  before = take at file;
  after = [];
  whole = sym (take-append-drop at file) ∙ ap (λ l. take at file ++ l) (sym (append-nil (drop at file)));
  place = length-take-le at file h;
}

-- where the bytes that another entry names have gone
record Moved (file : List ℕ) (span : ForkSpan) (fork : List ℕ) (place size : ℕ) : Type 0 where
  inside : moved span (length fork) place size + size ≤ length (with_fork file span fork)
  same : part size (moved span (length fork) place size) (with_fork file span fork) ≡ part size place file

-- those before the fork
before_fork : (file : List ℕ) (span : ForkSpan) (fork : List ℕ) (place size : ℕ) → Roomy file span (length fork)
    → (size ≡ 0) ⊎ (entries_end file ≤ place) → place + size ≤ span.at
    → part size (12 * span.more + place) (with_fork file span fork) ≡ part size place file
before_fork file span fork place size r (inl none) h =
    ap (λ k. part k (12 * span.more + place) (with_fork file span fork)) none ∙ ap (λ k. part k place file) (sym none)
before_fork file span fork place size r (inr after) h =
    let new : List ℕ = with_fork file span fork in
    let list : ℕ = entries_end file in
    let i : ℕ = place - list in
    let l1 = r.list in
    let l2 = r.inside in
    let there : list + i ≡ place = omega arith in
    let gone : list + 12 * span.more + i ≡ 12 * span.more + place = omega arith in
    ap (λ k. part size k new) (sym gone)
    ∙ same_part size (part (span.at - list) list file) list (list + 12 * span.more) i file new
    (part_stands_at (span.at - list) list file (omega (arith, l1, l2))) (laid file span fork r).middle
    (let e = length-part (span.at - list) list file (omega (arith, l1, l2)) in omega (arith, e, h))
    ∙ ap (λ k. part size k file) there

-- those after it
after_fork : (file : List ℕ) (span : ForkSpan) (fork : List ℕ) (place size : ℕ) → Roomy file span (length fork)
    → span.at + span.len ≤ place → place + size ≤ length file
    → part size (12 * span.more + (place + length fork - span.len)) (with_fork file span fork) ≡ part size place file
after_fork file span fork place size r after fits =
    let new : List ℕ = with_fork file span fork in
    let end : ℕ = span.at + span.len in
    let i : ℕ = place - end in
    let there : end + i ≡ place = omega arith in
    let gone : 12 * span.more + span.at + length fork + i ≡ 12 * span.more + (place + length fork - span.len) =
    omega arith in
    ap (λ k. part size k new) (sym gone)
    ∙ same_part size (drop end file) end (12 * span.more + span.at + length fork) i file new
    (rest_stands end file r.inside) (laid file span fork r).tail (let e = length-drop end file in omega (arith, e, fits))
    ∙ ap (λ k. part size k file) there

moves : (file : List ℕ) (span : ForkSpan) (fork : List ℕ) (place size : ℕ) → Roomy file span (length fork)
    → (size ≡ 0) ⊎ (entries_end file ≤ place)
    → (nat_le (place + size) span.at || nat_le (span.at + span.len) place) ≡ true → place + size ≤ length file
    → Moved file span fork place size
moves file span fork place size r after beside fits = cases (nat_le (place + size) span.at) refl
  where
    size_is : length (with_fork file span fork) ≡ length file - span.len + 12 * span.more + length fork
    size_is = (laid file span fork r).size

    cases : (t : Bool) → nat_le (place + size) span.at ≡ t → Moved file span fork place size
    cases true e =
        let low = leb-true (place + size) span.at e in
        let is : moved span (length fork) place size ≡ 12 * span.more + place =
        ap (λ k. 12 * span.more + k) (cond-true _ place (place + length fork - span.len) e) in
        let h = r.inside in
        record {
          inside = omega (arith, is, low, size_is, h);
          same = ap (λ k. part size k (with_fork file span fork)) is ∙ before_fork file span fork place size r after low;
        }
    cases false e =
        let high = leb-true (span.at + span.len) place (ap (λ t. t || nat_le (span.at + span.len) place) (sym e) ∙ beside) in
        let is : moved span (length fork) place size ≡ 12 * span.more + (place + length fork - span.len) =
        ap (λ k. 12 * span.more + k) (cond-false _ place (place + length fork - span.len) e) in
        record {
          inside = omega (arith, is, high, fits, size_is);
          same = ap (λ k. part size k (with_fork file span fork)) is ∙ after_fork file span fork place size r high fits;
        }

-- the entry of something else
kept_entry : (file : List ℕ) (span : ForkSpan) (fork : List ℕ) (at : ℕ) → Roomy file span (length fork)
    → at + 12 ≤ length file → entry_fits file at ≡ true → (is_after_list file at && is_beside file span at) ≡ true
    → StandsAt (part 4 at file ++ big_bytes 4 (moved span (length fork) (named_place file at) (named_length file at))
    ++ part 4 (at + 8) file) at (with_fork file span fork)
    → (number 4 at (with_fork file span fork) ≡ number 4 at file) × (entry_fits (with_fork file span fork) at ≡ true)
    × (entry_part (with_fork file span fork) at ≡ entry_part file at)
kept_entry file span fork at r room fits clear s =
    let new : List ℕ = with_fork file span fork in
    let place : ℕ = named_place file at in
    let size : ℕ = named_length file at in
    let there : ℕ = moved span (length fork) place size in
    let both = and_parts (is_after_list file at) (is_beside file span at) clear in
    let inside = leb-true (place + size) (length file) fits in
    let m = moves file span fork place size r (after both.0) both.1 inside in
    let ends = m.inside in
    let w = r.whole in
    let small = (laid file span fork r).size in
    let first = stands_first (part 4 at file ++ big_bytes 4 there) (part 4 (at + 8) file) at new s in
    let l_id = length-part 4 at file (omega arith) in
    let l_place : length (big_bytes 4 there) ≡ 4 = refl in
    let l_both = length-append (part 4 at file) (big_bytes 4 there) in
    let l_size = length-part 4 (at + 8) file (omega arith) in
    let zero_id : at + 0 ≡ at = omega arith in
    let zero_size : at + 8 + 0 ≡ at + 8 = omega arith in
    let id = ap (λ k. number 4 k new) (sym zero_id)
    ∙ same_number 4 (part 4 at file) at at 0 file new (part_stands_at 4 at file (omega arith))
    (stands_first (part 4 at file) (big_bytes 4 there) at new first) (omega (arith, l_id))
    ∙ ap (λ k. number 4 k file) zero_id in
    let from = number-stands 4 there (at + 4) new (omega (arith, ends, small, w)) (stands_same _ _ (at + 4) new
    (omega (arith, l_id)) (stands_second (part 4 at file) (big_bytes 4 there) at new first)) in
    let len = ap (λ k. number 4 k new) (sym zero_size)
    ∙ same_number 4 (part 4 (at + 8) file) (at + 8) (at + 8) 0 file new (part_stands_at 4 (at + 8) file (omega arith))
    (stands_same _ _ (at + 8) new (omega (arith, l_id, l_place, l_both))
    (stands_second (part 4 at file ++ big_bytes 4 there) (part 4 (at + 8) file) at new s)) (omega (arith, l_size))
    ∙ ap (λ k. number 4 k file) zero_size in (
      id,
      le-leb _ (length new) (omega (arith, from, len, ends)),
      ap (λ k. part k (number 4 (at + 4) new) new) len
          ∙ ap (λ k. part size k new) from ∙ m.same,
    )
  where
    after : is_after_list file at ≡ true → (named_length file at ≡ 0) ⊎ (entries_end file ≤ named_place file at)
    after h = cases (or_cases (named_length file at == 0) (nat_le (entries_end file) (named_place file at)) h)
      where
        cases : ((named_length file at == 0) ≡ true) ⊎ (nat_le (entries_end file) (named_place file at) ≡ true)
            → (named_length file at ≡ 0) ⊎ (entries_end file ≤ named_place file at)
        cases (inl e) = inl (eqb-true (named_length file at) 0 e)
        cases (inr e) = inr (leb-true (entries_end file) (named_place file at) e)

entry_is : (file : List ℕ) (span : ForkSpan) (fork : List ℕ) (at : ℕ) → Roomy file span (length fork)
    → at + 12 ≤ length file → entry_fits file at ≡ true → is_clear file span at ≡ true
    → StandsAt (new_entry file span (length fork) at) at (with_fork file span fork) → Entry file span fork at
entry_is file span fork at r room fits clear s = cases (is_fork_entry file at) refl clear s
  where
    cases : (t : Bool) → is_fork_entry file at ≡ t → (t || (is_after_list file at && is_beside file span at)) ≡ true
        → StandsAt (cond t (new_fork_entry span (length fork)) (part 4 at file
        ++ big_bytes 4 (moved span (length fork) (named_place file at) (named_length file at)) ++ part 4 (at + 8) file)) at
        (with_fork file span fork) → Entry file span fork at
    cases true e c s =
        let o = own_entry file span fork at r s in
        let two = eqb-true (number 4 at file) 2 e in
        record { fits = o.1; id = o.0 ∙ sym two; other = λ f. cc; own = λ f. o.2 }
    cases false e c s =
        let k = kept_entry file span fork at r room fits c s in
        record { fits = k.1; id = k.0; other = λ f. k.2; own = λ f. cc }

-- all entries of a list
abbrev pub Entries : List ℕ → ForkSpan → List ℕ → List ℕ → Type 0
Entries file span fork [] = Unit {0}
Entries file span fork (at ∷ places) = Entry file span fork at × Entries file span fork places

entries_are : (file : List ℕ) (span : ForkSpan) (fork : List ℕ) (at n : ℕ) → Roomy file span (length fork)
    → at + 12 * n ≤ length file → list_all (entry_fits file) (offsets at 12 n) ≡ true
    → list_all (is_clear file span) (offsets at 12 n) ≡ true
    → StandsAt (flat_map (new_entry file span (length fork)) (offsets at 12 n)) at (with_fork file span fork)
    → Entries file span fork (offsets at 12 n)
entries_are file span fork at zero r room fits clear s = tt
entries_are file span fork at (suc n) r room fits clear s =
    let f : ℕ → List ℕ = new_entry file span (length fork) in
    let new : List ℕ = with_fork file span fork in
    let fit = and_parts (entry_fits file at) (list_all (entry_fits file) (offsets (at + 12) 12 n)) fits in
    let free = and_parts (is_clear file span at) (list_all (is_clear file span) (offsets (at + 12) 12 n)) clear in
    let size = length-entry file span (length fork) at (omega arith) in (
      entry_is file span fork at r (omega arith) fit.0 free.0
          (stands_first (f at) (flat_map f (offsets (at + 12) 12 n)) at new s),
      entries_are file span fork (at + 12) n r
          (omega arith) fit.1 free.1 (stands_same _ _ (at + 12) new (omega (arith, size))
          (stands_second (f at) (flat_map f (offsets (at + 12) 12 n)) at new s)),
    )

pub all_entries : (file : List ℕ) (span : ForkSpan) (fork : List ℕ) → Roomy file span (length fork)
    → Entries file span fork (entry_places file)
all_entries file span fork r =
    let h1 = r.list in
    let h2 = r.inside in
    entries_are file span fork 26 (entry_count file) r (omega (arith, h1, h2)) r.fits r.clear (laid file span fork r).entries

-- the header, and the number of entries
pub head_kept : (file : List ℕ) (span : ForkSpan) (fork : List ℕ) → Roomy file span (length fork)
    → take 24 (with_fork file span fork) ≡ take 24 file
head_kept file span fork r =
    let h = r.header in
    let e : length (take 24 file) ≡ 24 = length-take-le 24 file (omega (arith, h)) in
    ap (λ n. take n (with_fork file span fork)) (sym e)
    ∙ part-stands (take 24 file) 0 (with_fork file span fork) (laid file span fork r).head

pub new_count : (file : List ℕ) (span : ForkSpan) (fork : List ℕ) → Roomy file span (length fork)
    → entry_count (with_fork file span fork) ≡ entry_count file + span.more
new_count file span fork r =
    let small = r.count in
    number-stands 2 (entry_count file + span.more) 24 (with_fork file span fork) (omega (arith, small))
    (laid file span fork r).count

pub new_rest : (file : List ℕ) (span : ForkSpan) (fork : List ℕ) → Roomy file span (length fork)
    → drop (entries_end (with_fork file span fork)) (with_fork file span fork)
    ≡ part (span.at - entries_end file) (entries_end file) file ++ fork ++ drop (span.at + span.len) file
new_rest file span fork r =
    let e = new_count file span fork r in
    let is : entries_end (with_fork file span fork) ≡ entries_end file + 12 * span.more = omega (arith, e) in
    ap (λ k. drop k (with_fork file span fork)) is ∙ (laid file span fork r).rest
