use Rattle.real_zone.proofs.Cited.{◌≡◌, ℕ, zero, suc, ◌+◌, ◌-◌, ◌*◌, ◌/◌, ◌%◌, ◌<◌, ◌≤◌, Bool, true, false, ◌&&◌, ◌||◌, cond, List, [], ◌∷◌}
use Rattle.real_zone.proofs.Cited.{◌++◌, length, get_or, refl, sym, ◌∙◌, ap, arith, append_assoc, inl, inr, ◌⊎◌, ◌==◌, nat_le, list_all}
use Rattle.real_zone.proofs.Cited.{list_any, flat_map, and_parts, and_left, and_right, leb-true, eqb-true, lt-leb, cases_lt, append-nil}
use Rattle.real_zone.proofs.Cited.{get_or_append_left, get_or-append_right, alignment, header_size, tag_at, size_at, is_nonrelocatable}
use Rattle.real_zone.proofs.Cited.{is_passable, places, places_from, is_tiled, is_master_place, covers, is_covered, may_be_free, marks}
use Rattle.real_zone.proofs.Cited.{block_marks, zone_marks, Form}
use Rattle.real_zone.specs.declared.form.Form.TheVariants as form
use Rattle.real_zone.proofs.Tests.{or-false_left, or-false_right}
use Rattle.real_zone.proofs.Walking.{Passes, passes, next, next_places, no_places}

-- The marks of even places: which of them are in nonrelocatable blocks.

-- one mark more
pub mark_more : (f : Form) (bytes : List ℕ) (at n k master : ℕ) (front total : List Bool) → k < n
    → front ++ marks f bytes at (n - k) master ≡ total
    → (front ++ covers f bytes master at ∷ []) ++ marks f bytes at (n - (k + 1)) (master + 2) ≡ total
unfolding marks
mark_more f bytes at n k master front total h e =
    let left : n - k ≡ suc (n - (k + 1)) = omega arith in
    append_assoc front (covers f bytes master at ∷ []) (marks f bytes at (n - (k + 1)) (master + 2))
    ∙ ap (λ m. front ++ marks f bytes at m master) (sym left) ∙ e

-- all marks of a block are there
pub marks_end : (f : Form) (bytes : List ℕ) (at n k master : ℕ) (front total : List Bool) → n ≤ k
    → front ++ marks f bytes at (n - k) master ≡ total → front ≡ total
unfolding marks
marks_end f bytes at n k master front total h e =
    let none : n - k ≡ zero = omega arith in
    sym (append-nil front) ∙ ap (λ m. front ++ marks f bytes at m master) (sym none) ∙ e

-- the marks of one block more, and of all
pub block_more : (f : Form) (bytes : List ℕ) (at : ℕ) (front total : List Bool) → is_passable f bytes at ≡ true
    → front ++ flat_map (block_marks f bytes) (places_from f bytes at) ≡ total
    → (front ++ block_marks f bytes at) ++ flat_map (block_marks f bytes) (places_from f bytes (next f bytes at)) ≡ total
block_more f bytes at front total p e =
    append_assoc front (block_marks f bytes at) (flat_map (block_marks f bytes) (places_from f bytes (next f bytes at)))
    ∙ ap (λ l. front ++ flat_map (block_marks f bytes) l) (sym (next_places f bytes at p)) ∙ e

pub blocks_end : (f : Form) (bytes : List ℕ) (at : ℕ) (front total : List Bool) → length bytes ≤ at
    → front ++ flat_map (block_marks f bytes) (places_from f bytes at) ≡ total → front ≡ total
blocks_end f bytes at front total h e =
    sym (append-nil front) ∙ ap (λ l. front ++ flat_map (block_marks f bytes) l) (sym (no_places f bytes at h)) ∙ e

-- what is aligned is even
pub even : (f : Form) (n : ℕ) → n % alignment f ≡ 0 → n % 2 ≡ 0
even form.Bits24 n h = h
even form.Bits32 n h = omega arith

length-marks : (f : Form) (bytes : List ℕ) (at n master : ℕ) → length (marks f bytes at n master) ≡ n
unfolding marks
length-marks f bytes at zero master = refl
length-marks f bytes at (suc n) master = let e = length-marks f bytes at n (master + 2) in ap suc e

get_or-marks : (f : Form) (bytes : List ℕ) (at n master j : ℕ) → j < n
    → get_or (marks f bytes at n master) j false ≡ covers f bytes (master + 2 * j) at
unfolding marks
get_or-marks f bytes at zero master j h = absurd (omega arith)
get_or-marks f bytes at (suc n) master zero h =
    let e : master ≡ master + 2 * 0 = omega arith in ap (λ m. covers f bytes m at) e
get_or-marks f bytes at (suc n) master (suc j) h =
    let e : master + 2 + 2 * j ≡ master + 2 * suc j = omega arith in
    get_or-marks f bytes at n (master + 2) j (omega arith) ∙ ap (λ m. covers f bytes m at) e

-- what is below a block isn't in it, and neither is what goes past its end
not_below : (f : Form) (bytes : List ℕ) (master at : ℕ) → master < at → covers f bytes master at ≡ false
unfolding covers
not_below f bytes master at h =
    and_left (is_nonrelocatable (tag_at bytes at) && nat_le (at + header_size f) master)
    (nat_le (master + 4) (at + size_at f bytes at))
    (and_right (is_nonrelocatable (tag_at bytes at)) (nat_le (at + header_size f) master)
    (lt-leb (at + header_size f) master (omega arith)))

not_past : (f : Form) (bytes : List ℕ) (master at : ℕ) → at + size_at f bytes at < master + 4
    → covers f bytes master at ≡ false
unfolding covers
not_past f bytes master at h =
    and_right (is_nonrelocatable (tag_at bytes at) && nat_le (at + header_size f) master)
    (nat_le (master + 4) (at + size_at f bytes at)) (lt-leb (master + 4) (at + size_at f bytes at) h)

-- what is below all blocks is in none
none_below : (f : Form) (bytes : List ℕ) (n at master : ℕ) → master < at
    → list_any (covers f bytes master) (places f bytes n at) ≡ false
unfolding places
none_below f bytes zero at master h = refl
none_below f bytes (suc n) at master h =
    cases (at == length bytes) (is_passable f bytes at) (not_below f bytes master at h)
    (none_below f bytes n (next f bytes at) master (omega arith))
  where
    cases : (e p : Bool) → covers f bytes master at ≡ false
        → list_any (covers f bytes master) (places f bytes n (next f bytes at)) ≡ false
        → list_any (covers f bytes master) (cond e [] (at ∷ cond p (places f bytes n (next f bytes at)) [])) ≡ false
    cases true p here rest = refl
    cases false true here rest = or-false_left (covers f bytes master at) _ here ∙ rest
    cases false false here rest = or-false_left (covers f bytes master at) false here

-- the mark of a place in one block, or after it
in_block : (f : Form) (bytes : List ℕ) (n at j : ℕ) → Passes f bytes at → size_at f bytes at % 2 ≡ 0
    → (size_at f bytes at / 2 ≤ j
    → get_or (flat_map (block_marks f bytes) (places f bytes n (next f bytes at))) (j - size_at f bytes at / 2) false
    ≡ list_any (covers f bytes (next f bytes at + 2 * (j - size_at f bytes at / 2))) (places f bytes n (next f bytes at)))
    → get_or (block_marks f bytes at ++ flat_map (block_marks f bytes) (places f bytes n (next f bytes at))) j false
    ≡ (covers f bytes (at + 2 * j) at || list_any (covers f bytes (at + 2 * j)) (places f bytes n (next f bytes at)))
unfolding block_marks
in_block f bytes n at j passing halves later = split (cases_lt j (size_at f bytes at / 2))
  where
    half : ℕ
    half = size_at f bytes at / 2

    block : List Bool
    block = marks f bytes at (size_at f bytes at / 2) at

    rest : List Bool
    rest = flat_map (block_marks f bytes) (places f bytes n (next f bytes at))

    split : (j < size_at f bytes at / 2) ⊎ (size_at f bytes at / 2 ≤ j)
        → get_or
        (marks f bytes at (size_at f bytes at / 2) at ++ flat_map (block_marks f bytes) (places f bytes n (next f bytes at))) j false
        ≡ (covers f bytes (at + 2 * j) at || list_any (covers f bytes (at + 2 * j)) (places f bytes n (next f bytes at)))
    split (inl h) =
        let long = length-marks f bytes at (size_at f bytes at / 2) at in
        let below : at + 2 * j < next f bytes at = omega (arith, halves) in
        get_or_append_left (marks f bytes at (size_at f bytes at / 2) at)
        (flat_map (block_marks f bytes) (places f bytes n (next f bytes at))) false j (omega (arith, long))
        ∙ get_or-marks f bytes at (size_at f bytes at / 2) at j h
        ∙ sym (or-false_right (covers f bytes (at + 2 * j) at)
        (list_any (covers f bytes (at + 2 * j)) (places f bytes n (next f bytes at)))
        (none_below f bytes n (next f bytes at) (at + 2 * j) below))
    split (inr h) =
        let place : next f bytes at + 2 * (j - size_at f bytes at / 2) ≡ at + 2 * j = omega (arith, halves) in
        let beyond : at + size_at f bytes at < at + 2 * j + 4 = omega (arith, halves) in
        get_or-append_right (marks f bytes at (size_at f bytes at / 2) at)
        (flat_map (block_marks f bytes) (places f bytes n (next f bytes at))) (size_at f bytes at / 2) j false
        (length-marks f bytes at (size_at f bytes at / 2) at) h
        ∙ later h
        ∙ ap (λ m. list_any (covers f bytes m) (places f bytes n (next f bytes at))) place
        ∙ sym (or-false_left (covers f bytes (at + 2 * j) at)
        (list_any (covers f bytes (at + 2 * j)) (places f bytes n (next f bytes at)))
        (not_past f bytes (at + 2 * j) at beyond))

-- the mark of a place is whether it is in a nonrelocatable block
marked : (f : Form) (bytes : List ℕ) (n at j : ℕ) → list_all (is_passable f bytes) (places f bytes n at) ≡ true
    → get_or (flat_map (block_marks f bytes) (places f bytes n at)) j false
    ≡ list_any (covers f bytes (at + 2 * j)) (places f bytes n at)
unfolding places
marked f bytes zero at j all = refl
marked f bytes (suc n) at j all =
    cases (at == length bytes) (is_passable f bytes at) refl all
    (λ p r. let q : Passes f bytes at = passes f bytes at p in
    in_block f bytes n at j q (even f (size_at f bytes at) q.aligned)
    (λ h. marked f bytes n (next f bytes at) (j - size_at f bytes at / 2) r))
  where
    cases : (e p : Bool) → is_passable f bytes at ≡ p
        → list_all (is_passable f bytes) (cond e [] (at ∷ cond p (places f bytes n (next f bytes at)) [])) ≡ true
        → (is_passable f bytes at ≡ true → list_all (is_passable f bytes) (places f bytes n (next f bytes at)) ≡ true
        → get_or (block_marks f bytes at ++ flat_map (block_marks f bytes) (places f bytes n (next f bytes at))) j false
        ≡ (covers f bytes (at + 2 * j) at || list_any (covers f bytes (at + 2 * j)) (places f bytes n (next f bytes at))))
        → get_or (flat_map (block_marks f bytes) (cond e [] (at ∷ cond p (places f bytes n (next f bytes at)) []))) j false
        ≡ list_any (covers f bytes (at + 2 * j)) (cond e [] (at ∷ cond p (places f bytes n (next f bytes at)) []))
    cases true p is all later = refl
    cases false true is all later =
        later is (and_parts (is_passable f bytes at) (list_all (is_passable f bytes) (places f bytes n (next f bytes at))) all).1
    cases false false is all later =
        let no : is_passable f bytes at ≡ true = (and_parts (is_passable f bytes at) true all).0 in cc

-- so it is of the master pointers of a zone
pub marks_cover : (f : Form) (bytes : List ℕ) (master : ℕ) → is_tiled f bytes ≡ true
    → is_master_place f bytes master ≡ true → get_or (zone_marks f bytes) ((master - 52) / 2) false ≡ is_covered f bytes master
unfolding is_master_place is_covered
marks_cover f bytes master tiled place =
    let parts = and_parts (nat_le 52 master && nat_le (master + 4) (length bytes)) (master % alignment f == 0) place in
    let above = leb-true 52 master (and_parts (nat_le 52 master) (nat_le (master + 4) (length bytes)) parts.0).0 in
    let halves = even f master (eqb-true (master % alignment f) 0 parts.1) in
    let same : 52 + 2 * ((master - 52) / 2) ≡ master = omega (arith, halves, above) in
    marked f bytes (length bytes - 52) 52 ((master - 52) / 2) tiled
    ∙ ap (λ m. list_any (covers f bytes m) (places f bytes (length bytes - 52) 52)) same

-- and of free ones
pub may_be_free_marked : (f : Form) (bytes : List ℕ) (master : ℕ) → is_tiled f bytes ≡ true
    → is_master_place f bytes master ≡ true → get_or (zone_marks f bytes) ((master - 52) / 2) false ≡ may_be_free f bytes master
unfolding may_be_free
may_be_free_marked f bytes master tiled place =
    marks_cover f bytes master tiled place
    ∙ ap (λ t. t && is_covered f bytes master) (sym place)

pub may_not_be_free : (f : Form) (bytes : List ℕ) (master : ℕ) → is_master_place f bytes master ≡ false
    → false ≡ may_be_free f bytes master
unfolding may_be_free
may_not_be_free f bytes master place = ap (λ t. t && is_covered f bytes master) (sym place)
