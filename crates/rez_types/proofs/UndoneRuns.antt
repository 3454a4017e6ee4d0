-- Runs and coordinates that are read are written again.
use Rattle.rez_types.proofs.Cited.{◌≡◌, ℕ, zero, suc, ◌+◌, ◌-◌, ◌*◌, ◌/◌, ◌%◌, ◌^◌, ◌≤◌, ◌<◌, Some, Bool, true, false, List, [], ◌∷◌, ◌++◌}
use Rattle.rez_types.proofs.Cited.{length, nat_lt, refl, sym, ap, ap₂, subst, ◌∙◌, arith, append_assoc, div-div-eq-div-mul, div-eq_of_lt}
use Rattle.rez_types.proofs.Cited.{div-le_self, div-one, mod-eq_of_lt, mod-lt, mod_self, add-mod_right, pow-add, pow_pos, div-add-mod'}
use Rattle.rez_types.proofs.Cited.{pow_mono, append-nil, eqb-true, lt-ltb, ltb-true, ltb-false, big_number, big_bytes, Part, Integer}
use Rattle.rez_types.proofs.Cited.{Constant, Count, FillBits, Value, ◌>>=◌, Decoding, put, next, next_number, width_of, bits_of, counted}
use Rattle.rez_types.proofs.Cited.{with_count, decoded_part, decoded_parts, decoded_run, decoded_coordinates, Encoding, write, next_value}
use Rattle.rez_types.proofs.Cited.{stated, joined, encoded_part, encoded_parts, encoded_run, encoded_coordinates, AreBytes, bits_in}
use Rattle.rez_types.specs.Values as value
use Rattle.rez_types.specs.Encoding as writing
use Rattle.rez_types.proofs.Undone.{Undone, Next, writer, bound, given_is, some_is, next_is, moved, write_on, putting, taken, as_it_is}
use Rattle.rez_types.proofs.Undone.{one_by_one, bytes_before, left_bytes, both, none}

-- the bytes of the number of up to four bytes
pub bytes_again : (xs : List ℕ) → length xs ≤ 4 → AreBytes xs → big_bytes (length xs) (big_number (length xs) xs) ≡ xs
bytes_again [] few h = refl
bytes_again (a ∷ []) few h = ap (λ (x : ℕ). x ∷ []) (omega arith)
bytes_again (a ∷ b ∷ []) few h = ap₂ (λ (x y : ℕ). x ∷ y ∷ []) (omega arith) (omega arith)
bytes_again (a ∷ b ∷ c ∷ []) few h =
    ap₂ (λ (x : ℕ) (xs : List ℕ). x ∷ xs) (omega arith) (ap₂ (λ (x y : ℕ). x ∷ y ∷ []) (omega arith) (omega arith))
bytes_again (a ∷ b ∷ c ∷ d ∷ []) few h =
    ap₂ (λ (x : ℕ) (xs : List ℕ). x ∷ xs) (omega arith)
    (ap₂ (λ (x : ℕ) (xs : List ℕ). x ∷ xs) (omega arith) (ap₂ (λ (x y : ℕ). x ∷ y ∷ []) (omega arith) (omega arith)))
bytes_again (a ∷ b ∷ c ∷ d ∷ e ∷ xs) few h = absurd (omega arith)

-- it is below the numbers that need more bits
pub number_below : (xs : List ℕ) → length xs ≤ 4 → AreBytes xs → big_number (length xs) xs < 2 ^ (8 * length xs)
number_below [] few h = omega arith
number_below (a ∷ []) few h = omega arith
number_below (a ∷ b ∷ []) few h = omega arith
number_below (a ∷ b ∷ c ∷ []) few h = omega arith
number_below (a ∷ b ∷ c ∷ d ∷ []) few h = omega arith
number_below (a ∷ b ∷ c ∷ d ∷ e ∷ xs) few h = absurd (omega arith)

-- a number that is read
pub number_is : (n : ℕ) (s t : Decoding) (number : ℕ) → next_number n s ≡ Some (number, t)
    → (here : List ℕ) × Next n s t here × (number ≡ big_number n here)
unfolding next_number
number_is n s t number h =
    let b = bound (next n s) (λ (p : List ℕ × Decoding). Some (big_number n p.0, p.1)) (number, t) h in
    let same = some_is b.2 in
    let at : b.0.1 ≡ t = ap (λ (p : ℕ × Decoding). p.1) same in
    (b.0.0, subst (λ (u : Decoding). Next n s u b.0.0) at (next_is n s b.0.1 b.0.0 b.1), sym (ap (λ (p : ℕ × Decoding). p.0) same))

-- what a part leads to, where it is read from its bits, and where it is written
pub record PartUndone (p : Part) (bits : ℕ) (s t : Decoding) : Type 0 where
  pub said : List Value
  pub rest : s.rest ≡ t.rest
  pub at : s.at ≡ t.at
  pub values : t.values ≡ s.values ++ said
  pub written : (before : List ℕ) (after : List Value)
      → encoded_part p (writer (said ++ after) before s.counts) ≡ Some (bits, writer after before t.counts)

-- a number is passed over
pub number_on : (width number : ℕ) (values : List Value) (bytes counts : List ℕ) → number < 2 ^ width
    → writing.next_number width (writer (value.Number number ∷ values) bytes counts) ≡ Some (number, writer values bytes counts)
unfolding writing.next_number next_value
number_on width number values bytes counts h = rw (lt-ltb number (2 ^ width) h) refl

-- a count states as many elements as it is read to state
counted_below : (width bits : ℕ) (less : Bool) → bits < 2 ^ width → counted width less bits < 2 ^ width
counted_below width bits true h = mod-lt (bits + 1) (pow_pos width)
counted_below width bits false h = h

less_one : (all bits : ℕ) (test : Bool) → nat_lt (bits + 1) all ≡ test → bits < all → ((bits + 1) % all + (all - 1)) % all ≡ bits
less_one all bits true e h =
    let below : bits + 1 < all = ltb-true (bits + 1) all e in
    let sum : bits + 1 + (all - 1) ≡ bits + all = omega arith in
    rw (mod-eq_of_lt below, sum, add-mod_right bits all) (mod-eq_of_lt h)
less_one all bits false e h =
    let over : all ≤ bits + 1 = ltb-false (bits + 1) all e in
    let last : bits + 1 ≡ all = omega arith in
    let none : 0 + (all - 1) ≡ bits = omega arith in
    rw (last, mod_self all, none) (mod-eq_of_lt h)

stated_again : (width bits : ℕ) (less : Bool) → bits < 2 ^ width → stated width less (counted width less bits) ≡ bits
stated_again width bits true h = less_one (2 ^ width) bits (nat_lt (bits + 1) (2 ^ width)) refl h
stated_again width bits false h = refl

count_on : (width : ℕ) (less : Bool) (bits : ℕ) (values : List Value) (bytes counts : List ℕ) → bits < 2 ^ width
    → writing.next_count width less (writer (value.Count (counted width less bits) ∷ values) bytes counts)
    ≡ Some (bits, writer values bytes (counts ++ counted width less bits ∷ []))
unfolding writing.next_count next_value
count_on width less bits values bytes counts h =
    rw (lt-ltb (counted width less bits) (2 ^ width) (counted_below width bits less h), stated_again width bits less h) refl

part_undone : (p : Part) (bits : ℕ) (s t : Decoding) → bits < 2 ^ width_of p → decoded_part p bits s ≡ Some t → PartUndone p bits s t
part_undone (Integer width form constants) bits s t small h =
    let e = putting (value.Number bits) s t h in
    record {
      said = value.Number bits ∷ [];
      rest = e.0;
      at = e.1;
      values = e.2;
      written = λ before after. rw e.3 (number_on width bits after before s.counts small);
    }
part_undone (Constant width pattern is_key) bits s t small h =
    let g = given_is _ _ _ h in
    let same : bits ≡ pattern = eqb-true bits pattern g.0 in
    record {
      said = [];
      rest = ap (λ (u : Decoding). u.rest) g.1;
      at = ap (λ (u : Decoding). u.at) g.1;
      values = sym (ap (λ (u : Decoding). u.values) g.1) ∙ sym (append-nil s.values);
      written = λ before after. rw (same, g.1) refl;
    }
part_undone (Count width is_less_one) bits s t small h =
    let n = counted width is_less_one bits in
    let e = putting (value.Count n) (with_count n s) t h in
    record {
      said = value.Count n ∷ [];
      rest = e.0;
      at = e.1;
      values = e.2;
      written = λ before after. rw e.3 (count_on width is_less_one bits after before s.counts small);
    }
part_undone (FillBits width) bits s t small h =
    let e = putting (value.Number bits) s t h in
    record {
      said = value.Number bits ∷ [];
      rest = e.0;
      at = e.1;
      values = e.2;
      written = λ before after. rw e.3 (number_on width bits after before s.counts small);
    }

-- the number of a run so far with one more part
joined_again : (number left width : ℕ) → width ≤ left → number < 2 ^ 32
    → joined (number / 2 ^ left) width (bits_of width (left - width) number) ≡ number / 2 ^ (left - width)
joined_again number left width h small =
    let all : left ≡ left - width + width = omega arith in
    let power : 2 ^ left ≡ 2 ^ (left - width) * 2 ^ width = ap (λ (k : ℕ). 2 ^ k) all ∙ pow-add 2 (left - width) width in
    let above : number / 2 ^ left ≡ number / 2 ^ (left - width) / 2 ^ width =
    ap (λ (k : ℕ). number / k) power ∙ sym (div-div-eq-div-mul number (2 ^ (left - width)) (2 ^ width)) in
    let fits : number / 2 ^ (left - width) < 2 ^ 32 = omega (arith, div-le_self number (2 ^ (left - width))) in
    ap (λ (k : ℕ). (k * 2 ^ width + bits_of width (left - width) number) % 2 ^ 32) above
    ∙ ap (λ (k : ℕ). k % 2 ^ 32) (div-add-mod' (number / 2 ^ (left - width)) (2 ^ width)) ∙ mod-eq_of_lt fits

-- what parts lead to, where they are read from a number, and where they are written to the number of those before them
pub record PartsUndone (number left : ℕ) (parts : List Part) (s t : Decoding) : Type 0 where
  pub said : List Value
  pub rest : s.rest ≡ t.rest
  pub at : s.at ≡ t.at
  pub values : t.values ≡ s.values ++ said
  pub written : (before : List ℕ) (after : List Value)
      → encoded_parts (number / 2 ^ left) parts (writer (said ++ after) before s.counts) ≡ Some (number, writer after before t.counts)

pub parts_undone : (number left : ℕ) (parts : List Part) (s t : Decoding) → number < 2 ^ 32 → bits_in parts ≡ left
    → decoded_parts number left parts s ≡ Some t → PartsUndone number left parts s t
parts_undone number left [] s t small all h =
    let same = some_is h in
    let whole : number / 2 ^ left ≡ number = ap (λ (k : ℕ). number / 2 ^ k) (sym all) ∙ div-one number in
    record {
      said = [];
      rest = ap (λ (u : Decoding). u.rest) same;
      at = ap (λ (u : Decoding). u.at) same;
      values = sym (ap (λ (u : Decoding). u.values) same) ∙ sym (append-nil s.values);
      written = λ before after. rw (whole, same) refl;
    }
parts_undone number left (p ∷ parts) s t small all h =
    let width = width_of p in
    let bits = bits_of width (left - width) number in
    let b = bound (decoded_part p bits s) (λ u. decoded_parts number (left - width) parts u) t h in
    let below : bits < 2 ^ width = mod-lt (number / 2 ^ (left - width)) (pow_pos width) in
    let first = part_undone p bits s b.0 below b.1 in
    let others : bits_in parts ≡ left - width = omega arith in
    let fits : width ≤ left = omega arith in
    let rest = parts_undone number (left - width) parts b.0 t small others b.2 in
    record {
      said = first.said ++ rest.said;
      rest = first.rest ∙ rest.rest;
      at = first.at ∙ rest.at;
      values = rest.values ∙ ap (λ (xs : List Value). xs ++ rest.said) first.values ∙ append_assoc s.values first.said rest.said;
      written = λ before after.
          rw (append_assoc first.said rest.said after, first.written before (rest.said ++ after), joined_again number left width fits small)
          (rest.written before after);
    }

-- a run
pub run_undone : (bytes : ℕ) (parts : List Part) (s t : Decoding) → bytes ≤ 4 → bits_in parts ≡ 8 * bytes → AreBytes s.rest
    → decoded_run bytes parts s ≡ Some t → Undone (encoded_run bytes parts) s t
unfolding decoded_run encoded_run
run_undone bytes parts s t few all held h =
    let b = bound (next_number bytes s) (λ (p : ℕ × Decoding). decoded_parts p.0 (8 * bytes) parts p.1) t h in
    let number = b.0.0 in
    let u = b.0.1 in
    let n = number_is bytes s u number b.1 in
    let here = n.0 in
    let held_here : AreBytes here = bytes_before here u.rest (subst AreBytes n.1.rest held) in
    let few_here : length here ≤ 4 = omega (arith, n.1.size) in
    let is : number ≡ big_number (length here) here = n.2 ∙ ap (λ (k : ℕ). big_number k here) (sym n.1.size) in
    let below : number < 2 ^ (8 * bytes) =
    subst (λ (k : ℕ). number < 2 ^ (8 * k)) n.1.size
    (subst (λ (k : ℕ). k < 2 ^ (8 * length here)) (sym is) (number_below here few_here held_here)) in
    let bits : 8 * bytes ≤ 32 = omega arith in
    let most : 2 ^ (8 * bytes) ≤ 2 ^ 32 = pow_mono bits in
    let small : number < 2 ^ 32 = omega arith in
    let p = parts_undone number (8 * bytes) parts u t small all b.2 in
    let none : number / 2 ^ (8 * bytes) ≡ 0 = div-eq_of_lt below in
    let again : big_bytes bytes number ≡ here =
    ap (λ (k : ℕ). big_bytes k number) (sym n.1.size) ∙ ap (λ (k : ℕ). big_bytes (length here) k) is
    ∙ bytes_again here few_here held_here in
    record {
      here = here;
      said = p.said;
      rest = n.1.rest ∙ ap (λ (xs : List ℕ). here ++ xs) p.rest;
      values = p.values ∙ ap (λ (xs : List Value). xs ++ p.said) n.1.values;
      at = λ before at. moved bytes s.at before here n.1.size at ∙ sym n.1.at ∙ p.at;
      written = λ before after at room.
          let parts_on : encoded_parts 0 parts (writer (p.said ++ after) before s.counts) ≡ Some (number, writer after before t.counts) =
          ap (λ (k : ℕ). encoded_parts k parts (writer (p.said ++ after) before s.counts)) (sym none)
          ∙ ap (λ (counts : List ℕ). encoded_parts (number / 2 ^ (8 * bytes)) parts (writer (p.said ++ after) before counts))
          (sym n.1.counts)
          ∙ p.written before after in
          rw (parts_on, again) (write_on here before after t.counts room);
    }

-- coordinates
coordinate : (s u t : Decoding) (number : ℕ) → next_number 2 s ≡ Some (number, u) → put (value.Number number) u ≡ Some t → AreBytes s.rest
    → Undone (λ e. writing.next_number 16 e >>= λ (p : ℕ × Encoding). write (big_bytes 2 p.0) p.1) s t
coordinate s u t number read added held =
    let n = number_is 2 s u number read in
    let here = n.0 in
    let held_here : AreBytes here = bytes_before here u.rest (subst AreBytes n.1.rest held) in
    let few_here : length here ≤ 4 = omega (arith, n.1.size) in
    let is : number ≡ big_number (length here) here = n.2 ∙ ap (λ (k : ℕ). big_number k here) (sym n.1.size) in
    let small : number < 2 ^ 16 =
    subst (λ (k : ℕ). number < 2 ^ (8 * k)) n.1.size
    (subst (λ (k : ℕ). k < 2 ^ (8 * length here)) (sym is) (number_below here few_here held_here)) in
    let again : big_bytes 2 number ≡ here =
    ap (λ (k : ℕ). big_bytes k number) (sym n.1.size) ∙ ap (λ (k : ℕ). big_bytes (length here) k) is
    ∙ bytes_again here few_here held_here in
    taken (λ e. writing.next_number 16 e >>= λ (p : ℕ × Encoding). write (big_bytes 2 p.0) p.1) 2 (value.Number number) s u t here n.1 added
    (λ before after counts. rw (number_on 16 number after before counts small, again) refl)

pub coordinates_undone : (n : ℕ) (s t : Decoding) → AreBytes s.rest → decoded_coordinates n s ≡ Some t
    → Undone (encoded_coordinates n) s t
coordinates_undone zero s t held h = subst (λ (u : Decoding). Undone (λ e. Some e) s u) (some_is h) (none s)
coordinates_undone (suc n) s t held h =
    let a = bound (next_number 2 s) (λ (p : ℕ × Decoding). put (value.Number p.0) p.1 >>= λ u. decoded_coordinates n u) t h in
    let b = bound (put (value.Number a.0.0) a.0.1) (λ u. decoded_coordinates n u) t a.2 in
    let first = coordinate s a.0.1 b.0 a.0.0 a.1 b.1 held in
    let rest = coordinates_undone n b.0 t (left_bytes _ s b.0 first held) b.2 in
    as_it_is _ (encoded_coordinates (suc n)) s t
    (λ e. one_by_one (writing.next_number 16 e) (λ (p : ℕ × Encoding). write (big_bytes 2 p.0) p.1) (encoded_coordinates n))
    (both _ (encoded_coordinates n) s b.0 t first rest)
