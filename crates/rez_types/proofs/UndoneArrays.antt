-- Arrays that are read are written again.
use Rattle.rez_types.proofs.Cited.{◌≡◌, ℕ, zero, suc, ◌+◌, ◌≤◌, ◌<◌, ◌%◌, ◌==◌, ◌&&◌, Option, Some, None, Bool, true, false, List, [], ◌∷◌}
use Rattle.rez_types.proofs.Cited.{◌++◌, length, nat_le, if◌then◌else◌, refl, sym, ap, subst, ◌∙◌, arith, append_assoc, length-append}
use Rattle.rez_types.proofs.Cited.{slice_get, append-nil, eqb-true, eq-eqb, leb-true, le-leb, not_from_false, true≢false, drop-append_seam}
use Rattle.rez_types.proofs.Cited.{big_number, big_from-append, ArrayEnd, Fixed, Counted, Before, Resource, Value, ◌>>=◌, Decoding, put}
use Rattle.rez_types.proofs.Cited.{decoded_elements, decoded_until, decoded_array, begins, ends_before, Encoding, next_value, is_element}
use Rattle.rez_types.proofs.Cited.{encoded_element, encoded_elements, encoded_array, may_have, AreBytes}
use Rattle.rez_types.specs.Values as value
use Rattle.rez_types.proofs.Undone.{Undone, writer, bound, putting, left_bytes}

-- a block is read and written so; it leaves the counts of the block around it
pub record BlockUndone (block : Decoding → Option Decoding) (step : Encoding → Option Encoding) : Type 0 where
  pub undone : (s t : Decoding) → AreBytes s.rest → block s ≡ Some t → Undone step s t
  pub counts : (s t : Decoding) → block s ≡ Some t → t.counts ≡ s.counts

-- elements up to the end of an array are read, and written again
pub record ElementsUndone (step : Encoding → Option Encoding) (end : ArrayEnd) (s t : Decoding) : Type 0 where
  pub number : ℕ
  pub here : List ℕ
  pub said : List Value
  pub rest : s.rest ≡ here ++ t.rest
  pub values : t.values ≡ s.values ++ said
  pub at : (before : List ℕ) → length before % 4 ≡ s.at → length (before ++ here) % 4 ≡ t.at
  pub counts : t.counts ≡ s.counts
  pub few : number < length said
  pub written : (count most : ℕ) (before : List ℕ) (after : List Value) → number < most → length before % 4 ≡ s.at
      → length before + length here ≤ 16777216
      → encoded_elements step end count most (writer (said ++ after) before s.counts)
      ≡ Some (count + number, writer after (before ++ here) s.counts)

-- no further element
last_on : (step : Encoding → Option Encoding) (end : ArrayEnd) (count most : ℕ) (before : List ℕ) (after : List Value) (counts : List ℕ)
    → 0 < most
    → encoded_elements step end count most (writer (value.NoElement ∷ after) before counts)
    ≡ Some (count + 0, writer after (before ++ []) counts)
unfolding next_value
last_on step end count zero before after counts h = absurd (omega arith)
last_on step end count (suc most) before after counts h =
    let none : count + 0 ≡ count = omega arith in
    rw (none, append-nil before) refl

last_undone : (step : Encoding → Option Encoding) (end : ArrayEnd) (s t : Decoding) → put value.NoElement s ≡ Some t
    → ElementsUndone step end s t
last_undone step end s t h =
    let e = putting value.NoElement s t h in
    record {
      number = 0;
      here = [];
      said = value.NoElement ∷ [];
      rest = e.0;
      values = e.2;
      at = λ before at. rw append-nil (at ∙ e.1);
      counts = e.3;
      few = omega arith;
      written = λ count most before after h at room. last_on step end count most before after s.counts h;
    }

-- an element
element_on : (step : Encoding → Option Encoding) (end : ArrayEnd) (here before : List ℕ) (values after : List Value) (counts later : List ℕ)
    → step (writer values before counts) ≡ Some (writer after (before ++ here) later) → is_element end here ≡ true
    → encoded_element step end (writer values before counts) ≡ Some (writer after (before ++ here) later)
element_on step end here before values after counts later h is = rw (h, drop-append_seam before here, is) refl

-- an element before others
more_on : (step : Encoding → Option Encoding) (end : ArrayEnd) (count most number : ℕ) (here before next : List ℕ)
    (values others after : List Value) (counts : List ℕ)
    → encoded_element step end (writer values before counts) ≡ Some (writer others (before ++ here) counts)
    → encoded_elements step end (count + 1) most (writer others (before ++ here) counts)
    ≡ Some (count + 1 + number, writer after (before ++ here ++ next) counts)
    → encoded_elements step end count (suc most) (writer (value.Element ∷ values) before counts)
    ≡ Some (count + suc number, writer after (before ++ (here ++ next)) counts)
unfolding next_value
more_on step end count most number here before next values others after counts one rest =
    let all : count + suc number ≡ count + 1 + number = omega arith in
    rw (one, rest, all, append_assoc before here next) refl

more_written : (step : Encoding → Option Encoding) (end : ArrayEnd) (s u v t : Decoding) → u.counts ≡ s.counts → s.at ≡ u.at
    → (one : Undone step u v) → v.counts ≡ u.counts → is_element end one.here ≡ true → (rest : ElementsUndone step end v t)
    → (count most : ℕ) (before : List ℕ) (after : List Value) → suc rest.number < most → length before % 4 ≡ s.at
    → length before + length (one.here ++ rest.here) ≤ 16777216
    → encoded_elements step end count most (writer (value.Element ∷ (one.said ++ rest.said) ++ after) before s.counts)
    ≡ Some (count + suc rest.number, writer after (before ++ (one.here ++ rest.here)) s.counts)
more_written step end s u v t same place one kept is rest count zero before after h at room = absurd (omega arith)
more_written step end s u v t same place one kept is rest count (suc most) before after h at room =
    let first_room : length before + length one.here ≤ 16777216 = omega (arith, length-append one.here rest.here) in
    let second_room : length (before ++ one.here) + length rest.here ≤ 16777216 =
    omega (arith, length-append one.here rest.here, length-append before one.here) in
    let values = (one.said ++ rest.said) ++ after in
    let others = rest.said ++ after in
    let step_on : step (writer values before s.counts) ≡ Some (writer others (before ++ one.here) s.counts) =
    ap (λ (xs : List Value). step (writer xs before s.counts)) (append_assoc one.said rest.said after)
    ∙ ap (λ (counts : List ℕ). step (writer (one.said ++ others) before counts)) (sym same)
    ∙ one.written before others (at ∙ place) first_room
    ∙ ap (λ (counts : List ℕ). Some (writer others (before ++ one.here) counts)) (kept ∙ same) in
    let rest_on : encoded_elements step end (count + 1) most (writer others (before ++ one.here) s.counts)
    ≡ Some (count + 1 + rest.number, writer after (before ++ one.here ++ rest.here) s.counts) =
    ap (λ (counts : List ℕ). encoded_elements step end (count + 1) most (writer others (before ++ one.here) counts)) (sym (kept ∙ same))
    ∙ rest.written (count + 1) most (before ++ one.here) after (omega arith) (one.at before (at ∙ place)) second_room
    ∙ ap (λ (counts : List ℕ). Some (count + 1 + rest.number, writer after (before ++ one.here ++ rest.here) counts)) (kept ∙ same) in
    more_on step end count most rest.number one.here before rest.here values others after s.counts
    (element_on step end one.here before values others s.counts s.counts step_on is) rest_on

more_undone : (step : Encoding → Option Encoding) (end : ArrayEnd) (s u v t : Decoding) → put value.Element s ≡ Some u
    → (one : Undone step u v) → v.counts ≡ u.counts → is_element end one.here ≡ true → ElementsUndone step end v t
    → ElementsUndone step end s t
more_undone step end s u v t added one kept is rest =
    let e = putting value.Element s u added in
    record {
      number = suc rest.number;
      here = one.here ++ rest.here;
      said = value.Element ∷ (one.said ++ rest.said);
      rest = e.0 ∙ one.rest ∙ ap (λ (xs : List ℕ). one.here ++ xs) rest.rest ∙ sym (append_assoc one.here rest.here t.rest);
      values = rest.values ∙ ap (λ (xs : List Value). xs ++ rest.said) (one.values ∙ ap (λ (xs : List Value). xs ++ one.said) e.2)
          ∙ element_assoc s.values one.said rest.said;
      at = λ before at. rw (← append_assoc before one.here rest.here) (rest.at (before ++ one.here) (one.at before (at ∙ e.1)));
      counts = rest.counts ∙ kept ∙ e.3;
      few = omega (arith, rest.few, length-append one.said rest.said);
      written = more_written step end s u v t e.3 e.1 one kept is rest;
    }
  where
    element_assoc : (xs ys zs : List Value) → ((xs ++ value.Element ∷ []) ++ ys) ++ zs ≡ xs ++ value.Element ∷ (ys ++ zs)
    element_assoc xs ys zs = simp append_assoc

-- n elements
elements_undone : (block : Decoding → Option Decoding) (step : Encoding → Option Encoding) (end : ArrayEnd) → BlockUndone block step
    → ((bytes : List ℕ) → is_element end bytes ≡ true) → (n : ℕ) (s t : Decoding) → AreBytes s.rest → decoded_elements block n s ≡ Some t
    → (r : ElementsUndone step end s t) × (r.number ≡ n)
unfolding last_undone more_undone
elements_undone block step end b any zero s t held h = (last_undone step end s t h, refl)
elements_undone block step end b any (suc n) s t held h =
    let p = bound (put value.Element s) (λ (u : Decoding). block u >>= λ (v : Decoding). decoded_elements block n v) t h in
    let q = bound (block p.0) (λ (v : Decoding). decoded_elements block n v) t p.2 in
    let held_first : AreBytes p.0.rest = subst AreBytes (putting value.Element s p.0 p.1).0 held in
    let one = b.undone p.0 q.0 held_first q.1 in
    let rest = elements_undone block step end b any n q.0 t (left_bytes step p.0 q.0 one held_first) q.2 in
    (more_undone step end s p.0 q.0 t p.1 one (b.counts p.0 q.0 q.1) (any one.here) rest.0, ap suc rest.1)

-- bytes before which an array does not end are not its end
not_begun : (n number : ℕ) (xs ys : List ℕ) (b : Bool) → begins n number xs ≡ b → begins n number (xs ++ ys) ≡ false → b ≡ false
not_begun n number xs ys true e h =
    let parts = both_true (nat_le n (length xs)) (big_number n xs == number) e in
    let long : n ≤ length xs = leb-true n (length xs) parts.0 in
    let longer : n ≤ length (xs ++ ys) = omega (arith, length-append xs ys) in
    let same : big_number n (xs ++ ys) ≡ number = big_from-append n xs ys long ∙ eqb-true (big_number n xs) number parts.1 in
    let does : begins n number (xs ++ ys) ≡ true =
    rw (le-leb n (length (xs ++ ys)) longer) (eq-eqb (big_number n (xs ++ ys)) number same) in
    absurd (true≢false (sym does ∙ h))
  where
    both_true : (a b : Bool) → (a && b) ≡ true → (a ≡ true) × (b ≡ true)
    both_true true b h = (refl, h)
    both_true false b h = absurd (cc)
not_begun n number xs ys false e h = refl

is_one : (end : ArrayEnd) (xs ys : List ℕ) → ends_before end (xs ++ ys) ≡ false → is_element end xs ≡ true
is_one (Fixed n) xs ys h = refl
is_one (Counted place) xs ys h = refl
is_one (Before n number) xs ys h = not_from_false (begins n number xs) (not_begun n number xs ys (begins n number xs) refl h)
is_one Resource xs ys h = refl

-- elements up to where the array ends
until_more : (block : Decoding → Option Decoding) (step : Encoding → Option Encoding) (end : ArrayEnd) → BlockUndone block step
    → (next : Decoding → Option Decoding) (s t : Decoding) → AreBytes s.rest
    → ((v : Decoding) → AreBytes v.rest → next v ≡ Some t → ElementsUndone step end v t)
    → (ended : Bool) → ends_before end s.rest ≡ ended
    → (if ended then put value.NoElement s else (put value.Element s >>= λ u. block u >>= λ v. next v)) ≡ Some t
    → ElementsUndone step end s t
until_more block step end b next s t held rest true e h = last_undone step end s t h
until_more block step end b next s t held rest false e h =
    let p = bound (put value.Element s) (λ (u : Decoding). block u >>= λ (v : Decoding). next v) t h in
    let q = bound (block p.0) next t p.2 in
    let same = (putting value.Element s p.0 p.1).0 in
    let held_first : AreBytes p.0.rest = subst AreBytes same held in
    let one = b.undone p.0 q.0 held_first q.1 in
    let is : is_element end one.here ≡ true =
    is_one end one.here q.0.rest (ap (λ (xs : List ℕ). ends_before end xs) (sym one.rest ∙ sym same) ∙ e) in
    more_undone step end s p.0 q.0 t p.1 one (b.counts p.0 q.0 q.1) is (rest q.0 (left_bytes step p.0 q.0 one held_first) q.2)

until_none : (step : Encoding → Option Encoding) (end : ArrayEnd) (s t : Decoding) (ended : Bool)
    → (if ended then put value.NoElement s else None) ≡ Some t → ElementsUndone step end s t
until_none step end s t true h = last_undone step end s t h
until_none step end s t false h = absurd (cc)

until_undone : (block : Decoding → Option Decoding) (step : Encoding → Option Encoding) (end : ArrayEnd) → BlockUndone block step
    → (n : ℕ) (s t : Decoding) → AreBytes s.rest → decoded_until block end n s ≡ Some t → ElementsUndone step end s t
until_undone block step end b zero s t held h = until_none step end s t (ends_before end s.rest) h
until_undone block step end b (suc n) s t held h =
    until_more block step end b (decoded_until block end n) s t held (λ v held_rest k. until_undone block step end b n v t held_rest k)
    (ends_before end s.rest) refl h

-- elements, where the array may have so many
all_undone : (step : Encoding → Option Encoding) (end : ArrayEnd) (s t : Decoding) → (r : ElementsUndone step end s t)
    → may_have end s.counts r.number ≡ true → Undone (encoded_array step end) s t
unfolding encoded_array
all_undone step end s t r may = record {
  here = r.here;
  said = r.said;
  rest = r.rest;
  values = r.values;
  at = r.at;
  written = λ before after at room.
      let enough : r.number < length (r.said ++ after) = omega (arith, r.few, length-append r.said after) in
      let all : 0 + r.number ≡ r.number = omega arith in
      rw (r.written 0 (length (r.said ++ after)) before after enough at room, all, may, r.counts) refl;
}

-- a count says how many they are
counted_so : (place number n : ℕ) (counts : List ℕ) → slice_get counts place ≡ Some n → number ≡ n
    → may_have (Counted place) counts number ≡ true
counted_so place number n counts there same = rw (there, may_have) (eq-eqb number n same)

pub array_undone : (block : Decoding → Option Decoding) (step : Encoding → Option Encoding) (end : ArrayEnd) → BlockUndone block step
    → (s t : Decoding) → AreBytes s.rest → decoded_array block end s ≡ Some t → Undone (encoded_array step end) s t
array_undone block step (Fixed n) b s t held h =
    let r = elements_undone block step (Fixed n) b (λ bytes. refl) n s t held h in
    all_undone step (Fixed n) s t r.0 (eq-eqb r.0.number n r.1)
array_undone block step (Counted place) b s t held h =
    let p = bound (slice_get s.counts place) (λ (n : ℕ). decoded_elements block n s) t h in
    let r = elements_undone block step (Counted place) b (λ bytes. refl) p.0 s t held p.2 in
    all_undone step (Counted place) s t r.0 (counted_so place r.0.number p.0 s.counts p.1 r.1)
array_undone block step (Before n number) b s t held h =
    all_undone step (Before n number) s t (until_undone block step (Before n number) b (length s.rest) s t held h) refl
array_undone block step Resource b s t held h =
    all_undone step Resource s t (until_undone block step Resource b (length s.rest) s t held h) refl
