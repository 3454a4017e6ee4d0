-- Fills and strings that are read are written again.
use Rattle.rez_types.proofs.Cited.{◌≡◌, ℕ, suc, ◌+◌, ◌*◌, ◌^◌, ◌≤◌, ◌<◌, cond, Some, None, Bool, true, false, not, List, [], ◌∷◌, ◌++◌}
use Rattle.rez_types.proofs.Cited.{length, nat_lt, refl, sym, ap, subst, ◌∙◌, arith, append_assoc, length-append, position, prefix_len}
use Rattle.rez_types.proofs.Cited.{eqb-true, eq-eqb, le-ltb, big_number, TextEnd, Value, ◌>>=◌, Decoding, put, next, next_number}
use Rattle.rez_types.proofs.Cited.{decoded_fill, decoded_bytes, decoded_pstring, decoded_cstring, decoded_text, is_zero, Encoding, write}
use Rattle.rez_types.proofs.Cited.{next_value, encoded_fill, encoded_text, written_text, has_no_zero, AreBytes}
use Rattle.rez_types.specs.declared.declaration.TextEnd.TheVariants as end
use Rattle.rez_types.specs.Values as value
use Rattle.rez_types.proofs.Undone.{Undone, writer, bound, some_is, next_is, moved, write_on, putting, taken, bytes_before}
use Rattle.rez_types.proofs.UndoneRuns.{number_is, number_below}

pub fill_undone : (n : ℕ) (s t : Decoding) → decoded_fill n s ≡ Some t → Undone (encoded_fill n) s t
unfolding decoded_fill encoded_fill next_value
fill_undone n s t h =
    let b = bound (next n s) (λ (p : List ℕ × Decoding). put (value.Filled p.0) p.1) t h in
    let here = b.0.0 in
    let next = next_is n s b.0.1 here b.1 in
    taken (encoded_fill n) n (value.Filled here) s b.0.1 t here next b.2 (λ before after counts. rw (eq-eqb (length here) n next.size) refl)

-- a string of n bytes
bytes_undone : (end : TextEnd) (n : ℕ) (s t : Decoding)
    → ((here : List ℕ) (e : Encoding) → length here ≡ n → written_text end here e ≡ write here e)
    → decoded_bytes n s ≡ Some t → Undone (encoded_text end) s t
unfolding decoded_bytes encoded_text next_value
bytes_undone end n s t written h =
    let b = bound (next n s) (λ (p : List ℕ × Decoding). put (value.Text p.0) p.1) t h in
    let here = b.0.0 in
    let next = next_is n s b.0.1 here b.1 in
    taken (encoded_text end) n (value.Text here) s b.0.1 t here next b.2 (λ before after counts.
    written here (writer after before counts) next.size)

-- one byte is its number
one_byte : (xs : List ℕ) → length xs ≡ 1 → xs ≡ big_number 1 xs ∷ []
one_byte [] h = absurd (omega arith)
one_byte (x ∷ []) h = ap (λ (y : ℕ). y ∷ []) (omega arith)
one_byte (x ∷ y ∷ xs) h = absurd (omega arith)

-- a byte with the length of a string, and the string, are written
pstring_on : (text first before : List ℕ) (after : List Value) (counts : List ℕ) → length text ∷ [] ≡ first → length text < 256
    → length before + length (first ++ text) ≤ 16777216
    → encoded_text end.Pascal (writer (value.Text text ∷ after) before counts) ≡ Some (writer after (before ++ (first ++ text)) counts)
unfolding encoded_text next_value
pstring_on text first before after counts is short room =
    let first_room : length before + length first ≤ 16777216 = omega (arith, length-append first text) in
    let second_room : length (before ++ first) + length text ≤ 16777216 =
    omega (arith, length-append first text, length-append before first) in
    let few : nat_lt 255 (length text) ≡ false = le-ltb 255 (length text) (omega arith) in
    rw (
      few,
      is,
      write_on first before after counts first_room,
      write_on text (before ++ first) after counts second_room,
      append_assoc before first text,
    )
    refl

-- a string after a byte with its length
pstring_undone : (s t : Decoding) → AreBytes s.rest → decoded_pstring s ≡ Some t → Undone (encoded_text end.Pascal) s t
unfolding decoded_pstring decoded_bytes encoded_text next_value
pstring_undone s t held h =
    let a = bound (next_number 1 s) (λ (p : ℕ × Decoding). next p.0 p.1 >>= λ (q : List ℕ × Decoding). put (value.Text q.0) q.1) t h in
    let count = a.0.0 in
    let u = a.0.1 in
    let n = number_is 1 s u count a.1 in
    let first = n.0 in
    let b = bound (next count u) (λ (q : List ℕ × Decoding). put (value.Text q.0) q.1) t a.2 in
    let text = b.0.0 in
    let w = b.0.1 in
    let second = next_is count u w text b.1 in
    let held_first : AreBytes first = bytes_before first u.rest (subst AreBytes n.1.rest held) in
    let few_first : length first ≤ 4 = omega (arith, n.1.size) in
    let is : count ≡ big_number (length first) first = n.2 ∙ ap (λ (k : ℕ). big_number k first) (sym n.1.size) in
    let small : count < 2 ^ 8 =
    subst (λ (k : ℕ). count < 2 ^ (8 * k)) n.1.size
    (subst (λ (k : ℕ). k < 2 ^ (8 * length first)) (sym is) (number_below first few_first held_first)) in
    let first_is : length text ∷ [] ≡ first =
    ap (λ (k : ℕ). k ∷ []) (second.size ∙ n.2) ∙ sym (one_byte first n.1.size) in
    let e = putting (value.Text text) w t b.2 in
    record {
      here = first ++ text;
      said = value.Text text ∷ [];
      rest = n.1.rest ∙ ap (λ (xs : List ℕ). first ++ xs) (second.rest ∙ ap (λ (xs : List ℕ). text ++ xs) e.0)
          ∙ sym (append_assoc first text t.rest);
      values = e.2 ∙ ap (λ (xs : List Value). xs ++ value.Text text ∷ []) (second.values ∙ n.1.values);
      at = λ before at.
          rw (← append_assoc before first text)
          (moved count u.at (before ++ first) text second.size (moved 1 s.at before first n.1.size at ∙ sym n.1.at) ∙ sym second.at ∙ e.1);
      written = λ before after at room.
          pstring_on text first before after s.counts first_is (omega (arith, second.size)) room
          ∙ ap (λ (counts : List ℕ). Some (writer after (before ++ (first ++ text)) counts)) (sym (e.3 ∙ second.counts ∙ n.1.counts));
    }

-- before the first byte of 0 there is none
ZeroAfter : List ℕ → List ℕ → Type 0
ZeroAfter xs ys = (has_no_zero xs ≡ true) × (prefix_len (λ b. not (is_zero b)) ys ≡ 0)

before_test : (x : ℕ) (xs ys : List ℕ) (b : Bool) → not (is_zero x) ≡ b
    → (prefix_len (λ b. not (is_zero b)) (xs ++ ys) ≡ length xs → ZeroAfter xs ys)
    → cond b (1 + prefix_len (λ b. not (is_zero b)) (xs ++ ys)) 0 ≡ suc (length xs) → ZeroAfter (x ∷ xs) ys
unfolding ZeroAfter
before_test x xs ys true e rest k = let r = rest (omega arith) in (rw (e, r.0) refl, r.1)
before_test x xs ys false e rest k = absurd (omega arith)

before_zero : (xs ys : List ℕ) → prefix_len (λ b. not (is_zero b)) (xs ++ ys) ≡ length xs → ZeroAfter xs ys
unfolding ZeroAfter
before_zero [] ys h = (refl, h)
before_zero (x ∷ xs) ys h = before_test x xs ys (not (is_zero x)) refl (λ k. before_zero xs ys k) h

no_zero : (xs ys : List ℕ) → ZeroAfter xs ys → has_no_zero xs ≡ true
unfolding ZeroAfter
no_zero xs ys z = z.0

is_first : (xs ys : List ℕ) → ZeroAfter xs ys → prefix_len (λ b. not (is_zero b)) ys ≡ 0
unfolding ZeroAfter
is_first xs ys z = z.1

-- a first byte of 0
zero_first : (mark ys : List ℕ) → length mark ≡ 1 → prefix_len (λ b. not (is_zero b)) (mark ++ ys) ≡ 0 → mark ≡ 0 ∷ []
zero_first [] ys h k = absurd (omega arith)
zero_first (x ∷ []) ys h k = zero_test x ys (is_zero x) refl k
  where
    zero_test : (x : ℕ) (ys : List ℕ) (b : Bool) → is_zero x ≡ b → cond (not b) (1 + prefix_len (λ b. not (is_zero b)) ys) 0 ≡ 0
        → x ∷ [] ≡ 0 ∷ []
    zero_test x ys true e k = ap (λ (y : ℕ). y ∷ []) (eqb-true x 0 e)
    zero_test x ys false e k = absurd (omega arith)
zero_first (x ∷ y ∷ xs) ys h k = absurd (omega arith)

-- the place of the first byte of 0
zero_at : (xs : List ℕ) (n : ℕ) → position is_zero xs ≡ Some n → prefix_len (λ b. not (is_zero b)) xs ≡ n
zero_at xs n h = found (nat_lt (prefix_len (λ b. not (is_zero b)) xs) (length xs)) h
  where
    found : (b : Bool) → cond b (Some (prefix_len (λ b. not (is_zero b)) xs)) None ≡ Some n → prefix_len (λ b. not (is_zero b)) xs ≡ n
    found true k = some_is k
    found false k = absurd (cc)

-- a string and a byte of 0 are written
cstring_on : (text mark before : List ℕ) (after : List Value) (counts : List ℕ) → has_no_zero text ≡ true → mark ≡ 0 ∷ []
    → length before + length (text ++ mark) ≤ 16777216
    → encoded_text end.C (writer (value.Text text ∷ after) before counts) ≡ Some (writer after (before ++ (text ++ mark)) counts)
unfolding encoded_text next_value
cstring_on text mark before after counts no_zero is room =
    let first_room : length before + length text ≤ 16777216 = omega (arith, length-append text mark) in
    let second_room : length (before ++ text) + length mark ≤ 16777216 =
    omega (arith, length-append text mark, length-append before text) in
    rw (
      no_zero,
      ← is,
      write_on text before after counts first_room,
      write_on mark (before ++ text) after counts second_room,
      append_assoc before text mark,
    )
    refl

-- a string that a byte of 0 ends
cstring_undone : (s t : Decoding) → decoded_cstring s ≡ Some t → Undone (encoded_text end.C) s t
unfolding decoded_cstring decoded_bytes
cstring_undone s t h =
    let a = bound (position is_zero s.rest)
    (λ (n : ℕ). decoded_bytes n s >>= λ (u : Decoding). next_number 1 u >>= λ (p : ℕ × Decoding). Some p.1) t h in
    let n = a.0 in
    let b = bound (decoded_bytes n s) (λ (u : Decoding). next_number 1 u >>= λ (p : ℕ × Decoding). Some p.1) t a.2 in
    let w = b.0 in
    let c = bound (next_number 1 w) (λ (p : ℕ × Decoding). Some p.1) t b.2 in
    let last : c.0.1 ≡ t = some_is c.2 in
    let d = bound (next n s) (λ (q : List ℕ × Decoding). put (value.Text q.0) q.1) w b.1 in
    let text = d.0.0 in
    let first = next_is n s d.0.1 text d.1 in
    let e = putting (value.Text text) d.0.1 w d.2 in
    let m = number_is 1 w t c.0.0 (c.1 ∙ ap (λ (u : Decoding). Some (c.0.0, u)) last) in
    let mark = m.0 in
    let rest : s.rest ≡ text ++ (mark ++ t.rest) = first.rest ∙ ap (λ (xs : List ℕ). text ++ xs) (e.0 ∙ m.1.rest) in
    let at : prefix_len (λ b. not (is_zero b)) (text ++ (mark ++ t.rest)) ≡ length text =
    ap (λ (xs : List ℕ). prefix_len (λ b. not (is_zero b)) xs) (sym rest) ∙ zero_at s.rest n a.1 ∙ sym first.size in
    let ended = before_zero text (mark ++ t.rest) at in
    record {
      here = text ++ mark;
      said = value.Text text ∷ [];
      rest = rest ∙ sym (append_assoc text mark t.rest);
      values = m.1.values ∙ e.2 ∙ ap (λ (xs : List Value). xs ++ value.Text text ∷ []) first.values;
      at = λ before at.
          rw (← append_assoc before text mark)
          (moved 1 w.at (before ++ text) mark m.1.size (moved n s.at before text first.size at ∙ sym first.at ∙ e.1) ∙ sym m.1.at);
      written = λ before after at room.
          cstring_on text mark before after s.counts (no_zero text (mark ++ t.rest) ended)
          (zero_first mark t.rest m.1.size (is_first text (mark ++ t.rest) ended)) room
          ∙ ap (λ (counts : List ℕ). Some (writer after (before ++ (text ++ mark)) counts)) (sym (m.1.counts ∙ e.3 ∙ first.counts));
    }

-- a string
pub text_undone : (end : TextEnd) (s t : Decoding) → AreBytes s.rest → decoded_text end s ≡ Some t → Undone (encoded_text end) s t
text_undone end.Pascal s t held h = pstring_undone s t held h
text_undone end.C s t held h = cstring_undone s t h
text_undone end.Char s t held h = bytes_undone end.Char 1 s t (λ here e size. rw (eq-eqb (length here) 1 size) refl) h
text_undone (end.Fixed n) s t held h = bytes_undone (end.Fixed n) n s t (λ here e size. rw (eq-eqb (length here) n size) refl) h
text_undone end.Resource s t held h = bytes_undone end.Resource (length s.rest) s t (λ here e size. refl) h
