-- Steps of reading, and the steps of writing that undo them.
use Rattle.rez_types.proofs.Cited.{◌≡◌, ℕ, ◌+◌, ◌%◌, ◌≤◌, Option, Some, None, Bool, true, false, List, [], ◌∷◌, ◌++◌, length, take, drop}
use Rattle.rez_types.proofs.Cited.{refl, sym, ap, subst, ◌∙◌, arith, append_assoc, length-append, append-nil, take-append-drop}
use Rattle.rez_types.proofs.Cited.{length-take-le, leb-true, le-leb, Value, ◌>>=◌, given, Decoding, put, next, Encoding, write, AreBytes}

-- a writer before values, after bytes and counts
abbrev pub writer : List Value → List ℕ → List ℕ → Encoding
writer values bytes counts = record { values = values; bytes = bytes; counts = counts }

-- a step of reading from s to t passes over bytes and adds values, and a step of writing passes over those values and adds those
-- bytes
pub record Undone (step : Encoding → Option Encoding) (s t : Decoding) : Type 0 where
  pub here : List ℕ
  pub said : List Value
  pub rest : s.rest ≡ here ++ t.rest
  pub values : t.values ≡ s.values ++ said
  pub at : (before : List ℕ) → length before % 4 ≡ s.at → length (before ++ here) % 4 ≡ t.at
  pub written : (before : List ℕ) (after : List Value) → length before % 4 ≡ s.at → length before + length here ≤ 16777216
      → step (writer (said ++ after) before s.counts) ≡ Some (writer after (before ++ here) t.counts)

-- what both of two steps lead to
pub bound : {A B : Type 0} (o : Option A) (f : A → Option B) (y : B) → (o >>= f) ≡ Some y → (x : A) × (o ≡ Some x) × (f x ≡ Some y)
bound (Some x) f y h = (x, refl, h)
bound None f y h = absurd (cc)

pub some_is : {A : Type 0} {x y : A} → Some x ≡ Some y → x ≡ y
some_is h = cc

pub given_is : {A : Type 0} (holds : Bool) (x y : A) → given holds x ≡ Some y → (holds ≡ true) × (x ≡ y)
given_is true x y h = (refl, cc)
given_is false x y h = absurd (cc)

-- one more value
pub put_is : (v : Value) (s t : Decoding) → put v s ≡ Some t → t ≡ record s { values = s.values ++ v ∷ [] }
unfolding put
put_is v s t h = let g = given_is _ _ _ h in sym g.1

-- a value that is put
pub putting : (v : Value) (s t : Decoding) → put v s ≡ Some t
    → (s.rest ≡ t.rest) × (s.at ≡ t.at) × (t.values ≡ s.values ++ v ∷ []) × (t.counts ≡ s.counts)
putting v s t h =
    let e = put_is v s t h in (
      sym (ap (λ (u : Decoding). u.rest) e),
      sym (ap (λ (u : Decoding). u.at) e),
      ap (λ (u : Decoding). u.values) e,
      ap (λ (u : Decoding). u.counts) e,
    )

-- the next bytes
pub record Next (n : ℕ) (s t : Decoding) (here : List ℕ) : Type 0 where
  pub size : length here ≡ n
  pub rest : s.rest ≡ here ++ t.rest
  pub at : t.at ≡ (s.at + n % 4) % 4
  pub values : t.values ≡ s.values
  pub counts : t.counts ≡ s.counts

pub next_is : (n : ℕ) (s t : Decoding) (here : List ℕ) → next n s ≡ Some (here, t) → Next n s t here
unfolding next
next_is n s t here h =
    let g = given_is _ _ _ h in
    let there : take n s.rest ≡ here = ap (λ (p : List ℕ × Decoding). p.0) g.1 in
    let left : drop n s.rest ≡ t.rest = ap (λ (p : List ℕ × Decoding). p.1.rest) g.1 in
    let fits : n ≤ length s.rest = leb-true n (length s.rest) g.0 in
    record {
      size = ap length (sym there) ∙ length-take-le n s.rest fits;
      rest = sym (take-append-drop n s.rest) ∙ ap (λ (xs : List ℕ). xs ++ drop n s.rest) there ∙ ap (λ (xs : List ℕ). here ++ xs) left;
      at = sym (ap (λ (p : List ℕ × Decoding). p.1.at) g.1);
      values = sym (ap (λ (p : List ℕ × Decoding). p.1.values) g.1);
      counts = sym (ap (λ (p : List ℕ × Decoding). p.1.counts) g.1);
    }

-- where bytes were before and are passed over
pub moved : (n at : ℕ) (before here : List ℕ) → length here ≡ n → length before % 4 ≡ at → length (before ++ here) % 4 ≡ (at + n % 4) % 4
moved n at before here size h = omega (arith, length-append before here)

-- bytes are written where there is room
pub write_on : (more before : List ℕ) (values : List Value) (counts : List ℕ) → length before + length more ≤ 16777216
    → write more (writer values before counts) ≡ Some (writer values (before ++ more) counts)
unfolding write
write_on more before values counts h = rw (le-leb (length before + length more) 16777216 h) refl

-- what is left of bytes is bytes
pub bytes_after : (xs ys : List ℕ) → AreBytes (xs ++ ys) → AreBytes ys
bytes_after [] ys h = h
bytes_after (x ∷ xs) ys h = bytes_after xs ys h.1

pub bytes_before : (xs ys : List ℕ) → AreBytes (xs ++ ys) → AreBytes xs
bytes_before [] ys h = tt
bytes_before (x ∷ xs) ys h = (h.0, bytes_before xs ys h.1)

-- one step after another
pub both : (first second : Encoding → Option Encoding) (s t u : Decoding) → Undone first s t → Undone second t u
    → Undone (λ e. first e >>= second) s u
both first second s t u a b = record {
  here = a.here ++ b.here;
  said = a.said ++ b.said;
  rest = a.rest ∙ ap (λ (xs : List ℕ). a.here ++ xs) b.rest ∙ sym (append_assoc a.here b.here u.rest);
  values = b.values ∙ ap (λ (xs : List Value). xs ++ b.said) a.values ∙ append_assoc s.values a.said b.said;
  at = λ before h. rw (← append_assoc before a.here b.here) (b.at (before ++ a.here) (a.at before h));
  written = λ before after h room.
      let first_room : length before + length a.here ≤ 16777216 = omega (arith, length-append a.here b.here) in
      let second_room : length (before ++ a.here) + length b.here ≤ 16777216 =
      omega (arith, length-append a.here b.here, length-append before a.here) in
      let one = a.written before (b.said ++ after) h first_room in
      let two = b.written (before ++ a.here) after (a.at before h) second_room in
      rw (append_assoc a.said b.said after, one, two, append_assoc before a.here b.here) refl;
}

-- no step
pub none : (s : Decoding) → Undone (λ e. Some e) s s
none s = record {
  here = [];
  said = [];
  rest = refl;
  values = sym (append-nil s.values);
  at = λ before h. rw append-nil h;
  written = λ before after h room. rw append-nil refl;
}

-- bytes that are read are bytes
pub left_bytes : (step : Encoding → Option Encoding) (s t : Decoding) → Undone step s t → AreBytes s.rest → AreBytes t.rest
left_bytes step s t u h = bytes_after u.here t.rest (subst AreBytes u.rest h)

-- a step that does the same
pub as_it_is : (step other : Encoding → Option Encoding) (s t : Decoding) → ((e : Encoding) → step e ≡ other e) → Undone step s t
    → Undone other s t
as_it_is step other s t same u = record {
  here = u.here;
  said = u.said;
  rest = u.rest;
  values = u.values;
  at = u.at;
  written = λ before after h room. sym (same (writer (u.said ++ after) before s.counts)) ∙ u.written before after h room;
}

pub one_by_one : {A B C : Type 0} (o : Option A) (f : A → Option B) (g : B → Option C) → ((o >>= f) >>= g) ≡ (o >>= λ x. f x >>= g)
one_by_one (Some x) f g = refl
one_by_one None f g = refl

-- bytes that one value has
pub taken : (step : Encoding → Option Encoding) (n : ℕ) (v : Value) (s u t : Decoding) (here : List ℕ) → Next n s u here → put v u ≡ Some t
    → ((before : List ℕ) (after : List Value) (counts : List ℕ)
    → step (writer (v ∷ after) before counts) ≡ write here (writer after before counts))
    → Undone step s t
taken step n v s u t here next added h =
    let e = putting v u t added in
    record {
      here = here;
      said = v ∷ [];
      rest = next.rest ∙ ap (λ (xs : List ℕ). here ++ xs) e.0;
      values = e.2 ∙ ap (λ (xs : List Value). xs ++ v ∷ []) next.values;
      at = λ before at. moved n s.at before here next.size at ∙ sym next.at ∙ e.1;
      written = λ before after at room.
          h before after s.counts ∙ write_on here before after s.counts room
          ∙ ap (λ (counts : List ℕ). Some (writer after (before ++ here) counts)) (sym (e.3 ∙ next.counts));
    }
