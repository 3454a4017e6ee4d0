use Rattle.bin_hex.proofs.Cited.{◌≡◌, ℕ, zero, suc, ◌+◌, ◌-◌, ◌<◌, ◌≤◌, Bool, true, false, not, ◌&&◌, cond, List, [], ◌∷◌, ◌++◌, replicate}
use Rattle.bin_hex.proofs.Cited.{refl, sym, ◌∙◌, ap, arith, append_assoc, subst, lit<, inl, inr, ◌==◌, nat_le, nat_lt, flat_map, and_parts}
use Rattle.bin_hex.proofs.Cited.{cases_Bool, eqb-true, ltb-true, leb-true, ne_eqb, append-nil, bytes-append, AreBytes, expanded}
use Rattle.bin_hex.proofs.Cited.{begins_with_run, literal, run, runs_after, compressed}

-- A text with runs that is written for bytes stands for those bytes.

-- a literal stands for its byte
literal_again : (last byte : ℕ) (more : List ℕ) → expanded false last (literal byte ++ more) ≡ byte ∷ expanded false byte more
literal_again last byte more = elim (cases_Bool (byte == 0x90)) [
  | inl e ↦ ap (λ t. expanded false last (cond t (0x90 ∷ 0 ∷ []) (byte ∷ []) ++ more)) e
      ∙ ap (λ b. b ∷ expanded false b more) (sym (eqb-true byte 0x90 e))
  | inr e ↦ ap (λ t. expanded false last (cond t (0x90 ∷ 0 ∷ []) (byte ∷ []) ++ more)) e
      ∙ ap (λ t. cond t (expanded true last more) (byte ∷ expanded false byte more)) e
]

-- so do literals, where the byte before them is the same if there are none
literals_again : (count last byte : ℕ) (more : List ℕ) → (count ≡ 0 → last ≡ byte)
    → expanded false last (flat_map literal (replicate count byte) ++ more) ≡ replicate count byte ++ expanded false byte more
literals_again zero last byte more same = ap (λ b. expanded false b more) (same refl)
literals_again (suc count) last byte more same =
    ap (expanded false last) (append_assoc (literal byte) (flat_map literal (replicate count byte)) more)
    ∙ literal_again last byte (flat_map literal (replicate count byte) ++ more)
    ∙ ap (λ rest. byte ∷ rest) (literals_again count byte byte more (λ _. refl))

-- a byte with its number
numbered_again : (count last byte : ℕ) (more : List ℕ) → 1 ≤ count → (byte == 0x90) ≡ false
    → expanded false last (byte ∷ 0x90 ∷ count ∷ more) ≡ replicate count byte ++ expanded false byte more
numbered_again zero last byte more some other = absurd (omega arith)
numbered_again (suc count) last byte more some other =
    ap (λ t. cond t (expanded true last (0x90 ∷ suc count ∷ more)) (byte ∷ expanded false byte (0x90 ∷ suc count ∷ more))) other
    ∙ ap (λ t. byte ∷ cond t (0x90 ∷ expanded false 0x90 more) (replicate (suc count - 1) byte ++ expanded false byte more))
    (ne_eqb (suc count) 0 (λ e. omega arith))
    ∙ ap (λ n. byte ∷ (replicate n byte ++ expanded false byte more)) (let e : suc count - 1 ≡ count = omega arith in e)

run_again : (count last byte : ℕ) (more : List ℕ) → (count ≡ 0 → last ≡ byte)
    → expanded false last (run byte count ++ more) ≡ replicate count byte ++ expanded false byte more
run_again count last byte more same = elim (cases_Bool (nat_le 4 count && not (byte == 0x90))) [
  | inl e ↦ ap (λ t. expanded false last
      (cond t (byte ∷ 0x90 ∷ count ∷ []) (flat_map literal (replicate count byte)) ++ more)) e
      ∙ numbered_again count last byte more
      (let four = leb-true 4 count (and_parts (nat_le 4 count) (not (byte == 0x90)) e).0 in omega arith)
      (off (byte == 0x90) (and_parts (nat_le 4 count) (not (byte == 0x90)) e).1)
  | inr e ↦ ap (λ t. expanded false last
      (cond t (byte ∷ 0x90 ∷ count ∷ []) (flat_map literal (replicate count byte)) ++ more)) e
      ∙ literals_again count last byte more same
]
  where
    off : (t : Bool) → not t ≡ true → t ≡ false
    off true h = cc
    off false h = refl

-- one more of a byte, at either end
one_more : (count byte : ℕ) (more : List ℕ) → replicate (count + 1) byte ++ more ≡ replicate count byte ++ byte ∷ more
one_more zero byte more = refl
one_more (suc count) byte more =
    ap (λ n. replicate n byte ++ more) (let e : suc count + 1 ≡ suc (count + 1) = omega arith in e)
    ∙ ap (λ rest. byte ∷ rest) (one_more count byte more)

runs_again : (bytes : List ℕ) (count last byte : ℕ) → (count ≡ 0 → last ≡ byte)
    → expanded false last (runs_after byte count bytes) ≡ replicate count byte ++ bytes
runs_again [] count last byte same =
    ap (expanded false last) (sym (append-nil (run byte count))) ∙ run_again count last byte [] same
runs_again (next ∷ bytes) count last byte same = elim (cases_Bool (next == byte && nat_lt count 255)) [
  | inl e ↦ ap (λ t. expanded false last
      (cond t (runs_after byte (count + 1) bytes) (run byte count ++ runs_after next 1 bytes))) e
      ∙ runs_again bytes (count + 1) last byte (λ none. absurd (omega arith))
      ∙ one_more count byte bytes
      ∙ ap (λ b. replicate count byte ++ b ∷ bytes)
      (sym (eqb-true next byte (and_parts (next == byte) (nat_lt count 255) e).0))
  | inr e ↦ ap (λ t. expanded false last
      (cond t (runs_after byte (count + 1) bytes) (run byte count ++ runs_after next 1 bytes))) e
      ∙ run_again count last byte (runs_after next 1 bytes) same
      ∙ ap (λ rest. replicate count byte ++ rest) (runs_again bytes 1 byte next (λ none. absurd (omega arith)))
]

pub expanded_again : (bytes : List ℕ) → expanded false 0 (compressed bytes) ≡ bytes
expanded_again bytes = runs_again bytes 0 0 0 (λ _. refl)

-- the text is bytes
literal_bytes : (byte : ℕ) → byte < 256 → AreBytes (literal byte)
literal_bytes byte h = cases (byte == 0x90)
  where
    cases : (t : Bool) → AreBytes (cond t (0x90 ∷ 0 ∷ []) (byte ∷ []))
    cases true = (lit< tt, (lit< tt, tt))
    cases false = (h, tt)

literals_bytes : (count byte : ℕ) → byte < 256 → AreBytes (flat_map literal (replicate count byte))
literals_bytes zero byte h = tt
literals_bytes (suc count) byte h =
    bytes-append (literal byte) (flat_map literal (replicate count byte)) (literal_bytes byte h) (literals_bytes count byte h)

run_bytes : (byte count : ℕ) → byte < 256 → count < 256 → AreBytes (run byte count)
run_bytes byte count h few = cases (nat_le 4 count && not (byte == 0x90))
  where
    cases : (t : Bool) → AreBytes (cond t (byte ∷ 0x90 ∷ count ∷ []) (flat_map literal (replicate count byte)))
    cases true = (h, (lit< tt, (few, tt)))
    cases false = literals_bytes count byte h

runs_bytes : (bytes : List ℕ) (byte count : ℕ) → byte < 256 → count < 256 → AreBytes bytes
    → AreBytes (runs_after byte count bytes)
runs_bytes [] byte count h few all = run_bytes byte count h few
runs_bytes (next ∷ bytes) byte count h few all = elim (cases_Bool (next == byte && nat_lt count 255)) [
  | inl e ↦ subst (λ t. AreBytes (cond t (runs_after byte (count + 1) bytes) (run byte count ++ runs_after next 1 bytes)))
      (sym e)
      (runs_bytes bytes byte (count + 1) h
      (let low = ltb-true count 255 (and_parts (next == byte) (nat_lt count 255) e).1 in omega arith) all.1)
  | inr e ↦ subst (λ t. AreBytes (cond t (runs_after byte (count + 1) bytes) (run byte count ++ runs_after next 1 bytes)))
      (sym e)
      (bytes-append (run byte count) (runs_after next 1 bytes) (run_bytes byte count h few)
      (runs_bytes bytes next 1 all.0 (lit< tt) all.1))
]

pub compressed_bytes : (bytes : List ℕ) → AreBytes bytes → AreBytes (compressed bytes)
compressed_bytes bytes all = runs_bytes bytes 0 0 (lit< tt) (lit< tt) all

-- the text begins with the first byte, unless that is 90
abbrev BeginsWith : ℕ → List ℕ → Type 0
BeginsWith byte text = (more : List ℕ) × (text ≡ byte ∷ more)

run_begins : (byte count : ℕ) → (byte == 0x90) ≡ false → BeginsWith byte (run byte (suc count))
run_begins byte count other = cases (nat_le 4 (suc count) && not (byte == 0x90))
  where
    cases : (t : Bool)
        → BeginsWith byte (cond t (byte ∷ 0x90 ∷ suc count ∷ []) (flat_map literal (replicate (suc count) byte)))
    cases true = (0x90 ∷ suc count ∷ [], refl)
    cases false = (
      flat_map literal (replicate count byte),
      ap (λ t. cond t (0x90 ∷ 0 ∷ []) (byte ∷ []) ++ flat_map literal (replicate count byte)) other,
    )

-- a run goes on, or ends and others follow
either_begins : (t : Bool) (byte : ℕ) (longer first rest : List ℕ) → BeginsWith byte longer → BeginsWith byte first
    → BeginsWith byte (cond t longer (first ++ rest))
either_begins true byte longer first rest long short = long
either_begins false byte longer first rest long short = (short.0 ++ rest, ap (λ text. text ++ rest) short.1)

runs_begin : (bytes : List ℕ) (byte count : ℕ) → (byte == 0x90) ≡ false → BeginsWith byte (runs_after byte (suc count) bytes)
runs_begin [] byte count other = run_begins byte count other
runs_begin (next ∷ bytes) byte count other =
    either_begins (next == byte && nat_lt (suc count) 255) byte (runs_after byte (suc count + 1) bytes)
    (run byte (suc count)) (runs_after next 1 bytes)
    (subst (λ n. BeginsWith byte (runs_after byte n bytes))
    (let e : suc (suc count) ≡ suc count + 1 = omega arith in e) (runs_begin bytes byte (suc count) other))
    (run_begins byte count other)

no_run : (byte : ℕ) (text : List ℕ) → (byte == 0x90) ≡ false → BeginsWith byte text → begins_with_run text ≡ false
no_run byte text other first = ap begins_with_run first.1 ∙ alone first.0
  where
    alone : (more : List ℕ) → begins_with_run (byte ∷ more) ≡ false
    alone [] = refl
    alone (count ∷ more) = ap (λ t. t && not (count == 0)) other

pub first_no_run : (byte : ℕ) (bytes : List ℕ) → 1 ≤ byte → byte < 0x90
    → begins_with_run (compressed (byte ∷ bytes)) ≡ false
first_no_run byte bytes some low =
    let other : (byte == 0x90) ≡ false = ne_eqb byte 0x90 (λ e. omega arith) in
    ap (λ t. begins_with_run (cond t (runs_after 0 1 bytes) (runs_after byte 1 bytes)))
    (let e : (byte == 0 && true) ≡ false = ap (λ t. t && true) (ne_eqb byte 0 (λ z. omega arith)) in e)
    ∙ no_run byte (runs_after byte 1 bytes) other (runs_begin bytes byte 0 other)
