use Rattle.mac_roman.proofs.Cited.{◌≡◌, ℕ, ◌+◌, ◌-◌, ◌<◌, Bool, true, false, cond, List, [], ◌∷◌, ◌++◌, map, Some, None, refl, sym, ◌∙◌, ap}
use Rattle.mac_roman.proofs.Cited.{append-nil, append_assoc, get_or, drop, length, Result, Ok, Err, chars, encode_utf8_all, ◌&&◌}
use Rattle.mac_roman.proofs.Cited.{AllByRecursion, IsUtf8, is_utf8, all_scalars, drop_more, is_utf8-from_IsUtf8, IsUtf8-from_is_utf8}
use Rattle.mac_roman.proofs.Cited.{chars-encodes, agree_below_at, char_of, byte_of, before, bytes_of, to_roman, from_roman}
use Rattle.mac_roman.proofs.Lookups.{byte_again}

-- Characters written byte by byte, and read again.

-- bytes before those of the other characters
abbrev pub after : List ℕ → Result (List ℕ) ℕ → Result (List ℕ) ℕ
after out (Ok bytes) = Ok (out ++ bytes)
after out (Err c) = Err c

pub after_none : (r : Result (List ℕ) ℕ) → after [] r ≡ r
after_none (Ok bytes) = refl
after_none (Err c) = refl

pub after_one : (out : List ℕ) (c b : ℕ) (cs : List ℕ) → byte_of c ≡ Some b
    → after out (bytes_of (c ∷ cs)) ≡ after (out ++ b ∷ []) (bytes_of cs)
after_one out c b cs is = rw is (cases (bytes_of cs))
  where
    cases : (r : Result (List ℕ) ℕ) → after out (before c (Some b) r) ≡ after (out ++ b ∷ []) r
    cases (Ok bytes) = ap Ok (sym (append_assoc out (b ∷ []) bytes))
    cases (Err d) = refl

pub after_missing : (out : List ℕ) (c : ℕ) (cs : List ℕ) → byte_of c ≡ None → after out (bytes_of (c ∷ cs)) ≡ Err c
after_missing out c cs is = rw is refl

pub after_all : (out : List ℕ) → after out (bytes_of []) ≡ Ok out
after_all out = ap Ok (append-nil out)

-- a walk over characters goes on
pub after_next : (cs out new : List ℕ) (i c b : ℕ) (total : Result (List ℕ) ℕ) → i < length cs → c ≡ get_or cs i c
    → byte_of c ≡ Some b → new ≡ out ++ b ∷ [] → after out (bytes_of (drop i cs)) ≡ total
    → after new (bytes_of (drop (i + 1) cs)) ≡ total
after_next cs out new i c b total inside here is pushed told =
    ap (λ l. after l (bytes_of (drop (i + 1) cs))) pushed ∙ sym (after_one out c b (drop (i + 1) cs) is)
    ∙ ap (λ l. after out (bytes_of l)) (ap (λ d. d ∷ drop (i + 1) cs) here ∙ sym (drop_more cs i c inside)) ∙ told

-- what bytes that are UTF-8 make, and bytes that are not
pub utf8_made : (bs : List ℕ) → IsUtf8 bs → to_roman bs ≡ bytes_of (chars bs)
utf8_made bs is = rw (is_utf8-from_IsUtf8 bs is) refl

pub raw_made : (bs : List ℕ) → (IsUtf8 bs → ⊥) → to_roman bs ≡ Ok bs
raw_made bs not = cases (is_utf8 bs) refl
  where
    cases : (t : Bool) → is_utf8 bs ≡ t → cond t (bytes_of (chars bs)) (Ok bs) ≡ Ok bs
    cases true h = absurd (not (IsUtf8-from_is_utf8 bs h))
    cases false h = refl

-- the bytes of characters that bytes have
bytes_again : (bytes : List ℕ) → AllByRecursion (λ b. b < 256) bytes → bytes_of (map char_of bytes) ≡ Ok bytes
bytes_again [] small = refl
bytes_again (b ∷ bytes) small = rw (byte_again b small.0, bytes_again bytes small.1) refl

pub scalar_one : (b : ℕ) → b < 256 → all_scalars (char_of b ∷ []) ≡ true
scalar_one b small = agree_below_at (λ n. all_scalars (char_of n ∷ [])) (λ _. true) 256 b refl small

scalars_all : (bytes : List ℕ) → AllByRecursion (λ b. b < 256) bytes → all_scalars (map char_of bytes) ≡ true
scalars_all [] small = refl
scalars_all (b ∷ bytes) small = joined _ _ (scalar_one b small.0) (scalars_all bytes small.1)
  where
    joined : (s t : Bool) → (s && true) ≡ true → t ≡ true → (s && t) ≡ true
    joined true t h e = e
    joined false t h e = h

pub roman_again : (bytes : List ℕ) → AllByRecursion (λ b. b < 256) bytes → to_roman (from_roman bytes) ≡ Ok bytes
roman_again bytes small =
    let scalar = scalars_all bytes small in
    rw (is_utf8-from_IsUtf8 (encode_utf8_all (map char_of bytes)) (map char_of bytes, (scalar, refl)))
    (ap bytes_of (chars-encodes (map char_of bytes) scalar) ∙ bytes_again bytes small)
