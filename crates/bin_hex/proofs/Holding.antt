use Rattle.bin_hex.proofs.Cited.{◌≡◌, ℕ, ◌+◌, ◌-◌, ◌<◌, ◌≤◌, Bool, true, false, cond, List, [], ◌∷◌, ◌++◌, get_or, length, drop, replicate}
use Rattle.bin_hex.proofs.Cited.{refl, sym, ◌∙◌, ap, arith, length-append, ◌==◌, nat_le, le-leb, drop_all, drop_more, length-replicate}
use Rattle.bin_hex.proofs.Cited.{given, marked_after, expanded}

-- How many bytes a text with runs stands for.

-- a run of one byte is as long as one of another, and what follows it too
runs_alike : (count a b : ℕ) (xs ys : List ℕ) → length xs ≡ length ys
    → length (replicate count a ++ xs) ≡ length (replicate count b ++ ys)
runs_alike count a b xs ys same =
    length-append (replicate count a) xs ∙ ap (λ n. n + length xs) (length-replicate count a)
    ∙ ap (λ n. count + n) same
    ∙ sym (length-append (replicate count b) ys ∙ ap (λ n. n + length ys) (length-replicate count b))

first_alike : (t : Bool) (byte : ℕ) (xs ys zs : List ℕ) → length xs ≡ length ys
    → length (cond t xs (byte ∷ zs)) ≡ length (cond t ys (byte ∷ zs))
first_alike true byte xs ys zs same = same
first_alike false byte xs ys zs same = refl

count_alike : (t : Bool) (zs xs ys : List ℕ) → length xs ≡ length ys → length (cond t zs xs) ≡ length (cond t zs ys)
count_alike true zs xs ys same = refl
count_alike false zs xs ys same = same

-- the byte that a run would repeat makes no difference to the length
any_last : (marked : Bool) (a b : ℕ) (bytes : List ℕ) → length (expanded marked a bytes) ≡ length (expanded marked b bytes)
any_last marked a b [] = refl
any_last false a b (byte ∷ bytes) =
    first_alike (byte == 0x90) byte (expanded true a bytes) (expanded true b bytes) (expanded false byte bytes)
    (any_last true a b bytes)
any_last true a b (count ∷ bytes) =
    count_alike (count == 0) (0x90 ∷ expanded false 0x90 bytes) (replicate (count - 1) a ++ expanded false a bytes)
    (replicate (count - 1) b ++ expanded false b bytes)
    (runs_alike (count - 1) a b (expanded false a bytes) (expanded false b bytes) (any_last false a b bytes))

-- one byte of the text apart
apart : (marked : Bool) (last byte : ℕ) (bytes : List ℕ)
    → length (expanded marked last (byte ∷ bytes)) ≡ given marked byte + length (expanded (marked_after marked byte) 0 bytes)
apart false last byte bytes = cases (byte == 0x90) (any_last true last 0 bytes) (any_last false byte 0 bytes)
  where
    cases : (t : Bool) → length (expanded true last bytes) ≡ length (expanded true 0 bytes)
        → length (expanded false byte bytes) ≡ length (expanded false 0 bytes)
        → length (cond t (expanded true last bytes) (byte ∷ expanded false byte bytes))
        ≡ cond t 0 1 + length (expanded t 0 bytes)
    cases true here later = omega (arith, here)
    cases false here later = omega (arith, later)
apart true last byte bytes =
    cases (byte == 0) (any_last false 0x90 0 bytes)
    (length-append (replicate (byte - 1) last) (expanded false last bytes)
    ∙ ap (λ n. n + length (expanded false last bytes)) (length-replicate (byte - 1) last)
    ∙ ap (λ n. byte - 1 + n) (any_last false last 0 bytes))
  where
    cases : (t : Bool) → length (expanded false 0x90 bytes) ≡ length (expanded false 0 bytes)
        → length (replicate (byte - 1) last ++ expanded false last bytes) ≡ byte - 1 + length (expanded false 0 bytes)
        → length (cond t (0x90 ∷ expanded false 0x90 bytes) (replicate (byte - 1) last ++ expanded false last bytes))
        ≡ cond t 1 (byte - 1) + length (expanded false 0 bytes)
    cases true here later = omega (arith, here)
    cases false here later = later

-- before the first byte of the text
pub at_first : (marked : Bool) (last left : ℕ) (bytes : List ℕ)
    → left + length (expanded marked 0 bytes) ≡ length (replicate left last ++ expanded marked last bytes)
at_first marked last left bytes =
    ap (λ n. left + n) (any_last marked 0 last bytes)
    ∙ sym (length-append (replicate left last) (expanded marked last bytes)
    ∙ ap (λ n. n + length (expanded marked last bytes)) (length-replicate left last))

-- one byte further
pub further : (marked now : Bool) (found at total byte more : ℕ) (bytes : List ℕ) → at < length bytes
    → byte ≡ get_or bytes at byte → more ≡ given marked byte → now ≡ marked_after marked byte
    → found + length (expanded marked 0 (drop at bytes)) ≡ total
    → found + more + length (expanded now 0 (drop (at + 1) bytes)) ≡ total
further marked now found at total byte more bytes h is gives then e =
    let split : length (expanded marked 0 (drop at bytes))
    ≡ given marked byte + length (expanded (marked_after marked byte) 0 (drop (at + 1) bytes)) =
    ap (λ rest. length (expanded marked 0 rest)) (drop_more bytes at byte h)
    ∙ ap (λ b. length (expanded marked 0 (b ∷ drop (at + 1) bytes))) (sym is)
    ∙ apart marked 0 byte (drop (at + 1) bytes) in
    let rest = ap (λ m. length (expanded m 0 (drop (at + 1) bytes))) then in
    omega (arith, split, e, rest, gives)

-- enough was found
pub enough : (count found more total : ℕ) → count ≤ found → found + more ≡ total → true ≡ nat_le count total
enough count found more total h e = sym (le-leb count total (omega arith))

-- nothing more is there
pub at_end : (marked : Bool) (count found at total : ℕ) (bytes : List ℕ) → length bytes ≤ at
    → found + length (expanded marked 0 (drop at bytes)) ≡ total → nat_le count found ≡ nat_le count total
at_end marked count found at total bytes h e =
    let none = ap (λ rest. length (expanded marked 0 rest)) (drop_all at bytes h) in
    ap (nat_le count) (let all : found ≡ total = omega (arith, none, e) in all)
