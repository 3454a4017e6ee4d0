use Rattle.fork_wrappers.proofs.Cited.{◌≡◌, ℕ, ◌+◌, ◌≤◌, List, ◌++◌, length, take, drop, sym, ◌∙◌, ap, arith, drop-append-le}
use Rattle.fork_wrappers.proofs.Cited.{take-append-le, take-append-drop, length-drop, length-take-le, drop-append-add, big_from-append}
use Rattle.fork_wrappers.proofs.Cited.{big_number, number, part, StandsAt}

-- Stretches of bytes that stand in a file, and in another one made of it.

-- what is left of a list from an offset within something that stands there
within : (xs : List ℕ) (at i : ℕ) (bytes : List ℕ) → (s : StandsAt xs at bytes) → i ≤ length xs
    → drop (at + i) bytes ≡ drop i xs ++ s.after
within xs at i bytes s h = ap (drop (at + i)) s.whole ∙ ap (λ n. drop (n + i) (s.before ++ (xs ++ s.after))) (sym s.place)
    ∙ drop-append-add s.before (xs ++ s.after) i ∙ drop-append-le i xs s.after h

-- a number within something that stands there
pub number_within : (n : ℕ) (xs : List ℕ) (at i : ℕ) (bytes : List ℕ) → StandsAt xs at bytes → i + n ≤ length xs
    → number n (at + i) bytes ≡ number n i xs
number_within n xs at i bytes s h = ap (big_number n) (within xs at i bytes s (omega arith))
    ∙ big_from-append n (drop i xs) s.after (let e = length-drop i xs in omega (arith, e))

-- a part of it
pub part_within : (n : ℕ) (xs : List ℕ) (at i : ℕ) (bytes : List ℕ) → StandsAt xs at bytes → i + n ≤ length xs
    → part n (at + i) bytes ≡ part n i xs
part_within n xs at i bytes s h = ap (take n) (within xs at i bytes s (omega arith))
    ∙ take-append-le n (drop i xs) s.after (let e = length-drop i xs in omega (arith, e))

-- a part of bytes stands in them
pub part_stands_at : (n at : ℕ) (bytes : List ℕ) → at ≤ length bytes → StandsAt (part n at bytes) at bytes
part_stands_at n at bytes h = record {
  before = take at bytes;
  after = drop n (drop at bytes);
  whole = sym (take-append-drop at bytes) ∙ ap (λ l. take at bytes ++ l) (sym (take-append-drop n (drop at bytes)));
  place = length-take-le at bytes h;
}

-- what stands in two files is read alike in both
pub same_number : (n : ℕ) (xs : List ℕ) (at at' i : ℕ) (file new : List ℕ) → StandsAt xs at file → StandsAt xs at' new
    → i + n ≤ length xs → number n (at' + i) new ≡ number n (at + i) file
same_number n xs at at' i file new s t h =
    number_within n xs at' i new t h ∙ sym (number_within n xs at i file s h)

pub same_part : (n : ℕ) (xs : List ℕ) (at at' i : ℕ) (file new : List ℕ) → StandsAt xs at file → StandsAt xs at' new
    → i + n ≤ length xs → part n (at' + i) new ≡ part n (at + i) file
same_part n xs at at' i file new s t h = part_within n xs at' i new t h ∙ sym (part_within n xs at i file s h)

-- the length of a part that lies in bytes
pub length-part : (n at : ℕ) (bytes : List ℕ) → at + n ≤ length bytes → length (part n at bytes) ≡ n
length-part n at bytes h =
    length-take-le n (drop at bytes) (let e = length-drop at bytes in omega (arith, e))
