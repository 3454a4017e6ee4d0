use Rattle.fork_format.proofs.Cited.{◌≡◌, ℕ, ◌+◌, ◌<◌, ◌≤◌, ◌^◌, List, [], ◌++◌, length, take, drop, refl, sym, ◌∙◌, ap, append_assoc}
use Rattle.fork_format.proofs.Cited.{length-append, arith, drop-append_seam, take-append_seam, append-nil, big_number-reads_back, big_bytes}
use Rattle.fork_format.proofs.Cited.{big_number, number, part}

-- xs stands in bytes at an offset
pub record StandsAt (xs : List ℕ) (at : ℕ) (bytes : List ℕ) : Type 0 where
  pub before : List ℕ
  pub after : List ℕ
  pub whole : bytes ≡ before ++ (xs ++ after)
  pub place : length before ≡ at

pub stands_whole : (bytes : List ℕ) → StandsAt bytes 0 bytes
stands_whole bytes = record { before = []; after = []; whole = sym (append-nil bytes); place = refl }

-- the first and the second of two parts
pub stands_first : (xs ys : List ℕ) (at : ℕ) (bytes : List ℕ) → StandsAt (xs ++ ys) at bytes → StandsAt xs at bytes
stands_first xs ys at bytes s = record {
  before = s.before;
  after = ys ++ s.after;
  whole =
      s.whole ∙ ap (λ l. s.before ++ l) (append_assoc xs ys s.after);
  place = s.place;
}

pub stands_second : (xs ys : List ℕ) (at : ℕ) (bytes : List ℕ) → StandsAt (xs ++ ys) at bytes
    → StandsAt ys (at + length xs) bytes
stands_second xs ys at bytes s = record {
  before = s.before ++ xs;
  after = s.after;
  whole = s.whole ∙ ap (λ l. s.before ++ l) (append_assoc xs ys s.after)
      ∙ sym (append_assoc s.before xs (ys ++ s.after));
  place = length-append s.before xs ∙ ap (λ n. n + length xs) s.place;
}

-- the same at an equal offset
pub stands_same : (xs : List ℕ) (at at' : ℕ) (bytes : List ℕ) → at ≡ at' → StandsAt xs at bytes → StandsAt xs at' bytes
stands_same xs at at' bytes e s = record { before = s.before; after = s.after; whole = s.whole; place = s.place ∙ e }

-- what is read from there on
pub stands_drop : (xs : List ℕ) (at : ℕ) (bytes : List ℕ) → (s : StandsAt xs at bytes) → drop at bytes ≡ xs ++ s.after
stands_drop xs at bytes s = ap (λ b. drop at b) s.whole ∙ ap (λ n. drop n (s.before ++ (xs ++ s.after))) (sym s.place)
    ∙ drop-append_seam s.before (xs ++ s.after)

-- a number that stands there is read
pub number-stands : (n x at : ℕ) (bytes : List ℕ) → x < 256 ^ n → StandsAt (big_bytes n x) at bytes
    → number n at bytes ≡ x
number-stands n x at bytes small s = ap (big_number n) (stands_drop (big_bytes n x) at bytes s)
    ∙ big_number-reads_back n x s.after small

-- a type of four bytes is read
pub kind_again : (kind : ℕ) → kind < 2 ^ 32 → big_number 4 (big_bytes 4 kind) ≡ kind
kind_again kind low = ap (big_number 4) (sym (append-nil (big_bytes 4 kind))) ∙ big_number-reads_back 4 kind [] low

-- a part that stands there is read
pub part-stands : (xs : List ℕ) (at : ℕ) (bytes : List ℕ) → StandsAt xs at bytes → part (length xs) at bytes ≡ xs
part-stands xs at bytes s = ap (take (length xs)) (stands_drop xs at bytes s) ∙ take-append_seam xs s.after

-- it lies in the bytes
pub stands_inside : (xs : List ℕ) (at : ℕ) (bytes : List ℕ) → StandsAt xs at bytes → at + length xs ≤ length bytes
stands_inside xs at bytes s =
    let e : length bytes ≡ length s.before + length (xs ++ s.after) =
    ap length s.whole ∙ length-append s.before (xs ++ s.after) in
    let f : length (xs ++ s.after) ≡ length xs + length s.after = length-append xs s.after in
    let p : length s.before ≡ at = s.place in
    omega arith
