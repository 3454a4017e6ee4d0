-- A word is read back. For callers.
use Rattle.block_headers.proofs.Cited.{◌≡◌, ℕ, ◌+◌, ◌<◌, ◌≤◌, ◌^◌, List, [], length, sym, ap, ◌∙◌, refl, arith, append-nil, big_bytes}
use Rattle.block_headers.proofs.Cited.{big_number, big_number-reads_back, word, word_at, written, piece, piece-written}

pub length-word : (n : ℕ) → length (word n) ≡ 4
unfolding word
length-word n = refl

pub word_reads : (n : ℕ) → n < 2 ^ 32 → big_number 4 (word n) ≡ n
unfolding word
word_reads n h = ap (big_number 4) (sym (append-nil (big_bytes 4 n))) ∙ big_number-reads_back 4 n [] h

-- a place where a word stands reads as its number
pub read_back : (at n : ℕ) (xs : List ℕ) → n < 2 ^ 32 → piece at 4 xs ≡ word n → word_at at xs ≡ n
unfolding word_at
read_back at n xs h e = ap (big_number 4) e ∙ word_reads n h

-- and so at the place where it was written
pub word_reads_at : (at n : ℕ) (xs : List ℕ) → at + 4 ≤ length xs → n < 2 ^ 32 → word_at at (written at (word n) xs) ≡ n
word_reads_at at n xs inside small =
    read_back at n (written at (word n) xs) small
    (piece-written at (word n) xs 4 (sym (length-word n)) (omega (arith, inside)))
