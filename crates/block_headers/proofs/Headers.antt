-- A header is written by its words, and they are read back. For callers.
use Rattle.block_headers.proofs.Cited.{◌≡◌, ℕ, ◌+◌, ◌-◌, ◌%◌, ◌<◌, ◌≤◌, ◌^◌, List, ◌++◌, length, take, drop, sym, refl, ap, ◌∙◌, arith}
use Rattle.block_headers.proofs.Cited.{zero, suc, append_assoc, length-append, drop-take, take-take, drop-drop, big_number, written, piece}
use Rattle.block_headers.proofs.Cited.{piece-written, written-written, word, word_at, header, header_bytes, tag_number, Header, Tag, Free}
use Rattle.block_headers.proofs.Cited.{Nonrelocatable, Masters, Relocatable}
use Rattle.block_headers.proofs.Words.{length-word, read_back}

pub length-header : (a b c d : ℕ) → length (header a b c d) ≡ 16
length-header a b c d =
    let p = length-append (word c) (word d) in
    let q = length-append (word b) (word c ++ word d) in
    let r = length-append (word a) (word b ++ (word c ++ word d)) in
    omega (arith, p, q, r, length-word a, length-word b, length-word c, length-word d)

pub four_words : (at a b c d : ℕ) (xs : List ℕ) → at + 16 ≤ length xs
    → written (at + 12) (word d) (written (at + 8) (word c) (written (at + 4) (word b) (written at (word a) xs)))
    ≡ written at (header a b c d) xs
four_words at a b c d xs h =
    let wa = length-word a in
    let wb = length-word b in
    let wc = length-word c in
    let ab = length-append (word a) (word b) in
    let abc = length-append (word a ++ word b) (word c) in
    ap (λ q. written (at + 12) (word d) (written (at + 8) (word c) q))
    (written-written at (at + 4) (word a) (word b) xs (omega (arith, wa)) (omega (arith, h)))
    ∙ ap (written (at + 12) (word d))
    (written-written at (at + 8) (word a ++ word b) (word c) xs (omega (arith, wa, wb, ab)) (omega (arith, h)))
    ∙ written-written at (at + 12) (word a ++ word b ++ word c) (word d) xs (omega (arith, wa, wb, wc, ab, abc))
    (omega (arith, h))
    ∙ ap (λ q. written at q xs) (append_assoc (word a ++ word b) (word c) (word d)
    ∙ append_assoc (word a) (word b) (word c ++ word d))

-- a word of the 16 bytes at a place
within : (at k : ℕ) (xs : List ℕ) → k + 4 ≤ 16 → piece (at + k) 4 xs ≡ take 4 (drop k (piece at 16 xs))
within at k xs h =
    let m : ℕ = 16 - k in
    let e : 16 ≡ k + m = omega (arith, h) in
    ap (take 4) (sym (drop-drop k at xs)) ∙ sym (take-take 4 m (drop k (drop at xs)) (omega (arith, h)))
    ∙ ap (take 4) (sym (drop-take k m (drop at xs)))
    ∙ ap (λ n. take 4 (drop k (take n (drop at xs)))) (sym e)

-- and so its number, read of them
pub word_within : (at k n : ℕ) (words xs : List ℕ) → words ≡ piece at 16 xs → n ≡ word_at k words → k + 4 ≤ 16
    → n ≡ word_at (at + k) xs
unfolding word_at
word_within at k n words xs is e h = e ∙ ap (word_at k) is ∙ ap (big_number 4) (sym (within at k xs h))

-- the words of a header
words_of : (a b c d : ℕ) → (take 4 (drop 0 (header a b c d)) ≡ word a) × (take 4 (drop 4 (header a b c d)) ≡ word b)
    × (take 4 (drop 8 (header a b c d)) ≡ word c) × (take 4 (drop 12 (header a b c d)) ≡ word d)
unfolding word
words_of a b c d = (refl, refl, refl, refl)

module _ (at : ℕ) (h : Header) (xs : List ℕ) (inside : at + 16 ≤ length xs) where
  abbrev a : ℕ
  a = h.size + tag_number h.tag

  abbrev after : List ℕ
  after = written at (header_bytes h) xs

  stands : piece at 16 after ≡ header a h.logical h.slot h.flags
  stands = piece-written at (header_bytes h) xs 16 (sym (length-header a h.logical h.slot h.flags))
      (omega (arith, inside))

  its : (take 4 (drop 0 (header a h.logical h.slot h.flags)) ≡ word a)
      × (take 4 (drop 4 (header a h.logical h.slot h.flags)) ≡ word h.logical)
      × (take 4 (drop 8 (header a h.logical h.slot h.flags)) ≡ word h.slot)
      × (take 4 (drop 12 (header a h.logical h.slot h.flags)) ≡ word h.flags)
  its = words_of a h.logical h.slot h.flags

  reads : (k x : ℕ) → k + 4 ≤ 16 → take 4 (drop k (header a h.logical h.slot h.flags)) ≡ word x → x < 2 ^ 32
      → word_at (at + k) after ≡ x
  reads k x fits there small =
      read_back (at + k) x after small (within at k after fits ∙ ap (λ l. take 4 (drop k l)) stands ∙ there)

  pub first_reads : a < 2 ^ 32 → word_at at after ≡ a
  first_reads small = let here : at ≡ at + 0 = omega arith in
      ap (λ k. word_at k after) here ∙ reads 0 a (omega arith) its.0 small

  pub logical_reads : h.logical < 2 ^ 32 → word_at (at + 4) after ≡ h.logical
  logical_reads small = reads 4 h.logical (omega arith) its.1 small

  pub slot_reads : h.slot < 2 ^ 32 → word_at (at + 8) after ≡ h.slot
  slot_reads small = reads 8 h.slot (omega arith) its.2 small

  pub flags_read : h.flags < 2 ^ 32 → word_at (at + 12) after ≡ h.flags
  flags_read small = reads 12 h.flags (omega arith) its.3 small

pub tag_low : (t : Tag) → tag_number t < 4
tag_low Free = omega arith
tag_low Nonrelocatable = omega arith
tag_low Masters = omega arith
tag_low Relocatable = omega arith

tag_at : ℕ → Tag
tag_at zero = Free
tag_at (suc zero) = Nonrelocatable
tag_at (suc (suc zero)) = Masters
tag_at (suc (suc (suc n))) = Relocatable

tag_back : (t : Tag) → tag_at (tag_number t) ≡ t
unfolding tag_at
tag_back Free = refl
tag_back Nonrelocatable = refl
tag_back Masters = refl
tag_back Relocatable = refl

-- a first word tells the size and the tag
pub same_first : (s s' : ℕ) (t t' : Tag) → s % 16 ≡ 0 → s' % 16 ≡ 0 → s + tag_number t ≡ s' + tag_number t'
    → (s ≡ s') × (t ≡ t')
same_first s s' t t' m m' e =
    let l = tag_low t in let l' = tag_low t' in
    let n : tag_number t ≡ tag_number t' = omega (arith, m, m', e, l, l') in
    (omega (arith, e, n), sym (tag_back t) ∙ ap tag_at n ∙ tag_back t')
