-- Values one after the other.
use Rattle.script_text.proofs.Cited.{◌≡◌, ℕ, ℤ, ◌+◌, ◌^◌, ◌≤◌, ◌<◌, pos, List, [], ◌∷◌, ◌++◌, length, true, nat_le, refl, arith, append_assoc}
use Rattle.script_text.proofs.Cited.{leb-true, length-append, length-decimal-le, codes, digits, decimal, signed_decimal, Shown, shown_all}
use Rattle.script_text.proofs.Cited.{CallWord, call_at, CODE_ROOM, LINE_ROOM}
use Rattle.script_text.specs.Call.{spelling}
use Rattle.script_text.specs.declared.word.CallWord.TheVariants as word

-- what two lists of values show is what each shows, one after the other
pub shown_all_append : (first second : List Shown) → shown_all (first ++ second) ≡ shown_all first ++ shown_all second
shown_all_append [] second = refl
shown_all_append (v ∷ first) second = let h = shown_all_append first second in rw h (simp append_assoc)

-- four lists of values that are written one after the other behind a text
pub four_shown : (before : List ℕ) (a b c d : List Shown)
    → before ++ shown_all a ++ shown_all b ++ shown_all c ++ shown_all d ≡ before ++ shown_all (a ++ b ++ c ++ d)
four_shown before a b c d =
    rw (shown_all_append (a ++ b ++ c) d, shown_all_append (a ++ b) c, shown_all_append a b) (simp append_assoc)

-- 0 in decimal
pub zero_told : (code : ℤ) → code ≡ pos 0 → signed_decimal code ≡ 48 ∷ []
unfolding digits
zero_told code zero = rw zero refl

-- the longest name of a call has 21 bytes
spelling-short : (w : CallWord) → nat_le (length (spelling w)) 21 ≡ true
spelling-short word.NewHandle = refl
spelling-short _ = refl

-- the room of a line holds a call's number and name, and what follows them
pub call_fits : (line : ℕ) (w : CallWord) → line < 2 ^ 64 → length (call_at line w) + CODE_ROOM ≤ LINE_ROOM
call_fits line w small = omega (
  arith,
  length-append (decimal line ++ codes " ") (spelling w),
  length-append (decimal line) (codes " "),
  length-decimal-le 20 line (omega arith) (omega arith) small,
  leb-true (length (spelling w)) 21 (spelling-short w),
)
