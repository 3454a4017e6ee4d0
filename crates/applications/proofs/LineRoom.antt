use Rattle.std.proofs.Common.{◌≡◌, ℕ, ◌+◌, ◌^◌, ◌≤◌, ◌<◌, ◌++◌, length, codes, nat_le, true, refl, arith}
use Rattle.std.proofs.lemmas.Bool.{leb-true}
use Rattle.std.proofs.lemmas.Fmt.{length-decimal-le}
use Rattle.std.proofs.lemmas.List.{length-append}
use Rattle.std.specs.Fmt.{decimal}
use Rattle.script_text.specs.Call.{spelling}
use Rattle.script_text.specs.Transcript.{call_at}
use Rattle.script_text.specs.declared.transcript.TheConstants.{CODE_ROOM, LINE_ROOM}
use Rattle.script_text.specs.declared.word.CallWord.{CallWord}
use Rattle.script_text.specs.declared.word.CallWord.TheVariants as word

-- The room of a line.

-- the longest name of a call has 21 bytes
name-short : (w : CallWord) → nat_le (length (spelling w)) 21 ≡ true
name-short word.NewHandle = refl
name-short _ = refl

-- the room of a line holds a call's number and name, and what follows them
pub line_fits : (line : ℕ) (w : CallWord) → line < 2 ^ 64 → length (call_at line w) + CODE_ROOM ≤ LINE_ROOM
line_fits line w small = omega (
  arith,
  length-append (decimal line ++ codes " ") (spelling w),
  length-append (decimal line) (codes " "),
  length-decimal-le 20 line (omega arith) (omega arith) small,
  leb-true (length (spelling w)) 21 (name-short w),
)
