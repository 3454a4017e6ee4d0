use Rattle.std.specs.Prelude.{ℕ, ◌+◌, ◌==◌, Bool, ◌||◌, codes, take, drop, Result, Ok, Err, List, [], ◌∷◌, if◌then◌else◌}
use Rattle.std.specs.Str.{chars, is_utf8}
use Rattle.std.specs.Str.Lossy.{utf8_valid_len}
use Rattle.mac_roman.specs.Roman.{to_roman}
use Rattle.rez_text.specs.declared.fault.FaultKind.{FaultKind}
use Rattle.rez_text.specs.declared.fault.FaultKind.TheVariants as faults
use Rattle.rez_text.specs.Ascii.{line_of}
use Rattle.rez_text.specs.Remarks.{after_blanks, begins}

-- The coding of a text: bytes in Mac OS Roman, or characters in UTF-8.

-- The comment with which a text in UTF-8 begins.
abbrev pub coding_words : List ℕ
coding_words = codes "/* -*- coding: utf-8 -*- */"

-- The same on a line.
abbrev pub coding_comment : List ℕ
coding_comment = codes "/* -*- coding: utf-8 -*- */\n"

-- The byte order mark of UTF-8.
abbrev pub order_mark : List ℕ
order_mark = 0xEF ∷ 0xBB ∷ 0xBF ∷ []

-- A text is in UTF-8 that begins with a byte order mark, or, after any blanks, with the comment that says so.
unfoldable pub is_coded : List ℕ → Bool
is_coded text = begins order_mark text || begins coding_words (after_blanks text)

-- A text without the byte order mark with which it begins.
abbrev pub after_mark : List ℕ → List ℕ
after_mark text = if begins order_mark text then drop 3 text else text

-- The number of the line on which the last of some bytes stands, which come after a byte on a line.
abbrev pub last_line : ℕ → ℕ → List ℕ → ℕ
last_line line before [] = line
last_line line before (b ∷ bytes) = last_line (line_of line before b) b bytes

-- The number of the line on which a character first stands, among characters that come after another on a line.
abbrev pub line_with : ℕ → ℕ → ℕ → List ℕ → ℕ
line_with c line before [] = line
line_with c line before (x ∷ text) =
    if x == c then line_of line before x else line_with c (line_of line before x) x text

-- The bytes of characters, or the first character that Mac OS Roman has not, with the number of its line.
abbrev pub with_line : List ℕ → Result (List ℕ) ℕ → Result (List ℕ) (ℕ × FaultKind)
with_line text (Ok bytes) = Ok bytes
with_line text (Err c) = Err (line_with c 1 0 text, faults.NoCharacter c)

-- A text in UTF-8 as bytes in Mac OS Roman. Where it is not UTF-8, its first byte that is not has the line of the fault.
abbrev pub decoded : List ℕ → Result (List ℕ) (ℕ × FaultKind)
decoded text =
    if is_utf8 text then with_line (chars text) (to_roman text)
    else Err (last_line 1 0 (take (utf8_valid_len text + 1) text), faults.NotUtf8)

-- A text as bytes in Mac OS Roman: one in UTF-8 has a byte for each character, and any other is taken as it is.
unfoldable pub as_roman : List ℕ → Result (List ℕ) (ℕ × FaultKind)
as_roman text = if is_coded text then decoded (after_mark text) else Ok text
