-- Texts in UTF-8, which are read as the bytes of which they are made.
use Rattle.rez_text.proofs.Cited.{◌≡◌, ◌≤◌, ◌&&◌, ℕ, ◌+◌, Bool, true, false, cond, Result, Ok, Err, List, [], ◌∷◌, ◌++◌, length, drop, map}
use Rattle.rez_text.proofs.Cited.{refl, sym, ap, ◌∙◌, arith, le-leb, nat_le, and_right, or_right, flat_map-append, is_utf8-from_IsUtf8}
use Rattle.rez_text.proofs.Cited.{flat_map, is_utf8, all_scalars, chars, bytes-append, char_of, bytes_of, from_roman, character}
use Rattle.rez_text.proofs.Cited.{roman_again, scalar_one, printed_whole, Content, clear, Declared, FaultKind, Lines, State, start}
use Rattle.rez_text.proofs.Cited.{AreBytes, after_blanks, begins, remarked, comment, coding_words, coding_comment, order_mark, is_coded}
use Rattle.rez_text.proofs.Cited.{as_roman, decoded, with_line, step, between, slash, in_comment, star, finish, first_line, read_from}
use Rattle.rez_text.proofs.Cited.{stated, read_made, read_roman, read, later, unless_lacking}
use Rattle.rez_text.specs.declared.mode.Place.TheVariants as place
use Rattle.rez_text.proofs.Printed.{bytes_are}
use Rattle.rez_text.proofs.Later.{moved, read_further}

-- Characters.

scalars_all : (bytes : List ℕ) → AreBytes bytes → all_scalars (map char_of bytes) ≡ true
scalars_all [] small = refl
scalars_all (b ∷ bytes) small = joined _ _ (scalar_one b small.0) (scalars_all bytes small.1)
  where
    joined : (s t : Bool) → (s && true) ≡ true → t ≡ true → (s && t) ≡ true
    joined true t h e = e
    joined false t h e = h

roman_is_utf8 : (bytes : List ℕ) → AreBytes bytes → is_utf8 (from_roman bytes) ≡ true
roman_is_utf8 bytes small =
    is_utf8-from_IsUtf8 (from_roman bytes) (map char_of bytes, (scalars_all bytes small, refl))

decoded_again : (bytes : List ℕ) → AreBytes bytes → decoded (from_roman bytes) ≡ Ok bytes
decoded_again bytes small =
    let text = from_roman bytes in
    let is = roman_is_utf8 bytes small in
    let made : bytes_of (chars text) ≡ Ok bytes =
    sym (ap (λ t. cond t (bytes_of (chars text)) (Ok text)) is) ∙ roman_again bytes small in
    rw is (ap (with_line (chars text)) made)

both_roman : (xs ys : List ℕ) → from_roman (xs ++ ys) ≡ from_roman xs ++ from_roman ys
both_roman xs ys =
    sym (printed_whole (xs ++ ys)) ∙ flat_map-append character xs ys
    ∙ ap (λ l. l ++ flat_map character ys) (printed_whole xs) ∙ ap (λ l. from_roman xs ++ l) (printed_whole ys)

comment_again : from_roman coding_comment ≡ coding_comment
unfolding lib.Utf8.encode
comment_again = refl

comment_bytes : AreBytes coding_comment
comment_bytes = bytes_are coding_comment refl

-- The text says that it is coded.

said_coded : (rest : List ℕ) → is_coded (coding_comment ++ rest) ≡ true
unfolding is_coded
said_coded rest =
    let text = coding_comment ++ rest in
    let long : 27 ≤ length text = omega arith in
    or_right (begins order_mark text) (begins coding_words (after_blanks text)) (ap (λ t. t && true) (le-leb 27 (length text) long))

no_mark : (rest : List ℕ) → begins order_mark (coding_comment ++ rest) ≡ false
no_mark rest = and_right (nat_le 3 (length (coding_comment ++ rest))) _ refl

without_mark : (rest : List ℕ) → as_roman (coding_comment ++ rest) ≡ decoded (coding_comment ++ rest)
unfolding as_roman
without_mark rest = rw (said_coded rest, no_mark rest) refl

pub coded_roman : (text : List ℕ) → AreBytes text → as_roman (coding_comment ++ from_roman text) ≡ Ok (coding_comment ++ text)
coded_roman text small =
    without_mark (from_roman text)
    ∙ ap decoded (sym (both_roman coding_comment text ∙ ap (λ l. l ++ from_roman text) comment_again))
    ∙ decoded_again (coding_comment ++ text) (bytes-append coding_comment text comment_bytes small)

-- The comment states nothing.

-- where the text stands after the comment and its line's end
abbrev second : Lines
second = record { line = 1; last = 10; begun = 1 }

comment_read : (types : List Declared) (files : List (List ℕ)) (text : List ℕ)
    → read_from first_line (start place.Outside types files) (coding_comment ++ text)
    ≡ read_from second (start place.Outside types files) text
unfolding step between slash in_comment star comment remarked
comment_read types files text = refl

second_further : (text : List ℕ) (types : List Declared) (files : List (List ℕ))
    → read_from second (start place.Outside types files) text ≡ moved (read_from first_line (start place.Outside types files) text)
unfolding finish step between
second_further [] types files = refl
second_further (b ∷ rest) types files = read_further (b ∷ rest) (record { line = 1; last = 0; begun = 1 }) (start place.Outside types files)

lacking_later : (names : List (List ℕ)) (c : Content) → unless_lacking names c ≡ later (unless_lacking names c)
lacking_later [] c = refl
lacking_later (n ∷ names) c = refl

stated_later : (n : ℕ) (r : Result State (ℕ × FaultKind)) → stated n (moved r) ≡ later (stated n r)
stated_later n (Ok s) = lacking_later (drop n s.said.files.named) (clear s.said.content)
stated_later n (Err e) = refl

pub coded_again : (types : List Declared) (files : List (List ℕ)) (text : List ℕ) → AreBytes text
    → read types files (coding_comment ++ from_roman text) ≡ later (read_roman types files text)
unfolding read read_roman
coded_again types files text small =
    ap (read_made types files) (coded_roman text small)
    ∙ ap (stated (length files)) (comment_read types files text ∙ second_further text types files)
    ∙ stated_later (length files) (read_from first_line (start place.Outside types files) text)

pub read_coded : (types : List Declared) (files : List (List ℕ)) (text : List ℕ) (c : Content) → AreBytes text
    → read_roman types files text ≡ Ok c → read types files (coding_comment ++ from_roman text) ≡ Ok c
read_coded types files text c small e = coded_again types files text small ∙ ap later e
