use Rattle.bin_hex.proofs.Cited.{◌≡◌, ℕ, ◌-◌, ◌%◌, ◌^◌, ◌<◌, Bool, true, false, cond, List, [], ◌∷◌, ◌++◌, map, length, take, drop, refl}
use Rattle.bin_hex.proofs.Cited.{sym, ◌∙◌, ap, subst, arith, append_assoc, length-append, inl, inr, ◌==◌, nat_lt, bytes_eq, is_some, Result}
use Rattle.bin_hex.proofs.Cited.{Ok, Err, take-append_seam, bytes_eq-Decides, agree_below_at, cases_Bool, and_parts, and_cases, and_left}
use Rattle.bin_hex.proofs.Cited.{and_right, eqb-true, ltb-false, alphabet, character, decoded, groups, encoded_in, marked_in, File}
use Rattle.bin_hex.proofs.Cited.{AreBytes, IsOfBytes, refusal, or_none, encoded_text, opening, closing, encoded_lines, with_file, with_fork}
use Rattle.bin_hex.proofs.Cited.{placed, put_or_damage, with_resource_fork, begins, mark, after_mark, is_bin_hex, after_colon, column_after}
use Rattle.bin_hex.proofs.Cited.{Damage}
use Rattle.std.proofs.Common.{Option, Some}
use Rattle.std.proofs.Common.{None}
use Rattle.std.specs.Prelude.{get_or}
use Rattle.bin_hex.specs.declared.fault.PutFault.TheVariants as fault
use Rattle.bin_hex.proofs.Again.{laid_out, body_dark}
use Rattle.bin_hex.proofs.ContentsAgain.{writable}
use Rattle.bin_hex.proofs.DecodedBytes.{decoded_read}
use Rattle.bin_hex.proofs.Fitting.{can_be_written}
use Rattle.bin_hex.proofs.TextAgain.{mark_found, colon_found, body_of, laid}

-- A BinHex file in which another file was put stands for that.

-- where the mark stands
begun : (text bytes : List ℕ) → begins text bytes ≡ true → bytes ≡ text ++ drop (length text) bytes
begun [] bytes is = refl
begun (wanted ∷ text) [] is = cc
begun (wanted ∷ text) (byte ∷ bytes) is =
    let both = and_parts (wanted == byte) (begins text bytes) is in
    let same : wanted ≡ byte = eqb-true wanted byte both.0 in
    ap (λ b. b ∷ bytes) (sym same) ∙ ap (λ rest. wanted ∷ rest) (begun text bytes both.1)

-- what does not begin with a text does not begin with it where it ends sooner
no_sooner : (text bytes more : List ℕ) → begins text (bytes ++ more) ≡ false → begins text bytes ≡ false
no_sooner [] bytes more is = cc
no_sooner (wanted ∷ text) [] more is = refl
no_sooner (wanted ∷ text) (byte ∷ bytes) more is = elim (and_cases (wanted == byte) (begins text (bytes ++ more)) is) [
  | inl e ↦ and_left (wanted == byte) (begins text bytes) e
  | inr e ↦ and_right (wanted == byte) (begins text bytes) (no_sooner text bytes more e)
]

record IsMarked (bytes rest : List ℕ) : Type 0 where
  before : List ℕ
  whole : bytes ≡ before ++ (mark ++ rest)
  none : is_bin_hex before ≡ false

marked : (bytes rest : List ℕ) → after_mark bytes ≡ Some rest → IsMarked bytes rest
marked [] rest is = cc
marked (byte ∷ bytes) rest is = elim (cases_Bool (begins mark (byte ∷ bytes))) [
  | inl e ↦ let found : Some (drop 28 (byte ∷ bytes)) ≡ Some rest =
      sym (ap (λ t. cond t (Some (drop 28 (byte ∷ bytes))) (after_mark bytes)) e) ∙ is in
      let same : drop 28 (byte ∷ bytes) ≡ rest = cc in
      record {
        before = [];
        whole = begun mark (byte ∷ bytes) e ∙ ap (λ xs. mark ++ xs) same;
        none = refl;
      }
  | inr e ↦ let later = marked bytes rest (sym (ap (λ t. cond t (Some (drop 28 (byte ∷ bytes))) (after_mark bytes)) e) ∙ is) in
      let here : begins mark (byte ∷ later.before) ≡ false = no_sooner mark (byte ∷ later.before) (mark ++ rest)
      (ap (λ xs. begins mark (byte ∷ xs)) (sym later.whole) ∙ e) in
      record {
        before = byte ∷ later.before;
        whole = ap (λ xs. byte ∷ xs) later.whole;
        none = ap (λ t. is_some (cond t (Some (drop 28 (byte ∷ later.before))) (after_mark later.before))) here ∙ later.none;
      }
]

record HasColon (bytes rest : List ℕ) : Type 0 where
  between : List ℕ
  whole : bytes ≡ between ++ 58 ∷ rest
  none : is_some (after_colon between) ≡ false

has_colon : (bytes rest : List ℕ) → after_colon bytes ≡ Some rest → HasColon bytes rest
has_colon [] rest is = cc
has_colon (byte ∷ bytes) rest is = elim (cases_Bool (byte == 58)) [
  | inl e ↦ let found : Some bytes ≡ Some rest = sym (ap (λ t. cond t (Some bytes) (after_colon bytes)) e) ∙ is in
      let same : bytes ≡ rest = cc in
      record {
        between = [];
        whole = ap (λ b. b ∷ bytes) (eqb-true byte 58 e) ∙ ap (λ xs. 58 ∷ xs) same;
        none = refl;
      }
  | inr e ↦ let later = has_colon bytes rest (sym (ap (λ t. cond t (Some bytes) (after_colon bytes)) e) ∙ is) in
      record {
        between = byte ∷ later.between;
        whole = ap (λ xs. byte ∷ xs) later.whole;
        none = ap (λ t. is_some (cond t (Some later.between) (after_colon later.between))) e ∙ later.none;
      }
]

-- the parts of a BinHex file
record HasText (bytes : List ℕ) : Type 0 where
  before : List ℕ
  between : List ℕ
  text : List ℕ
  whole : bytes ≡ before ++ (mark ++ (between ++ 58 ∷ text))
  no_mark : is_bin_hex before ≡ false
  no_colon : is_some (after_colon between) ≡ false

has_text : (bytes : List ℕ) (file : File) → decoded bytes ≡ Ok file → HasText bytes
has_text bytes file is = by_mark (after_mark bytes) refl is
  where
    by_colon : (marked_rest : List ℕ) (found : Option (List ℕ)) → after_mark bytes ≡ Some marked_rest
        → after_colon marked_rest ≡ found → encoded_in (length bytes) found ≡ Ok file → HasText bytes
    by_colon rest None at colon is = cc
    by_colon rest (Some text) at colon is =
        let a = marked bytes rest at in
        let b = has_colon rest text colon in
        record {
          before = a.before;
          between = b.between;
          text = text;
          whole = a.whole ∙ ap (λ xs. a.before ++ (mark ++ xs)) b.whole;
          no_mark = a.none;
          no_colon = b.none;
        }

    by_mark : (found : Option (List ℕ)) → after_mark bytes ≡ found → marked_in (length bytes) found ≡ Ok file → HasText bytes
    by_mark None at is = cc
    by_mark (Some rest) at is = by_colon rest (after_colon rest) at refl is

-- the parts are found
text_at : (before between text : List ℕ) → is_bin_hex before ≡ false → is_some (after_colon between) ≡ false
    → encoded_text (before ++ (mark ++ (between ++ 58 ∷ text))) ≡ text
text_at before between text no_mark no_colon =
    ap (λ found. or_none (after_colon (or_none found))) (mark_found before (between ++ 58 ∷ text) no_mark)
    ∙ ap or_none (colon_found between text no_colon)

abbrev front_of : List ℕ → List ℕ → List ℕ
front_of before between = before ++ (mark ++ (between ++ 58 ∷ []))

behind : (before between text : List ℕ)
    → front_of before between ++ text ≡ before ++ (mark ++ (between ++ 58 ∷ text))
behind before between text =
    append_assoc before (mark ++ (between ++ 58 ∷ [])) text
    ∙ ap (λ xs. before ++ xs) (append_assoc mark (between ++ 58 ∷ []) text)
    ∙ ap (λ xs. before ++ (mark ++ xs)) (append_assoc between (58 ∷ []) text)

front_taken : (front text : List ℕ) → take (length (front ++ text) - length text) (front ++ text) ≡ front
front_taken front text =
    ap (λ n. take n (front ++ text))
    (let e = length-append front text in
    let size : length (front ++ text) - length text ≡ length front = omega (arith, e) in size)
    ∙ take-append_seam front text

opening_at : (before between text : List ℕ) → is_bin_hex before ≡ false → is_some (after_colon between) ≡ false
    → opening (before ++ (mark ++ (between ++ 58 ∷ text))) ≡ front_of before between
opening_at before between text no_mark no_colon =
    let bytes : List ℕ = before ++ (mark ++ (between ++ 58 ∷ text)) in
    ap (λ rest. take (length bytes - length rest) bytes) (text_at before between text no_mark no_colon)
    ∙ ap (λ xs. take (length xs - length text) xs) (sym (behind before between text))
    ∙ front_taken (front_of before between) text

closing_at : (before between text after : List ℕ) → is_bin_hex before ≡ false → is_some (after_colon between) ≡ false
    → is_some (after_colon text) ≡ false → closing (before ++ (mark ++ (between ++ 58 ∷ (text ++ 58 ∷ after)))) ≡ after
closing_at before between text after no_mark no_colon no_end =
    ap (λ rest. or_none (after_colon rest)) (text_at before between (text ++ 58 ∷ after) no_mark no_colon)
    ∙ ap or_none (colon_found text after no_end)

-- no colon stands among the lines
no_colon_below : (sextet : ℕ) → sextet < 64 → (get_or alphabet sextet 0 == 58) ≡ false
no_colon_below sextet h = agree_below_at (λ sextet. get_or alphabet sextet 0 == 58) (λ _. false) 64 sextet refl h

no_colon_put : (t : Bool) (character : ℕ) (rest : List ℕ) → (character == 58) ≡ false → is_some (after_colon rest) ≡ false
    → is_some (after_colon (cond t (10 ∷ character ∷ []) (character ∷ []) ++ rest)) ≡ false
no_colon_put true character rest other none = ap (λ t. is_some (cond t (Some rest) (after_colon rest))) other ∙ none
no_colon_put false character rest other none = ap (λ t. is_some (cond t (Some rest) (after_colon rest))) other ∙ none

no_colon_in : (column : ℕ) (groups : List ℕ) → is_some (after_colon (body_of column (map character groups))) ≡ false
no_colon_in column [] = last (column == 64)
  where
    last : (t : Bool) → is_some (after_colon (cond t (10 ∷ []) [])) ≡ false
    last true = refl
    last false = refl
no_colon_in column (group ∷ groups) =
    no_colon_put (column == 64) (character group) (body_of (column_after column) (map character groups))
    (no_colon_below (group % 64) (omega arith)) (no_colon_in (column_after column) groups)

-- the file that was made, by its parts
made_of : (bytes : List ℕ) (file : File) (parts : HasText bytes)
    → with_file bytes file
    ≡ parts.before ++ (mark ++ (parts.between ++ 58 ∷ (body_of 1 (map character (groups file)) ++ 58 ∷ closing bytes)))
made_of bytes file parts =
    let lines : List ℕ = body_of 1 (map character (groups file)) in
    let front : List ℕ = front_of parts.before parts.between in
    ap (λ xs. (opening xs ++ encoded_lines (groups file)) ++ closing bytes) parts.whole
    ∙ ap (λ xs. (xs ++ encoded_lines (groups file)) ++ closing bytes)
    (opening_at parts.before parts.between parts.text parts.no_mark parts.no_colon)
    ∙ append_assoc front (encoded_lines (groups file)) (closing bytes)
    ∙ ap (λ xs. front ++ (xs ++ closing bytes)) (laid 1 (map character (groups file)))
    ∙ ap (λ xs. front ++ xs) (append_assoc lines (58 ∷ []) (closing bytes))
    ∙ behind parts.before parts.between (lines ++ 58 ∷ closing bytes)

-- what is kept and what is read where a fork was put into a file
pub record IsPut (bytes fork new : List ℕ) (file : File) : Type 0 where
  pub opening : opening new ≡ opening bytes
  pub closing : closing new ≡ closing bytes
  pub decoded : AreBytes fork → decoded new ≡ Ok (with_fork fork file)

kept : (bytes fork : List ℕ) (file : File) → decoded bytes ≡ Ok file → bytes_eq file.resource_fork fork ≡ true
    → IsPut bytes fork bytes file
kept bytes fork file is same = record {
  opening = refl;
  closing = refl;
  decoded = λ all. is ∙ ap (λ f. Ok (with_fork f file)) ((bytes_eq-Decides file.resource_fork fork).0 same);
}

remade : (bytes fork : List ℕ) (file : File) → decoded bytes ≡ Ok file → length fork < 2 ^ 32
    → IsPut bytes fork (with_file bytes (with_fork fork file)) file
remade bytes fork file is short =
    let new : File = with_fork fork file in
    let parts = has_text bytes file is in
    let read = decoded_read bytes file is in
    let lines : List ℕ = body_of 1 (map character (groups new)) in
    let fits = writable file read.fits in
    let none : refusal new ≡ None = can_be_written new fits.name fits.data_fork short in
    record {
      opening = ap opening (made_of bytes new parts)
          ∙ opening_at parts.before parts.between (lines ++ 58 ∷ closing bytes) parts.no_mark parts.no_colon
          ∙ sym (ap opening parts.whole ∙ opening_at parts.before parts.between parts.text parts.no_mark parts.no_colon);
      closing = ap closing (made_of bytes new parts)
          ∙ closing_at parts.before parts.between lines (closing bytes) parts.no_mark parts.no_colon (no_colon_in 1 (groups new));
      decoded = λ all.
          let of_bytes : IsOfBytes new = record {
            name = read.of_bytes.name;
            kind = read.of_bytes.kind;
            creator = read.of_bytes.creator;
            flags = read.of_bytes.flags;
            data_fork = read.of_bytes.data_fork;
            resource_fork = all;
          } in
          ap decoded (made_of bytes new parts)
          ∙ laid_out new parts.before parts.between lines (closing bytes) none of_bytes parts.no_mark parts.no_colon
          (body_dark new none of_bytes);
    }

put_there : (bytes fork new : List ℕ) (file : File) → decoded bytes ≡ Ok file → placed bytes fork file ≡ Ok new
    → IsPut bytes fork new file
put_there bytes fork new file is made = by_fork (bytes_eq file.resource_fork fork) refl
  where
    by_length : (t : Bool) → nat_lt 0xFFFFFFFF (length fork) ≡ t
        → cond t (Err fault.TooLong) (Ok (with_file bytes (with_fork fork file))) ≡ Ok new → IsPut bytes fork new file
    by_length true long made = cc
    by_length false short made =
        let same : with_file bytes (with_fork fork file) ≡ new = cc in
        subst (λ xs. IsPut bytes fork xs file) same
        (remade bytes fork file is (let low = ltb-false 0xFFFFFFFF (length fork) short in omega (arith, low)))

    by_fork : (t : Bool) → bytes_eq file.resource_fork fork ≡ t → IsPut bytes fork new file
    by_fork true same =
        let found : Ok bytes ≡ Ok new = sym (ap (λ t. cond t (Ok bytes)
        (cond (nat_lt 0xFFFFFFFF (length fork)) (Err fault.TooLong) (Ok (with_file bytes (with_fork fork file))))) same) ∙ made in
        let alike : bytes ≡ new = cc in
        subst (λ xs. IsPut bytes fork xs file) alike (kept bytes fork file is same)
    by_fork false other = by_length (nat_lt 0xFFFFFFFF (length fork)) refl
        (sym (ap (λ t. cond t (Ok bytes)
        (cond (nat_lt 0xFFFFFFFF (length fork)) (Err fault.TooLong) (Ok (with_file bytes (with_fork fork file))))) other) ∙ made)

-- a file into which a fork was put was read before
was_read : (bytes fork new : List ℕ) (read : Result File Damage) → put_or_damage bytes fork read ≡ Ok new
    → (file : File) × (read ≡ Ok file) × (placed bytes fork file ≡ Ok new)
was_read bytes fork new (Ok file) is = (file, refl, is)
was_read bytes fork new (Err damage) is = cc

pub put_read : (bytes fork new : List ℕ) → with_resource_fork bytes fork ≡ Ok new
    → (file : File) × (decoded bytes ≡ Ok file) × IsPut bytes fork new file
unfolding with_resource_fork
put_read bytes fork new is =
    let found = was_read bytes fork new (decoded bytes) is in
    (found.0, found.1, put_there bytes fork new found.0 found.1 found.2)

-- the laws

pub file_is_read : (bytes fork new : List ℕ) (file : File) → AreBytes fork → decoded bytes ≡ Ok file
    → with_resource_fork bytes fork ≡ Ok new → decoded new ≡ Ok (with_fork fork file)
file_is_read bytes fork new file all is made =
    let found = put_read bytes fork new made in
    let same : found.0 ≡ file = let e = found.1 in cc in
    subst (λ f. decoded new ≡ Ok (with_fork fork f)) same (found.2.decoded all)

pub opening_stays : (bytes fork new : List ℕ) → with_resource_fork bytes fork ≡ Ok new → opening new ≡ opening bytes
opening_stays bytes fork new made = (put_read bytes fork new made).2.opening

pub closing_stays : (bytes fork new : List ℕ) → with_resource_fork bytes fork ≡ Ok new → closing new ≡ closing bytes
closing_stays bytes fork new made = (put_read bytes fork new made).2.closing

pub own_fork : (bytes : List ℕ) (file : File) → decoded bytes ≡ Ok file
    → with_resource_fork bytes file.resource_fork ≡ Ok bytes
unfolding with_resource_fork
own_fork bytes file is =
    ap (put_or_damage bytes file.resource_fork) is
    ∙ ap (λ t. cond t (Ok bytes) (cond (nat_lt 0xFFFFFFFF (length file.resource_fork)) (Err fault.TooLong)
    (Ok (with_file bytes (with_fork file.resource_fork file))))) ((bytes_eq-Decides file.resource_fork file.resource_fork).1 refl)
