-- The comments before the statements: what is printed is read again.
use Rattle.rez_text.proofs.Cited.{◌≡◌, ◌<◌, ◌≤◌, ◌==◌, ◌&&◌, ℕ, zero, suc, ◌+◌, ◌*◌, ◌/◌, ◌%◌, Bool, true, false, cond, nat_lt, nat_le, Ok}
use Rattle.rez_text.proofs.Cited.{Some, None, codes, List, [], ◌∷◌, ◌++◌, length, take, drop, replicate, refl, ap, ◌∙◌, sym, arith}
use Rattle.rez_text.proofs.Cited.{append_assoc, append-nil, le-leb, eqb-true, take-add, and_right, and_parts, list_all, big_number, Group}
use Rattle.rez_text.proofs.Cited.{Content, upper_digit, Declared, Said, State, Files, no_ref, with_content, AreBytes, is_blank, hex_value}
use Rattle.rez_text.proofs.Cited.{byte_of, hex_from, begins, bytes_after, remarked, comment, with_area, with_map_attributes, step, between}
use Rattle.rez_text.proofs.Cited.{slash, in_comment, star, byte_hex, gap, grouped, line_count, attributes_comment, attributes_remark}
use Rattle.rez_text.proofs.Cited.{area_lines, area_remark, bytes-take, bytes-drop, each-append}
use Rattle.std.proofs.Common.{eq-eqb}
use Rattle.rez_text.specs.declared.mode.Mode.TheVariants as mode
use Rattle.rez_text.specs.declared.mode.Place.TheVariants as place
use Rattle.rez_text.specs.Remarks.{stated}
use Rattle.rez_text.proofs.Steps.{at, run, after}
use Rattle.rez_text.proofs.Digits.{digit_value, digit_no_blank, digit_no_star, halves}
use Rattle.rez_text.proofs.Lines.{NoStar, comment_run, all_lines}
use Rattle.rez_text.proofs.Statements.{saying, outside}

-- Hexadecimal digits in a comment.

two_digits : (x y h l : ℕ) (bytes rest : List ℕ) → is_blank x ≡ false → hex_value x ≡ Some h → is_blank y ≡ false
    → hex_value y ≡ Some l
    → hex_from None bytes (x ∷ y ∷ rest) ≡ hex_from None (bytes ++ byte_of h l ∷ []) rest
two_digits x y h l bytes rest b v d w = rw (b, v, d, w) refl

byte_from : (b : ℕ) (bytes rest : List ℕ) → b < 256
    → hex_from None bytes (byte_hex b ++ rest) ≡ hex_from None (bytes ++ b ∷ []) rest
byte_from b bytes rest small =
    let high : b / 16 < 16 = omega arith in
    let low : b % 16 < 16 = omega arith in
    two_digits (upper_digit (b / 16)) (upper_digit (b % 16)) (b / 16) (b % 16) bytes rest (digit_no_blank _ high)
    (digit_value _ high) (digit_no_blank _ low) (digit_value _ low)
    ∙ ap (λ n. hex_from None (bytes ++ n ∷ []) rest) (halves b small)

grouped_from : (xs : List ℕ) (n : ℕ) (bytes rest : List ℕ) → AreBytes xs
    → hex_from None bytes (grouped n xs ++ rest) ≡ hex_from None (bytes ++ xs) rest
grouped_from [] n bytes rest small = ap (λ l. hex_from None l rest) (sym (append-nil bytes))
grouped_from (b ∷ xs) n bytes rest small =
    let more : hex_from None bytes (byte_hex b ++ (grouped (n + 1) xs ++ rest)) ≡ hex_from None (bytes ++ b ∷ xs) rest =
    byte_from b bytes (grouped (n + 1) xs ++ rest) small.0
    ∙ grouped_from xs (n + 1) (bytes ++ b ∷ []) rest small.1
    ∙ ap (λ l. hex_from None l rest) (append_assoc bytes (b ∷ []) xs) in
    elim (nat_lt 0 n && n % 2 == 0) as (λ v. hex_from None bytes
    (((cond v (32 ∷ []) [] ++ byte_hex b) ++ grouped (n + 1) xs) ++ rest) ≡ hex_from None (bytes ++ b ∷ xs) rest) [
      | true ↦ more
      | false ↦ more
    ]

lines_from : (n : ℕ) (xs bytes rest : List ℕ) → AreBytes xs
    → hex_from None bytes (area_lines n xs ++ rest) ≡ hex_from None (bytes ++ take (16 * n) xs) rest
lines_from zero xs bytes rest small = ap (λ l. hex_from None l rest) (sym (append-nil bytes))
lines_from (suc n) xs bytes rest small =
    let front = take 16 xs in
    let behind = drop 16 xs in
    let grown : 16 + 16 * n ≡ 16 * suc n = omega arith in
    let whole : front ++ take (16 * n) behind ≡ take (16 * suc n) xs =
    sym (take-add 16 (16 * n) xs) ∙ ap (λ m. take m xs) grown in
    ap (hex_from None bytes) (append_assoc (grouped 0 front) (area_lines n behind) rest)
    ∙ grouped_from front 0 bytes (area_lines n behind ++ rest) (bytes-take 16 xs small)
    ∙ lines_from n behind (bytes ++ front) rest (bytes-drop 16 xs small)
    ∙ ap (λ l. hex_from None l rest) (append_assoc bytes front (take (16 * n) behind) ∙ ap (λ l. bytes ++ l) whole)

-- No digit ends a comment.

byte_no_star : (b : ℕ) → b < 256 → NoStar (byte_hex b)
byte_no_star b small =
    let high : b / 16 < 16 = omega arith in
    let low : b % 16 < 16 = omega arith in
    (digit_no_star _ high, (digit_no_star _ low, tt))

gap_no_star : (n : ℕ) → NoStar (gap n)
gap_no_star n =
    elim (nat_lt 0 n && n % 2 == 0) as (λ v. NoStar (cond v (32 ∷ []) [])) [ true ↦ (refl, tt) | false ↦ tt ]

grouped_no_star : (xs : List ℕ) (n : ℕ) → AreBytes xs → NoStar (grouped n xs)
grouped_no_star [] n small = tt
grouped_no_star (b ∷ xs) n small =
    each-append (λ b. (b == 42) ≡ false) (gap n ++ byte_hex b) (grouped (n + 1) xs)
    (each-append (λ b. (b == 42) ≡ false) (gap n) (byte_hex b) (gap_no_star n) (byte_no_star b small.0))
    (grouped_no_star xs (n + 1) small.1)

lines_no_star : (n : ℕ) (xs : List ℕ) → AreBytes xs → NoStar (area_lines n xs)
lines_no_star zero xs small = tt
lines_no_star (suc n) xs small = (
  refl,
  (
    refl,
    each-append (λ b. (b == 42) ≡ false) (grouped 0 (take 16 xs)) (area_lines n (drop 16 xs))
        (grouped_no_star (take 16 xs) 0 (bytes-take 16 xs small)) (lines_no_star n (drop 16 xs) (bytes-drop 16 xs small)),
  ),
)

-- What the text of a comment states.

these_words : (words text bytes : List ℕ) (n : ℕ) → begins words text ≡ true
    → hex_from None [] (drop (length words) text) ≡ Some bytes → (length bytes == n) ≡ true
    → bytes_after words n text ≡ Some bytes
unfolding bytes_after
these_words words text bytes n begun read count = rw (begun, read, count) refl

-- what a text states that begins with the words of either comment
stated_attributes : (text : List ℕ) (c : Content) → begins (codes "map attributes") text ≡ true
    → stated text c ≡ with_map_attributes (bytes_after (codes "map attributes $") 2 text) c
stated_attributes text c begun = rw begun refl

stated_area : (text : List ℕ) (c : Content) → begins (codes "map attributes") text ≡ false
    → begins (codes "header bytes") text ≡ true
    → stated text c ≡ with_area (bytes_after (codes "header bytes") 240 text) c
stated_area text c other begun = rw (other, begun) refl

attributes_stated : (high low : ℕ) (c : Content) → high < 256 → low < 256
    → remarked (codes " map attributes $" ++ (byte_hex high ++ (byte_hex low ++ 32 ∷ []))) c
    ≡ Ok (record { area = c.area; attrs = 256 * high + low; groups = c.groups })
unfolding remarked
attributes_stated high low c first second =
    let text = codes "map attributes $" ++ (byte_hex high ++ (byte_hex low ++ 32 ∷ [])) in
    let read : hex_from None [] (byte_hex high ++ (byte_hex low ++ 32 ∷ [])) ≡ Some (high ∷ low ∷ []) =
    byte_from high [] (byte_hex low ++ 32 ∷ []) first ∙ byte_from low (high ∷ []) (32 ∷ []) second in
    let given : bytes_after (codes "map attributes $") 2 text ≡ Some (high ∷ low ∷ []) =
    these_words (codes "map attributes $") text (high ∷ low ∷ []) 2 refl read refl in
    let number : big_number 2 (high ∷ low ∷ []) ≡ 256 * high + low = omega arith in
    stated_attributes text c refl ∙ ap (λ found. with_map_attributes found c) given
    ∙ ap (λ n. Ok (record { area = c.area; attrs = n; groups = c.groups })) number

area_stated : (area rest : List ℕ) (c : Content) → length area ≡ 240
    → hex_from None [] rest ≡ Some area
    → remarked (codes " header bytes" ++ rest) c ≡ Ok (record { area = area; attrs = c.attrs; groups = c.groups })
unfolding remarked
area_stated area rest c count read =
    let text = codes "header bytes" ++ rest in
    let long : 12 ≤ length text = omega arith in
    let begun : begins (codes "header bytes") text ≡ true = ap (λ t. t && true) (le-leb 12 (length text) long) in
    let given : bytes_after (codes "header bytes") 240 text ≡ Some area =
    these_words (codes "header bytes") text area 240 begun read (eq-eqb (length area) 240 count) in
    let other : begins (codes "map attributes") text ≡ false = and_right (nat_le 14 (length text)) _ refl in
    stated_area text c other begun ∙ ap (λ found. with_area found c) given

-- The comments, as they are read.

attributes_opens : (c : Said)
    → run (Ok (at mode.Between place.Outside [] 0 no_ref c)) (codes "/* map attributes $")
    ≡ Ok (at mode.Comment place.Outside (codes " map attributes $") 0 no_ref c)
unfolding step between slash in_comment
attributes_opens c = refl

area_opens : (c : Said)
    → run (Ok (at mode.Between place.Outside [] 0 no_ref c)) (codes "/* header bytes")
    ≡ Ok (at mode.Comment place.Outside (codes " header bytes") 0 no_ref c)
unfolding step between slash in_comment
area_opens c = refl

attributes_closes : (g : List ℕ) (c : Said) (d : Content) → remarked (g ++ 32 ∷ []) c.content ≡ Ok d
    → run (Ok (at mode.Comment place.Outside g 0 no_ref c)) (codes " */\n")
    ≡ Ok (at mode.Between place.Outside [] 0 no_ref (with_content d c))
unfolding step between in_comment star comment
attributes_closes g c d stated = rw stated refl

area_closes : (g : List ℕ) (c : Said) (d : Content) → remarked (g ++ 10 ∷ []) c.content ≡ Ok d
    → run (Ok (at mode.Comment place.Outside g 0 no_ref c)) (codes "\n*/\n")
    ≡ Ok (at mode.Between place.Outside [] 0 no_ref (with_content d c))
unfolding step between in_comment star comment
area_closes g c d stated = rw stated refl

-- a state by what is said
abbrev there : Said → State
there c = at mode.Between place.Outside [] 0 no_ref c

-- what is said, with other attributes, and with other bytes after the header
abbrev with_attrs : ℕ → Said → Said
with_attrs attrs c = with_content (record { area = c.content.area; attrs = attrs; groups = c.content.groups }) c

abbrev with_bytes : List ℕ → Said → Said
with_bytes area c = with_content (record { area = area; attrs = c.content.attrs; groups = c.content.groups }) c

attributes_comment_run : (attrs : ℕ) (c : Said) → attrs < 65536
    → run (Ok (there c)) (attributes_comment attrs) ≡ Ok (there (with_attrs attrs c))
attributes_comment_run attrs c small =
    let high : ℕ = attrs / 256 in
    let low : ℕ = attrs % 256 in
    let first : high < 256 = omega arith in
    let second : low < 256 = omega arith in
    let whole : 256 * high + low ≡ attrs = omega arith in
    let words = codes " map attributes $" in
    let t1 = at mode.Comment place.Outside words 0 no_ref c in
    let t2 = at mode.Comment place.Outside (words ++ byte_hex high) 0 no_ref c in
    let t3 = at mode.Comment place.Outside ((words ++ byte_hex high) ++ byte_hex low) 0 no_ref c in
    let text : ((words ++ byte_hex high) ++ byte_hex low) ++ 32 ∷ [] ≡ words ++ (byte_hex high ++ (byte_hex low ++ 32 ∷ [])) =
    append_assoc (words ++ byte_hex high) (byte_hex low) (32 ∷ [])
    ∙ append_assoc words (byte_hex high) (byte_hex low ++ 32 ∷ []) in
    let stated = ap (λ l. remarked l c.content) text ∙ attributes_stated high low c.content first second
    ∙ ap (λ n. Ok (record { area = c.content.area; attrs = n; groups = c.content.groups })) whole in
    after (there c) t3 _ (codes "/* map attributes $" ++ byte_hex high ++ byte_hex low) (codes " */\n")
    (after (there c) t2 _ (codes "/* map attributes $" ++ byte_hex high) (byte_hex low)
    (after (there c) t1 _ (codes "/* map attributes $") (byte_hex high) (attributes_opens c)
    (comment_run (byte_hex high) place.Outside words 0 no_ref c (byte_no_star high first)))
    (comment_run (byte_hex low) place.Outside (words ++ byte_hex high) 0 no_ref c (byte_no_star low second)))
    (attributes_closes ((words ++ byte_hex high) ++ byte_hex low) c _ stated)

pub attributes_remark_run : (attrs : ℕ) (area : List ℕ) (groups : List Group) (types : List Declared) (files : Files) → attrs < 65536
    → run (Ok (outside area 0 groups types files)) (attributes_remark attrs) ≡ Ok (outside area attrs groups types files)
attributes_remark_run attrs area groups types files small =
    let c = saying area 0 groups types files in
    let go : (v : Bool) → (attrs == 0) ≡ v
    → run (Ok (outside area 0 groups types files)) (cond v [] (attributes_comment attrs)) ≡ Ok (outside area attrs groups types files) =
    λ v. elim v as (λ w. (attrs == 0) ≡ w
    → run (Ok (outside area 0 groups types files)) (cond w [] (attributes_comment attrs)) ≡ Ok (outside area attrs groups types files)) [
      | true ↦ λ h. ap (λ n. Ok (outside area n groups types files)) (sym (eqb-true attrs 0 h))
      | false ↦ λ h. attributes_comment_run attrs c small
    ] in
    go (attrs == 0) refl

area_comment_run : (area : List ℕ) (c : Said) → AreBytes area → length area ≡ 240
    → run (Ok (there c)) (codes "/* header bytes" ++ area_lines (line_count area) area ++ codes "\n*/\n")
    ≡ Ok (there (with_bytes area c))
area_comment_run area c small count =
    let lines = area_lines (line_count area) area in
    let words = codes " header bytes" in
    let t1 = at mode.Comment place.Outside words 0 no_ref c in
    let t2 = at mode.Comment place.Outside (words ++ lines) 0 no_ref c in
    let read : hex_from None [] (lines ++ 10 ∷ []) ≡ Some area =
    lines_from (line_count area) area [] (10 ∷ []) small ∙ ap (λ l. Some l) (all_lines area) in
    let stated = ap (λ l. remarked l c.content) (append_assoc words lines (10 ∷ []))
    ∙ area_stated area (lines ++ 10 ∷ []) c.content count read in
    after (there c) t2 _ (codes "/* header bytes" ++ lines) (codes "\n*/\n")
    (after (there c) t1 _ (codes "/* header bytes") lines (area_opens c)
    (comment_run lines place.Outside words 0 no_ref c (lines_no_star (line_count area) area small)))
    (area_closes (words ++ lines) c _ stated)

all_zero : (area : List ℕ) → list_all (λ b. b == 0) area ≡ true → area ≡ replicate (length area) 0
all_zero [] h = refl
all_zero (b ∷ area) h =
    let parts = and_parts (b == 0) (list_all (λ x. x == 0) area) h in
    ap (λ n. n ∷ area) (eqb-true b 0 parts.0) ∙ ap (λ l. 0 ∷ l) (all_zero area parts.1)

pub area_remark_run : (area : List ℕ) (attrs : ℕ) (groups : List Group) (types : List Declared) (files : Files) → AreBytes area
    → length area ≡ 240
    → run (Ok (outside (replicate 240 0) attrs groups types files)) (area_remark area) ≡ Ok (outside area attrs groups types files)
area_remark_run area attrs groups types files small count =
    let c = saying (replicate 240 0) attrs groups types files in
    let text = codes "/* header bytes" ++ area_lines (line_count area) area ++ codes "\n*/\n" in
    let go : (v : Bool) → list_all (λ b. b == 0) area ≡ v
    → run (Ok (outside (replicate 240 0) attrs groups types files)) (cond v [] text) ≡ Ok (outside area attrs groups types files) =
    λ v. elim v as (λ w. list_all (λ b. b == 0) area ≡ w
    → run (Ok (outside (replicate 240 0) attrs groups types files)) (cond w [] text) ≡ Ok (outside area attrs groups types files)) [
      | true ↦ λ h. ap (λ l. Ok (outside l attrs groups types files))
          (sym (all_zero area h ∙ ap (λ n. replicate n 0) count))
      | false ↦ λ h. area_comment_run area c small count
    ] in
    go (list_all (λ b. b == 0) area) refl
