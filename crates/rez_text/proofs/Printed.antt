-- What is printed is bytes.
use Rattle.rez_text.proofs.Cited.{◌≡◌, ◌<◌, ◌==◌, ◌&&◌, ◌^◌, ℕ, ℤ, pos, negsuc, zero, suc, ◌+◌, ◌-◌, ◌*◌, ◌/◌, ◌%◌, Bool, true, false, cond}
use Rattle.rez_text.proofs.Cited.{nat_lt, Some, None, codes, List, [], ◌∷◌, ◌++◌, length, take, drop, replicate, refl, arith, Option, rules}
use Rattle.rez_text.proofs.Cited.{agree_below_at, and_parts, ltb-true, decimal_by_steps, FitsSigned, IfSome, w16, decimal, signed_decimal}
use Rattle.rez_text.proofs.Cited.{flat_map, list_all, bytes-take, bytes-drop, bytes-append, big_bytes, Ascii, Utf8, Ref, IsRef, Lettering}
use Rattle.rez_text.proofs.Cited.{Plain, Roman, AreBytes, HasBytes, byte_hex, gap, grouped, shown, margin, hex_column, text_column}
use Rattle.rez_text.proofs.Cited.{data_line, data_lines, line_count, escaped, in_quotes, name_argument, attributes_argument, type_literal}
use Rattle.rez_text.proofs.Cited.{statement_head, statement, attributes_comment, attributes_remark, area_lines, area_comment, area_remark}

-- the test that computes
abbrev pub all_low : List ℕ → Bool
all_low text = list_all (λ (b : ℕ). nat_lt b 256) text

pub bytes_are : (text : List ℕ) → all_low text ≡ true → AreBytes text
bytes_are [] h = tt
bytes_are (b ∷ text) h =
    let p = and_parts (nat_lt b 256) (all_low text) h in
    (ltb-true b 256 p.0, bytes_are text p.1)

pub bytes_of_each : (f : ℕ → List ℕ) (xs : List ℕ) → ((b : ℕ) → b < 256 → AreBytes (f b)) → AreBytes xs → AreBytes (flat_map f xs)
bytes_of_each f [] each small = tt
bytes_of_each f (x ∷ xs) each small =
    bytes-append (f x) (flat_map f xs) (each x small.0) (bytes_of_each f xs each small.1)

pub hex_bytes : (b : ℕ) → b < 256 → AreBytes (byte_hex b)
hex_bytes b small = bytes_are (byte_hex b) (agree_below_at (λ n. all_low (byte_hex n)) (λ _. true) 256 b refl small)

gap_bytes : (n : ℕ) → AreBytes (gap n)
gap_bytes n = cases (nat_lt 0 n && n % 2 == 0)
  where
    cases : (t : Bool) → AreBytes (cond t (32 ∷ []) [])
    cases true = bytes_are (32 ∷ []) refl
    cases false = tt

grouped_bytes : (n : ℕ) (xs : List ℕ) → AreBytes xs → AreBytes (grouped n xs)
grouped_bytes n [] small = tt
grouped_bytes n (b ∷ xs) small =
    bytes-append (gap n ++ byte_hex b) (grouped (n + 1) xs)
    (bytes-append (gap n) (byte_hex b) (gap_bytes n) (hex_bytes b small.0)) (grouped_bytes (n + 1) xs small.1)

blank_bytes : (n : ℕ) → AreBytes (replicate n 32)
blank_bytes zero = tt
blank_bytes (suc n) = ((bytes_are (32 ∷ []) refl).0, blank_bytes n)

shown_bytes : (lettering : Lettering) (b : ℕ) → b < 256 → AreBytes (shown lettering b)
unfolding lib.Utf8.encode
shown_bytes (Plain Ascii) b small =
    bytes_are (shown (Plain Ascii) b) (agree_below_at (λ n. all_low (shown (Plain Ascii) n)) (λ _. true) 256 b refl small)
shown_bytes (Plain Utf8) b small =
    bytes_are (shown (Plain Utf8) b) (agree_below_at (λ n. all_low (shown (Plain Utf8) n)) (λ _. true) 256 b refl small)
shown_bytes Roman b small = bytes_are (shown Roman b) (agree_below_at (λ n. all_low (shown Roman n)) (λ _. true) 256 b refl small)

line_bytes : (lettering : Lettering) (xs : List ℕ) → AreBytes xs → AreBytes (data_line lettering xs)
line_bytes lettering xs small =
    bytes-append (hex_column xs ++ margin (length xs)) (text_column lettering xs)
    (bytes-append (hex_column xs) (margin (length xs))
    (bytes-append (9 ∷ 36 ∷ 34 ∷ [] ++ grouped 0 xs) (34 ∷ [])
    (bytes-append (9 ∷ 36 ∷ 34 ∷ []) (grouped 0 xs) (bytes_are (9 ∷ 36 ∷ 34 ∷ []) refl) (grouped_bytes 0 xs small))
    (bytes_are (34 ∷ []) refl))
    (blank_bytes (54 - (3 + 2 * length xs + (length xs - 1) / 2))))
    (bytes-append (codes "/* " ++ flat_map (shown lettering) xs) (codes " */\n")
    (bytes-append (codes "/* ") (flat_map (shown lettering) xs) (bytes_are (codes "/* ") refl)
    (bytes_of_each (shown lettering) xs (shown_bytes lettering) small))
    (bytes_are (codes " */\n") refl))

lines_bytes : (lettering : Lettering) (n : ℕ) (xs : List ℕ) → AreBytes xs → AreBytes (data_lines lettering n xs)
lines_bytes lettering zero xs small = tt
lines_bytes lettering (suc n) xs small =
    bytes-append (data_line lettering (take 16 xs)) (data_lines lettering n (drop 16 xs))
    (line_bytes lettering (take 16 xs) (bytes-take 16 xs small)) (lines_bytes lettering n (drop 16 xs) (bytes-drop 16 xs small))

-- Between quotes.

in_name : (lettering : Lettering) (b : ℕ) → b < 256 → AreBytes (escaped lettering 34 b)
in_name (Plain set) b small =
    bytes_are (escaped (Plain set) 34 b) (agree_below_at (λ n. all_low (escaped (Plain set) 34 n)) (λ _. true) 256 b refl small)
in_name Roman b small =
    bytes_are (escaped Roman 34 b) (agree_below_at (λ n. all_low (escaped Roman 34 n)) (λ _. true) 256 b refl small)

in_type : (b : ℕ) → b < 256 → AreBytes (escaped (Plain Ascii) 39 b)
in_type b small =
    bytes_are (escaped (Plain Ascii) 39 b)
    (agree_below_at (λ n. all_low (escaped (Plain Ascii) 39 n)) (λ _. true) 256 b refl small)

quoted_bytes : (lettering : Lettering) (quote : ℕ) (xs : List ℕ) → quote < 256
    → ((b : ℕ) → b < 256 → AreBytes (escaped lettering quote b)) → AreBytes xs → AreBytes (in_quotes lettering quote xs)
quoted_bytes lettering quote xs low each small =
    bytes-append (quote ∷ [] ++ flat_map (escaped lettering quote) xs) (quote ∷ [])
    (low, bytes_of_each (escaped lettering quote) xs each small) (low, tt)

pub name_bytes : (lettering : Lettering) (name : Option (List ℕ)) → IfSome name AreBytes → AreBytes (name_argument lettering name)
name_bytes lettering None small = tt
name_bytes lettering (Some text) small =
    bytes-append (codes ", ") (in_quotes lettering 34 text) (bytes_are (codes ", ") refl)
    (quoted_bytes lettering 34 text (omega arith) (in_name lettering) small)

pub type_bytes : (kind : ℕ) → AreBytes (type_literal kind)
unfolding type_literal
type_bytes kind = quoted_bytes (Plain Ascii) 39 (big_bytes 4 kind) (omega arith) in_type (search (rules, arith))

-- Numbers.

decimal_bytes : (n : ℕ) → n < 2 ^ 64 → AreBytes (decimal n)
decimal_bytes n small =
    decimal_by_steps (λ _ ds. AreBytes ds) (λ m low. (omega arith, tt))
    (λ m ds large one. bytes-append ds ((48 + m % 10) ∷ []) one (omega arith, tt)) n small

pub id_bytes : (id : ℤ) → FitsSigned w16 id → AreBytes (signed_decimal id)
id_bytes (pos n) fits = decimal_bytes n (omega arith)
id_bytes (negsuc n) fits = (omega arith, decimal_bytes (suc n) (omega arith))

pub attributes_bytes : (attrs : ℕ) → attrs < 256 → AreBytes (attributes_argument attrs)
attributes_bytes attrs small =
    bytes_are (attributes_argument attrs) (agree_below_at (λ n. all_low (attributes_argument n)) (λ _. true) 256 attrs refl small)

-- A whole statement, and the comments before all.

pub statement_bytes : (lettering : Lettering) (kind : ℕ) (r : Ref) → IsRef r → HasBytes r → AreBytes (statement lettering kind r)
unfolding statement_head
statement_bytes lettering kind r limits bytes =
    let x1 = codes "data " in
    let x2 = type_literal kind in
    let x3 = codes " (" in
    let x4 = signed_decimal r.id in
    let x5 = name_argument lettering r.name in
    let x6 = attributes_argument r.attrs in
    let x7 = codes ") {\n" in
    let x8 = data_lines lettering (line_count r.datum) r.datum in
    bytes-append (x1 ++ x2 ++ x3 ++ x4 ++ x5 ++ x6 ++ x7 ++ x8) (codes "};\n\n")
    (bytes-append (x1 ++ x2 ++ x3 ++ x4 ++ x5 ++ x6 ++ x7) x8
    (bytes-append (x1 ++ x2 ++ x3 ++ x4 ++ x5 ++ x6) x7
    (bytes-append (x1 ++ x2 ++ x3 ++ x4 ++ x5) x6
    (bytes-append (x1 ++ x2 ++ x3 ++ x4) x5
    (bytes-append (x1 ++ x2 ++ x3) x4
    (bytes-append (x1 ++ x2) x3 (bytes-append x1 x2 (bytes_are x1 refl) (type_bytes kind)) (bytes_are x3 refl))
    (id_bytes r.id limits.id))
    (name_bytes lettering r.name bytes.name))
    (attributes_bytes r.attrs limits.attrs))
    (bytes_are x7 refl))
    (lines_bytes lettering (line_count r.datum) r.datum bytes.datum))
    (bytes_are (codes "};\n\n") refl)

pub map_attributes_bytes : (attrs : ℕ) → attrs < 2 ^ 16 → AreBytes (attributes_remark attrs)
map_attributes_bytes attrs small = cases (attrs == 0)
  where
    cases : (t : Bool) → AreBytes (cond t [] (attributes_comment attrs))
    cases true = tt
    cases false =
        let x1 = codes "/* map attributes $" in
        let x2 = byte_hex (attrs / 256) in
        let x3 = byte_hex (attrs % 256) in
        bytes-append (x1 ++ x2 ++ x3) (codes " */\n")
        (bytes-append (x1 ++ x2) x3 (bytes-append x1 x2 (bytes_are x1 refl) (hex_bytes (attrs / 256) (omega arith)))
        (hex_bytes (attrs % 256) (omega arith)))
        (bytes_are (codes " */\n") refl)

area_lines_bytes : (n : ℕ) (xs : List ℕ) → AreBytes xs → AreBytes (area_lines n xs)
area_lines_bytes zero xs small = tt
area_lines_bytes (suc n) xs small =
    bytes-append (10 ∷ 9 ∷ [] ++ grouped 0 (take 16 xs)) (area_lines n (drop 16 xs))
    (bytes-append (10 ∷ 9 ∷ []) (grouped 0 (take 16 xs)) (bytes_are (10 ∷ 9 ∷ []) refl)
    (grouped_bytes 0 (take 16 xs) (bytes-take 16 xs small)))
    (area_lines_bytes n (drop 16 xs) (bytes-drop 16 xs small))

pub area_bytes : (area : List ℕ) → AreBytes area → AreBytes (area_remark area)
area_bytes area small = cases (list_all (λ (b : ℕ). b == 0) area)
  where
    cases : (t : Bool) → AreBytes (cond t [] (area_comment area))
    cases true = tt
    cases false =
        let x1 = codes "/* header bytes" in
        let x2 = area_lines (line_count area) area in
        bytes-append (x1 ++ x2) (codes "\n*/\n")
        (bytes-append x1 x2 (bytes_are x1 refl) (area_lines_bytes (line_count area) area small)) (bytes_are (codes "\n*/\n") refl)
