-- The lines of a resource's data: what is printed is read again.
use Rattle.rez_text.proofs.Cited.{◌≡◌, ◌==◌, ℕ, zero, suc, ◌+◌, ◌-◌, ◌*◌, ◌/◌, ◌<◌, Bool, true, false, ◌&&◌, Ok, List, [], ◌∷◌, ◌++◌}
use Rattle.rez_text.proofs.Cited.{length, take, drop, codes, refl, ap, ◌∙◌, sym, arith, append_assoc, append-nil, take-add, agree_below_at}
use Rattle.rez_text.proofs.Cited.{AllByRecursion, flat_map, list_all, take_all, Lettering, Plain, Roman, Ascii, Utf8, Ref, Said, Place}
use Rattle.rez_text.proofs.Cited.{datum, comment, step, between, dollar, slash, in_comment, star, hex_string, AreBytes, shown, grouped}
use Rattle.rez_text.proofs.Cited.{margin, hex_column, text_column, data_line, data_lines, line_count, bytes-take, bytes-drop, each-append}
use Rattle.std.specs.Prelude.{not}
use Rattle.rez_text.specs.declared.mode.Mode.TheVariants as mode
use Rattle.rez_text.specs.declared.mode.Place.TheVariants as place
use Rattle.rez_text.proofs.Steps.{at, run, after, blanks}
use Rattle.rez_text.proofs.Digits.{grouped_run}

-- a text that no comment ends in
abbrev pub NoStar : List ℕ → Type 0
NoStar text = AllByRecursion (λ (b : ℕ). (b == 42) ≡ false) text

comment_step : (b : ℕ) (p : Place) (g : List ℕ) (k : ℕ) (d : Ref) (c : Said) → (b == 42) ≡ false
    → step b (at mode.Comment p g k d c) ≡ Ok (at mode.Comment p (g ++ b ∷ []) k d c)
unfolding step in_comment
comment_step b p g k d c e = rw e refl

pub comment_run : (text : List ℕ) (p : Place) (g : List ℕ) (k : ℕ) (d : Ref) (c : Said) → NoStar text
    → run (Ok (at mode.Comment p g k d c)) text ≡ Ok (at mode.Comment p (g ++ text) k d c)
comment_run [] p g k d c clear = ap (λ l. Ok (at mode.Comment p l k d c)) (sym (append-nil g))
comment_run (b ∷ text) p g k d c clear =
    after (at mode.Comment p g k d c) (at mode.Comment p (g ++ b ∷ []) k d c) _ (b ∷ []) text
    (comment_step b p g k d c clear.0)
    (comment_run text p (g ++ b ∷ []) k d c clear.1
    ∙ ap (λ l. Ok (at mode.Comment p l k d c)) (append_assoc g (b ∷ []) text))

parts : (b : ℕ) (t rest : Bool) → (b == 42) ≡ t → (not t && rest) ≡ true → ((b == 42) ≡ false) × (rest ≡ true)
parts b true rest e h = cc
parts b false rest e h = (e, h)

no_star : (text : List ℕ) → list_all (λ (b : ℕ). not (b == 42)) text ≡ true → NoStar text
no_star [] h = tt
no_star (b ∷ text) h =
    let p = parts b (b == 42) (list_all (λ (d : ℕ). not (d == 42)) text) refl h in
    (p.0, no_star text p.1)

-- in no lettering a byte is shown as a `*`
one_no_star : (lettering : Lettering) (b : ℕ) → b < 256 → NoStar (shown lettering b)
unfolding lib.Utf8.encode
one_no_star (Plain Ascii) b small = no_star (shown (Plain Ascii) b)
    (agree_below_at (λ n. list_all (λ (d : ℕ). not (d == 42)) (shown (Plain Ascii) n)) (λ _. true) 256 b refl small)
one_no_star (Plain Utf8) b small = no_star (shown (Plain Utf8) b)
    (agree_below_at (λ n. list_all (λ (d : ℕ). not (d == 42)) (shown (Plain Utf8) n)) (λ _. true) 256 b refl small)
one_no_star Roman b small = no_star (shown Roman b)
    (agree_below_at (λ n. list_all (λ (d : ℕ). not (d == 42)) (shown Roman n)) (λ _. true) 256 b refl small)

shown_no_star : (lettering : Lettering) (bytes : List ℕ) → AreBytes bytes → NoStar (flat_map (shown lettering) bytes)
shown_no_star lettering [] small = tt
shown_no_star lettering (b ∷ bytes) small =
    each-append (λ b. (b == 42) ≡ false) (shown lettering b) (flat_map (shown lettering) bytes) (one_no_star lettering b small.0)
    (shown_no_star lettering bytes small.1)

comment_opens : (k : ℕ) (d : Ref) (c : Said)
    → run (Ok (at mode.Between place.Data [] k d c)) (codes "/* ") ≡ Ok (at mode.Comment place.Data (32 ∷ []) k d c)
unfolding step between slash in_comment
comment_opens k d c = refl

comment_closes : (g : List ℕ) (k : ℕ) (d : Ref) (c : Said)
    → run (Ok (at mode.Comment place.Data g k d c)) (codes " */\n") ≡ Ok (at mode.Between place.Data [] k d c)
unfolding step between in_comment star comment
comment_closes g k d c = refl

text_column_run : (lettering : Lettering) (bytes : List ℕ) (k : ℕ) (d : Ref) (c : Said) → AreBytes bytes
    → run (Ok (at mode.Between place.Data [] k d c)) (text_column lettering bytes) ≡ Ok (at mode.Between place.Data [] k d c)
text_column_run lettering bytes k d c small =
    let s = at mode.Between place.Data [] k d c in
    let t = at mode.Comment place.Data (32 ∷ []) k d c in
    let u = at mode.Comment place.Data (32 ∷ [] ++ flat_map (shown lettering) bytes) k d c in
    after s u _ (codes "/* " ++ flat_map (shown lettering) bytes) (codes " */\n")
    (after s t _ (codes "/* ") (flat_map (shown lettering) bytes) (comment_opens k d c)
    (comment_run (flat_map (shown lettering) bytes) place.Data (32 ∷ []) k d c (shown_no_star lettering bytes small)))
    (comment_closes (32 ∷ [] ++ flat_map (shown lettering) bytes) k d c)

-- a resource with more data
abbrev pub with_datum : Ref → List ℕ → Ref
with_datum d bytes = record { id = d.id; name = d.name; attrs = d.attrs; datum = d.datum ++ bytes }

string_opens : (k : ℕ) (d : Ref) (c : Said)
    → run (Ok (at mode.Between place.Data [] k d c)) (9 ∷ 36 ∷ 34 ∷ []) ≡ Ok (at mode.HexString place.Data [] k d c)
unfolding step between dollar
string_opens k d c = refl

string_closes : (g : List ℕ) (k : ℕ) (d : Ref) (c : Said)
    → run (Ok (at mode.HexString place.Data g k d c)) (34 ∷ []) ≡ Ok (at mode.Between place.Data [] k (with_datum d g) c)
unfolding step hex_string datum
string_closes g k d c = refl

hex_column_run : (bytes : List ℕ) (k : ℕ) (d : Ref) (c : Said) → AreBytes bytes
    → run (Ok (at mode.Between place.Data [] k d c)) (hex_column bytes)
    ≡ Ok (at mode.Between place.Data [] k (with_datum d bytes) c)
hex_column_run bytes k d c small =
    let s = at mode.Between place.Data [] k d c in
    let t = at mode.HexString place.Data [] k d c in
    let u = at mode.HexString place.Data bytes k d c in
    after s u _ (9 ∷ 36 ∷ 34 ∷ [] ++ grouped 0 bytes) (34 ∷ [])
    (after s t _ (9 ∷ 36 ∷ 34 ∷ []) (grouped 0 bytes) (string_opens k d c) (grouped_run bytes 0 [] k d c small))
    (string_closes bytes k d c)

data_line_run : (lettering : Lettering) (bytes : List ℕ) (k : ℕ) (d : Ref) (c : Said) → AreBytes bytes
    → run (Ok (at mode.Between place.Data [] k d c)) (data_line lettering bytes)
    ≡ Ok (at mode.Between place.Data [] k (with_datum d bytes) c)
data_line_run lettering bytes k d c small =
    let s = at mode.Between place.Data [] k d c in
    let t = at mode.Between place.Data [] k (with_datum d bytes) c in
    after s t _ (hex_column bytes ++ margin (length bytes)) (text_column lettering bytes)
    (after s t _ (hex_column bytes) (margin (length bytes)) (hex_column_run bytes k d c small)
    (blanks (54 - (3 + 2 * length bytes + (length bytes - 1) / 2)) place.Data [] k (with_datum d bytes) c))
    (text_column_run lettering bytes k (with_datum d bytes) c small)

-- more data, and then more
twice : (d : Ref) (xs ys zs : List ℕ) → xs ++ ys ≡ zs → with_datum (with_datum d xs) ys ≡ with_datum d zs
twice d xs ys zs e =
    ap (λ l. record { id = d.id; name = d.name; attrs = d.attrs; datum = l })
    (append_assoc d.datum xs ys ∙ ap (λ l. d.datum ++ l) e)

nothing_more : (d : Ref) → d ≡ with_datum d []
nothing_more d = ap (λ l. record { id = d.id; name = d.name; attrs = d.attrs; datum = l }) (sym (append-nil d.datum))

lines_run : (lettering : Lettering) (n : ℕ) (bytes : List ℕ) (k : ℕ) (d : Ref) (c : Said) → AreBytes bytes
    → run (Ok (at mode.Between place.Data [] k d c)) (data_lines lettering n bytes)
    ≡ Ok (at mode.Between place.Data [] k (with_datum d (take (16 * n) bytes)) c)
lines_run lettering zero bytes k d c small = ap (λ r. Ok (at mode.Between place.Data [] k r c)) (nothing_more d)
lines_run lettering (suc n) bytes k d c small =
    let s = at mode.Between place.Data [] k d c in
    let t = at mode.Between place.Data [] k (with_datum d (take 16 bytes)) c in
    let grown : 16 + 16 * n ≡ 16 * suc n = omega arith in
    let whole : take 16 bytes ++ take (16 * n) (drop 16 bytes) ≡ take (16 * suc n) bytes =
    sym (take-add 16 (16 * n) bytes) ∙ ap (λ m. take m bytes) grown in
    after s t _ (data_line lettering (take 16 bytes)) (data_lines lettering n (drop 16 bytes))
    (data_line_run lettering (take 16 bytes) k d c (bytes-take 16 bytes small))
    (lines_run lettering n (drop 16 bytes) k (with_datum d (take 16 bytes)) c (bytes-drop 16 bytes small)
    ∙ ap (λ r. Ok (at mode.Between place.Data [] k r c)) (twice d (take 16 bytes) _ _ whole))

-- all lines have all bytes
pub all_lines : (bytes : List ℕ) → take (16 * line_count bytes) bytes ≡ bytes
all_lines bytes = take_all (16 * line_count bytes) bytes (omega arith)

-- the data of a resource of which no data is stated yet
pub data_run : (lettering : Lettering) (bytes : List ℕ) (k : ℕ) (d : Ref) (c : Said) → AreBytes bytes
    → run (Ok (at mode.Between place.Data [] k d c)) (data_lines lettering (line_count bytes) bytes)
    ≡ Ok (at mode.Between place.Data [] k (with_datum d bytes) c)
data_run lettering bytes k d c small =
    lines_run lettering (line_count bytes) bytes k d c small
    ∙ ap (λ l. Ok (at mode.Between place.Data [] k (with_datum d l) c)) (all_lines bytes)
