-- Names and types between quotes: what is printed is read again.
use Rattle.rez_text.proofs.Cited.{◌≡◌, ◌<◌, ◌≤◌, ◌==◌, ◌^◌, ◌&&◌, ℕ, ◌+◌, ◌*◌, ◌/◌, ◌%◌, Bool, true, false, cond, nat_lt, Ok, Some, List}
use Rattle.rez_text.proofs.Cited.{[], ◌∷◌, ◌++◌, length, refl, ap, ◌∙◌, sym, subst, arith, append_assoc, append-nil, eqb-true, le-ltb}
use Rattle.rez_text.proofs.Cited.{rules, agree_below_at, flat_map, big_number, big_bytes, Ref, kind_again, upper_digit, Ascii, Lettering}
use Rattle.rez_text.proofs.Cited.{Plain, Roman, Quote, Place, Said, State, string, type_token, step, between, quoted, escape, escape_zero}
use Rattle.rez_text.proofs.Cited.{escape_number, quote_byte, digit_in, ends_line, AreBytes, byte_hex, stands, escaped, in_quotes}
use Rattle.rez_text.proofs.Cited.{type_literal}
use Rattle.rez_text.specs.declared.mode.Quote.TheVariants as quotes
use Rattle.rez_text.specs.declared.mode.Radix.TheVariants as radix
use Rattle.rez_text.specs.declared.mode.Mode.TheVariants as mode
use Rattle.rez_text.specs.declared.mode.Place.TheVariants as place
use Rattle.rez_text.proofs.Steps.{at, run, after}
use Rattle.rez_text.proofs.Digits.{digit_read}

-- a byte that stands for itself
plain_step : (q : Quote) (b : ℕ) (p : Place) (g : List ℕ) (k : ℕ) (d : Ref) (c : Said) → (b == quote_byte q) ≡ false
    → (b == 92) ≡ false → ends_line b ≡ false
    → step b (at (mode.Quoted q) p g k d c) ≡ Ok (at (mode.Quoted q) p (g ++ b ∷ []) k d c)
unfolding step quoted
plain_step q b p g k d c e f h = rw (e, f, h) refl

-- a quote after a `\`
quote_run : (q : Quote) (p : Place) (g : List ℕ) (k : ℕ) (d : Ref) (c : Said)
    → run (Ok (at (mode.Quoted q) p g k d c)) (92 ∷ quote_byte q ∷ [])
    ≡ Ok (at (mode.Quoted q) p (g ++ quote_byte q ∷ []) k d c)
unfolding step quoted escape
quote_run quotes.Double p g k d c = refl
quote_run quotes.Single p g k d c = refl

-- a `\` after a `\`
stroke_run : (q : Quote) (p : Place) (g : List ℕ) (k : ℕ) (d : Ref) (c : Said)
    → run (Ok (at (mode.Quoted q) p g k d c)) (92 ∷ 92 ∷ []) ≡ Ok (at (mode.Quoted q) p (g ++ 92 ∷ []) k d c)
unfolding step quoted escape
stroke_run quotes.Double p g k d c = refl
stroke_run quotes.Single p g k d c = refl

-- what begins a byte by its digits
number_opens : (q : Quote) (p : Place) (g : List ℕ) (k : ℕ) (d : Ref) (c : Said)
    → run (Ok (at (mode.Quoted q) p g k d c)) (92 ∷ 48 ∷ 120 ∷ [])
    ≡ Ok (at (mode.EscapeNumber q radix.Hexadecimal 2 0) p g k d c)
unfolding step quoted escape escape_zero
number_opens quotes.Double p g k d c = refl
number_opens quotes.Single p g k d c = refl

high_step : (q : Quote) (x h : ℕ) (p : Place) (g : List ℕ) (k : ℕ) (d : Ref) (c : Said)
    → digit_in radix.Hexadecimal x ≡ Some h → nat_lt 255 (16 * 0 + h) ≡ false
    → step x (at (mode.EscapeNumber q radix.Hexadecimal 2 0) p g k d c)
    ≡ Ok (at (mode.EscapeNumber q radix.Hexadecimal 1 (16 * 0 + h)) p g k d c)
unfolding step escape_number
high_step q x h p g k d c v small = rw (v, small) refl

low_step : (q : Quote) (x h l : ℕ) (p : Place) (g : List ℕ) (k : ℕ) (d : Ref) (c : Said)
    → digit_in radix.Hexadecimal x ≡ Some l → nat_lt 255 (16 * h + l) ≡ false
    → step x (at (mode.EscapeNumber q radix.Hexadecimal 1 h) p g k d c)
    ≡ Ok (at (mode.Quoted q) p (g ++ (16 * h + l) ∷ []) k d c)
unfolding step escape_number
low_step q x h l p g k d c v small = rw (v, small) refl

-- a byte by its digits
number_run : (q : Quote) (b : ℕ) (p : Place) (g : List ℕ) (k : ℕ) (d : Ref) (c : Said) → b < 256
    → run (Ok (at (mode.Quoted q) p g k d c)) (92 ∷ 48 ∷ 120 ∷ byte_hex b)
    ≡ Ok (at (mode.Quoted q) p (g ++ b ∷ []) k d c)
number_run q b p g k d c small =
    let high : b / 16 < 16 = omega arith in
    let low : b % 16 < 16 = omega arith in
    let first : 16 * 0 + b / 16 ≡ b / 16 = omega arith in
    let begun : 16 * 0 + b / 16 ≤ 255 = omega arith in
    let whole : 16 * (b / 16) + b % 16 ≡ b = omega arith in
    let fits : 16 * (b / 16) + b % 16 ≤ 255 = omega arith in
    let s = at (mode.Quoted q) p g k d c in
    let t = at (mode.EscapeNumber q radix.Hexadecimal 2 0) p g k d c in
    let u = at (mode.EscapeNumber q radix.Hexadecimal 1 (b / 16)) p g k d c in
    after s t _ (92 ∷ 48 ∷ 120 ∷ []) (byte_hex b) (number_opens q p g k d c)
    (after t u _ (upper_digit (b / 16) ∷ []) (upper_digit (b % 16) ∷ [])
    (high_step q (upper_digit (b / 16)) (b / 16) p g k d c (digit_read _ high) (le-ltb 255 _ begun)
    ∙ ap (λ n. Ok (at (mode.EscapeNumber q radix.Hexadecimal 1 n) p g k d c)) first)
    (low_step q (upper_digit (b % 16)) (b / 16) (b % 16) p g k d c (digit_read _ low) (le-ltb 255 _ fits)
    ∙ ap (λ n. Ok (at (mode.Quoted q) p (g ++ n ∷ []) k d c)) whole))

standing_no_end : (lettering : Lettering) (b : ℕ) → b < 256 → stands lettering b ≡ true → ends_line b ≡ false
standing_no_end lettering b small h = sym (ap (λ v. v && ends_line b) h) ∙ both lettering
  where
    both : (lettering : Lettering) → (stands lettering b && ends_line b) ≡ false
    both (Plain set) = agree_below_at (λ n. stands (Plain set) n && ends_line n) (λ _. false) 256 b refl small
    both Roman = agree_below_at (λ n. stands Roman n && ends_line n) (λ _. false) 256 b refl small

-- any byte
escaped_run : (lettering : Lettering) (q : Quote) (b : ℕ) (p : Place) (g : List ℕ) (k : ℕ) (d : Ref) (c : Said) → b < 256
    → run (Ok (at (mode.Quoted q) p g k d c)) (escaped lettering (quote_byte q) b)
    ≡ Ok (at (mode.Quoted q) p (g ++ b ∷ []) k d c)
escaped_run lettering q b p g k d c small =
    let s = at (mode.Quoted q) p g k d c in
    let t : ℕ → State = λ n. at (mode.Quoted q) p (g ++ n ∷ []) k d c in
    let by_print : (v : Bool) → stands lettering b ≡ v → (b == quote_byte q) ≡ false → (b == 92) ≡ false
    → run (Ok s) (cond v (b ∷ []) (92 ∷ 48 ∷ 120 ∷ byte_hex b)) ≡ Ok (t b) =
    λ v. elim v as (λ w. stands lettering b ≡ w → (b == quote_byte q) ≡ false → (b == 92) ≡ false
    → run (Ok s) (cond w (b ∷ []) (92 ∷ 48 ∷ 120 ∷ byte_hex b)) ≡ Ok (t b)) [
      | true ↦ λ h e f. plain_step q b p g k d c e f (standing_no_end lettering b small h)
      | false ↦ λ h e f. number_run q b p g k d c small
    ] in
    let by_stroke : (v : Bool) → (b == 92) ≡ v → (b == quote_byte q) ≡ false
    → run (Ok s) (cond v (92 ∷ 92 ∷ []) (cond (stands lettering b) (b ∷ []) (92 ∷ 48 ∷ 120 ∷ byte_hex b))) ≡ Ok (t b) =
    λ v. elim v as (λ w. (b == 92) ≡ w → (b == quote_byte q) ≡ false
    → run (Ok s) (cond w (92 ∷ 92 ∷ []) (cond (stands lettering b) (b ∷ []) (92 ∷ 48 ∷ 120 ∷ byte_hex b))) ≡ Ok (t b)) [
      | true ↦ λ h e. stroke_run q p g k d c ∙ ap (λ n. Ok (t n)) (sym (eqb-true b 92 h))
      | false ↦ λ h e. by_print (stands lettering b) refl e h
    ] in
    let by_quote : (v : Bool) → (b == quote_byte q) ≡ v
    → run (Ok s) (cond v (92 ∷ b ∷ [])
    (cond (b == 92) (92 ∷ 92 ∷ []) (cond (stands lettering b) (b ∷ []) (92 ∷ 48 ∷ 120 ∷ byte_hex b)))) ≡ Ok (t b) =
    λ v. elim v as (λ w. (b == quote_byte q) ≡ w
    → run (Ok s) (cond w (92 ∷ b ∷ [])
    (cond (b == 92) (92 ∷ 92 ∷ []) (cond (stands lettering b) (b ∷ []) (92 ∷ 48 ∷ 120 ∷ byte_hex b)))) ≡ Ok (t b)) [
      | true ↦ λ h. subst (λ n. run (Ok s) (92 ∷ n ∷ []) ≡ Ok (t n)) (sym (eqb-true b (quote_byte q) h))
          (quote_run q p g k d c)
      | false ↦ λ h. by_stroke (b == 92) refl h
    ] in
    by_quote (b == quote_byte q) refl

pub escaped_all : (lettering : Lettering) (bytes : List ℕ) (q : Quote) (p : Place) (g : List ℕ) (k : ℕ) (d : Ref) (c : Said)
    → AreBytes bytes
    → run (Ok (at (mode.Quoted q) p g k d c)) (flat_map (escaped lettering (quote_byte q)) bytes)
    ≡ Ok (at (mode.Quoted q) p (g ++ bytes) k d c)
escaped_all lettering [] q p g k d c small = ap (λ l. Ok (at (mode.Quoted q) p l k d c)) (sym (append-nil g))
escaped_all lettering (b ∷ bytes) q p g k d c small =
    after (at (mode.Quoted q) p g k d c) (at (mode.Quoted q) p (g ++ b ∷ []) k d c) _ (escaped lettering (quote_byte q) b)
    (flat_map (escaped lettering (quote_byte q)) bytes) (escaped_run lettering q b p g k d c small.0)
    (escaped_all lettering bytes q p (g ++ b ∷ []) k d c small.1
    ∙ ap (λ l. Ok (at (mode.Quoted q) p l k d c)) (append_assoc g (b ∷ []) bytes))

-- a resource with another name
abbrev pub with_name : Ref → List ℕ → Ref
with_name d text = record { id = d.id; name = Some text; attrs = d.attrs; datum = d.datum }

name_opens : (k : ℕ) (d : Ref) (c : Said)
    → run (Ok (at mode.Between place.NameOrAttribute [] k d c)) (34 ∷ [])
    ≡ Ok (at (mode.Quoted quotes.Double) place.NameOrAttribute [] k d c)
unfolding step between
name_opens k d c = refl

name_closes : (g : List ℕ) (k : ℕ) (d : Ref) (c : Said) → nat_lt 255 (length g) ≡ false
    → run (Ok (at (mode.Quoted quotes.Double) place.NameOrAttribute g k d c)) (34 ∷ [])
    ≡ Ok (at mode.Between place.AfterArgument [] k (with_name d g) c)
unfolding step quoted string
name_closes g k d c e = rw e refl

pub name_run : (lettering : Lettering) (text : List ℕ) (k : ℕ) (d : Ref) (c : Said) → AreBytes text → length text ≤ 255
    → run (Ok (at mode.Between place.NameOrAttribute [] k d c)) (in_quotes lettering 34 text)
    ≡ Ok (at mode.Between place.AfterArgument [] k (with_name d text) c)
name_run lettering text k d c small short =
    let s = at mode.Between place.NameOrAttribute [] k d c in
    let t = at (mode.Quoted quotes.Double) place.NameOrAttribute [] k d c in
    let u = at (mode.Quoted quotes.Double) place.NameOrAttribute text k d c in
    after s u _ (34 ∷ [] ++ flat_map (escaped lettering 34) text) (34 ∷ [])
    (after s t _ (34 ∷ []) (flat_map (escaped lettering 34) text) (name_opens k d c)
    (escaped_all lettering text quotes.Double place.NameOrAttribute [] k d c small))
    (name_closes text k d c (le-ltb 255 (length text) short))

type_opens : (d : Ref) (c : Said)
    → run (Ok (at mode.Between place.Type [] 0 d c)) (39 ∷ []) ≡ Ok (at (mode.Quoted quotes.Single) place.Type [] 0 d c)
unfolding step between
type_opens d c = refl

type_closes : (g : List ℕ) (d : Ref) (c : Said) → (length g == 4) ≡ true
    → run (Ok (at (mode.Quoted quotes.Single) place.Type g 0 d c)) (39 ∷ [])
    ≡ Ok (at mode.Between place.Parenthesis [] (big_number 4 g) d c)
unfolding step quoted type_token
type_closes g d c e = rw e refl

pub type_run : (kind : ℕ) (d : Ref) (c : Said) → kind < 2 ^ 32
    → run (Ok (at mode.Between place.Type [] 0 d c)) (type_literal kind)
    ≡ Ok (at mode.Between place.Parenthesis [] kind d c)
unfolding type_literal
type_run kind d c small =
    let text = big_bytes 4 kind in
    let s = at mode.Between place.Type [] 0 d c in
    let t = at (mode.Quoted quotes.Single) place.Type [] 0 d c in
    let u = at (mode.Quoted quotes.Single) place.Type text 0 d c in
    after s u _ (39 ∷ [] ++ flat_map (escaped (Plain Ascii) 39) text) (39 ∷ [])
    (after s t _ (39 ∷ []) (flat_map (escaped (Plain Ascii) 39) text) (type_opens d c)
    (escaped_all (Plain Ascii) text quotes.Single place.Type [] 0 d c (search (rules, arith))))
    (type_closes text d c refl ∙ ap (λ n. Ok (at mode.Between place.Parenthesis [] n d c)) (kind_again kind small))
