-- Fields and resources that are read are written again.
use Rattle.rez_types.proofs.Cited.{◌≡◌, ℕ, zero, suc, ◌+◌, ◌*◌, ◌≤◌, ◌%◌, ◌==◌, Option, Some, true, List, [], ◌∷◌, ◌++◌, length, nat_le}
use Rattle.rez_types.proofs.Cited.{refl, sym, ap, subst, ◌∙◌, arith, append_assoc, slice_get, list_all, position, append-nil}
use Rattle.rez_types.proofs.Cited.{nil_from_length, eqb-true, leb-true, and_parts, Boundary, KeyPlace, Case, Field, Run, Fill, Align, Text}
use Rattle.rez_types.proofs.Cited.{Point, Rect, Array, Switch, Declaration, Value, ◌>>=◌, given, Decoding, put, multiple, padding, key_in}
use Rattle.rez_types.proofs.Cited.{has_key, decoded_switch, decoded_field, decoded_fields, with_counts, decoded_alone, decoded, unread}
use Rattle.rez_types.proofs.Cited.{values_of_datum, Encoding, next_value, encoded_fill, encoded_switch, encoded_field, encoded_fields}
use Rattle.rez_types.proofs.Cited.{encoded_alone, encoded, unwritten, datum_of_values, AreBytes, bits_in, is_whole, has_whole_runs}
use Rattle.rez_types.specs.declared.declaration.Boundary.TheVariants as boundary
use Rattle.rez_types.specs.Values as value
use Rattle.rez_types.proofs.Undone.{Undone, writer, bound, some_is, given_is, putting, left_bytes, as_it_is, both, none}
use Rattle.rez_types.proofs.UndoneRuns.{run_undone, coordinates_undone}
use Rattle.rez_types.proofs.UndoneTexts.{fill_undone, text_undone}
use Rattle.rez_types.proofs.UndoneArrays.{BlockUndone, array_undone}

-- a case is written before its fields
case_on : (inner : ℕ → Encoding → Option Encoding) (cases : List Case) (place : ℕ) (c : Case) (values : List Value) (before counts : List ℕ)
    → slice_get cases place ≡ Some c
    → encoded_switch inner cases (writer (value.Case place ∷ values) before counts) ≡ inner c.block (writer values before counts)
unfolding encoded_switch next_value
case_on inner cases place c values before counts there = rw there refl

switch_undone : (read : ℕ → Decoding → Option Decoding) (step : ℕ → Encoding → Option Encoding)
    → ((block : ℕ) → BlockUndone (read block) (step block)) → (key : KeyPlace) (cases : List Case) (s t : Decoding) → AreBytes s.rest
    → decoded_switch read key cases s ≡ Some t → Undone (encoded_switch step cases) s t
unfolding decoded_switch
switch_undone read step inner key cases s t held h =
    let a = bound (key_in key s.rest)
    (λ (pattern : ℕ). position (has_key pattern) cases
    >>= λ (place : ℕ). slice_get cases place >>= λ (c : Case). put (value.Case place) s >>= λ (u : Decoding). read c.block u) t h in
    let b = bound (position (has_key a.0) cases)
    (λ (place : ℕ). slice_get cases place >>= λ (c : Case). put (value.Case place) s >>= λ (u : Decoding). read c.block u) t a.2 in
    let place = b.0 in
    let d = bound (slice_get cases place) (λ (c : Case). put (value.Case place) s >>= λ (u : Decoding). read c.block u) t b.2 in
    let c = d.0 in
    let f = bound (put (value.Case place) s) (λ (u : Decoding). read c.block u) t d.2 in
    let u = f.0 in
    let e = putting (value.Case place) s u f.1 in
    let one = (inner c.block).undone u t (subst AreBytes e.0 held) f.2 in
    record {
      here = one.here;
      said = value.Case place ∷ one.said;
      rest = e.0 ∙ one.rest;
      values = one.values ∙ ap (λ (xs : List Value). xs ++ one.said) e.2 ∙ append_assoc s.values (value.Case place ∷ []) one.said;
      at = λ before at. one.at before (at ∙ e.1);
      written = λ before after at room.
          case_on step cases place c (one.said ++ after) before s.counts d.1
          ∙ ap (λ (counts : List ℕ). step c.block (writer (one.said ++ after) before counts)) (sym e.3)
          ∙ one.written before after (at ∙ e.1) room;
    }

-- an alignment, by the place to which so many bytes lead
same_padding : (to : Boundary) (at place : ℕ) → place % 4 ≡ at → padding (multiple to) place ≡ padding (multiple to) at
same_padding boundary.Word at place h = omega arith
same_padding boundary.Long at place h = omega arith

align_undone : (inner : ℕ → Encoding → Option Encoding) (to : Boundary) (s t : Decoding)
    → Undone (encoded_fill (padding (multiple to) s.at)) s t
    → Undone (encoded_field inner (Align to)) s t
align_undone inner to s t u = record {
  here = u.here;
  said = u.said;
  rest = u.rest;
  values = u.values;
  at = u.at;
  written = λ before after at room.
      ap (λ (n : ℕ). encoded_fill n (writer (u.said ++ after) before s.counts)) (same_padding to s.at (length before) at)
      ∙ u.written before after at room;
}

field_undone : (read : ℕ → Decoding → Option Decoding) (step : ℕ → Encoding → Option Encoding)
    → ((block : ℕ) → BlockUndone (read block) (step block)) → (f : Field) (s t : Decoding) → is_whole f ≡ true → AreBytes s.rest
    → decoded_field read f s ≡ Some t → Undone (encoded_field step f) s t
field_undone read step inner (Run bytes parts) s t whole held h =
    let w = and_parts (nat_le bytes 4) (bits_in parts == 8 * bytes) whole in
    run_undone bytes parts s t (leb-true bytes 4 w.0) (eqb-true (bits_in parts) (8 * bytes) w.1) held h
field_undone read step inner (Fill bytes) s t whole held h = fill_undone bytes s t h
field_undone read step inner (Align to) s t whole held h = align_undone step to s t (fill_undone (padding (multiple to) s.at) s t h)
field_undone read step inner (Text end is_hex constants) s t whole held h = text_undone end s t held h
field_undone read step inner Point s t whole held h = coordinates_undone 2 s t held h
field_undone read step inner Rect s t whole held h = coordinates_undone 4 s t held h
field_undone read step inner (Array name end block) s t whole held h = array_undone (read block) (step block) end (inner block) s t held h
field_undone read step inner (Switch key cases) s t whole held h = switch_undone read step inner key cases s t held h

fields_undone : (read : ℕ → Decoding → Option Decoding) (step : ℕ → Encoding → Option Encoding)
    → ((block : ℕ) → BlockUndone (read block) (step block)) → (fields : List Field) (s t : Decoding) → list_all is_whole fields ≡ true
    → AreBytes s.rest
    → decoded_fields read fields s ≡ Some t → Undone (encoded_fields step fields) s t
fields_undone read step inner [] s t whole held h = subst (λ (u : Decoding). Undone (λ e. Some e) s u) (some_is h) (none s)
fields_undone read step inner (f ∷ fields) s t whole held h =
    let w = and_parts (is_whole f) (list_all is_whole fields) whole in
    let a = bound (decoded_field read f s) (λ (u : Decoding). decoded_fields read fields u) t h in
    let first = field_undone read step inner f s a.0 w.0 held a.1 in
    both (encoded_field step f) (encoded_fields step fields) s a.0 t first
    (fields_undone read step inner fields a.0 t w.1 (left_bytes (encoded_field step f) s a.0 first held) a.2)

-- the fields of a block
alone_on : (inner : ℕ → Encoding → Option Encoding) (fields : List Field) (values after : List Value) (before here counts later : List ℕ)
    → encoded_fields inner fields (writer values before []) ≡ Some (writer after (before ++ here) later)
    → encoded_alone inner fields (writer values before counts) ≡ Some (writer after (before ++ here) counts)
alone_on inner fields values after before here counts later h = rw h refl

alone_undone : (read : ℕ → Decoding → Option Decoding) (step : ℕ → Encoding → Option Encoding)
    → ((block : ℕ) → BlockUndone (read block) (step block)) → (fields : List Field) → list_all is_whole fields ≡ true
    → BlockUndone (decoded_alone read fields) (encoded_alone step fields)
alone_undone read step inner fields whole = record {
  undone = λ s t held h.
      let a = bound (decoded_fields read fields (with_counts [] s)) (λ (u : Decoding). Some (with_counts s.counts u)) t h in
      let u = fields_undone read step inner fields (with_counts [] s) a.0 whole held a.1 in
      let same : with_counts s.counts a.0 ≡ t = some_is a.2 in
      record {
        here = u.here;
        said = u.said;
        rest = u.rest ∙ ap (λ (v : Decoding). u.here ++ v.rest) same;
        values = sym (ap (λ (v : Decoding). v.values) same) ∙ u.values;
        at = λ before at. u.at before at ∙ ap (λ (v : Decoding). v.at) same;
        written = λ before after at room.
            alone_on step fields (u.said ++ after) after before u.here s.counts a.0.counts (u.written before after at room)
            ∙ ap (λ (v : Decoding). Some (writer after (before ++ u.here) v.counts)) same;
      };
  counts = λ s t h.
      let a = bound (decoded_fields read fields (with_counts [] s)) (λ (u : Decoding). Some (with_counts s.counts u)) t h in
      sym (ap (λ (v : Decoding). v.counts) (some_is a.2));
}

-- a block of whole runs is one
found_whole : (blocks : List (List Field)) (block : ℕ) (fields : List Field)
    → list_all (λ (b : List Field). list_all is_whole b) blocks ≡ true
    → slice_get blocks block ≡ Some fields → list_all is_whole fields ≡ true
found_whole [] block fields whole there = absurd (cc)
found_whole (b ∷ blocks) zero fields whole there =
    subst (λ (f : List Field). list_all is_whole f ≡ true) (some_is there)
    (and_parts (list_all is_whole b) (list_all (λ (b : List Field). list_all is_whole b) blocks) whole).0
found_whole (b ∷ blocks) (suc block) fields whole there =
    found_whole blocks block fields
    (and_parts (list_all is_whole b) (list_all (λ (b : List Field). list_all is_whole b) blocks) whole).1 there

block_on : (depth : ℕ) (blocks : List (List Field)) (block : ℕ) (fields : List Field) (e : Encoding) → slice_get blocks block ≡ Some fields
    → encoded_alone (encoded depth blocks) fields e ≡ encoded (suc depth) blocks block e
block_on depth blocks block fields e there = rw there refl

block_undone : (depth : ℕ) (blocks : List (List Field)) → list_all (λ (b : List Field). list_all is_whole b) blocks ≡ true → (block : ℕ)
    → BlockUndone (decoded depth blocks block) (encoded depth blocks block)
block_undone zero blocks whole block = record { undone = λ s t held h. absurd (cc); counts = λ s t h. absurd (cc) }
block_undone (suc depth) blocks whole block = record {
  undone = λ s t held h.
      let a = bound (slice_get blocks block) (λ (fields : List Field). decoded_alone (decoded depth blocks) fields s) t h in
      let b = alone_undone (decoded depth blocks) (encoded depth blocks) (block_undone depth blocks whole) a.0
      (found_whole blocks block a.0 whole a.1) in
      as_it_is (encoded_alone (encoded depth blocks) a.0) (encoded (suc depth) blocks block) s t
      (λ e. block_on depth blocks block a.0 e a.1) (b.undone s t held a.2);
  counts = λ s t h.
      let a = bound (slice_get blocks block) (λ (fields : List Field). decoded_alone (decoded depth blocks) fields s) t h in
      let b = alone_undone (decoded depth blocks) (encoded depth blocks) (block_undone depth blocks whole) a.0
      (found_whole blocks block a.0 whole a.1) in
      b.counts s t a.2;
}

-- what is read of bytes is written as those bytes
pub datum_undone : (d : Declaration) (bytes : List ℕ) (values : List Value) → has_whole_runs d ≡ true → AreBytes bytes
    → length bytes ≤ 16777216 → values_of_datum d bytes ≡ Some values → datum_of_values d values ≡ Some bytes
unfolding values_of_datum datum_of_values
datum_undone d bytes values whole held few h =
    let w = and_parts (list_all is_whole d.fields) (list_all (λ (b : List Field). list_all is_whole b) d.blocks) whole in
    let a =
    bound (decoded_fields (decoded 8 d.blocks) d.fields (unread bytes)) (λ (s : Decoding). given (length s.rest == 0) s.values) values h in
    let t = a.0 in
    let g = given_is (length t.rest == 0) t.values values a.2 in
    let u = fields_undone (decoded 8 d.blocks) (encoded 8 d.blocks) (block_undone 8 d.blocks w.1) d.fields (unread bytes) t w.0 held a.1 in
    let end : t.rest ≡ [] = nil_from_length t.rest (eqb-true (length t.rest) 0 g.0) in
    let all : bytes ≡ u.here = u.rest ∙ ap (λ (xs : List ℕ). u.here ++ xs) end ∙ append-nil u.here in
    let said : u.said ++ [] ≡ values = append-nil u.said ∙ sym u.values ∙ g.1 in
    let room : 0 + length u.here ≤ 16777216 = omega (arith, ap length all) in
    let done : encoded_fields (encoded 8 d.blocks) d.fields (unwritten values) ≡ Some (writer [] bytes t.counts) =
    ap (λ (vs : List Value). encoded_fields (encoded 8 d.blocks) d.fields (unwritten vs)) (sym said)
    ∙ u.written [] [] refl room ∙ ap (λ (xs : List ℕ). Some (writer [] xs t.counts)) (sym all) in
    rw done refl
