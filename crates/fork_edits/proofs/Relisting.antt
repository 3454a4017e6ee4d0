-- The list of a content is read again.
use Rattle.fork_edits.proofs.Cited.{◌≡◌, ℕ, ◌+◌, ◌<◌, ◌≤◌, ◌^◌, Bool, true, false, cond, List, [], ◌∷◌, ◌++◌, length, decimal, replicate}
use Rattle.fork_edits.proofs.Cited.{Option, Some, None, Result, refl, sym, ◌∙◌, ap, arith, append_assoc, append-nil, take, drop, subst, ◌*◌}
use Rattle.fork_edits.proofs.Cited.{suc, FitsSigned, ℤ, pos, negsuc, ◌==◌, IfSome, unwrap_or, option_map, signed_decimal, w16}
use Rattle.fork_edits.proofs.Cited.{AllByRecursion, flat_map, list_all, slice_split, and_parts, eqb-true, each-append, big_bytes}
use Rattle.fork_edits.proofs.Cited.{big_number, Ascii, kind_again, LineFault, attrs_read, Entry, Listed, name_field, entry_line, attrs_line}
use Rattle.fork_edits.proofs.Cited.{area_line, listed_text, word, after_word, type_length, fields_after, entry_in, entry_of, entry_read}
use Rattle.fork_edits.proofs.Cited.{file_read, Draft, at_line, line_read, said, lines_read, no_draft, is_newline, with_entry, contents_read}
use Rattle.fork_edits.proofs.Cited.{id_read, quoted_read, hex_byte, char_text, type_text, name_text}
use Rattle.std.proofs.Common.{Ok}
use Rattle.fork_edits.specs.Listing.{name_read}
use Rattle.fork_edits.proofs.Decimals.{within_decimal, attrs_decimal, id_decimal}
use Rattle.fork_edits.proofs.Filing.{IsFile, four_bytes}
use Rattle.fork_edits.proofs.Naming.{digits-decimal}
use Rattle.fork_edits.proofs.Quoting.{IsByte, IsType, no_zero, four_is, hex_back, hex_graph, hex_length, name_back, name_print}
use Rattle.fork_edits.proofs.Wording.{IsPrint, IsGraph, printed, digits_graph, take_first, drop_first, word_is, after_is, word_all}
use Rattle.fork_edits.proofs.Wording.{after_all, line_first, no_return}

-- what a line can say of a resource
pub record IsEntry (e : Entry) : Type 0 where
  pub kind : e.kind < 2 ^ 32
  pub id : FitsSigned w16 e.id
  pub attrs : e.attrs < 256
  pub file : IsFile e.file
  pub short : IfSome e.name (λ name. length name ≤ 255)
  pub bytes : IfSome e.name (AllByRecursion IsByte)

-- the line of a resource up to its end
abbrev line_of : List ℕ → List ℕ → List ℕ → List ℕ → List ℕ
line_of ty id attrs last = ty ++ 32 ∷ (id ++ 32 ∷ (attrs ++ 32 ∷ last))

abbrev text_of : Entry → List ℕ
text_of e = line_of (type_text Ascii e.kind) (signed_decimal e.id) (decimal e.attrs) (e.file ++ name_field e.name)

regrouped : (ty id attrs file name : List ℕ)
    → ty ++ 32 ∷ [] ++ id ++ 32 ∷ [] ++ attrs ++ 32 ∷ [] ++ file ++ name ++ 10 ∷ [] ≡ line_of ty id attrs (file ++ name) ++ 10 ∷ []
regrouped ty id attrs file name = simp append_assoc

line_text : (e : Entry) (rest : List ℕ) → entry_line e ++ rest ≡ text_of e ++ 10 ∷ rest
line_text e rest =
    ap (λ l. l ++ rest) (regrouped (type_text Ascii e.kind) (signed_decimal e.id) (decimal e.attrs) e.file (name_field e.name))
    ∙ append_assoc (text_of e) (10 ∷ []) rest

-- the last parts of a line
pub record IsLast (last file : List ℕ) (name : Option (List ℕ)) : Type 0 where
  pub filed : file_read (word last) ≡ Some file
  pub named : name_read (after_word last) ≡ Some name
  pub print : AllByRecursion IsPrint last

quoted_named : (text : List ℕ) (o : Option (List ℕ)) → quoted_read (34 ∷ text) ≡ o → name_read (34 ∷ text) ≡ option_map Some o
quoted_named text o e = rw (no_zero (length text)) (ap (option_map Some) e)

last_is : (file : List ℕ) (name : Option (List ℕ)) → IsFile file → IfSome name (λ n. length n ≤ 255) → IfSome name (AllByRecursion IsByte)
    → IsLast (file ++ name_field name) file name
last_is file None h short bytes = subst (λ l. IsLast l file None) (sym (append-nil file)) (record {
  filed = ap file_read (word_all file h.graph) ∙ h.read;
  named = ap name_read (after_all file h.graph);
  print = printed file h.graph;
})
last_is file (Some name) h short bytes = record {
  filed = ap file_read (word_is file (name_text Ascii (Some name)) h.graph) ∙ h.read;
  named = ap name_read (after_is file (name_text Ascii (Some name)) h.graph)
      ∙ quoted_named (flat_map (char_text Ascii) name ++ 34 ∷ []) (Some name) (name_back name bytes short);
  print = each-append IsPrint file (32 ∷ name_text Ascii (Some name)) (printed file h.graph)
      ((omega arith, omega arith), name_print name bytes);
}

-- a line is read
line_read_again : (ty four id attrs last file : List ℕ) (name : Option (List ℕ)) (z : ℤ) (n : ℕ) → IsType ty four
    → AllByRecursion IsGraph id → id_read id ≡ Some z → AllByRecursion IsGraph attrs → attrs_read attrs ≡ Some n → IsLast last file name
    → entry_read (line_of ty id attrs last) ≡ Ok (record { kind = big_number 4 four; id = z; attrs = n; file = file; name = name })
line_read_again ty four id attrs last file name z n h i d a r l =
    let rest : List ℕ = id ++ 32 ∷ (attrs ++ 32 ∷ last) in
    let first : take (type_length (ty ++ 32 ∷ rest)) (ty ++ 32 ∷ rest) ≡ ty =
    ap (λ (k : ℕ). take k (ty ++ 32 ∷ rest)) (h.long rest) ∙ take_first ty (32 ∷ rest) in
    let after : drop (type_length (ty ++ 32 ∷ rest) + 1) (ty ++ 32 ∷ rest) ≡ rest =
    ap (λ (k : ℕ). drop (k + 1) (ty ++ 32 ∷ rest)) (h.long rest) ∙ drop_first ty rest 32 in
    let second : after_word rest ≡ attrs ++ 32 ∷ last = after_is id (attrs ++ 32 ∷ last) i in
    let third : after_word (after_word rest) ≡ last = ap after_word second ∙ after_is attrs last a in
    let ids : id_read (word rest) ≡ Some z = ap id_read (word_is id (attrs ++ 32 ∷ last) i) ∙ d in
    let bits : attrs_read (word (after_word rest)) ≡ Some n = ap (λ l. attrs_read (word l)) second
    ∙ ap attrs_read (word_is attrs last a) ∙ r in
    let named : file_read (word (after_word (after_word rest))) ≡ Some file = ap (λ l. file_read (word l)) third ∙ l.filed in
    let quoted : name_read (after_word (after_word (after_word rest))) ≡ Some name = ap (λ l. name_read (after_word l)) third ∙ l.named in
    ap (λ l. entry_in (fields_after l (drop (type_length (ty ++ 32 ∷ rest) + 1) (ty ++ 32 ∷ rest)))) first
    ∙ ap (λ l. entry_in (fields_after ty l)) after
    ∙ ap (λ o. entry_of o (id_read (word rest)) (attrs_read (word (after_word rest))) (file_read (word (after_word (after_word rest))))
    (name_read (after_word (after_word (after_word rest))))) h.read
    ∙ ap (λ o. entry_of (Some four) o (attrs_read (word (after_word rest))) (file_read (word (after_word (after_word rest))))
    (name_read (after_word (after_word (after_word rest))))) ids
    ∙ ap (λ o. entry_of (Some four) (Some z) o (file_read (word (after_word (after_word rest))))
    (name_read (after_word (after_word (after_word rest))))) bits
    ∙ ap (λ o. entry_of (Some four) (Some z) (Some n) o (name_read (after_word (after_word (after_word rest))))) named
    ∙ ap (λ o. entry_of (Some four) (Some z) (Some n) (Some file) o) quoted

type_is : (kind : ℕ) → IsType (type_text Ascii kind) (big_bytes 4 kind)
type_is kind = four_is _ _ _ _ (four_bytes kind)

decimal_graph : (n : ℕ) → n < 2 ^ 64 → AllByRecursion IsGraph (decimal n)
decimal_graph n small = digits_graph (decimal n) (digits-decimal n small)

signed_graph : (z : ℤ) → FitsSigned w16 z → AllByRecursion IsGraph (signed_decimal z)
signed_graph (pos n) fits =
    let within : n < 2 ^ 15 = fits.sfits in
    decimal_graph n (omega arith)
signed_graph (negsuc n) fits =
    let within : n < 2 ^ 15 = fits.sfits in
    ((omega arith, omega arith), decimal_graph (suc n) (omega arith))

entry_again : (e : Entry) → IsEntry e → entry_read (text_of e) ≡ Ok e
entry_again e h =
    let few = h.attrs in
    line_read_again (type_text Ascii e.kind) (big_bytes 4 e.kind) (signed_decimal e.id) (decimal e.attrs) (e.file ++ name_field e.name)
    e.file e.name e.id e.attrs (type_is e.kind) (signed_graph e.id h.id) (id_decimal e.id h.id)
    (decimal_graph e.attrs (omega arith)) (attrs_decimal e.attrs h.attrs) (last_is e.file e.name h.file h.short h.bytes)
    ∙ ap (λ (k : ℕ). Ok (entry_with k e)) (kind_again e.kind h.kind)
  where
    entry_with : ℕ → Entry → Entry
    entry_with k e = record { kind = k; id = e.id; attrs = e.attrs; file = e.file; name = e.name }

line_print : (ty id attrs last : List ℕ) → AllByRecursion IsPrint ty → AllByRecursion IsGraph id → AllByRecursion IsGraph attrs
    → AllByRecursion IsPrint last → AllByRecursion IsPrint (line_of ty id attrs last)
line_print ty id attrs last t i a l =
    let blank : IsPrint 32 = (omega arith, omega arith) in
    each-append IsPrint ty (32 ∷ (id ++ 32 ∷ (attrs ++ 32 ∷ last))) t (
      blank,
      each-append IsPrint id (32 ∷ (attrs ++ 32 ∷ last)) (printed id i)
          (blank, each-append IsPrint attrs (32 ∷ last) (printed attrs a) (blank, l)),
    )

entry_print : (e : Entry) → IsEntry e → AllByRecursion IsPrint (text_of e)
entry_print e h =
    let few = h.attrs in
    line_print (type_text Ascii e.kind) (signed_decimal e.id) (decimal e.attrs) (e.file ++ name_field e.name) (type_is e.kind).print
    (signed_graph e.id h.id) (decimal_graph e.attrs (omega arith)) (last_is e.file e.name h.file h.short h.bytes).print

-- a line that is read, before others
next_line : (n : ℕ) (d e : Draft) (line text : List ℕ) → AllByRecursion IsPrint line → line_read line d ≡ Ok e
    → lines_read n d (slice_split is_newline (line ++ 10 ∷ text)) ≡ lines_read (n + 1) e (slice_split is_newline text)
next_line n d e line text h read =
    let after : Draft → Result Listed (ℕ × LineFault) = λ f. lines_read (n + 1) f (slice_split is_newline text) in
    ap (lines_read n d) (line_first line text h) ∙ ap (λ l. at_line n (line_read l d) after) (no_return line h)
    ∙ ap (λ r. at_line n r after) read

-- what lines say of resources
abbrev draft : Option ℕ → Option (List ℕ) → List Entry → Draft
draft attrs area entries = record { attrs = attrs; area = area; entries = entries }

entries_again : (n : ℕ) (attrs : Option ℕ) (area : Option (List ℕ)) (front entries : List Entry) → AllByRecursion IsEntry entries
    → lines_read n (draft attrs area front) (slice_split is_newline (flat_map entry_line entries))
    ≡ Ok (said (draft attrs area (front ++ entries)))
entries_again n attrs area front [] h = ap (λ l. Ok (said (draft attrs area l))) (sym (append-nil front))
entries_again n attrs area front (e ∷ entries) h =
    let last : List ℕ = signed_decimal e.id ++ 32 ∷ (decimal e.attrs ++ 32 ∷ (e.file ++ name_field e.name)) in
    ap (λ l. lines_read n (draft attrs area front) (slice_split is_newline l)) (line_text e (flat_map entry_line entries))
    ∙ next_line n (draft attrs area front) (draft attrs area (front ++ e ∷ [])) (text_of e) (flat_map entry_line entries)
    (entry_print e h.0) ((type_is e.kind).taken (32 ∷ last) (draft attrs area front)
    ∙ ap (λ r. with_entry r (draft attrs area front)) (entry_again e h.0))
    ∙ entries_again (n + 1) attrs area (front ++ e ∷ []) entries h.1
    ∙ ap (λ l. Ok (said (draft attrs area l))) (append_assoc front (e ∷ []) entries)

-- the line of the map's attributes
map_read : (n : ℕ) → n < 65536 → line_read (109 ∷ 97 ∷ 112 ∷ 32 ∷ decimal n) no_draft ≡ Ok (draft (Some n) None [])
map_read n small = rw (no_zero (length (97 ∷ 112 ∷ 32 ∷ decimal n)), within_decimal 65535 n (omega arith) (omega arith)) refl

attrs_again : (n : ℕ) (text : List ℕ) (total : Result Listed (ℕ × LineFault)) → n < 65536
    → ((k : ℕ) (o : Option ℕ) → unwrap_or o 0 ≡ n → lines_read k (draft o None []) (slice_split is_newline text) ≡ total)
    → lines_read 1 no_draft (slice_split is_newline (attrs_line n ++ text)) ≡ total
attrs_again n text total small more = by_test (n == 0) refl
  where
    printed_line : AllByRecursion IsPrint (109 ∷ 97 ∷ 112 ∷ 32 ∷ decimal n)
    printed_line = (
      (omega arith, omega arith),
      (
        (omega arith, omega arith),
        (
          (omega arith, omega arith),
          (
            (omega arith, omega arith),
            printed (decimal n) (decimal_graph n (omega arith)),
          ),
        ),
      ),
    )

    by_test : (t : Bool) → (n == 0) ≡ t
        → lines_read 1 no_draft (slice_split is_newline (cond t [] (109 ∷ 97 ∷ 112 ∷ 32 ∷ (decimal n ++ 10 ∷ [])) ++ text)) ≡ total
    by_test true h = more 1 None (sym (eqb-true n 0 h))
    by_test false h =
        ap (λ l. lines_read 1 no_draft (slice_split is_newline (109 ∷ 97 ∷ 112 ∷ 32 ∷ l))) (append_assoc (decimal n) (10 ∷ []) text)
        ∙ next_line 1 no_draft (draft (Some n) None []) (109 ∷ 97 ∷ 112 ∷ 32 ∷ decimal n) text printed_line (map_read n small)
        ∙ more 2 (Some n) refl

-- the line of the bytes after the header
area_line_read : (o : Option ℕ) (area : List ℕ) → length area ≡ 240 → AllByRecursion IsByte area
    → line_read (97 ∷ 114 ∷ 101 ∷ 97 ∷ 32 ∷ flat_map hex_byte area) (draft o None []) ≡ Ok (draft o (Some area) [])
area_line_read o area size h =
    let long : length (flat_map hex_byte area) ≡ 480 = hex_length area ∙ ap (λ (k : ℕ). 2 * k) size in
    rw (long, hex_back area h) refl

zeros : (bytes : List ℕ) → list_all (λ (b : ℕ). b == 0) bytes ≡ true → replicate (length bytes) 0 ≡ bytes
zeros [] h = refl
zeros (b ∷ bytes) h =
    let each = and_parts (b == 0) (list_all (λ (c : ℕ). c == 0) bytes) h in
    let none : b ≡ 0 = eqb-true b 0 each.0 in
    ap (λ l. 0 ∷ l) (zeros bytes each.1) ∙ ap (λ (k : ℕ). k ∷ bytes) (sym none)

area_again : (n : ℕ) (o : Option ℕ) (area text : List ℕ) (total : Result Listed (ℕ × LineFault)) → length area ≡ 240
    → AllByRecursion IsByte area
    → ((k : ℕ) (p : Option (List ℕ)) → unwrap_or p (replicate 240 0) ≡ area
    → lines_read k (draft o p []) (slice_split is_newline text) ≡ total)
    → lines_read n (draft o None []) (slice_split is_newline (area_line area ++ text)) ≡ total
area_again n o area text total size h more = by_test (list_all (λ (b : ℕ). b == 0) area) refl
  where
    printed_line : AllByRecursion IsPrint (97 ∷ 114 ∷ 101 ∷ 97 ∷ 32 ∷ flat_map hex_byte area)
    printed_line = (
      (omega arith, omega arith),
      (
        (omega arith, omega arith),
        (
          (omega arith, omega arith),
          (
            (omega arith, omega arith),
            ((omega arith, omega arith), printed (flat_map hex_byte area) (hex_graph area h)),
          ),
        ),
      ),
    )

    by_test : (t : Bool) → list_all (λ (b : ℕ). b == 0) area ≡ t
        → lines_read n (draft o None []) (slice_split is_newline
        (cond t [] (97 ∷ 114 ∷ 101 ∷ 97 ∷ 32 ∷ (flat_map hex_byte area ++ 10 ∷ [])) ++ text)) ≡ total
    by_test true e = more n None (ap (λ (k : ℕ). replicate k 0) (sym size) ∙ zeros area e)
    by_test false e =
        ap (λ l. lines_read n (draft o None []) (slice_split is_newline (97 ∷ 114 ∷ 101 ∷ 97 ∷ 32 ∷ l)))
        (append_assoc (flat_map hex_byte area) (10 ∷ []) text)
        ∙ next_line n (draft o None []) (draft o (Some area) []) (97 ∷ 114 ∷ 101 ∷ 97 ∷ 32 ∷ flat_map hex_byte area) text printed_line
        (area_line_read o area size h)
        ∙ more (n + 1) (Some area) refl

abbrev listed_as : ℕ → List ℕ → List Entry → Listed
listed_as attrs area entries = record { attrs = attrs; area = area; entries = entries }

-- a list is read again
pub list_again : (l : Listed) → l.attrs < 65536 → length l.area ≡ 240 → AllByRecursion IsByte l.area → AllByRecursion IsEntry l.entries
    → contents_read (listed_text l) ≡ Ok l
list_again l few size bytes entries =
    ap contents_read (append_assoc (attrs_line l.attrs) (area_line l.area) (flat_map entry_line l.entries))
    ∙ attrs_again l.attrs (area_line l.area ++ flat_map entry_line l.entries) (Ok l) few (λ k o e.
    area_again k o l.area (flat_map entry_line l.entries) (Ok l) size bytes (λ m p f.
    entries_again m o p [] l.entries entries
    ∙ ap (λ (a : ℕ). Ok (listed_as a (unwrap_or p (replicate 240 0)) l.entries)) e
    ∙ ap (λ (b : List ℕ). Ok (listed_as l.attrs b l.entries)) f))
