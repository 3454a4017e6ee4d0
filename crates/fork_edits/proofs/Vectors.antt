use Rattle.fork_edits.proofs.Cited.{◌≡◌, List, [], ◌∷◌, refl, Some, None, codes, replicate, ℤ, pos, Ok, Err, Ref, Content, type_read, Ascii}
use Rattle.fork_edits.proofs.Cited.{Utf8, type_text, name_text, attrs_read, row, found, Change, with_resource, without_resource, merged}
use Rattle.fork_edits.proofs.Cited.{twin, fixed_bytes, Renaming, with_renamed, refusal, NotFound, Taken, Removed, Changed, Added, Order}
use Rattle.fork_edits.proofs.Cited.{differences}
use Rattle.std.specs.Prelude.{true, false}

-- types as people write them
quoted : type_read (codes "'STR '") ≡ Some (codes "STR ")
quoted = refl

plain : type_read (codes "STR") ≡ Some (codes "STR ")
plain = refl

spelled : type_read (codes "$5354522a") ≡ Some (codes "STR*")
spelled = refl

five_bytes : type_read (codes "STR  ") ≡ None
five_bytes = refl

-- types and names as a person reads them
shown : type_text Ascii 0x53545220 ≡ codes "'STR '"
unfolding lib.Utf8.encode
shown = refl

shown_digits : type_text Utf8 0x53545200 ≡ codes "$53545200"
shown_digits = refl

a_quote : name_text Utf8 (Some (34 ∷ 7 ∷ [])) ≡ codes "\"\\\"\\0x07\""
a_quote = refl

no_name : name_text Ascii None ≡ codes "-"
no_name = refl

-- a bullet and what it stands beside, in both sets of characters
a_bullet : (name_text Ascii (Some (65 ∷ 0xA5 ∷ [])) ≡ codes "\"A\\0xA5\"")
    × (name_text Utf8 (Some (65 ∷ 0xA5 ∷ [])) ≡ 34 ∷ 65 ∷ 0xE2 ∷ 0x80 ∷ 0xA2 ∷ 34 ∷ [])
unfolding lib.Utf8.encode
a_bullet = (refl, refl)

-- a type with a florin, in both
a_florin : (type_text Ascii 0x414243C4 ≡ codes "$414243C4")
    × (type_text Utf8 0x414243C4 ≡ 39 ∷ 65 ∷ 66 ∷ 67 ∷ 0xC6 ∷ 0x92 ∷ 39 ∷ [])
unfolding lib.Utf8.encode
a_florin = (refl, refl)

-- attributes as people write them
in_words : attrs_read (codes "sysheap,locked") ≡ Some 80
in_words = refl

in_digits : attrs_read (codes "80") ≡ Some 80
in_digits = refl

in_hexadecimal : attrs_read (codes "$50") ≡ Some 80
in_hexadecimal = refl

too_great : attrs_read (codes "256") ≡ None
too_great = refl

-- zeros and a plus before other digits, and a plus alone
zeros_before : (attrs_read (codes "0032") ≡ Some 32) × (attrs_read (codes "+32") ≡ Some 32)
    × (attrs_read (codes "+0128") ≡ Some 128) × (attrs_read (codes "0256") ≡ None) × (attrs_read (codes "+") ≡ None)
zeros_before = (refl, refl, refl, refl, refl)

-- resources of the type 'STR ', whose number is 0x53545220
abbrev greeting : Ref
greeting = record { id = pos 128; name = Some (codes "Greeting"); attrs = 32; datum = 1 ∷ [] }

abbrev farewell : Ref
farewell = record { id = pos 129; name = None; attrs = 0; datum = 2 ∷ [] }

abbrev of : List Ref → Content
of refs = record { area = replicate 240 0; attrs = 0; groups = record { kind = 0x53545220; refs = refs } ∷ [] }

abbrev new_bytes : Change
new_bytes = record { datum = 3 ∷ []; name = None; attrs = None }

the_first : found 0x53545220 (pos 129) (of (greeting ∷ farewell ∷ [])) ≡ Some farewell
the_first = refl

-- a resource that is replaced keeps its place, its name and its attributes
replaced : with_resource 0x53545220 (pos 128) new_bytes (of (greeting ∷ farewell ∷ []))
    ≡ of (record greeting { datum = 3 ∷ [] } ∷ farewell ∷ [])
replaced = refl

-- a new one has no name, and attributes 0
new_one : with_resource 0x53545220 (pos 130) new_bytes (of (greeting ∷ []))
    ≡ of (greeting ∷ record { id = pos 130; name = None; attrs = 0; datum = 3 ∷ [] } ∷ [])
new_one = refl

-- differences
alike : differences (of (greeting ∷ farewell ∷ [])) (of (greeting ∷ farewell ∷ [])) ≡ []
alike = refl

order : differences (of (greeting ∷ farewell ∷ [])) (of (farewell ∷ greeting ∷ [])) ≡ Order ∷ []
order = refl

one_each : differences (of (greeting ∷ [])) (of (farewell ∷ []))
    ≡ Removed (row 0x53545220 greeting) ∷ Added (row 0x53545220 farewell) ∷ []
one_each = refl

attributes : differences (of (greeting ∷ [])) (of (record greeting { attrs = 0 } ∷ []))
    ≡ Changed 0x53545220 (pos 128) (record { name = false; attrs = true; datum = false }) ∷ []
attributes = refl

-- of two resources the first is taken out, and then the second with its type
abbrev both_strings : Content
both_strings =
    record { area = []; attrs = 0; groups = record { kind = 0x53545220; refs = greeting ∷ farewell ∷ [] } ∷ [] }

taken_out : (without_resource 0x53545220 (pos 128) both_strings).groups
    ≡ record { kind = 0x53545220; refs = farewell ∷ [] } ∷ []
taken_out = refl

with_its_type : (without_resource 0x53545220 (pos 129) (without_resource 0x53545220 (pos 128) both_strings)).groups ≡ []
with_its_type = refl

-- a resource gets another ID and no name, and keeps the rest; the ID of another is refused
abbrev to_id : ℤ → Renaming
to_id id = record { id = Some id; name = Some None; attrs = None }

moved : (with_renamed 0x53545220 (pos 128) (to_id (pos 130)) both_strings).groups ≡ record {
  kind = 0x53545220;
  refs = record { id = pos 130; name = None; attrs = 32; datum = 1 ∷ [] } ∷ farewell ∷ [];
} ∷ []
moved = refl

not_taken : (refusal 0x53545220 (pos 128) (to_id (pos 130)) both_strings ≡ None)
    × (refusal 0x53545220 (pos 128) (to_id (pos 128)) both_strings ≡ None)
not_taken = (refl, refl)

is_refused : (refusal 0x53545220 (pos 128) (to_id (pos 129)) both_strings ≡ Some Taken)
    × (refusal 0x53545220 (pos 131) (to_id (pos 132)) both_strings ≡ Some NotFound)
is_refused = (refl, refl)

-- two contents merged: a type and an ID that stand in both are refused, or the second's resource replaces the first's
abbrev other_greeting : Ref
other_greeting = record greeting { datum = 4 ∷ [] }

one_after_another : merged false (of (greeting ∷ [])) (of (farewell ∷ [])) ≡ Ok (of (greeting ∷ farewell ∷ []))
one_after_another = refl

in_both : merged false (of (farewell ∷ greeting ∷ [])) (of (other_greeting ∷ [])) ≡ Err (0x53545220, pos 128)
in_both = refl

in_its_place : merged true (of (greeting ∷ farewell ∷ [])) (of (other_greeting ∷ []))
    ≡ Ok (of (other_greeting ∷ farewell ∷ []))
in_its_place = refl

-- types in the names of files by type and ID
capitals : fixed_bytes false (codes "STR ") ≡ codes "STR_20"
capitals = refl

small_letters : fixed_bytes false (codes "icl8") ≡ codes "+icl8"
small_letters = refl

both_cases : fixed_bytes false (codes "DaTa") ≡ codes "D+a+T+a"
both_cases = refl

-- resources of one type and ID
of_one_id : twin (row 0x53545220 farewell ∷ row 0x53545220 greeting ∷ row 0x53545220 other_greeting ∷ [])
    ≡ Some (row 0x53545220 greeting)
of_one_id = refl
