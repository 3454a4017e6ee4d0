use Rattle.bin_hex.proofs.Cited.{◌≡◌, ℕ, ◌+◌, ◌<◌, List, ◌++◌, get_or, length, drop, ◌≤◌, refl, sym, ◌∙◌, ap, arith, append_assoc, Result}
use Rattle.bin_hex.proofs.Cited.{Ok, Err, append-nil, drop_all, drop_more, role_of, completed, held_after, bytes_after, sextets, read_from}
use Rattle.bin_hex.proofs.Cited.{with_first, Role, Damage, Held}
use Rattle.bin_hex.specs.declared.alphabet.Role.TheVariants as role
use Rattle.bin_hex.specs.declared.fault.Damage.TheVariants as damage

-- bytes that were read, and those of the groups that are read from here on, after bits that are held
abbrev pub after : List ℕ → Held → Result (List ℕ) Damage → Result (List ℕ) Damage
after out held (Ok groups) = Ok (out ++ bytes_after held groups)
after out held (Err damage) = Err damage

-- what is read from an offset on, the first byte apart
first_apart : (start at : ℕ) (text : List ℕ) → at < length text
    → sextets (start + at) (drop at text)
    ≡ read_from (role_of (get_or text at 0)) (start + at) (sextets (start + (at + 1)) (drop (at + 1) text))
first_apart start at text h =
    let e : start + at + 1 ≡ start + (at + 1) = omega arith in
    rw (drop_more text at 0 h) (ap (λ n. read_from (role_of (get_or text at 0)) (start + at) (sextets n (drop (at + 1) text))) e)

-- six bits more
one_more : (out : List ℕ) (held : Held) (sextet : ℕ) (rest : Result (List ℕ) Damage)
    → after out held (with_first sextet rest) ≡ after (out ++ completed held sextet) (held_after held sextet) rest
one_more out held sextet (Ok groups) = ap Ok (sym (append_assoc out (completed held sextet) _))
one_more out held sextet (Err damage) = refl

-- what comes of a byte, by what it is
by_role : (out : List ℕ) (held : Held) (start at : ℕ) (text : List ℕ) (what : Role) (all : Result (List ℕ) Damage)
    → at < length text → what ≡ role_of (get_or text at 0) → after out held (sextets (start + at) (drop at text)) ≡ all
    → after out held (read_from what (start + at) (sextets (start + (at + 1)) (drop (at + 1) text))) ≡ all
by_role out held start at text what all h is e =
    ap (λ w. after out held (read_from w (start + at) (sextets (start + (at + 1)) (drop (at + 1) text)))) is
    ∙ ap (after out held) (sym (first_apart start at text h)) ∙ e

pub ends : (out : List ℕ) (held : Held) (start at : ℕ) (text : List ℕ) (all : Result (List ℕ) Damage)
    → at < length text → role.Colon ≡ role_of (get_or text at 0)
    → after out held (sextets (start + at) (drop at text)) ≡ all → all ≡ Ok out
ends out held start at text all h is e =
    sym (by_role out held start at text role.Colon all h is e) ∙ ap Ok (append-nil out)

pub blank : (out : List ℕ) (held : Held) (start at : ℕ) (text : List ℕ) (all : Result (List ℕ) Damage)
    → at < length text → role.Blank ≡ role_of (get_or text at 0)
    → after out held (sextets (start + at) (drop at text)) ≡ all
    → after out held (sextets (start + (at + 1)) (drop (at + 1) text)) ≡ all
blank out held start at text all h is e = by_role out held start at text role.Blank all h is e

pub six_more : (out now : List ℕ) (held next : Held) (sextet start at : ℕ) (text : List ℕ) (all : Result (List ℕ) Damage)
    → at < length text → role.Sextet sextet ≡ role_of (get_or text at 0)
    → now ≡ out ++ completed held sextet → next ≡ held_after held sextet
    → after out held (sextets (start + at) (drop at text)) ≡ all
    → after now next (sextets (start + (at + 1)) (drop (at + 1) text)) ≡ all
six_more out now held next sextet start at text all h is put then e =
    ap (λ bytes. after bytes next (sextets (start + (at + 1)) (drop (at + 1) text))) put
    ∙ ap (λ bits. after (out ++ completed held sextet) bits (sextets (start + (at + 1)) (drop (at + 1) text))) then
    ∙ sym (one_more out held sextet (sextets (start + (at + 1)) (drop (at + 1) text)))
    ∙ by_role out held start at text (role.Sextet sextet) all h is e

pub foreign : (out : List ℕ) (held : Held) (start at : ℕ) (text : List ℕ) (all : Result (List ℕ) Damage)
    → at < length text → role.Foreign ≡ role_of (get_or text at 0)
    → after out held (sextets (start + at) (drop at text)) ≡ all → all ≡ Err (damage.Foreign (start + at))
foreign out held start at text all h is e = sym (by_role out held start at text role.Foreign all h is e)

pub no_end : (out : List ℕ) (held : Held) (start at : ℕ) (text : List ℕ) (all : Result (List ℕ) Damage)
    → length text ≤ at → after out held (sextets (start + at) (drop at text)) ≡ all → all ≡ Err damage.NoEnd
no_end out held start at text all h e = sym e ∙ ap (λ rest. after out held (sextets (start + at) rest)) (drop_all at text h)
