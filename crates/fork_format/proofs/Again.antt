use Rattle.fork_format.proofs.Cited.{◌≡◌, ℕ, ◌+◌, ◌<◌, ◌≤◌, ◌^◌, true, false, cond, List, [], ◌∷◌, ◌++◌, length, map, refl, ◌∙◌, ap, arith}
use Rattle.fork_format.proofs.Cited.{Option, Some, None, lit<, ◌⊎◌, inl, inr, ◌≢◌, ℤ, IfSome, FitsSigned, ◌==◌, flat_map, cast_signed}
use Rattle.fork_format.proofs.Cited.{cast_unsigned, w16, to_z-of_z, Fits-of_z, eqb_tells, big_bytes, big_number, Ref, number, part, offsets}
use Rattle.fork_format.proofs.Cited.{kept, data_start, name_list, name_place, name_at, datum_place, datum_at, ref_at, datum, name}
use Rattle.fork_format.proofs.Cited.{name_offset, name_or_none, reference, references, clear_ref}
use Rattle.fork_format.proofs.Standing.{StandsAt, stands_first, stands_second, stands_same, stands_drop}
use Rattle.fork_format.proofs.Standing.{number-stands, part-stands}

-- the parts of a resource have their sizes
pub record IsSized (r : Ref) : Type 0 where
  pub id : FitsSigned w16 r.id
  pub attrs : r.attrs < 256
  pub datum : length r.datum < 2 ^ 32

-- the parts of a reference, where they stand
pub record ReferenceStands (d n : ℕ) (r : Ref) (at : ℕ) (bytes : List ℕ) : Type 0 where
  pub id : StandsAt (big_bytes 2 (cast_unsigned w16 r.id)) at bytes
  pub name : StandsAt (big_bytes 2 (name_offset r.name n)) (at + 2) bytes
  pub attrs : StandsAt (big_bytes 1 r.attrs) (at + 4) bytes
  pub datum : StandsAt (big_bytes 3 d) (at + 5) bytes

pub reference_stands : (d n : ℕ) (r : Ref) (at : ℕ) (bytes : List ℕ) → StandsAt (reference d n r) at bytes
    → ReferenceStands d n r at bytes
reference_stands d n r at bytes s =
    let i : List ℕ = big_bytes 2 (cast_unsigned w16 r.id) in
    let m : List ℕ = big_bytes 2 (name_offset r.name n) in
    let a : List ℕ = big_bytes 1 r.attrs in
    let o : List ℕ = big_bytes 3 d in
    let s4 : StandsAt (i ++ m ++ a ++ o) at bytes = stands_first (i ++ m ++ a ++ o) (big_bytes 4 0) at bytes s in
    let s3 : StandsAt (i ++ m ++ a) at bytes = stands_first (i ++ m ++ a) o at bytes s4 in
    let s2 : StandsAt (i ++ m) at bytes = stands_first (i ++ m) a at bytes s3 in
    record {
      id = stands_first i m at bytes s2;
      name = stands_second i m at bytes s2;
      attrs = stands_second (i ++ m) a at bytes s3;
      datum = stands_second (i ++ m ++ a) o at bytes s4;
    }

-- an ID is read again
id_again : (z : ℤ) (at : ℕ) (bytes : List ℕ) → FitsSigned w16 z
    → StandsAt (big_bytes 2 (cast_unsigned w16 z)) at bytes → cast_signed w16 (number 2 at bytes) ≡ z
id_again z at bytes fits s =
    let small : cast_unsigned w16 z < 65536 = omega (arith, Fits-of_z {w = w16} fits) in
    ap (cast_signed w16) (number-stands 2 (cast_unsigned w16 z) at bytes small s) ∙ to_z-of_z w16 z fits

-- a datum is read again
datum_again : (r : Ref) (at : ℕ) (bytes : List ℕ) → length r.datum < 2 ^ 32 → StandsAt (datum r) at bytes
    → datum_at at bytes ≡ r.datum
datum_again r at bytes small s =
    let len : number 4 at bytes ≡ length r.datum = number-stands 4 (length r.datum) at bytes small
    (stands_first (big_bytes 4 (length r.datum)) r.datum at bytes s) in
    ap (λ k. part k (at + 4) bytes) len ∙ part-stands r.datum (at + 4) bytes
    (stands_second (big_bytes 4 (length r.datum)) r.datum at bytes s)

-- a name is read again
name_again : (text : List ℕ) (at : ℕ) (bytes : List ℕ) → StandsAt (length text ∷ text) at bytes
    → name_at (Some at) bytes ≡ Some text
name_again text at bytes s =
    let first : number 1 at bytes ≡ length text = ap (big_number 1) (stands_drop (length text ∷ text) at bytes s)
    ∙ omega arith in
    ap Some (ap (λ k. part k (at + 1) bytes) first ∙ part-stands text (at + 1) bytes
    (stands_second (length text ∷ []) text at bytes s))

name_or_none_again : (o : Option (List ℕ)) (n at : ℕ) (bytes : List ℕ) → IfSome o (λ text. n ≤ 65534)
    → StandsAt (name_or_none o) (name_list bytes + n) bytes
    → StandsAt (big_bytes 2 (name_offset o n)) (at + 2) bytes → name_at (name_place at bytes) bytes ≡ o
name_or_none_again None n at bytes fits s offset = rw (number-stands 2 65535 (at + 2) bytes (lit< tt) offset) refl
name_or_none_again (Some text) n at bytes fits s offset =
    rw (number-stands 2 n (at + 2) bytes (omega arith) offset) (cases (eqb_tells n 65535))
  where
    cases : ((n == 65535 ≡ true) × (n ≡ 65535)) ⊎ ((n == 65535 ≡ false) × (n ≢ 65535))
        → name_at (cond (n == 65535) None (Some (name_list bytes + n))) bytes ≡ Some text
    cases (inl h) = absurd (omega arith)
    cases (inr h) = rw h.0 (name_again text (name_list bytes + n) bytes s)

-- a reference is read again, as its parts stand
pub ref_again : (d n : ℕ) (r : Ref) (at : ℕ) (bytes : List ℕ) → IsSized r → d ≤ 16777215
    → IfSome r.name (λ text. n ≤ 65534) → StandsAt (reference d n r) at bytes
    → StandsAt (datum r) (data_start bytes + d) bytes → StandsAt (name r) (name_list bytes + n) bytes
    → ref_at bytes at ≡ clear_ref r
ref_again d n r at bytes sized low named s in_data in_names =
    let e : ReferenceStands d n r at bytes = reference_stands d n r at bytes s in
    let i : cast_signed w16 (number 2 at bytes) ≡ r.id = id_again r.id at bytes sized.id e.id in
    let m : name_at (name_place at bytes) bytes ≡ r.name = name_or_none_again r.name n at bytes named in_names e.name in
    let a : kept (number 1 (at + 4) bytes) ≡ kept r.attrs =
    ap kept (number-stands 1 r.attrs (at + 4) bytes sized.attrs e.attrs) in
    let o : number 3 (at + 5) bytes ≡ d = number-stands 3 d (at + 5) bytes (omega arith) e.datum in
    let b : datum_at (datum_place at bytes) bytes ≡ r.datum =
    ap (λ k. datum_at (data_start bytes + k) bytes) o ∙ datum_again r (data_start bytes + d) bytes sized.datum
    in_data in
    same i m a b
  where
    same : {i i' : ℤ} {m m' : Option (List ℕ)} {a a' : ℕ} {b b' : List ℕ} → i ≡ i' → m ≡ m' → a ≡ a' → b ≡ b'
        → (let x : Ref = record { id = i; name = m; attrs = a; datum = b } in
        x) ≡ record { id = i'; name = m'; attrs = a'; datum = b' }
    same p q s t = cc

-- resources with their sizes, whose data and names begin low enough
abbrev pub AreLow : ℕ → ℕ → List Ref → Type 0
AreLow d n [] = Unit {0}
AreLow d n (r ∷ refs) = IsSized r × (d ≤ 16777215) × IfSome r.name (λ text. n ≤ 65534)
    × AreLow (d + length (datum r)) (n + length (name r)) refs

-- references are read again, as their parts stand
pub refs_again : (refs : List Ref) (d n at : ℕ) (bytes : List ℕ) → AreLow d n refs
    → StandsAt (references d n refs) at bytes
    → StandsAt (flat_map datum refs) (data_start bytes + d) bytes
    → StandsAt (flat_map name refs) (name_list bytes + n) bytes
    → map (ref_at bytes) (offsets at 12 (length refs)) ≡ map clear_ref refs
refs_again [] d n at bytes low s in_data in_names = refl
refs_again (r ∷ refs) d n at bytes low s in_data in_names =
    let e : List ℕ = reference d n r in
    let es : List ℕ = references (d + length (datum r)) (n + length (name r)) refs in
    let one : ref_at bytes at ≡ clear_ref r =
    ref_again d n r at bytes low.0 low.1 low.2 (stands_first e es at bytes s)
    (stands_first (datum r) (flat_map datum refs) (data_start bytes + d) bytes in_data)
    (stands_first (name r) (flat_map name refs) (name_list bytes + n) bytes in_names) in
    let others : map (ref_at bytes) (offsets (at + 12) 12 (length refs)) ≡ map clear_ref refs =
    refs_again refs (d + length (datum r)) (n + length (name r)) (at + 12) bytes low.3 (stands_second e es at bytes s)
    (stands_same (flat_map datum refs) _ _ bytes (omega arith)
    (stands_second (datum r) (flat_map datum refs) (data_start bytes + d) bytes in_data))
    (stands_same (flat_map name refs) _ _ bytes (omega arith)
    (stands_second (name r) (flat_map name refs) (name_list bytes + n) bytes in_names)) in
    cc
