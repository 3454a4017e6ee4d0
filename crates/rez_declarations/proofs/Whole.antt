-- Sound declarations have whole runs.
use Rattle.rez_declarations.proofs.Cited.{◌≡◌, ℕ, ◌+◌, ◌*◌, Bool, true, false, not, ◌||◌, nat_lt, None, Result, Ok, Err, List, [], ◌∷◌}
use Rattle.rez_declarations.proofs.Cited.{◌++◌, refl, arith, list_all, Unsound, Shape, Part, Field, Run, Declaration, width_of, bits_in}
use Rattle.rez_declarations.proofs.Cited.{is_whole, has_whole_runs, unless, no_fields, is_run, parts_judged, run_judged, longer}
use Rattle.rez_declarations.proofs.Cited.{kind_judged, field_judged, fields_judged, each_counts, limits_judged, block_judged, shapes_of}
use Rattle.rez_declarations.proofs.Cited.{judged, fault_in, fault_of}
use Rattle.rez_declarations.specs.declared.unsound.Unsound.TheVariants as fault
use Rattle.rez_declarations.specs.Results.{◌>>=◌}

-- what both of two steps lead to
bound : {A B : Type 0} (r : Result A Unsound) (f : A → Result B Unsound) (y : B) → (r >>= f) ≡ Ok y → (x : A) × (r ≡ Ok x) × (f x ≡ Ok y)
bound (Ok x) f y h = (x, refl, h)
bound (Err e) f y h = absurd (cc)

-- a judgement without a fault
judged_is : {A : Type 0} (r : Result A Unsound) → fault_in r ≡ None → (x : A) × (r ≡ Ok x)
judged_is (Ok x) h = (x, refl)
judged_is (Err e) h = absurd (cc)

-- nothing is wrong
unless_is : {A : Type 0} (wrong : Bool) (e : Unsound) (x y : A) → unless wrong e x ≡ Ok y → wrong ≡ false
unless_is true e x y h = absurd (cc)
unless_is false e x y h = refl

-- the bits of a run are all
run_bits : (bits all : ℕ) (parts : List Part) → is_run bits all parts ≡ true → bits + bits_in parts ≡ all
run_bits bits all [] h = absurd (cc)
run_bits bits all (p ∷ []) h = grind arith
run_bits bits all (p ∷ q ∷ parts) h =
    let on : is_run (bits + width_of p) all (q ∷ parts) ≡ true = grind arith in
    let rest = run_bits (bits + width_of p) all (q ∷ parts) on in
    omega arith

-- a run that is judged to be sound
whole_run : (bytes : ℕ) (parts : List Part) (s t : Shape) → run_judged bytes parts s ≡ Ok t → is_whole (Run bytes parts) ≡ true
whole_run bytes parts s t h =
    let first = bound (unless (nat_lt 4 bytes || not (is_run 0 (8 * bytes) parts)) fault.PartialBytes s)
    (λ (u : Shape). parts_judged parts u >>= λ v. Ok (longer bytes v)) t h in
    let right = unless_is (nat_lt 4 bytes || not (is_run 0 (8 * bytes) parts)) fault.PartialBytes s first.0 first.1 in
    let short : nat_lt 4 bytes ≡ false = grind arith in
    let run : is_run 0 (8 * bytes) parts ≡ true = grind arith in
    let bits = run_bits 0 (8 * bytes) parts run in
    grind arith

whole_field : (blocks : List (List Field)) (shapes : List Shape) (f : Field) (rest : List Field) (s t : Shape)
    → field_judged blocks shapes f rest s ≡ Ok t → is_whole f ≡ true
whole_field blocks shapes (Run bytes parts) rest s t h =
    let kind = bound (unless s.is_open fault.NotLast s) (λ (u : Shape). kind_judged blocks shapes (Run bytes parts) rest u) t h in
    whole_run bytes parts kind.0 t kind.2
whole_field blocks shapes f rest s t h = refl

whole_fields : (blocks : List (List Field)) (shapes : List Shape) (fields : List Field) (s t : Shape)
    → fields_judged blocks shapes fields s ≡ Ok t → list_all is_whole fields ≡ true
whole_fields blocks shapes [] s t h = refl
whole_fields blocks shapes (f ∷ fields) s t h =
    let first = bound (field_judged blocks shapes f fields s) (λ (u : Shape). fields_judged blocks shapes fields u) t h in
    let here = whole_field blocks shapes f fields s first.0 first.1 in
    let rest = whole_fields blocks shapes fields first.0 t first.2 in
    grind arith

whole_block : (blocks : List (List Field)) (shapes : List Shape) (fields : List Field) (t : Shape)
    → block_judged blocks shapes fields ≡ Ok t → list_all is_whole fields ≡ true
unfolding block_judged
whole_block blocks shapes fields t h =
    let first = bound (fields_judged blocks shapes fields no_fields)
    (λ (u : Shape). unless (not (each_counts u.counts fields)) fault.CountWithoutArray u >>= λ v. limits_judged v) t h in
    whole_fields blocks shapes fields no_fields first.0 first.1

whole_blocks : (blocks rest : List (List Field)) (shapes all : List Shape) → shapes_of blocks rest shapes ≡ Ok all
    → list_all (λ (fields : List Field). list_all is_whole fields) rest ≡ true
whole_blocks blocks [] shapes all h = refl
whole_blocks blocks (fields ∷ rest) shapes all h =
    let first = bound (block_judged blocks shapes fields) (λ (s : Shape). shapes_of blocks rest (shapes ++ s ∷ [])) all h in
    let here = whole_block blocks shapes fields first.0 first.1 in
    let others = whole_blocks blocks rest (shapes ++ first.0 ∷ []) all first.2 in
    grind arith

-- the runs of a sound declaration are whole
pub sound_is_whole : (d : Declaration) → fault_of d ≡ None → has_whole_runs d ≡ true
unfolding judged
sound_is_whole d h =
    let all = judged_is (shapes_of d.blocks d.blocks [] >>= λ shapes. block_judged d.blocks shapes d.fields) h in
    let first = bound (shapes_of d.blocks d.blocks []) (λ (shapes : List Shape). block_judged d.blocks shapes d.fields) all.0 all.1 in
    let blocks = whole_blocks d.blocks d.blocks [] first.0 first.1 in
    let fields = whole_block d.blocks first.0 d.fields all.0 first.2 in
    grind arith
