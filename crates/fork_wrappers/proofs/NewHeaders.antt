use Rattle.fork_wrappers.proofs.Cited.{◌≡◌, ℕ, ◌+◌, ◌-◌, ◌<◌, ◌≤◌, ◌^◌, not, List, ◌++◌, length, take, drop, replicate, refl, sym, ◌∙◌, ap}
use Rattle.fork_wrappers.proofs.Cited.{subst, arith, length-append, Ok, nat_lt, eq-eqb, and_right, cond-false, le-ltb, length-take}
use Rattle.fork_wrappers.proofs.Cited.{length-drop, length-take-le, length-replicate, drop-append_seam, big_bytes, length-bytes_high_first}
use Rattle.fork_wrappers.proofs.Cited.{number, part, StandsAt, stands_whole, stands_first, stands_second, stands_same, stands_inside}
use Rattle.fork_wrappers.proofs.Cited.{number-stands, part-stands, padded, data_length, fork_length, least_version, data_place, fork_place}
use Rattle.fork_wrappers.proofs.Cited.{fork_behind, checked_fork, AreBytes, new_fields, new_checksum, new_front, with_padded, Wrapping}
use Rattle.fork_wrappers.proofs.Cited.{checksum, checksum-small}
use Rattle.fork_wrappers.specs.declared.wrapping.Wrapping.TheVariants as wrapping
use Rattle.fork_wrappers.proofs.Stretches.{part_stands_at, same_number, same_part, length-part}
use Rattle.fork_wrappers.proofs.HeldBytes.{fields_bytes}

-- MacBinary files with another fork.

-- the length of a header's first 124 bytes
length-fields : (file : List ℕ) (new : ℕ) → 128 ≤ length file → length (new_fields file new) ≡ 124
length-fields file new h =
    let a = length-append (take 87 file ++ big_bytes 4 new) (part 33 91 file) in
    let b = length-append (take 87 file) (big_bytes 4 new) in
    let c = length-take-le 87 file (omega arith) in
    let d = length-bytes_high_first 4 new in
    let e = length-part 33 91 file (omega arith) in
    omega (arith, a, b, c, d, e)

length-checksum : (how : Wrapping) (file fields : List ℕ) → 128 ≤ length file
    → length (new_checksum how file fields) ≡ 2
length-checksum wrapping.MacBinaryI file fields h = length-part 2 124 file (omega arith)
length-checksum wrapping.Plain file fields h = refl
length-checksum wrapping.AppleSingle file fields h = refl
length-checksum wrapping.AppleDouble file fields h = refl
length-checksum wrapping.MacBinaryII file fields h = refl
length-checksum wrapping.MacBinaryIII file fields h = refl

-- what comes before the fork is as long as it was, with the padding
length-front : (how : Wrapping) (file : List ℕ) (new : ℕ) → 128 ≤ length file
    → length (new_front how file new) ≡ fork_place file
length-front how file new h =
    let fields : List ℕ = new_fields file new in
    let sum : List ℕ = new_checksum how file fields in
    let middle : List ℕ = part (fork_place file - 126) 126 file in
    let zeros : List ℕ = replicate (fork_place file - length file) 0 in
    let a = length-append (fields ++ sum ++ middle) zeros in
    let b = length-append (fields ++ sum) middle in
    let c = length-append fields sum in
    let d = length-fields file new h in
    let e = length-checksum how file fields h in
    let f = length-take (fork_place file - 126) (drop 126 file) in
    let g = length-drop 126 file in
    let z = length-replicate {A = ℕ} (fork_place file - length file) 0 in
    omega (arith, a, b, c, d, e, f, g, z)

-- where the pieces stand in the new file
pub record Pieces (how : Wrapping) (file fork : List ℕ) : Type 0 where
  pub head : StandsAt (take 87 file) 0 (with_padded how file fork)
  pub told : StandsAt (big_bytes 4 (length fork)) 87 (with_padded how file fork)
  pub more : StandsAt (part 33 91 file) 91 (with_padded how file fork)
  pub fields : StandsAt (new_fields file (length fork)) 0 (with_padded how file fork)
  pub sum : StandsAt (new_checksum how file (new_fields file (length fork))) 124 (with_padded how file fork)
  pub middle : StandsAt (part (fork_place file - 126) 126 file) 126 (with_padded how file fork)
  pub own : StandsAt fork (fork_place file) (with_padded how file fork)
  pub rest : drop (fork_place file + padded (length fork)) (with_padded how file fork)
      ≡ drop (fork_place file + padded (fork_length file)) file

-- a length is no more than that length rounded up
padded-more : (n : ℕ) → n ≤ padded n
padded-more n = omega arith

pub pieces : (how : Wrapping) (file fork : List ℕ) → 128 ≤ length file → Pieces how file fork
pieces how file fork h =
    let new : List ℕ = with_padded how file fork in
    let n : ℕ = length fork in
    let front : List ℕ = new_front how file n in
    let fields : List ℕ = new_fields file n in
    let sum : List ℕ = new_checksum how file fields in
    let middle : List ℕ = part (fork_place file - 126) 126 file in
    let before : List ℕ = replicate (fork_place file - length file) 0 in
    let zeros : List ℕ = replicate (padded n - n) 0 in
    let rest : List ℕ = drop (fork_place file + padded (fork_length file)) file in
    let s0 = stands_whole new in
    let s1 = stands_first (front ++ fork ++ zeros) rest 0 new s0 in
    let s2 = stands_first (front ++ fork) zeros 0 new s1 in
    let s3 = stands_first front fork 0 new s2 in
    let s4 = stands_first (fields ++ sum ++ middle) before 0 new s3 in
    let s5 = stands_first (fields ++ sum) middle 0 new s4 in
    let s6 = stands_first fields sum 0 new s5 in
    let s7 = stands_first (take 87 file ++ big_bytes 4 n) (part 33 91 file) 0 new s6 in
    let l_head = length-take-le 87 file (omega arith) in
    let l_two = length-append (take 87 file) (big_bytes 4 n) in
    let l_told = length-bytes_high_first 4 n in
    let l_fields = length-fields file n h in
    let l_sum = length-checksum how file fields h in
    let l_both = length-append fields sum in
    let l_front = length-front how file n h in
    let l_fork = length-append front fork in
    let l_zeros = length-replicate {A = ℕ} (padded n - n) 0 in
    let l_padded = length-append (front ++ fork) zeros in
    let fits = padded-more n in
    record {
      head = stands_first (take 87 file) (big_bytes 4 n) 0 new s7;
      told = stands_same _ _ 87 new (omega (arith, l_head)) (stands_second (take 87 file) (big_bytes 4 n) 0 new s7);
      more = stands_same _ _ 91 new (omega (arith, l_head, l_two, l_told))
          (stands_second (take 87 file ++ big_bytes 4 n) (part 33 91 file) 0 new s6);
      fields = s6;
      sum = stands_same _ _ 124 new (omega (arith, l_fields)) (stands_second fields sum 0 new s5);
      middle = stands_same _ _ 126 new (omega (arith, l_fields, l_sum, l_both)) (stands_second (fields ++ sum) middle 0 new s4);
      own = stands_same _ _ (fork_place file) new (omega (arith, l_front)) (stands_second front fork 0 new s2);
      rest = ap (λ k. drop k new) (let is : fork_place file + padded n ≡ length (front ++ fork ++ zeros) =
          omega (arith, l_front, l_fork, l_zeros, l_padded, fits) in is) ∙ drop-append_seam (front ++ fork ++ zeros) rest;
    }

-- the head of a file that has one stands in it
head_stands : (file : List ℕ) → 128 ≤ length file → StandsAt (take 87 file) 0 file
head_stands file h = part_stands_at 87 0 file (omega arith)

-- what of the file stays as it was
pub header_kept : (how : Wrapping) (file fork : List ℕ) → 128 ≤ length file
    → take 87 (with_padded how file fork) ≡ take 87 file
header_kept how file fork h =
    let new : List ℕ = with_padded how file fork in
    let e = length-take-le 87 file (omega arith) in
    ap (λ n. take n new) (sym e) ∙ part-stands (take 87 file) 0 new (pieces how file fork h).head

pub fields_kept : (how : Wrapping) (file fork : List ℕ) → 128 ≤ length file
    → part 33 91 (with_padded how file fork) ≡ part 33 91 file
fields_kept how file fork h =
    let new : List ℕ = with_padded how file fork in
    let e = length-part 33 91 file (omega arith) in
    ap (λ n. part n 91 new) (sym e) ∙ part-stands (part 33 91 file) 91 new (pieces how file fork h).more

pub data_kept : (how : Wrapping) (file fork : List ℕ) → 128 ≤ length file → data_place file + data_length file ≤ length file
    → part (data_length file) (data_place file) (with_padded how file fork) ≡ part (data_length file) (data_place file) file
data_kept how file fork h fits =
    let new : List ℕ = with_padded how file fork in
    let middle : List ℕ = part (fork_place file - 126) 126 file in
    let i : ℕ = data_place file - 126 in
    let more = padded-more (data_length file) in
    let there : 126 + i ≡ data_place file = omega arith in
    let e = length-take (fork_place file - 126) (drop 126 file) in
    let f = length-drop 126 file in
    ap (λ k. part (data_length file) k new) (sym there)
    ∙ same_part (data_length file) middle 126 126 i file new (part_stands_at (fork_place file - 126) 126 file (omega arith))
    (pieces how file fork h).middle (omega (arith, e, f, fits, more))
    ∙ ap (λ k. part (data_length file) k file) there

-- numbers of the header that are as they were
pub data_told : (how : Wrapping) (file fork : List ℕ) → 128 ≤ length file
    → data_length (with_padded how file fork) ≡ data_length file
data_told how file fork h = same_number 4 (take 87 file) 0 0 83 file (with_padded how file fork) (head_stands file h)
    (pieces how file fork h).head (let e = length-take-le 87 file (omega arith) in omega (arith, e))

pub field_kept : (n at : ℕ) (how : Wrapping) (file fork : List ℕ) → 128 ≤ length file → at + n ≤ 33
    → number n (91 + at) (with_padded how file fork) ≡ number n (91 + at) file
field_kept n at how file fork h low = same_number n (part 33 91 file) 91 91 at file (with_padded how file fork)
    (part_stands_at 33 91 file (omega arith)) (pieces how file fork h).more
    (let e = length-part 33 91 file (omega arith) in omega (arith, e))

pub fork_told : (how : Wrapping) (file fork : List ℕ) → 128 ≤ length file → length fork < 2 ^ 32
    → fork_length (with_padded how file fork) ≡ length fork
fork_told how file fork h small =
    number-stands 4 (length fork) 87 (with_padded how file fork) (omega arith) (pieces how file fork h).told

-- the forks begin where they did
pub data_begins : (how : Wrapping) (file fork : List ℕ) → 128 ≤ length file
    → data_place (with_padded how file fork) ≡ data_place file
data_begins how file fork h = ap (λ n. 128 + padded n) (field_kept 2 29 how file fork h (omega arith))

pub fork_begins : (how : Wrapping) (file fork : List ℕ) → 128 ≤ length file
    → fork_place (with_padded how file fork) ≡ fork_place file
fork_begins how file fork h =
    let b = data_begins how file fork h in
    let d = ap padded (data_told how file fork h) in
    omega (arith, b, d)

-- the fork is found there
pub found_behind : (how : Wrapping) (file fork : List ℕ) → 128 ≤ length file → length fork < 2 ^ 32
    → fork_behind (with_padded how file fork) ≡ Ok fork
found_behind how file fork h small =
    let new : List ℕ = with_padded how file fork in
    let p = pieces how file fork h in
    let inside = stands_inside fork (fork_place file) new p.own in
    let told = fork_told how file fork h small in
    let length_is = data_told how file fork h in
    let data_is = data_begins how file fork h in
    let fork_is = fork_begins how file fork h in
    let more = padded-more (data_length file) in
    cond-false (nat_lt (length new) (data_place new + data_length new)) _ _
    (le-ltb (length new) (data_place new + data_length new) (omega (arith, inside, data_is, length_is, more)))
    ∙ cond-false _ _ _ (and_right (nat_lt 0 (fork_length new)) _
    (le-ltb (length new) (fork_place new + fork_length new) (omega (arith, inside, told, fork_is))))
    ∙ ap Ok (ap (λ n. part n (fork_place new) new) told ∙ ap (λ n. part (length fork) n new) fork_is
    ∙ part-stands fork (fork_place file) new p.own)

-- with the checksum of MacBinary II and III
pub found_checked : (how : Wrapping) (file fork : List ℕ) → 128 ≤ length file → length fork < 2 ^ 32 → AreBytes file
    → new_checksum how file (new_fields file (length fork)) ≡ big_bytes 2 (checksum (new_fields file (length fork)))
    → least_version file ≤ 130 → checked_fork (with_padded how file fork) ≡ Ok fork
found_checked how file fork h small bytes sum readable =
    let new : List ℕ = with_padded how file fork in
    let fields : List ℕ = new_fields file (length fork) in
    let p = pieces how file fork h in
    let low = checksum-small fields (fields_bytes file (length fork) bytes) in
    let told : number 2 124 new ≡ checksum fields =
    number-stands 2 (checksum fields) 124 new (omega (arith, low)) (subst (λ xs. StandsAt xs 124 new) sum p.sum) in
    let is : take 124 new ≡ fields =
    ap (λ n. take n new) (sym (length-fields file (length fork) h)) ∙ part-stands fields 0 new p.fields in
    let least = field_kept 1 32 how file fork h (omega arith) in
    cond-false _ _ _ (ap not (eq-eqb (number 2 124 new) (checksum (take 124 new)) (told ∙ ap checksum (sym is))))
    ∙ cond-false (nat_lt 130 (least_version new)) _ _ (le-ltb 130 (least_version new) (omega (arith, least, readable)))
    ∙ found_behind how file fork h small
