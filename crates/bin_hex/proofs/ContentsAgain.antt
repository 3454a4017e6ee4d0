use Rattle.bin_hex.proofs.Cited.{◌≡◌, ℕ, ◌+◌, ◌-◌, ◌^◌, ◌<◌, ◌≤◌, Bool, true, false, not, ◌||◌, cond, List, [], ◌∷◌, ◌++◌, length, take}
use Rattle.bin_hex.proofs.Cited.{drop, refl, sym, ◌∙◌, ap, arith, rules, append_assoc, length-append, lit<, ◌==◌, nat_le, nat_lt, Result}
use Rattle.bin_hex.proofs.Cited.{Ok, Err, Some, None, drop-append-add, drop-append_seam, take-append_seam, and_parts, le-ltb, eq-eqb}
use Rattle.bin_hex.proofs.Cited.{ltb-false, leb-true, append-nil, bytes-append, big_bytes, big_number, big_number-reads_back, piece}
use Rattle.bin_hex.proofs.Cited.{checked, after_length, header_in, fork_in, file_in, file_of, field, name_length, named, fields, header}
use Rattle.bin_hex.proofs.Cited.{with_checksum, bytes_of, data_length, resource_length, ◌>>=◌, File, AreBytes, IsOfBytes, refusal}
use Rattle.bin_hex.proofs.Cited.{is_name_length, Damage, Part, checksum, checksum-small}
use Rattle.bin_hex.specs.declared.fault.Damage.TheVariants as damage
use Rattle.bin_hex.specs.declared.fault.Part.TheVariants as part
use Rattle.bin_hex.specs.declared.fault.WriteFault.TheVariants as fault

-- The bytes that stand for a file are read as that file.

-- a piece that is there
pub piece_again : (xs rest : List ℕ) (count : ℕ) → length xs ≡ count → piece count (xs ++ rest) ≡ Ok (xs, rest)
piece_again xs rest count size =
    ap (λ n. piece n (xs ++ rest)) (sym size)
    ∙ ap (λ t. cond t (Err damage.CutOff) (Ok (take (length xs) (xs ++ rest), drop (length xs) (xs ++ rest))))
    (le-ltb (length (xs ++ rest)) (length xs) (let e = length-append xs rest in omega (arith, e)))
    ∙ ap (λ front. Ok (front, drop (length xs) (xs ++ rest))) (take-append_seam xs rest)
    ∙ ap (λ back. Ok (xs, back)) (drop-append_seam xs rest)

-- a checksum that is right
checked_again : (what : Part) (xs rest : List ℕ) → AreBytes xs
    → checked what xs (big_bytes 2 (checksum xs) ++ rest) ≡ Ok (xs, rest)
checked_again what xs rest all =
    ap (λ read. read >>= λ (sum : List ℕ × List ℕ).
    cond (big_number 2 sum.0 == checksum xs) (Ok (xs, sum.1)) (Err (damage.WrongChecksum what)))
    (piece_again (big_bytes 2 (checksum xs)) rest 2 refl)
    ∙ ap (λ t. cond t (Ok (xs, rest)) (Err (damage.WrongChecksum what)))
    (eq-eqb (big_number 2 (big_bytes 2 (checksum xs))) (checksum xs)
    (ap (big_number 2) (sym (append-nil (big_bytes 2 (checksum xs))))
    ∙ big_number-reads_back 2 (checksum xs) [] (checksum-small xs all)))

fork_again : (what : Part) (xs rest : List ℕ) (count : ℕ) → length xs ≡ count → AreBytes xs
    → fork_in what count (with_checksum xs ++ rest) ≡ Ok (xs, rest)
unfolding fork_in
fork_again what xs rest count size all =
    ap (λ bytes. piece count bytes >>= λ (fork : List ℕ × List ℕ). checked what fork.0 fork.1)
    (append_assoc xs (big_bytes 2 (checksum xs)) rest)
    ∙ ap (λ read. read >>= λ (fork : List ℕ × List ℕ). checked what fork.0 fork.1)
    (piece_again xs (big_bytes 2 (checksum xs) ++ rest) count size)
    ∙ checked_again what xs rest all

-- what a header is made of
fields_length : (file : File) → length (fields file) ≡ 18
fields_length file = refl

rest_length : (file : File) → length ((file.name ++ 0 ∷ []) ++ fields file) ≡ length file.name + 19
rest_length file =
    length-append (file.name ++ 0 ∷ []) (fields file)
    ∙ (let e = length-append file.name (0 ∷ []) in omega (arith, e))

header_again : (file : File) (rest : List ℕ) → is_name_length (length file.name) ≡ true → AreBytes (header file)
    → header_in (with_checksum (header file) ++ rest) ≡ Ok (header file, rest)
unfolding header_in
header_again file rest right all =
    let name : List ℕ = file.name in
    let more : List ℕ = (name ++ 0 ∷ []) ++ fields file in
    let sum : List ℕ = big_bytes 2 (checksum (header file)) in
    ap (λ bytes. piece 1 bytes >>= λ (first : List ℕ × List ℕ).
    after_length (name_length first.0) first.1 >>= λ (rest : List ℕ × List ℕ).
    checked part.Header (first.0 ++ rest.0) rest.1) (append_assoc (header file) sum rest)
    ∙ ap (λ read. read >>= λ (first : List ℕ × List ℕ).
    after_length (name_length first.0) first.1 >>= λ (rest : List ℕ × List ℕ).
    checked part.Header (first.0 ++ rest.0) rest.1) (piece_again (length name ∷ []) (more ++ (sum ++ rest)) 1 refl)
    ∙ ap (λ t. cond t (piece (length name + 19) (more ++ (sum ++ rest))) (Err damage.NameLength)
    >>= λ (rest : List ℕ × List ℕ). checked part.Header (length name ∷ rest.0) rest.1) right
    ∙ ap (λ read. read >>= λ (rest : List ℕ × List ℕ). checked part.Header (length name ∷ rest.0) rest.1)
    (piece_again more (sum ++ rest) (length name + 19) (rest_length file))
    ∙ checked_again part.Header (header file) rest all

-- the fields of a header, from an offset within them on
from_field : (file : File) (offset k : ℕ) → offset ≡ 2 + k
    → drop (name_length (header file) + offset) (header file) ≡ drop k (fields file)
from_field file offset k at =
    ap (λ n. drop n (named file.name ++ fields file))
    (let e = length-append file.name (0 ∷ []) in
    let size : length file.name + offset ≡ length (named file.name) + k = omega (arith, e) in size)
    ∙ drop-append-add (named file.name) (fields file) k

kind_again : (file : File) → file.kind < 2 ^ 32 → field 4 2 (header file) ≡ file.kind
kind_again file h =
    ap (big_number 4) (from_field file 2 0 refl)
    ∙ big_number-reads_back 4 file.kind (drop 4 (fields file)) h

creator_again : (file : File) → file.creator < 2 ^ 32 → field 4 6 (header file) ≡ file.creator
creator_again file h =
    ap (big_number 4) (from_field file 6 4 refl)
    ∙ big_number-reads_back 4 file.creator (drop 8 (fields file)) h

flags_again : (file : File) → file.flags < 2 ^ 16 → field 2 10 (header file) ≡ file.flags
flags_again file h =
    ap (big_number 2) (from_field file 10 8 refl)
    ∙ big_number-reads_back 2 file.flags (drop 10 (fields file)) h

data_again : (file : File) → length file.data_fork < 2 ^ 32 → field 4 12 (header file) ≡ length file.data_fork
data_again file h =
    ap (big_number 4) (from_field file 12 10 refl)
    ∙ big_number-reads_back 4 (length file.data_fork) (drop 14 (fields file)) h

resource_again : (file : File) → length file.resource_fork < 2 ^ 32 → field 4 16 (header file) ≡ length file.resource_fork
resource_again file h =
    ap (big_number 4) (from_field file 16 14 refl)
    ∙ big_number-reads_back 4 (length file.resource_fork) [] h

name_again : (file : File) → take (length file.name) (drop 1 (header file)) ≡ file.name
name_again file =
    ap (take (length file.name)) (append_assoc file.name (0 ∷ []) (fields file))
    ∙ take-append_seam file.name ((0 ∷ []) ++ fields file)

-- what fits the format
pub record Writable (file : File) : Type 0 where
  pub name : is_name_length (length file.name) ≡ true
  pub data_fork : length file.data_fork < 2 ^ 32
  pub resource_fork : length file.resource_fork < 2 ^ 32

pub writable : (file : File) → refusal file ≡ None → Writable file
writable file none = judged (is_name_length (length file.name)) refl
  where
    short : (a b : Bool) → cond (a || b) (Some fault.TooLong) None ≡ None → (a ≡ false) × (b ≡ false)
    short false false h = (refl, refl)
    short false true h = cc
    short true b h = cc

    judged : (t : Bool) → is_name_length (length file.name) ≡ t → Writable file
    judged true e =
        let both = short (nat_lt 0xFFFFFFFF (length file.data_fork)) (nat_lt 0xFFFFFFFF (length file.resource_fork))
        (sym (ap (λ t. cond (not t) (Some fault.NameLength)
        (cond (nat_lt 0xFFFFFFFF (length file.data_fork) || nat_lt 0xFFFFFFFF (length file.resource_fork))
        (Some fault.TooLong) None)) e) ∙ none) in
        record {
          name = e;
          data_fork = let low = ltb-false 0xFFFFFFFF (length file.data_fork) both.0 in omega (arith, low);
          resource_fork = let low = ltb-false 0xFFFFFFFF (length file.resource_fork) both.1 in omega (arith, low);
        }
    judged false e =
        let bad : Some fault.NameLength ≡ None =
        sym (ap (λ t. cond (not t) (Some fault.NameLength)
        (cond (nat_lt 0xFFFFFFFF (length file.data_fork) || nat_lt 0xFFFFFFFF (length file.resource_fork))
        (Some fault.TooLong) None)) e) ∙ none in
        cc

-- a header is bytes
number_bytes : (number : ℕ) → AreBytes (big_bytes 4 number)
number_bytes number = search (rules, arith)

half_bytes : (number : ℕ) → AreBytes (big_bytes 2 number)
half_bytes number = search (rules, arith)

fields_bytes : (file : File) → AreBytes (fields file)
fields_bytes file =
    let kind = number_bytes file.kind in
    let creator = number_bytes file.creator in
    let flags = half_bytes file.flags in
    let data_size = number_bytes (length file.data_fork) in
    let resource_size = number_bytes (length file.resource_fork) in
    bytes-append (((big_bytes 4 file.kind ++ big_bytes 4 file.creator) ++ big_bytes 2 file.flags)
    ++ big_bytes 4 (length file.data_fork)) (big_bytes 4 (length file.resource_fork))
    (bytes-append ((big_bytes 4 file.kind ++ big_bytes 4 file.creator) ++ big_bytes 2 file.flags)
    (big_bytes 4 (length file.data_fork))
    (bytes-append (big_bytes 4 file.kind ++ big_bytes 4 file.creator) (big_bytes 2 file.flags)
    (bytes-append (big_bytes 4 file.kind) (big_bytes 4 file.creator) kind creator) flags) data_size) resource_size

name_low : (file : File) → is_name_length (length file.name) ≡ true → (1 ≤ length file.name) × (length file.name ≤ 63)
name_low file right =
    let both = and_parts (nat_le 1 (length file.name)) (nat_le (length file.name) 63) right in
    (leb-true 1 (length file.name) both.0, leb-true (length file.name) 63 both.1)

header_bytes : (file : File) → is_name_length (length file.name) ≡ true → AreBytes file.name → AreBytes (header file)
header_bytes file right all =
    let low = (name_low file right).1 in (
      omega arith,
      bytes-append (file.name ++ 0 ∷ []) (fields file)
          (bytes-append file.name (0 ∷ []) all (lit< tt, tt)) (fields_bytes file),
    )

part_bytes : (bytes : List ℕ) → AreBytes bytes → AreBytes (with_checksum bytes)
part_bytes bytes all = bytes-append bytes (big_bytes 2 (checksum bytes)) all (half_bytes (checksum bytes))

pub file_bytes : (file : File) → refusal file ≡ None → IsOfBytes file → AreBytes (bytes_of file)
file_bytes file none all =
    let fits = writable file none in
    bytes-append (with_checksum (header file) ++ with_checksum file.data_fork) (with_checksum file.resource_fork)
    (bytes-append (with_checksum (header file)) (with_checksum file.data_fork)
    (part_bytes (header file) (header_bytes file fits.name all.name)) (part_bytes file.data_fork all.data_fork))
    (part_bytes file.resource_fork all.resource_fork)

-- the first byte is the length of the name
pub name_first : (file : File) → refusal file ≡ None → (1 ≤ length file.name) × (length file.name ≤ 63)
name_first file none = name_low file (writable file none).name

-- the fields are the file's
abbrev file_like : File → List ℕ → ℕ → ℕ → ℕ → File
file_like file name kind creator flags =
    record file { name = name; kind = kind; creator = creator; flags = flags }

fields_again : (file : File) → IsOfBytes file → file_of (header file) file.data_fork file.resource_fork ≡ file
fields_again file all =
    ap (λ n. file_like file n (field 4 2 (header file)) (field 4 6 (header file)) (field 2 10 (header file))) (name_again file)
    ∙ ap (λ n. file_like file file.name n (field 4 6 (header file)) (field 2 10 (header file))) (kind_again file all.kind)
    ∙ ap (λ n. file_like file file.name file.kind n (field 2 10 (header file))) (creator_again file all.creator)
    ∙ ap (λ n. file_like file file.name file.kind file.creator n) (flags_again file all.flags)

pub file_again : (file : File) → refusal file ≡ None → IsOfBytes file → file_in (bytes_of file) ≡ Ok file
unfolding file_in
file_again file none all =
    let fits = writable file none in
    let data_part : List ℕ = with_checksum file.data_fork in
    let resource_part : List ℕ = with_checksum file.resource_fork in
    ap (λ bytes. header_in bytes >>= after_header) (append_assoc (with_checksum (header file)) data_part resource_part)
    ∙ ap (λ read. read >>= after_header) (header_again file (data_part ++ resource_part) fits.name (header_bytes file fits.name all.name))
    ∙ ap (λ read. read >>= after_data) (fork_again part.DataFork file.data_fork resource_part _
    (sym (data_again file fits.data_fork)) all.data_fork)
    ∙ ap (λ bytes. fork_in part.ResourceFork (resource_length (header file)) bytes >>= after_resource) (sym (append-nil resource_part))
    ∙ ap (λ read. read >>= after_resource) (fork_again part.ResourceFork file.resource_fork [] _
    (sym (resource_again file fits.resource_fork)) all.resource_fork)
    ∙ ap Ok (fields_again file all)
  where
    after_resource : List ℕ × List ℕ → Result File Damage
    after_resource resource_fork =
        cond (nat_lt 2 (length resource_fork.1)) (Err damage.TooLong) (Ok (file_of (header file) file.data_fork resource_fork.0))

    after_data : List ℕ × List ℕ → Result File Damage
    after_data data_fork = fork_in part.ResourceFork (resource_length (header file)) data_fork.1 >>= λ (resource_fork : List ℕ × List ℕ).
        cond (nat_lt 2 (length resource_fork.1)) (Err damage.TooLong) (Ok (file_of (header file) data_fork.0 resource_fork.0))

    after_header : List ℕ × List ℕ → Result File Damage
    after_header head = fork_in part.DataFork (data_length head.0) head.1 >>= λ (data_fork : List ℕ × List ℕ).
        fork_in part.ResourceFork (resource_length head.0) data_fork.1 >>= λ (resource_fork : List ℕ × List ℕ).
        cond (nat_lt 2 (length resource_fork.1)) (Err damage.TooLong) (Ok (file_of head.0 data_fork.0 resource_fork.0))
