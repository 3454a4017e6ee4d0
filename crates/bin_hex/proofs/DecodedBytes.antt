use Rattle.bin_hex.proofs.Cited.{◌≡◌, ℕ, zero, suc, ◌+◌, ◌%◌, ◌-◌, ◌^◌, ◌<◌, ◌≤◌, Bool, true, false, cond, List, [], ◌∷◌, ◌++◌, length}
use Rattle.bin_hex.proofs.Cited.{take, drop, replicate, refl, sym, ◌∙◌, ap, subst, arith, lit<, ◌==◌, nat_lt, position, Result, Ok, Err}
use Rattle.bin_hex.proofs.Cited.{AllByRecursion, ltb-false, length-drop, length-take-le, position-Some, checksum, bytes-take, bytes-drop}
use Rattle.bin_hex.proofs.Cited.{bytes-append, byte-at, big_number, big_from-lt, alphabet, is_blank, role_at, role_of, IsRole, decoded}
use Rattle.bin_hex.proofs.Cited.{unpacked, packed_in, encoded_in, marked_in, piece, checked, after_length, header_in, fork_in, file_in}
use Rattle.bin_hex.proofs.Cited.{file_of, name_length, data_length, resource_length, ◌>>=◌, File, AreBytes, IsOfBytes, refusal}
use Rattle.bin_hex.proofs.Cited.{is_name_length, bytes_after, IsHeld, expanded, begins_with_run, after_mark, after_colon, sextets}
use Rattle.bin_hex.proofs.Cited.{read_from, Role, Damage, Part, Held}
use Rattle.std.proofs.Common.{Option, Some}
use Rattle.std.proofs.Common.{None}
use Rattle.bin_hex.specs.declared.alphabet.Role.TheVariants as role
use Rattle.bin_hex.specs.declared.fault.Damage.TheVariants as damage
use Rattle.bin_hex.specs.declared.fault.Part.TheVariants as part
use Rattle.bin_hex.specs.declared.packing.Held.TheVariants as held
use Rattle.bin_hex.proofs.ContentsAgain.{piece_again}
use Rattle.bin_hex.proofs.Fitting.{can_be_written}

-- A file that was read is made of bytes, and can be written.

abbrev AreSmall : List ℕ → Type 0
AreSmall groups = AllByRecursion (λ (g : ℕ). g < 64) groups

-- what stands for six bits is below 64
small_place : (byte : ℕ) (found : Option ℕ) → position (λ character. character == byte) alphabet ≡ found
    → IsRole (role_at found)
small_place byte None is = tt
small_place byte (Some place) is = (position-Some (λ character. character == byte) alphabet place 0 is).0

small_role : (byte : ℕ) → IsRole (role_of byte)
small_role byte = judged (byte == 58) (is_blank byte)
  where
    judged : (colon blank : Bool)
        → IsRole (cond colon role.Colon (cond blank role.Blank (role_at (position (λ character. character == byte) alphabet))))
    judged true blank = tt
    judged false true = tt
    judged false false = small_place byte (position (λ character. character == byte) alphabet) refl

small_read : (what : Role) (at : ℕ) (rest : Result (List ℕ) Damage) (groups : List ℕ) → IsRole what
    → ((found : List ℕ) → rest ≡ Ok found → AreSmall found) → read_from what at rest ≡ Ok groups → AreSmall groups
small_read role.Colon at rest [] small later is = tt
small_read role.Colon at rest (group ∷ groups) small later is = cc
small_read role.Blank at rest groups small later is = later groups is
small_read (role.Sextet sextet) at (Ok found) groups small later is =
    subst AreSmall (let e : sextet ∷ found ≡ groups = cc in e) (small, later found refl)
small_read (role.Sextet sextet) at (Err damage) groups small later is = cc
small_read role.Foreign at rest groups small later is = cc

small_sextets : (at : ℕ) (text groups : List ℕ) → sextets at text ≡ Ok groups → AreSmall groups
small_sextets at [] groups is = cc
small_sextets at (byte ∷ text) groups is = small_read (role_of byte) at (sextets (at + 1) text) groups (small_role byte)
    (λ found e. small_sextets (at + 1) text found e) is

-- groups of six bits make bytes
packed_bytes : (bits : Held) (groups : List ℕ) → IsHeld bits → AreSmall groups → AreBytes (bytes_after bits groups)
packed_bytes held.Nothing [] few all = tt
packed_bytes (held.Six bits) [] few all = tt
packed_bytes (held.Four bits) [] few all = tt
packed_bytes (held.Two bits) [] few all = tt
packed_bytes held.Nothing (group ∷ groups) few all = packed_bytes (held.Six group) groups all.0 all.1
packed_bytes (held.Six bits) (group ∷ groups) few all =
    let low = all.0 in (omega arith, packed_bytes (held.Four (group % 16)) groups (omega arith) all.1)
packed_bytes (held.Four bits) (group ∷ groups) few all =
    let low = all.0 in (omega arith, packed_bytes (held.Two (group % 4)) groups (omega arith) all.1)
packed_bytes (held.Two bits) (group ∷ groups) few all =
    let low = all.0 in (omega arith, packed_bytes held.Nothing groups tt all.1)

-- so do runs of bytes
either_bytes : (t : Bool) (xs ys : List ℕ) → AreBytes xs → AreBytes ys → AreBytes (cond t xs ys)
either_bytes true xs ys all more = all
either_bytes false xs ys all more = more

repeated_bytes : (count byte : ℕ) → byte < 256 → AreBytes (replicate count byte)
repeated_bytes zero byte h = tt
repeated_bytes (suc count) byte h = (h, repeated_bytes count byte h)

expanded_bytes : (bytes : List ℕ) (marked : Bool) (last : ℕ) → last < 256 → AreBytes bytes
    → AreBytes (expanded marked last bytes)
expanded_bytes [] true last h all = tt
expanded_bytes [] false last h all = tt
expanded_bytes (byte ∷ bytes) false last h all =
    either_bytes (byte == 0x90) (expanded true last bytes) (byte ∷ expanded false byte bytes)
    (expanded_bytes bytes true last h all.1) (all.0, expanded_bytes bytes false byte all.0 all.1)
expanded_bytes (count ∷ bytes) true last h all =
    either_bytes (count == 0) (0x90 ∷ expanded false 0x90 bytes) (replicate (count - 1) last ++ expanded false last bytes)
    (lit< tt, expanded_bytes bytes false 0x90 (lit< tt) all.1)
    (bytes-append (replicate (count - 1) last) (expanded false last bytes) (repeated_bytes (count - 1) last h)
    (expanded_bytes bytes false last h all.1))

-- a number of four bytes has 32 bits, one of two has 16
low_word : (bytes : List ℕ) → AreBytes bytes → big_number 4 bytes < 2 ^ 32
low_word bytes all = big_from-lt 0 4 bytes (λ at. byte-at bytes at all)

low_half : (bytes : List ℕ) → AreBytes bytes → big_number 2 bytes < 2 ^ 16
low_half bytes all = big_from-lt 0 2 bytes (λ at. byte-at bytes at all)

-- what was read, and what was read after it
first_read : {A B : Type 0} (read : Result A Damage) (next : A → Result B Damage) (made : B) → (read >>= next) ≡ Ok made
    → (found : A) × (read ≡ Ok found) × (next found ≡ Ok made)
first_read (Ok found) next made is = (found, refl, is)
first_read (Err damage) next made is = cc

-- a piece that was read
record IsPiece (count : ℕ) (bytes : List ℕ) (got : List ℕ × List ℕ) : Type 0 where
  front : got.0 ≡ take count bytes
  back : got.1 ≡ drop count bytes
  there : count ≤ length bytes

piece_read : (count : ℕ) (bytes : List ℕ) (got : List ℕ × List ℕ) → piece count bytes ≡ Ok got → IsPiece count bytes got
piece_read count bytes got is = judged (nat_lt (length bytes) count) refl
  where
    judged : (t : Bool) → nat_lt (length bytes) count ≡ t → IsPiece count bytes got
    judged true e =
        let bad : Err damage.CutOff ≡ Ok got =
        sym (ap (λ t. cond t (Err damage.CutOff) (Ok (take count bytes, drop count bytes))) e) ∙ is in cc
    judged false e =
        let same : Ok (take count bytes, drop count bytes) ≡ Ok got =
        sym (ap (λ t. cond t (Err damage.CutOff) (Ok (take count bytes, drop count bytes))) e) ∙ is in
        let pair : (take count bytes, drop count bytes) ≡ got = cc in
        record {
          front = sym (ap (λ p. p.0) pair);
          back = sym (ap (λ p. p.1) pair);
          there = ltb-false (length bytes) count e;
        }

-- a part whose checksum was right
record IsPart (bytes after : List ℕ) (got : List ℕ × List ℕ) : Type 0 where
  same : got.0 ≡ bytes
  rest : AreBytes got.1

part_read : (what : Part) (bytes after : List ℕ) (got : List ℕ × List ℕ) → AreBytes after
    → checked what bytes after ≡ Ok got → IsPart bytes after got
part_read what bytes after got all is =
    let sum = first_read (piece 2 after) (λ (sum : List ℕ × List ℕ).
    cond (big_number 2 sum.0 == checksum bytes) (Ok (bytes, sum.1)) (Err (damage.WrongChecksum what))) got is in
    let at = piece_read 2 after sum.0 sum.1 in
    judged sum.0 (big_number 2 sum.0.0 == checksum bytes) (subst AreBytes (sym at.back) (bytes-drop 2 after all)) sum.2
  where
    judged : (sum : List ℕ × List ℕ) (t : Bool) → AreBytes sum.1
        → cond t (Ok (bytes, sum.1)) (Err (damage.WrongChecksum what)) ≡ Ok got → IsPart bytes after got
    judged sum true rest is =
        let pair : (bytes, sum.1) ≡ got = cc in
        record { same = sym (ap (λ p. p.0) pair); rest = subst AreBytes (ap (λ p. p.1) pair) rest }
    judged sum false rest is = cc

-- a header that was read
record IsHeader (got : List ℕ × List ℕ) : Type 0 where
  named : is_name_length (name_length got.0) ≡ true
  size : length got.0 ≡ name_length got.0 + 20
  bytes : AreBytes got.0
  rest : AreBytes got.1

named_read : (first : ℕ) (bytes : List ℕ) (got rest : List ℕ × List ℕ) → AreBytes (first ∷ bytes)
    → after_length first bytes ≡ Ok rest → checked part.Header (first ∷ rest.0) rest.1 ≡ Ok got → IsHeader got
named_read first bytes got rest all is right = judged (is_name_length first) refl
  where
    judged : (t : Bool) → is_name_length first ≡ t → IsHeader got
    judged true named =
        let at = piece_read (first + 19) bytes rest
        (sym (ap (λ t. cond t (piece (first + 19) bytes) (Err damage.NameLength)) named) ∙ is) in
        let sum = part_read part.Header (first ∷ rest.0) rest.1 got
        (subst AreBytes (sym at.back) (bytes-drop (first + 19) bytes all.1)) right in
        let size = ap length at.front ∙ length-take-le (first + 19) bytes at.there in
        subst (λ header. IsHeader (header, got.1)) (sym sum.same) (record {
          named = named;
          size = omega (arith, size);
          bytes = (all.0, subst AreBytes (sym at.front) (bytes-take (first + 19) bytes all.1));
          rest = sum.rest;
        })
    judged false other =
        let bad : Err damage.NameLength ≡ Ok rest =
        sym (ap (λ t. cond t (piece (first + 19) bytes) (Err damage.NameLength)) other) ∙ is in cc

header_read : (bytes : List ℕ) (got : List ℕ × List ℕ) → AreBytes bytes → header_in bytes ≡ Ok got → IsHeader got
unfolding header_in
header_read [] got all is = cc
header_read (first ∷ bytes) got all is =
    let rest = first_read (after_length first bytes)
    (λ (rest : List ℕ × List ℕ). checked part.Header (first ∷ rest.0) rest.1) got
    (sym (ap (λ read. read >>= λ (front : List ℕ × List ℕ).
    after_length (name_length front.0) front.1 >>= λ (rest : List ℕ × List ℕ).
    checked part.Header (front.0 ++ rest.0) rest.1) (piece_again (first ∷ []) bytes 1 refl)) ∙ is) in
    named_read first bytes got rest.0 all rest.1 rest.2

-- a fork that was read
record IsFork (count : ℕ) (got : List ℕ × List ℕ) : Type 0 where
  size : length got.0 ≡ count
  bytes : AreBytes got.0
  rest : AreBytes got.1

fork_read : (what : Part) (count : ℕ) (bytes : List ℕ) (got : List ℕ × List ℕ) → AreBytes bytes
    → fork_in what count bytes ≡ Ok got → IsFork count got
unfolding fork_in
fork_read what count bytes got all is =
    let fork = first_read (piece count bytes) (λ (fork : List ℕ × List ℕ). checked what fork.0 fork.1) got is in
    let at = piece_read count bytes fork.0 fork.1 in
    let sum = part_read what fork.0.0 fork.0.1 got (subst AreBytes (sym at.back) (bytes-drop count bytes all)) fork.2 in
    record {
      size = ap length (sum.same ∙ at.front) ∙ length-take-le count bytes at.there;
      bytes = subst AreBytes (sym (sum.same ∙ at.front)) (bytes-take count bytes all);
      rest = sum.rest;
    }

-- a file that was read
pub record IsRead (file : File) : Type 0 where
  pub of_bytes : IsOfBytes file
  pub fits : refusal file ≡ None

made_read : (header data_fork resource_fork : List ℕ × List ℕ) → IsHeader header
    → IsFork (data_length header.0) data_fork → IsFork (resource_length header.0) resource_fork
    → IsRead (file_of header.0 data_fork.0 resource_fork.0)
made_read header data_fork resource_fork head first second =
    let count : ℕ = name_length header.0 in
    let size = head.size in
    let dropped = length-drop 1 header.0 in
    let named = length-take-le count (drop 1 header.0) (omega (arith, size, dropped)) in
    record {
      of_bytes = record {
        name = bytes-take count (drop 1 header.0) (bytes-drop 1 header.0 head.bytes);
        kind = low_word (drop (count + 2) header.0) (bytes-drop (count + 2) header.0 head.bytes);
        creator = low_word (drop (count + 6) header.0) (bytes-drop (count + 6) header.0 head.bytes);
        flags = low_half (drop (count + 10) header.0) (bytes-drop (count + 10) header.0 head.bytes);
        data_fork = first.bytes;
        resource_fork = second.bytes;
      };
      fits = can_be_written (file_of header.0 data_fork.0 resource_fork.0) (ap is_name_length named ∙ head.named)
          (subst (λ n. n < 2 ^ 32) (sym first.size)
          (low_word (drop (count + 12) header.0) (bytes-drop (count + 12) header.0 head.bytes)))
          (subst (λ n. n < 2 ^ 32) (sym second.size)
          (low_word (drop (count + 16) header.0) (bytes-drop (count + 16) header.0 head.bytes)));
    }

no_damage : {A : Type 0} (t : Bool) (why : Damage) (read : Result A Damage) (made : A) → cond t (Err why) read ≡ Ok made
    → read ≡ Ok made
no_damage true why read made is = cc
no_damage false why read made is = is

file_read : (bytes : List ℕ) (file : File) → AreBytes bytes → file_in bytes ≡ Ok file → IsRead file
unfolding file_in
file_read bytes file all is =
    let header = first_read (header_in bytes) after_header file is in
    let head = header_read bytes header.0 all header.1 in
    let data_fork = first_read (fork_in part.DataFork (data_length header.0.0) header.0.1) (after_data header.0) file header.2 in
    let first = fork_read part.DataFork (data_length header.0.0) header.0.1 data_fork.0 head.rest data_fork.1 in
    let resource_fork = first_read (fork_in part.ResourceFork (resource_length header.0.0) data_fork.0.1)
    (after_resource header.0 data_fork.0) file data_fork.2 in
    let second = fork_read part.ResourceFork (resource_length header.0.0) data_fork.0.1 resource_fork.0 first.rest
    resource_fork.1 in
    let made = no_damage (nat_lt 2 (length resource_fork.0.1)) damage.TooLong
    (Ok (file_of header.0.0 data_fork.0.0 resource_fork.0.0)) file resource_fork.2 in
    let same : file_of header.0.0 data_fork.0.0 resource_fork.0.0 ≡ file = cc in
    subst IsRead same (made_read header.0 data_fork.0 resource_fork.0 head first second)
  where
    after_resource : List ℕ × List ℕ → List ℕ × List ℕ → List ℕ × List ℕ → Result File Damage
    after_resource header data_fork resource_fork = cond (nat_lt 2 (length resource_fork.1)) (Err damage.TooLong)
        (Ok (file_of header.0 data_fork.0 resource_fork.0))

    after_data : List ℕ × List ℕ → List ℕ × List ℕ → Result File Damage
    after_data header data_fork =
        fork_in part.ResourceFork (resource_length header.0) data_fork.1 >>= after_resource header data_fork

    after_header : List ℕ × List ℕ → Result File Damage
    after_header header = fork_in part.DataFork (data_length header.0) header.1 >>= after_data header

packed_read : (at : ℕ) (text : List ℕ) (file : File) → (packed_in at text >>= unpacked) ≡ Ok file → IsRead file
packed_read at text file is =
    let packed = first_read (packed_in at text) unpacked file is in
    let groups = first_read (sextets at text) (λ (groups : List ℕ). Ok (bytes_after held.Nothing groups)) packed.0 packed.1 in
    let same : bytes_after held.Nothing groups.0 ≡ packed.0 = let e = groups.2 in cc in
    let all = subst AreBytes same (packed_bytes held.Nothing groups.0 tt (small_sextets at text groups.0 groups.1)) in
    file_read (expanded false 0 packed.0) file (expanded_bytes packed.0 false 0 (lit< tt) all)
    (no_damage (begins_with_run packed.0) damage.NoByteToRepeat (file_in (expanded false 0 packed.0)) file packed.2)

encoded_read : (total : ℕ) (found : Option (List ℕ)) (file : File) → encoded_in total found ≡ Ok file → IsRead file
encoded_read total None file is = cc
encoded_read total (Some text) file is = packed_read (total - length text) text file is

marked_read : (total : ℕ) (found : Option (List ℕ)) (file : File) → marked_in total found ≡ Ok file → IsRead file
marked_read total None file is = cc
marked_read total (Some text) file is = encoded_read total (after_colon text) file is

pub decoded_read : (bytes : List ℕ) (file : File) → decoded bytes ≡ Ok file → IsRead file
decoded_read bytes file is = marked_read (length bytes) (after_mark bytes) file is
