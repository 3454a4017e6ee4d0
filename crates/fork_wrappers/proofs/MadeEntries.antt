use Rattle.fork_wrappers.proofs.Cited.{◌≡◌, ℕ, ◌+◌, ◌*◌, ◌<◌, ◌^◌, Bool, true, false, not, ◌&&◌, ◌||◌, cond, List, [], ◌∷◌, ◌++◌, length}
use Rattle.fork_wrappers.proofs.Cited.{take, drop, refl, ◌∙◌, ap, arith, append_assoc, length-append, Ok, filter, ◌==◌, nat_lt, nat_le}
use Rattle.fork_wrappers.proofs.Cited.{list_all, drop-append_seam, drop-append-add, le-leb, and_right, cond-false, cond-true, le-ltb}
use Rattle.fork_wrappers.proofs.Cited.{take_all, big_number-reads_back, big_bytes, number, parts_fit, is_fork, offsets, fork_in_entries}
use Rattle.fork_wrappers.proofs.Cited.{only_entry, fork_named, entry_part, entry_fits, is_fork_entry, header, entry, apple_file}
use Rattle.fork_wrappers.proofs.Cited.{apple_single, apple_double, of_wrapper, fork_in, unwrapped}
use Rattle.fork_wrappers.specs.declared.fault.WrapFault.TheVariants as fault

-- what the header and the two entries of a file say
record Says (bytes info fork : List ℕ) : Type 0 where
  whole : length bytes ≡ 50 + length info + length fork
  version : number 4 4 bytes ≡ 0x00020000
  count : number 2 24 bytes ≡ 2
  info_id : number 4 26 bytes ≡ 9
  info_place : number 4 30 bytes ≡ 50
  info_size : number 4 34 bytes ≡ length info
  fork_id : number 4 38 bytes ≡ 2
  fork_place : number 4 42 bytes ≡ 50 + length info
  fork_size : number 4 46 bytes ≡ length fork
  fork_bytes : drop (50 + length info) bytes ≡ fork

-- the second entry is the only one of the resource fork
second_alone : (s t : Bool) → s ≡ false → t ≡ true
    → cond {A = List ℕ} s (26 ∷ cond {A = List ℕ} t (38 ∷ []) []) (cond {A = List ℕ} t (38 ∷ []) []) ≡ 38 ∷ []
second_alone false true e f = refl
second_alone false false e f = cc
second_alone true t e f = cc

both_hold : (s t : Bool) → s ≡ true → t ≡ true → not (s && (t && true)) ≡ false
both_hold true true e f = refl
both_hold true false e f = cc
both_hold false t e f = cc

said_fork : (bytes info fork : List ℕ) → Says bytes info fork → fork_in_entries bytes ≡ Ok fork
said_fork bytes info fork s =
    let whole = s.whole in
    let count = s.count in
    let first : entry_fits bytes 26 ≡ true =
    le-leb (number 4 30 bytes + number 4 34 bytes) (length bytes) (let a = s.info_place in let b = s.info_size in
    omega (arith, a, b, whole)) in
    let second : entry_fits bytes 38 ≡ true =
    le-leb (number 4 42 bytes + number 4 46 bytes) (length bytes) (let a = s.fork_place in let b = s.fork_size in
    omega (arith, a, b, whole)) in
    let only : fork_named bytes (only_entry (filter (is_fork_entry bytes) (offsets 26 12 (number 2 24 bytes))))
    ≡ Ok (entry_part bytes 38) =
    ap (λ n. fork_named bytes (only_entry (filter (is_fork_entry bytes) (offsets 26 12 n)))) count
    ∙ ap (λ xs. fork_named bytes (only_entry xs)) (second_alone (is_fork_entry bytes 26) (is_fork_entry bytes 38)
    (ap (λ n. n == 2) s.info_id) (ap (λ n. n == 2) s.fork_id)) in
    let named : entry_part bytes 38 ≡ fork =
    ap (λ n. take n (drop (number 4 42 bytes) bytes)) s.fork_size
    ∙ ap (λ n. take (length fork) (drop n bytes)) s.fork_place ∙ ap (take (length fork)) s.fork_bytes
    ∙ take_all (length fork) fork (omega arith) in
    cond-false (nat_lt (length bytes) 26) _ _ (le-ltb (length bytes) 26 (omega (arith, whole)))
    ∙ cond-false _ _ _ (ap (λ n. not (n == 0x00010000 || n == 0x00020000)) s.version)
    ∙ cond-false (nat_lt (length bytes) (26 + 12 * number 2 24 bytes)) _ _
    (le-ltb (length bytes) (26 + 12 * number 2 24 bytes) (omega (arith, whole, count)))
    ∙ cond-false _ _ _ (ap (λ n. not (list_all (entry_fits bytes) (offsets 26 12 n))) count
    ∙ both_hold (entry_fits bytes 26) (entry_fits bytes 38) first second)
    ∙ only ∙ ap Ok named

-- the header and the entries
abbrev head : ℕ → ℕ → ℕ → List ℕ
head magic m n = header magic 2 ++ entry 9 50 m ++ entry 2 (50 + m) n

says : (magic : ℕ) (info fork : List ℕ) → 50 + length info + length fork < 2 ^ 32
    → Says (apple_file magic info fork) info fork
says magic info fork h =
    let m : ℕ = length info in
    let n : ℕ = length fork in
    let apart : apple_file magic info fork ≡ head magic m n ++ (info ++ fork) =
    append_assoc (head magic m n) info fork in
    record {
      whole = ap length apart ∙ length-append (head magic m n) (info ++ fork)
          ∙ ap (λ k. 50 + k) (length-append info fork) ∙ (omega arith);
      version = refl;
      count = refl;
      info_id = refl;
      info_place = refl;
      info_size = big_number-reads_back 4 m (entry 2 (50 + m) n ++ (info ++ fork)) (omega arith);
      fork_id = refl;
      fork_place = big_number-reads_back 4 (50 + m) (big_bytes 4 n ++ (info ++ fork)) (omega arith);
      fork_size = big_number-reads_back 4 n (info ++ fork) (omega arith);
      fork_bytes = ap (drop (50 + m)) apart ∙ drop-append-add (head magic m n) (info ++ fork) m
          ∙ drop-append_seam info fork;
    }

-- such a file is no fork: with an empty filler its map would have no bytes
no_fork : (magic : ℕ) (info fork : List ℕ) → is_fork (apple_file magic info fork) ≡ false
no_fork magic info fork = outside (parts_fit (apple_file magic info fork)) _ _ _ _ (and_right _ false refl)
  where
    outside : (a b c d e : Bool) → a ≡ false → (a && b && c && d && e) ≡ false
    outside false b c d e h = refl
    outside true b c d e h = cc

long : (magic : ℕ) (info fork : List ℕ) → 50 + length info + length fork < 2 ^ 32
    → nat_le 4 (length (apple_file magic info fork)) ≡ true
long magic info fork h = le-leb 4 _ (let e = (says magic info fork h).whole in omega (arith, e))

pub found_in_single : (info fork : List ℕ) → 50 + length info + length fork < 2 ^ 32
    → unwrapped (apple_single info fork) ≡ Ok fork
found_in_single info fork h =
    let bytes : List ℕ = apple_single info fork in
    ap (λ w. fork_in w bytes) (cond-false (is_fork bytes) _ _ (no_fork 0x00051600 info fork)
    ∙ cond-true (nat_le 4 (length bytes) && true) _ _ (ap (λ t. t && true) (long 0x00051600 info fork h)))
    ∙ ap (of_wrapper fault.AppleSingle) (said_fork bytes info fork (says 0x00051600 info fork h))

pub found_in_double : (info fork : List ℕ) → 50 + length info + length fork < 2 ^ 32
    → unwrapped (apple_double info fork) ≡ Ok fork
found_in_double info fork h =
    let bytes : List ℕ = apple_double info fork in
    ap (λ w. fork_in w bytes) (cond-false (is_fork bytes) _ _ (no_fork 0x00051607 info fork)
    ∙ cond-false (nat_le 4 (length bytes) && false) _ _ (and_right _ false refl)
    ∙ cond-true (nat_le 4 (length bytes) && true) _ _ (ap (λ t. t && true) (long 0x00051607 info fork h)))
    ∙ ap (of_wrapper fault.AppleDouble) (said_fork bytes info fork (says 0x00051607 info fork h))
