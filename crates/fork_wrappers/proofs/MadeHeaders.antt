use Rattle.fork_wrappers.proofs.Cited.{◌≡◌, ℕ, ◌+◌, ◌-◌, ◌≤◌, not, List, ◌++◌, length, take, drop, replicate, sym, ◌∙◌, ap, arith}
use Rattle.fork_wrappers.proofs.Cited.{append_assoc, length-append, Ok, ◌==◌, nat_lt, drop-append_seam, drop-append-add, drop-append-le}
use Rattle.fork_wrappers.proofs.Cited.{take-append-le, length-drop, length-replicate, take_all, and_right, cond-false, le-ltb, checksum}
use Rattle.fork_wrappers.proofs.Cited.{big_from-append, big_number, number, part, same_self, padded, data_length, fork_length}
use Rattle.fork_wrappers.proofs.Cited.{secondary_length, least_version, data_place, fork_place, fork_behind, checked_fork, mac_binary}
use Rattle.fork_wrappers.proofs.Cited.{TellsForks, IsChecked, wrapping_of, of_wrapper, fork_in, unwrapped}
use Rattle.fork_wrappers.specs.declared.wrapping.Wrapping.TheVariants as wrapping
use Rattle.fork_wrappers.specs.declared.fault.WrapFault.TheVariants as fault

-- a length is no more than that length rounded up
padded-more : (n : ℕ) → n ≤ padded n
padded-more n = omega arith

-- a number in the header
in_header : (n at : ℕ) (header rest : List ℕ) → at + n ≤ length header → number n at (header ++ rest) ≡ number n at header
in_header n at header rest h =
    ap (big_number n) (drop-append-le at header rest (omega arith))
    ∙ big_from-append n (drop at header) rest (let e = length-drop at header in omega (arith, e))

-- what the header of a file says, and where its resource fork stands
record Says (bytes contents fork : List ℕ) : Type 0 where
  whole : length bytes ≡ 128 + (padded (length contents) + length fork)
  data_told : data_length bytes ≡ length contents
  fork_told : fork_length bytes ≡ length fork
  no_secondary : secondary_length bytes ≡ 0
  fork_bytes : drop (128 + padded (length contents)) bytes ≡ fork

-- the padded data fork, and the resource fork after it
abbrev padding : List ℕ → List ℕ
padding contents = replicate (padded (length contents) - length contents) 0

padded-length : (contents : List ℕ) → length (contents ++ padding contents) ≡ padded (length contents)
padded-length contents = length-append contents (padding contents)
    ∙ ap (λ n. length contents + n) (length-replicate (padded (length contents) - length contents) 0)
    ∙ (let e = padded-more (length contents) in omega (arith, e))

says : (header contents fork : List ℕ) → TellsForks header contents fork
    → Says (mac_binary header contents fork) contents fork
says header contents fork t =
    let rest : List ℕ = contents ++ (padding contents ++ fork) in
    let size = t.size in
    let apart : rest ≡ (contents ++ padding contents) ++ fork = sym (append_assoc contents (padding contents) fork) in
    let sum : length rest ≡ padded (length contents) + length fork =
    ap length apart ∙ length-append (contents ++ padding contents) fork
    ∙ ap (λ n. n + length fork) (padded-length contents) in
    record {
      whole = length-append header rest ∙ ap (λ n. n + length rest) t.size ∙ ap (λ n. 128 + n) sum;
      data_told = in_header 4 83 header rest (omega (arith, size)) ∙ t.data_told;
      fork_told = in_header 4 87 header rest (omega (arith, size)) ∙ t.fork_told;
      no_secondary = in_header 2 120 header rest (omega (arith, size)) ∙ t.no_secondary;
      fork_bytes = ap (λ n. drop (n + padded (length contents)) (header ++ rest)) (sym t.size)
          ∙ drop-append-add header rest (padded (length contents))
          ∙ ap (λ n. drop n rest) (sym (padded-length contents))
          ∙ ap (drop (length (contents ++ padding contents))) apart
          ∙ drop-append_seam (contents ++ padding contents) fork;
    }

said_fork : (bytes contents fork : List ℕ) → Says bytes contents fork → fork_behind bytes ≡ Ok fork
said_fork bytes contents fork s =
    let whole = s.whole in
    let data_told = s.data_told in
    let fork_told = s.fork_told in
    let more = padded-more (length contents) in
    let begins : data_place bytes ≡ 128 = ap (λ n. 128 + padded n) s.no_secondary in
    let there : fork_place bytes ≡ 128 + padded (length contents) =
    ap (λ n. n + padded (data_length bytes)) begins ∙ ap (λ n. 128 + padded n) s.data_told in
    let found : part (fork_length bytes) (fork_place bytes) bytes ≡ fork =
    ap (λ n. take n (drop (fork_place bytes) bytes)) s.fork_told
    ∙ ap (λ n. take (length fork) (drop n bytes)) there ∙ ap (take (length fork)) s.fork_bytes
    ∙ take_all (length fork) fork (omega arith) in
    cond-false (nat_lt (length bytes) (data_place bytes + data_length bytes)) _ _
    (le-ltb (length bytes) (data_place bytes + data_length bytes) (omega (arith, whole, data_told, begins, more)))
    ∙ cond-false _ _ _ (and_right (nat_lt 0 (fork_length bytes)) _
    (le-ltb (length bytes) (fork_place bytes + fork_length bytes) (omega (arith, whole, fork_told, there))))
    ∙ ap Ok found

-- the checksum is right, and no later version is asked for
said_checked : (header contents fork : List ℕ) → TellsForks header contents fork → IsChecked header
    → checked_fork (mac_binary header contents fork) ≡ Ok fork
said_checked header contents fork t i =
    let rest : List ℕ = contents ++ (padding contents ++ fork) in
    let size = t.size in
    let told : number 2 124 (header ++ rest) ≡ checksum (take 124 (header ++ rest)) =
    in_header 2 124 header rest (omega (arith, size)) ∙ i.right
    ∙ ap checksum (sym (take-append-le 124 header rest (omega (arith, size)))) in
    let least : least_version (header ++ rest) ≤ 130 =
    let e = in_header 1 123 header rest (omega (arith, size)) in let low = i.readable in omega (arith, e, low) in
    cond-false _ _ _ (ap (λ n. not (n == checksum (take 124 (header ++ rest)))) told
    ∙ ap not (same_self (checksum (take 124 (header ++ rest)))))
    ∙ cond-false (nat_lt 130 (least_version (header ++ rest))) _ _ (le-ltb 130 (least_version (header ++ rest)) least)
    ∙ said_fork (header ++ rest) contents fork (says header contents fork t)

pub found_in_first : (header contents fork : List ℕ) → TellsForks header contents fork
    → wrapping_of (mac_binary header contents fork) ≡ wrapping.MacBinaryI
    → unwrapped (mac_binary header contents fork) ≡ Ok fork
found_in_first header contents fork t w =
    ap (λ w. fork_in w (mac_binary header contents fork)) w
    ∙ ap (of_wrapper fault.MacBinary) (said_fork _ contents fork (says header contents fork t))

pub found_in_second : (header contents fork : List ℕ) → TellsForks header contents fork → IsChecked header
    → wrapping_of (mac_binary header contents fork) ≡ wrapping.MacBinaryII
    → unwrapped (mac_binary header contents fork) ≡ Ok fork
found_in_second header contents fork t i w =
    ap (λ w. fork_in w (mac_binary header contents fork)) w
    ∙ ap (of_wrapper fault.MacBinary) (said_checked header contents fork t i)

pub found_in_third : (header contents fork : List ℕ) → TellsForks header contents fork → IsChecked header
    → wrapping_of (mac_binary header contents fork) ≡ wrapping.MacBinaryIII
    → unwrapped (mac_binary header contents fork) ≡ Ok fork
found_in_third header contents fork t i w =
    ap (λ w. fork_in w (mac_binary header contents fork)) w
    ∙ ap (of_wrapper fault.MacBinary) (said_checked header contents fork t i)
