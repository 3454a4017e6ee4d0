use Rattle.fork_edits.proofs.Cited.{◌≡◌, ◌∙◌, ℕ, ◌<◌, ◌≤◌, true, List, length, refl, ap, arith, Ok, nat_le, AllByRecursion, nat_tests}
use Rattle.fork_edits.proofs.Cited.{taken, type_read, short_name, name_or_fault, name_read, some_type, type_or_fault, type_text_read}

-- Names and types of ASCII.

short : (bytes : List ℕ) → length bytes ≤ 255 → short_name bytes ≡ Ok bytes
short bytes few =
    let is : nat_le (length bytes) 255 ≡ true = grind (arith, nat_tests) in
    rw is refl

pub plain_name : (text : List ℕ) → AllByRecursion (λ b. b < 128) text → length text ≤ 255 → name_read text ≡ Ok text
plain_name text low few = ap name_or_fault (taken text low) ∙ short text few

pub plain_type : (text : List ℕ) → AllByRecursion (λ b. b < 128) text → type_text_read text ≡ some_type (type_read text)
plain_type text low = ap type_or_fault (taken text low)
