use Rattle.fork_wrappers.proofs.Cited.{◌≡◌, ℕ, zero, suc, false, List, ◌∷◌, take, drop, set, refl, ap, arith, nat_le, list_all, and_left}
use Rattle.fork_wrappers.proofs.Cited.{and_right, Content, canon, number, is_first, is_old_header, is_header, is_printable, name}

-- A canonical fork of which one byte was changed is no file of MacBinary I.

-- without a name there is no header
no_header : (bytes : List ℕ) → number 1 1 bytes ≡ 0 → is_header bytes ≡ false
no_header bytes none = and_left _ _ (and_right _ (nat_le 1 (number 1 1 bytes)) (ap (nat_le 1) none))

no_name : (bytes : List ℕ) → number 1 1 bytes ≡ 0 → is_first bytes ≡ false
no_name bytes none = rw (no_header bytes none) refl

-- with a control character in its name the file is none of MacBinary I
bad_name : (bytes : List ℕ) → list_all is_printable (name bytes) ≡ false → is_first bytes ≡ false
bad_name bytes bad = and_left _ _ (and_left _ _ (and_right (is_old_header bytes) _ bad))

-- a name's first character is the byte at 2, which is 1 in a canonical fork
first_byte : (b n : ℕ) (rest : List ℕ) → n ≡ suc b → list_all is_printable (take n (1 ∷ rest)) ≡ false
first_byte b n rest is = rw is refl

one_byte : (b : ℕ) (rest : List ℕ) → is_first (0 ∷ b ∷ 1 ∷ rest) ≡ false
one_byte zero rest = no_name (0 ∷ 0 ∷ 1 ∷ rest) refl
one_byte (suc b) rest =
    let long : number 1 1 (0 ∷ suc b ∷ 1 ∷ rest) ≡ suc b = omega arith in
    bad_name (0 ∷ suc b ∷ 1 ∷ rest) (first_byte b _ rest long)

pub no_first : (c : Content) (at byte : ℕ) → is_first (set (canon c) at byte) ≡ false
no_first c zero byte = no_name (set (canon c) zero byte) refl
no_first c (suc zero) byte = one_byte byte (drop 3 (canon c))
no_first c (suc (suc zero)) byte = no_name (set (canon c) (suc (suc zero)) byte) refl
no_first c (suc (suc (suc at))) byte = no_name (set (canon c) (suc (suc (suc at))) byte) refl
