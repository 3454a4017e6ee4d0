use Rattle.std.proofs.Common.{◌≡◌, ℕ, zero, suc, ◌+◌, ◌-◌, ◌*◌, ◌<◌, ◌≤◌, List, [], ◌∷◌, sym, ◌∙◌, ap, arith}
use Rattle.std.specs.List.{AllByRecursion}
use Rattle.std.specs.Prelude.{nat_le, bit_xor}
use Rattle.std.proofs.lemmas.Bool.{leb-false, cond_both}
use Rattle.std.proofs.lemmas.Nat.{xor_lt}
use Rattle.checksums.specs.Checksum.{with_bit, with_bits, with_byte, with_bytes, checksum}

-- one bit more of those that are left
pub a_bit_more : (k sum total : ℕ) → k < 8 → with_bits (8 - k) sum ≡ total → with_bits (8 - (k + 1)) (with_bit sum) ≡ total
unfolding with_bits
a_bit_more k sum total h e = let left : 8 - k ≡ suc (8 - (k + 1)) = omega arith in
    ap (λ n. with_bits n sum) (sym left) ∙ e

-- no bit is left
pub no_bit_more : (k sum total : ℕ) → 8 ≤ k → with_bits (8 - k) sum ≡ total → sum ≡ total
unfolding with_bits
no_bit_more k sum total h e = let left : 8 - k ≡ zero = omega arith in ap (λ n. with_bits n sum) (sym left) ∙ e

-- A checksum of bytes has 16 bits.

bit-small : (sum : ℕ) → sum < 65536 → with_bit sum < 65536
bit-small sum h = cond_both (nat_le 0x8000 sum) (bit_xor (2 * (sum - 0x8000)) 0x1021) (2 * sum) (λ n. n < 65536)
    (λ e. xor_lt 16 (2 * (sum - 0x8000)) 0x1021 (omega arith) (omega arith))
    (λ e. let low = leb-false 0x8000 sum e in omega arith)

bits-small : (n sum : ℕ) → sum < 65536 → with_bits n sum < 65536
unfolding with_bits
bits-small zero sum h = h
bits-small (suc n) sum h = bits-small n (with_bit sum) (bit-small sum h)

sums-small : (bytes : List ℕ) (sum : ℕ) → AllByRecursion (λ (b : ℕ). b < 256) bytes → sum < 65536
    → with_bytes sum bytes < 65536
sums-small [] sum b h = h
sums-small (byte ∷ bytes) sum b h =
    let low = b.0 in
    sums-small bytes (with_byte sum byte) b.1 (bits-small 8 _ (xor_lt 16 sum (256 * byte) (omega arith) (omega arith)))

pub checksum-small : (bytes : List ℕ) → AllByRecursion (λ (b : ℕ). b < 256) bytes → checksum bytes < 65536
checksum-small bytes b = sums-small bytes 0 b (omega arith)
