use Rattle.bin_hex.proofs.Cited.{◌≡◌, ℕ, ◌+◌, ◌*◌, ◌/◌, ◌%◌, ◌<◌, List, [], ◌∷◌, refl, ◌∙◌, ap, arith, AllByRecursion, AreBytes}
use Rattle.bin_hex.proofs.Cited.{bytes_after, groups_after, IsLeft, Left}
use Rattle.bin_hex.specs.declared.packing.Held.TheVariants as held
use Rattle.bin_hex.specs.declared.packing.Left.TheVariants as left

-- Bytes that are put into groups of six bits are those bytes again.

-- each group is below 64
pub small_groups : (bits : Left) (bytes : List ℕ) → IsLeft bits → AreBytes bytes
    → AllByRecursion (λ (g : ℕ). g < 64) (groups_after bits bytes)
small_groups left.Nothing [] few all = tt
small_groups (left.Two bits) [] few all = (omega arith, tt)
small_groups (left.Four bits) [] few all = (omega arith, tt)
small_groups left.Nothing (byte ∷ bytes) few all =
    let byte_fits = all.0 in (omega arith, small_groups (left.Two (byte % 4)) bytes (omega arith) all.1)
small_groups (left.Two bits) (byte ∷ bytes) few all =
    let byte_fits = all.0 in (omega arith, small_groups (left.Four (byte % 16)) bytes (omega arith) all.1)
small_groups (left.Four bits) (byte ∷ bytes) few all =
    let byte_fits = all.0 in (omega arith, (omega arith, small_groups left.Nothing bytes tt all.1))

record Again (bytes : List ℕ) : Type 0 where
  nothing : bytes_after held.Nothing (groups_after left.Nothing bytes) ≡ bytes
  two : (before bits : ℕ) → before < 64 → bits < 4
      → bytes_after (held.Six before) (groups_after (left.Two bits) bytes) ≡ (before * 4 + bits) ∷ bytes
  four : (before bits : ℕ) → before < 16 → bits < 16
      → bytes_after (held.Four before) (groups_after (left.Four bits) bytes) ≡ (before * 16 + bits) ∷ bytes

again : (bytes : List ℕ) → AreBytes bytes → Again bytes
again [] all = record {
  nothing = refl;
  two = λ before bits low few. ap (λ n. n ∷ []) (let e : before * 4 + bits * 16 / 16 ≡ before * 4 + bits = omega arith in e);
  four = λ before bits low few. ap (λ n. n ∷ []) (let e : before * 16 + bits * 4 / 4 ≡ before * 16 + bits = omega arith in e);
}
again (byte ∷ bytes) all =
    let fits = all.0 in
    let rest = again bytes all.1 in
    record {
      nothing = rest.two (byte / 4) (byte % 4) (omega arith) (omega arith)
          ∙ ap (λ n. n ∷ bytes) (let e : byte / 4 * 4 + byte % 4 ≡ byte = omega arith in e);
      two = λ before bits low few.
          ap (λ more. (before * 4 + (bits * 16 + byte / 16) / 16) ∷ more)
          (rest.four ((bits * 16 + byte / 16) % 16) (byte % 16) (omega arith) (omega arith))
          ∙ ap (λ n. n ∷ ((bits * 16 + byte / 16) % 16 * 16 + byte % 16) ∷ bytes)
          (let e : before * 4 + (bits * 16 + byte / 16) / 16 ≡ before * 4 + bits = omega arith in e)
          ∙ ap (λ n. (before * 4 + bits) ∷ n ∷ bytes)
          (let e : (bits * 16 + byte / 16) % 16 * 16 + byte % 16 ≡ byte = omega arith in e);
      four = λ before bits low few.
          ap (λ more. (before * 16 + (bits * 4 + byte / 64) / 4) ∷ ((bits * 4 + byte / 64) % 4 * 64 + byte % 64) ∷ more)
          rest.nothing
          ∙ ap (λ n. n ∷ ((bits * 4 + byte / 64) % 4 * 64 + byte % 64) ∷ bytes)
          (let e : before * 16 + (bits * 4 + byte / 64) / 4 ≡ before * 16 + bits = omega arith in e)
          ∙ ap (λ n. (before * 16 + bits) ∷ n ∷ bytes)
          (let e : (bits * 4 + byte / 64) % 4 * 64 + byte % 64 ≡ byte = omega arith in e);
    }

pub bytes_again : (bytes : List ℕ) → AreBytes bytes → bytes_after held.Nothing (groups_after left.Nothing bytes) ≡ bytes
bytes_again bytes all = (again bytes all).nothing
