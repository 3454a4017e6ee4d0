use Rattle.std.proofs.Common.{ℕ, zero, suc, ◌<◌, List, [], ◌∷◌, ◌++◌, take, drop, lit<}
use Rattle.std.specs.Prelude.{slice_index}
use Rattle.plain_laws.specs.Bytes.{AreBytes}
use Rattle.plain_laws.proofs.Elements.{each-take, each-drop, each-append}

-- Parts of bytes, and bytes one after another, are bytes.

pub bytes-take : (n : ℕ) (bytes : List ℕ) → AreBytes bytes → AreBytes (take n bytes)
bytes-take n bytes all = each-take (λ b. b < 256) n bytes all

pub bytes-drop : (n : ℕ) (bytes : List ℕ) → AreBytes bytes → AreBytes (drop n bytes)
bytes-drop n bytes all = each-drop (λ b. b < 256) n bytes all

pub bytes-append : (xs ys : List ℕ) → AreBytes xs → AreBytes ys → AreBytes (xs ++ ys)
bytes-append xs ys all more = each-append (λ b. b < 256) xs ys all more

-- one of them, or the 0 that is read past their end
pub byte-at : (bytes : List ℕ) (at : ℕ) → AreBytes bytes → slice_index bytes at < 256
byte-at [] at all = lit< tt
byte-at (b ∷ bytes) zero all = all.0
byte-at (b ∷ bytes) (suc at) all = byte-at bytes at all.1
