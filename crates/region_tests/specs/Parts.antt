-- Three parts fill a region of 48 bytes.
use Rattle.std.specs.Prelude.{◌≡◌, [], ◌∷◌, length}
use Rattle.memory_windows.specs.Windows.{window}
use Rattle.raw_region.specs.Memory.{Bytes, Whole}

pub record AreThree (r : Whole) (a b c : Bytes) : Type 0 where
  pub out : r.out ≡ window 0 16 ∷ window 16 16 ∷ window 32 16 ∷ []
  pub size : length r.bytes ≡ 48
  pub homes : (a.home ≡ r.home) × (b.home ≡ r.home) × (c.home ≡ r.home)
  pub places : (a.at ≡ 0) × (b.at ≡ 16) × (c.at ≡ 32)
  pub sizes : (length a.bytes ≡ 16) × (length b.bytes ≡ 16) × (length c.bytes ≡ 16)
