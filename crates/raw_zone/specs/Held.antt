-- What a clause sees of a `RawZone`.
use Rattle.std.specs.Prelude.{ℕ}
use Rattle.raw_region.specs.Memory.{Bytes}
use Rattle.zone_bytes.specs.Lawful.{IsLawful}

pub record Held : Type 0 where
  pub part : Bytes
  pub first : ℕ
  pub unused : ℕ
  pub free : ℕ
  pub moves : ℕ
  pub placings : ℕ
  pub lawful : ∥ IsLawful part.bytes ∥₁
