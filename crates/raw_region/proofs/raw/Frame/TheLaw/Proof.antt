-- What holds a `&` to a frame holds nothing of its bytes. Assumes `Logic`.
use base.Fraction.{full_share}
use denote.Memory.{part_at}
use denote.SharingLaws.{nothing_shr_laws}
use denote.Struct.Lending.{Lends-nothing}
use Rattle.raw_region.specs.contracts.raw.Frame as Frame
use Rattle.raw_region.proofs.raw.Frame.TheLaw.Statement.{statement}

pub shares : statement
shares = record {
  shr_laws = λ d b o. nothing_shr_laws;
  shares =
      λ M 𝓤 𝓛 d κ ts b o. Lends-nothing 𝓛 (part_at Frame.the_written full_share d b o) Frame.the_written.lives κ ts;
}
