-- A `Vec` of bytes that lies in another value's block. Assumes `Logic`.
use Rattle.std_alloc.proofs.vec.Vec.TheLaws as vec
use Rattle.std_alloc.proofs.vec.lodged.Lodged.TheLaws as lodged
use Rattle.std_alloc.specs.contracts.vec.Vec as V
use Rattle.std_alloc.specs.contracts.vec.lodged.Lodged as L
use Rattle.raw_region.proofs.Cited.{ghosts}
use denote.Builtin.{u8}
use denote.Param.Laws.{Laws}
use denote.RattleType.{RattleType}
use Rattle.raw_region.proofs.Frames.{byte_laws}

abbrev pub Lent : RattleType
Lent = V.the_row u8 L.the_row ghosts

abbrev pub lent-laws : Laws Lent
lent-laws = vec.the_row_laws u8 L.the_row ghosts byte_laws lodged.the_row_laws
