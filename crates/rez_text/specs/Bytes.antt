use Rattle.std.specs.Prelude.{IfSome}
use Rattle.std.specs.List.{AllByRecursion}
pub use Rattle.plain_laws.specs.Bytes.{AreBytes}
use Rattle.fork_format.specs.Content.{Ref, Group, Content}

-- A content of bytes: each byte is a number below 256, as every content is that a program holds.

-- The name and the data of a resource are bytes.
pub record HasBytes (r : Ref) : Type 0 where
  pub name : IfSome r.name AreBytes
  pub datum : AreBytes r.datum

-- The area of a content, and its resources' names and data, are bytes.
pub record IsOfBytes (c : Content) : Type 0 where
  pub area : AreBytes c.area
  pub refs : AllByRecursion (λ (g : Group). AllByRecursion HasBytes g.refs) c.groups
