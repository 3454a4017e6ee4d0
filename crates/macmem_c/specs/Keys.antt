use Rattle.std.specs.Prelude.{◌≡◌, ℕ, ℤ, Bool, true, false}
use Rattle.byteorder.specs.Endian.{big_number}
use Rattle.fork_commands.specs.declared.packaging.Packaging.{Packaging}
use Rattle.fork_commands.specs.declared.packaging.Packaging.TheVariants.{Bare, AsRead}
use Rattle.fork_commands.specs.declared.work.ResourceKey.{ResourceKey}

-- Types and IDs of resources, and how a fork is written, as C says them.

-- The key is that of a type, whose four bytes are a number, and an ID.
pub record IsKey (kind : ℕ) (id : ℤ) (key : ResourceKey) : Type 0 where
  pub kind_is : big_number 4 key.ty.0 ≡ kind
  pub id_is : key.id ≡ id

-- A fork is written in the wrapper of its file, or alone.
abbrev pub packaging_of : Bool → Packaging
packaging_of true = AsRead
packaging_of false = Bare
