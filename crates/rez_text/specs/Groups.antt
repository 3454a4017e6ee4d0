use Rattle.std.specs.Prelude.{ℕ, ◌==◌, Bool}
use Rattle.byteorder.specs.Endian.{big_number}
use Rattle.rez_text.specs.declared.source.SourceGroup.{SourceGroup}

-- The group of the code is of the type.
abbrev pub is_of : ℕ → SourceGroup → Bool
is_of kind g = big_number 4 g.ty.0 == kind
