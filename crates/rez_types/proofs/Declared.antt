-- Declarations of worked examples.
use Rattle.rez_types.proofs.Cited.{List, [], ◌∷◌, Field, Declaration}

-- fields without blocks
abbrev pub of_fields : List Field → Declaration
of_fields fields = record { fields = fields; blocks = [] }

-- with one block
abbrev pub with_block : List Field → List Field → Declaration
with_block fields block = record { fields = fields; blocks = block ∷ [] }
