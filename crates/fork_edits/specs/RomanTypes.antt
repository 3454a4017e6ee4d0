use Rattle.std.specs.Prelude.{◌≡◌, ℕ, Option, Some, None, Result, Ok, Err, List}
use Rattle.mac_roman.specs.Roman.{to_roman}
use Rattle.fork_edits.specs.declared.roman_types.TypeFault.{TypeFault}
use Rattle.fork_edits.specs.declared.roman_types.TypeFault.TheVariants.{NoCharacter, NotAType, HostMemory}
use Rattle.fork_edits.specs.Types.{type_read}

-- Types as people write them, in Mac OS Roman.
-- More Macintosh Toolbox, chapter 1, "Resource Types".

-- The four bytes of a type, if there is one.
abbrev pub some_type : Option (List ℕ) → Result (List ℕ) TypeFault
some_type None = Err NotAType
some_type (Some bytes) = Ok bytes

-- The type that bytes in Mac OS Roman stand for, or the first character that Mac OS Roman has not.
abbrev pub type_or_fault : Result (List ℕ) ℕ → Result (List ℕ) TypeFault
type_or_fault (Ok bytes) = some_type (type_read bytes)
type_or_fault (Err c) = Err (NoCharacter c)

-- The four bytes of the type that a text stands for, or why it stands for none.
abbrev pub type_text_read : List ℕ → Result (List ℕ) TypeFault
type_text_read text = type_or_fault (to_roman text)

-- The fault is what stands in place of a type; where the host is out of memory nothing is said.
abbrev pub StopsType : TypeFault → Result (List ℕ) TypeFault → Type 0
StopsType HostMemory made = Unit {0}
StopsType NotAType made = made ≡ Err NotAType
StopsType (NoCharacter c) made = made ≡ Err (NoCharacter c)
