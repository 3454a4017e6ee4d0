use Rattle.std.specs.Prelude.{◌≡◌, ℕ, nat_le, Result, Ok, Err, List, if◌then◌else◌, length, take}
use Rattle.mac_roman.specs.Roman.{to_roman}
use Rattle.fork_edits.specs.declared.roman_names.RomanName.{RomanName}
use Rattle.fork_edits.specs.declared.roman_names.NameFault.{NameFault}
use Rattle.fork_edits.specs.declared.roman_names.NameFault.TheVariants.{NoCharacter, TooLong, HostMemory}

-- Names as people write them. In a fork the length of a name is one byte.
-- More Macintosh Toolbox, chapter 1, "Resource File Format".

-- The bytes of a name.
abbrev pub name_bytes : RomanName → List ℕ
name_bytes n = take n.count n.bytes

-- A name of at most 255 bytes.
abbrev pub short_name : List ℕ → Result (List ℕ) NameFault
short_name bytes = if nat_le (length bytes) 255 then Ok bytes else Err TooLong

-- The bytes in Mac OS Roman as a name, or the first character that Mac OS Roman has not.
abbrev pub name_or_fault : Result (List ℕ) ℕ → Result (List ℕ) NameFault
name_or_fault (Ok bytes) = short_name bytes
name_or_fault (Err c) = Err (NoCharacter c)

-- The name that a text stands for, or why it stands for none.
abbrev pub name_read : List ℕ → Result (List ℕ) NameFault
name_read text = name_or_fault (to_roman text)

-- The fault is what stands in place of a name; where the host is out of memory nothing is said.
abbrev pub StopsName : NameFault → Result (List ℕ) NameFault → Type 0
StopsName HostMemory made = Unit {0}
StopsName TooLong made = made ≡ Err TooLong
StopsName (NoCharacter c) made = made ≡ Err (NoCharacter c)
