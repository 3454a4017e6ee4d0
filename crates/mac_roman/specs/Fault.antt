use Rattle.std.specs.Prelude.{◌≡◌, ℕ, Result, Err, List}
use Rattle.mac_roman.specs.declared.roman.RomanFault.{RomanFault}
use Rattle.mac_roman.specs.declared.roman.RomanFault.TheVariants.{NoCharacter, HostMemory}

-- Why a text could not be written in Mac OS Roman.

-- The fault is that of a text; where the host is out of memory nothing is said of the text.
abbrev pub Stops : RomanFault → Result (List ℕ) ℕ → Type 0
Stops (NoCharacter c) made = made ≡ Err c
Stops HostMemory made = Unit {0}
