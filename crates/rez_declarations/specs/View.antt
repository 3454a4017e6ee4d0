use Rattle.rez_declarations.specs.declared.shape.CaseKey.{CaseKey}
use Rattle.rez_declarations.specs.Sound.{Key}
use Rattle.rez_types.specs.View.{place_of}

-- The keys of the code.

abbrev pub key_of : CaseKey → Key
key_of k = record { place = place_of k.place; pattern = k.pattern }
