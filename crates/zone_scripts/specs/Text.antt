use Rattle.std.specs.Prelude.{ℕ, List, ◌++◌, codes, decimal}
use Rattle.std.specs.List.{flat_map}
use Rattle.real_zone.specs.declared.form.Form.{Form}
use Rattle.real_zone.specs.declared.form.Form.TheVariants as form
use Rattle.zone_scripts.specs.Hex.{hex_text}
use Rattle.zone_scripts.specs.Parts.{Part, partition_of}
use Rattle.zone_scripts.specs.Lines.{Line, MoreMasters, NewHandle, NewPtr, HLock, HPurge, HUnlock, DisposePtr, lines_of}

-- The text of a script that makes a zone.

-- A line with a call: its word, a name, and a size.
unfoldable pub named_text : List ℕ → List ℕ → List ℕ
named_text word name = word ++ codes " " ++ name ++ codes "\n"

unfoldable pub sized_text : List ℕ → List ℕ → ℕ → List ℕ
sized_text word name size = word ++ codes " " ++ name ++ codes " " ++ decimal size ++ codes "\n"

abbrev pub line_text : Line → List ℕ
line_text MoreMasters = codes "MoreMasters\n"
line_text (NewHandle name size) = sized_text (codes "NewHandle") name size
line_text (NewPtr name size) = sized_text (codes "NewPtr") name size
line_text (HLock name) = named_text (codes "HLock") name
line_text (HPurge name) = named_text (codes "HPurge") name
line_text (HUnlock name) = named_text (codes "HUnlock") name
line_text (DisposePtr name) = named_text (codes "DisposePtr") name

abbrev pub lines_text : List Line → List ℕ
lines_text lines = flat_map line_text lines

-- The comment at the head: which zone it is, and the partition that the script wants.
unfoldable pub bits_phrase : Form → List ℕ
bits_phrase form.Bits24 = codes " of a dump, of 24 bits,"
bits_phrase form.Bits32 = codes " of a dump, of 32 bits,"

unfoldable pub zone_phrase : Form → ℕ → List ℕ
zone_phrase form zone = codes "# The zone at " ++ hex_text zone ++ bits_phrase form

unfoldable pub size_phrase : ℕ → List ℕ
size_phrase size = codes " made anew in a fresh partition of " ++ decimal size ++ codes " bytes.\n"

abbrev pub head_text : Form → ℕ → ℕ → List ℕ
head_text form zone size = zone_phrase form zone ++ size_phrase size

-- What is as in the dump, what names stand for, and what can't be the same.
unfoldable pub notes_text : List ℕ
notes_text = codes
    "# The blocks stand in the order of the dump, with their logical sizes, locked and purgeable\n# as there. hADDRESS is the handle of the master pointer at ADDRESS of the dump, pADDRESS a\n# pointer to the nonrelocatable block there; fADDRESS holds the place of the free block there,\n# until it is disposed of.\n# Not the same are: headers, of 16 bytes, and physical sizes, which are multiples of 16 (those of\n# free blocks are rounded up, and free neighbours are one block); the master pointers, of which\n# 64 stand in each block at the bottom (those that hold them in the dump are blocks as others);\n# addresses; what the blocks hold, which is 0; and which handles are those of resources.\n"

-- The script of a zone.
abbrev pub script_text : Form → ℕ → List Part → List ℕ
script_text form zone parts = head_text form zone (partition_of parts) ++ notes_text ++ lines_text (lines_of parts)
