use Rattle.std.specs.Prelude.{ℕ, ◌==◌, Bool, ◌||◌, if◌then◌else◌}
use Rattle.mac_roman.specs.declared.charset.Charset.{Charset}
use Rattle.rez_printing.specs.declared.style.Letters.{Letters}
use Rattle.rez_printing.specs.declared.style.Letters.TheVariants as letter
use Rattle.rez_printing.specs.declared.style.Pictures.{Pictures}
use Rattle.rez_printing.specs.declared.style.Pictures.TheVariants as picture
use Rattle.rez_printing.specs.declared.style.Style.{Style}
use Rattle.rez_text.specs.declared.lettering.Lettering.{Lettering}
use Rattle.rez_text.specs.declared.lettering.Lettering.TheVariants as lettering
use Rattle.rez_typed.specs.declared.style.Coding.{Coding}
use Rattle.rez_typed.specs.declared.style.Coding.TheVariants as coding
use Rattle.rez_typed.specs.declared.style.SourceStyle.{SourceStyle}

-- How a content is printed as source.

-- The types of icons, cursors and patterns with a bit for each point: 'ICON', 'ICN#', 'ics#', 'icm#', 'SICN', 'CURS', 'PAT ', 'PAT#'.
-- More Macintosh Toolbox, chapter 5, "Icon Utilities"; Imaging With QuickDraw, chapter 8, "Cursor Utilities", and chapter 3,
-- "QuickDraw Drawing".
abbrev pub is_pictured : ℕ → Bool
is_pictured kind =
    kind == 0x49434F4E || kind == 0x49434E23 || kind == 0x69637323 || kind == 0x69636D23
    || kind == 0x5349434E || kind == 0x43555253 || kind == 0x50415420 || kind == 0x50415423

-- Whether hexadecimal strings are pictures in the resources of a type.
abbrev pub pictures_of : ℕ → Pictures
pictures_of kind = if is_pictured kind then picture.OneBit else picture.None

-- How bytes from 0x80 on stand in strings.
abbrev pub letters_of : Coding → Letters
letters_of (coding.Bytes charset) = letter.Ascii
letters_of coding.Utf8 = letter.Roman

-- How names, and the comments beside data, are printed.
abbrev pub lettering_of : Coding → Lettering
lettering_of (coding.Bytes charset) = lettering.Plain charset
lettering_of coding.Utf8 = lettering.Roman

-- How the values of a type's resources are printed.
abbrev pub style_of : SourceStyle → ℕ → Style
style_of style kind = record { numbering = style.numbering; letters = letters_of style.coding; pictures = pictures_of kind }
