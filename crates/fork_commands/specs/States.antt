use Rattle.std.specs.Prelude.{ℕ, ◌+◌, ◌==◌, ◌&&◌, nat_le, Bool, true, false, not, Option, Some, None, Result, Ok, Err}
use Rattle.std.specs.Prelude.{List, [], ◌∷◌, ◌++◌, length, is_ok, bytes_eq, codes, decimal, if◌then◌else◌}
use Rattle.bin_hex.specs.declared.fault.Damage.{Damage}
use Rattle.bin_hex.specs.declared.fault.Damage.TheVariants as damage
use Rattle.bin_hex.specs.declared.fault.Part.{Part}
use Rattle.bin_hex.specs.declared.fault.Part.TheVariants as part
use Rattle.fork_format.specs.Canonical.{canon, fits}
use Rattle.fork_format.specs.Content.{Content}
use Rattle.fork_format.specs.Fork.{number, content_of}
use Rattle.fork_rules.specs.declared.rules.Broken.{Broken}
use Rattle.fork_rules.specs.declared.rules.Rule.{Rule}
use Rattle.fork_rules.specs.declared.rules.Rule.TheVariants as rule
use Rattle.fork_rules.specs.Breaking.{broken}
use Rattle.fork_rules.specs.Texts.{damaged_text, form_text}
use Rattle.fork_wrappers.specs.declared.fault.EntriesFault.{EntriesFault}
use Rattle.fork_wrappers.specs.declared.fault.EntriesFault.TheVariants as entries
use Rattle.fork_wrappers.specs.declared.fault.MacBinaryFault.{MacBinaryFault}
use Rattle.fork_wrappers.specs.declared.fault.MacBinaryFault.TheVariants as mac_binary
use Rattle.fork_wrappers.specs.declared.fault.WrapFault.{WrapFault}
use Rattle.fork_wrappers.specs.declared.fault.WrapFault.TheVariants as wrapper
use Rattle.fork_commands.specs.declared.fault.FileFault.{FileFault}
use Rattle.fork_commands.specs.declared.fault.FileFault.TheVariants.{Code, Wrapper, BinHex, Unfit, TakenId, InBoth, Source, ReadsFiles}
use Rattle.fork_commands.specs.declared.fault.FileFault.TheVariants.{Contents}
use Rattle.fork_commands.specs.declared.opening.Container.{Container}
use Rattle.fork_commands.specs.declared.opening.Container.TheVariants.{Wrapped, BinHex as InBinHex}
use Rattle.fork_commands.specs.Opening.{is_unwrapped, container_of}
use Rattle.fork_commands.specs.Reading.{fork_in, content_in}

-- The state of a file: whether it has a resource fork, and of which form that is, in words.

-- The rule is one of the header of 16 bytes, or of what it says of the bytes.
abbrev pub is_header_rule : Rule → Bool
is_header_rule rule.HeaderCutOff = true
is_header_rule rule.DataOutside = true
is_header_rule rule.MapOutside = true
is_header_rule rule.MapTooShort = true
is_header_rule _ = false

-- The header is one as programs write it: the resource data begins at 256, and the map where the resource data ends.
-- More Macintosh Toolbox, chapter 1, "Resource File Format".
unfoldable pub has_header : List ℕ → Bool
has_header bytes = nat_le 16 (length bytes) && number 4 0 bytes == 256 && number 4 4 bytes == 256 + number 4 8 bytes

-- The bytes are no fork that was damaged, but something else: nothing but the header is wrong, and it is none that
-- programs write.
abbrev pub is_foreign : List ℕ → Broken → Bool
is_foreign bytes b = is_header_rule b.rule && not (has_header bytes)

-- The word for a fork that is damaged, with the rule that it breaks, and where, if that is asked for.
abbrev pub damaged_words : Bool → Broken → List ℕ
damaged_words false b = codes "damaged"
damaged_words true b = damaged_text b

-- The words for bytes that break a rule; `bare` says that they are a whole file, and stand in no wrapper.
abbrev pub broken_words : Bool → Bool → List ℕ → Broken → List ℕ
broken_words why bare fork b = if bare && is_foreign fork b then codes "not a fork" else damaged_words why b

-- The word for a fork that is canonical, or is not.
abbrev pub canonical_word : Bool → List ℕ
canonical_word true = codes "canonical"
canonical_word false = codes "accepted"

-- The word for a fork of a content.
unfoldable pub form_word : Content → List ℕ → List ℕ
form_word c fork = canonical_word (fits c && bytes_eq fork (canon c))

-- The word for a fork, with the regions in which it differs from its canonical fork, if that is asked for.
abbrev pub form_words : Bool → List ℕ → List ℕ
form_words false fork = form_word (content_of fork) fork
form_words true fork = form_text (content_of fork) fork

-- The first rule of the format that a fork breaks.
unfoldable pub rule_of : List ℕ → Option Broken
rule_of fork = broken fork

-- The words for a fork that has bytes, by the first rule that it breaks.
abbrev pub judged_words : Bool → Bool → List ℕ → Option Broken → List ℕ
judged_words why bare fork (Some b) = broken_words why bare fork b
judged_words why bare fork None = form_words why fork

-- The words for a fork.
abbrev pub fork_words : Bool → Bool → List ℕ → List ℕ
fork_words why bare [] = codes "no fork"
fork_words why bare (b ∷ bytes) = judged_words why bare (b ∷ bytes) (rule_of (b ∷ bytes))

-- How AppleSingle or AppleDouble is damaged, in words.
abbrev pub entries_words : EntriesFault → List ℕ
entries_words entries.HeaderCutOff = codes "the header is cut off"
entries_words entries.UnknownVersion = codes "the version is unknown"
entries_words entries.EntriesCutOff = codes "the list of entries is cut off"
entries_words entries.EntryOutside = codes "an entry lies outside the file"
entries_words entries.SeveralForks = codes "there is more than one resource fork"

-- How MacBinary is damaged, in words.
abbrev pub mac_binary_words : MacBinaryFault → List ℕ
mac_binary_words mac_binary.WrongChecksum = codes "the checksum is wrong"
mac_binary_words mac_binary.LaterVersion = codes "a later version is needed"
mac_binary_words mac_binary.DataForkOutside = codes "the data fork is cut off"
mac_binary_words mac_binary.ResourceForkOutside = codes "the resource fork is cut off"

-- Which wrapper is damaged, and how.
unfoldable pub wrapper_words : WrapFault → List ℕ
wrapper_words (wrapper.AppleSingle fault) = codes "AppleSingle: " ++ entries_words fault
wrapper_words (wrapper.AppleDouble fault) = codes "AppleDouble: " ++ entries_words fault
wrapper_words (wrapper.MacBinary fault) = codes "MacBinary: " ++ mac_binary_words fault

-- A part of a BinHex file.
abbrev pub part_words : Part → List ℕ
part_words part.Header = codes "header"
part_words part.DataFork = codes "data fork"
part_words part.ResourceFork = codes "resource fork"

-- The byte at an offset is no character of the encoding.
unfoldable pub foreign_words : ℕ → List ℕ
foreign_words at = codes "the byte at " ++ decimal at ++ codes " is no character of the encoding"

-- The checksum of a part is wrong.
unfoldable pub checksum_words : Part → List ℕ
checksum_words piece = codes "the checksum of the " ++ part_words piece ++ codes " is wrong"

-- How a BinHex file is damaged, in words.
unfoldable pub damage_words : Damage → List ℕ
damage_words damage.NoMark = codes "no line says that the file must be converted"
damage_words damage.NoStart = codes "no colon begins the encoded text"
damage_words damage.NoEnd = codes "no colon ends the encoded text"
damage_words (damage.Foreign at) = foreign_words at
damage_words damage.NoByteToRepeat = codes "a run begins the file, with no byte to repeat"
damage_words damage.NameLength = codes "the name's length is not 1 to 63"
damage_words damage.CutOff = codes "the encoded file is cut off"
damage_words (damage.WrongChecksum piece) = checksum_words piece
damage_words damage.TooLong = codes "more bytes follow the last checksum"

-- Which wrapper of a file is damaged, and how.
unfoldable pub fault_why : FileFault → List ℕ
fault_why (Wrapper fault) = codes ": " ++ wrapper_words fault
fault_why (BinHex damage) = codes ": BinHex: " ++ damage_words damage
fault_why (Code code) = []
fault_why (Unfit fault) = []
fault_why TakenId = []
fault_why (InBoth twin) = []
fault_why (Source fault) = []
fault_why ReadsFiles = []
fault_why (Contents line why) = []

-- The words for a file in which no fork is found, and why, if that is asked for.
abbrev pub fault_words : Bool → FileFault → List ℕ
fault_words false fault = codes "wrapper damaged"
fault_words true fault = codes "wrapper damaged" ++ fault_why fault

-- The words for a fork that is found in a file, or for how the file is damaged.
abbrev pub found_words : Bool → Bool → Result (List ℕ) FileFault → List ℕ
found_words why bare (Ok fork) = fork_words why bare fork
found_words why bare (Err fault) = fault_words why fault

-- The file is a fork as it stands, in no wrapper.
abbrev pub is_bare : Container → Bool
is_bare (Wrapped wrapping) = is_unwrapped wrapping
is_bare InBinHex = false

-- The state of a file, in words.
abbrev pub state_words : Bool → List ℕ → List ℕ
state_words why bytes = found_words why (is_bare (container_of bytes)) (fork_in bytes)

-- The file has a fork that has a content: it is canonical or accepted.
abbrev pub has_content : List ℕ → Bool
has_content bytes = is_ok (content_in bytes)
