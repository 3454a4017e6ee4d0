use Rattle.std.specs.Prelude.{ℕ, ℤ, Bool, ◌==◌, List, [], ◌∷◌, ◌++◌, if◌then◌else◌, bit_and, codes, decimal, length}
use Rattle.std.specs.Fmt.{signed_decimal}
use Rattle.mac_roman.specs.declared.charset.Charset.{Charset}
use Rattle.fork_format.specs.Content.{Ref}
use Rattle.fork_edits.specs.Resources.{Row}
use Rattle.fork_edits.specs.Differences.{Parts, Difference, Area, MapAttrs, Removed, Changed, Added, Order}
use Rattle.fork_edits.specs.Texts.{type_text, name_text}

-- Resources and differences as lines that a person reads, in the characters of a set.

-- The ID, the attributes and the length of a resource, with a blank before each.
abbrev pub numbers_text : Ref → List ℕ
numbers_text r = codes " " ++ signed_decimal r.id ++ codes " " ++ decimal r.attrs ++ codes " "
    ++ decimal (length r.datum)

-- A resource: its type, ID, attributes, length and name.
abbrev pub row_text : Charset → Row → List ℕ
row_text charset r =
    type_text charset r.kind ++ numbers_text r.resource ++ codes " " ++ name_text charset r.resource.name

-- The line of a resource, after a sign.
abbrev pub row_line : Charset → ℕ → Row → List ℕ
row_line charset sign r = (sign ∷ codes " ") ++ row_text charset r ++ codes "\n"

-- A word where a test passes.
abbrev pub word_if : Bool → List ℕ → List ℕ
word_if test word = if test then word else []

-- The parts that differ.
abbrev pub parts_text : Parts → List ℕ
parts_text p =
    word_if p.name (codes " name") ++ word_if p.attrs (codes " attributes") ++ word_if p.datum (codes " bytes")

-- A type and an ID.
abbrev pub key_text : Charset → ℕ → ℤ → List ℕ
key_text charset kind id = type_text charset kind ++ codes " " ++ signed_decimal id

-- The line of a resource of which some parts differ.
abbrev pub changed_line : Charset → ℕ → ℤ → Parts → List ℕ
changed_line charset kind id p = codes "~ " ++ key_text charset kind id ++ parts_text p ++ codes "\n"

-- The line of a difference: - for a resource that was removed, + for one that was added, ~ for what differs.
abbrev pub difference_line : Charset → Difference → List ℕ
difference_line charset Area = codes "~ area\n"
difference_line charset MapAttrs = codes "~ map attributes\n"
difference_line charset (Removed old) = row_line charset 45 old
difference_line charset (Changed kind id p) = changed_line charset kind id p
difference_line charset (Added new) = row_line charset 43 new
difference_line charset Order = codes "~ order\n"

-- The word after a resource whose stored data is compressed (resCompressed, bit 0 of its attributes): the data is kept as it
-- is stored.
abbrev pub compressed_text : ℕ → List ℕ
compressed_text attrs = if bit_and attrs 1 == 0 then [] else codes " compressed"
