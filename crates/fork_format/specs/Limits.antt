use Rattle.std.specs.Prelude.{ℕ}

-- The limits of a resource fork. Offsets in the resource map have two bytes, those of stored data three.
-- More Macintosh Toolbox, chapter 1, "Resource File Format".

-- The greatest total size of the stored data of a fork, with its lengths: 128 MB.
abbrev pub most_data : ℕ
most_data = 134217728

-- The greatest number of references in a fork that is read.
abbrev pub most_references : ℕ
most_references = 65536

-- The greatest offset of a list in the resource map; also the greatest number of types.
abbrev pub most_offset : ℕ
most_offset = 65535

-- The offset of the name of a resource that has no name.
abbrev pub no_name : ℕ
no_name = 65535

-- The greatest offset of a name: the next number stands for none.
abbrev pub most_name_offset : ℕ
most_name_offset = 65534

-- The greatest offset of stored data.
abbrev pub most_datum_offset : ℕ
most_datum_offset = 16777215
