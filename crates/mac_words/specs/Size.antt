use Rattle.std.specs.Prelude.{ℕ, ◌+◌, ◌*◌, ◌/◌, Option, Some, None, nat_le, if◌then◌else◌}

-- The physical size of a block whose logical size is s bytes: a header of 16 bytes, and s rounded up to a multiple of
-- 16.
-- Inside Macintosh: Memory, chapter 2, "Block Headers".
abbrev pub padded : ℕ → ℕ
padded s = 16 + 16 * ((s + 15) / 16)

-- The physical size of a block of s bytes; none where a block can't have s bytes.
-- See decision 22 (a block of more than 2147483616 bytes has no physical size).
abbrev pub phys : ℕ → Option ℕ
phys s = if nat_le s 2147483616 then Some (padded s) else None
