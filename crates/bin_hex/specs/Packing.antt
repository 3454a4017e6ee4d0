use Rattle.std.specs.Prelude.{ℕ, ◌+◌, ◌*◌, ◌/◌, ◌%◌, ◌<◌, List, [], ◌∷◌, ◌++◌, ⊤}
use Rattle.bin_hex.specs.declared.packing.Held.{Held}
use Rattle.bin_hex.specs.declared.packing.Held.TheVariants as held
use Rattle.bin_hex.specs.declared.packing.Left.{Left}
use Rattle.bin_hex.specs.declared.packing.Left.TheVariants as left

-- Bytes as groups of six bits, and back. The bits of a byte are taken from the highest on; RFC 1741, appendix A.

-- The byte that six more bits complete, after bits that are held.
abbrev pub completed : Held → ℕ → List ℕ
completed held.Nothing sextet = []
completed (held.Six bits) sextet = (bits * 4 + sextet / 16) ∷ []
completed (held.Four bits) sextet = (bits * 16 + sextet / 4) ∷ []
completed (held.Two bits) sextet = (bits * 64 + sextet) ∷ []

-- The bits that are held then.
abbrev pub held_after : Held → ℕ → Held
held_after held.Nothing sextet = held.Six sextet
held_after (held.Six bits) sextet = held.Four (sextet % 16)
held_after (held.Four bits) sextet = held.Two (sextet % 4)
held_after (held.Two bits) sextet = held.Nothing

-- Bits that are held are no more than they are called.
abbrev pub IsHeld : Held → Type 0
IsHeld held.Nothing = ⊤
IsHeld (held.Six bits) = bits < 64
IsHeld (held.Four bits) = bits < 16
IsHeld (held.Two bits) = bits < 4

-- The bytes of groups of six bits, after bits that are held. Bits that make no whole byte at the end are let go.
abbrev pub bytes_after : Held → List ℕ → List ℕ
bytes_after bits [] = []
bytes_after bits (sextet ∷ groups) = completed bits sextet ++ bytes_after (held_after bits sextet) groups

-- The groups of six bits that a byte completes, after bits that are left of the byte before it.
abbrev pub groups_of : Left → ℕ → List ℕ
groups_of left.Nothing byte = (byte / 4) ∷ []
groups_of (left.Two bits) byte = (bits * 16 + byte / 16) ∷ []
groups_of (left.Four bits) byte = (bits * 4 + byte / 64) ∷ (byte % 64) ∷ []

-- The bits that are left then.
abbrev pub left_after : Left → ℕ → Left
left_after left.Nothing byte = left.Two (byte % 4)
left_after (left.Two bits) byte = left.Four (byte % 16)
left_after (left.Four bits) byte = left.Nothing

-- Bits that are left are no more than they are called.
abbrev pub IsLeft : Left → Type 0
IsLeft left.Nothing = ⊤
IsLeft (left.Two bits) = bits < 4
IsLeft (left.Four bits) = bits < 16

-- The group that bits make which are left at the end, with zeros below them.
abbrev pub last_group : Left → List ℕ
last_group left.Nothing = []
last_group (left.Two bits) = (bits * 16) ∷ []
last_group (left.Four bits) = (bits * 4) ∷ []

-- The groups of six bits of bytes, after bits that are left.
abbrev pub groups_after : Left → List ℕ → List ℕ
groups_after bits [] = last_group bits
groups_after bits (byte ∷ bytes) = groups_of bits byte ++ groups_after (left_after bits byte) bytes
