-- What a clause sees of a region and of its parts.
use Rattle.std.specs.Prelude.{ℕ, List, ◌++◌, length, take, drop}
use denote.RawPtr.{Ptr}
use Rattle.memory_windows.specs.declared.Window.{Window}

-- A part: the address of its region, its place in that region, and its bytes.
pub record Bytes : Type 0 where
  pub home : Ptr
  pub at : ℕ
  pub bytes : List ℕ

-- The part `p` with the bytes `ws`. A list that is longer than the part is cut, and one that is shorter is filled up
-- with the part's own bytes, so that the length stays.
abbrev pub with_bytes : Bytes → List ℕ → Bytes
with_bytes p ws = record { home = p.home; at = p.at; bytes = take (length p.bytes) (ws ++ drop (length ws) p.bytes) }

-- A region: its address; its bytes, in which each byte of a window in use is 0; and the windows in use, in order of
-- place.
-- See decision 137 (bytes of a window that is out read 0 in the region's meaning).
pub record Whole : Type 0 where
  pub home : Ptr
  pub bytes : List ℕ
  pub out : List Window
