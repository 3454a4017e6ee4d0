use Rattle.std.specs.Prelude.{ℕ, ℤ, List}
use Rattle.mac_words.specs.declared.code.OsErr.{OsErr}

-- What a call returns. The call was done (`Done`), or returned a new number (`Given`), or a resource's handle and
-- whether its stored data was read for it, 1 or 0 (`Fetched`); it returned a number or two, an offset, which is negative
-- where nothing was found (`Offset`), a result code, bytes, a type (`Kind`), or the ID, type and name of a resource
-- (`Info`); it returned the segment of a jump table's entry and a flag, 1 or 0, which says whether the segment was read
-- for the call, or whether the entry is loaded (`Entry`); or it was refused, with a result code.
-- See decision 4 (all calls report in one type).
pub data Told : Type 0 where
  Done : Told
  Given : (number : ℕ) → Told
  Fetched : (handle : ℕ) (read : ℕ) → Told
  Number : (number : ℕ) → Told
  Numbers : (one : ℕ) (other : ℕ) → Told
  Offset : (offset : ℤ) → Told
  Code : (code : OsErr) → Told
  Bytes : (bytes : List ℕ) → Told
  Kind : (kind : ℕ) → Told
  Info : (id : ℤ) (kind : ℕ) (name : List ℕ) → Told
  Entry : (segment : ℤ) (flag : ℕ) → Told
  Refused : (code : OsErr) → Told
