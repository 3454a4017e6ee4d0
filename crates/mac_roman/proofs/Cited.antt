-- The names that the proofs of this library cite of others and of its specs, passed on from one place. Declares nothing.
pub use Rattle.mac_roman.specs.Charset.{character}
pub use Rattle.mac_roman.specs.Fault.{Stops}
pub use Rattle.mac_roman.specs.Roman.{before, bytes_of, from_roman, to_roman}
pub use Rattle.mac_roman.specs.Table.{byte_of, char_of, high}
pub use Rattle.std.proofs.Common.{Bool, List, None, Option, Some, [], ap, append-nil, append_assoc, arith, cond, drop, false, get_or}
pub use Rattle.std.proofs.Common.{length, lit<, map, refl, rules, subst, suc, sym, true, zero, ℕ, ◌++◌, ◌+◌, ◌-◌, ◌<◌, ◌∙◌, ◌∷◌, ◌≡◌}
pub use Rattle.std.proofs.lemmas.Bool.{agree_below_at, and_parts, eq-eqb, eqb-true, not-true}
pub use Rattle.std.proofs.lemmas.Bool.Decides.{nat_tests}
pub use Rattle.std.proofs.lemmas.Iterator.Adapters.{position_from-zero}
pub use Rattle.std.proofs.lemmas.List.{drop_more}
pub use Rattle.std.proofs.lemmas.List.Quantifiers.{position-Some}
pub use Rattle.std.proofs.lemmas.Str.{IsUtf8-from_ascii, IsUtf8-from_is_utf8, chars-IsAscii, chars-encodes, chars_from_encodes}
pub use Rattle.std.proofs.lemmas.Str.{is_utf8-from_IsUtf8}
pub use Rattle.std.specs.List.{AllByRecursion, flat_map, list_all, position, position_from}
pub use Rattle.std.specs.Prelude.{Err, IfErr, IfOk, Ok, Result, chars, encode_utf8_all, nat_lt, not, option_map, string_bytes, ◌&&◌, ◌==◌}
pub use Rattle.std.specs.Str.{IsAscii, IsUtf8, all_scalars, is_utf8}
