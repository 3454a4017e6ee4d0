-- The names that the proofs of this library cite of others and of its specs, passed on from one place. Declares nothing.
pub use Rattle.bin_hex.specs.Alphabet.{IsRole, alphabet, character, is_blank, is_dark, role_at, role_of}
pub use Rattle.bin_hex.specs.BinHex.{decoded, encoded, encoded_in, groups, marked_in, packed_in, unpacked}
pub use Rattle.bin_hex.specs.Contents.{after_length, bytes_of, checked, data_length, field, fields, file_of, header, name_length, named}
pub use Rattle.bin_hex.specs.Contents.{piece, resource_length, with_checksum}
unfoldable pub use Rattle.bin_hex.specs.Contents.{file_in, fork_in, header_in}
pub use Rattle.bin_hex.specs.Faults.{◌>>=◌}
pub use Rattle.bin_hex.specs.File.{AreBytes, File, IsOfBytes, is_name_length, refusal}
pub use Rattle.bin_hex.specs.Packing.{IsHeld, IsLeft, bytes_after, completed, groups_after, held_after}
pub use Rattle.bin_hex.specs.Putting.{closing, encoded_lines, encoded_text, opening, or_none, placed, put_or_damage, with_file, with_fork}
unfoldable pub use Rattle.bin_hex.specs.Putting.{with_resource_fork}
pub use Rattle.bin_hex.specs.Reader.{given, marked_after, rest_of}
pub use Rattle.bin_hex.specs.Runs.{begins_with_run, compressed, expanded, literal, run, runs_after}
pub use Rattle.bin_hex.specs.Text.{after_colon, after_mark, begins, column_after, in_lines, is_bin_hex, mark, put_in_line, read_from}
pub use Rattle.bin_hex.specs.Text.{sextets, with_first}
pub use Rattle.bin_hex.specs.declared.alphabet.Role.{Role}
pub use Rattle.bin_hex.specs.declared.alphabet.TheConstants.{PLACES}
pub use Rattle.bin_hex.specs.declared.fault.Damage.{Damage}
pub use Rattle.bin_hex.specs.declared.fault.Part.{Part}
pub use Rattle.bin_hex.specs.declared.packing.Held.{Held}
pub use Rattle.bin_hex.specs.declared.packing.Left.{Left}
pub use Rattle.byteorder.specs.Endian.{big_bytes, big_number}
pub use Rattle.byteorder.specs.Numbers.{big_from-lt, big_number-reads_back}
pub use Rattle.checksums.proofs.Sums.{checksum-small}
pub use Rattle.checksums.specs.Checksum.{checksum}
unfoldable pub use Rattle.checksums.specs.Checksum.{with_bits}
pub use Rattle.plain_laws.proofs.Bytes.{byte-at, bytes-append, bytes-drop, bytes-take}
pub use Rattle.std.proofs.Common.{Bool, List, [], ap, append_assoc, arith, cond, drop, false, get_or, inl, inr, length, length-append, lit<}
pub use Rattle.std.proofs.Common.{map, not, refl, replicate, rules, set, subst, suc, sym, take, true, zero, ℕ, ◌%◌, ◌&&◌, ◌*◌, ◌++◌, ◌+◌}
pub use Rattle.std.proofs.Common.{◌-◌, ◌/◌, ◌<◌, ◌^◌, ◌||◌, ◌∙◌, ◌∷◌, ◌≡◌, ◌≢◌, ◌≤◌}
pub use Rattle.std.proofs.Math.Seq.{drop-append-add, drop-append_seam, take-append_seam}
pub use Rattle.std.proofs.lemmas.Bool.{agree_below_at, and_cases, and_left, and_parts, and_right, cases_Bool, eq-eqb, eqb-true, le-leb}
pub use Rattle.std.proofs.lemmas.Bool.{le-ltb, leb-false, leb-true, lt-ltb, ltb-false, ltb-true, ne_eqb}
pub use Rattle.std.proofs.lemmas.List.{append-nil, drop-drop, drop_all, drop_more, length-drop, length-replicate, length-take-le, take_more}
pub use Rattle.std.proofs.lemmas.List.{take_rest}
pub use Rattle.std.proofs.lemmas.List.Quantifiers.{position-Some}
pub use Rattle.std.proofs.lemmas.Slice.Eq.{bytes_eq-Decides}
pub use Rattle.std.specs.List.{AllByRecursion, list_all, starts_with}
pub use Rattle.std.specs.Prelude.{Err, None, Ok, Option, Result, Some, bytes_eq, codes, filter, flat_map, if◌then◌else◌, is_some, nat_le}
pub use Rattle.std.specs.Prelude.{nat_lt, position, ◌==◌}
