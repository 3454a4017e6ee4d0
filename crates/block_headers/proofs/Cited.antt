-- The names that the proofs of this library cite of others and of its specs, passed on from one place. Declares nothing.
pub use Rattle.block_headers.specs.Headers.{header_bytes, tag_number}
pub use Rattle.block_headers.specs.Slots.{IsSlotNumber, IsSlotWord, slot_number}
pub use Rattle.block_headers.specs.Words.{header}
unfoldable pub use Rattle.block_headers.specs.Words.{word, word_at}
pub use Rattle.block_headers.specs.declared.header.Header.{Header}
pub use Rattle.block_headers.specs.declared.header.Tag.{Tag}
pub use Rattle.block_headers.specs.declared.header.Tag.TheVariants.{Free, Masters, Nonrelocatable, Relocatable}
pub use Rattle.block_headers.specs.declared.slot.SlotWord.{SlotWord}
pub use Rattle.block_headers.specs.declared.slot.SlotWord.TheVariants.{Block, Empty, Unused}
pub use Rattle.byteorder.specs.Endian.{big_bytes, big_number}
pub use Rattle.byteorder.specs.Numbers.{big_number-reads_back}
pub use Rattle.memory_windows.proofs.Pieces.{piece-written, written-written}
pub use Rattle.memory_windows.specs.Writes.{piece, written}
pub use Rattle.std.proofs.Common.{Bool, List, None, Option, Some, [], ap, append_assoc, arith, drop, false, inl, inr, length, length-append}
pub use Rattle.std.proofs.Common.{refl, rules, subst, suc, sym, take, true, zero, ℕ, ◌%◌, ◌*◌, ◌++◌, ◌+◌, ◌-◌, ◌<◌, ◌^◌, ◌∙◌, ◌≡◌, ◌≤◌}
pub use Rattle.std.proofs.lemmas.List.{append-nil, drop-drop, drop-take, take-take}
pub use Rattle.std.specs.Prelude.{unwrap_or}
