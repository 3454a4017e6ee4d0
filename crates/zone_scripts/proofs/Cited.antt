-- The names that the proofs of this library cite of others and of its specs, passed on from one place. Declares nothing.
pub use Rattle.block_store.specs.Block.{Free, Masters, Nonrelocatable, Relocatable}
pub use Rattle.mac_words.proofs.Appending.{also}
pub use Rattle.std.proofs.Common.{List, [], ap, codes, drop, false, refl, replicate, true, ◌*◌, ◌++◌, ◌+◌, ◌∙◌, ◌∷◌, ◌≡◌, ◌≤◌}
pub use Rattle.std.specs.List.{flat_map}
pub use Rattle.zone_scripts.specs.Copied.{parts_of}
unfoldable pub use Rattle.zone_scripts.specs.Hex.{digit_at, hex_text}
pub use Rattle.zone_scripts.specs.Lines.{DisposePtr, HLock, HPurge, HUnlock, MoreMasters, NewHandle, NewPtr, ending, lines_of, making}
pub use Rattle.zone_scripts.specs.Lines.{named}
pub use Rattle.zone_scripts.specs.Parts.{Fixed, Gap, Part, Relocated, bytes_of, handles, partition_of, zone_of}
pub use Rattle.zone_scripts.specs.Text.{lines_text}
unfoldable pub use Rattle.zone_scripts.specs.Text.{notes_text, zone_phrase}
