pub use Rattle.mac_words.proofs.Appending.{also}
