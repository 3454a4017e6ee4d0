-- Words found by their spelling.
use Rattle.script_text.proofs.Cited.{◌≡◌, ℕ, List, true, Some, refl, sym, ap, ◌∙◌, bytes_eq-Decides, CallWord, word_spelled}
use Rattle.std.proofs.Common.{bytes_eq}
use Rattle.script_text.specs.declared.word.CallWord.TheVariants as word
use Rattle.script_text.specs.Call.{spelling}

-- each word in turn, by computation
pub found : (w : CallWord) → word_spelled (spelling w) ≡ Some w
unfolding word_spelled
found word.NewHandle = refl
found _ = refl

-- a token that spells a word finds it
pub spelled_so : (w : CallWord) (token : List ℕ) → bytes_eq (spelling w) token ≡ true → Some w ≡ word_spelled token
spelled_so w token h = sym (found w) ∙ ap word_spelled ((bytes_eq-Decides (spelling w) token).0 h)
