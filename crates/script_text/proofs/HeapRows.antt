-- Worked lines of calls of the Memory Manager, by computation.
use Rattle.script_text.proofs.Cited.{◌≡◌, [], ◌∷◌, Ok, Err, refl, codes, negsuc, pos, digits, BadArgument, after_blanks, token_at, Letters}
use Rattle.script_text.proofs.Cited.{Raw, Nil, argument, word_spelled, script_of, read_at, with_token, Number, reply_line}
use Rattle.script_text.specs.declared.word.CallWord.TheVariants as word
use Rattle.script_text.specs.Argument.{Number as Count}
use Rattle.script_text.proofs.Rows.{says}

-- bytes, or how many; bytes, or NIL
sought : script_of (codes "Munger h 2 \"ab\" $6364\nMunger h 0 3 NIL\nMunger h 0 \"\" \"\"") ≡ Ok (record {
  blocks = [];
  steps =
      says 1 word.Munger (Letters (codes "h") ∷ Count 2 ∷ Raw (codes "ab") ∷ Raw (codes "cd") ∷ []) ∷
      says 2 word.Munger (Letters (codes "h") ∷ Count 0 ∷ Count 3 ∷ Nil ∷ []) ∷
      says 3 word.Munger (Letters (codes "h") ∷ Count 0 ∷ Raw [] ∷ Raw [] ∷ []) ∷ [];
})
unfolding script_of read_at with_token word_spelled argument token_at after_blanks
sought = refl

-- NIL is no bytes to seek, and a number none to put
wrong_sought : (script_of (codes "Munger h 0 NIL \"a\"") ≡ Err (1, BadArgument))
    × (script_of (codes "Munger h 0 \"a\" 3") ≡ Err (1, BadArgument))
    × (script_of (codes "Munger h 0 \"a\"") ≡ Err (1, BadArgument))
unfolding script_of read_at with_token word_spelled argument token_at after_blanks
wrong_sought = (refl, refl, refl)

-- two names with offsets, also in another word; a place
moved : script_of (codes "BlockMove a 1 p 2 3\nBlockMoveData a 0 a 1 4\nRecoverHandle h 288") ≡ Ok (record {
  blocks = [];
  steps =
      says 1 word.BlockMove (Letters (codes "a") ∷ Count 1 ∷ Letters (codes "p") ∷ Count 2 ∷ Count 3 ∷ []) ∷
      says 2 word.BlockMove (Letters (codes "a") ∷ Count 0 ∷ Letters (codes "a") ∷ Count 1 ∷ Count 4 ∷ []) ∷
      says 3 word.RecoverHandle (Letters (codes "h") ∷ Count 288 ∷ []) ∷ [];
})
unfolding script_of read_at with_token word_spelled argument token_at after_blanks
moved = refl

wrong_moved : (script_of (codes "BlockMove a 1 p 2") ≡ Err (1, BadArgument))
    × (script_of (codes "BlockMove a 1 p 2 3 4") ≡ Err (1, BadArgument))
    × (script_of (codes "RecoverHandle h p") ≡ Err (1, BadArgument))
unfolding script_of read_at with_token word_spelled argument token_at after_blanks
wrong_moved = (refl, refl, refl)

-- an offset that says that nothing was found
not_found : reply_line 7 word.Munger (pos 0) (Number (negsuc 0) ∷ []) ≡ codes "7 Munger 0 -1\n"
unfolding digits
not_found = refl
