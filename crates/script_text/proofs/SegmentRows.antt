-- Worked lines of the Segment Manager's calls, by computation.
use Rattle.script_text.proofs.Cited.{◌≡◌, [], ◌∷◌, Ok, Err, refl, codes, pos, negsuc, digits, BadArgument, NotAllowed, after_blanks}
use Rattle.script_text.proofs.Cited.{token_at, Signed, argument, word_spelled, script_of, read_at, with_token, Number, reply_line}
use Rattle.script_text.proofs.Cited.{grow_line}
use Rattle.script_text.specs.declared.word.CallWord.TheVariants as word
use Rattle.script_text.specs.Argument.{Number as Count}
use Rattle.script_text.proofs.Rows.{says}

-- segments below 0 and above, and entries from 0 on
segments_and_entries : script_of (codes "LoadSeg -3\nUnloadSeg 32767\nCallEntry 0\nShowEntry 2147483647")
    ≡ Ok (record {
      blocks = [];
      steps =
          says 1 word.LoadSeg (Signed (negsuc 2) ∷ []) ∷
          says 2 word.UnloadSeg (Signed (pos 32767) ∷ []) ∷
          says 3 word.CallEntry (Count 0 ∷ []) ∷
          says 4 word.ShowEntry (Count 2147483647 ∷ []) ∷ [];
    })
unfolding script_of read_at with_token word_spelled argument token_at after_blanks
segments_and_entries = refl

-- segments out of range and none; entries below 0, out of range and none; an argument too many
faulty : (script_of (codes "LoadSeg 32768") ≡ Err (1, BadArgument))
    × (script_of (codes "UnloadSeg -32769") ≡ Err (1, BadArgument))
    × (script_of (codes "LoadSeg") ≡ Err (1, BadArgument))
    × (script_of (codes "CallEntry -1") ≡ Err (1, BadArgument))
    × (script_of (codes "ShowEntry 2147483648") ≡ Err (1, BadArgument))
    × (script_of (codes "ShowEntry") ≡ Err (1, BadArgument))
    × (script_of (codes "CallEntry 0 1") ≡ Err (1, BadArgument))
unfolding script_of read_at with_token word_spelled argument token_at after_blanks
faulty = (refl, refl, refl, refl, refl, refl, refl)

-- a grow-zone script may unload a segment, and load none: that is its fault before a bad argument is
unloaded : script_of (codes "grow g\nUnloadSeg 1\nend") ≡ Ok (record {
  steps = [];
  blocks = (codes "g", says 2 word.UnloadSeg (Signed (pos 1) ∷ []) ∷ []) ∷ [];
})
unfolding script_of read_at with_token word_spelled argument token_at after_blanks
unloaded = refl

not_loaded : script_of (codes "grow g\nLoadSeg 1\nend") ≡ Err (2, NotAllowed)
unfolding script_of read_at with_token word_spelled argument token_at after_blanks
not_loaded = refl

not_loaded_first : script_of (codes "grow g\nLoadSeg 32768\nend") ≡ Err (2, NotAllowed)
unfolding script_of read_at with_token word_spelled argument token_at after_blanks
not_loaded_first = refl

not_called : script_of (codes "grow g\nCallEntry 0\nend") ≡ Err (2, NotAllowed)
unfolding script_of read_at with_token word_spelled argument token_at after_blanks
not_called = refl

-- a segment below 0 with a flag, and one with the other; a call without values, and one that was refused
told : (reply_line 3 word.CallEntry (pos 0) (Number (negsuc 2) ∷ Number (pos 1) ∷ []) ≡ codes "3 CallEntry 0 -3 1\n")
    × (reply_line 4 word.ShowEntry (pos 0) (Number (pos 2) ∷ Number (pos 0) ∷ []) ≡ codes "4 ShowEntry 0 2 0\n")
    × (grow_line 5 word.UnloadSeg (pos 0) [] ≡ codes "+5 UnloadSeg 0\n")
    × (reply_line 6 word.LoadSeg (pos 15) [] ≡ codes "6 LoadSeg 15\n")
unfolding digits
told = (refl, refl, refl, refl)
