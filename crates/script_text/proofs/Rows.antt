-- Worked lines, by computation.
use Rattle.script_text.proofs.Cited.{◌≡◌, ℕ, List, [], ◌∷◌, Ok, Err, refl, codes, pos, negsuc, digits, UnknownCall, BadArgument, CallWord}
use Rattle.script_text.proofs.Cited.{after_blanks, token_at, Value, Letters, Raw, argument, word_spelled, script_of, read_at, with_token}
use Rattle.script_text.proofs.Cited.{Statement, Makes, Number, Bytes, launch_line, end_line, reply_line}
use Rattle.script_text.specs.declared.word.CallWord.TheVariants as word
use Rattle.script_text.specs.Argument.{Number as Count}

-- a line that holds a call
abbrev pub says : ℕ → CallWord → List Value → Statement
says n w values = record { line = n; said = Makes w values }

nothing : script_of [] ≡ Ok (record { steps = []; blocks = [] })
unfolding script_of
nothing = refl

-- no size; no call; the first of two faults; a word before its arguments; a lone return, and two; more behind a
-- quote
faulty : (script_of (codes "NewHandle a") ≡ Err (1, BadArgument))
    × (script_of (codes "Foo") ≡ Err (1, UnknownCall))
    × (script_of (codes "FreeMem\nShow\nFoo\n") ≡ Err (2, BadArgument))
    × (script_of (codes "newhandle 1 \"\n") ≡ Err (1, UnknownCall))
    × (script_of (codes "FreeMem\r") ≡ Err (1, UnknownCall))
    × (script_of (codes "FreeMem\r\r\n") ≡ Err (1, UnknownCall))
    × (script_of (codes "Put a 0 \"x\"\"y\"") ≡ Err (1, BadArgument))
unfolding script_of read_at with_token word_spelled argument token_at after_blanks
faulty = (refl, refl, refl, refl, refl, refl, refl)

some_lines : script_of (codes "\n# no call\r\n  Put a\t1 \"H i\"  \n\t #\nPut _b2 007 $4869fF\r\nFreeMem")
    ≡ Ok (record {
      blocks = [];
      steps =
          says 3 word.Put (Letters (codes "a") ∷ Count 1 ∷ Raw (codes "H i") ∷ []) ∷
          says 5 word.Put (Letters (codes "_b2") ∷ Count 7 ∷ Raw (72 ∷ 105 ∷ 255 ∷ []) ∷ []) ∷
          says 6 word.FreeMem [] ∷ [];
    })
unfolding script_of read_at with_token word_spelled argument token_at after_blanks
some_lines = refl

no_bytes : script_of (codes "Put a 0 \"\"\nPut a 0 $") ≡ Ok (record {
  blocks = [];
  steps =
      says 1 word.Put (Letters (codes "a") ∷ Count 0 ∷ Raw [] ∷ []) ∷
      says 2 word.Put (Letters (codes "a") ∷ Count 0 ∷ Raw [] ∷ []) ∷ [];
})
unfolding script_of read_at with_token word_spelled argument token_at after_blanks
no_bytes = refl

-- the lines of a launch, of an end and of replies: with one value, with two, with no byte, and refused
told : (launch_line 1488 ≡ codes "launch 0 1488\n")
    × (end_line (pos 0) ≡ codes "end 0\n")
    × (end_line (negsuc 33) ≡ codes "end -34\n")
    × (reply_line 8 word.Where (pos 0) (Number (pos 288) ∷ []) ≡ codes "8 Where 0 288\n")
    × (reply_line 12 word.FreeMem (pos 0) (Number (negsuc 107) ∷ Bytes (171 ∷ 7 ∷ []) ∷ [])
    ≡ codes "12 FreeMem 0 -108 $ab07\n")
    × (reply_line 2 word.Show (pos 0) (Bytes [] ∷ []) ≡ codes "2 Show 0 $\n")
    × (reply_line 9 word.NewHandle (negsuc 107) (Number (pos 5) ∷ []) ≡ codes "9 NewHandle -108\n")
unfolding digits
told = (refl, refl, refl, refl, refl, refl, refl)
