-- Worked lines of the Resource Manager's calls, by computation.
use Rattle.script_text.proofs.Cited.{◌≡◌, [], ◌∷◌, true, false, Ok, Err, refl, codes, pos, negsuc, digits, BadArgument, NotAllowed}
use Rattle.script_text.proofs.Cited.{after_blanks, token_at, Letters, Signed, Raw, Flag, argument, word_spelled, script_of, read_at}
use Rattle.script_text.proofs.Cited.{with_token, Number, Bytes, reply_line}
use Rattle.script_text.specs.declared.word.CallWord.TheVariants as word
use Rattle.script_text.specs.Argument.{Number as Count}
use Rattle.script_text.proofs.Rows.{says}

-- types with a blank, of four quotes and in hexadecimal; IDs below 0, and 0 with a minus
types_and_ids : script_of (codes "GetResource h 'STR ' -128\nGet1Resource h '''''' -0\nCount1Resources $3F27aB00")
    ≡ Ok (record {
      blocks = [];
      steps =
          says 1 word.GetResource (Letters (codes "h") ∷ Raw (codes "STR ") ∷ Signed (negsuc 127) ∷ []) ∷
          says 2 word.Get1Resource (Letters (codes "h") ∷ Raw (codes "''''") ∷ Signed (pos 0) ∷ []) ∷
          says 3 word.Count1Resources (Raw (63 ∷ 39 ∷ 171 ∷ 0 ∷ []) ∷ []) ∷ [];
    })
unfolding script_of read_at with_token word_spelled argument token_at after_blanks
types_and_ids = refl

-- a name of no byte, a place, and a file
names_and_places : script_of (codes "GetNamedResource h 'a b\"' \"\"\nGet1IndResource _ 'STR#' 2\nOpenResFile \"D 1\"")
    ≡ Ok (record {
      blocks = [];
      steps =
          says 1 word.GetNamedResource (Letters (codes "h") ∷ Raw (codes "a b\"") ∷ Raw [] ∷ []) ∷
          says 2 word.Get1IndResource (Letters (codes "_") ∷ Raw (codes "STR#") ∷ Count 2 ∷ []) ∷
          says 3 word.OpenResFile (Raw (codes "D 1") ∷ []) ∷ [];
    })
unfolding script_of read_at with_token word_spelled argument token_at after_blanks
names_and_places = refl

-- files, types, IDs, names and attributes that are to be changed; a name of no byte
changes : script_of (codes "CreateResFile \"D\"\nAddResource h 'STR ' -1 \"\"\nSetResInfo h 7 \"a\"\nSetResAttrs h 255")
    ≡ Ok (record {
      blocks = [];
      steps =
          says 1 word.CreateResFile (Raw (codes "D") ∷ []) ∷
          says 2 word.AddResource (Letters (codes "h") ∷ Raw (codes "STR ") ∷ Signed (negsuc 0) ∷ Raw [] ∷ []) ∷
          says 3 word.SetResInfo (Letters (codes "h") ∷ Signed (pos 7) ∷ Raw (codes "a") ∷ []) ∷
          says 4 word.SetResAttrs (Letters (codes "h") ∷ Count 255 ∷ []) ∷ [];
    })
unfolding script_of read_at with_token word_spelled argument token_at after_blanks
changes = refl

-- parts of stored data: of no byte at the start, in both spellings of bytes, and a size
parts : script_of (codes "ReadPartialResource h 1 2\nWritePartialResource h 0 \"ey\"\nWritePartialResource h 3 $")
    ≡ Ok (record {
      blocks = [];
      steps =
          says 1 word.ReadPartialResource (Letters (codes "h") ∷ Count 1 ∷ Count 2 ∷ []) ∷
          says 2 word.WritePartialResource (Letters (codes "h") ∷ Count 0 ∷ Raw (codes "ey") ∷ []) ∷
          says 3 word.WritePartialResource (Letters (codes "h") ∷ Count 3 ∷ Raw [] ∷ []) ∷ [];
    })
unfolding script_of read_at with_token word_spelled argument token_at after_blanks
parts = refl

sized : script_of (codes "SetResourceSize h 16777216") ≡ Ok (record {
  blocks = [];
  steps = says 1 word.SetResourceSize (Letters (codes "h") ∷ Count 16777216 ∷ []) ∷ [];
})
unfolding script_of read_at with_token word_spelled argument token_at after_blanks
sized = refl

switches : script_of (codes "SetResLoad FALSE\nSetResPurge\tTRUE\n") ≡ Ok (record {
  blocks = [];
  steps = says 1 word.SetResLoad (Flag false ∷ []) ∷ says 2 word.SetResPurge (Flag true ∷ []) ∷ [];
})
unfolding script_of read_at with_token word_spelled argument token_at after_blanks
switches = refl

-- types of three bytes, of five, with more behind the quote, and of seven digits; IDs out of range, of six digits and
-- of none; a file without a name, and in no quotes; a switch in lower case; no name; an attribute byte of 256; no
-- count; bytes in no quotes; a size of no digits
faulty : (script_of (codes "Count1Resources 'STR'") ≡ Err (1, BadArgument))
    × (script_of (codes "Count1Resources 'STR#1'") ≡ Err (1, BadArgument))
    × (script_of (codes "Count1Resources 'STR 'x") ≡ Err (1, BadArgument))
    × (script_of (codes "Count1Resources $5354522") ≡ Err (1, BadArgument))
    × (script_of (codes "GetResource h 'STR ' 32768") ≡ Err (1, BadArgument))
    × (script_of (codes "GetResource h 'STR ' -32769") ≡ Err (1, BadArgument))
    × (script_of (codes "GetResource h 'STR ' 000001") ≡ Err (1, BadArgument))
    × (script_of (codes "GetResource h 'STR ' -") ≡ Err (1, BadArgument))
    × (script_of (codes "OpenResFile \"\"") ≡ Err (1, BadArgument))
    × (script_of (codes "OpenResFile Doc") ≡ Err (1, BadArgument))
    × (script_of (codes "SetResLoad true") ≡ Err (1, BadArgument))
    × (script_of (codes "AddResource h 'STR ' 1") ≡ Err (1, BadArgument))
    × (script_of (codes "SetResAttrs h 256") ≡ Err (1, BadArgument))
    × (script_of (codes "ReadPartialResource h 1") ≡ Err (1, BadArgument))
    × (script_of (codes "WritePartialResource h 1 ey") ≡ Err (1, BadArgument))
    × (script_of (codes "SetResourceSize h -") ≡ Err (1, BadArgument))
unfolding script_of read_at with_token word_spelled argument token_at after_blanks
faulty = (refl, refl, refl, refl, refl, refl, refl, refl, refl, refl, refl, refl, refl, refl, refl, refl)

-- a grow-zone script may release a resource, and get none
released : script_of (codes "grow g\nReleaseResource h\nend") ≡ Ok (record {
  steps = [];
  blocks = (codes "g", says 2 word.ReleaseResource (Letters (codes "h") ∷ []) ∷ []) ∷ [];
})
unfolding script_of read_at with_token word_spelled argument token_at after_blanks
released = refl

not_got : script_of (codes "grow g\nGetResource h 'STR ' 1\nend") ≡ Err (2, NotAllowed)
unfolding script_of read_at with_token word_spelled argument token_at after_blanks
not_got = refl

not_added : script_of (codes "grow g\nAddResource h 'STR ' 1 \"\"\nend") ≡ Err (2, NotAllowed)
unfolding script_of read_at with_token word_spelled argument token_at after_blanks
not_added = refl

-- nor is what is stored of a resource read there in part, or changed
not_in_part : (script_of (codes "grow g\nReadPartialResource h 0 0\nend") ≡ Err (2, NotAllowed))
    × (script_of (codes "grow g\nWritePartialResource h 0 $\nend") ≡ Err (2, NotAllowed))
    × (script_of (codes "grow g\nSetResourceSize h 0\nend") ≡ Err (2, NotAllowed))
unfolding script_of read_at with_token word_spelled argument token_at after_blanks
not_in_part = (refl, refl, refl)

-- a type, and an ID with its type and name; the bytes that a call shows, and a refusal, which shows none
told : (reply_line 3 word.Get1IndType (pos 0) (Bytes (codes "STR ") ∷ []) ≡ codes "3 Get1IndType 0 $53545220\n")
    × (reply_line 4 word.GetResInfo (pos 0) (Number (negsuc 127) ∷ Bytes (codes "TEXT") ∷ Bytes (codes "Note") ∷ [])
    ≡ codes "4 GetResInfo 0 -128 $54455854 $4e6f7465\n")
    × (reply_line 5 word.GetResInfo (pos 0) (Number (pos 128) ∷ Bytes (codes "TEXT") ∷ Bytes [] ∷ [])
    ≡ codes "5 GetResInfo 0 128 $54455854 $\n")
    × (reply_line 6 word.GetResource (negsuc 191) [] ≡ codes "6 GetResource -192\n")
    × (reply_line 7 word.ReadPartialResource (pos 0) (Bytes (codes "i") ∷ []) ≡ codes "7 ReadPartialResource 0 $69\n")
    × (reply_line 8 word.ReadPartialResource (negsuc 189) [] ≡ codes "8 ReadPartialResource -190\n")
unfolding digits
told = (refl, refl, refl, refl, refl, refl)
