-- Worked grow-zone scripts, by computation.
use Rattle.script_text.proofs.Cited.{◌≡◌, [], ◌∷◌, Ok, Err, refl, codes, pos, negsuc, digits, UnknownCall, BadArgument, NotAllowed}
use Rattle.script_text.proofs.Cited.{after_blanks, token_at, Letters, argument, word_spelled, script_of, read_at, with_token, grow_line}
use Rattle.script_text.specs.declared.word.CallWord.TheVariants as word
use Rattle.script_text.proofs.Rows.{says}

not_allowed : script_of (codes "grow g\nNewHandle a 1\nend") ≡ Err (2, NotAllowed)
unfolding script_of read_at with_token word_spelled argument token_at after_blanks
not_allowed = refl

not_allowed_first : script_of (codes "grow g\nNewHandle\nend") ≡ Err (2, NotAllowed)
unfolding script_of read_at with_token word_spelled argument token_at after_blanks
not_allowed_first = refl

unknown_first : script_of (codes "grow g\nFoo\nend") ≡ Err (2, UnknownCall)
unfolding script_of read_at with_token word_spelled argument token_at after_blanks
unknown_first = refl

no_block : script_of (codes "SetGrowZone g") ≡ Err (1, BadArgument)
unfolding script_of read_at with_token word_spelled argument token_at after_blanks
no_block = refl

no_end : script_of (codes "SetGrowZone g\ngrow g\n") ≡ Err (2, BadArgument)
unfolding script_of read_at with_token word_spelled argument token_at after_blanks
no_end = refl

no_block_before_no_end : script_of (codes "SetGrowZone g\nSetGrowZone h\ngrow g\n") ≡ Err (2, BadArgument)
unfolding script_of read_at with_token word_spelled argument token_at after_blanks
no_block_before_no_end = refl

fault_before_no_block : script_of (codes "SetGrowZone g\nFreeMem\nFoo\n") ≡ Err (3, UnknownCall)
unfolding script_of read_at with_token word_spelled argument token_at after_blanks
fault_before_no_block = refl

used_twice : script_of (codes "grow g\nend\ngrow g\nend") ≡ Err (3, BadArgument)
unfolding script_of read_at with_token word_spelled argument token_at after_blanks
used_twice = refl

named_none : script_of (codes "grow none\nend") ≡ Err (1, BadArgument)
unfolding script_of read_at with_token word_spelled argument token_at after_blanks
named_none = refl

grow_inside : script_of (codes "grow g\ngrow\nend") ≡ Err (2, NotAllowed)
unfolding script_of read_at with_token word_spelled argument token_at after_blanks
grow_inside = refl

end_outside : script_of (codes "end x") ≡ Err (1, UnknownCall)
unfolding script_of read_at with_token word_spelled argument token_at after_blanks
end_outside = refl

end_with_argument : script_of (codes "grow g\nend x") ≡ Err (2, BadArgument)
unfolding script_of read_at with_token word_spelled argument token_at after_blanks
end_with_argument = refl

block_after_its_use : script_of (codes "SetGrowZone g\ngrow g\n\n# in g\n EmptyHandle a\nend\nExitToShell")
    ≡ Ok (record {
      steps =
          says 1 word.SetGrowZone (Letters (codes "g") ∷ []) ∷
          says 7 word.ExitToShell [] ∷ [];
      blocks =
          (codes "g", says 5 word.EmptyHandle (Letters (codes "a") ∷ []) ∷ []) ∷ [];
    })
unfolding script_of read_at with_token word_spelled argument token_at after_blanks
block_after_its_use = refl

none_set : script_of (codes "SetGrowZone none\ngrow g\nend") ≡ Ok (record {
  steps = says 1 word.SetGrowZone (Letters (codes "none") ∷ []) ∷ [];
  blocks = (codes "g", []) ∷ [];
})
unfolding script_of read_at with_token word_spelled argument token_at after_blanks
none_set = refl

behind_a_plus : grow_line 3 word.EmptyHandle (pos 0) [] ≡ codes "+3 EmptyHandle 0\n"
unfolding digits
behind_a_plus = refl

refused_behind_a_plus : grow_line 4 word.HPurge (negsuc 108) [] ≡ codes "+4 HPurge -109\n"
unfolding digits
refused_behind_a_plus = refl
