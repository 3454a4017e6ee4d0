use Rattle.bin_hex.proofs.Cited.{◌≡◌, ℕ, List, [], ◌∷◌, ◌++◌, map, replicate, take, set, false, true, refl, Ok, Err, codes, with_bits}
use Rattle.bin_hex.proofs.Cited.{alphabet, role_of, decoded, encoded, header_in, fork_in, file_in, File, with_resource_fork, expanded}
use Rattle.bin_hex.proofs.Cited.{compressed, is_bin_hex}
use Rattle.bin_hex.specs.declared.alphabet.Role.TheVariants as role
use Rattle.bin_hex.specs.declared.fault.Damage.TheVariants as damage
use Rattle.bin_hex.specs.declared.fault.Part.TheVariants as part
use Rattle.bin_hex.specs.declared.fault.PutFault.TheVariants as fault

-- The files are as the program binhex of macutils 2.0 wrote them, whose line goes on with words of its own.

-- each character of the alphabet stands for its place in it
roles : map role_of alphabet ≡ map role.Sextet (0 ∷ 1 ∷ 2 ∷ 3 ∷ 4 ∷ 5 ∷ 6 ∷ 7 ∷ 8 ∷ 9 ∷ 10 ∷ 11 ∷ 12 ∷ 13 ∷ 14 ∷ 15 ∷ 16 ∷ 17 ∷ 18 ∷ 19 ∷ 20
    ∷ 21 ∷ 22 ∷ 23 ∷ 24 ∷ 25 ∷ 26 ∷ 27 ∷ 28 ∷ 29 ∷ 30 ∷ 31 ∷ 32 ∷ 33 ∷ 34 ∷ 35 ∷ 36 ∷ 37 ∷ 38 ∷ 39 ∷ 40 ∷ 41 ∷ 42 ∷ 43 ∷ 44 ∷ 45 ∷ 46 ∷ 47
    ∷ 48 ∷ 49 ∷ 50 ∷ 51 ∷ 52 ∷ 53 ∷ 54 ∷ 55 ∷ 56 ∷ 57 ∷ 58 ∷ 59 ∷ 60 ∷ 61 ∷ 62 ∷ 63 ∷ [])
roles = refl

-- runs, as RFC 1741, appendix A, shows them: 11 22 22 22 22 22 22 33, and 11 22 90 33 44
run_of_six : expanded false 0 (0x11 ∷ 0x22 ∷ 0x90 ∷ 6 ∷ 0x33 ∷ [])
    ≡ 0x11 ∷ 0x22 ∷ 0x22 ∷ 0x22 ∷ 0x22 ∷ 0x22 ∷ 0x22 ∷ 0x33 ∷ []
run_of_six = refl

a_marker : expanded false 0 (0x11 ∷ 0x22 ∷ 0x90 ∷ 0 ∷ 0x33 ∷ 0x44 ∷ []) ≡ 0x11 ∷ 0x22 ∷ 0x90 ∷ 0x33 ∷ 0x44 ∷ []
a_marker = refl

-- a run of 90, a run of one, and a 90 at the end
of_markers : expanded false 0 (0x90 ∷ 0 ∷ 0x90 ∷ 3 ∷ 7 ∷ 0x90 ∷ 1 ∷ 8 ∷ 0x90 ∷ []) ≡ 0x90 ∷ 0x90 ∷ 0x90 ∷ 7 ∷ 8 ∷ []
of_markers = refl

-- runs that are written: three bytes and four, 90 by itself, and more than 255
written_runs : compressed (1 ∷ 1 ∷ 1 ∷ 2 ∷ 2 ∷ 2 ∷ 2 ∷ 0x90 ∷ 0x90 ∷ 0x90 ∷ 0x90 ∷ [])
    ≡ 1 ∷ 1 ∷ 1 ∷ 2 ∷ 0x90 ∷ 4 ∷ 0x90 ∷ 0 ∷ 0x90 ∷ 0 ∷ 0x90 ∷ 0 ∷ 0x90 ∷ 0 ∷ []
written_runs = refl

long_run : compressed (replicate 300 0) ≡ 0 ∷ 0x90 ∷ 255 ∷ 0 ∷ 0x90 ∷ 45 ∷ []
long_run = refl

-- a file whose data fork is hello
abbrev tiny : File
tiny = record {
  name = codes "tiny";
  kind = 0x54455854;
  creator = 0x4D414341;
  flags = 0;
  data_fork = codes "hello";
  resource_fork = [];
}

abbrev tiny_line : List ℕ
tiny_line = codes "(This file must be converted; you knew that already.)\n\n"

abbrev tiny_body : List ℕ
tiny_body = codes ":\"(4TERN!9%9B9%e\"3d%!N!8&!!!!!'8BD'9XE'r$BJ!!:\n"

is_tiny : is_bin_hex (tiny_line ++ tiny_body) ≡ true
is_tiny = refl

tiny_read : decoded (tiny_line ++ tiny_body) ≡ Ok tiny
unfolding header_in fork_in file_in with_bits
tiny_read = refl

-- a file of two forks, with a 90
abbrev both : File
both = record {
  name = codes "Both";
  kind = 0x4150504C;
  creator = 0x74747874;
  flags = 0;
  data_fork = codes "hi";
  resource_fork = 0 ∷ 0 ∷ 1 ∷ 0 ∷ 0x90 ∷ 7 ∷ 7 ∷ [];
}

abbrev both_body : List ℕ
both_body = codes ":\"%*[G'J!39\"36(4dH(3!N!8#!!!!\"r)VD'Pr$!!!!3#3!!F(1aJ:\n"

both_read : decoded (tiny_line ++ both_body) ≡ Ok both
unfolding header_in fork_in file_in with_bits
both_read = refl

-- written with our line, the rest is the same; it has no run of four, which that program writes byte by byte
both_written : encoded both ≡ codes "(This file must be converted with BinHex 4.0)\n\n" ++ both_body
unfolding with_bits
both_written = refl

-- a file with runs, one of 300 bytes, and with 90
abbrev runs_body : List ℕ
runs_body = codes ":\"(*eER-!9%9B9%e\"3d%!!!!!!8-!!!!!)$9KB@*LBQ0MBf0NN!@3!*!!N!#3!*!\n!N!\"PN2pPN#eiN!\"j6RB!!!:\n"

runs_read : decoded (tiny_line ++ runs_body) ≡ Ok (record {
  name = codes "runs";
  kind = 0x54455854;
  creator = 0x4D414341;
  flags = 0;
  data_fork = codes "aabbbccccddddd" ++ replicate 6 0x90 ++ replicate 300 101 ++ (120 ∷ 0x90 ∷ 121 ∷ []);
  resource_fork = [];
})
unfolding header_in fork_in file_in with_bits
runs_read = refl

-- no line, no colon after it, and no second colon
no_line : decoded tiny_body ≡ Err damage.NoMark
no_line = refl

no_start : decoded tiny_line ≡ Err damage.NoStart
no_start = refl

no_end : decoded (take 100 (tiny_line ++ tiny_body)) ≡ Err damage.NoEnd
no_end = refl

-- a letter that is none of the alphabet, at its offset
foreign : decoded (set (tiny_line ++ tiny_body) 65 103) ≡ Err (damage.Foreign 65)
foreign = refl

-- the checksum of each part, where a character of it was changed
wrong_header : decoded (set (tiny_line ++ tiny_body) 59 53) ≡ Err (damage.WrongChecksum part.Header)
unfolding header_in fork_in file_in with_bits
wrong_header = refl

wrong_data : decoded (set (tiny_line ++ tiny_body) 90 67) ≡ Err (damage.WrongChecksum part.DataFork)
unfolding header_in fork_in file_in with_bits
wrong_data = refl

wrong_resource : decoded (set (tiny_line ++ tiny_body) 99 34) ≡ Err (damage.WrongChecksum part.ResourceFork)
unfolding header_in fork_in file_in with_bits
wrong_resource = refl

-- a run with no byte before it
run_at_start : decoded (tiny_line ++ codes ":N!)\":") ≡ Err damage.NoByteToRepeat
unfolding header_in fork_in file_in with_bits
run_at_start = refl

-- a name of no bytes, and one of 64
no_name : decoded (tiny_line ++ codes ":!!%#:") ≡ Err damage.NameLength
unfolding header_in fork_in file_in with_bits
no_name = refl

long_name : decoded (tiny_line ++ codes ":3!%#:") ≡ Err damage.NameLength
unfolding header_in fork_in file_in with_bits
long_name = refl

-- no bytes, and a fork that is cut off
no_bytes : decoded (tiny_line ++ codes "::") ≡ Err damage.CutOff
unfolding header_in fork_in file_in with_bits
no_bytes = refl

cut_off : decoded (tiny_line ++ codes ":\"(4TERN!9%9B9%e\"3d%!!!!!!!8!!!!!C4KSC@`:") ≡ Err damage.CutOff
unfolding header_in fork_in file_in with_bits
cut_off = refl

-- two bytes more than the file, and three
filled_up : decoded (tiny_line ++ codes ":\"(4TERN!9%9B9%e\"3d%!!!!!!!8!!!!!C4KSC@aXEm0L!!!!!!:") ≡ Ok tiny
unfolding header_in fork_in file_in with_bits
filled_up = refl

too_long : decoded (tiny_line ++ codes ":\"(4TERN!9%9B9%e\"3d%!!!!!!!8!!!!!C4KSC@aXEm0L!!!!!!!:") ≡ Err damage.TooLong
unfolding header_in fork_in file_in with_bits
too_long = refl

-- blanks and the three kinds of line ends are passed over
anyhow : decoded (tiny_line ++ codes ":\"(4TERN!\r9%9B\r\n9%e\"3d \t%!N!8&!!!!!\n\n'8BD'9XE'r$BJ!!:") ≡ Ok tiny
unfolding header_in fork_in file_in with_bits
anyhow = refl

-- a fork is put into the file Both, which has none here: what that program wrote for the file with the fork, with the text
-- before and after it as it was
abbrev bare_text : List ℕ
bare_text = codes "From: a\n" ++ tiny_line ++ codes ":\"%*[G'J!39\"36(4dH(3!N!8#!*!%J\nXaSDAm-!!!:\nbye: b\n"

fork_put : with_resource_fork bare_text both.resource_fork
    ≡ Ok (codes "From: a\n" ++ tiny_line ++ codes ":\"%*[G'J!39\"36(4dH(3!N!8#!!!!\"r)VD'Pr$!!!!3#3!!F(1aJ:\nbye: b\n")
unfolding header_in fork_in file_in with_bits with_resource_fork
fork_put = refl

-- the fork that a file has, and a file that is damaged
same_fork : with_resource_fork bare_text [] ≡ Ok bare_text
unfolding header_in fork_in file_in with_bits with_resource_fork
same_fork = refl

unread : with_resource_fork (tiny_line ++ codes "::") [] ≡ Err (fault.Damaged damage.CutOff)
unfolding header_in fork_in file_in with_bits with_resource_fork
unread = refl
