-- Worked jobs, by computation.
use Rattle.script_text.proofs.Cited.{◌≡◌, Some, [], ◌∷◌, ◌++◌, Ok, Err, refl, codes, pos, negsuc, digits, chars, is_utf8, encode}
use Rattle.script_text.proofs.Cited.{UnknownCall, BadArgument, JobWord, Act, Launch, Step, Turn, Quit, Rest, after_blanks, token_at, argument}
use Rattle.script_text.proofs.Cited.{job_line, spelling, token_line, job_of, with_line, System, App, File, launch_of, refusal_of, end_of}
use Rattle.script_text.proofs.Cited.{fork_of}
use Rattle.script_text.specs.declared.job_word.JobWord.TheVariants as word
use Rattle.script_text.specs.Stating.{word_spelled}

-- each word is found by its spelling
found : (w : JobWord) → word_spelled (spelling w) ≡ Some w
unfolding word_spelled
found word.Memory = refl
found _ = refl

-- a job is its memory, its inputs in the order of their lines, and its events
good : job_of (codes
    "# first\nmemory 4096\n\napp one \"f1\" \"s1\"\nsystem \"s\"\r\napp two \"\" \"s2\"\nfile two $446f63 \"d\"\nlaunch two\nstep one\nturn one\nrest\nquit two")
    ≡ Ok (record {
      memory = 4096;
      inputs = App (codes "one") (codes "f1") (codes "s1") ∷ System (codes "s") ∷ App (codes "two") [] (codes "s2")
          ∷ File 1 (codes "Doc") (codes "d") ∷ [];
      events = Launch 1 ∷ Act 0 Step ∷ Act 0 Turn ∷ Rest ∷ Act 1 Quit ∷ [];
    })
unfolding job_of with_line job_line token_line word_spelled argument token_at after_blanks is_utf8 chars encode
good = refl

-- no line to read; a memory that is too small, and one that is no multiple of 16; no memory, and two; no call of a job
faulty_memory : (job_of [] ≡ Err (1, BadArgument))
    × (job_of (codes "\n# memory 512\n") ≡ Err (1, BadArgument))
    × (job_of (codes "memory 500") ≡ Err (1, BadArgument))
    × (job_of (codes "memory 1032") ≡ Err (1, BadArgument))
    × (job_of (codes "rest") ≡ Err (1, BadArgument))
    × (job_of (codes "memory 512\nmemory 512") ≡ Err (2, BadArgument))
    × (job_of (codes "FreeMem") ≡ Err (1, UnknownCall))
unfolding job_of with_line job_line token_line word_spelled argument token_at after_blanks is_utf8 chars encode
faulty_memory = (refl, refl, refl, refl, refl, refl, refl)

-- a second System; a path in hexadecimal, and one that isn't UTF-8; an application's name twice; a file of no application;
-- a file that is named as its application; a file's name twice; an event of no application; an input behind an event
faulty_lines : (job_of (codes "memory 512\nsystem \"s\"\nsystem \"s\"") ≡ Err (3, BadArgument))
    × (job_of (codes "memory 512\nsystem $73") ≡ Err (2, BadArgument))
    × (job_of (codes "memory 512\nsystem \"" ++ 255 ∷ codes "\"") ≡ Err (2, BadArgument))
    × (job_of (codes "memory 512\napp a \"\" \"\"\napp a \"\" \"\"") ≡ Err (3, BadArgument))
    × (job_of (codes "memory 512\nfile a \"d\" \"\"") ≡ Err (2, BadArgument))
    × (job_of (codes "memory 512\napp a \"\" \"\"\nfile a \"a\" \"\"") ≡ Err (3, BadArgument))
    × (job_of (codes "memory 512\napp a \"\" \"\"\nfile a \"A\" \"\"\nfile a $41 \"\"") ≡ Err (4, BadArgument))
    × (job_of (codes "memory 512\nlaunch a") ≡ Err (2, BadArgument))
    × (job_of (codes "memory 512\nrest\nsystem \"s\"") ≡ Err (3, BadArgument))
unfolding job_of with_line job_line token_line word_spelled argument token_at after_blanks is_utf8 chars encode
faulty_lines = (refl, refl, refl, refl, refl, refl, refl, refl, refl)

-- the lines of desk.log
logged : (launch_of (codes "one") 700000 ≡ codes "launch one 0 700000\n")
    × (refusal_of (codes "three") (negsuc 107) ≡ codes "launch three -108\n")
    × (end_of (codes "one") (pos 0) ≡ codes "end one 0\n")
    × (fork_of (codes "two") 1 (codes "Doc") 286 ≡ codes "fork two 1 $446f63 286\n")
unfolding digits
logged = (refl, refl, refl, refl)
