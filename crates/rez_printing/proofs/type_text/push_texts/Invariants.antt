use Rattle.rez_printing.proofs.Cited.{◌≡◌, ◌++◌, drop, map, text_of, texts_from}
use Rattle.rez_printing.proofs.type_text.push_texts.Given as goal

-- the constants so far, with those to come, are all
abbrev pub invariant-loop-place : goal.invariant-loop-place
invariant-loop-place l = l.out.items ++ texts_from l.place (map text_of (drop l.place l.constants))
    ≡ l.fn.out.items ++ texts_from 0 (map text_of l.constants)
