use Rattle.fork_edits.proofs.Cited.{◌++◌, List, ℕ, codes, put-two, word_if}
use Rattle.fork_edits.proofs.lines.push_parts.Goals as goal

pub returns : goal.returns
returns c =
    let out : List ℕ = c.args.text.now.items in
    let one : List ℕ = c.push_if.new.text.items in
    let two : List ℕ = c.push_if-2.new.text.items in
    let a : List ℕ = word_if c.args.parts.now.name (codes " name") in
    let b : List ℕ = word_if c.args.parts.now.attrs (codes " attributes") in
    put-two out two c.push_if-3.new.text.items (a ++ b) (word_if c.args.parts.now.datum (codes " bytes"))
    (put-two out one two a b c.in_ok-push_if.ensures c.in_ok-push_if-2.ensures) c.in_ok-push_if-3.ensures
