use Rattle.fork_edits.proofs.Cited.{◌++◌, List, ℕ, codes, signed_decimal, big_number, put-two, type_text}
use Rattle.fork_edits.proofs.lines.push_key.Goals as goal

pub returns : goal.returns
returns c =
    let out : List ℕ = c.args.text.now.items in
    let one : List ℕ = c.append_type.new.text.items in
    let two : List ℕ = c.push.new.self.items in
    let a : List ℕ = type_text c.args.charset (big_number 4 c.args.ty.0) in
    let b : List ℕ = codes " " in
    put-two out two c.push_id.new.text.items (a ++ b) (signed_decimal c.args.id.now)
    (put-two out one two a b c.in_ok-append_type.ensures c.in_ok-push.ensures.items) c.in_ok-push_id.ensures
