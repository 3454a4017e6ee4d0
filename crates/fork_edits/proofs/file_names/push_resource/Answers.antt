use Rattle.fork_edits.proofs.Cited.{◌++◌, List, ℕ, codes, signed_decimal, string_bytes, flat_map, big_number, big_bytes, view_name, put-two}
use Rattle.fork_edits.proofs.Cited.{safe_byte, name_part}
use Rattle.fork_edits.proofs.file_names.push_resource.Goals as goal

pub returns : goal.returns
returns c =
    let out : List ℕ = string_bytes c.args.text.now in
    let one : List ℕ = string_bytes c.push_type.new.text in
    let two : List ℕ = string_bytes c.push_str.new.self in
    let three : List ℕ = string_bytes c.push_number.new.text in
    let four : List ℕ = string_bytes c.push_name_part.new.text in
    let a : List ℕ = flat_map safe_byte (big_bytes 4 (big_number 4 c.args.row.now.ty.0)) in
    let b : List ℕ = codes "-" in
    let d : List ℕ = signed_decimal c.args.row.now.resource.id in
    put-two out three four (a ++ b ++ d) (name_part (view_name c.args.row.now.resource.name))
    (put-two out two three (a ++ b) d (put-two out one two a b c.in_ok-push_type.ensures c.in_ok-push_str.ensures.bytes)
    c.in_ok-push_number.ensures) c.in_ok-push_name_part.ensures
