use Rattle.fork_format.proofs.Cited.{◌≡◌, ◌∙◌, ◌++◌, ap, List, ℕ, rules, FitsSigned, to_z-of_z, cast_unsigned, w16, big_bytes, name_offset}
use Rattle.fork_format.proofs.Cited.{view_name}
use Rattle.fork_format.proofs.Putting.{put-two}
use Rattle.fork_format.proofs.Sized.{name-short}
use Rattle.fork_format.proofs.write.put_reference.Goals as goal

pub returns-clause-sized : goal.returns-clause-sized
returns-clause-sized c = record { id = search rules; attrs = search rules; name = name-short c.args.r.now.name }

pub returns-clause-reference : goal.returns-clause-reference
returns-clause-reference c =
    let out : List ℕ = c.args.out.now.items in
    let one : List ℕ = c.put_id.new.out.items in
    let two : List ℕ = c.put_half.new.out.items in
    let three : List ℕ = c.put_byte.new.out.items in
    let four : List ℕ = c.put_three.new.out.items in
    let five : List ℕ = c.put_word.new.out.items in
    let i : List ℕ = big_bytes 2 (cast_unsigned w16 c.args.r.now.id) in
    let m : List ℕ = big_bytes 2 (name_offset (view_name c.args.r.now.name) c.args.starts.name) in
    let a : List ℕ = big_bytes 1 c.args.r.now.attrs.0 in
    let d : List ℕ = big_bytes 3 c.args.starts.datum in
    let z : List ℕ = big_bytes 4 0 in
    let fits : FitsSigned w16 c.args.r.now.id = search rules in
    let s1 : one ≡ out ++ i = c.in_ok-put_id.ensures ∙ ap (λ z. out ++ big_bytes 2 (cast_unsigned w16 z))
    (to_z-of_z w16 c.args.r.now.id fits) in
    let s2 : two ≡ one ++ m = c.in_ok-put_half.ensures ∙ ap (λ n. one ++ big_bytes 2 n) c.name_offset_of.ensures in
    let s3 : three ≡ two ++ a = c.in_ok-put_byte.ensures in
    let s4 : four ≡ three ++ d = c.in_ok-put_three.ensures in
    let s5 : five ≡ four ++ z = c.in_ok-put_word.ensures in
    put-two out four five (i ++ m ++ a ++ d) z (put-two out three four (i ++ m ++ a) d
    (put-two out two three (i ++ m) a (put-two out one two i m s1 s2) s3) s4) s5
