use Rattle.fork_format.proofs.Cited.{◌≡◌, ◌∙◌, ◌+◌, ◌++◌, ap, length, List, ℕ, arith, big_bytes, Group, data_of, lists, view}
use Rattle.fork_format.proofs.Putting.{put-two, length-lists}
use Rattle.fork_format.proofs.write.put_header.Goals as goal

pub returns : goal.returns
returns c =
    let gs : List Group = (view c.args.content.now).groups in
    let out : List ℕ = c.args.out.now.items in
    let one : List ℕ = c.put_word.new.out.items in
    let two : List ℕ = c.put_word-2.new.out.items in
    let three : List ℕ = c.put_word-3.new.out.items in
    let four : List ℕ = c.put_word-4.new.out.items in
    let a : List ℕ = big_bytes 4 256 in
    let b : List ℕ = big_bytes 4 (256 + length (data_of gs)) in
    let d : List ℕ = big_bytes 4 (length (data_of gs)) in
    let e : List ℕ = big_bytes 4 (28 + length (lists gs)) in
    let size : length (lists gs) ≡ _ = length-lists gs in
    let len : 28 + (c.args.extents.refs_end + c.args.extents.names_len) ≡ 28 + length (lists gs) =
    omega (arith, c.requires.names_at, c.requires.names_len) in
    let s1 : one ≡ out ++ a = c.in_ok-put_word.ensures in
    let s2 : two ≡ one ++ b = c.in_ok-put_word-2.ensures ∙ ap (λ n. one ++ big_bytes 4 (256 + n)) c.requires.data_len in
    let s3 : three ≡ two ++ d = c.in_ok-put_word-3.ensures ∙ ap (λ n. two ++ big_bytes 4 n) c.requires.data_len in
    let s4 : four ≡ three ++ e = c.in_ok-put_word-4.ensures ∙ ap (λ n. three ++ big_bytes 4 n) len in
    put-two out three four (a ++ b ++ d) e (put-two out two three (a ++ b) d (put-two out one two a b s1 s2) s3) s4
