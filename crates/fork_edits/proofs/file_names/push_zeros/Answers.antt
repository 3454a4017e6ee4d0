use Rattle.fork_edits.proofs.Cited.{◌≡◌, ◌∙◌, ◌+◌, ◌-◌, ◌++◌, ◌∷◌, [], sym, ap, suc, arith, replicate, append_assoc, List, ℕ, string_bytes}
use Rattle.fork_edits.proofs.file_names.push_zeros.Goals as goal

pub loop-preserved : goal.loop-preserved
loop-preserved c =
    let left : ℕ = c.args.count - (c.loop.counter + 1) in
    let e : c.args.count - c.loop.counter ≡ suc left = omega arith in
    ap (λ (l : List ℕ). l ++ replicate left 48) c.in_ok-push_str.ensures.bytes
    ∙ append_assoc (string_bytes c.loop.text) (48 ∷ []) (replicate left 48)
    ∙ ap (λ (k : ℕ). string_bytes c.loop.text ++ replicate k 48) (sym e) ∙ c.loop.invariant
