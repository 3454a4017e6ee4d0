use Rattle.bin_hex.proofs.Cited.{◌≡◌, ℕ, suc, ◌+◌, ◌-◌, ◌<◌, List, ◌++◌, replicate, sym, ◌∙◌, ap, arith, append_assoc, flat_map, literal}

-- one literal more
pub literals_more : (done count byte : ℕ) (out now total : List ℕ) → done < count → now ≡ out ++ literal byte
    → out ++ flat_map literal (replicate (count - done) byte) ≡ total
    → now ++ flat_map literal (replicate (count - (done + 1)) byte) ≡ total
literals_more done count byte out now total h put e =
    let left : count - done ≡ suc (count - (done + 1)) = omega arith in
    ap (λ xs. xs ++ flat_map literal (replicate (count - (done + 1)) byte)) put
    ∙ append_assoc out (literal byte) (flat_map literal (replicate (count - (done + 1)) byte))
    ∙ ap (λ n. out ++ flat_map literal (replicate n byte)) (sym left) ∙ e
