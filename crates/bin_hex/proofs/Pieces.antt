use Rattle.bin_hex.proofs.Cited.{◌≡◌, ℕ, ◌+◌, ◌<◌, ◌≤◌, false, List, [], ◌∷◌, ◌++◌, cond, get_or, length, take, drop, sym, ◌∙◌, ap, arith}
use Rattle.bin_hex.proofs.Cited.{Ok, Err, nat_le, lt-ltb, le-ltb, leb-false, take_more, drop_more, length-drop, piece}
use Rattle.bin_hex.specs.declared.fault.Damage.TheVariants as damage

-- One byte more of a piece.

pub record Got (bytes rest old : List ℕ) (count : ℕ) : Type 0 where
  pub got : bytes ≡ take count old
  pub rest_is : rest ≡ drop count old
  pub there : count ≤ length old

pub one_more : (bytes old now : List ℕ) (count byte : ℕ) → bytes ≡ take count old → byte ∷ now ≡ drop count old
    → Got (bytes ++ byte ∷ []) now old (count + 1)
one_more bytes old now count byte got rest =
    let sizes = ap length rest in
    let dropped = length-drop count old in
    let there : count < length old = omega (arith, sizes, dropped) in
    let apart : byte ∷ now ≡ get_or old count 0 ∷ drop (count + 1) old = rest ∙ drop_more old count 0 there in
    let same : byte ≡ get_or old count 0 = cc in
    record {
      got = ap (λ xs. xs ++ byte ∷ []) got ∙ ap (λ b. take count old ++ b ∷ []) same
          ∙ sym (take_more old count 0 there);
      rest_is = cc;
      there = omega arith;
    }

pub cut_off : (old : List ℕ) (count done : ℕ) → done < count → [] ≡ drop done old → piece count old ≡ Err damage.CutOff
cut_off old count done h none =
    let dropped = length-drop done old in
    let sizes : 0 ≡ length (drop done old) = ap length none in
    ap (λ t. cond t (Err damage.CutOff) (Ok (take count old, drop count old)))
    (lt-ltb (length old) count (omega (arith, dropped, sizes)))

-- so many are not there
pub too_few : (old : List ℕ) (count : ℕ) → nat_le count (length old) ≡ false → piece count old ≡ Err damage.CutOff
too_few old count none =
    ap (λ t. cond t (Err damage.CutOff) (Ok (take count old, drop count old)))
    (lt-ltb (length old) count (leb-false count (length old) none))

pub whole : (bytes rest old : List ℕ) (count : ℕ) → bytes ≡ take count old → rest ≡ drop count old → count ≤ length old
    → piece count old ≡ Ok (bytes, rest)
whole bytes rest old count got left there =
    ap (λ t. cond t (Err damage.CutOff) (Ok (take count old, drop count old))) (le-ltb (length old) count there)
    ∙ ap (λ xs. Ok (xs, drop count old)) (sym got) ∙ ap (λ xs. Ok (bytes, xs)) (sym left)
