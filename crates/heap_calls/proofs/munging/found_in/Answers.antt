use Rattle.heap_calls.proofs.Cited.{◌-◌, List, ℕ, length, take, drop, ap, sym, arith, length-drop, take_rest}
use Rattle.heap_calls.proofs.Finding.{first-within}
use Rattle.heap_calls.proofs.munging.found_in.Goals as goal

pub returns-in-Some-clause-within : goal.returns-in-Some-clause-within
returns-in-Some-clause-within c =
    let all = c.args.bytes.now in
    let rest : List ℕ = take (length all - c.args.from) (drop c.args.from all) in
    let w = first-within c.args.from c.deref.result.now rest c.in-Some.at (sym c.in-Some.ensures) in
    omega (arith, ap length (take_rest all c.args.from), length-drop c.args.from all, w.0)
