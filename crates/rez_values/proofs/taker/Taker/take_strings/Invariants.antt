use Rattle.rez_values.proofs.Cited.{◌≡◌, ◌-◌, [], length, taking_of, strings_on}
use Rattle.rez_values.proofs.taker.Taker.take_strings.Given as goal

-- the strings to come, with those so far, are all
abbrev pub invariant-loop-i : goal.invariant-loop-i
invariant-loop-i l = strings_on (l.most - l.i) l.text.items (taking_of l.self)
    ≡ strings_on (length l.fn.self.tokens.now) [] (taking_of l.fn.self)
