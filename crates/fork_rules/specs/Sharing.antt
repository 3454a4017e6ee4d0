use Rattle.std.specs.Prelude.{ℕ, ◌+◌, Bool, true, not, ◌&&◌, nat_le, List, [], ◌∷◌, map}
use Rattle.fork_format.specs.Canonical.{are_distinct}
use Rattle.fork_format.specs.Fork.{number}
use Rattle.fork_rules.specs.Regions.{all_places}

-- How the stored data of a fork stands: shared, and in which order.
-- More Macintosh Toolbox, chapter 1, "Resource File Format".

-- The offsets of the stored data of all references, in the order of the type list.
abbrev pub datum_offsets : List ℕ → List ℕ
datum_offsets bytes = map (λ at. number 3 (at + 5) bytes) (all_places bytes)

-- Some stored data is that of two references or more.
abbrev pub shares_data : List ℕ → Bool
shares_data bytes = not (are_distinct (datum_offsets bytes))

-- No number is greater than the next.
abbrev pub do_rise : List ℕ → Bool
do_rise [] = true
do_rise (m ∷ []) = true
do_rise (m ∷ n ∷ ns) = nat_le m n && do_rise (n ∷ ns)

-- The stored data stands in the order of the references.
abbrev pub orders_data : List ℕ → Bool
orders_data bytes = do_rise (datum_offsets bytes)
