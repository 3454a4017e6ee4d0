use Rattle.script_text.proofs.Cited.{◌≡◌, true, rules, list_all, is_ascii_digit, IsNumeralModel, numerals_by_fold, number_from}

-- A text of digits writes its number, as std reads it.
pub numerals : IsNumeralModel (λ ds. list_all is_ascii_digit ds ≡ true) (number_from 0)
numerals = numerals_by_fold _ (search rules) number_from (search rules)
