use Rattle.job_tasks.proofs.Cited.{◌≡◌, ℕ, sym, ◌∙◌, true, list_all, is_ascii_digit}
use Rattle.job_tasks.proofs.Numerals.{size_read, size_unread}
use Rattle.job_tasks.proofs.size.PartitionSize.read.Goals as goal

pub returns-in-Ok : goal.returns-in-Ok
returns-in-Ok c =
    let digits : list_all is_ascii_digit c.args.text.now ≡ true
    = sym c.has_digits_only.ensures ∙ c.if-not-has_digits_only.false in
    c.within_limits.ensures ∙ size_read ℕ c.args.text.now c.in-Ok.size c.in-Ok.ensures.value.0 digits

pub returns-in-Err : goal.returns-in-Err
returns-in-Err c =
    let digits : list_all is_ascii_digit c.args.text.now ≡ true
    = sym c.has_digits_only.ensures ∙ c.if-not-has_digits_only.false in
    size_unread _ c.args.text.now c.in-Err.field-0 c.in-Err.ensures.value.0 digits
