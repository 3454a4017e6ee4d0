use Rattle.fork_edits.proofs.Cited.{◌∙◌, ap, sym, rules, tests, arith, length, drop, bit_or, slice_split, at_drop_all, length_push}
use Rattle.fork_edits.proofs.Cited.{split_rest, split_done, split_callee, YieldsList-from_slice_split, YieldsList-turn, YieldsList-end}
use Rattle.fork_edits.proofs.Cited.{is_comma, words_value}
use Rattle.std.specs.Prelude.{ℕ}
use Rattle.fork_edits.proofs.Words.{word_bad, word_good}
use Rattle.fork_edits.proofs.attributes.read_words.Goals as goal

pub returns-in_default : goal.returns-in_default
returns-in_default c =
    let i = c.into_iter-word-iterator.ensures.into_iter_gives in
    let t = YieldsList-turn (YieldsList-from_slice_split _ is_comma c.args.text.now
    (ap split_rest i ∙ c.split-word-items.ensures.rest)
    (ap split_done i ∙ c.split-word-items.ensures.done) (ap split_callee i ∙ c.split-word-items.ensures.closure)
    (λ x r q k. search (rules, tests)))
    c.loop-word.yielded _ c.loop-word.yielded_by _ _ c.in-Some.word c.in-Some.is c.next.ensures.steps in
    word_bad c.loop-word.attrs (length c.loop-word.yielded) (slice_split is_comma c.args.text.now) c.in-Some.word.now
    _ t c.in_default.ensures c.loop-word.invariant

pub loop-word-preserved : goal.loop-word-preserved
loop-word-preserved c =
    let i = c.into_iter-word-iterator.ensures.into_iter_gives in
    let t = YieldsList-turn (YieldsList-from_slice_split _ is_comma c.args.text.now
    (ap split_rest i ∙ c.split-word-items.ensures.rest)
    (ap split_done i ∙ c.split-word-items.ensures.done) (ap split_callee i ∙ c.split-word-items.ensures.closure)
    (λ x r q k. search (rules, tests)))
    c.loop-word.yielded _ c.loop-word.yielded_by _ _ c.in-Some.word c.in-Some.is c.next.ensures.steps in
    ap (λ (n : ℕ). words_value (bit_or c.loop-word.attrs c.in-Some-word_of.value) (drop n (slice_split is_comma c.args.text.now)))
    (length_push c.loop-word.yielded c.in-Some.word)
    ∙ word_good c.loop-word.attrs (length c.loop-word.yielded) c.in-Some-word_of.value
    (slice_split is_comma c.args.text.now) c.in-Some.word.now _ t c.in-Some-word_of.ensures c.loop-word.invariant

pub returns : goal.returns
returns c =
    let i = c.into_iter-word-iterator.ensures.into_iter_gives in
    let t = YieldsList-end (YieldsList-from_slice_split _ is_comma c.args.text.now
    (ap split_rest i ∙ c.split-word-items.ensures.rest)
    (ap split_done i ∙ c.split-word-items.ensures.done) (ap split_callee i ∙ c.split-word-items.ensures.closure)
    (λ x r q k. search (rules, tests)))
    c.loop-word.yielded _ c.loop-word.yielded_by _ _ c.in-None.is c.next.ensures.steps in
    sym (at_drop_all (words_value c.loop-word.attrs) (slice_split is_comma c.args.text.now) (length c.loop-word.yielded)
    (omega (arith, t.1))) ∙ c.loop-word.invariant
