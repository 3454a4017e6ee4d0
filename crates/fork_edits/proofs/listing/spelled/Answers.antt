use Rattle.fork_edits.proofs.Cited.{◌∙◌, arith, rules, take, length-set, bytes_spelled}
use Rattle.fork_edits.proofs.Spelling.{spelled_all, spelled_bad, spelled_good, spelled_start}
use Rattle.fork_edits.proofs.listing.spelled.Goals as goal

pub loop-i-init : goal.loop-i-init
loop-i-init c = record { room = search rules; told = spelled_start (bytes_spelled c.args.text.now) }

pub returns-in_default : goal.returns-in_default
returns-in_default c = spelled_bad c.args.text.now (take c.loop-i.i c.loop-i.bytes) c.loop-i.i _ (omega arith)
    c.in_default.ensures c.loop-i.invariant.told

pub loop-i-preserved : goal.loop-i-preserved
loop-i-preserved c = record {
  room = length-set c.loop-i.bytes c.loop-i.i c.in-Some.byte ∙ c.loop-i.invariant.room;
  told = spelled_good c.args.text.now c.loop-i.bytes c.loop-i.i c.in-Some.byte _ (omega arith) (omega arith)
      c.in-Some.ensures c.loop-i.invariant.told;
}

pub returns : goal.returns
returns c = spelled_all c.args.text.now c.loop-i.bytes c.loop-i.i _ (omega arith) (omega arith) c.loop-i.invariant.told
