use Rattle.macmem_c.proofs.Cited.{rules, w32, SFits, IsTranscript}
use Rattle.macmem_c.proofs.Giving.{given}
use Rattle.macmem_c.proofs.scripts.macmem_script_transcript.Goals as goal

pub returns-clause-run : goal.returns-clause-run
returns-clause-run c good =
    let fits : SFits w32 c.hand_over_script.result = search rules in
    given (λ v. v.items) (IsTranscript c.args.size c.args.script.now) c.transcript_of.result _ _ _ _ _ _ _ _ fits
    c.transcript_of.ensures.transcript c.transcript_of.ensures.fault c.hand_over_script.ensures.handed c.hand_over_script.ensures.stopped
