use Rattle.zone_bytes.proofs.settling.settle_run.Given as goal

abbrev pub ghost-pack_until : goal.ghost-pack_until
ghost-pack_until g a = g.lay
