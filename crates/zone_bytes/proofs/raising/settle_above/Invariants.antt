use Rattle.zone_bytes.proofs.raising.settle_above.Given as goal

abbrev pub ghost-settle_run : goal.ghost-settle_run
ghost-settle_run g a = g.lay
