use Rattle.zone_drawing.specs.declared.choice.Choice.TheVariants as choice
use Rattle.zone_drawing.specs.declared.totals.Class.TheVariants as class
use Rattle.zone_drawing.proofs.Chosen.{all-chosen, chosen-twice, counted-chosen, sized-chosen, free-chosen, locked-chosen, purgeable-chosen}
use Rattle.zone_drawing.proofs.laws.chosen_blocks_add_up.Goals as goal

pub returns-clause-all : goal.returns-clause-all
returns-clause-all c = all-chosen

pub returns-clause-twice : goal.returns-clause-twice
returns-clause-twice c = chosen-twice

pub returns-clause-free : goal.returns-clause-free
returns-clause-free c = counted-chosen class.Free choice.Free free-chosen

pub returns-clause-free_bytes : goal.returns-clause-free_bytes
returns-clause-free_bytes c = sized-chosen class.Free choice.Free free-chosen

pub returns-clause-locked : goal.returns-clause-locked
returns-clause-locked c = counted-chosen class.Locked choice.Locked locked-chosen

pub returns-clause-locked_bytes : goal.returns-clause-locked_bytes
returns-clause-locked_bytes c = sized-chosen class.Locked choice.Locked locked-chosen

pub returns-clause-purgeable : goal.returns-clause-purgeable
returns-clause-purgeable c = counted-chosen class.Purgeable choice.Purgeable purgeable-chosen

pub returns-clause-purgeable_bytes : goal.returns-clause-purgeable_bytes
returns-clause-purgeable_bytes c = sized-chosen class.Purgeable choice.Purgeable purgeable-chosen
