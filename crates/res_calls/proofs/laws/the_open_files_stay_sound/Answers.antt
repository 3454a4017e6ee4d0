use Rattle.res_calls.proofs.Soundness.Laws.{sound-launched, sound-preloaded, sound-served}
use Rattle.res_calls.proofs.LeftFiles.{sound_left}
use Rattle.res_calls.proofs.Storing.{gone-sound}
use Rattle.res_calls.proofs.Walks.Own.{own-sound}
use Rattle.res_calls.proofs.laws.the_open_files_stay_sound.Goals as goal

pub returns-clause-launched : goal.returns-clause-launched
returns-clause-launched c = sound-launched

pub returns-clause-read : goal.returns-clause-read
returns-clause-read c = sound-preloaded

pub returns-clause-resources : goal.returns-clause-resources
returns-clause-resources c = sound-served

pub returns-clause-own : goal.returns-clause-own
returns-clause-own c = own-sound

pub returns-clause-left : goal.returns-clause-left
returns-clause-left c = sound_left

pub returns-clause-stored : goal.returns-clause-stored
returns-clause-stored c = gone-sound
