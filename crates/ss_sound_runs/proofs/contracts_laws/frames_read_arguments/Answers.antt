use Rattle.ss_sound_runs.proofs.Spans.{frames_read}
use Rattle.ss_sound_runs.proofs.contracts_laws.frames_read_arguments.Goals as goal

pub returns : goal.returns
returns c = λ t b formed s z outside arguments locals v has. frames_read t b formed s z outside arguments locals v has
