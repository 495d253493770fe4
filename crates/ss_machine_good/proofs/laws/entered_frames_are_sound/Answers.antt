use Rattle.ss_machine_good.proofs.Frames.{entered_frame}
use Rattle.ss_machine_good.proofs.laws.entered_frames_are_sound.Goals as goal

pub returns : goal.returns
returns c = entered_frame
