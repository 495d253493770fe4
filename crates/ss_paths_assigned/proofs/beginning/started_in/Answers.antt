use Rattle.std.proofs.Common.{option_map, sym, ap, ◌∙◌, Bor}
use Rattle.ss_typed.specs.declared.program.TypedClass.{TypedClass}
use Rattle.ss_typed.specs.View.{members}
use Rattle.ss_paths.specs.Fields.{fields_of_members}
use Rattle.ss_paths_assigned.specs.Started.{started}
use Rattle.ss_paths_assigned.proofs.Places.{none_started}
use Rattle.ss_paths_assigned.proofs.beginning.started_in.Goals as goal

pub returns-in-None : goal.returns-in-None
returns-in-None c = c.new.ensures ∙ none_started ∙ sym (ap (λ o. started (fields_of_members (option_map (λ (m : Bor TypedClass). members m.now) o))) c.in-None.is)
