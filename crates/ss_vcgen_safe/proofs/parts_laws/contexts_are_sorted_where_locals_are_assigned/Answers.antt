use Rattle.ss_vcgen_safe.proofs.Placed.{assigned_sorted}
use Rattle.ss_vcgen_safe.proofs.parts_laws.contexts_are_sorted_where_locals_are_assigned.Goals as goal

pub returns : goal.returns
returns c = assigned_sorted
