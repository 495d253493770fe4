use Rattle.std.proofs.Common.{map, take}
use Rattle.ss_terms.specs.Forms.{IsGrown}
use Rattle.ss_frames.specs.Calls.{AreMade, group_at}
use Rattle.ss_frames.proofs.bound.in_groups.Given as goal

abbrev pub invariant-loop-e : goal.invariant-loop-e
invariant-loop-e l = record {
  grown : IsGrown l.initial.b l.b;
  made : AreMade l.b l.made.items (map (group_at l.initial.b l.store) (take l.e-index l.captured));
}
