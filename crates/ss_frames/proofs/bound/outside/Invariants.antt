use Rattle.std.proofs.Common.{map, take}
use Rattle.ss_logic.specs.Shapes.{equal}
use Rattle.ss_logic.specs.Frames.{the_object}
use Rattle.ss_terms.specs.Forms.{term_at, IsGrown}
use Rattle.ss_frames.specs.Calls.{AreMade}
use Rattle.ss_frames.proofs.bound.outside.Given as goal

abbrev pub invariant-loop-o : goal.invariant-loop-o
invariant-loop-o l = record {
  grown : IsGrown l.initial.b l.b;
  made : AreMade l.b l.made.items (map (λ t. equal the_object (term_at l.initial.b t)) (take l.o-index l.m.outside.items));
}
