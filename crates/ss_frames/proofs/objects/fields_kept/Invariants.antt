use Rattle.ss_core.specs.View as view
use Rattle.ss_logic.specs.Frames.{fields_kept}
use Rattle.ss_terms.specs.Forms.{IsGrown}
use Rattle.ss_frames.specs.Calls.{call_at, AreMade}
use Rattle.ss_frames.proofs.objects.fields_kept.Given as goal

abbrev pub invariant-loop-f : goal.invariant-loop-f
invariant-loop-f l = record {
  grown : IsGrown l.initial.b l.b;
  made : AreMade l.b l.made.items (fields_kept (view.classes l.context.classes.now) (call_at l.initial.b l.context.call.now) 0 l.f);
}
