use Rattle.std.proofs.Common.{map, take}
use Rattle.ss_terms.specs.Forms.{IsGrown}
use Rattle.ss_frames.specs.Calls.{AreMade, owned_at}
use Rattle.ss_frames.proofs.bound.owned_by_any.Given as goal

abbrev pub invariant-loop-owner : goal.invariant-loop-owner
invariant-loop-owner l = record {
  grown : IsGrown l.initial.b l.b;
  made : AreMade l.b l.made.items (map (owned_at l.initial.b l.store) (take l.owner-index l.owners));
}
