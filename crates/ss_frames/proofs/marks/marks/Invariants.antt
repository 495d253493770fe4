use Rattle.std.proofs.Common.{◌≡◌, map, take}
use Rattle.ss_terms.specs.Forms.{IsGrown}
use Rattle.ss_frames.specs.Calls.{AreMarks, term_of_mark}
use Rattle.ss_frames.proofs.marks.marks.Given as goal

abbrev pub invariant-loop-term : goal.invariant-loop-term
invariant-loop-term l = record {
  grown : IsGrown l.initial.b l.b;
  terms : map term_of_mark l.made.items ≡ take l.term-index l.m.named.items;
  made : AreMarks l.b l.n l.made.items;
}
