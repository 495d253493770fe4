-- A body stands for itself, and what stands for one that stands for a third body stands for that.
use Rattle.std.proofs.Common.{[], ◌++◌, refl, sym, ◌∙◌, ap}
use Rattle.std.proofs.lemmas.List.{append_assoc, append-nil}
use Rattle.ss_core.specs.Tree.{BodyTree}
use Rattle.ss_store_rules.specs.Tables.{normal_exit, StandsFor}

pub StandsFor-refl : (b : BodyTree) → StandsFor b b
StandsFor-refl b = record {
  params = refl;
  captured = refl;
  result = refl;
  static = refl;
  pure = refl;
  entry = refl;
  named = refl;
  more = [];
  exit = sym (append-nil (normal_exit b));
}

pub StandsFor-trans : (a b c : BodyTree) → StandsFor a b → StandsFor b c → StandsFor a c
StandsFor-trans a b c first second = record {
  params = second.params ∙ first.params;
  captured = second.captured ∙ first.captured;
  result = second.result ∙ first.result;
  static = second.static ∙ first.static;
  pure = second.pure ∙ first.pure;
  entry = second.entry ∙ first.entry;
  named = second.named ∙ first.named;
  more = first.more ++ second.more;
  exit = second.exit ∙ ap (λ es. es ++ second.more) first.exit ∙ append_assoc (normal_exit a) first.more second.more;
}
