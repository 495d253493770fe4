use Rattle.std.proofs.Common.{[], ◌∷◌, ◌++◌, map, take}
use Rattle.ss_logic.specs.Express.{and_of}
use Rattle.ss_terms.specs.Forms.{formulas_at, IsGrown}
use Rattle.ss_frames.specs.Calls.{named_at}
use Rattle.ss_vcgen_express.specs.Numbers.{choices_at}
use Rattle.ss_vcgen_contracts.specs.Names.{named_by}
use Rattle.ss_vcgen_contracts.specs.Views.{AreNames}
use Rattle.ss_vcgen_contracts.proofs.names.add_choices.Given as goal

abbrev pub invariant-loop-choice : goal.invariant-loop-choice
invariant-loop-choice l = record {
  grown : IsGrown l.initial.bank l.bank;
  done : AreNames l.bank l.names.items (λ b. map (named_at b) l.initial.names.items ++ map (λ x. named_by l.kind (and_of (formulas_at b l.guards ++ x.condition ∷ [])) x.value) (choices_at b (take l.choice-index l.choices)));
}
