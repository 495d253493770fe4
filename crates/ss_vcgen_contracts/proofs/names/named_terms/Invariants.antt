use Rattle.std.proofs.Common.{map, take}
use Rattle.std.specs.Prelude.{flat_map}
use Rattle.ss_core.specs.View as view
use Rattle.ss_terms.specs.Forms.{IsGrown}
use Rattle.ss_vcgen_express.specs.Contexts.{context_at}
use Rattle.ss_vcgen_contracts.specs.Names.{name_seen, names_of}
use Rattle.ss_vcgen_contracts.specs.Views.{AreNames}
use Rattle.ss_vcgen_contracts.proofs.names.named_terms.Given as goal

abbrev pub invariant-loop-name : goal.invariant-loop-name
invariant-loop-name l = record {
  grown : IsGrown l.initial.bank l.bank;
  done : AreNames l.bank l.names.items (λ b. flat_map (names_of (context_at b l.context)) (map (name_seen l.seen) (map view.named_of (take l.name-index l.list))));
}
