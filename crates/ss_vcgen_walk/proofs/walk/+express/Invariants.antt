use Rattle.std.proofs.Common.{◌≡◌, List, take}
use Rattle.ss_core.specs.View.{expr, classes}
use Rattle.ss_core.specs.Parts.{chain_front, path_front}
use Rattle.ss_store_rules.specs.Types.{type_of}
use Rattle.ss_terms.specs.Forms.{IsGrown}
use Rattle.ss_vcgen_known.specs.TellsFront.{TellsFront}
use Rattle.ss_vcgen_walk.specs.declared.parts.Part.{Part}
use Rattle.ss_vcgen_walk.specs.NullContexts.{Reads}
use Rattle.ss_vcgen_walk.proofs.walk.+express.Given as goal

abbrev pub invariant-chain-loop-link : goal.invariant-chain-loop-link
invariant-chain-loop-link l = record {
  grown : IsGrown l.fn.bank l.bank;
  typed : l.ty ≡ type_of (classes l.context.expression.now.classes.now) l.context.expression.now.types.items (chain_front l.start.at (expr l.start.first.now) (take l.link-index l.links));
  told : TellsFront l.told (chain_front l.start.at (expr l.start.first.now) (take l.link-index l.links));
  reads : (q : List Part) → Reads l.fn.bank l.fn.m l.fn.parts.items q (expr l.start.first.now) l.context.nulls.now l.context.expression.now → Reads l.bank l.front l.parts.items q (chain_front l.start.at (expr l.start.first.now) (take l.link-index l.links)) l.context.nulls.now l.context.expression.now;
}

abbrev pub invariant-path-loop-i : goal.invariant-path-loop-i
invariant-path-loop-i l = record {
  grown : IsGrown l.fn.bank l.bank;
  typed : l.ty ≡ type_of (classes l.context.expression.now.classes.now) l.context.expression.now.types.items (path_front l.start.at (expr l.start.first.now) (take l.i l.steps));
  reads : (q : List Part) → Reads l.fn.bank l.fn.m l.fn.parts.items q (expr l.start.first.now) l.context.nulls.now l.context.expression.now → Reads l.bank l.front l.parts.items q (path_front l.start.at (expr l.start.first.now) (take l.i l.steps)) l.context.nulls.now l.context.expression.now;
}
