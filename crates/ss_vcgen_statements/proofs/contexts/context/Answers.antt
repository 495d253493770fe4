use Rattle.std.proofs.Common.{List, Option, map, refl, ap, ◌∙◌}
use Rattle.ss_terms.specs.declared.forms.TermId.{TermId}
use Rattle.ss_vcgen_builder.proofs.Builds.{becomes_bank}
use Rattle.ss_vcgen_statements.specs.Contexts.{or_else}
use Rattle.ss_vcgen_statements.proofs.Evaluated.{context_stands}
use Rattle.ss_vcgen_statements.proofs.contexts.context.Goals as goal

pub returns-clause-at : goal.returns-clause-at
returns-clause-at c =
    context_stands c.args.builder.now c.args.walk.now c.apply.new.self _ c.in_ok-null.null c.requires.fine c.requires.walk c.apply.ensures.grown c.in_ok-null.ensures.at.0 c.in_ok-null.ensures.at.1 refl refl refl refl c.in_ok-types.ensures.items
    (c.in_ok-locals.ensures ∙ ap (λ (ls : List (Option TermId)). map (or_else c.in_ok-null.null) ls) c.deref.ensures.value) refl

pub returns-clause-stays : goal.returns-clause-stays
returns-clause-stays c = becomes_bank c.args.builder.now c.apply.new.self c.requires.fine c.apply.ensures.grown
