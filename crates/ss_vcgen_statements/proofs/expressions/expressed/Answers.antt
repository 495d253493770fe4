use Rattle.std.proofs.Common.{List, sym, subst}
use Rattle.ss_core.specs.View.{expr}
use Rattle.ss_vcgen_walk.specs.declared.parts.Part.{Part}
use Rattle.ss_vcgen_walk.specs.Parts.{HasParts}
use Rattle.ss_vcgen_builder.specs.Builder.{position_at}
use Rattle.ss_vcgen_builder.proofs.Builds.{becomes_bank, becomes_then, if_ok}
use Rattle.ss_vcgen_statements.proofs.Evaluated.{walked_meant, walked_parts}
use Rattle.ss_vcgen_statements.proofs.expressions.expressed.Goals as goal

pub express-requires-clause-nulls : goal.express-requires-clause-nulls
express-requires-clause-nulls c = c.requires.walk.limits.classes

pub express-requires-clause-context : goal.express-requires-clause-context
express-requires-clause-context c = c.in_ok-context.ensures.at.has

pub express-requires-clause-parts : goal.express-requires-clause-parts
express-requires-clause-parts c = subst (λ (ps : List Part). HasParts c.context.new.builder.bank ps) (sym c.requires.none) tt

pub returns-clause-meant : goal.returns-clause-meant
returns-clause-meant c =
    if_ok c.express.result
    (λ m r. walked_meant c.args.builder.now c.context.new.builder c.args.walk.now c.express.new.bank c.in_ok-context.context m c.express.new.parts.items c.args.parts.now.items (expr c.args.e.now) c.in_ok-context.ensures.at c.express.ensures.grown r)
    c.express.ensures.expressed

pub returns-clause-parts : goal.returns-clause-parts
returns-clause-parts c =
    if_ok c.express.result
    (λ m r.
    walked_parts c.args.builder.now c.context.new.builder c.args.walk.now c.express.new.bank c.in_ok-context.context m c.express.new.parts.items c.args.parts.now.items (expr c.args.e.now) c.requires.walk.types c.in_ok-context.ensures.stays c.in_ok-context.ensures.at
    c.express.ensures.grown c.requires.none r)
    c.express.ensures.expressed

pub returns-clause-stays : goal.returns-clause-stays
returns-clause-stays c =
    let s = c.args.builder.now in
    let t = c.context.new.builder in
    let p = c.in_ok-context.ensures.stays in
    if_ok c.express.result (λ m _. becomes_then s t (record t { bank = c.express.new.bank }) (λ b. position_at b s) (λ b k. k) p (becomes_bank t c.express.new.bank p.fine c.express.ensures.grown)) c.express.ensures.expressed
