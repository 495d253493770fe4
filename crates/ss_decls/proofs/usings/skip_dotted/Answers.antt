use Rattle.std.proofs.Common.{◌∙◌, Ok, subst}
use Rattle.ss_core.specs.declared.names.Place.{Place}
use Rattle.ss_ast.specs.declared.token.Symbol.TheVariants as symbol
use Rattle.ss_grammar.specs.Reading.{one_more}
use Rattle.ss_grammar.specs.Stops.{GivesMore}
use Rattle.ss_grammar.proofs.Turns.{more_last}
use Rattle.ss_grammar_expressions.specs.Heads.{the, pieces}
use Rattle.ss_grammar_programs.specs.Grammar.{dropped}
use Rattle.ss_grammar_programs.specs.Parser.{skipped_name}
use Rattle.ss_decls.proofs.Readers.{dotted_is}
use Rattle.ss_decls.proofs.usings.skip_dotted.Goals as goal

pub returns-clause-gives : goal.returns-clause-gives
returns-clause-gives c =
    let rest = c.loop-after.rest.now in
    let f = the symbol.Dot in
    let k = λ (_ : Place). skipped_name in
    let g = subst (λ o. GivesMore (λ x. (tt, pieces x.now)) (Ok o) (one_more f k (pieces rest))) c.in_default.is c.in_ok-after.ensures.gives in
    dotted_is (pieces c.args.tokens.now) ∙ more_last f k dropped tt (pieces rest) _ g c.loop-after.invariant.turns
