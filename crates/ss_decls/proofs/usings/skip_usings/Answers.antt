use Rattle.std.proofs.Common.{◌∙◌, Ok, subst}
use Rattle.ss_core.specs.declared.names.Place.{Place}
use Rattle.ss_ast.specs.declared.token.Word.TheVariants as word
use Rattle.ss_grammar.specs.Reading.{one_more}
use Rattle.ss_grammar.specs.Stops.{GivesMore}
use Rattle.ss_grammar.proofs.Turns.{more_last}
use Rattle.ss_grammar_expressions.specs.Heads.{the_word, pieces}
use Rattle.ss_grammar_programs.specs.Grammar.{dropped}
use Rattle.ss_grammar_programs.specs.Parser.{using_end}
use Rattle.ss_decls.proofs.Readers.{usings_is}
use Rattle.ss_decls.proofs.usings.skip_usings.Goals as goal

pub returns-clause-gives : goal.returns-clause-gives
returns-clause-gives c =
    let rest = c.loop-after.rest.now in
    let f = the_word word.Using in
    let k = λ (_ : Place). using_end in
    let g = subst (λ o. GivesMore (λ x. (tt, pieces x.now)) (Ok o) (one_more f k (pieces rest))) c.in_default.is c.in_ok-after.ensures.gives in
    usings_is (pieces c.args.tokens.now) ∙ more_last f k dropped tt (pieces rest) _ g c.loop-after.invariant.turns
