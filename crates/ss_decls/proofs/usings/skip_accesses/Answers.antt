use Rattle.std.proofs.Common.{◌∙◌, arith}
use Rattle.ss_core.specs.declared.names.Place.{Place}
use Rattle.ss_grammar.specs.Reading.{take}
use Rattle.ss_grammar_expressions.specs.Heads.{is, pieces}
use Rattle.ss_grammar_expressions.specs.Parser.{give}
use Rattle.ss_parser_expressions.proofs.Loops.{pieces_less}
use Rattle.ss_grammar_programs.specs.Heads.{an_access}
use Rattle.ss_grammar_programs.proofs.Rounds.{rounds_on, rounds_end, another_seen, none_seen}
use Rattle.ss_decls.proofs.Readers.{accesses_is}
use Rattle.ss_decls.proofs.usings.skip_accesses.Goals as goal

pub loop-after-preserved : goal.loop-after-preserved
loop-after-preserved c =
    let rest = pieces c.loop-after.rest.now in
    let after = c.in-Some.after.now in
    record {
      turns = rounds_on (λ (_ : Unit {0}). is an_access) (take an_access give) (λ a (_ : Place). a) tt rest _ (pieces after) _ (another_seen an_access rest _ (pieces after) c.in-Some.ensures.sees) (pieces_less after c.loop-after.rest.now c.in-Some.ensures.fewer) c.loop-after.invariant.turns;
      fewer = omega (arith, c.loop-after.invariant.fewer, c.in-Some.ensures.fewer);
    }

pub returns-clause-reads : goal.returns-clause-reads
returns-clause-reads c =
    let rest = pieces c.loop-after.rest.now in
    accesses_is (pieces c.args.tokens.now) ∙ rounds_end (λ (_ : Unit {0}). is an_access) (take an_access give) (λ a (_ : Place). a) tt rest _ (none_seen an_access rest c.in_default.ensures.sees) c.loop-after.invariant.turns
