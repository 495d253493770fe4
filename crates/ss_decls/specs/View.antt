-- What the values of the code stand for.
use Rattle.ss_ast.specs.Programs.{AllOf, ElementsOf}
use Rattle.ss_ast.specs.Parts.{postfix_after}
use Rattle.ss_grammar_programs.specs.Grammar.{Path, Whole, Step}
use Rattle.ss_decls.specs.declared.modified.TermStep.{TermStep}
use Rattle.ss_decls.specs.declared.modified.TermStep.TheVariants as term

abbrev pub step_of : TermStep → Step
step_of (term.Postfix x) p a = Path (postfix_after x p a)
step_of term.All p a = Whole (AllOf a)
step_of term.Elements p a = Whole (ElementsOf a)
