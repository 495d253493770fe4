use Rattle.std.proofs.Common.{sym, ap, ◌∙◌}
use Rattle.ss_core.specs.declared.stmt.Stmt.{Stmt}
use Rattle.ss_core.specs.Tree.{StmtTree}
use Rattle.ss_core.specs.View.{stmt_of}
use Rattle.ss_vcgen.specs.Behind.{place_of}
use Rattle.ss_vcgen.proofs.Trees.{looped_is}
use Rattle.ss_vcgen.proofs.statements.place_of.Goals as goal

pub returns-in-Loop : goal.returns-in-Loop
returns-in-Loop c = sym (ap (λ (s : Stmt). place_of (stmt_of s)) c.in-Loop.is ∙ ap (λ (st : StmtTree). place_of st) (looped_is c.in-Loop.l))
