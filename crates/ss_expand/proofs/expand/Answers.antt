use Rattle.std.proofs.Common.{◌≡◌, sym, ap, subst, ◌∙◌, IfOk, Result, Ok, Err}
use Rattle.ss_core.specs.View as core
use Rattle.ss_core.specs.declared.body.Core.{Core}
use Rattle.ss_core.specs.Tree.{CoreTree}
use Rattle.ss_typed.specs.View.{typed}
use Rattle.ss_store_rules.specs.Formed.{IsFormed}
use Rattle.ss_expand_rules.specs.Elaborated.{elaborated}
use Rattle.ss_expand_formed.proofs.Whole.{elaboration_is_formed}
use Rattle.ss_expand.proofs.expand.Goals as goal

formed : {E : Type 0} (r : Result Core E) (c : CoreTree) → IsFormed c → IfOk r (λ x. core.core x ≡ c) → IfOk r (λ x. IsFormed (core.core x))
formed (Ok x) c is e = subst IsFormed (sym e) is
formed (Err e) c is h = h

pub returns-clause-formed : goal.returns-clause-formed
returns-clause-formed c = λ p faultless is. formed c.expand.result (elaborated (typed c.args.program.now)) (subst (λ t. IsFormed (elaborated t)) is (elaboration_is_formed p faultless)) c.expand.ensures
