-- What a call has noted, where the locals are as they were.
use Rattle.std.proofs.Common.{◌≡◌, ◌++◌, Option, ℕ, Result, OnOk, sym, ap, ◌∙◌}
use Rattle.std.proofs.lemmas.Result.{on_ok_weaker}
use Rattle.ss_ast.specs.Expressions.{ExprTree}
use Rattle.ss_tables_scopes.specs.declared.class_context.ClassContext.{ClassContext}
use Rattle.ss_tables_scopes.specs.Names.{Names}
use Rattle.ss_tables_scopes.specs.Views.{scope_of}
use Rattle.ss_resolver_names_rules.specs.Faults.{Faults}
use Rattle.ss_resolver_names_rules.specs.Expressions.{expr_faults, class_named_by, argument_faults}
use Rattle.ss_resolver_names_rules.specs.Prefixes.{Prefix, prefix, settled, asked}
use Rattle.ss_resolver_names_members.proofs.Walks.{asked_noted}

pub parts_noted : {T E : Type 0} (r : Result T E) (w : ClassContext) (l l1 : Names) (t u : ExprTree) (found new : Faults) → l1 ≡ l → u ≡ t → OnOk r (new ≡ found ++ settled (scope_of w l1) u) → OnOk r (new ≡ found ++ settled (scope_of w l) t)
parts_noted r w l l1 t u found new k e h =
    on_ok_weaker {P = new ≡ found ++ settled (scope_of w l1) u} {Q = new ≡ found ++ settled (scope_of w l) t} r
    (λ p. p ∙ ap (λ n. found ++ settled (scope_of w n) u) k ∙ ap (λ v. found ++ settled (scope_of w l) v) e) h

pub argument_noted : {T E : Type 0} (r : Result T E) (w : ClassContext) (l l1 : Names) (e : ExprTree) (found mid new : Faults) (x : Prefix) (which : Option ℕ) → l1 ≡ l
    → mid ≡ found ++ settled (scope_of w l) e → x ≡ prefix (scope_of w l) e
    → argument_faults (scope_of w l) which e (expr_faults (scope_of w l) e) ≡ class_named_by (scope_of w l) e (expr_faults (scope_of w l) e)
    → OnOk r (new ≡ mid ++ asked (scope_of w l1) x) → OnOk r (new ≡ found ++ argument_faults (scope_of w l) which e (expr_faults (scope_of w l) e))
argument_noted r w l l1 e found mid new x which k m b a h =
    on_ok_weaker {P = new ≡ mid ++ asked (scope_of w l1) x} {Q = new ≡ found ++ argument_faults (scope_of w l) which e (expr_faults (scope_of w l) e)} r
    (λ p. asked_noted (scope_of w l) e found mid new x m b (p ∙ ap (λ n. mid ++ asked (scope_of w n) x) k) ∙ ap (λ f. found ++ f) (sym a)) h
