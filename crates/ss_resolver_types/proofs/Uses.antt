-- What may be done with an expression is told by how it ends.
use Rattle.std.proofs.Common.{◌≡◌, ◌++◌, List, Bool, refl, ap, ◌∙◌, append_assoc}
use Rattle.std.specs.Prelude.{not}
use Rattle.ss_core.specs.declared.names.Place.{Place}
use Rattle.ss_ast.specs.Expressions.{ExprTree, MemberOf, ElementOf, CallOf, NameOf, BaseOf, NewOf, NewArrayOf}
use Rattle.ss_tables.specs.Scopes.{Scope}
use Rattle.ss_faults.specs.declared.Fault.{Fault}
use Rattle.ss_resolver_types_heads.specs.Faults.{bad_type, fault_where}
use Rattle.ss_resolver_types_heads.specs.Wants.{place_of}
use Rattle.ss_resolver_types_heads.specs.Calls.{ExprContext}
use Rattle.ss_resolver_types_heads.specs.Expressions.{AsValue, faults}
use Rattle.ss_resolver_types_expressions.specs.Statements.{is_target, may_stand_alone}
use Rattle.ss_resolver_types_expressions.specs.Members.{is_field_term}
use Rattle.ss_resolver_types_heads.specs.Heads.{ending}
use Rattle.ss_resolver_types.specs.Bodies.{target_at, alone_at, field_term_at}

pub target_is : (s : Scope) (e : ExprTree) → target_at (ending s e) ≡ is_target s e
target_is s (NameOf p n) = refl
target_is s (BaseOf p) = refl
target_is s (MemberOf p e n) = refl
target_is s (ElementOf p e i) = refl
target_is s (CallOf p f es) = refl
target_is s (NewOf p n es) = refl
target_is s (NewArrayOf p q t e) = refl
target_is s e = refl

pub alone_is : (s : Scope) (e : ExprTree) → alone_at (ending s e) ≡ may_stand_alone s e
alone_is s (NameOf p n) = refl
alone_is s (BaseOf p) = refl
alone_is s (MemberOf p e n) = refl
alone_is s (ElementOf p e i) = refl
alone_is s (CallOf p f es) = refl
alone_is s (NewOf p n es) = refl
alone_is s (NewArrayOf p q t e) = refl
alone_is s e = refl

pub field_term_is : (s : Scope) (e : ExprTree) → field_term_at s (ending s e) ≡ is_field_term s e
field_term_is s (NameOf p n) = refl
field_term_is s (BaseOf p) = refl
field_term_is s (MemberOf p e n) = refl
field_term_is s (ElementOf p e i) = refl
field_term_is s (CallOf p f es) = refl
field_term_is s (NewOf p n es) = refl
field_term_is s (NewArrayOf p q t e) = refl
field_term_is s e = refl

-- its faults, and one where it isn't what may stand there
pub use_noted : (a : ExprContext) (e : ExprTree) (f0 f1 f2 : List Fault) (b x : Bool) (p : Place)
    → b ≡ x → p ≡ place_of e → f1 ≡ f0 ++ faults a AsValue e → f2 ≡ f1 ++ fault_where (not b) (bad_type p)
    → f2 ≡ f0 ++ (faults a AsValue e ++ fault_where (not x) (bad_type (place_of e)))
use_noted a e f0 f1 f2 b x p same at q r =
    r ∙ ap (λ y. f1 ++ fault_where (not y) (bad_type p)) same ∙ ap (λ y. f1 ++ fault_where (not x) (bad_type y)) at
    ∙ ap (λ l. l ++ fault_where (not x) (bad_type (place_of e))) q ∙ append_assoc f0 (faults a AsValue e) (fault_where (not x) (bad_type (place_of e)))
