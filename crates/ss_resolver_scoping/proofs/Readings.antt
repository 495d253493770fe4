-- Paths read from the left have the types of expressions.
use Rattle.std.proofs.Common.{◌≡◌, option_and_then, refl, ap, ◌∙◌}
use Rattle.ss_ast.specs.Expressions.{ExprTree, MemberOf, ElementOf, CallOf}
use Rattle.ss_tables.specs.Types.{class_of, element_type}
use Rattle.ss_tables.specs.Scopes.{Scope}
use Rattle.ss_tables.specs.Statics.{AValue, read_type, member_callee, count, called_with, call_type, receiver, static, callee}
use Rattle.ss_resolver_names_rules.specs.Prefixes.{Prefix, prefix_value, prefix_receiver, prefix_callee, prefix}

mutual
  pub value_is : (s : Scope) (e : ExprTree) → prefix_value s (prefix s e) ≡ static s e
  value_is s (MemberOf p e n) = ap (read_type s.classes n.text) (receiver_is s e)
  value_is s (ElementOf p e i) = ap (λ t. option_and_then element_type (option_and_then class_of t)) (value_is s e)
  value_is s (CallOf p e es) = ap (λ c. call_type s.classes (called_with (count es) c)) (callee_is s e)
  value_is s e = refl

  pub receiver_is : (s : Scope) (e : ExprTree) → prefix_receiver s (prefix s e) ≡ receiver s e (static s e)
  receiver_is s (MemberOf p e n) = ap (λ r. AValue (read_type s.classes n.text r)) (receiver_is s e)
  receiver_is s (ElementOf p e i) = ap (λ t. AValue (option_and_then element_type (option_and_then class_of t))) (value_is s e)
  receiver_is s (CallOf p e es) = ap (λ c. AValue (call_type s.classes (called_with (count es) c))) (callee_is s e)
  receiver_is s e = refl

  pub callee_is : (s : Scope) (e : ExprTree) → prefix_callee s (prefix s e) ≡ callee s e
  callee_is s (MemberOf p e n) = ap (member_callee s n.text) (receiver_is s e)
  callee_is s e = refl

pub read_typed : (s : Scope) (e : ExprTree) (x : Prefix) → x ≡ prefix s e → prefix_value s x ≡ static s e
read_typed s e x p = ap (prefix_value s) p ∙ value_is s e
