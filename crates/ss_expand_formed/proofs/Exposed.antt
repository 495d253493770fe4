-- What is exposed without faults is an object of the declared class at which it is exposed, or of one below.
use Rattle.std.proofs.Common.{◌≡◌, ℕ, ◌+◌, ◌*◌, ◌<◌, List, [], length, Bool, true, false, Option, Some, None, refl, sym, ◌∙◌, ap, subst, arith}
use Rattle.std.specs.Prelude.{is_some, option_map}
use Rattle.std.proofs.lemmas.Bool.{ltb-true, false≢true}
use Rattle.ss_core.specs.declared.names.Ty.{Ty}
use Rattle.ss_core.specs.declared.names.Ty.TheVariants as ty
use Rattle.ss_core.specs.Tree as core
use Rattle.ss_core.specs.Chain.{is_class, is_declared, below}
use Rattle.ss_core.proofs.Chains.{below_self, sub-below}
use Rattle.ss_ast.specs.Expressions.{NameTree}
use Rattle.ss_ast.specs.Expressions as text
use Rattle.ss_ast.specs.Programs.{ProgramTree}
use Rattle.ss_tables.specs.Classes.{class_named, class_number, declared_place}
use Rattle.ss_typed.specs.Tree.{ExprTree}
use Rattle.ss_typed.specs.Types.{type_of}
use Rattle.ss_resolver_names_rules.specs.Statements.{named_class_faults}
use Rattle.ss_resolver_names_rules.specs.Programs.{program_faults}
use Rattle.ss_resolver_types_heads.specs.Wants.{Want, AnyValue, OfDeclared, OfClass, suits, is_below}
use Rattle.ss_resolver_types_heads.specs.Wants as wants
use Rattle.ss_resolver_types_expressions.specs.Statements.{exposed_want}
use Rattle.ss_resolver_rules.specs.Numbers.{number_or_object, class_id}
use Rattle.ss_resolver_rules.specs.Expressions.{expr}
use Rattle.ss_expand_rules.specs.Lifting.{class_of_type}
use Rattle.ss_expand_rules.specs.Statements.{exposed_class}
use Rattle.ss_store_rules.specs.Types.{has_class}
use Rattle.ss_expand_formed.specs.Laws.{core_of}
use Rattle.ss_expand_formed.proofs.ChainLaw.{size, nothing_beside}
use Rattle.ss_expand_formed.proofs.Cycles.{named_within}
use Rattle.ss_expand_formed.proofs.Resolved.{number_declared}
use Rattle.ss_expand_formed.proofs.Fit.{Context}
use Rattle.ss_expand_formed.proofs.Classes.{place_is, below_sub}
use Rattle.ss_expand_formed.proofs.ExpressionsPlaces.{At, env_at, IsKnown, IsPlace, class_of_value, IsWanted}
use Rattle.ss_expand_formed.proofs.MemberReads.{not_unless}

module _ (p : ProgramTree) (faultless : program_faults p ≡ []) where
  abbrev C : List core.ClassTree
  C = (core_of p).classes

  abbrev IsExposed : Option Ty → ℕ → Type 0
  IsExposed o t = (is_declared C t ≡ true) × (has_class (λ c. below C c t) o ≡ true)

  declared_itself : (c : ℕ) (n : Bool) → is_class C c ≡ true → (k : Option ℕ) → declared_place c ≡ k → is_some k ≡ true → IsExposed (Some (ty.Ref (record { 0 = c }) n)) c
  declared_itself c n class None e some = absurd (false≢true some)
  declared_itself c n class (Some k) e some =
      let number = place_is c k e in
      let l = ltb-true c (4 + 2 * length C) class in
      (ap (is_declared C) number ∙ number_declared C k (omega arith), below_self C c)

  -- an object of a declared class, at its own
  own : (t : Ty) → ((c : ℕ) (n : Bool) → t ≡ ty.Ref (record { 0 = c }) n → is_class C c ≡ true) → wants.is_declared t ≡ true → IsExposed (Some t) (class_of_type (Some t))
  own ty.Int class h = absurd (false≢true h)
  own ty.Bool class h = absurd (false≢true h)
  own ty.Null class h = absurd (false≢true h)
  own (ty.Ref c n) class h = declared_itself c.0 n (class c.0 n refl) (declared_place c.0) refl h

  -- at the class that is named
  named : (t : Ty) → ((c : ℕ) (n : Bool) → t ≡ ty.Ref (record { 0 = c }) n → is_class C c ≡ true) → (k : ℕ) → k < length p.classes → wants.is_object_of p.classes (class_number k) t ≡ true → IsExposed (Some t) (class_number k)
  named ty.Int class k l h = absurd (false≢true h)
  named ty.Bool class k l h = absurd (false≢true h)
  named ty.Null class k l h = absurd (false≢true h)
  named (ty.Ref c n) class k l h =
      let s = size p in
      (number_declared C k (omega arith), sym (sub-below C (nothing_beside p) c.0 (class_number k)) ∙ below_sub p faultless c.0 (class_number k) (class c.0 n refl) h)

  module _ (x : Context) (is_known : IsKnown p x) (static : Bool) (a : At) (place : IsPlace p x static false false a) (y : text.ExprTree) where
    abbrev Y : ExprTree
    Y = expr (env_at p a) y

    classed : (t : Ty) → type_of Y ≡ Some t → (c : ℕ) (n : Bool) → t ≡ ty.Ref (record { 0 = c }) n → is_class C c ≡ true
    classed t is c n e = class_of_value p x is_known static false false a place y c n (is ∙ ap Some e)

    exposed_at : (n : NameTree) (o : Option ℕ) → class_named p.classes n.text ≡ o → is_some o ≡ true → IsWanted p x static false false false a (exposed_want p.classes (Some n)) y → IsExposed (type_of Y) (class_id p.classes n.text)
    exposed_at n None e some g = absurd (false≢true some)
    exposed_at n (Some k) e some g =
        let want : exposed_want p.classes (Some n) ≡ OfClass (class_number k) = rw e refl in
        let suited : suits p.classes (OfClass (class_number k)) g.type ≡ true = ap (λ w. suits p.classes w g.type) (sym want) ∙ g.suits in
        let number : class_id p.classes n.text ≡ class_number k = ap number_or_object e in
        rw (number, g.is) (named g.type (classed g.type g.is) k (named_within p.classes n.text k e) suited)

    pub exposed_fits : (n : Option NameTree) → named_class_faults p.classes n ≡ [] → IsWanted p x static false false false a (exposed_want p.classes n) y → IsExposed (type_of Y) (exposed_class Y (option_map (λ (m : NameTree). class_id p.classes m.text) n))
    exposed_fits None names g = subst (λ o. IsExposed o (class_of_type o)) (sym g.is) (own g.type (classed g.type g.is) g.suits)
    exposed_fits (Some n) names g = exposed_at n (class_named p.classes n.text) refl (not_unless (is_some (class_named p.classes n.text)) n.place names) g
