-- Calls and new objects in code without faults fit.
use Rattle.std.proofs.Common.{◌≡◌, ℕ, zero, suc, ◌+◌, ◌-◌, ◌*◌, ◌<◌, List, [], ◌∷◌, ◌++◌, length, map, Bool, true, false, Option, Some, None, refl, sym, ◌∙◌, ap, subst, arith}
use Rattle.std.specs.Prelude.{◌||◌, ◌==◌, slice_get, is_some, is_none, option_map, if◌then◌else◌}
use Rattle.std.specs.List.{list_all}
use Rattle.std.proofs.lemmas.Bool.{and_parts, or_right, eqb-true, eq-eqb, false≢true}
use Rattle.std.proofs.lemmas.List.{length-map}
use Rattle.ss_core.specs.declared.names.Place.{Place}
use Rattle.ss_core.specs.declared.names.Ty.{Ty}
use Rattle.ss_core.specs.declared.names.Ty.TheVariants as ty
use Rattle.ss_core.specs.Tree as core
use Rattle.ss_core.specs.Chain.{is_type, is_declared}
use Rattle.ss_ast.specs.Expressions.{NameTree, TypeTree, TypeNameTree, IntType, BoolType, ObjectType, ClassType, Arguments, NoMore, Argument, CallOf, MemberOf, NameOf, NewOf, NewArrayOf}
use Rattle.ss_ast.specs.Expressions as text
use Rattle.ss_ast.specs.Programs.{ParamTree, ClassTree, ProgramTree}
use Rattle.ss_tables.specs.Members.{MethodTree, is_static}
use Rattle.ss_tables.specs.Classes.{Declared, class_named, class_number, array_number}
use Rattle.ss_tables.specs.Types.{reference, array_type, written_type}
use Rattle.ss_tables.specs.Scopes.{Scope}
use Rattle.ss_tables.specs.Statics.{Callee, AMethod, result_type, constructor_params, count, callee, called_with, call_type}
use Rattle.ss_tables.specs.Statics as statics
use Rattle.ss_typed.specs.Tree.{ExprTree, CallOf as CallTree, StaticOf as StaticTree, BaseOf as BaseTree}
use Rattle.ss_typed.specs.Tree as typed
use Rattle.ss_typed.specs.Types.{class_type, type_of}
use Rattle.ss_resolver_names_rules.specs.Expressions.{expr_faults, arguments_faults}
use Rattle.ss_resolver_names_rules.specs.Faults.{class_faults, type_name_faults}
use Rattle.ss_resolver_names_rules.specs.Programs.{program_faults}
use Rattle.ss_resolver_types_heads.specs.Wants.{AnInt, OfType, gives_nothing, has_no_value, may_stand_for, suits, wrong}
use Rattle.ss_resolver_types_heads.specs.Calls.{ExprContext, Taking, param_wants, constructed, argument_wants, whole_call, is_wrong_call}
use Rattle.ss_resolver_types_heads.specs.Expressions.{AsValue, faults, argument_faults}
use Rattle.ss_resolver_rules.specs.Numbers.{number_or_object, class_id, class_in, array_class, type_id, method_id, table_place}
use Rattle.ss_resolver_rules.specs.Expressions.{method_call, expr, args}
use Rattle.ss_resolver_rules.specs.Programs.{method_env, method_body, resolved}
use Rattle.ss_typed.specs.Lookups.{body_at, constructor_of, param_types_in}
use Rattle.ss_expand_rules.specs.Program as program
use Rattle.ss_expand_rules.specs.Lifting.{static_class, class_of_type}
use Rattle.ss_store_rules.specs.Types.{has_fitting, has_class}
use Rattle.ss_store_rules.specs.Changes.{is_array}
use Rattle.ss_expand_formed.specs.Laws.{core_of}
use Rattle.ss_expand_formed.proofs.Facts.{none_left, not_false}
use Rattle.ss_expand_formed.proofs.ChainLaw.{size as size_of}
use Rattle.ss_expand_formed.proofs.Resolved.{number_declared}
use Rattle.ss_expand_formed.proofs.Cycles.{named_within}
use Rattle.ss_expand_formed.proofs.TypesKnown.{env_of}
use Rattle.ss_expand_formed.proofs.Fit.{Context, IsCallee, Fit, Fits}
use Rattle.ss_expand_formed.proofs.ExpressionsScopes.{refusing, expr_context, no_fault}
use Rattle.ss_expand_formed.proofs.Classes.{stands_fits, type_there}
use Rattle.ss_expand_formed.proofs.ExpressionsPlaces.{At, scope_at, env_at, IsKnown, IsPlace, class_of_value, Sound, IsWanted, wanted_int}
use Rattle.ss_expand_formed.proofs.MemberReads.{not_unless}
use Rattle.ss_expand_formed.proofs.Questions.{Sounds, want}
use Rattle.ss_expand_formed.proofs.Methods.{HasMethod, types_map, constructor_has}

pub class_there : (cs : List ClassTree) (k : ℕ) → k < length cs → (c : ClassTree) × (slice_get cs k ≡ Some c)
class_there [] k l = absurd (omega arith)
class_there (c ∷ cs) zero l = (c, refl)
class_there (c ∷ cs) (suc k) l = class_there cs k (omega arith)

-- a call takes as many arguments as its method has parameters
pub takes_all : (cs : List ClassTree) (n : ℕ) (ps : List ParamTree) → is_wrong_call n (Taking (param_wants cs ps)) ≡ false → n ≡ length ps
takes_all cs n ps h = eqb-true n (length (param_wants cs ps)) (not_false _ h) ∙ length-map ps (λ (q : ParamTree). OfType (written_type cs q.ty))

module _ (p : ProgramTree) (faultless : program_faults p ≡ []) (x : Context) (is_known : IsKnown p x) (static lacks answer : Bool) (a : At) (here : IsPlace p x static lacks answer a) where
  abbrev C : List core.ClassTree
  C = (core_of p).classes

  abbrev A : ExprContext
  A = expr_context static false lacks (scope_at p a)

  abbrev U : Scope
  U = refusing static false (scope_at p a)

  abbrev T : Scope
  T = refusing static static (scope_at p a)

  abbrev types_of_params : List ParamTree → List Ty
  types_of_params ps = map (λ (q : ParamTree). type_id p.classes q.ty) ps

  -- each argument fits its parameter
  pub args_fit : (es : Arguments) (ps : List ParamTree) → list_all (λ (q : ParamTree). is_type C (type_id p.classes q.ty)) ps ≡ true → count es ≡ length ps → Sounds p x static lacks answer false a es → arguments_faults U None es ≡ [] → argument_faults A (param_wants p.classes ps) es ≡ [] →
      Fits (resolved p) C x a.bound (args (env_at p a) es) (types_of_params ps)
  args_fit NoMore [] known size ih names types = tt
  args_fit NoMore (q ∷ ps) known size ih names types = absurd (omega arith)
  args_fit (Argument z es) [] known size ih names types = absurd (omega arith)
  args_fit (Argument z es) (q ∷ ps) known size ih names types =
      let ks = and_parts (is_type C (type_id p.classes q.ty)) _ known in
      let ns = none_left (expr_faults U z) (arguments_faults U None es) names in
      let ts = none_left (faults A AsValue z ++ wrong T (OfType (written_type p.classes q.ty)) z) (argument_faults A (param_wants p.classes ps) es) types in
      let w = want p x is_known static lacks answer false a here (OfType (written_type p.classes q.ty)) z (ih.0 ns.0) ts.0 in
      let stands : may_stand_for p.classes w.type (type_id p.classes q.ty) ≡ true = subst (λ o. suits p.classes (OfType o) w.type ≡ true) (type_there p faultless q.ty ks.0) w.suits in
      let fits = stands_fits p faultless w.type (type_id p.classes q.ty) (λ c n e. class_of_value p x is_known static lacks answer a here z c n (w.is ∙ ap Some e)) ks.0 stands in
      (w.sound.fit, ap (λ o. has_fitting C o (type_id p.classes q.ty)) w.is ∙ fits, args_fit es ps ks.1 (omega arith) ih.1 ns.1 ts.1)

  -- ---- calls of methods

  method_types : (k : ℕ) (m : Declared MethodTree) → param_types_in (Some (method_body p.classes k m.member)) ≡ types_of_params m.member.params
  method_types k m = types_map p faultless (method_env p.classes k m.member) (env_of p faultless k (is_static m.member) m.member.params) m.member.params

  callee_is : (k : ℕ) (m : Declared MethodTree) → HasMethod p k m → (o : Option typed.BodyTree) → o ≡ Some (method_body p.classes m.class m.member) → (b : Bool) → is_static m.member ≡ b → IsCallee o b (result_type p.classes m.member.result)
  callee_is k m has o is b e = record { body = method_body p.classes m.class m.member; is = is; static_as = e; no_constructor = refl; result = sym has.result }

  -- what is called on an object of the class at place k, or as a static method of it
  pub method_fit : (q : Place) (k : ℕ) → k < length p.classes → (o : ExprTree) (given : typed.Arguments) (m : Declared MethodTree) → HasMethod p k m →
      (is_static m.member ≡ false → Fit (resolved p) C x a.bound o × ((n : Bool) × (type_of o ≡ Some (ty.Ref (record { 0 = class_number k }) n)))) → Fits (resolved p) C x a.bound given (types_of_params m.member.params) →
      Fit (resolved p) C x a.bound (method_call (env_at p a) q k o given m)
  method_fit q k l o given m has object fits = by (is_static m.member) refl
    where
      by : (b : Bool) → is_static m.member ≡ b → Fit (resolved p) C x a.bound (if b then StaticTree q (method_id p.classes m.class m.member.name.text) (result_type p.classes m.member.result) given else CallTree q o (table_place p.classes k m.member.name.text) (result_type p.classes m.member.result) given)
      by true e = (
        callee_is k m has (body_at (resolved p) (method_id p.classes m.class m.member.name.text)) has.by_number true e,
        subst (Fits (resolved p) C x a.bound given) (sym (ap param_types_in has.by_number ∙ method_types m.class m)) fits,
      )
      by false e =
          let w = object e in
          let s = size_of p in
          let class_is : static_class o ≡ class_number k = ap class_of_type w.1.1 in
          let at : program.method_at (resolved p) (static_class o) (table_place p.classes k m.member.name.text) ≡ Some (method_body p.classes m.class m.member) = ap (λ t. program.method_at (resolved p) t (table_place p.classes k m.member.name.text)) class_is ∙ has.by_table in (
            w.0,
            ap (has_class (is_declared C)) w.1.1 ∙ number_declared C k (omega arith),
            callee_is k m has (program.method_at (resolved p) (static_class o) (table_place p.classes k m.member.name.text)) at false e,
            subst (Fits (resolved p) C x a.bound given) (sym (ap param_types_in at ∙ method_types m.class m)) fits,
          )

  call_type_is : (q : Place) (k : ℕ) (o : ExprTree) (given : typed.Arguments) (m : Declared MethodTree) → type_of (method_call (env_at p a) q k o given m) ≡ result_type p.classes m.member.result
  call_type_is q k o given m = by (is_static m.member)
    where
      by : (b : Bool) → type_of (if b then StaticTree q (method_id p.classes m.class m.member.name.text) (result_type p.classes m.member.result) given else CallTree q o (table_place p.classes k m.member.name.text) (result_type p.classes m.member.result) given) ≡ result_type p.classes m.member.result
      by true = refl
      by false = refl

  called_valued : (m : Declared MethodTree) → result_type p.classes m.member.result ≡ option_map (type_id p.classes) m.member.result → (is_some (result_type p.classes m.member.result) || is_none m.member.result) ≡ true
  called_valued m h = ap (λ o. is_some o || is_none m.member.result) h ∙ by m.member.result
    where
      by : (r : Option TypeTree) → (is_some (option_map (type_id p.classes) r) || is_none r) ≡ true
      by None = refl
      by (Some t) = refl

  -- a call that means this method, and is resolved to a tree of its type that fits
  pub call_as : (q : Place) (f : text.ExprTree) (es : Arguments) (k : ℕ) (m : Declared MethodTree) → HasMethod p k m → callee (scope_at p a) f ≡ AMethod m → callee T f ≡ AMethod m → count es ≡ length m.member.params →
      (tree : ExprTree) → type_of tree ≡ result_type p.classes m.member.result → expr (env_at p a) (CallOf q f es) ≡ tree → Fit (resolved p) C x a.bound tree → Sound p x static lacks answer false a (CallOf q f es)
  call_as q f es k m has here_is there_is size tree type is fit =
      let takes : (count es == length m.member.params) ≡ true = eq-eqb (count es) (length m.member.params) size in
      let static_is : statics.static (scope_at p a) (CallOf q f es) ≡ result_type p.classes m.member.result = ap (λ c. call_type p.classes (called_with (count es) c)) here_is ∙ (rw takes refl) in
      let nothing : has_no_value T (CallOf q f es) ≡ is_none m.member.result = ap (λ c. gives_nothing (called_with (count es) c)) there_is ∙ (rw takes refl) in
      record {
        typed = λ u e. ap type_of is ∙ type ∙ sym static_is ∙ e;
        valued = ap (λ b. is_some (statics.static (scope_at p a) (CallOf q f es)) || b) nothing ∙ ap (λ z. is_some z || is_none m.member.result) static_is ∙ called_valued m has.result;
        fit = subst (Fit (resolved p) C x a.bound) (sym is) fit;
        calls = λ c. absurd (false≢true c);
      }

  -- one on an object of the class at place k, or of a static method
  pub call_is : (q : Place) (f : text.ExprTree) (es : Arguments) (k : ℕ) (o : ExprTree) (m : Declared MethodTree) → HasMethod p k m → callee (scope_at p a) f ≡ AMethod m → callee T f ≡ AMethod m → count es ≡ length m.member.params →
      expr (env_at p a) (CallOf q f es) ≡ method_call (env_at p a) q k o (args (env_at p a) es) m → Fit (resolved p) C x a.bound (method_call (env_at p a) q k o (args (env_at p a) es) m) → Sound p x static lacks answer false a (CallOf q f es)
  call_is q f es k o m has here_is there_is size is fit =
      call_as q f es k m has here_is there_is size (method_call (env_at p a) q k o (args (env_at p a) es) m) (call_type_is q k o (args (env_at p a) es) m) is fit

  -- one of a method of the class above, which is at place k
  pub base_is : (q : Place) (f : text.ExprTree) (es : Arguments) (k : ℕ) (m : Declared MethodTree) → HasMethod p k m → is_static m.member ≡ false → x.is_static ≡ false → program.above_of (resolved p) x.class ≡ class_number k → callee (scope_at p a) f ≡ AMethod m → callee T f ≡ AMethod m →
      count es ≡ length m.member.params → expr (env_at p a) (CallOf q f es) ≡ BaseTree q (table_place p.classes k m.member.name.text) (result_type p.classes m.member.result) (args (env_at p a) es) →
      Fits (resolved p) C x a.bound (args (env_at p a) es) (types_of_params m.member.params) → Sound p x static lacks answer false a (CallOf q f es)
  base_is q f es k m has object outside above here_is there_is size is fits =
      let at : program.method_at (resolved p) (program.above_of (resolved p) x.class) (table_place p.classes k m.member.name.text) ≡ Some (method_body p.classes m.class m.member) =
      ap (λ t. program.method_at (resolved p) t (table_place p.classes k m.member.name.text)) above ∙ has.by_table in
      call_as q f es k m has here_is there_is size (BaseTree q (table_place p.classes k m.member.name.text) (result_type p.classes m.member.result) (args (env_at p a) es)) refl is (
        outside,
        callee_is k m has (program.method_at (resolved p) (program.above_of (resolved p) x.class) (table_place p.classes k m.member.name.text)) at false object,
        subst (Fits (resolved p) C x a.bound (args (env_at p a) es)) (sym (ap param_types_in at ∙ method_types m.class m)) fits,
      )

  -- ---- new objects

  new_of : (q : Place) (n : NameTree) (es : Arguments) (j : Option ℕ) → class_named p.classes n.text ≡ j → is_some j ≡ true → is_wrong_call (count es) (constructed p.classes j) ≡ false → argument_faults A (argument_wants (count es) (constructed p.classes j)) es ≡ [] →
      Sounds p x static lacks answer false a es → arguments_faults U None es ≡ [] → Sound p x static lacks answer false a (NewOf q n es)
  new_of q n es None e some wrong types ih names = absurd (false≢true some)
  new_of q n es (Some k) e some wrong types ih names =
      let l = named_within p.classes n.text k e in
      let c = class_there p.classes k l in
      let has = constructor_has p faultless k c.0 c.1 in
      let size = takes_all p.classes (count es) (constructor_params p.classes k) wrong in
      let wanted : argument_faults A (param_wants p.classes (constructor_params p.classes k)) es ≡ [] = subst (λ b. argument_faults A (if b then [] else param_wants p.classes (constructor_params p.classes k)) es ≡ []) wrong types in
      let fits = args_fit es (constructor_params p.classes k) has.params size ih names wanted in
      let number : class_id p.classes n.text ≡ class_number k = ap number_or_object e in
      let takes : (count es == length (constructor_params p.classes k)) ≡ true = eq-eqb (count es) (length (constructor_params p.classes k)) size in
      let static_is : statics.static (scope_at p a) (NewOf q n es) ≡ Some (reference true (class_number k)) = ap (statics.new_type p.classes (count es)) e ∙ (rw takes refl) in
      let s = size_of p in
      record {
        typed = λ u z. ap (λ t. Some (class_type t true)) number ∙ sym static_is ∙ z;
        valued = ap (λ o. is_some o || false) static_is;
        fit = subst (λ t. (is_declared C t ≡ true) × Fits (resolved p) C x a.bound (args (env_at p a) es) (param_types_in (constructor_of (resolved p) t))) (sym number)
            (number_declared C k (omega arith), subst (Fits (resolved p) C x a.bound (args (env_at p a) es)) (sym has.types) fits);
        calls = λ z. absurd (false≢true z);
      }

  pub new_fits : (q : Place) (n : NameTree) (es : Arguments) → expr_faults U (NewOf q n es) ≡ [] → faults A AsValue (NewOf q n es) ≡ [] → Sounds p x static lacks answer false a es → Sound p x static lacks answer false a (NewOf q n es)
  new_fits q n es names types ih =
      let ns = none_left (class_faults p.classes n.text n.place) (arguments_faults U None es) names in
      let ts = none_left (whole_call q (count es) (constructed p.classes (class_named p.classes n.text))) _ types in
      new_of q n es (class_named p.classes n.text) refl (not_unless _ n.place ns.0) (no_fault _ _ ts.0) ts.1 ih ns.1

  array_type_known : (q : Place) (t : TypeNameTree) → type_name_faults p.classes q t ≡ [] → (c : ℕ) × (array_type p.classes true t ≡ Some (ty.Ref (record { 0 = c }) true)) × (is_array C c ≡ true)
  array_type_known q IntType h = (1, refl, refl)
  array_type_known q BoolType h = (2, refl, refl)
  array_type_known q ObjectType h = (3, refl, refl)
  array_type_known q (ClassType n) h = by (class_named p.classes n) refl (not_unless _ q h)
    where
      by : (o : Option ℕ) → class_named p.classes n ≡ o → is_some o ≡ true → (c : ℕ) × (option_map (λ (k : ℕ). reference true (array_number k)) o ≡ Some (ty.Ref (record { 0 = c }) true)) × (is_array C c ≡ true)
      by None e some = absurd (false≢true some)
      by (Some k) e some =
          let l = named_within p.classes n k e in
          let s = size_of p in
          let before : 5 + 2 * k - 1 ≡ 4 + 2 * k = omega arith in
          let declared : is_declared C (5 + 2 * k - 1) ≡ true = ap (is_declared C) before ∙ number_declared C k (omega arith) in
          (array_number k, refl, or_right (array_number k == 1 || array_number k == 2 || array_number k == 3) (is_declared C (array_number k - 1)) declared)

  pub new_array_fits : (q r : Place) (t : TypeNameTree) (y : text.ExprTree) → type_name_faults p.classes r t ≡ [] → IsWanted p x static lacks answer false a AnInt y → Sound p x static lacks answer false a (NewArrayOf q r t y)
  new_array_fits q r t y names w =
      let k = array_type_known r t names in
      let number : array_class p.classes t ≡ k.0 = ap class_in k.1 in
      record {
        typed = λ u z. ap (λ c. Some (class_type c true)) number ∙ sym k.1 ∙ z;
        valued = ap (λ o. is_some o || false) k.1;
        fit = (w.sound.fit, ap (is_array C) number ∙ k.2, wanted_int p x static lacks answer false a y w);
        calls = λ z. absurd (false≢true z);
      }
