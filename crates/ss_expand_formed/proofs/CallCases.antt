-- What a call in code without faults means, by what stands before its arguments.
use Rattle.std.proofs.Common.{◌≡◌, ℕ, List, [], length, map, Bool, true, false, Option, Some, None, refl, ap, subst}
use Rattle.std.specs.Prelude.{◌&&◌, ◌||◌, not, is_some, if◌then◌else◌}
use Rattle.std.proofs.lemmas.Bool.{false≢true, true≢false}
use Rattle.ss_core.specs.declared.names.Place.{Place}
use Rattle.ss_core.specs.declared.names.Ty.TheVariants as ty
use Rattle.ss_ast.specs.Expressions.{Arguments, CallOf, NameOf}
use Rattle.ss_ast.specs.Programs.{ParamTree, ProgramTree}
use Rattle.ss_tables.specs.Members.{MethodTree, is_static}
use Rattle.ss_tables.specs.Classes.{Declared, field_of, method_of, class_number}
use Rattle.ss_tables.specs.Scopes.{Scope, local_named}
use Rattle.ss_tables.specs.Statics.{AMethod, name_callee, count}
use Rattle.ss_typed.specs.Types.{type_of}
use Rattle.ss_resolver_names_rules.specs.Expressions.{arguments_faults}
use Rattle.ss_resolver_names_rules.specs.Programs.{program_faults}
use Rattle.ss_resolver_types_heads.specs.Wants.{known}
use Rattle.ss_resolver_types_heads.specs.Calls.{ExprContext, Called, Taking, Refused, param_wants, called_method, called_name, argument_wants, is_wrong_call}
use Rattle.ss_resolver_types_heads.specs.Expressions.{argument_faults}
use Rattle.ss_resolver_rules.specs.Numbers.{type_id}
use Rattle.ss_resolver_rules.specs.Expressions.{this, called_bare, args}
use Rattle.ss_resolver_rules.specs.Programs.{resolved}
use Rattle.ss_expand_formed.specs.Laws.{core_of}
use Rattle.ss_expand_formed.proofs.Fit.{Context, Fit, Fits}
use Rattle.ss_expand_formed.proofs.ExpressionsScopes.{refusing, expr_context}
use Rattle.ss_expand_formed.proofs.ExpressionsPlaces.{At, scope_at, env_at, IsKnown, IsPlace, Sound}
use Rattle.ss_expand_formed.proofs.Questions.{Sounds}
use Rattle.ss_expand_formed.proofs.Methods.{HasMethod, method_has}
use Rattle.ss_expand_formed.proofs.CallsSound.{class_there, takes_all, args_fit, method_fit, call_is}

or_assoc : (a b c : Bool) → (a || (b || c)) ≡ true → (a || b || c) ≡ true
or_assoc true b c h = refl
or_assoc false b c h = h

module _ (p : ProgramTree) (faultless : program_faults p ≡ []) (x : Context) (is_known : IsKnown p x) (static lacks answer : Bool) (a : At) (here : IsPlace p x static lacks answer a) where
  abbrev A : ExprContext
  A = expr_context static false lacks (scope_at p a)

  abbrev U : Scope
  U = refusing static false (scope_at p a)

  abbrev T : Scope
  T = refusing static static (scope_at p a)

  -- the arguments fit the parameters of the method
  pub taken : (es : Arguments) (m : Declared MethodTree) (k : ℕ) → HasMethod p k m → (c : Called) → c ≡ Taking (param_wants p.classes m.member.params) → is_wrong_call (count es) c ≡ false → argument_faults A (argument_wants (count es) c) es ≡ [] →
      Sounds p x static lacks answer false a es → arguments_faults U None es ≡ [] → (count es ≡ length m.member.params) × Fits (resolved p) (core_of p).classes x a.bound (args (env_at p a) es) (map (λ (q : ParamTree). type_id p.classes q.ty) m.member.params)
  taken es m k has c is wrong types ih names =
      let ws = param_wants p.classes m.member.params in
      let right : is_wrong_call (count es) (Taking ws) ≡ false = subst (λ z. is_wrong_call (count es) z ≡ false) is wrong in
      let all : argument_faults A (argument_wants (count es) (Taking ws)) es ≡ [] = subst (λ z. argument_faults A (argument_wants (count es) z) es ≡ []) is types in
      let size = takes_all p.classes (count es) m.member.params right in
      let wanted : argument_faults A ws es ≡ [] = subst (λ b. argument_faults A (if b then [] else ws) es ≡ []) right all in
      (size, args_fit p faultless x is_known static lacks answer a here es m.member.params has.params size ih names wanted)

  -- ---- bare names

  bare_method : (q r : Place) (n : List ℕ) (es : Arguments) (d : Declared MethodTree) → (is_some (local_named (scope_at p a) n) || is_some (field_of p.classes a.class n)) ≡ false → method_of p.classes a.class n ≡ Some d → (b : Bool) → (static && not (is_static d.member)) ≡ b →
      is_wrong_call (count es) (if b then Refused else Taking (param_wants p.classes d.member.params)) ≡ false → argument_faults A (argument_wants (count es) (if b then Refused else Taking (param_wants p.classes d.member.params))) es ≡ [] →
      Sounds p x static lacks answer false a es → arguments_faults U None es ≡ [] → Sound p x static lacks answer false a (CallOf q (NameOf r n) es)
  bare_method q r n es d free is true e wrong types ih names = absurd (true≢false wrong)
  bare_method q r n es d free is false e wrong types ih names =
      let c = class_there p.classes a.class here.class in
      let has = method_has p faultless a.class c.0 c.1 n d is in
      let t = taken es d a.class has (Taking (param_wants p.classes d.member.params)) refl wrong types ih names in
      let here_is : name_callee (scope_at p a) n ≡ AMethod d = rw (free, is) refl in
      let there_is : name_callee T n ≡ AMethod d = rw (free, is, e) refl in
      let object : is_static d.member ≡ false → Fit (resolved p) (core_of p).classes x a.bound (this (env_at p a) r) × ((nn : Bool) × (type_of (this (env_at p a) r) ≡ Some (ty.Ref (record { 0 = class_number a.class }) nn))) =
      λ s. (here.this (not_both static (is_static d.member) s e), (true, refl)) in
      call_is p faultless x is_known static lacks answer a here q (NameOf r n) es a.class (this (env_at p a) r) d has here_is there_is t.0 (ap (called_bare (env_at p a) q r (args (env_at p a) es)) here_is)
      (method_fit p faultless x is_known static lacks answer a here q a.class here.class (this (env_at p a) r) (args (env_at p a) es) d has object t.1)
    where
      not_both : (s m : Bool) → m ≡ false → (s && not m) ≡ false → s ≡ false
      not_both true false g h = absurd (true≢false h)
      not_both true true g h = absurd (true≢false g)
      not_both false m g h = refl

  bare_some : (q r : Place) (n : List ℕ) (es : Arguments) (o : Option (Declared MethodTree)) → method_of p.classes a.class n ≡ o → (is_some (local_named (scope_at p a) n) || is_some (field_of p.classes a.class n)) ≡ false → is_some o ≡ true →
      is_wrong_call (count es) (called_method p.classes static o) ≡ false → argument_faults A (argument_wants (count es) (called_method p.classes static o)) es ≡ [] → Sounds p x static lacks answer false a es → arguments_faults U None es ≡ [] → Sound p x static lacks answer false a (CallOf q (NameOf r n) es)
  bare_some q r n es None e free some wrong types ih names = absurd (false≢true some)
  bare_some q r n es (Some d) e free some wrong types ih names = bare_method q r n es d free e (static && not (is_static d.member)) refl wrong types ih names

  pub bare_sound : (q r : Place) (n : List ℕ) (es : Arguments) → (is_some (local_named (scope_at p a) n) || (is_some (field_of p.classes a.class n) || is_some (method_of p.classes a.class n))) ≡ true →
      is_wrong_call (count es) (called_name A n) ≡ false → argument_faults A (argument_wants (count es) (called_name A n)) es ≡ [] → Sounds p x static lacks answer false a es → arguments_faults U None es ≡ [] → Sound p x static lacks answer false a (CallOf q (NameOf r n) es)
  bare_sound q r n es known wrong types ih names = by (is_some (local_named (scope_at p a) n) || is_some (field_of p.classes a.class n)) refl (or_assoc (is_some (local_named (scope_at p a) n)) (is_some (field_of p.classes a.class n)) (is_some (method_of p.classes a.class n)) known) wrong types
    where
      by : (b : Bool) → (is_some (local_named (scope_at p a) n) || is_some (field_of p.classes a.class n)) ≡ b → (b || is_some (method_of p.classes a.class n)) ≡ true → is_wrong_call (count es) (if b then Refused else called_method p.classes static (method_of p.classes a.class n)) ≡ false →
          argument_faults A (argument_wants (count es) (if b then Refused else called_method p.classes static (method_of p.classes a.class n))) es ≡ [] → Sound p x static lacks answer false a (CallOf q (NameOf r n) es)
      by true e k g h = absurd (true≢false g)
      by false e k g h = bare_some q r n es (method_of p.classes a.class n) refl e k g h ih names
