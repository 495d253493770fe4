-- All calls and new objects in code without faults fit.
use Rattle.std.proofs.Common.{◌≡◌, [], ◌∷◌, Bool, true, false, Option, Some, None, refl, sym, ◌∙◌, ap, subst}
use Rattle.std.specs.Prelude.{◌&&◌, ◌||◌, not, is_some, option_and_then, if◌then◌else◌}
use Rattle.std.proofs.lemmas.Bool.{false≢true, true≢false}
use Rattle.ss_core.specs.declared.names.Place.{Place}
use Rattle.ss_core.specs.declared.names.Ty.{Ty}
use Rattle.ss_ast.specs.Expressions.{NameTree, Arguments, CallOf, MemberOf, NameOf}
use Rattle.ss_ast.specs.Expressions as text
use Rattle.ss_ast.specs.Programs.{ProgramTree}
use Rattle.ss_tables.specs.Classes.{declared_place}
use Rattle.ss_tables.specs.Types.{class_of}
use Rattle.ss_tables.specs.Words.{is_state_read, is_state_call, is_state_word}
use Rattle.ss_tables.specs.Scopes.{Scope}
use Rattle.ss_tables.specs.Statics.{Receiver, TheConsole, TheOwner, TheBase, AClass, AValue, Callee, AMethod, AWord, NoCallee, is_member, member_callee, receiver, count, callee, may_have_levels, level_callee, result_type}
use Rattle.ss_tables.specs.Statics as statics
use Rattle.ss_resolver_names_rules.specs.Expressions.{has_member, arguments_faults}
use Rattle.ss_resolver_names_rules.specs.Programs.{program_faults}
use Rattle.ss_resolver_types_heads.specs.Wants.{ClassName, has_no_value, known}
use Rattle.ss_resolver_types_heads.specs.Calls.{ExprContext, Taking, Refused, called_on_object, called_member, has_no_members, without_members, class_of_known, asks_level, argument_wants, is_wrong_call}
use Rattle.ss_resolver_types_heads.specs.Expressions.{AsValue, is_question, faults, argument_faults}
use Rattle.ss_expand_formed.proofs.Facts.{or_false}
use Rattle.ss_expand_formed.proofs.Words.{level_word}
use Rattle.ss_expand_formed.proofs.Fit.{Context}
use Rattle.ss_expand_formed.proofs.ExpressionsScopes.{refusing, expr_context}
use Rattle.ss_expand_formed.proofs.ExpressionsPlaces.{At, scope_at, IsKnown, IsPlace, static_at, Sound}
use Rattle.ss_expand_formed.proofs.Questions.{Sounds}
use Rattle.ss_expand_formed.proofs.CallsAfter.{value_by}

module _ (p : ProgramTree) (faultless : program_faults p ≡ []) (x : Context) (is_known : IsKnown p x) (static lacks answer : Bool) (a : At) (here : IsPlace p x static lacks answer a) where
  abbrev A : ExprContext
  A = expr_context static false lacks (scope_at p a)

  abbrev U : Scope
  U = refusing static false (scope_at p a)

  abbrev T : Scope
  T = refusing static static (scope_at p a)

  abbrev Is : text.ExprTree → Type 0
  Is y = Sound p x static lacks answer false a y

  rest : (b d e : Bool) → (b || d || e) ≡ false → (b ≡ false) × (d ≡ false) × (e ≡ false)
  rest b d e h = let one = or_false (b || d) e h in let two = or_false b d one.0 in (two.0, two.1, one.1)

  some_type : (o : Option Ty) (nothing : Bool) → (is_some o || nothing) ≡ true → without_members nothing o ≡ false → (t : Ty) × (o ≡ Some t) × (without_members false (Some t) ≡ false)
  some_type None true h g = absurd (true≢false g)
  some_type None false h g = absurd (false≢true h)
  some_type (Some t) nothing h g = (t, refl, g)

  -- a call of a value that is no question about its level
  pub value_sound : (q m : Place) (y : text.ExprTree) (n : NameTree) (es : Arguments) → Is y → faults A AsValue y ≡ [] → receiver (scope_at p a) y (statics.static (scope_at p a) y) ≡ AValue (statics.static (scope_at p a) y) → receiver T y (statics.static T y) ≡ AValue (statics.static (scope_at p a) y) →
      is_question (member_callee T n.text (AValue (statics.static (scope_at p a) y))) ≡ false → (is_state_word n.text || has_member p.classes n.text (option_and_then class_of (statics.static (scope_at p a) y))) ≡ true →
      is_wrong_call (count es) (called_member A (count es) (known T y) n.text (AValue (statics.static (scope_at p a) y))) ≡ false → argument_faults A (argument_wants (count es) (called_member A (count es) (known T y) n.text (AValue (statics.static (scope_at p a) y)))) es ≡ [] →
      Sounds p x static lacks answer false a es → (is_state_call n.text ≡ false → arguments_faults U None es ≡ []) → Is (CallOf q (MemberOf m y n) es)
  value_sound q m y n es s types r rt asks member wrong wants ih names =
      by (is_state_read n.text) (is_state_call n.text) (has_no_members (known T y)) refl refl refl asks member wrong wants
    where
      same : statics.static T y ≡ statics.static (scope_at p a) y
      same = static_at p x static lacks answer false a y types

      never_level : (nothing may : Bool) → is_wrong_call (count es) (if not nothing && may then Taking (ClassName ∷ []) else Refused) ≡ false → may ≡ true
      never_level true may h = absurd (true≢false h)
      never_level false true h = refl
      never_level false false h = absurd (true≢false h)

      by : (b d e : Bool) → is_state_read n.text ≡ b → is_state_call n.text ≡ d → has_no_members (known T y) ≡ e →
          is_question (if d then level_callee (statics.static (scope_at p a) y) else if b then NoCallee else statics.method_at p.classes n.text (option_and_then declared_place (option_and_then class_of (statics.static (scope_at p a) y)))) ≡ false →
          (b || d || has_member p.classes n.text (option_and_then class_of (statics.static (scope_at p a) y))) ≡ true →
          is_wrong_call (count es) (if b then Refused else if d then asks_level (known T y) else if e then Refused else called_on_object p.classes n.text (class_of_known (known T y))) ≡ false →
          argument_faults A (argument_wants (count es) (if b then Refused else if d then asks_level (known T y) else if e then Refused else called_on_object p.classes n.text (class_of_known (known T y)))) es ≡ [] → Is (CallOf q (MemberOf m y n) es)
      by true d e eb ed ee ask k w g = absurd (true≢false w)
      by false true e eb ed ee ask k w g =
          let may = never_level (has_no_value T y) (may_have_levels (statics.static T y)) w in
          let level : may_have_levels (statics.static (scope_at p a) y) ≡ true = ap may_have_levels (sym same) ∙ may in
          absurd (true≢false (subst (λ k. is_question k ≡ false) (level_word (statics.static (scope_at p a) y) level).1 ask))
      by false false true eb ed ee ask k w g = absurd (true≢false w)
      by false false false eb ed ee ask k w g =
          let t = some_type (statics.static (scope_at p a) y) (has_no_value T y) s.valued (ap (without_members (has_no_value T y)) (sym same) ∙ ee) in
          value_by p faultless x is_known static lacks answer a here q m y n es t.0 s t.1 (r ∙ ap AValue t.1) (rt ∙ ap AValue t.1) ed eb t.2
          (ap (λ o. has_member p.classes n.text (option_and_then class_of o)) (sym t.1) ∙ k)
          (called_on_object p.classes n.text (class_of_known (known T y))) (ap (λ o. called_on_object p.classes n.text (option_and_then class_of o)) (same ∙ t.1)) w g ih (names ed)
