-- Questions about levels and owners without faults are truth values.
use Rattle.std.proofs.Common.{◌≡◌, ℕ, List, [], ◌∷◌, ◌++◌, Bool, true, false, Option, Some, None, refl, sym, ◌∙◌, ap, subst, ◌≤◌, arith, inl, inr, ◌⊎◌, ⊎_elim}
use Rattle.std.specs.Prelude.{◌&&◌, ◌||◌, ◌==◌, not, is_some, codes, if◌then◌else◌}
use Rattle.std.specs.Str.{bytes_eq}
use Rattle.std.proofs.lemmas.Bool.{and_parts, or_cases, eqb-true, false≢true}
use Rattle.std.proofs.lemmas.Slice.Eq.{bytes_eq-Decides}
use Rattle.ss_core.specs.declared.names.Place.{Place}
use Rattle.ss_core.specs.declared.names.Ty.{Ty}
use Rattle.ss_core.specs.declared.names.Ty.TheVariants as ty
use Rattle.ss_core.specs.Tree as core
use Rattle.ss_core.specs.Tree.{Level, Packed, Unowned, SameOwner, OwnedAt}
use Rattle.ss_core.specs.Chain.{is_class}
use Rattle.ss_ast.specs.Expressions.{NameTree, Arguments, NoMore, Argument}
use Rattle.ss_ast.specs.Expressions as text
use Rattle.ss_ast.specs.Programs.{ProgramTree}
use Rattle.ss_tables.specs.Words.{is_owner_word, is_state_read, is_state_call}
use Rattle.ss_tables.specs.Statics.{Receiver, TheConsole, TheOwner, TheBase, AClass, AValue, Callee, AMethod, APrint, AWord, ABase, NoCallee, has_levels, may_have_levels, level_callee, owner_count, member_callee, count, takes, called_with, question_type, call_type}
use Rattle.ss_tables.specs.Statics as statics
use Rattle.ss_typed.specs.Tree.{StateOf, OwnersOf}
use Rattle.ss_typed.specs.Types.{type_of}
use Rattle.ss_resolver_names_rules.specs.Expressions.{expr_faults, asked_class, arguments_faults}
use Rattle.ss_resolver_types_heads.specs.Wants.{Want, AReference, ClassName, has_no_value, known, wrong}
use Rattle.ss_resolver_types_heads.specs.Calls.{ExprContext, Called, Taking, Refused, called_owner, asks_level, called_value, is_wrong_call, argument_wants}
use Rattle.ss_resolver_types_heads.specs.Expressions.{AsValue, faults, argument_faults}
use Rattle.ss_resolver_rules.specs.Expressions.{class_named_by, first_class, third_class, state_question, owner_question, called_after, expr, args}
use Rattle.ss_resolver_rules.specs.Programs.{resolved}
use Rattle.ss_expand_rules.specs.Calls.{has_call}
use Rattle.ss_store_rules.specs.Types.{is_reference, is_word}
use Rattle.ss_expand_formed.specs.Laws.{core_of}
use Rattle.ss_expand_formed.proofs.Facts.{none_left, not_false}
use Rattle.ss_expand_formed.proofs.Typings.{object_known}
use Rattle.ss_expand_formed.proofs.Written.{expr_ok}
use Rattle.ss_expand_formed.proofs.Fit.{Context, Fit}
use Rattle.ss_expand_formed.proofs.ExpressionsScopes.{refusing, expr_context}
use Rattle.ss_expand_formed.proofs.ExpressionsPlaces.{At, scope_at, env_at, IsKnown, IsPlace, fits_at, Sound, IsWanted, is_wanted, wanted_reference}

level_reference : (t : Ty) → has_levels t ≡ true → is_reference (Some t) ≡ true
level_reference ty.Int h = absurd (false≢true h)
level_reference ty.Bool h = absurd (false≢true h)
level_reference ty.Null h = refl
level_reference (ty.Ref c n) h = refl

-- what is known to be a reference is asked with one argument
level_known : (o : Option Ty) → is_some o ≡ true → may_have_levels o ≡ true → level_callee o ≡ AWord 1
level_known None e h = absurd (false≢true e)
level_known (Some t) e h = ap (λ (b : Bool). if b then AWord 1 else NoCallee) h

owners_type : (n : List ℕ) → question_type (owner_count n) ≡ Some ty.Bool
owners_type n = by (bytes_eq n (codes "Is")) (bytes_eq n (codes "Same"))
  where
    by : (a b : Bool) → question_type (if a then 3 else if b then 2 else 1) ≡ Some ty.Bool
    by true b = refl
    by false true = refl
    by false false = refl

question_word : (C : List core.ClassTree) (n : List ℕ) (t : ℕ) → is_class C t ≡ true → is_word C (state_question n t) ≡ true
question_word C n t h = by (bytes_eq n (codes "IsLevel"))
  where
    by : (b : Bool) → is_word C (if b then Level t else Packed t) ≡ true
    by true = h
    by false = h

module _ (p : ProgramTree) (x : Context) (static lacks answer condition : Bool) (a : At) where
  -- each argument is sound where it has no faults
  abbrev pub Sounds : Arguments → Type 0
  Sounds NoMore = Unit {0}
  Sounds (Argument z es) = (expr_faults (refusing static false (scope_at p a)) z ≡ [] → faults (expr_context static condition lacks (scope_at p a)) AsValue z ≡ [] → Sound p x static lacks answer condition a z) × Sounds es

module _ (p : ProgramTree) (x : Context) (is_known : IsKnown p x) (static lacks answer condition : Bool) (a : At) (place : IsPlace p x static lacks answer a) where
  abbrev C : List core.ClassTree
  C = (core_of p).classes

  abbrev A : ExprContext
  A = expr_context static condition lacks (scope_at p a)

  abbrev SoundArgs : Arguments → Type 0
  SoundArgs es = Sounds p x static lacks answer condition a es

  abbrev Is : text.ExprTree → Type 0
  Is y = Sound p x static lacks answer condition a y

  pub want : (w : Want) (y : text.ExprTree) → (faults A AsValue y ≡ [] → Is y) → faults A AsValue y ++ wrong (refusing static static (scope_at p a)) w y ≡ [] → IsWanted p x static lacks answer condition a w y
  want w y ih h = let left = none_left (faults A AsValue y) _ h in is_wanted p x static lacks answer condition a w y left.0 (ih left.0) left.1

  -- ---- the class that an argument names

  named_class : (y : text.ExprTree) → is_class C (class_named_by (env_at p a) y) ≡ true
  named_class (text.NameOf q n) = (and_parts _ _ (expr_ok p (env_at p a) (fits_at p x is_known static lacks answer a place) (text.NewOf q (record { text = n; place = q }) NoMore))).0
  named_class y = object_known C

  first_known : (es : Arguments) → is_class C (first_class (env_at p a) es) ≡ true
  first_known NoMore = object_known C
  first_known (Argument z es) = named_class z

  third_known : (es : Arguments) → is_class C (third_class (env_at p a) es) ≡ true
  third_known NoMore = object_known C
  third_known (Argument z NoMore) = object_known C
  third_known (Argument z (Argument w es)) = first_known es

  -- ---- levels

  pub level_sound : (q m : Place) (y : text.ExprTree) (n : NameTree) (es : Arguments) → Is y → statics.static (refusing static static (scope_at p a)) y ≡ statics.static (scope_at p a) y →
      statics.receiver (scope_at p a) y (statics.static (scope_at p a) y) ≡ AValue (statics.static (scope_at p a) y) → is_state_call n.text ≡ true →
      is_wrong_call (count es) (called_value p.classes (known (refusing static static (scope_at p a)) y) n.text) ≡ false → Is (text.CallOf q (text.MemberOf m y n) es)
  level_sound q m y n es s same r call wrong =
      let asked = asks (is_state_read n.text) (is_state_call n.text) _ call wrong in
      let some : is_some (statics.static (scope_at p a) y) ≡ true = ⊎_elim (λ z. z) (λ z. absurd (false≢true (sym asked.0 ∙ z))) (or_cases (is_some (statics.static (scope_at p a) y)) (has_no_value (refusing static static (scope_at p a)) y) s.valued) in
      let level : may_have_levels (statics.static (scope_at p a) y) ≡ true = ap may_have_levels (sym same) ∙ asked.1 in
      let callee_is : member_callee (scope_at p a) n.text (AValue (statics.static (scope_at p a) y)) ≡ AWord 1 = rw call (level_known (statics.static (scope_at p a) y) some level) in
      let tree_is : expr (env_at p a) (text.CallOf q (text.MemberOf m y n) es) ≡ StateOf q (state_question n.text (first_class (env_at p a) es)) (expr (env_at p a) y) =
      ap (λ k. called_after (env_at p a) q k (expr (env_at p a) y) n.text es (args (env_at p a) es) (member_callee (scope_at p a) n.text k)) r
      ∙ ap (called_after (env_at p a) q (AValue (statics.static (scope_at p a) y)) (expr (env_at p a) y) n.text es (args (env_at p a) es)) callee_is in
      let static_is : statics.static (scope_at p a) (text.CallOf q (text.MemberOf m y n) es) ≡ Some ty.Bool =
      ap (λ k. call_type p.classes (called_with (count es) (member_callee (scope_at p a) n.text k))) r ∙ ap (λ k. call_type p.classes (called_with (count es) k)) callee_is ∙ (rw asked.2 refl) in
      record {
        typed = λ u e. ap type_of tree_is ∙ sym static_is ∙ e;
        valued = ap (λ o. is_some o || has_no_value (refusing static static (scope_at p a)) (text.CallOf q (text.MemberOf m y n) es)) static_is;
        fit = subst (Fit (resolved p) C x a.bound) (sym tree_is) (s.fit, reference (statics.static (scope_at p a) y) refl some level, question_word C n.text (first_class (env_at p a) es) (first_known es));
        calls = λ c. ap has_call tree_is ∙ s.calls c;
      }
    where
      level_asked : (b c : Bool) → is_wrong_call (count es) (if not b && c then Taking (ClassName ∷ []) else Refused) ≡ false → (b ≡ false) × (c ≡ true) × ((count es == 1) ≡ true)
      level_asked true c g = absurd (false≢true (sym g))
      level_asked false true g = (refl, refl, not_false _ g)
      level_asked false false g = absurd (false≢true (sym g))

      asks : (b d : Bool) (other : Called) → d ≡ true → is_wrong_call (count es) (if b then Refused else if d then asks_level (known (refusing static static (scope_at p a)) y) else other) ≡ false →
          (has_no_value (refusing static static (scope_at p a)) y ≡ false) × (may_have_levels (statics.static (refusing static static (scope_at p a)) y) ≡ true) × ((count es == 1) ≡ true)
      asks true d other e g = absurd (false≢true (sym g))
      asks false true other e g = level_asked (has_no_value (refusing static static (scope_at p a)) y) (may_have_levels (statics.static (refusing static static (scope_at p a)) y)) g
      asks false false other e g = absurd (false≢true e)

      reference : (o : Option Ty) → statics.static (scope_at p a) y ≡ o → is_some o ≡ true → may_have_levels o ≡ true → is_reference (type_of (expr (env_at p a) y)) ≡ true
      reference None e h g = absurd (false≢true h)
      reference (Some t) e h g = ap is_reference (s.typed t e) ∙ level_reference t g

  -- ---- owners

  abbrev Asked : Place → List ℕ → Arguments → Type 0
  Asked q n es = (Fit (resolved p) C x a.bound (owner_question (env_at p a) q n es (args (env_at p a) es))) × (type_of (owner_question (env_at p a) q n es (args (env_at p a) es)) ≡ Some ty.Bool) × (condition ≡ true → has_call (owner_question (env_at p a) q n es (args (env_at p a) es)) ≡ false)

  wanted_calls : (w : Want) (z : text.ExprTree) → IsWanted p x static lacks answer condition a w z → condition ≡ true → has_call (expr (env_at p a) z) ≡ false
  wanted_calls w z h c = h.sound.calls c

  of_one : (q : Place) (n : List ℕ) (z : text.ExprTree) → IsWanted p x static lacks answer condition a AReference z → Asked q n (Argument z NoMore)
  of_one q n z h = ((h.sound.fit, wanted_reference p x static lacks answer condition a z h, refl), refl, λ c. h.sound.calls c)

  none_call : (b d : Bool) → b ≡ false → d ≡ false → (b || d) ≡ false
  none_call true d h g = h
  none_call false d h g = g

  of_two : (q : Place) (n : List ℕ) (z w : text.ExprTree) (es : Arguments) → IsWanted p x static lacks answer condition a AReference z → IsWanted p x static lacks answer condition a AReference w → Asked q n (Argument z (Argument w es))
  of_two q n z w es h g = by (bytes_eq n (codes "Same"))
    where
      no_calls : condition ≡ true → (has_call (expr (env_at p a) z) || has_call (expr (env_at p a) w)) ≡ false
      no_calls c = none_call _ _ (h.sound.calls c) (g.sound.calls c)

      by : (b : Bool) →
          (Fit (resolved p) C x a.bound (if b then OwnersOf q SameOwner (expr (env_at p a) z) (expr (env_at p a) w) else OwnersOf q (OwnedAt (third_class (env_at p a) (Argument z (Argument w es)))) (expr (env_at p a) z) (expr (env_at p a) w)))
          × (type_of (if b then OwnersOf q SameOwner (expr (env_at p a) z) (expr (env_at p a) w) else OwnersOf q (OwnedAt (third_class (env_at p a) (Argument z (Argument w es)))) (expr (env_at p a) z) (expr (env_at p a) w)) ≡ Some ty.Bool)
          × (condition ≡ true → has_call (if b then OwnersOf q SameOwner (expr (env_at p a) z) (expr (env_at p a) w) else OwnersOf q (OwnedAt (third_class (env_at p a) (Argument z (Argument w es)))) (expr (env_at p a) z) (expr (env_at p a) w)) ≡ false)
      by true = ((h.sound.fit, g.sound.fit, wanted_reference p x static lacks answer condition a z h, wanted_reference p x static lacks answer condition a w g, refl), refl, no_calls)
      by false = ((h.sound.fit, g.sound.fit, wanted_reference p x static lacks answer condition a z h, wanted_reference p x static lacks answer condition a w g, third_known (Argument z (Argument w es))), refl, no_calls)

  -- the questions about one object and about two
  one_asked : (q : Place) (n : List ℕ) (es : Arguments) (which : Option ℕ) → (which ≡ None) → SoundArgs es → count es ≡ 1 → argument_faults A (AReference ∷ []) es ≡ [] → arguments_faults (refusing static false (scope_at p a)) which es ≡ [] → Asked q n es
  one_asked q n NoMore which none ih size types known = absurd (omega arith)
  one_asked q n (Argument z NoMore) which none ih size types known =
      let left = none_left (faults A AsValue z ++ wrong (refusing static static (scope_at p a)) AReference z) [] types in
      let first : expr_faults (refusing static false (scope_at p a)) z ≡ [] = (none_left (expr_faults (refusing static false (scope_at p a)) z) [] (subst (λ k. arguments_faults (refusing static false (scope_at p a)) k (Argument z NoMore) ≡ []) none known)).0 in
      of_one q n z (want AReference z (ih.0 first) left.0)
  one_asked q n (Argument z (Argument w es)) which none ih size types known = absurd (omega arith)

  two_asked : (q : Place) (n : List ℕ) (es : Arguments) (more : List Want) (which : Option ℕ) → (which ≡ None) ⊎ (which ≡ Some 2) → SoundArgs es → 2 ≤ count es → argument_faults A (AReference ∷ AReference ∷ more) es ≡ [] → arguments_faults (refusing static false (scope_at p a)) which es ≡ [] → Asked q n es
  two_asked q n NoMore more which none ih size types known = absurd (omega arith)
  two_asked q n (Argument z NoMore) more which none ih size types known = absurd (omega arith)
  two_asked q n (Argument z (Argument w es)) more which none ih size types known =
      let left = none_left (faults A AsValue z ++ wrong (refusing static static (scope_at p a)) AReference z) _ types in
      let next = none_left (faults A AsValue w ++ wrong (refusing static static (scope_at p a)) AReference w) (argument_faults A more es) left.1 in
      let both = names_of which none known in
      of_two q n z w es (want AReference z (ih.0 both.0) left.0) (want AReference w (ih.1.0 both.1) next.0)
    where
      names_of : (k : Option ℕ) → (k ≡ None) ⊎ (k ≡ Some 2) → arguments_faults (refusing static false (scope_at p a)) k (Argument z (Argument w es)) ≡ [] → (expr_faults (refusing static false (scope_at p a)) z ≡ []) × (expr_faults (refusing static false (scope_at p a)) w ≡ [])
      names_of k h g = ⊎_elim (λ e. in_none (subst (λ i. arguments_faults (refusing static false (scope_at p a)) i (Argument z (Argument w es)) ≡ []) e g)) (λ e. in_two (subst (λ i. arguments_faults (refusing static false (scope_at p a)) i (Argument z (Argument w es)) ≡ []) e g)) h
        where
          in_none : arguments_faults (refusing static false (scope_at p a)) None (Argument z (Argument w es)) ≡ [] → (expr_faults (refusing static false (scope_at p a)) z ≡ []) × (expr_faults (refusing static false (scope_at p a)) w ≡ [])
          in_none g = let l = none_left (expr_faults (refusing static false (scope_at p a)) z) _ g in (l.0, (none_left (expr_faults (refusing static false (scope_at p a)) w) _ l.1).0)

          in_two : arguments_faults (refusing static false (scope_at p a)) (Some 2) (Argument z (Argument w es)) ≡ [] → (expr_faults (refusing static false (scope_at p a)) z ≡ []) × (expr_faults (refusing static false (scope_at p a)) w ≡ [])
          in_two g = let l = none_left (expr_faults (refusing static false (scope_at p a)) z) _ g in (l.0, (none_left (expr_faults (refusing static false (scope_at p a)) w) _ l.1).0)

  -- what a question about owners takes
  abbrev OwnerCall : Place → Arguments → List ℕ → Type 0
  OwnerCall q es n =
      is_wrong_call (count es) (called_owner n) ≡ false → argument_faults A (argument_wants (count es) (called_owner n)) es ≡ [] → arguments_faults (refusing static false (scope_at p a)) (asked_class n TheOwner) es ≡ [] →
      Asked q n es × ((count es == owner_count n) ≡ true)

  none_call_asked : (q : Place) (es : Arguments) → SoundArgs es → OwnerCall q es (codes "None")
  none_call_asked q es ih wrong types known =
      let size = not_false (count es == 1) wrong in
      let wanted : argument_faults A (AReference ∷ []) es ≡ [] = subst (λ b. argument_faults A (if b then [] else AReference ∷ []) es ≡ []) wrong types in
      (one_asked q (codes "None") es None refl ih (eqb-true (count es) 1 size) wanted known, size)

  same_call_asked : (q : Place) (es : Arguments) → SoundArgs es → OwnerCall q es (codes "Same")
  same_call_asked q es ih wrong types known =
      let size = not_false (count es == 2) wrong in
      let n = eqb-true (count es) 2 size in
      let wanted : argument_faults A (AReference ∷ AReference ∷ []) es ≡ [] = subst (λ b. argument_faults A (if b then [] else AReference ∷ AReference ∷ []) es ≡ []) wrong types in
      (two_asked q (codes "Same") es [] None (inl refl) ih (omega arith) wanted known, size)

  is_call_asked : (q : Place) (es : Arguments) → SoundArgs es → OwnerCall q es (codes "Is")
  is_call_asked q es ih wrong types known =
      let size = not_false (count es == 3) wrong in
      let n = eqb-true (count es) 3 size in
      let wanted : argument_faults A (AReference ∷ AReference ∷ ClassName ∷ []) es ≡ [] = subst (λ b. argument_faults A (if b then [] else AReference ∷ AReference ∷ ClassName ∷ []) es ≡ []) wrong types in
      (two_asked q (codes "Is") es (ClassName ∷ []) (Some 2) (inr refl) ih (omega arith) wanted known, size)

  owner_asked : (q : Place) (n : List ℕ) (es : Arguments) → is_owner_word n ≡ true → SoundArgs es → OwnerCall q es n
  owner_asked q n es word ih =
      ⊎_elim
      (λ two.
      ⊎_elim
      (λ none. subst (OwnerCall q es) (sym ((bytes_eq-Decides n (codes "None")).0 none)) (none_call_asked q es ih))
      (λ same. subst (OwnerCall q es) (sym ((bytes_eq-Decides n (codes "Same")).0 same)) (same_call_asked q es ih))
      (or_cases (bytes_eq n (codes "None")) (bytes_eq n (codes "Same")) two))
      (λ third. subst (OwnerCall q es) (sym ((bytes_eq-Decides n (codes "Is")).0 third)) (is_call_asked q es ih))
      (or_cases (bytes_eq n (codes "None") || bytes_eq n (codes "Same")) (bytes_eq n (codes "Is")) word)

  pub owner_sound : (q m : Place) (y : text.ExprTree) (n : NameTree) (es : Arguments) → statics.receiver (scope_at p a) y (statics.static (scope_at p a) y) ≡ TheOwner → is_owner_word n.text ≡ true → SoundArgs es →
      is_wrong_call (count es) (called_owner n.text) ≡ false → argument_faults A (argument_wants (count es) (called_owner n.text)) es ≡ [] → arguments_faults (refusing static false (scope_at p a)) (asked_class n.text TheOwner) es ≡ [] → Is (text.CallOf q (text.MemberOf m y n) es)
  owner_sound q m y n es r word ih wrong types known =
      let w = owner_asked q n.text es word ih wrong types known in
      let callee_is : member_callee (scope_at p a) n.text TheOwner ≡ AWord (owner_count n.text) = rw word refl in
      let tree_is : expr (env_at p a) (text.CallOf q (text.MemberOf m y n) es) ≡ owner_question (env_at p a) q n.text es (args (env_at p a) es) =
      ap (λ k. called_after (env_at p a) q k (expr (env_at p a) y) n.text es (args (env_at p a) es) (member_callee (scope_at p a) n.text k)) r
      ∙ ap (called_after (env_at p a) q TheOwner (expr (env_at p a) y) n.text es (args (env_at p a) es)) callee_is in
      let static_is : statics.static (scope_at p a) (text.CallOf q (text.MemberOf m y n) es) ≡ Some ty.Bool =
      ap (λ k. call_type p.classes (called_with (count es) (member_callee (scope_at p a) n.text k))) r ∙ ap (λ k. call_type p.classes (called_with (count es) k)) callee_is ∙ rw w.1 (owners_type n.text) in
      record {
        typed = λ u e. ap type_of tree_is ∙ w.0.1 ∙ sym static_is ∙ e;
        valued = ap (λ o. is_some o || has_no_value (refusing static static (scope_at p a)) (text.CallOf q (text.MemberOf m y n) es)) static_is;
        fit = subst (Fit (resolved p) C x a.bound) (sym tree_is) w.0.0;
        calls = λ c. ap has_call tree_is ∙ w.0.2 c;
      }
