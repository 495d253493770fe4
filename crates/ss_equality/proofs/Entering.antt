-- One more term, over the fields of the classes.
use Rattle.std.proofs.Common.{◌≡◌, ℕ, ◌+◌, List, [], ◌∷◌, ◌++◌, length, map, Option, Some, None, sym, ◌∙◌, ap, subst, get_or, arith}
use Rattle.std.specs.Prelude.{Vec, slice_get}
use Rattle.std.specs.declared.alloc.Global.{Global}
use Rattle.std.proofs.lemmas.List.{length_push, map_push, length-map}
use Rattle.ss_terms.specs.declared.forms.Term.{Term}
use Rattle.ss_terms.specs.declared.forms.TermId.{TermId}
use Rattle.ss_terms.specs.declared.forms.Symbol.{Symbol}
use Rattle.ss_terms.specs.Forms.{AppShape, TermBelow, term_shape}
use Rattle.ss_equality_rules.specs.declared.Join.{Join}
use Rattle.ss_equality_rules.specs.Names.{Has, AreClasses}
use Rattle.ss_equality_rules.specs.Classes.{Classed, lists_of}
use Rattle.ss_equality_rules.proofs.Classes.{entered, widened, no_end_pushed}
use Rattle.ss_equality.proofs.Lists.{lists_long, list_pushed, no_users_pushed, form_upward}

-- where there is room for one more term and no list of users yet
pub more_ends : (forms : List Term) (users : List (Vec ℕ Global)) (ends ends' : List (Option ℕ)) (es : List Join) (v : Classed) →
    ◌≡◌ {A = Classed} (record { forms = map term_shape forms; users = lists_of users; log = es }) v →
    AreClasses (map term_shape forms) (lists_of users) ends es → v.log ≡ [] → ends' ≡ ends ++ None ∷ [] → AreClasses (map term_shape forms) (lists_of users) ends' es
more_ends forms users ends ends' es v view are empty pushed =
    let none = ap (λ (c : Classed). c.log) view ∙ empty in
    subst (AreClasses (map term_shape forms) (lists_of users) ends') (sym none)
    (widened (map term_shape forms) (lists_of users) (lists_of users) ends ends' (subst (AreClasses (map term_shape forms) (lists_of users) ends) none are)
    are.lists_long
    (omega (arith, are.ends_long, ap length pushed, length_push ends None))
    (λ a j at. no_end_pushed ends a j (subst (λ xs. slice_get xs a ≡ Some (Some j)) pushed at))
    (λ r w h. h))

module _ (forms : List Term) (users users1 users2 : List (Vec ℕ Global)) (ends ends' : List (Option ℕ)) (es : List Join) (v : Classed)
    (view : ◌≡◌ {A = Classed} (record { forms = map term_shape forms; users = lists_of users; log = es }) v)
    (are : AreClasses (map term_shape forms) (lists_of users) ends es) (empty : v.log ≡ [])
    (new : Vec ℕ Global) (new_is : new.items ≡ []) (users_pushed : users1 ≡ users ++ new ∷ []) (ends_pushed : ends' ≡ ends ++ None ∷ []) where
  none : es ≡ []
  none = ap (λ (c : Classed). c.log) view ∙ empty

  longer : length users1 ≡ length users + 1
  longer = ap length users_pushed ∙ length_push users new

  start : AreClasses (map term_shape forms) (lists_of users) ends []
  start = subst (AreClasses (map term_shape forms) (lists_of users) ends) none are

  pub form_room : (form : Term) → TermBelow (length v.forms) (term_shape form) → TermBelow (length users1) (term_shape form)
  form_room form b = form_upward (length v.forms) (length users1)
      (omega (arith, ap (λ (c : Classed). length c.forms) view, are.lists_long, lists_long users, longer)) (term_shape form) b

  -- what follows needs the users that were added
  module _ (long : length users2 ≡ length users1) (kept : (r w : ℕ) → Has (get_or (lists_of users1) r []) w → Has (get_or (lists_of users2) r []) w) where
    all_kept : (r w : ℕ) → Has (get_or (lists_of users) r []) w → Has (get_or (lists_of users2) r []) w
    all_kept r w h = kept r w (subst (λ l. Has l w) (sym (ap (λ us. get_or us r []) (list_pushed users users1 new users_pushed new_is) ∙ no_users_pushed (lists_of users) r)) h)

    old_ends : (a j : ℕ) → slice_get ends' a ≡ Some (Some j) → slice_get ends a ≡ Some (Some j)
    old_ends a j at = no_end_pushed ends a j (subst (λ xs. slice_get xs a ≡ Some (Some j)) ends_pushed at)

    pub still_classes : AreClasses (map term_shape forms) (lists_of users2) ends' es
    still_classes = subst (AreClasses (map term_shape forms) (lists_of users2) ends') (sym none)
        (widened (map term_shape forms) (lists_of users) (lists_of users2) ends ends' start
        (omega (arith, are.lists_long, lists_long users, lists_long users2, long, longer))
        (omega (arith, are.ends_long, ap length ends_pushed, length_push ends None))
        old_ends all_kept)

    pub one_more_term : (form : Term) (forms' : List Term) (user : ℕ) → forms' ≡ forms ++ form ∷ [] → user ≡ length forms →
        ((f : Symbol) (xs : List TermId) → term_shape form ≡ AppShape f xs → (i : ℕ) (x : TermId) → slice_get xs i ≡ Some x → Has (get_or (lists_of users2) x.0 []) user) →
        AreClasses (map term_shape forms') (lists_of users2) ends' es
    one_more_term form forms' user pushed user_is listed =
        subst (AreClasses (map term_shape forms') (lists_of users2) ends') (sym none)
        (subst (λ xs. AreClasses xs (lists_of users2) ends' []) (sym (ap (map term_shape) pushed ∙ map_push term_shape forms form))
        (entered (map term_shape forms) (lists_of users) (lists_of users2) ends ends' (term_shape form) start
        (omega (arith, are.lists_long, lists_long users, lists_long users2, long, longer))
        (omega (arith, are.ends_long, ap length ends_pushed, length_push ends None))
        old_ends all_kept
        (λ f xs is i x at. subst (λ z. Has (get_or (lists_of users2) x.0 []) z) (user_is ∙ sym (length-map forms term_shape)) (listed f xs is i x at))))
