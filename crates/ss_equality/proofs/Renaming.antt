-- A join is made or taken back, over the fields of the classes.
use Rattle.std.proofs.Common.{◌≡◌, ◌≢◌, ℕ, ◌<◌, List, [], ◌∷◌, ◌++◌, length, map, take, Option, Some, None, refl, sym, ◌∙◌, ap, subst, get_or, set, arith}
use Rattle.std.specs.Prelude.{Vec}
use Rattle.std.specs.declared.alloc.Global.{Global}
use Rattle.ss_terms.specs.declared.forms.Term.{Term}
use Rattle.ss_terms.specs.Forms.{TermShape, term_shape}
use Rattle.ss_equality_rules.specs.declared.Join.{Join}
use Rattle.ss_equality_rules.specs.Names.{name, IsJoin, AreClasses}
use Rattle.ss_equality_rules.specs.Classes.{Classed, HasJoin, HasUsersOf, lists_of}
use Rattle.ss_equality_rules.proofs.Lists.{at_last}
use Rattle.ss_equality_rules.proofs.Names.{name_within}
use Rattle.ss_equality_rules.proofs.Classes.{joined_classes, users_of, undone_classes}
use Rattle.ss_equality.proofs.Lists.{lists_long}

-- a class that a term is in has its place in each list
pub names_within : (forms : List Term) (users : List (Vec ℕ Global)) (ends : List (Option ℕ)) (es : List Join) (v : Classed) →
    ◌≡◌ {A = Classed} (record { forms = map term_shape forms; users = lists_of users; log = es }) v →
    AreClasses (map term_shape forms) (lists_of users) ends es → (x a : ℕ) → x < length v.forms → name v.log x ≡ a →
    (a < length users) × (a < length ends) × (a < length (map term_shape forms))
names_within forms users ends es v view are x a inside is =
    let in_forms : x < length (map term_shape forms) = subst (λ (c : Classed). x < length c.forms) (sym view) inside in
    let same : name es x ≡ a = subst (λ (c : Classed). name c.log x ≡ a) (sym view) is in
    let below : a < length (map term_shape forms) = subst (λ z. z < length (map term_shape forms)) same (name_within (length (map term_shape forms)) es are.log x in_forms) in
    (omega (arith, below, are.lists_long, lists_long users), omega (arith, below, are.ends_long), below)

module _ (forms : List Term) (users users' : List (Vec ℕ Global)) (ends : List (Option ℕ)) (es es' : List Join) (v : Classed)
    (view : ◌≡◌ {A = Classed} (record { forms = map term_shape forms; users = lists_of users; log = es }) v)
    (are : AreClasses (map term_shape forms) (lists_of users) ends es) (e : Join)
    (left : name v.log e.left ≡ e.from) (right : name v.log e.right ≡ e.to) (apart : e.from ≢ e.to) (left_below : e.left < length v.forms) (right_below : e.right < length v.forms) where
  pub the_join : IsJoin (length (map term_shape forms)) es e
  the_join = record {
    left = subst (λ (c : Classed). name c.log e.left ≡ e.from) (sym view) left;
    right = subst (λ (c : Classed). name c.log e.right ≡ e.to) (sym view) right;
    apart = apart;
    from_below = (names_within forms users ends es v view are e.left e.from left_below left).2;
    to_below = (names_within forms users ends es v view are e.right e.to right_below right).2;
  }

  module _ (number : ℕ) (number_is : number ≡ length es) (count : e.count ≡ length (get_or (lists_of users) e.to [])) (added : lists_of users' ≡ set (lists_of users) e.to (get_or (lists_of users) e.to [] ++ get_or (lists_of users) e.from [])) (pushed : es' ≡ es ++ e ∷ []) where
    pub renamed_kept : AreClasses (map term_shape forms) (lists_of users') (set ends e.from (Some number)) es'
    renamed_kept =
        subst (λ us. AreClasses (map term_shape forms) us (set ends e.from (Some number)) es') (sym added)
        (subst (λ k. AreClasses (map term_shape forms) (set (lists_of users) e.to (get_or (lists_of users) e.to [] ++ get_or (lists_of users) e.from [])) (set ends e.from (Some k)) es') (sym number_is)
        (subst (λ ds. AreClasses (map term_shape forms) (set (lists_of users) e.to (get_or (lists_of users) e.to [] ++ get_or (lists_of users) e.from [])) (set ends e.from (Some (length es))) ds) (sym pushed)
        (joined_classes (map term_shape forms) (lists_of users) ends es are e the_join count)))

    pub renamed_join : HasJoin v (record { forms = map term_shape forms; users = lists_of users'; log = es' }) e.from e.to e.left e.right e.why
    renamed_join = record {
      join = e;
      log = pushed ∙ ap (λ (c : Classed). c.log ++ e ∷ []) view;
      is = subst (λ (c : Classed). IsJoin (length c.forms) c.log e) view the_join;
      from_is = refl;
      to_is = refl;
      left_is = refl;
      right_is = refl;
      why_is = refl;
      users = subst (λ (c : Classed). HasUsersOf c.forms c.log e.from (get_or (lists_of users') e.from [])) view
          (subst (λ us. HasUsersOf (map term_shape forms) es e.from (get_or us e.from [])) (sym added)
          (users_of (map term_shape forms) (lists_of users) ends es are e the_join));
    }

-- ---- the last join is taken back

module _ (fs : List TermShape) (users : List (Vec ℕ Global)) (ends : List (Option ℕ)) (es es' : List Join) (are : AreClasses fs (lists_of users) ends es) (e : Join) (popped : es ≡ es' ++ e ∷ []) where
  were : AreClasses fs (lists_of users) ends (es' ++ e ∷ [])
  were = subst (λ ds. AreClasses fs (lists_of users) ends ds) popped are

  last : IsJoin (length fs) (take (length es') (es' ++ e ∷ [])) e
  last = were.log.joins (length es') e (at_last es' e)

  pub to_within : e.to < length users
  to_within = omega (arith, last.to_below, are.lists_long, lists_long users)

  pub from_within : e.from < length ends
  from_within = omega (arith, last.from_below, are.ends_long)

  pub undone_kept : (users' : List (Vec ℕ Global)) → lists_of users' ≡ set (lists_of users) e.to (take e.count (get_or (lists_of users) e.to [])) → AreClasses fs (lists_of users') (set ends e.from None) es'
  undone_kept users' cut = subst (λ us. AreClasses fs us (set ends e.from None) es') (sym cut) (undone_classes fs (lists_of users) ends es' e were)
