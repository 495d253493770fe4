-- The names of classes after joins.
use Rattle.std.proofs.Common.{◌≡◌, ◌≢◌, ℕ, zero, suc, ◌<◌, ◌≤◌, List, [], ◌∷◌, ◌++◌, length, take, drop, Some, cond, refl, sym, ◌∙◌, ap, subst, ⊎_elim, arith, take-append-drop}
use Rattle.std.specs.Prelude.{slice_get}
use Rattle.std.proofs.lemmas.List.{take-take, take_all}
use Rattle.std.proofs.lemmas.Bool.{cases_lt, cases_eq, eq-eqb, ne_eqb}
use Rattle.std.proofs.lemmas.Option.{slice_get_within}
use Rattle.ss_equality_rules.specs.declared.Join.{Join}
use Rattle.ss_equality_rules.specs.Names.{Has, renamed, name, IsJoin, IsLog, joined_users, grouped}
use Rattle.ss_equality_rules.proofs.Lists.{there, take_next, in_front, pushed, front_pushed, has_left, has_right}

pub renamed_from : (e : Join) (x : ℕ) → x ≡ e.from → renamed e x ≡ e.to
unfolding renamed
renamed_from e x h = ap (λ b. cond b e.to x) (eq-eqb x e.from h)

pub renamed_other : (e : Join) (x : ℕ) → x ≢ e.from → renamed e x ≡ x
unfolding renamed
renamed_other e x h = ap (λ b. cond b e.to x) (ne_eqb x e.from h)

pub name_push : (es : List Join) (e : Join) (x : ℕ) → name (es ++ e ∷ []) x ≡ renamed e (name es x)
unfolding name
name_push [] e x = refl
name_push (d ∷ es) e x = name_push es e (renamed d x)

pub name_append : (ds es : List Join) (x : ℕ) → name (ds ++ es) x ≡ name es (name ds x)
unfolding name
name_append [] es x = refl
name_append (d ∷ ds) es x = name_append ds es (renamed d x)

pub name_none : (x : ℕ) → name [] x ≡ x
unfolding name
name_none x = refl

-- one join later
pub name_next : (es : List Join) (j : ℕ) (e : Join) → slice_get es j ≡ Some e → (x : ℕ) → name (take (suc j) es) x ≡ renamed e (name (take j es) x)
name_next es j e at x = ap (λ ds. name ds x) (take_next es j e at) ∙ name_push (take j es) e x

-- what is equal stays equal
pub stays_equal : (es : List Join) (j x y : ℕ) → name (take j es) x ≡ name (take j es) y → name es x ≡ name es y
stays_equal es j x y h =
    let split : take j es ++ drop j es ≡ es = take-append-drop j es in
    let at : (z : ℕ) → name es z ≡ name (drop j es) (name (take j es) z) = λ z. ap (λ ds. name ds z) (sym split) ∙ name_append (take j es) (drop j es) z in
    at x ∙ ap (name (drop j es)) h ∙ sym (at y)

pub stays_equal_to : (es : List Join) (j m x y : ℕ) → j ≤ m → name (take j es) x ≡ name (take j es) y → name (take m es) x ≡ name (take m es) y
stays_equal_to es j m x y l h =
    let same : take j (take m es) ≡ take j es = take-take j m es l in
    stays_equal (take m es) j x y (ap (λ ds. name ds x) same ∙ h ∙ ap (λ ds. name ds y) (sym same))

pub whole_log : (es : List Join) (x : ℕ) → name (take (length es) es) x ≡ name es x
whole_log es x = ap (λ ds. name ds x) (take_all (length es) es (omega arith))

-- ---- logs

pub front_log : (n k : ℕ) (es : List Join) → IsLog n es → IsLog n (take k es)
front_log n k es log = record {
  joins = λ j e at.
      let p = in_front es k j e at in
      subst (λ ds. IsJoin n ds e) (sym (take-take j k es (omega (arith, p.1)))) (log.joins j e p.0);
}

pub longer_log : (n : ℕ) (es : List Join) (e : Join) → IsLog n es → IsJoin n es e → IsLog n (es ++ e ∷ [])
longer_log n es e log is = record { joins = λ j d at. ⊎_elim (old j d at) (new j d) (pushed es e d j at) }
  where
    old : (j : ℕ) (d : Join) → slice_get (es ++ e ∷ []) j ≡ Some d → slice_get es j ≡ Some d → IsJoin n (take j (es ++ e ∷ [])) d
    old j d _ at = subst (λ ds. IsJoin n ds d) (sym (front_pushed es e j (omega (arith, slice_get_within es j d at)))) (log.joins j d at)

    all : take (length es) (es ++ e ∷ []) ≡ es
    all = front_pushed es e (length es) (omega arith) ∙ take_all (length es) es (omega arith)

    new : (j : ℕ) (d : Join) → (j ≡ length es) × (e ≡ d) → IsJoin n (take j (es ++ e ∷ [])) d
    new j d p = subst (λ i. IsJoin n (take i (es ++ e ∷ [])) d) (sym p.0) (subst (λ ds. IsJoin n ds d) (sym all) (subst (λ x. IsJoin n es x) p.1 is))

module _ (n : ℕ) (es : List Join) (log : IsLog n es) where
  -- a name that was given up is never used again
  pub given_up : (j : ℕ) → j ≤ length es → (i : ℕ) (e : Join) → slice_get es i ≡ Some e → i < j → (x : ℕ) → name (take j es) x ≢ e.from
  given_up zero l i e at h x = absurd (omega (arith, h))
  given_up (suc j) l i e at h x =
      let here = there es j (omega (arith, l)) in
      let before : (y : ℕ) → i < j → name (take j es) y ≢ e.from = λ y less. given_up j (omega (arith, l)) i e at less y in
      after j here.0 here.1 i e at (omega (arith, h)) before x
    where
      after : (k : ℕ) (d : Join) → slice_get es k ≡ Some d → (i : ℕ) (e : Join) → slice_get es i ≡ Some e → i ≤ k → ((y : ℕ) → i < k → name (take k es) y ≢ e.from) → (x : ℕ) → name (take (suc k) es) x ≢ e.from
      after k d at_d i e at l before x g = ⊎_elim
          (λ from.
          let to : name (take k es) d.right ≡ e.from = (log.joins k d at_d).right ∙ sym (renamed_from d (name (take k es) x) from) ∙ sym (name_next es k d at_d x) ∙ g in
          ⊎_elim
          (λ less. before d.right less to)
          (λ no. (log.joins k d at_d).apart (ap (λ z. z.from) (one k d at_d i e at (omega (arith, no, l))) ∙ sym to ∙ (log.joins k d at_d).right))
          (cases_lt i k))
          (λ other.
          let now : name (take k es) x ≡ e.from = sym (renamed_other d (name (take k es) x) other) ∙ sym (name_next es k d at_d x) ∙ g in
          ⊎_elim
          (λ less. before x less now)
          (λ no. other (now ∙ ap (λ z. z.from) (sym (one k d at_d i e at (omega (arith, no, l))))))
          (cases_lt i k))
          (cases_eq (name (take k es) x) d.from)
        where
          one : (k : ℕ) (d : Join) → slice_get es k ≡ Some d → (i : ℕ) (e : Join) → slice_get es i ≡ Some e → i ≡ k → d ≡ e
          one k d at_d i e at same = let a : Some d ≡ Some e = sym at_d ∙ ap (slice_get es) (sym same) ∙ at in cc

  -- each name is given up once
  pub given_up_once : (i j : ℕ) (d e : Join) → slice_get es i ≡ Some d → slice_get es j ≡ Some e → d.from ≡ e.from → i < j → ⊥
  given_up_once i j d e at_d at_e same h =
      given_up j (omega (arith, slice_get_within es j e at_e)) i d at_d h e.left ((log.joins j e at_e).left ∙ sym same)

  -- a name stays until it is given up
  pub lasts : (k m : ℕ) (x a : ℕ) → k ≤ m → m ≤ length es → name (take k es) x ≡ a →
      ((i : ℕ) (e : Join) → slice_get es i ≡ Some e → i < m → e.from ≢ a) → name (take m es) x ≡ a
  lasts k zero x a l h g never = let z : k ≡ 0 = omega (arith, l) in ap (λ i. name (take i es) x) (sym z) ∙ g
  lasts k (suc m) x a l h g never = ⊎_elim
      (λ less.
      let before = lasts k m x a (omega (arith, less)) (omega (arith, h)) g (λ i e at b. never i e at (omega (arith, b))) in
      let here = there es m (omega (arith, h)) in
      name_next es m here.0 here.1 x ∙ renamed_other here.0 (name (take m es) x) (λ f. never m here.0 here.1 (omega arith) (sym f ∙ before)) ∙ before)
      (λ no. let z : k ≡ suc m = omega (arith, no, l) in ap (λ i. name (take i es) x) (sym z) ∙ g)
      (cases_lt k (suc m))

  -- where the name of a term's class is given up, the term still has it there
  pub until_end : (k x a i : ℕ) (e : Join) → k ≤ length es → name (take k es) x ≡ a → slice_get es i ≡ Some e → e.from ≡ a → (k ≤ i) × (name (take i es) x ≡ a)
  until_end k x a i e l g at from =
      let inside = slice_get_within es i e at in
      let late : k ≤ i = ⊎_elim (λ less. absurd (given_up k l i e at less x (g ∙ sym from))) (λ no. no) (cases_lt i k) in
      (late, lasts k i x a late (omega (arith, inside)) g (λ j d at_d b f. given_up_once j i d e at_d at (f ∙ sym from) b))

  pub without_end : (k x a : ℕ) → k ≤ length es → name (take k es) x ≡ a → ((i : ℕ) (e : Join) → slice_get es i ≡ Some e → e.from ≢ a) → name es x ≡ a
  without_end k x a l g never = sym (whole_log es x) ∙ lasts k (length es) x a l (omega arith) g (λ i e at b. never i e at)

  -- the name of a class is in the class
  pub name_name : (x : ℕ) → name es (name es x) ≡ name es x
  name_name x = without_end 0 (name es x) (name es x) (omega arith) (name_none (name es x))
      (λ i e at f. given_up (length es) (omega arith) i e at (slice_get_within es i e at) x (whole_log es x ∙ sym f))

  pub name_below : (j : ℕ) → j ≤ length es → (x : ℕ) → x < n → name (take j es) x < n
  name_below zero l x h = subst (λ a. a < n) (sym (name_none x)) h
  name_below (suc j) l x h =
      let here = there es j (omega (arith, l)) in
      let d = here.0 in
      ⊎_elim
      (λ from. subst (λ a. a < n) (sym (name_next es j d here.1 x ∙ renamed_from d (name (take j es) x) from)) (log.joins j d here.1).to_below)
      (λ other. subst (λ a. a < n) (sym (name_next es j d here.1 x ∙ renamed_other d (name (take j es) x) other)) (name_below j (omega (arith, l)) x h))
      (cases_eq (name (take j es) x) d.from)

  pub name_within : (x : ℕ) → x < n → name es x < n
  name_within x h = subst (λ a. a < n) (whole_log es x) (name_below (length es) (omega arith) x h)

-- ---- users

pub grouped_push : (g : ℕ → List ℕ) (es : List Join) (e : Join) (r : ℕ) → grouped g (es ++ e ∷ []) r ≡ joined_users e (grouped g es) r
unfolding grouped joined_users
grouped_push g [] e r = refl
grouped_push g (d ∷ es) e r = grouped_push (joined_users d g) es e r

pub joined_to : (g : ℕ → List ℕ) (e : Join) (r : ℕ) → r ≡ e.to → joined_users e g r ≡ g e.to ++ g e.from
unfolding joined_users
joined_to g e r h = ap (λ b. cond b (g e.to ++ g e.from) (g r)) (eq-eqb r e.to h)

pub joined_other : (g : ℕ → List ℕ) (e : Join) (r : ℕ) → r ≢ e.to → joined_users e g r ≡ g r
unfolding joined_users
joined_other g e r h = ap (λ b. cond b (g e.to ++ g e.from) (g r)) (ne_eqb r e.to h)

-- what uses a term is among the users of its class
pub uses_class : (g : ℕ → List ℕ) (es : List Join) (x w : ℕ) → Has (g x) w → Has (grouped g es (name es x)) w
unfolding grouped name
uses_class g [] x w h = h
uses_class g (e ∷ es) x w h = uses_class (joined_users e g) es (renamed e x) w (⊎_elim from other (cases_eq x e.from))
  where
    from : x ≡ e.from → Has (joined_users e g (renamed e x)) w
    from f = subst (λ us. Has us w) (sym (ap (joined_users e g) (renamed_from e x f) ∙ joined_to g e e.to refl))
        (has_right (g e.to) (g e.from) w (subst (λ a. Has (g a) w) f h))

    other : x ≢ e.from → Has (joined_users e g (renamed e x)) w
    other f = subst (λ us. Has us w) (sym (ap (joined_users e g) (renamed_other e x f))) (⊎_elim
        (λ to. subst (λ us. Has us w) (sym (joined_to g e x to)) (has_left (g e.to) (g e.from) w (subst (λ a. Has (g a) w) to h)))
        (λ no. subst (λ us. Has us w) (sym (joined_other g e x no)) h)
        (cases_eq x e.to))
