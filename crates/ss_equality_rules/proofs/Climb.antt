-- From a term up to the name of its class, join by join.
use Rattle.std.proofs.Common.{◌≡◌, ◌≢◌, ℕ, ◌+◌, ◌<◌, ◌≤◌, List, length, take, Bool, true, false, Some, eqb, sym, ◌∙◌, ap, inl, inr, ⊎_elim, arith, add-one}
use Rattle.std.specs.Prelude.{slice_get}
use Rattle.std.proofs.lemmas.Bool.{cases_lt, cases_eq, eq-eqb, ne_eqb, true≢false}
use Rattle.std.proofs.lemmas.Option.{slice_get_within}
use Rattle.ss_equality_rules.specs.declared.Join.{Join}
use Rattle.ss_equality_rules.specs.Names.{renamed, name, IsLog, IsEnd, HasNoEnd}
use Rattle.ss_equality_rules.specs.Reasons.{IsFirstEnd, IsJoinedAt}
use Rattle.ss_equality_rules.proofs.Names.{renamed_from, renamed_other, name_next, given_up_once, lasts, until_end, without_end}

next_name : (es : List Join) (j : ℕ) (e : Join) (x : ℕ) → slice_get es j ≡ Some e → name (take (j + 1) es) x ≡ renamed e (name (take j es) x)
next_name es j e x at = ap (λ i. name (take i es) x) (add-one j) ∙ name_next es j e at x

pub is_end : (n : ℕ) (es : List Join) (log : IsLog n es) (class j : ℕ) (e : Join) → slice_get es j ≡ Some e → e.from ≡ class → IsEnd es class j
is_end n es log class j e at from = record {
  join = e;
  at = at;
  from = from;
  only = λ i d at_d f. ⊎_elim
      (λ less. absurd (given_up_once n es log i j d e at_d at (f ∙ sym from) less))
      (λ no. ⊎_elim
      (λ more. absurd (given_up_once n es log j i e d at at_d (from ∙ sym f) more))
      (λ not. omega (arith, no, not))
      (cases_lt j i))
      (cases_lt i j);
}

module _ (n : ℕ) (es : List Join) (log : IsLog n es) where
  -- one join further up
  pub climbed : (seen x class j : ℕ) (e : Join) → seen ≤ length es → name (take seen es) x ≡ class → slice_get es j ≡ Some e → e.from ≡ class → (seen ≤ j) × (j < length es) × (name (take (j + 1) es) x ≡ e.to)
  climbed seen x class j e l g at from =
      let p = until_end n es log seen x class j e l g at from in
      (p.0, slice_get_within es j e at, next_name es j e x at ∙ renamed_from e (name (take j es) x) (p.1 ∙ sym from))

  pub at_top : (seen x class : ℕ) → seen ≤ length es → name (take seen es) x ≡ class → HasNoEnd es class → class ≡ name es x
  at_top seen x class l g top = sym (without_end n es log seen x class l g top.none)

  -- both classes are as they were until the first of them ends
  pub both_last : (seen x y a b j : ℕ) → seen ≤ length es → name (take seen es) x ≡ a → name (take seen es) y ≡ b → (f : IsFirstEnd es a b j) → (seen ≤ j) × (name (take j es) x ≡ a) × (name (take j es) y ≡ b)
  both_last seen x y a b j l gx gy f =
      let inside = slice_get_within es j f.join f.at in
      let late : seen ≤ j = ⊎_elim
      (λ at_a. (until_end n es log seen x a j f.join l gx f.at at_a).0)
      (λ at_b. (until_end n es log seen y b j f.join l gy f.at at_b).0)
      f.from in (
        late,
        lasts n es log seen j x a late (omega (arith, inside)) gx (λ i e at before from. absurd (let k : j ≤ i = f.first i e at (inl from) in omega (arith, k, before))),
        lasts n es log seen j y b late (omega (arith, inside)) gy (λ i e at before from. absurd (let k : j ≤ i = f.first i e at (inr from) in omega (arith, k, before))),
      )

  pub both_climbed : (seen x y a b j : ℕ) (e : Join) → seen ≤ length es → name (take seen es) x ≡ a → name (take seen es) y ≡ b → IsFirstEnd es a b j → slice_get es j ≡ Some e →
      (seen ≤ j) × (j < length es) × (name (take (j + 1) es) x ≡ renamed e a) × (name (take (j + 1) es) y ≡ renamed e b)
  both_climbed seen x y a b j e l gx gy f at =
      let p = both_last seen x y a b j l gx gy f in
      (p.0, slice_get_within es j e at, next_name es j e x at ∙ ap (renamed e) p.1, next_name es j e y at ∙ ap (renamed e) p.2)

  pub joined_here : (seen x y a b j : ℕ) (e : Join) (is_left : Bool) → seen ≤ length es → name (take seen es) x ≡ a → name (take seen es) y ≡ b → IsFirstEnd es a b j → slice_get es j ≡ Some e →
      a ≢ b → renamed e a ≡ renamed e b → is_left ≡ eqb a e.from → IsJoinedAt es x y j is_left
  joined_here seen x y a b j e is_left l gx gy f at apart same is =
      let p = both_last seen x y a b j l gx gy f in
      record {
        join = e;
        at = at;
        left = λ t. let from : a ≡ e.from = yes (sym is ∙ t) in
            (p.1 ∙ from, p.2 ∙ sym (sym (renamed_from e a from) ∙ same ∙ renamed_other e b (λ z. apart (from ∙ sym z))));
        right = λ t. let other : a ≢ e.from = no (sym is ∙ t) in
            ⊎_elim
            (λ from. (p.2 ∙ from, p.1 ∙ sym (renamed_other e a other) ∙ same ∙ renamed_from e b from))
            (λ neither. absurd (apart (sym (renamed_other e a other) ∙ same ∙ renamed_other e b neither)))
            (cases_eq b e.from);
      }
    where
      yes : eqb a e.from ≡ true → a ≡ e.from
      yes t = ⊎_elim (λ s. s) (λ d. absurd (true≢false (sym t ∙ ne_eqb a e.from d))) (cases_eq a e.from)

      no : eqb a e.from ≡ false → a ≢ e.from
      no t s = true≢false (sym (eq-eqb a e.from s) ∙ t)

pub still_apart : (e : Join) (a b : ℕ) → eqb (renamed e a) (renamed e b) ≡ false → renamed e a ≢ renamed e b
still_apart e a b h s = true≢false (sym (eq-eqb (renamed e a) (renamed e b) s) ∙ h)
