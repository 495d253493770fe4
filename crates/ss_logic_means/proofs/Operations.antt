-- Operations on truth values and whole numbers: what their formulas and terms say is what the run computes.
use Rattle.std.proofs.Common.{◌≡◌, ◌-◌, ℤ, pos, negsuc, List, [], ◌∷◌, ◌++◌, Bool, true, false, not, ◌&&◌, ◌||◌, Ok, refl, sym, ◌∙◌, ap, subst, arith}
use Rattle.std.specs.Prelude.{◌^◌, int_le, int_lt, if◌then◌else◌}
use Rattle.std.specs.Bool.{beq}
use Rattle.std.proofs.lemmas.Bool.{false≢true, eqb-true, eq-eqb}
use Rattle.std.proofs.lemmas.Bool.Decides.{Decides-int_eq}
use Rattle.std.proofs.lemmas.Int.{ints}
use Rattle.ss_core.specs.declared.names.Place.{Place}
use Rattle.ss_core.specs.declared.expr.Operator.TheVariants as op
use Rattle.ss_core.specs.Tree.{ClassTree}
use Rattle.ss_store_rules.specs.declared.Value.{Value as ObjectValue}
use Rattle.ss_store_rules.specs.declared.Value.TheVariants as value
use Rattle.ss_store_rules.specs.Numbers.{Outcome, fits}
use Rattle.ss_store_rules.specs.Reads.{as_int, as_bool, same_value}
use Rattle.ss_store_rules.specs.Values as run
use Rattle.ss_logic.specs.Values.{Value, whole, truth, as_whole, as_truth, Structure}
use Rattle.ss_logic.specs.Terms.{Term}
use Rattle.ss_logic.specs.Formulas.{Formula, neg}
use Rattle.ss_logic.specs.Shapes.{number, equal, at_most}
use Rattle.ss_logic.specs.Express.{and_of, or_of, and_more, or_more, Meant, Says, said, less, fits_int, under}
use Rattle.ss_logic_means.specs.Means.{standing}
use Rattle.ss_logic_means.proofs.Denoting.{V, M, D, R, and_means, and_more_fails, and_more_means, or_more_holds, or_more_means, or_means, neg_means, says_denotes, said_means, under_off, under_on, reads_then, reads_map}

-- ---- values

abbrev pub IsBool : ObjectValue → Type 0
IsBool (value.Bool b) = Unit {0}
IsBool u = ⊥

abbrev pub IsWhole : ObjectValue → Type 0
IsWhole (value.Int n) = Unit {0}
IsWhole u = ⊥

-- where the outcome is a value, it is such a one
abbrev pub Gives : (ObjectValue → Type 0) → Outcome → Type 0
Gives P r = (u : ObjectValue) → r ≡ Ok u → P u

pub bool_standing : (u : ObjectValue) → IsBool u → standing u ≡ truth (as_bool u)
bool_standing (value.Bool b) h = refl
bool_standing (value.Int n) h = absurd h
bool_standing (value.Obj o) h = absurd h
bool_standing value.Null h = absurd h

pub whole_standing : (u : ObjectValue) → IsWhole u → standing u ≡ whole (as_int u)
whole_standing (value.Int n) h = refl
whole_standing (value.Bool b) h = absurd h
whole_standing (value.Obj o) h = absurd h
whole_standing value.Null h = absurd h

pub same_bool : (u w : ObjectValue) → IsBool u → IsBool w → beq (as_bool u) (as_bool w) ≡ same_value u w
same_bool (value.Bool a) (value.Bool b) h k = refl
same_bool (value.Bool a) (value.Int n) h k = absurd k
same_bool (value.Bool a) (value.Obj o) h k = absurd k
same_bool (value.Bool a) value.Null h k = absurd k
same_bool (value.Int n) w h k = absurd h
same_bool (value.Obj o) w h k = absurd h
same_bool value.Null w h k = absurd h

beq_equal : (a b : Bool) → beq a b ≡ true → a ≡ b
beq_equal true true h = refl
beq_equal false false h = refl
beq_equal true false h = absurd (false≢true h)
beq_equal false true h = absurd (false≢true h)

beq_self : (a b : Bool) → a ≡ b → beq a b ≡ true
beq_self true true h = refl
beq_self false false h = refl
beq_self true false h = sym h
beq_self false true h = h

-- equal values of a run stand as equal values, and no others do
pub same_standing : (u w : ObjectValue) → same_value u w ≡ true → standing u ≡ standing w
same_standing (value.Int a) (value.Int b) h = ap whole ((Decides-int_eq a b).0 h)
same_standing (value.Bool a) (value.Bool b) h = ap truth (beq_equal a b h)
same_standing (value.Obj a) (value.Obj b) h = ap (λ o. standing (value.Obj o)) (eqb-true a b h)
same_standing value.Null value.Null h = refl
same_standing u w h = absurd (false≢true h)

pub standing_same : (u w : ObjectValue) → standing u ≡ standing w → same_value u w ≡ true
standing_same (value.Int a) (value.Int b) h = (Decides-int_eq a b).1 (ap as_whole h)
standing_same (value.Bool a) (value.Bool b) h = beq_self a b (ap as_truth h)
standing_same (value.Obj a) (value.Obj b) h = let same : a ≡ b = cc in eq-eqb a b same
standing_same value.Null value.Null h = refl
standing_same u w h = absurd (let no : ⊥ = cc in no)

-- ---- whole numbers

less_or : (a b : ℤ) → not (int_le b a) ≡ int_lt a b
less_or a b = grind (arith, ints)

pub fits_between : (z : ℤ) → (int_le (negsuc (2 ^ 31 - 1)) z && int_le z (pos (2 ^ 31 - 1))) ≡ fits z
fits_between (pos n) = grind arith
fits_between (negsuc n) = grind arith

module _ (cs : List ClassTree) (m : Structure) (e : List Value) where
  pub equal_means : (t u : Term) (v w : ObjectValue) → V cs m e t ≡ standing v → V cs m e u ≡ standing w → M cs m e (equal t u) (same_value v w)
  equal_means t u v w p q = (λ h. standing_same v w (sym p ∙ h ∙ q), λ h. p ∙ same_standing v w h ∙ sym q)

  pub at_most_means : (t u : Term) (a b : ℤ) → V cs m e t ≡ whole a → V cs m e u ≡ whole b → M cs m e (at_most t u) (int_le a b)
  at_most_means t u a b p q =
      let same : int_le (as_whole (V cs m e t)) (as_whole (V cs m e u)) ≡ int_le a b = ap (λ v. int_le (as_whole v) (as_whole (V cs m e u))) p ∙ ap (λ v. int_le a (as_whole v)) q in
      (λ h. sym same ∙ h, λ h. same ∙ h)

  as_means : (f : Formula) (a b : Bool) → a ≡ b → M cs m e f a → M cs m e f b
  as_means f a b h x = subst (λ y. M cs m e f y) h x

  pub less_means : (t u : Term) (a b : ℤ) → V cs m e t ≡ whole a → V cs m e u ≡ whole b → M cs m e (less t u) (int_lt a b)
  less_means t u a b p q = as_means (less t u) (not (int_le b a)) (int_lt a b) (less_or a b) (neg_means cs m e (at_most u t) (int_le b a) (at_most_means u t b a q p))

  pub fits_means : (t : Term) (z : ℤ) → V cs m e t ≡ whole z → M cs m e (fits_int t) (fits z)
  fits_means t z p =
      let low = number (negsuc (2 ^ 31 - 1)) in
      let high = number (pos (2 ^ 31 - 1)) in
      as_means (fits_int t) (int_le (negsuc (2 ^ 31 - 1)) z && int_le z (pos (2 ^ 31 - 1))) (fits z) (fits_between z)
      (and_means cs m e (at_most low t) (at_most t high) (int_le (negsuc (2 ^ 31 - 1)) z) (int_le z (pos (2 ^ 31 - 1)))
      (at_most_means low t (negsuc (2 ^ 31 - 1)) z refl p) (at_most_means t high z (pos (2 ^ 31 - 1)) p refl))

  -- ---- truth values

  pub truth_denotes : (x : Meant) (r : Outcome) → Gives IsBool r → (u : ObjectValue) → r ≡ Ok u → D cs m e x (standing u) → M cs m e (said x) (as_bool u)
  truth_denotes x r g u is d = said_means cs m e x (as_bool u) (subst (λ v. D cs m e x v) (bool_standing u (g u is)) d)

  pub whole_denotes : (x : Meant) (r : Outcome) → Gives IsWhole r → (u : ObjectValue) → r ≡ Ok u → D cs m e x (standing u) → D cs m e x (whole (as_int u))
  whole_denotes x r g u is d = subst (λ v. D cs m e x v) (whole_standing u (g u is)) d

  pub not_reads : (ps : List Formula) (x : Meant) (r : Outcome) → Gives IsBool r → R cs m e ps x r → R cs m e ps (Says (neg (said x))) (run.and_then r (λ v. run.truth (not (as_bool v))))
  not_reads ps x r g h = reads_map cs m e ps x (Says (neg (said x))) r (λ v. value.Bool (not (as_bool v))) h (λ u is d.
      says_denotes cs m e (neg (said x)) (not (as_bool u)) (neg_means cs m e (said x) (as_bool u) (truth_denotes x r g u is d)))

  module _ (ps qs : List Formula) (x y : Meant) (a b : Outcome) (ga : Gives IsBool a) (gb : Gives IsBool b) (ra : R cs m e ps x a) (rb : R cs m e qs y b) where
    and_rest : (p : Place) (v : Bool) → M cs m e (said x) v → R cs m e (under (said x) qs) (Says (and_more (said x) (said y))) (if not v then run.truth v else run.and_then b (λ w. run.truth (v && as_bool w)))
    and_rest p true s = under_on cs m e (said x) (s.1 refl) qs (Says (and_more (said x) (said y))) (run.and_then b (λ w. run.truth (as_bool w)))
        (reads_map cs m e qs y (Says (and_more (said x) (said y))) b (λ w. value.Bool (as_bool w)) rb (λ u is d.
        says_denotes cs m e (and_more (said x) (said y)) (as_bool u) (and_more_means cs m e (said x) (said y) true (as_bool u) s (truth_denotes y b gb u is d))))
    and_rest p false s = (
      under_off cs m e (said x) (λ t. false≢true (s.0 t)) qs,
      says_denotes cs m e (and_more (said x) (said y)) false (and_more_fails cs m e (said x) (said y) s),
    )

    pub and_reads : (p : Place) → R cs m e (ps ++ under (said x) qs) (Says (and_more (said x) (said y))) (run.operation op.And p a b)
    and_reads p = reads_then cs m e ps (under (said x) qs) x (Says (and_more (said x) (said y))) a (λ v. if not (as_bool v) then run.truth (as_bool v) else run.and_then b (λ w. run.truth (as_bool v && as_bool w))) ra (λ u is d.
        and_rest p (as_bool u) (truth_denotes x a ga u is d))

    or_rest : (p : Place) (v : Bool) → M cs m e (said x) v → R cs m e (under (neg (said x)) qs) (Says (or_more (said x) (said y))) (if v then run.truth v else run.and_then b (λ w. run.truth (v || as_bool w)))
    or_rest p false s = under_on cs m e (neg (said x)) ((neg_means cs m e (said x) false s).1 refl) qs (Says (or_more (said x) (said y))) (run.and_then b (λ w. run.truth (as_bool w)))
        (reads_map cs m e qs y (Says (or_more (said x) (said y))) b (λ w. value.Bool (as_bool w)) rb (λ u is d.
        says_denotes cs m e (or_more (said x) (said y)) (as_bool u) (or_more_means cs m e (said x) (said y) false (as_bool u) s (truth_denotes y b gb u is d))))
    or_rest p true s = (
      under_off cs m e (neg (said x)) (λ t. false≢true ((neg_means cs m e (said x) true s).0 t)) qs,
      says_denotes cs m e (or_more (said x) (said y)) true (or_more_holds cs m e (said x) (said y) s),
    )

    pub or_reads : (p : Place) → R cs m e (ps ++ under (neg (said x)) qs) (Says (or_more (said x) (said y))) (run.operation op.Or p a b)
    or_reads p = reads_then cs m e ps (under (neg (said x)) qs) x (Says (or_more (said x) (said y))) a (λ v. if as_bool v then run.truth (as_bool v) else run.and_then b (λ w. run.truth (as_bool v || as_bool w))) ra (λ u is d.
        or_rest p (as_bool u) (truth_denotes x a ga u is d))

    implies_rest : (v : Bool) → M cs m e (said x) v → R cs m e (under (said x) qs) (Says (or_of (neg (said x) ∷ said y ∷ []))) (if v then run.and_then b (λ w. run.truth (as_bool w)) else run.truth true)
    implies_rest true s = under_on cs m e (said x) (s.1 refl) qs (Says (or_of (neg (said x) ∷ said y ∷ []))) (run.and_then b (λ w. run.truth (as_bool w)))
        (reads_map cs m e qs y (Says (or_of (neg (said x) ∷ said y ∷ []))) b (λ w. value.Bool (as_bool w)) rb (λ u is d.
        says_denotes cs m e (or_of (neg (said x) ∷ said y ∷ [])) (as_bool u) (or_means cs m e (neg (said x)) (said y) false (as_bool u) (neg_means cs m e (said x) true s) (truth_denotes y b gb u is d))))
    implies_rest false s = (
      under_off cs m e (said x) (λ t. false≢true (s.0 t)) qs,
      says_denotes cs m e (or_of (neg (said x) ∷ said y ∷ [])) true (λ _. refl, λ _ n. n.0 ((neg_means cs m e (said x) false s).1 refl)),
    )

    pub implies_reads : R cs m e (ps ++ under (said x) qs) (Says (or_of (neg (said x) ∷ said y ∷ []))) (run.implication a b)
    implies_reads = reads_then cs m e ps (under (said x) qs) x (Says (or_of (neg (said x) ∷ said y ∷ []))) a (λ v. if as_bool v then run.and_then b (λ w. run.truth (as_bool w)) else run.truth true) ra (λ u is d.
        implies_rest (as_bool u) (truth_denotes x a ga u is d))
