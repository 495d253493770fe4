-- The conditions of a method that serves a call, read in its own locals, are those that the caller sees.
use Rattle.std.proofs.Common.{◌≡◌, ℕ, List, [], ◌∷◌, ◌++◌, map, Bool, true, false, not, ◌&&◌, eqb, inl, inr, ◌⊎◌, refl, sym, ◌∙◌, ap, subst, ⊎_elim}
use Rattle.std.specs.Prelude.{◌==◌}
use Rattle.std.specs.List.{list_all, list_any}
use Rattle.std.proofs.lemmas.Bool.{true≢false, false≢true, and_parts, and_from, or_parts, eqb-true}
use Rattle.ss_core.specs.declared.names.Place.{Place}
use Rattle.ss_core.specs.Tree.{ClassTree, DefaultTree, AtLevel, ExprTree, DefaultExpr, BodyTree}
use Rattle.ss_store_rules.specs.declared.Value.{Value}
use Rattle.ss_store_rules.specs.declared.Value.TheVariants as value
use Rattle.ss_store_rules.specs.Store.{Object}
use Rattle.ss_store_rules.specs.Reads.{is_null_or, is_full, object_at}
use Rattle.ss_store_rules.specs.Values.{Setting, default_holds, value_of, is_true, holds}
use Rattle.ss_store_rules.specs.Locals.{is_default, is_argument}
use Rattle.ss_store_rules.specs.Types.{Words}
use Rattle.ss_store_rules.specs.Typed.{is_default_of, is_contract}
use Rattle.ss_store_rules.specs.Tables.{normal_default, normal_condition, is_at_level}
use Rattle.ss_machine_rules.specs.Steps.{all_hold}
use Rattle.ss_vcgen_heaps.specs.Contracts.{seen_condition}
use Rattle.ss_sound_runs.proofs.Reading.{local_in, ReadsSame, read_at}
use Rattle.ss_sound_runs.proofs.Conditions.{contract_parts, normal_is_default, plain_value, this_argument, default_agrees}

-- a default condition that isn't of level 1 is its own normal form, and callers see it as it is
record Other (d : DefaultTree) : Type 0 where
  normal : normal_default d ≡ d
  seen : (p : Place) → seen_condition (DefaultExpr p d) ≡ DefaultExpr p d
  apart : normal_default d ≡ AtLevel 0 → ⊥

level_parts : (d : DefaultTree) → ((t : ℕ) × (d ≡ AtLevel t)) ⊎ Other d
level_parts (AtLevel t) = inl (t, refl)
level_parts d = inr (record { normal = refl; seen = λ p. refl; apart = λ e. let none : ⊥ = cc in none })

seen_written : (e : ExprTree) → is_default e ≡ false → seen_condition e ≡ e
seen_written (DefaultExpr p d) h = absurd (true≢false h)
seen_written e h = refl

normal_defaults : (p q : Place) (d g : DefaultTree) → ◌≡◌ {A = ExprTree} (DefaultExpr p d) (DefaultExpr q g) → d ≡ g
normal_defaults p q d g e = cc

module _ (cs : List ClassTree) (s entry : List Object) (D : ℕ) (from to : BodyTree) (w : Words) (of_from of_to : ℕ → Bool) (L M N : List Value) (from_reads : ReadsSame from of_from L N) (to_reads : ReadsSame to of_to M N)
    (agree : (x : ℕ) → is_argument from x ≡ true → local_in L x ≡ local_in M x) (position : ℕ) (this : local_in L 0 ≡ value.Obj position) (class : (object_at s position).class ≡ D) where
  abbrev At : List Value → Setting
  At = read_at cs s entry false

  level_same : (t u : ℕ) → is_default_of from (AtLevel t) ≡ true → is_default_of to (AtLevel u) ≡ true → to.class ≡ D →
      is_null_or (local_in L 0) (λ o. is_full (object_at s o) && not (object_at s o).committed) ≡ is_null_or (local_in M 0) (λ o. (object_at s o).level == u && not (object_at s o).committed)
  level_same t u h k own =
      let here = agree 0 (this_argument from (and_parts (not from.flags.is_static) (eqb t from.class) h).0) in
      let is = eqb-true u to.class (and_parts (not to.flags.is_static) (eqb u to.class) k).1 in
      ap (λ v. is_null_or v (λ o. is_full (object_at s o) && not (object_at s o).committed)) this
      ∙ ap (λ n. (object_at s position).level == n && not (object_at s position).committed) (class ∙ sym own ∙ sym is)
      ∙ ap (λ v. is_null_or v (λ o. (object_at s o).level == u && not (object_at s o).committed)) (sym this ∙ here)

  default_pair : (p q : Place) (d g : DefaultTree) → is_default_of from d ≡ true → is_default_of to g ≡ true → normal_default g ≡ normal_default d → (is_at_level (DefaultExpr q g) ≡ true → to.class ≡ D) →
      holds (seen_condition (DefaultExpr p d)) (At L) ≡ holds (DefaultExpr q g) (At M)
  default_pair p q d g h k e own =
      ⊎_elim
      (λ a. ⊎_elim
      (λ b.
      subst (λ x. holds (seen_condition (DefaultExpr p x)) (At L) ≡ holds (DefaultExpr q g) (At M)) (sym a.1)
      (subst (λ x. holds (seen_condition (DefaultExpr p (AtLevel a.0))) (At L) ≡ holds (DefaultExpr q x) (At M)) (sym b.1)
      (level_same a.0 b.0 (subst (λ x. is_default_of from x ≡ true) a.1 h) (subst (λ x. is_default_of to x ≡ true) b.1 k) (own (ap (λ x. is_at_level (DefaultExpr q x)) b.1)))))
      (λ b. absurd (b.apart (e ∙ ap normal_default a.1)))
      (level_parts g))
      (λ a. ⊎_elim
      (λ b. absurd (a.apart (sym e ∙ ap normal_default b.1)))
      (λ b.
      let same : g ≡ d = sym b.normal ∙ e ∙ a.normal in
      ap (λ x. holds x (At L)) (a.seen p)
      ∙ default_agrees cs s entry from false L M agree d h
      ∙ ap (default_holds (At M)) (sym same))
      (level_parts g))
      (level_parts d)

  mixed : (e f : ExprTree) → normal_condition to f ≡ normal_condition from e → is_default e ≡ is_default f
  mixed e f n = sym (normal_is_default from e) ∙ ap is_default (sym n) ∙ normal_is_default to f

  one_condition : (e f : ExprTree) → is_contract cs from w of_from e ≡ true → is_contract cs to w of_to f ≡ true → normal_condition to f ≡ normal_condition from e → (is_at_level f ≡ true → to.class ≡ D) → holds (seen_condition e) (At L) ≡ holds f (At M)
  one_condition e f h k n own =
      ⊎_elim
      (λ a. ⊎_elim
      (λ b.
      ap (λ x. holds x (At L)) (seen_written e a.default)
      ∙ ap is_true
      (plain_value cs s entry from w of_from L N from_reads false e a.allowed a.reads
      ∙ ap (λ x. value_of x (At N)) (sym n)
      ∙ sym (plain_value cs s entry to w of_to M N to_reads false f b.allowed b.reads)))
      (λ b. absurd (false≢true (sym a.default ∙ mixed e f n ∙ ap is_default b.is)))
      (contract_parts cs to w of_to f k))
      (λ a. ⊎_elim
      (λ b. absurd (true≢false (sym (ap is_default a.is) ∙ mixed e f n ∙ b.default)))
      (λ b.
      let both = sym (ap (normal_condition to) b.is) ∙ n ∙ ap (normal_condition from) a.is in
      subst (λ x. holds (seen_condition x) (At L) ≡ holds f (At M)) (sym a.is)
      (subst (λ x. holds (seen_condition (DefaultExpr a.place a.tree)) (At L) ≡ holds x (At M)) (sym b.is)
      (default_pair a.place b.place a.tree b.tree a.of b.of (normal_defaults _ _ (normal_default b.tree) (normal_default a.tree) both) (λ l. own (ap is_at_level b.is ∙ l)))))
      (contract_parts cs to w of_to f k))
      (contract_parts cs from w of_from e h)

  -- ---- lists of conditions

  abbrev IsOwn : List ExprTree → Type 0
  IsOwn fs = (to.class ≡ D) ⊎ (list_any is_at_level fs ≡ false)

  own_first : (f : ExprTree) (fs : List ExprTree) → IsOwn (f ∷ fs) → is_at_level f ≡ true → to.class ≡ D
  own_first f fs (inl is) h = is
  own_first f fs (inr none) h = absurd (true≢false (sym h ∙ (or_parts (is_at_level f) (list_any is_at_level fs) none).0))

  own_rest : (f : ExprTree) (fs : List ExprTree) → IsOwn (f ∷ fs) → IsOwn fs
  own_rest f fs (inl is) = inl is
  own_rest f fs (inr none) = inr (or_parts (is_at_level f) (list_any is_at_level fs) none).1

  first_same : (x y : ExprTree) (xs ys : List ExprTree) → x ∷ xs ≡ y ∷ ys → x ≡ y
  first_same x y xs ys e = cc

  rest_same : (x y : ExprTree) (xs ys : List ExprTree) → x ∷ xs ≡ y ∷ ys → xs ≡ ys
  rest_same x y xs ys e = cc

  -- at entry they are the same
  pub same_conditions : (es fs : List ExprTree) → map (normal_condition to) fs ≡ map (normal_condition from) es → list_all (is_contract cs from w of_from) es ≡ true → list_all (is_contract cs to w of_to) fs ≡ true → IsOwn fs →
      all_hold (map seen_condition es) (At L) ≡ all_hold fs (At M)
  same_conditions [] [] n h k own = refl
  same_conditions [] (f ∷ fs) n h k own = absurd (let none : ⊥ = cc in none)
  same_conditions (e ∷ es) [] n h k own = absurd (let none : ⊥ = cc in none)
  same_conditions (e ∷ es) (f ∷ fs) n h k own =
      let hs = and_parts (is_contract cs from w of_from e) (list_all (is_contract cs from w of_from) es) h in
      let ks = and_parts (is_contract cs to w of_to f) (list_all (is_contract cs to w of_to) fs) k in
      let here = one_condition e f hs.0 ks.0 (first_same (normal_condition to f) (normal_condition from e) (map (normal_condition to) fs) (map (normal_condition from) es) n) (own_first f fs own) in
      let there = same_conditions es fs (rest_same (normal_condition to f) (normal_condition from e) (map (normal_condition to) fs) (map (normal_condition from) es) n) hs.1 ks.1 (own_rest f fs own) in
      ap (λ t. t && all_hold (map seen_condition es) (At L)) here ∙ ap (λ t. holds f (At M) && t) there

  -- at exit there may be more
  pub first_conditions : (es fs more : List ExprTree) → map (normal_condition to) fs ≡ map (normal_condition from) es ++ more → list_all (is_contract cs from w of_from) es ≡ true → list_all (is_contract cs to w of_to) fs ≡ true → IsOwn fs →
      all_hold fs (At M) ≡ true → all_hold (map seen_condition es) (At L) ≡ true
  first_conditions [] fs more n h k own held = refl
  first_conditions (e ∷ es) [] more n h k own held = absurd (let none : ⊥ = cc in none)
  first_conditions (e ∷ es) (f ∷ fs) more n h k own held =
      let hs = and_parts (is_contract cs from w of_from e) (list_all (is_contract cs from w of_from) es) h in
      let ks = and_parts (is_contract cs to w of_to f) (list_all (is_contract cs to w of_to) fs) k in
      let are = and_parts (holds f (At M)) (all_hold fs (At M)) held in
      let here = one_condition e f hs.0 ks.0 (first_same (normal_condition to f) (normal_condition from e) (map (normal_condition to) fs) (map (normal_condition from) es ++ more) n) (own_first f fs own) in
      let there = first_conditions es fs more (rest_same (normal_condition to f) (normal_condition from e) (map (normal_condition to) fs) (map (normal_condition from) es ++ more) n) hs.1 ks.1 (own_rest f fs own) are.1 in
      and_from (holds (seen_condition e) (At L)) (all_hold (map seen_condition es) (At L)) (here ∙ are.0) there
