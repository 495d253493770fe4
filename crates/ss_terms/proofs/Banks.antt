-- What the numbers of a bank stand for, as it grows.
use Rattle.std.proofs.Common.{◌≡◌, ℕ, zero, suc, ◌+◌, ◌*◌, ◌/◌, ◌%◌, ◌<◌, List, [], ◌∷◌, ◌++◌, length, map, Option, Some, None, true, eqb, refl, sym, ◌∙◌, ap, subst, ◌⊎◌, ⊎_elim, arith}
use Rattle.std.proofs.lemmas.List.{length_push, map_push, length-map}
use Rattle.std.proofs.lemmas.Option.{slice_get_within, slice_get-map}
use Rattle.std.proofs.lemmas.Bool.{cases_eq, eq-eqb, ne_eqb, false_from_ne_true}
use Rattle.std.proofs.lemmas.Nat.{div-add-mod'}
use Rattle.std.specs.List.{slice_get}
use Rattle.std.specs.Map.{keys_of}
use Rattle.std.specs.Prelude.{option_map}
use Rattle.ss_core.specs.Tree.{ClassTree}
use Rattle.ss_logic.specs.declared.Sort.{Sort}
use Rattle.ss_logic.specs.Terms as tree
use Rattle.ss_logic.specs.Terms.{sort_of, is_well_sorted}
use Rattle.ss_logic.specs.Formulas as logic
use Rattle.ss_logic.specs.Formulas.{neg, is_well_formed}
use Rattle.ss_logic.specs.Equal.{same_term, equal_terms, same_term_equal, same_formula, equal_formulas, same_formula_equal}
use Rattle.ss_logic.proofs.Truth.{neg_neg}
use Rattle.ss_terms_interned.specs.Interned.{tree_at, AreInterned}
use Rattle.ss_terms_interned.proofs.Halves.{half_below}
use Rattle.ss_terms_interned.proofs.Trees.{tree_at-built, tree_at-push_old, tree_at-push_new, AreInterned-push, tree_at-same, slice_get-push_cases}
use Rattle.ss_terms.specs.declared.forms.TermId.{TermId}
use Rattle.ss_terms.specs.declared.forms.FormulaId.{FormulaId}
use Rattle.ss_terms.specs.declared.forms.Term.{Term}
use Rattle.ss_terms.specs.declared.forms.Formula.{Formula}
use Rattle.ss_terms.specs.declared.bank.Beside.{Beside}
use Rattle.ss_terms.specs.declared.bank.BesideTerm.{BesideTerm}
use Rattle.ss_terms.specs.Forms.{TermShape, Shape, LiteralShape, AndShape, OrShape, ForallShape, ExistsShape, term_shape, shape_of, Forms, term_of, formula_of, build_term, no_term, term_at, with_sign, build_formula, nothing, pair_at, formula_at, HasTerm, HasFormula, TermBelow, ShapeBelow, HasArguments, HasParts, IsTermForm, IsFormulaForm, IsGrown, NamesBelow, AreNamed, opposite_shape, is_plain, IsBankOf, predicate_of}
use Rattle.ss_terms.specs.Bank.{forms_of, IsPlain, AnyTerm, PairBelow, number, IsBesideTerm, IsBeside, IsBank}
use Rattle.ss_terms.specs.Highest.{highest_of_term, highest}
use Rattle.ss_terms.proofs.Same.{term_id, formula_id}
use Rattle.ss_terms.proofs.Signs.{others_below, other_below, signed_plain, signed_negated, signed_apart, formula_of-opposite}
use Rattle.ss_terms.proofs.Tested.{neg_formed}
use Rattle.ss_terms.proofs.Highest.{neg_highest}
use Rattle.ss_terms.proofs.Trees.{arguments_same, term_same, term_upward, term_equal, AreTermsBelow-more, shape_upward, names_below, form_same, form_upward, form_equal, plain_formula}

shape_get : {K X N : Type 0} (form : K → N) (es : List (K × X)) (k : ℕ) (e : K × X) → slice_get es k ≡ Some e → slice_get (map form (keys_of es)) k ≡ Some (form e.0)
shape_get form es k e at = slice_get-map form (keys_of es) k ∙ ap (option_map form) (slice_get-map (λ x. x.0) es k ∙ ap (option_map (λ x. x.0)) at)

pub entry_get : {K X : Type 0} (es : List (K × X)) (k : ℕ) (v : X) → slice_get (map (λ e. e.1) es) k ≡ Some v → (e : K × X) × (slice_get es k ≡ Some e) × (e.1 ≡ v)
entry_get {K} {X} es k v at = by (slice_get es k) refl (sym (slice_get-map (λ e. e.1) es k) ∙ at)
  where
    by : (o : Option (K × X)) → slice_get es k ≡ o → option_map (λ e. e.1) o ≡ Some v → (e : K × X) × (slice_get es k ≡ Some e) × (e.1 ≡ v)
    by None g h = cc
    by (Some e) g h = (e, g, cc)

shapes_push : {K X N : Type 0} (form : K → N) (es : List (K × X)) (e : K × X) → map form (keys_of (es ++ e ∷ [])) ≡ map form (keys_of es) ++ form e.0 ∷ []
shapes_push form es e = ap (map form) (map_push (λ x. x.0) es e) ∙ map_push form (keys_of es) e.0

pub length-shapes : {K X N : Type 0} (form : K → N) (es : List (K × X)) → length (map form (keys_of es)) ≡ length es
length-shapes form es = length-map (keys_of es) form ∙ length-map es (λ x. x.0)

-- a bank
module _ (fs : List Sort) (ts : List (Term × BesideTerm)) (es : List (Formula × Beside)) (ok : IsBank fs ts es) where
  abbrev Old : Forms
  Old = forms_of fs ts es

  abbrev term_shapes : List TermShape
  term_shapes = map term_shape (keys_of ts)

  abbrev shapes : List Shape
  shapes = map shape_of (keys_of es)

  pub same_term-numbers : (x y : TermId) → HasTerm Old x → HasTerm Old y → eqb x.0 y.0 ≡ same_term (term_at Old x) (term_at Old y)
  same_term-numbers x y hx hy =
      ⊎_elim
      (λ e. eq-eqb x.0 y.0 e ∙ sym (same_term_equal _ _ (ap (term_at Old) (term_id x y e))))
      (λ n. ne_eqb x.0 y.0 n ∙ sym (false_from_ne_true _ (λ t. n (ok.terms_apart.apart x.0 y.0 hx hy (equal_terms _ _ t)))))
      (cases_eq x.0 y.0)

  terms_differ : (x y : TermId) → HasTerm Old x → HasTerm Old y → term_at Old x ≡ term_at Old y → x ≡ y
  terms_differ x y hx hy e = term_id x y (ok.terms_apart.apart x.0 y.0 hx hy e)

  pub same_formula-numbers : (x y : FormulaId) → HasFormula Old x → HasFormula Old y → eqb x.0 y.0 ≡ same_formula (formula_at Old x) (formula_at Old y)
  same_formula-numbers x y hx hy =
      ⊎_elim
      (λ e. eq-eqb x.0 y.0 e ∙ sym (same_formula_equal _ _ (ap (formula_at Old) (formula_id x y e))))
      (λ n. ne_eqb x.0 y.0 n ∙ sym (false_from_ne_true _ (λ t. n (ap (λ f. f.0) (signed_apart (pair_at Old) (length shapes) ok.formulas_apart.apart ok.formulas_apart.fine x y hx hy (equal_formulas _ _ t))))))
      (cases_eq x.0 y.0)

  term_built : (k : ℕ) (n : TermShape) → slice_get term_shapes k ≡ Some n → term_at Old (number k) ≡ term_of (term_at Old) n
  term_built k n e = tree_at-built no_term build_term TermBelow AnyTerm term_same term_shapes ok.terms_apart k n e

  pub term_form : (t : TermId) (e : Term × BesideTerm) → slice_get ts t.0 ≡ Some e → IsTermForm Old t e.0
  term_form t e at =
      let there = shape_get term_shape ts t.0 e at in
      record { built = term_built t.0 (term_shape e.0) there; below = ok.terms_apart.below t.0 (term_shape e.0) there }

  pub term_there : (t : TermId) (n : TermShape) → slice_get term_shapes t.0 ≡ Some n → HasTerm Old t × (term_at Old t ≡ term_of (term_at Old) n)
  term_there t n e = (slice_get_within term_shapes t.0 n e, term_built t.0 n e)

  pub beside_value : (t : TermId) (v : BesideTerm) → slice_get (map (λ e. e.1) ts) t.0 ≡ Some v → IsBesideTerm Old (term_at Old t) v
  beside_value t v at = let p = entry_get ts t.0 v at in subst (λ x. IsBesideTerm Old (term_at Old t) x) p.2 (ok.terms_beside t.0 p.0 p.1)

  pub pair_built : (k : ℕ) (n : Shape) → slice_get shapes k ≡ Some n → pair_at Old k ≡ build_formula (term_at Old) (pair_at Old) n
  pair_built k n e =
      tree_at-built nothing (build_formula (term_at Old)) (PairBelow (length term_shapes)) IsPlain (form_same (term_at Old) (length term_shapes)) shapes ok.formulas_apart k n e

  opposite_below : (k : ℕ) (n : Shape) → ShapeBelow (length term_shapes) (k * 2) n → ShapeBelow (length term_shapes) (k * 2) (opposite_shape n)
  opposite_below k (LiteralShape s p xs) b = b
  opposite_below k (AndShape gs) b = others_below k gs b
  opposite_below k (OrShape gs) b = others_below k gs b
  opposite_below k (ForallShape ss f) b = other_below k f b
  opposite_below k (ExistsShape ss f) b = other_below k f b

  pub plain_form : (f : FormulaId) (e : Formula × Beside) → slice_get es (f.0 / 2) ≡ Some e → f.0 % 2 ≡ 0 → IsFormulaForm Old f e.0
  plain_form f e at s =
      let there = shape_get shape_of es (f.0 / 2) e at in
      record {
        built = ap (λ n. with_sign n (pair_at Old (f.0 / 2))) s ∙ pair_built (f.0 / 2) (shape_of e.0) there;
        below = shape_upward (length term_shapes) (f.0 / 2 * 2) f.0 (omega (arith, div-add-mod' f.0 2)) (shape_of e.0) (ok.formulas_apart.below (f.0 / 2) (shape_of e.0) there);
      }

  pub negated_form : (f : FormulaId) (e : Formula × Beside) → slice_get es (f.0 / 2) ≡ Some e → f.0 % 2 ≡ 1 → IsFormulaForm Old f e.1.negation
  negated_form f e at s =
      let there = shape_get shape_of es (f.0 / 2) e at in
      let form = (ok.beside (f.0 / 2) e at).negation in
      let below : ShapeBelow (length term_shapes) (f.0 / 2 * 2) (opposite_shape (shape_of e.0)) = opposite_below (f.0 / 2) (shape_of e.0) (ok.formulas_apart.below (f.0 / 2) (shape_of e.0) there) in
      record {
        built =
            ap (λ n. with_sign n (pair_at Old (f.0 / 2))) s
            ∙ ap neg (pair_built (f.0 / 2) (shape_of e.0) there)
            ∙ sym (formula_of-opposite (term_at Old) (pair_at Old) (shape_of e.0))
            ∙ ap (formula_of (term_at Old) (formula_at Old)) (sym form);
        below = shape_upward (length term_shapes) (f.0 / 2 * 2) f.0 (omega (arith, div-add-mod' f.0 2)) (shape_of e.1.negation) (subst (ShapeBelow (length term_shapes) (f.0 / 2 * 2)) (sym form) below);
      }

  pub formed_value : (f : FormulaId) (v : Beside) → slice_get (map (λ e. e.1) es) (f.0 / 2) ≡ Some v → (cs : List ClassTree) → IsBankOf cs Old → v.is_well_formed ≡ is_well_formed cs [] (formula_at Old f)
  formed_value f v at cs is =
      let p = entry_get es (f.0 / 2) v at in
      ap (λ x. x.is_well_formed) (sym p.2) ∙ (ok.beside (f.0 / 2) p.0 p.1).formed cs is ∙ by (f.0 % 2)
    where
      by : (r : ℕ) → is_well_formed cs [] (pair_at Old (f.0 / 2)) ≡ is_well_formed cs [] (with_sign r (pair_at Old (f.0 / 2)))
      by zero = refl
      by (suc r) = sym (neg_formed cs [] (pair_at Old (f.0 / 2)))

  pub highest_value : (f : FormulaId) (v : Beside) → slice_get (map (λ e. e.1) es) (f.0 / 2) ≡ Some v → v.highest ≡ highest (formula_at Old f)
  highest_value f v at =
      let p = entry_get es (f.0 / 2) v at in
      ap (λ x. x.highest) (sym p.2) ∙ (ok.beside (f.0 / 2) p.0 p.1).constants ∙ by (f.0 % 2)
    where
      by : (r : ℕ) → highest (pair_at Old (f.0 / 2)) ≡ highest (with_sign r (pair_at Old (f.0 / 2)))
      by zero = refl
      by (suc r) = sym (neg_highest (pair_at Old (f.0 / 2)))

  -- one more term
  module _ (e : Term × BesideTerm) where
    abbrev WithTerm : Forms
    WithTerm = forms_of fs (ts ++ e ∷ []) es

    longer_terms : length (map term_shape (keys_of (ts ++ e ∷ []))) ≡ length term_shapes + 1
    longer_terms = ap length (shapes_push term_shape ts e) ∙ length_push term_shapes (term_shape e.0)

    term_kept : (t : TermId) → HasTerm Old t → term_at WithTerm t ≡ term_at Old t
    term_kept t h = ap (λ ns. tree_at no_term build_term ns t.0) (shapes_push term_shape ts e) ∙ tree_at-push_old no_term build_term term_shapes (term_shape e.0) t.0 h

    added_term : (t : TermId) → t.0 ≡ length ts → term_at WithTerm t ≡ term_of (term_at Old) (term_shape e.0)
    added_term t h =
        ap (λ ns. tree_at no_term build_term ns t.0) (shapes_push term_shape ts e)
        ∙ ap (tree_at no_term build_term (term_shapes ++ term_shape e.0 ∷ [])) (h ∙ sym (length-shapes term_shape ts))
        ∙ tree_at-push_new no_term build_term term_shapes (term_shape e.0)

    form_kept : (look : ℕ → logic.Formula) (b : ℕ) (s : Shape) → PairBelow (length term_shapes) b s → build_formula (term_at Old) look s ≡ build_formula (term_at WithTerm) look s
    form_kept look b (LiteralShape s p xs) h = ap (logic.Literal s (predicate_of p)) (arguments_same (term_at Old) (term_at WithTerm) (length term_shapes) (λ t at. sym (term_kept t at)) xs h)
    form_kept look b (AndShape gs) h = refl
    form_kept look b (OrShape gs) h = refl
    form_kept look b (ForallShape ss f) h = refl
    form_kept look b (ExistsShape ss f) h = refl

    form_longer : (b : ℕ) (s : Shape) → PairBelow (length term_shapes) b s → PairBelow (length (map term_shape (keys_of (ts ++ e ∷ [])))) b s
    form_longer b (LiteralShape s p xs) h = AreTermsBelow-more (length term_shapes) _ (omega (arith, longer_terms)) xs h
    form_longer b (AndShape gs) h = h
    form_longer b (OrShape gs) h = h
    form_longer b (ForallShape ss f) h = h
    form_longer b (ExistsShape ss f) h = h

    pairs_kept : (k : ℕ) → pair_at WithTerm k ≡ pair_at Old k
    pairs_kept k =
        sym (tree_at-same nothing (build_formula (term_at Old)) (build_formula (term_at WithTerm)) shapes
        (λ look i s at. form_kept look i s (ok.formulas_apart.below i s at)) k)

    pub IsBank-term : HasArguments Old (term_shape e.0) → ((k : ℕ) → slice_get term_shapes k ≡ Some (term_shape e.0) → ⊥) →
        IsBesideTerm Old (term_of (term_at Old) (term_shape e.0)) e.1 → IsBank fs (ts ++ e ∷ []) es
    IsBank-term there absent beside = record {
      terms_apart =
          subst (AreInterned no_term build_term TermBelow AnyTerm) (sym (shapes_push term_shape ts e))
          (AreInterned-push no_term build_term TermBelow AnyTerm term_same (λ look b apart fine n m p q s. term_equal look b apart n m p q s) term_upward
          term_shapes ok.terms_apart (term_shape e.0) there tt absent);
      formulas_apart = record {
        below = λ t s at. form_longer t s (ok.formulas_apart.below t s at);
        fine = λ t h. subst IsPlain (sym (pairs_kept t)) (ok.formulas_apart.fine t h);
        apart = λ i j hi hj s. ok.formulas_apart.apart i j hi hj (sym (pairs_kept i) ∙ s ∙ pairs_kept j);
      };
      terms_beside = λ k x at. ⊎_elim (old k x) (new k x) (slice_get-push_cases ts e x k at);
      beside = λ k x at. record {
        negation = (ok.beside k x at).negation;
        formed = λ cs is. (ok.beside k x at).formed cs is ∙ ap (is_well_formed cs []) (sym (pairs_kept k));
        constants = (ok.beside k x at).constants ∙ ap highest (sym (pairs_kept k));
        named = (ok.beside k x at).named;
      };
    }
      where
        moved : (x y : tree.Term) (v : BesideTerm) → y ≡ x → IsBesideTerm Old x v → IsBesideTerm WithTerm y v
        moved x y v s b = record { sort = λ cs is. b.sort cs is ∙ ap (sort_of cs []) (sym s); sorted = λ cs is. b.sorted cs is ∙ ap (is_well_sorted cs []) (sym s); constants = b.constants ∙ ap highest_of_term (sym s) }

        old : (k : ℕ) (x : Term × BesideTerm) → slice_get ts k ≡ Some x → IsBesideTerm WithTerm (term_at WithTerm (number k)) x.1
        old k x at =
            let h : k < length term_shapes = omega (arith, slice_get_within ts k x at, length-shapes term_shape ts) in
            moved _ _ x.1 (term_kept (number k) h) (ok.terms_beside k x at)

        new : (k : ℕ) (x : Term × BesideTerm) → (k ≡ length ts) × (e ≡ x) → IsBesideTerm WithTerm (term_at WithTerm (number k)) x.1
        new k x p = subst (λ y. IsBesideTerm WithTerm (term_at WithTerm (number k)) y.1) p.1 (moved _ _ e.1 (added_term (number k) p.0) beside)

    pub IsGrown-term : IsGrown Old WithTerm
    IsGrown-term = record {
      same_fields = refl;
      more_terms = omega (arith, longer_terms);
      more_formulas = omega arith;
      same_terms = term_kept;
      same_formulas = λ f h. ap (with_sign (f.0 % 2)) (pairs_kept (f.0 / 2));
    }

    pub term_new : (t : TermId) → t.0 ≡ length ts → HasTerm WithTerm t × (term_at WithTerm t ≡ term_of (term_at Old) (term_shape e.0))
    term_new t h = (omega (arith, longer_terms, length-shapes term_shape ts, h), added_term t h)

  -- one more formula with its negation
  module _ (e : Formula × Beside) where
    abbrev WithPair : Forms
    WithPair = forms_of fs ts (es ++ e ∷ [])

    longer_formulas : length (map shape_of (keys_of (es ++ e ∷ []))) ≡ length shapes + 1
    longer_formulas = ap length (shapes_push shape_of es e) ∙ length_push shapes (shape_of e.0)

    pair_kept : (k : ℕ) → k < length shapes → pair_at WithPair k ≡ pair_at Old k
    pair_kept k h = ap (λ s. tree_at nothing (build_formula (term_at Old)) s k) (shapes_push shape_of es e) ∙ tree_at-push_old nothing (build_formula (term_at Old)) shapes (shape_of e.0) k h

    pair_new : (k : ℕ) → k ≡ length es → pair_at WithPair k ≡ build_formula (term_at Old) (pair_at Old) (shape_of e.0)
    pair_new k h =
        ap (λ s. tree_at nothing (build_formula (term_at Old)) s k) (shapes_push shape_of es e)
        ∙ ap (tree_at nothing (build_formula (term_at Old)) (shapes ++ shape_of e.0 ∷ [])) (h ∙ sym (length-shapes shape_of es))
        ∙ tree_at-push_new nothing (build_formula (term_at Old)) shapes (shape_of e.0)

    pub IsGrown-pair : IsGrown Old WithPair
    IsGrown-pair = record {
      same_fields = refl;
      more_terms = omega arith;
      more_formulas = omega (arith, longer_formulas);
      same_terms = λ t h. refl;
      same_formulas = λ f h. ap (with_sign (f.0 % 2)) (pair_kept (f.0 / 2) (half_below f.0 (length shapes) h));
    }

    pub pair_added : (k : ℕ) → k ≡ length es → (k < length WithPair.formulas) × (pair_at WithPair k ≡ formula_of (term_at Old) (formula_at Old) (shape_of e.0))
    pair_added k h = (omega (arith, longer_formulas, length-shapes shape_of es, h), pair_new k h)

    pub IsBank-pair : is_plain (shape_of e.0) ≡ true → HasParts Old (shape_of e.0) → ((k : ℕ) → slice_get shapes k ≡ Some (shape_of e.0) → ⊥) →
        shape_of e.1.negation ≡ opposite_shape (shape_of e.0) →
        ((cs : List ClassTree) → IsBankOf cs Old → e.1.is_well_formed ≡ is_well_formed cs [] (formula_of (term_at Old) (formula_at Old) (shape_of e.0))) →
        e.1.highest ≡ highest (formula_of (term_at Old) (formula_at Old) (shape_of e.0)) → e.1.terms ≡ length Old.terms → IsBank fs ts (es ++ e ∷ [])
    IsBank-pair plain parts absent negation formed constants terms = record {
      terms_apart = ok.terms_apart;
      formulas_apart =
          subst (AreInterned nothing (build_formula (term_at Old)) (PairBelow (length term_shapes)) IsPlain) (sym (shapes_push shape_of es e))
          (AreInterned-push nothing (build_formula (term_at Old)) (PairBelow (length term_shapes)) IsPlain
          (form_same (term_at Old) (length term_shapes)) (form_equal (term_at Old) (length term_shapes) terms_differ) (form_upward (term_at Old) (length term_shapes))
          shapes ok.formulas_apart (shape_of e.0) parts (plain_formula (term_at Old) (pair_at Old) (shape_of e.0) plain) absent);
      terms_beside = λ k x at. record { sort = (ok.terms_beside k x at).sort; sorted = (ok.terms_beside k x at).sorted; constants = (ok.terms_beside k x at).constants };
      beside = λ k x at. ⊎_elim (old k x) (new k x) (slice_get-push_cases es e x k at);
    }
      where
        form_there : (i : ℕ) (n : Shape) → slice_get WithPair.formulas i ≡ Some n → (slice_get shapes i ≡ Some n) ⊎ ((i ≡ length shapes) × (shape_of e.0 ≡ n))
        form_there i n at = slice_get-push_cases shapes (shape_of e.0) n i (ap (λ ns. slice_get ns i) (sym (shapes_push shape_of es e)) ∙ at)

        all_named : AreNamed (length term_shapes) (length shapes + 1) WithPair
        all_named i n h at = ⊎_elim
            (λ there. names_below (length term_shapes) (i * 2) n (ok.formulas_apart.below i n there))
            (λ last. subst (NamesBelow (length term_shapes)) last.1 (names_below (length term_shapes) (length shapes * 2) (shape_of e.0) parts))
            (form_there i n at)

        old : (k : ℕ) (x : Formula × Beside) → slice_get es k ≡ Some x → IsBeside WithPair k x
        old k x at =
            let h : k < length shapes = omega (arith, slice_get_within es k x at, length-shapes shape_of es) in
            record {
              negation = (ok.beside k x at).negation;
              formed = λ cs is. (ok.beside k x at).formed cs is ∙ ap (is_well_formed cs []) (sym (pair_kept k h));
              constants = (ok.beside k x at).constants ∙ ap highest (sym (pair_kept k h));
              named = λ i n below there. ⊎_elim ((ok.beside k x at).named i n below) (λ last. absurd (omega (arith, last.0, below, h))) (form_there i n there);
            }

        new : (k : ℕ) (x : Formula × Beside) → (k ≡ length es) × (e ≡ x) → IsBeside WithPair k x
        new k x p = subst (λ y. IsBeside WithPair k y) p.1 (record {
          negation = negation;
          formed = λ cs is. formed cs is ∙ ap (is_well_formed cs []) (sym (pair_new k p.0));
          constants = constants ∙ ap highest (sym (pair_new k p.0));
          named = λ i n below. subst (λ b. slice_get WithPair.formulas i ≡ Some n → NamesBelow b n) (sym terms) (all_named i n (omega (arith, below, p.0, length-shapes shape_of es)));
        })

-- the number after that of a formula stands for the negation
pub negated_at : (b : Forms) (k : ℕ) (f : FormulaId) → f.0 ≡ k * 2 + 1 → k < length b.formulas → HasFormula b f × (formula_at b f ≡ neg (pair_at b k))
negated_at b k f e h = (omega (arith, e, h), signed_negated (pair_at b) k f e)

pub plain_at : (b : Forms) (k : ℕ) (f : FormulaId) → f.0 ≡ k * 2 → k < length b.formulas → HasFormula b f × (formula_at b f ≡ pair_at b k)
plain_at b k f e h = (omega (arith, e, h), signed_plain (pair_at b) k f e)

-- the negation of the opposite form is the formula of the form
pub opposite_form : (b : Forms) (n : Shape) → neg (formula_of (term_at b) (formula_at b) (opposite_shape n)) ≡ formula_of (term_at b) (formula_at b) n
opposite_form b n = ap neg (formula_of-opposite (term_at b) (pair_at b) n) ∙ neg_neg _
