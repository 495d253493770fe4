-- What the numbers of a bank stand for, where only its first terms and formulas stay.
use Rattle.std.proofs.Common.{◌≡◌, ℕ, ◌+◌, ◌/◌, ◌%◌, ◌<◌, ◌≤◌, List, [], length, map, take, Some, refl, sym, ◌∙◌, ap, subst, arith}
use Rattle.std.proofs.lemmas.List.{take-map, length-take-le}
use Rattle.std.proofs.lemmas.Option.{slice_get_within}
use Rattle.std.specs.List.{slice_get}
use Rattle.std.specs.Map.{keys_of}
use Rattle.ss_logic.specs.declared.Sort.{Sort}
use Rattle.ss_logic.specs.Terms as tree
use Rattle.ss_logic.specs.Terms.{sort_of, is_well_sorted}
use Rattle.ss_logic.specs.Formulas as logic
use Rattle.ss_logic.specs.Formulas.{is_well_formed}
use Rattle.ss_terms_interned.specs.Interned.{tree_at, AreInterned}
use Rattle.ss_terms_interned.proofs.Halves.{half_below}
use Rattle.ss_terms_interned.proofs.Trees.{slice_get-front, tree_at-front, tree_at-same, AreInterned-front}
use Rattle.ss_terms.specs.declared.forms.TermId.{TermId}
use Rattle.ss_terms.specs.declared.forms.Term.{Term}
use Rattle.ss_terms.specs.declared.forms.Formula.{Formula}
use Rattle.ss_terms.specs.declared.bank.Beside.{Beside}
use Rattle.ss_terms.specs.declared.bank.BesideTerm.{BesideTerm}
use Rattle.ss_terms.specs.Forms.{Shape, LiteralShape, AndShape, OrShape, ForallShape, ExistsShape, term_shape, shape_of, Forms, predicate_of, build_term, no_term, term_at, with_sign, build_formula, nothing, pair_at, AreTermsBelow, TermBelow, NamesBelow, AreNamed, IsClosed, IsGrown, front}
use Rattle.ss_terms.specs.Bank.{forms_of, IsPlain, AnyTerm, PairBelow, number, IsBesideTerm, IsBank}
use Rattle.ss_terms.specs.Highest.{highest_of_term, highest}
use Rattle.ss_terms.proofs.Trees.{arguments_same, names_upward}
use Rattle.ss_terms.proofs.Banks.{entry_get, length-shapes}

shapes_front : {K X N : Type 0} (form : K → N) (n : ℕ) (es : List (K × X)) → map form (keys_of (take n es)) ≡ take n (map form (keys_of es))
shapes_front form n es = ap (map form) (sym (take-map (λ x. x.0) n es)) ∙ sym (take-map form n (keys_of es))

pub front_is : (fs : List Sort) (ts : List (Term × BesideTerm)) (es : List (Formula × Beside)) (m k : ℕ) → forms_of fs (take m ts) (take k es) ≡ front m k (forms_of fs ts es)
front_is fs ts es m k = let a = shapes_front term_shape m ts in let b = shapes_front shape_of k es in cc

-- what stands beside a formula says which terms those up to it name
pub named_value : (fs : List Sort) (ts : List (Term × BesideTerm)) (es : List (Formula × Beside)) → IsBank fs ts es → (k : ℕ) (v : Beside) →
    slice_get (map (λ e. e.1) es) k ≡ Some v → AreNamed v.terms (k + 1) (forms_of fs ts es)
named_value fs ts es ok k v at = let p = entry_get es k v at in subst (λ x. AreNamed x.terms (k + 1) (forms_of fs ts es)) p.2 (ok.beside k p.0 p.1).named

pub named_upward : (i j : ℕ) → i ≤ j → (k : ℕ) (b : Forms) → AreNamed i k b → AreNamed j k b
named_upward i j h k b named t n at there = names_upward i j h n (named t n at there)

module _ (fs : List Sort) (ts : List (Term × BesideTerm)) (es : List (Formula × Beside)) (m k : ℕ) (closed : IsClosed m k (forms_of fs ts es)) where
  abbrev Old : Forms
  Old = forms_of fs ts es

  abbrev Front : Forms
  Front = forms_of fs (take m ts) (take k es)

  many_terms : length Front.terms ≡ m
  many_terms = ap length (shapes_front term_shape m ts) ∙ length-take-le m Old.terms closed.terms_within

  many_formulas : length Front.formulas ≡ k
  many_formulas = ap length (shapes_front shape_of k es) ∙ length-take-le k Old.formulas closed.formulas_within

  term_front : (t : TermId) → t.0 < m → term_at Front t ≡ term_at Old t
  term_front t h =
      ap (λ ns. tree_at no_term build_term ns t.0) (shapes_front term_shape m ts)
      ∙ tree_at-front no_term build_term m Old.terms t.0 (omega (arith, h, length-take-le m Old.terms closed.terms_within))

  form_there : (j : ℕ) (s : Shape) → slice_get Front.formulas j ≡ Some s → slice_get Old.formulas j ≡ Some s
  form_there j s at = slice_get-front k Old.formulas j s (ap (λ ns. slice_get ns j) (sym (shapes_front shape_of k es)) ∙ at)

  form_named : (j : ℕ) (s : Shape) → slice_get Front.formulas j ≡ Some s → NamesBelow m s
  form_named j s at = closed.named j s (omega (arith, slice_get_within Front.formulas j s at, many_formulas)) (form_there j s at)

  form_front : (look : ℕ → logic.Formula) (s : Shape) → NamesBelow m s → build_formula (term_at Front) look s ≡ build_formula (term_at Old) look s
  form_front look (LiteralShape s p xs) h = ap (logic.Literal s (predicate_of p)) (arguments_same (term_at Front) (term_at Old) m (λ t at. term_front t at) xs h)
  form_front look (AndShape gs) h = refl
  form_front look (OrShape gs) h = refl
  form_front look (ForallShape ss f) h = refl
  form_front look (ExistsShape ss f) h = refl

  pair_front : (j : ℕ) → j < k → pair_at Front j ≡ pair_at Old j
  pair_front j h =
      tree_at-same nothing (build_formula (term_at Front)) (build_formula (term_at Old)) Front.formulas (λ look i s at. form_front look s (form_named i s at)) j
      ∙ ap (λ ns. tree_at nothing (build_formula (term_at Old)) ns j) (shapes_front shape_of k es)
      ∙ tree_at-front nothing (build_formula (term_at Old)) k Old.formulas j (omega (arith, h, length-take-le k Old.formulas closed.formulas_within))

  pub IsGrown-front : (marked : Forms) → IsGrown marked Old → length marked.terms ≤ m → length marked.formulas ≤ k → IsGrown marked Front
  IsGrown-front marked g terms formulas = record {
    same_fields = g.same_fields;
    more_terms = omega (arith, terms, many_terms);
    more_formulas = omega (arith, formulas, many_formulas);
    same_terms = λ t h. term_front t (omega (arith, h, terms)) ∙ g.same_terms t h;
    same_formulas = λ f h. ap (with_sign (f.0 % 2)) (pair_front (f.0 / 2) (half_below f.0 k (omega (arith, h, formulas)))) ∙ g.same_formulas f h;
  }

  form_below : (j : ℕ) (s : Shape) → NamesBelow m s → PairBelow (length Old.terms) j s → PairBelow (length Front.terms) j s
  form_below j (LiteralShape s p xs) h b = subst (λ n. AreTermsBelow n xs) (sym many_terms) h
  form_below j (AndShape gs) h b = b
  form_below j (OrShape gs) h b = b
  form_below j (ForallShape ss f) h b = b
  form_below j (ExistsShape ss f) h b = b

  pub IsBank-front : IsBank fs ts es → IsBank fs (take m ts) (take k es)
  IsBank-front ok = record {
    terms_apart =
        subst (AreInterned no_term build_term TermBelow AnyTerm) (sym (shapes_front term_shape m ts))
        (AreInterned-front no_term build_term TermBelow AnyTerm m Old.terms ok.terms_apart);
    formulas_apart = record {
      below = λ j s at. form_below j s (form_named j s at) (ok.formulas_apart.below j s (form_there j s at));
      fine = λ j h. subst IsPlain (sym (pair_front j (before j h))) (ok.formulas_apart.fine j (within j h));
      apart = λ i j hi hj e. ok.formulas_apart.apart i j (within i hi) (within j hj) (sym (pair_front i (before i hi)) ∙ e ∙ pair_front j (before j hj));
    };
    terms_beside = λ j x at. moved _ _ x.1 (term_front (number j) (term_before j x at)) (ok.terms_beside j x (slice_get-front m ts j x at));
    beside = λ j x at. let old = ok.beside j x (slice_get-front k es j x at) in let same = pair_front j (formula_before j x at) in record {
      negation = old.negation;
      formed = λ cs is. old.formed cs is ∙ ap (is_well_formed cs []) (sym same);
      constants = old.constants ∙ ap highest (sym same);
      named = λ i n h there. old.named i n h (form_there i n there);
    };
  }
    where
      before : (j : ℕ) → j < length Front.formulas → j < k
      before j h = omega (arith, h, many_formulas)

      within : (j : ℕ) → j < length Front.formulas → j < length Old.formulas
      within j h = omega (arith, h, many_formulas, closed.formulas_within)

      term_before : (j : ℕ) (x : Term × BesideTerm) → slice_get (take m ts) j ≡ Some x → j < m
      term_before j x at = omega (arith, slice_get_within (take m ts) j x at, length-shapes term_shape (take m ts), many_terms)

      formula_before : (j : ℕ) (x : Formula × Beside) → slice_get (take k es) j ≡ Some x → j < k
      formula_before j x at = omega (arith, slice_get_within (take k es) j x at, length-shapes shape_of (take k es), many_formulas)

      moved : (x y : tree.Term) (v : BesideTerm) → y ≡ x → IsBesideTerm Old x v → IsBesideTerm Front y v
      moved x y v s b = record { sort = λ cs is. b.sort cs is ∙ ap (sort_of cs []) (sym s); sorted = λ cs is. b.sorted cs is ∙ ap (is_well_sorted cs []) (sym s); constants = b.constants ∙ ap highest_of_term (sym s) }
