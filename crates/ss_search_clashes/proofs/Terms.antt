-- The terms of a bank's formulas have numbers.
use Rattle.std.proofs.Common.{◌≡◌, ℕ, zero, suc, ◌+◌, ◌<◌, ◌≤◌, ◌%◌, ◌/◌, List, [], ◌∷◌, ◌++◌, length, Bool, true, not, Some, refl, sym, ◌∙◌, ap, subst, inl, inr, ◌⊎◌, ⊎_elim, get_or, arith}
use Rattle.std.specs.Prelude.{slice_get}
use Rattle.std.specs.List.{Contains}
use Rattle.std.proofs.lemmas.Bool.{true≢false, cases_lt}
use Rattle.std.proofs.lemmas.List.{get_or_append_left, get_or_at, get_or_past, length_push}
use Rattle.std.proofs.lemmas.List.Elements.{Contains-append_cases}
use Rattle.ss_logic.specs.Terms.{Term, App, Terms, terms_from}
use Rattle.ss_logic.specs.Formulas.{Predicate, Formula, Literal, And, Or, Forall, Exists, neg}
use Rattle.ss_logic.proofs.Truth.{neg_neg}
use Rattle.ss_logic.specs.Occurring.{atoms_in, atoms, terms}
use Rattle.ss_terms_interned.specs.Interned.{trees_from, tree_at}
use Rattle.ss_terms.specs.declared.forms.TermId.{TermId}
use Rattle.ss_terms.specs.declared.forms.FormulaId.{FormulaId}
use Rattle.ss_terms.specs.Forms.{Forms, TermShape, BoundShape, AppShape, Shape, LiteralShape, AndShape, OrShape, ForallShape, ExistsShape, build_term, no_term, build_formula, nothing, pair_at, with_sign, term_at, terms_at, formula_at, formulas_at, symbol_of, HasTerm, AreTermsBelow}
use Rattle.ss_terms.proofs.Trees.{AreTermsBelow-more}
use Rattle.ss_equality_rules.specs.Equal.{AreFormsOf}
use Rattle.ss_equality_rules.proofs.Lists.{there}
use Rattle.ss_search_procedure_rules.specs.Closed.{is_basic, basics}
use Rattle.ss_logic.proofs.Lists.{contains_none, contains_split, map_from, from_filter}
use Rattle.ss_search_procedure_rules.proofs.Occurring.{subterms, all_subterms, terms_in, from_all, from_collected}
use Rattle.ss_search_clashes.specs.Numbered.{terms_of_bank}
use Rattle.ss_search_clashes.proofs.Numbers.{length_trees, term_there}

pub record IsNumbered (b : Forms) (x : Term) : Type 0 where
  pub term : TermId
  pub has : HasTerm b term
  pub is : term_at b term ≡ x

-- ---- subterms

past_end : (b : Forms) (t : TermId) → length b.terms ≤ t.0 → term_at b t ≡ no_term
past_end b t h =
    let l : length (terms_of_bank b) ≡ length b.terms = length_trees no_term build_term [] b.terms ∙ omega arith in
    sym (term_there b t) ∙ get_or_past (terms_of_bank b) t.0 no_term (omega (arith, l, h))

module _ (b : Forms) (ts : List TermShape) (are : AreFormsOf b ts) where
  abbrev HasNumbers : ℕ → Type 0
  HasNumbers n = (t : TermId) → t.0 < n → (x : Term) → Contains (subterms (term_at b t)) x → IsNumbered b x

  arguments_numbered : (n : ℕ) → HasNumbers n → (ys : List TermId) → AreTermsBelow n ys → (x : Term) → Contains (all_subterms (terms_from (terms_at b ys))) x → IsNumbered b x
  arguments_numbered n rest [] below x h = absurd (contains_none x h)
  arguments_numbered n rest (y ∷ ys) below x h = ⊎_elim
      (λ k. rest y below.0 x k)
      (λ k. arguments_numbered n rest ys below.1 x k)
      (Contains-append_cases (subterms (term_at b y)) (all_subterms (terms_from (terms_at b ys))) x h)

  form_numbered : (n : ℕ) → HasNumbers n → (t : TermId) → t.0 < suc n → HasTerm b t → (s : TermShape) → slice_get ts t.0 ≡ Some s → (x : Term) → Contains (subterms (term_at b t)) x → IsNumbered b x
  form_numbered n rest t l has (BoundShape k) at x h = absurd (contains_none x (subst (λ u. Contains (subterms u) x) (are.built t.0 (BoundShape k) at) h))
  form_numbered n rest t l has (AppShape f ys) at x h =
      let is : term_at b t ≡ App (symbol_of f) (terms_from (terms_at b ys)) = are.built t.0 (AppShape f ys) at in
      ⊎_elim
      (λ e. record { term = t; has = has; is = is ∙ e })
      (λ k. arguments_numbered n rest ys (AreTermsBelow-more t.0 n (omega (arith, l)) ys (are.below t.0 (AppShape f ys) at)) x k)
      (contains_split (App (symbol_of f) (terms_from (terms_at b ys))) (all_subterms (terms_from (terms_at b ys))) x (subst (λ u. Contains (subterms u) x) is h))

  numbered : (n : ℕ) (t : TermId) → t.0 < n → (x : Term) → Contains (subterms (term_at b t)) x → IsNumbered b x
  numbered zero t l x h = absurd (omega (arith, l))
  numbered (suc n) t l x h = ⊎_elim
      (λ has. let r = there ts t.0 (omega (arith, has, are.all)) in form_numbered n (numbered n) t l has r.0 r.1 x h)
      (λ past. absurd (contains_none x (subst (λ u. Contains (subterms u) x) (past_end b t past) h)))
      (cases_lt t.0 (length b.terms))

  all_numbered : (ys : List TermId) (x : Term) → Contains (all_subterms (terms_from (terms_at b ys))) x → IsNumbered b x
  all_numbered [] x h = absurd (contains_none x h)
  all_numbered (y ∷ ys) x h = ⊎_elim
      (λ k. numbered (suc y.0) y (omega arith) x k)
      (λ k. all_numbered ys x k)
      (Contains-append_cases (subterms (term_at b y)) (all_subterms (terms_from (terms_at b ys))) x h)

-- ---- literals

module _ (b : Forms) where
  abbrev build : (ℕ → Formula) → Shape → Formula
  build = build_formula (term_at b)

  abbrev IsBuilt : Formula → Type 0
  IsBuilt f = (f ≡ nothing) ⊎ ((look : ℕ → Formula) × (n : Shape) × (f ≡ build look n))

  pushed_built : (fs : List Formula) (look : ℕ → Formula) (n : Shape) → ((j : ℕ) → IsBuilt (get_or fs j nothing)) → (j : ℕ) → IsBuilt (get_or (fs ++ build look n ∷ []) j nothing)
  pushed_built fs look n h j = ⊎_elim
      (λ l. subst IsBuilt (sym (get_or_append_left fs (build look n ∷ []) nothing j l)) (h j))
      (λ g. ⊎_elim
      (λ l.
      let last : length fs ≡ j = omega (arith, g, l) in
      inr (look, n, get_or_at fs (build look n) [] nothing j last))
      (λ p. let k = length_push fs (build look n) in inl (get_or_past (fs ++ build look n ∷ []) j nothing (omega (arith, k, p))))
      (cases_lt j (length fs + 1)))
      (cases_lt j (length fs))

  trees_built : (ns : List Shape) (fs : List Formula) → ((j : ℕ) → IsBuilt (get_or fs j nothing)) → (k : ℕ) → IsBuilt (get_or (trees_from nothing build fs ns) k nothing)
  trees_built [] fs h k = h k
  trees_built (n ∷ ns) fs h k = trees_built ns (fs ++ build (λ t. get_or fs t nothing) n ∷ []) (pushed_built fs (λ t. get_or fs t nothing) n h) k

  pair_built : (k : ℕ) → IsBuilt (pair_at b k)
  unfolding tree_at
  pair_built k = trees_built b.formulas [] (λ j. inl refl) k

  record HasArguments (us : Terms) : Type 0 where
    arguments : List TermId
    are : us ≡ terms_from (terms_at b arguments)

  from_shape : (look : ℕ → Formula) (n : Shape) (s : Bool) (p : Predicate) (us : Terms) → build look n ≡ Literal s p us → HasArguments us
  from_shape look (LiteralShape r q xs) s p us e = record { arguments = xs; are = let same : us ≡ terms_from (terms_at b xs) = cc in same }
  from_shape look (AndShape gs) s p us e = cc
  from_shape look (OrShape gs) s p us e = cc
  from_shape look (ForallShape ss g) s p us e = cc
  from_shape look (ExistsShape ss g) s p us e = cc

  from_pair : (f : Formula) → IsBuilt f → (s : Bool) (p : Predicate) (us : Terms) → f ≡ Literal s p us → HasArguments us
  from_pair f h s p us e = ⊎_elim
      (λ n. let no : nothing ≡ Literal s p us = sym n ∙ e in cc)
      (λ r. from_shape r.0 r.1 s p us (sym r.2 ∙ e))
      h

  from_sign : (r : ℕ) (f : Formula) → IsBuilt f → (s : Bool) (p : Predicate) (us : Terms) → with_sign r f ≡ Literal s p us → HasArguments us
  from_sign zero f h s p us e = from_pair f h s p us e
  from_sign (suc r) f h s p us e = from_pair f h (not s) p us (sym (neg_neg f) ∙ ap neg e)

  literal_arguments : (f : FormulaId) (s : Bool) (p : Predicate) (us : Terms) → formula_at b f ≡ Literal s p us → HasArguments us
  literal_arguments f s p us e = from_sign (f.0 % 2) (pair_at b (f.0 / 2)) (pair_built (f.0 / 2)) s p us e

-- ---- the terms of known literals

record IsAtomOf (g a : Formula) : Type 0 where
  sign : Bool
  predicate : Predicate
  arguments : Terms
  literal : g ≡ Literal sign predicate arguments
  atom : Literal true predicate arguments ≡ a

atom_of : (g a : Formula) → is_basic g ≡ true → Contains (atoms_in g) a → IsAtomOf g a
atom_of (Literal s p us) a e h = record { sign = s; predicate = p; arguments = us; literal = refl; atom = ⊎_elim (λ q. q) (λ k. absurd (contains_none a k)) (contains_split (Literal true p us) [] a h) }
atom_of (And gs) a e h = absurd (true≢false (sym e))
atom_of (Or gs) a e h = absurd (true≢false (sym e))
atom_of (Forall ss g) a e h = absurd (contains_none a h)
atom_of (Exists ss g) a e h = absurd (contains_none a h)

pub known_numbered : (b : Forms) (ts : List TermShape) → AreFormsOf b ts → (known : List FormulaId) (x : Term) → Contains (terms (basics (formulas_at b known))) x → IsNumbered b x
known_numbered b ts are known x h = ⊎_elim
    (λ n. absurd (contains_none x n))
    (λ r.
    let s = from_collected atoms_in (basics (formulas_at b known)) r.0 r.1 in
    let t = from_filter is_basic (formulas_at b known) s.0 s.1 in
    let f = map_from (formula_at b) known s.0 t.0 in
    let a = atom_of s.0 r.0 t.1 s.2 in
    let us = literal_arguments b f.0 a.sign a.predicate a.arguments (f.2 ∙ a.literal) in
    all_numbered b ts are us.arguments x (subst (λ vs. Contains (all_subterms vs) x) us.are (subst (λ g. Contains (terms_in g) x) (sym a.atom) r.2)))
    (from_all (atoms (basics (formulas_at b known))) [] x h)
