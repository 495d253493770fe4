-- What was given to signatures of the members of a list says that any two of them agree.
use Rattle.std.proofs.Common.{◌≡◌, ℕ, ◌==◌, ◌+◌, ◌<◌, ◌≤◌, List, [], ◌∷◌, ◌++◌, length, take, get_or, map, Bool, true, false, not, ◌&&◌, Some, None, refl, sym, ◌∙◌, ap, subst, Vec, Global, Result, Ok, Err, arith}
use Rattle.std.specs.Prelude.{IfOk}
use Rattle.std.specs.List.{list_all, AllByRecursion}
use Rattle.std.specs.Bool.{beq}
use Rattle.std.proofs.lemmas.Bool.{eqb-true, eq-eqb, false≢true}
use Rattle.std.proofs.lemmas.List.{take_more}
use Rattle.ss_logic.specs.Terms.{Term, Bound, App, terms_from}
use Rattle.ss_logic.specs.Formulas.{Formula, Literal, And, Or, Forall, Exists}
use Rattle.ss_logic.specs.Equal.{same_symbol, same_term, same_predicate, same_term_equal}
use Rattle.ss_logic_means.specs.Steps.{is_value}
use Rattle.ss_logic_countermodels.specs.Refuting.{Model, classes_of, same_classes, are_congruent, are_alike, are_apart, implies}
use Rattle.ss_terms.specs.Lists.{SmallVec}
use Rattle.ss_terms.specs.declared.forms.TermId.{TermId}
use Rattle.ss_terms.specs.declared.forms.FormulaId.{FormulaId}
use Rattle.ss_terms.specs.declared.forms.Symbol as form
use Rattle.ss_terms.specs.declared.forms.Predicate as predicate
use Rattle.ss_terms.specs.declared.forms.Term.TheVariants.{Bound as BoundForm, App as AppForm}
use Rattle.ss_terms.specs.declared.forms.Formula.TheVariants.{Literal as LiteralForm, And as AndForm, Or as OrForm, Forall as ForallForm, Exists as ExistsForm}
use Rattle.ss_logic.specs.declared.Sort.{Sort}
use Rattle.ss_terms.specs.Forms.{Forms, term_at, terms_at, formula_at, formulas_at, symbol_of, predicate_of, HasTerm, HasTerms, IsTermForm, IsFormulaForm}
use Rattle.ss_terms.proofs.Sorted.{list_back}
use Rattle.ss_terms.proofs.Trees.{AreTermsBelow-more}
use Rattle.ss_search_models.specs.declared.signatures.Given.{Given}
use Rattle.ss_search_models.specs.declared.signatures.Given.TheVariants as given
use Rattle.ss_search_models.specs.Keys.{Key, FunctionKey, AtomKey, ValueKey, same_key, Givens, given_to, Keeps}
use Rattle.ss_search_models.specs.Said.{IsFunctionSaid, IsAtomSaid, IsValueSaid, are_functions_of_classes, are_atoms_of_classes, are_values_apart, equality_of}
use Rattle.ss_search_models.proofs.Keys.{same_key_equal}

-- ---- lists

module _ {X : Type 0} where
  all_push : (P : X → Type 0) (xs : List X) (x : X) → AllByRecursion P xs → P x → AllByRecursion P (xs ++ x ∷ [])
  all_push P [] x h at = (at, tt)
  all_push P (y ∷ xs) x h at = (h.0, all_push P xs x h.1 at)

  all_kept : (P Q : X → Type 0) → ((x : X) → P x → Q x) → (xs : List X) → AllByRecursion P xs → AllByRecursion Q xs
  all_kept P Q keep [] h = tt
  all_kept P Q keep (x ∷ xs) h = (keep x h.0, all_kept P Q keep xs h.1)

  pub all_more : (P Q : X → Type 0) → ((x : X) → P x → Q x) → (xs : List X) (i : ℕ) (d : X) → i < length xs → AllByRecursion P (take i xs) → Q (get_or xs i d) → AllByRecursion Q (take (i + 1) xs)
  all_more P Q keep xs i d at h x = subst (AllByRecursion Q) (sym (take_more xs i d at)) (all_push Q (take i xs) (get_or xs i d) (all_kept P Q keep (take i xs) h) x)

  module _ {Y : Type 0} (P : X → Type 0) (f : X → Y) (R : Y → Y → Bool) (rule : (x y : X) → P x → P y → R (f x) (f y) ≡ true) where
    row : (x : X) → P x → (xs : List X) → AllByRecursion P xs → list_all (R (f x)) (map f xs) ≡ true
    row x p [] h = refl
    row x p (y ∷ xs) h = ap (λ v. v && list_all (R (f x)) (map f xs)) (rule x y p h.0) ∙ row x p xs h.1

    rows : (xs ys : List X) → AllByRecursion P xs → AllByRecursion P ys → list_all (λ s. list_all (R s) (map f ys)) (map f xs) ≡ true
    rows [] ys h k = refl
    rows (x ∷ xs) ys h k = ap (λ v. v && list_all (λ s. list_all (R s) (map f ys)) (map f xs)) (row x h.0 ys k) ∙ rows xs ys h.1 k

    pub each_two : (xs : List X) → AllByRecursion P xs → list_all (λ s. list_all (R s) (map f xs)) (map f xs) ≡ true
    each_two xs h = rows xs xs h h

-- ---- two to which something was given

implied : (a b : Bool) → (a ≡ true → b ≡ true) → implies a b ≡ true
implied true b h = h refl
implied false b h = refl

one_given : (gs : Givens) (x y : Key) (g h : Given) → given_to gs x ≡ Some g → given_to gs y ≡ Some h → same_key x y ≡ true → g ≡ h
one_given gs x y g h a b s =
    let e = ap (given_to gs) (same_key_equal x y s) in
    let o : Some g ≡ Some h = sym a ∙ e ∙ b in
    cc

beq_itself : (v w : Bool) → v ≡ w → beq v w ≡ true
beq_itself true true e = refl
beq_itself false false e = refl
beq_itself true false e = cc
beq_itself false true e = cc

module _ (gs : Givens) (m : Model) where
  functions_rule : (s t : Term) → IsFunctionSaid gs m s → IsFunctionSaid gs m t → implies (are_congruent m s t) (m.class s == m.class t) ≡ true
  functions_rule (App f ts) (App g us) a b =
      implied (same_symbol f g && same_classes (classes_of m ts) (classes_of m us)) (m.class (App f ts) == m.class (App g us))
      (λ s.
      let e : given.Class (m.class (App f ts)) ≡ given.Class (m.class (App g us)) = one_given gs (FunctionKey f (classes_of m ts)) (FunctionKey g (classes_of m us)) _ _ a b s in
      let same : m.class (App f ts) ≡ m.class (App g us) = cc in
      eq-eqb (m.class (App f ts)) (m.class (App g us)) same)
  functions_rule (App f ts) (Bound k) a b = refl
  functions_rule (Bound k) (App g us) a b = refl
  functions_rule (Bound k) (Bound j) a b = refl

  atoms_rule : (f g : Formula) → IsAtomSaid gs m f → IsAtomSaid gs m g → implies (are_alike m f g) (beq (m.truth f) (m.truth g)) ≡ true
  atoms_rule (Literal r p ts) (Literal s q us) a b =
      implied (same_predicate p q && same_classes (classes_of m ts) (classes_of m us)) (beq (m.truth (Literal r p ts)) (m.truth (Literal s q us)))
      (λ same.
      let e : given.Truth (m.truth (Literal r p ts)) ≡ given.Truth (m.truth (Literal s q us)) = one_given gs (AtomKey p (classes_of m ts)) (AtomKey q (classes_of m us)) _ _ a b same in
      let t : m.truth (Literal r p ts) ≡ m.truth (Literal s q us) = cc in
      beq_itself (m.truth (Literal r p ts)) (m.truth (Literal s q us)) t)
  atoms_rule _ _ a b = refl

  values_rule : (b : Forms) (s t : TermId) → IsValueSaid gs b m s → IsValueSaid gs b m t → are_apart m (term_at b s) (term_at b t) ≡ true
  values_rule b s t p q = by (is_value (term_at b s)) (is_value (term_at b t)) (m.class (term_at b s) == m.class (term_at b t)) p q (λ e. eqb-true (m.class (term_at b s)) (m.class (term_at b t)) e)
    where
      unlike : (v : Bool) → not (v && false) ≡ true
      unlike true = refl
      unlike false = refl

      by : (v w e : Bool) → (v ≡ true → given_to gs (ValueKey (m.class (term_at b s))) ≡ Some (given.Value s)) → (w ≡ true → given_to gs (ValueKey (m.class (term_at b t))) ≡ Some (given.Value t)) →
          (e ≡ true → m.class (term_at b s) ≡ m.class (term_at b t)) → not (v && w && not (same_term (term_at b s) (term_at b t)) && e) ≡ true
      by true true true p q e =
          let o : Some (given.Value s) ≡ Some (given.Value t) = sym (p refl) ∙ ap (λ n. given_to gs (ValueKey n)) (e refl) ∙ q refl in
          let same : s ≡ t = cc in
          ap (λ v. not (not v && true)) (same_term_equal (term_at b s) (term_at b t) (ap (term_at b) same))
      by true true false p q e = unlike (not (same_term (term_at b s) (term_at b t)))
      by true false e p q _ = refl
      by false w e p q _ = refl

  pub functions_said : (b : Forms) (ts : List TermId) → AllByRecursion (λ t. IsFunctionSaid gs m (term_at b t)) ts → are_functions_of_classes m (terms_at b ts) ≡ true
  functions_said b ts h =
      each_two (λ t. IsFunctionSaid gs m (term_at b t)) (term_at b) (λ s t. implies (are_congruent m s t) (m.class s == m.class t)) (λ x y p q. functions_rule (term_at b x) (term_at b y) p q) ts h

  pub atoms_said : (b : Forms) (fs : List FormulaId) → AllByRecursion (λ f. IsAtomSaid gs m (formula_at b f)) fs → are_atoms_of_classes m (formulas_at b fs) ≡ true
  atoms_said b fs h =
      each_two (λ f. IsAtomSaid gs m (formula_at b f)) (formula_at b) (λ f g. implies (are_alike m f g) (beq (m.truth f) (m.truth g))) (λ x y p q. atoms_rule (formula_at b x) (formula_at b y) p q) fs h

  pub values_said : (b : Forms) (ts : List TermId) → AllByRecursion (IsValueSaid gs b m) ts → are_values_apart m (terms_at b ts) ≡ true
  values_said b ts h = each_two (IsValueSaid gs b m) (term_at b) (are_apart m) (values_rule b) ts h

-- ---- what was given stays

module _ (old new : Givens) (m : Model) (keeps : Keeps old new) where
  pub function_kept : (t : Term) → IsFunctionSaid old m t → IsFunctionSaid new m t
  function_kept (App f ts) h = keeps _ _ h
  function_kept (Bound k) h = tt

  pub atom_kept : (f : Formula) → IsAtomSaid old m f → IsAtomSaid new m f
  atom_kept (Literal s p ts) h = keeps _ _ h
  atom_kept (And fs) h = tt
  atom_kept (Or fs) h = tt
  atom_kept (Forall ss f) h = tt
  atom_kept (Exists ss f) h = tt

  pub value_kept : (b : Forms) (t : TermId) → IsValueSaid old b m t → IsValueSaid new b m t
  value_kept b t h = λ e. keeps _ _ (h e)

-- ---- what is given to a form

module _ (gs : Givens) (m : Model) (b : Forms) where
  pub bound_said : (t : TermId) (k : ℕ) → IsTermForm b t (BoundForm k) → IsFunctionSaid gs m (term_at b t)
  bound_said t k n = subst (IsFunctionSaid gs m) (sym n.built) tt

  pub function_said : (t : TermId) (f : form.Symbol) (v : SmallVec TermId) (ns : List ℕ) (n : ℕ) → IsTermForm b t (AppForm f v) → ns ≡ map m.class (terms_at b v.items) → n ≡ m.class (term_at b t) →
      given_to gs (FunctionKey (symbol_of f) ns) ≡ Some (given.Class n) → IsFunctionSaid gs m (term_at b t)
  function_said t f v ns n at cs c h =
      subst (IsFunctionSaid gs m) (sym at.built)
      (ap (λ us. given_to gs (FunctionKey (symbol_of f) (map m.class us))) (list_back (terms_at b v.items))
      ∙ ap (λ us. given_to gs (FunctionKey (symbol_of f) us)) (sym cs) ∙ h ∙ ap (λ k. Some (given.Class k)) (c ∙ ap m.class at.built))

  pub atom_said : (f : FormulaId) (s : Bool) (p : predicate.Predicate) (v : SmallVec TermId) (ns : List ℕ) (t : Bool) → IsFormulaForm b f (LiteralForm s p v) → ns ≡ map m.class (terms_at b v.items) → t ≡ m.truth (formula_at b f) →
      given_to gs (AtomKey (predicate_of p) ns) ≡ Some (given.Truth t) → IsAtomSaid gs m (formula_at b f)
  atom_said f s p v ns t at cs c h =
      subst (IsAtomSaid gs m) (sym at.built)
      (ap (λ us. given_to gs (AtomKey (predicate_of p) (map m.class us))) (list_back (terms_at b v.items))
      ∙ ap (λ us. given_to gs (AtomKey (predicate_of p) us)) (sym cs) ∙ h ∙ ap (λ k. Some (given.Truth k)) (c ∙ ap m.truth at.built))

  pub and_said : (f : FormulaId) (v : SmallVec FormulaId) → IsFormulaForm b f (AndForm v) → IsAtomSaid gs m (formula_at b f)
  and_said f v n = subst (IsAtomSaid gs m) (sym n.built) tt

  pub or_said : (f : FormulaId) (v : SmallVec FormulaId) → IsFormulaForm b f (OrForm v) → IsAtomSaid gs m (formula_at b f)
  or_said f v n = subst (IsAtomSaid gs m) (sym n.built) tt

  pub forall_said : (f : FormulaId) (ss : Vec Sort Global) (g : FormulaId) → IsFormulaForm b f (ForallForm ss g) → IsAtomSaid gs m (formula_at b f)
  forall_said f ss g n = subst (IsAtomSaid gs m) (sym n.built) tt

  pub exists_said : (f : FormulaId) (ss : Vec Sort Global) (g : FormulaId) → IsFormulaForm b f (ExistsForm ss g) → IsAtomSaid gs m (formula_at b f)
  exists_said f ss g n = subst (IsAtomSaid gs m) (sym n.built) tt

  pub no_value_said : (t : TermId) (v : Bool) → v ≡ is_value (term_at b t) → v ≡ false → IsValueSaid gs b m t
  no_value_said t v e off = λ h. absurd (false≢true (sym off ∙ e ∙ h))

-- ---- arguments

pub arguments_there : (b : Forms) (t : TermId) (f : form.Symbol) (v : SmallVec TermId) (xs : List TermId) → HasTerm b t → IsTermForm b t (AppForm f v) → xs ≡ v.items → HasTerms b xs
arguments_there b t f v xs at n e = subst (HasTerms b) (sym e) (AreTermsBelow-more t.0 (length b.terms) (omega (arith, at)) v.items n.below)

pub if_agreed : {E : Type 0} (P Q : Type 0) (r : Result Bool E) → (P → Q) → IfOk r (λ v. v ≡ true → P) → IfOk r (λ v. v ≡ true → Q)
if_agreed P Q (Ok v) f h = λ e. f (h e)
if_agreed P Q (Err z) f h = tt

-- ---- equalities

module _ (m : Model) (b : Forms) where
  pub fewer_than_two : (ts : List TermId) → length ts < 2 → None ≡ equality_of m (terms_from (terms_at b ts))
  fewer_than_two [] h = refl
  fewer_than_two (t ∷ []) h = refl
  fewer_than_two (t ∷ u ∷ ts) h = absurd (omega arith)

  pub more_than_two : (ts : List TermId) → 3 ≤ length ts → None ≡ equality_of m (terms_from (terms_at b ts))
  more_than_two [] h = absurd (omega arith)
  more_than_two (t ∷ []) h = absurd (omega arith)
  more_than_two (t ∷ u ∷ []) h = absurd (omega arith)
  more_than_two (t ∷ u ∷ v ∷ ts) h = refl
