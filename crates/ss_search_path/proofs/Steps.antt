-- One `exists` is opened, one part is known.
use Rattle.std.proofs.Common.{◌≡◌, ℕ, zero, suc, ◌+◌, ◌<◌, List, [], ◌∷◌, ◌++◌, length, take, drop, get_or, true, ◌&&◌, Some, refl, sym, ◌∙◌, ap, subst, arith}
use Rattle.std.specs.Prelude.{slice_get, option_map}
use Rattle.std.proofs.lemmas.Bool.{and_parts}
use Rattle.std.proofs.lemmas.List.{map_push, take_at, length-map}
use Rattle.std.proofs.lemmas.Option.{slice_get-map, slice_get_within}
use Rattle.ss_core.specs.Tree.{ClassTree}
use Rattle.ss_logic.specs.declared.Sort.{Sort}
use Rattle.ss_logic.specs.Terms.{Term}
use Rattle.ss_logic.specs.Formulas.{Formula, Formulas, And, Or, Forall, Exists, no_formulas, formula_then, formula_list, is_well_formed, neg, put}
use Rattle.ss_logic_means.specs.Steps as tree
use Rattle.ss_logic_means.specs.Steps.{part_at, part_of, chosen}
use Rattle.ss_logic.specs.Opened.{is_exists}
use Rattle.ss_logic_means.specs.Origins as words
use Rattle.ss_logic_means.specs.Origins.{opened_at, opened_by, chosen_at, chosen_by}
use Rattle.ss_logic_means.proofs.Matched.{none_is}
use Rattle.ss_terms.specs.declared.forms.FormulaId.{FormulaId}
use Rattle.ss_terms.specs.Forms.{Forms, formula_at, formulas_at, HasTerms}
use Rattle.ss_rules_opened.specs.declared.origins.Origin.{Origin}
use Rattle.ss_rules_opened.specs.Views.{origin_at, HasOrigins}
use Rattle.ss_search_clashes.proofs.Leading.{at_end}
use Rattle.ss_search_path.specs.declared.path.Path.{Path}
use Rattle.ss_search_path.specs.Paths.{known_on, GoesOn, Makes}
use Rattle.ss_search_path.specs.declared.standing.Given.{Given}
use Rattle.ss_search_path.specs.Standing.{choices_in, body_of, IsGiven, AreChosen, IsFact, IsOpenedFact, parts_of, OpensFact, line_from, IsGuardedAt}
use Rattle.ss_search_path.proofs.Forms.{opened_here, exists_is}
use Rattle.ss_search_path.proofs.StandingFacts.{some_same, read_there, listed_formed, and_fact, or_fact, part_fact}

-- ---- one formula more is known

pub known_one_more : (b : Forms) (old new : Path) (f : FormulaId) → new.known.items ≡ old.known.items ++ f ∷ [] → known_on b new ≡ known_on b old ++ formula_at b f ∷ []
known_one_more b old new f e = ap (formulas_at b) e ∙ map_push (formula_at b) old.known.items f

pub kept_one_more : (old new : Path) (f : FormulaId) → new.known.items ≡ old.known.items ++ f ∷ [] → take (length old.known.items) new.known.items ≡ old.known.items
kept_one_more old new f e = ap (take (length old.known.items)) e ∙ take_at old.known.items (f ∷ []) (length old.known.items) refl

-- the last one, after so many
pub last_known : (b : Forms) (old new : Path) (f : FormulaId) (place : ℕ) → new.known.items ≡ old.known.items ++ f ∷ [] → place ≡ length old.known.items → slice_get (known_on b new) place ≡ Some (formula_at b f)
last_known b old new f place e at =
    ap (λ xs. slice_get xs place) (known_one_more b old new f e)
    ∙ ap (slice_get (known_on b old ++ formula_at b f ∷ [])) (at ∙ sym (length-map old.known.items (formula_at b)))
    ∙ at_end (known_on b old) (formula_at b f)

-- ---- bodies

pub body_there : (g : Given) → IsGiven g → (i : ℕ) (c : words.Choice) (d : FormulaId) → slice_get (choices_in g) i ≡ Some c → formula_at g.bank.now (get_or g.bodies.now i d) ≡ body_of c
body_there g given i c d at =
    read_there (formula_at g.bank.now) g.bodies.now i d (body_of c) (ap (λ xs. slice_get xs i) given.bodies ∙ slice_get-map body_of (choices_in g) i ∙ ap (option_map body_of) at)

pub bodies_within : (g : Given) → IsGiven g → (i : ℕ) (c : words.Choice) → slice_get (choices_in g) i ≡ Some c → i < length g.bodies.now
bodies_within g given i c at =
    let within = slice_get_within (choices_in g) i c at in
    let same : length g.bodies.now ≡ length (choices_in g) = sym (length-map g.bodies.now (formula_at g.bank.now)) ∙ ap length given.bodies ∙ length-map (choices_in g) body_of in
    omega (arith, within, same)

-- ---- a choice of an `exists`

pub record IsChoiceOf (c : words.Choice) (x : Formula) : Type 0 where
  pub sorts : List Sort
  pub inner : Formula
  pub exists : x ≡ Exists sorts inner
  pub says : chosen_by c ≡ chosen sorts inner c.constants
  pub body : body_of c ≡ put c.constants inner

choice_of_exists : (c : words.Choice) (x : Formula) → c.whole ≡ x → is_exists x ≡ true → IsChoiceOf c x
choice_of_exists c x whole e =
    let r = exists_is x e in
    let is : c.whole ≡ Exists r.0 r.1 = whole ∙ r.2 in
    record {
      sorts = r.0;
      inner = r.1;
      exists = r.2;
      says = ap (λ w. chosen_at w c.constants) is;
      body = ap (λ w. opened_at w c.constants w) is ∙ opened_here r.0 r.1 c.constants;
    }

chosen_body_formed : (cs : List ClassTree) (ss : List Sort) (h : Formula) (ts : List Term) → is_well_formed cs [] (chosen ss h ts) ≡ true → is_well_formed cs [] (put ts h) ≡ true
chosen_body_formed cs ss h ts formed =
    let p = and_parts (is_well_formed cs [] (Forall ss (neg h))) (is_well_formed cs [] (put ts h) && true) formed in
    (and_parts (is_well_formed cs [] (put ts h)) true p.1).0

-- ---- one step of opening

module _ (g : Given) (given : IsGiven g) (old new : Path) (place from i : ℕ) (opens : OpensFact g (known_on g.bank.now old) place from i) where
  the_choice : IsChoiceOf opens.opens.choice opens.fact
  the_choice = choice_of_exists opens.opens.choice opens.fact opens.opens.whole opens.exists

  pub opening_goes : (cs : List ClassTree) (premises : List Formula) (goal : Formula) (f : FormulaId) → formula_at g.bank.now f ≡ body_of opens.opens.choice → AreChosen cs g (known_on g.bank.now old) →
      ((ss : List Sort) (body : Formula) (ts : List Term) → slice_get (known_on g.bank.now old) place ≡ Some (Exists ss body) → slice_get (known_on g.bank.now old) i ≡ Some (chosen ss body ts) → formula_at g.bank.now f ≡ put ts body → GoesOn cs premises goal g.bank.now old new) →
      GoesOn cs premises goal g.bank.now old new
  opening_goes cs premises goal f is chose goes =
      let c = the_choice in
      goes c.sorts c.inner opens.opens.choice.constants (opens.at ∙ ap Some c.exists) (chose.at i opens.opens.choice opens.opens.at ∙ ap Some c.says) (is ∙ c.body)

  pub opening_stands : (cs : List ClassTree) (h : Formula) (f : FormulaId) (next : ℕ) → formula_at g.bank.now f ≡ body_of opens.opens.choice → next ≡ length old.known.items → new.known.items ≡ old.known.items ++ f ∷ [] →
      AreChosen cs g (known_on g.bank.now old) → IsFact cs g (known_on g.bank.now old) place from h → IsFact cs g (known_on g.bank.now new) next (i + 1) h
  opening_stands cs h f next is at more chose fact =
      let c = the_choice in
      let same = some_same (slice_get (known_on g.bank.now old) place) opens.fact fact.fact opens.at fact.at in
      record {
        fact = formula_at g.bank.now f;
        at = last_known g.bank.now old new f next more at;
        formed = ap (is_well_formed cs []) (is ∙ c.body) ∙ chosen_body_formed cs c.sorts c.inner opens.opens.choice.constants
            (subst (λ x. is_well_formed cs [] x ≡ true) c.says (chose.formed i opens.opens.choice opens.opens.at));
        opened = ap (opened_by (drop (i + 1) (choices_in g))) is ∙ sym opens.opens.opened ∙ ap (opened_by (drop from (choices_in g))) same ∙ fact.opened;
      }

-- ---- a part

part_at_is : (fs : Formulas) (j : ℕ) → part_at fs j ≡ slice_get (formula_list fs) j
part_at_is no_formulas j = refl
part_at_is (formula_then f fs) zero = refl
part_at_is (formula_then f fs) (suc j) = part_at_is fs j

module _ (cs : List ClassTree) (g : Given) (old new : Path) (place from part : ℕ) (f : FormulaId) (fs : Formulas) (x : Formula)
    (says : (fact y : Formula) → slice_get (known_on g.bank.now old) place ≡ Some fact → slice_get (parts_of fact) part ≡ Some y → formula_at g.bank.now f ≡ y)
    (stands : IsOpenedFact cs g (known_on g.bank.now old) place from (And fs)) (at : slice_get (formula_list fs) part ≡ Some x) where
  pub record IsPartThere : Type 0 where
    pub parts : Formulas
    pub whole : slice_get (known_on g.bank.now old) place ≡ Some (And parts)
    pub formed : is_well_formed cs [] (And parts) ≡ true
    pub part_is : part_of part (And parts) ≡ Some (formula_at g.bank.now f)
    pub opened_is : opened_by (drop from (choices_in g)) (formula_at g.bank.now f) ≡ x
    pub part_formed : is_well_formed cs [] (formula_at g.bank.now f) ≡ true

  pub part_there : IsPartThere
  part_there =
      let a = and_fact cs g (known_on g.bank.now old) place from fs stands in
      let p = part_fact cs g (known_on g.bank.now old) place from (formula_list a.0) (formula_list fs) a.3 part x at in
      let is = says (And a.0) p.0 a.1 p.1 in
      record {
        parts = a.0;
        whole = a.1;
        formed = a.2;
        part_is = part_at_is a.0 part ∙ p.1 ∙ ap Some (sym is);
        opened_is = ap (opened_by (drop from (choices_in g))) is ∙ p.2;
        part_formed = ap (is_well_formed cs []) is ∙ listed_formed cs a.0 part p.0 a.2 p.1;
      }

  pub part_stands : (next : ℕ) → next ≡ length old.known.items → new.known.items ≡ old.known.items ++ f ∷ [] → IsFact cs g (known_on g.bank.now new) next from x
  part_stands next is_next more =
      let p = part_there in
      record { fact = formula_at g.bank.now f; at = last_known g.bank.now old new f next more is_next; formed = p.part_formed; opened = p.opened_is }

-- ---- a case

module _ (cs : List ClassTree) (g : Given) (old new : Path) (place from part : ℕ) (f : FormulaId) (fs : Formulas) (x : Formula)
    (says : (fact y : Formula) → slice_get (known_on g.bank.now old) place ≡ Some fact → slice_get (parts_of fact) part ≡ Some y → formula_at g.bank.now f ≡ y)
    (stands : IsOpenedFact cs g (known_on g.bank.now old) place from (Or fs)) (at : slice_get (formula_list fs) part ≡ Some x) where
  pub record IsCaseThere : Type 0 where
    pub parts : Formulas
    pub whole : slice_get (known_on g.bank.now old) place ≡ Some (Or parts)
    pub formed : is_well_formed cs [] (Or parts) ≡ true
    pub part_is : slice_get (formula_list parts) part ≡ Some (formula_at g.bank.now f)
    pub opened_is : opened_by (drop from (choices_in g)) (formula_at g.bank.now f) ≡ x
    pub part_formed : is_well_formed cs [] (formula_at g.bank.now f) ≡ true

  pub case_there : IsCaseThere
  case_there =
      let a = or_fact cs g (known_on g.bank.now old) place from fs stands in
      let p = part_fact cs g (known_on g.bank.now old) place from (formula_list a.0) (formula_list fs) a.3 part x at in
      let is = says (Or a.0) p.0 a.1 p.1 in
      record {
        parts = a.0;
        whole = a.1;
        formed = a.2;
        part_is = p.1 ∙ ap Some (sym is);
        opened_is = ap (opened_by (drop from (choices_in g))) is ∙ p.2;
        part_formed = ap (is_well_formed cs []) is ∙ listed_formed cs a.0 part p.0 a.2 p.1;
      }

  -- the part is known after the others
  pub case_stands : (next : ℕ) → next ≡ length old.known.items → new.known.items ≡ old.known.items ++ f ∷ [] → IsFact cs g (known_on g.bank.now new) next from x
  case_stands next is_next more =
      let p = case_there in
      record { fact = formula_at g.bank.now f; at = last_known g.bank.now old new f next more is_next; formed = p.part_formed; opened = p.opened_is }

-- ---- guarded formulas

pub has_terms_at : (b : Forms) (os : List Origin) (i : ℕ) (o : Origin) → slice_get os i ≡ Some o → HasOrigins b os → HasTerms b o.terms.items
has_terms_at b [] i o e h = none_is o e
has_terms_at b (x ∷ os) zero o e h = let same : x ≡ o = cc in subst (λ (y : Origin). HasTerms b y.terms.items) same h.1
has_terms_at b (x ∷ os) (suc i) o e h = has_terms_at b os i o e h.2

pub guarded_makes : (cs : List ClassTree) (g : Given) (number : ℕ) (f : Formula) (is : IsGuardedAt cs g number f) (o : Origin) → slice_get g.origins.now number ≡ Some o →
    (premises : List Formula) (goal : Formula) (known : List Formula) (place : ℕ) → slice_get known place ≡ Some is.guarded.guard → (line : tree.Line) → line ≡ line_from (origin_at g.bank.now o) place → (x : Formula) → x ≡ is.guarded.body →
    Makes cs premises goal known line x
guarded_makes cs g number f is o at premises goal known place there line line_is x says =
    let same = some_same (slice_get g.origins.now number) is.origin o is.at at in
    subst (λ (y : Formula). Makes cs premises goal known line y) (sym says)
    (subst (λ (l : tree.Line). Makes cs premises goal known l is.guarded.body) (ap (λ (q : Origin). line_from (origin_at g.bank.now q) place) same ∙ sym line_is) (is.guarded.makes premises goal known place there))
