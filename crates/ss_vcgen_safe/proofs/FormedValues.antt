-- Expressions of code at a position: what they mean has the sort of their type, and their parts are well formed.
use Rattle.std.proofs.Common.{◌≡◌, ℕ, List, [], ◌∷◌, map, length, Bool, true, false, ◌||◌, refl, sym, subst, arith, ⊎_elim}
use Rattle.std.specs.Prelude.{Option, Some, None, is_some, slice_get, if◌then◌else◌}
use Rattle.std.specs.List.{list_all}
use Rattle.std.proofs.lemmas.Bool.{false≢true, and_parts, or_cases, leb-true}
use Rattle.std.proofs.lemmas.Option.{slice_get_within}
use Rattle.ss_core.specs.declared.names.Ty.{Ty}
use Rattle.ss_core.specs.declared.names.Ty.TheVariants as ty
use Rattle.ss_core.specs.Tree.{ClassTree, ExprTree}
use Rattle.ss_core.specs.Chain.{below, is_declared}
use Rattle.ss_store_rules.specs.Assigned.{reads_assigned}
use Rattle.ss_store_rules.specs.Locals.{local_types, is_bound, everywhere}
use Rattle.ss_store_rules.specs.Types.{is_int, is_bool, has_class, has_fitting, type_of, Words, in_code, is_allowed, code_type, is_condition}
use Rattle.ss_store_rules.specs.Typed.{is_exposable}
use Rattle.ss_machine_typed.proofs.Sound.{class_of_type}
use Rattle.ss_logic.specs.declared.Sort.TheVariants as sort
use Rattle.ss_logic.specs.Terms.{sort_of_type}
use Rattle.ss_logic.specs.Express.{said, element_sort}
use Rattle.ss_logic_means.specs.Sorts.{HasSort, AreWellFormed, IsSortedAmong}
use Rattle.ss_logic_means.proofs.Contracts.{condition_typed, typed_without}
use Rattle.ss_logic_means.proofs.Everywhere.{plainly_from}
use Rattle.ss_logic_means.proofs.Expressed.{expressed}
use Rattle.ss_logic_means.proofs.Forming.{F, C, said_formed}
use Rattle.ss_logic_means.proofs.Operating.{bool_sort}
use Rattle.ss_logic_means.proofs.Stated.{plain_condition_formed}
use Rattle.ss_vcgen_heaps.specs.Parts.{parts}
use Rattle.ss_vcgen_heaps.specs.Positions.{Position, Walk, term_or_null, local_term, site, context_at, meant_at, evaluate, evaluate_all, holds_at}
use Rattle.ss_vcgen_safe.specs.Placed.{HaveSorts}
use Rattle.ss_vcgen_safe.proofs.Placed.{position_sorted}
use Rattle.ss_vcgen_safe.proofs.ValuesOfParts.{parts_formed}
use Rattle.ss_vcgen_safe.specs.At.{HaveTerms}
use Rattle.ss_vcgen_safe.proofs.Same.{IsLike, same_evaluate}
use Rattle.ss_vcgen_safe.specs.Places.{IsFormedAt}
use Rattle.ss_vcgen_safe.proofs.FormedSteps.{checked_parts}

-- ---- small things

-- a type that is there is that of the expression
type_there : (c : Bool) (o : Option Ty) → is_some (if c then o else None) ≡ true → o ≡ (if c then o else None)
type_there true o h = refl
type_there false o h = absurd (false≢true h)

pub bool_some : (o : Option Ty) → is_bool o ≡ true → is_some o ≡ true
bool_some None h = absurd (false≢true h)
bool_some (Some t) h = refl

pub int_some : (o : Option Ty) → is_int o ≡ true → is_some o ≡ true
int_some None h = absurd (false≢true h)
int_some (Some t) h = refl

pub fitting_some : (cs : List ClassTree) (o : Option Ty) (t : Ty) → has_fitting cs o t ≡ true → is_some o ≡ true
fitting_some cs None t h = absurd (false≢true h)
fitting_some cs (Some a) t h = refl

-- what has the type of a class has one, of the sort of references
pub class_some : (test : ℕ → Bool) (o : Option Ty) → has_class test o ≡ true → (is_some o ≡ true) × (element_sort o ≡ sort.Rest)
class_some test None h = absurd (false≢true h)
class_some test (Some ty.Int) h = absurd (false≢true h)
class_some test (Some ty.Bool) h = absurd (false≢true h)
class_some test (Some ty.Null) h = absurd (false≢true h)
class_some test (Some (ty.Ref t n)) h = (refl, refl)

-- the terms are there at a position with the same locals
pub terms_like : (xs : ℕ → Bool) (k k' : Position) → IsLike k k' → HaveTerms xs k.locals → HaveTerms xs k'.locals
terms_like xs k k' l h = subst (HaveTerms xs) (sym l.locals) h

-- ---- at a position

module _ (w : Walk) (entry : HasSort w.program.classes [] sort.Store w.entry) (xs : ℕ → Bool) where
  abbrev cs : List ClassTree
  cs = w.program.classes

  abbrev among : ℕ → Bool
  among x = xs x || is_bound w.body x

  module _ (k : Position) (is : IsFormedAt w k) (have : HaveTerms xs k.locals) where
    have_sorts : HaveSorts cs among k.locals (local_types w.body)
    have_sorts x t asked there = ⊎_elim
        (λ h. let u = have x h in (u.0, u.1, is.locals x t u.0 there u.1))
        (λ h.
        let past = leb-true (length (local_types w.body)) x h in
        let within = slice_get_within (local_types w.body) x t there in
        absurd (omega (arith, past, within)))
        (or_cases (xs x) (is_bound w.body x) asked)

    sorted_here : IsSortedAmong among (context_at w k) []
    sorted_here = position_sorted w k among is.store entry is.count have_sorts

    -- an assigned local has a term of its sort
    pub operand_sorted : (x : ℕ) (a : Ty) → xs x ≡ true → slice_get (local_types w.body) x ≡ Some a → HasSort cs [] (sort_of_type a) (local_term x k)
    operand_sorted x a asked there = let u = have x asked in subst (λ o. HasSort cs [] (sort_of_type a) (term_or_null o)) (sym u.1) (is.locals x a u.0 there u.1)

    pub exposed_sorted : (x t : ℕ) → xs x ≡ true → is_exposable cs w.body x t ≡ true → HasSort cs [] sort.Rest (local_term x k)
    exposed_sorted x t asked h =
        let p = and_parts (is_declared cs t) (has_class (λ c. below cs c t) (slice_get (local_types w.body) x)) h in
        let class = class_of_type (λ c. below cs c t) (slice_get (local_types w.body) x) p.1 in
        operand_sorted x (ty.Ref (record { 0 = class.0 }) class.1) asked class.2

    pub meaning_sorted : (e : ExprTree) → reads_assigned w.body xs e ≡ true → is_some (code_type cs w.body e) ≡ true → C cs [] (element_sort (code_type cs w.body e)) (meant_at w e k)
    meaning_sorted e reads of =
        let plain = typed_without cs w.body in_code e of in
        subst (λ o. C cs [] (element_sort o) (meant_at w e k)) (type_there (everywhere (is_allowed w.body in_code) e) (type_of cs (local_types w.body) e) of)
        (expressed among e (context_at w k) [] sorted_here (plainly_from among e reads plain.0) plain.1 (λ _. refl)).1

    pub evaluated : (e : ExprTree) → reads_assigned w.body xs e ≡ true → is_some (code_type cs w.body e) ≡ true → IsFormedAt w (evaluate w e k)
    evaluated e reads of =
        let plain = typed_without cs w.body in_code e of in
        checked_parts w (parts e (site w) k.known (context_at w k)) k (parts_formed among e (context_at w k) [] sorted_here refl reads plain.0 plain.1 (site w) k.known) is

    -- a condition of code, and a test
    pub condition_formed : (words : Words) (e : ExprTree) → reads_assigned w.body xs e ≡ true → is_condition cs w.body words e ≡ true → F cs [] (holds_at w k e)
    condition_formed words e reads h = let c = condition_typed cs w.body words e h in plain_condition_formed among (context_at w k) [] sorted_here refl e reads c.0 c.1

    pub conditions_formed : (words : Words) (es : List ExprTree) → list_all (reads_assigned w.body xs) es ≡ true → list_all (is_condition cs w.body words) es ≡ true → AreWellFormed cs [] (map (holds_at w k) es)
    conditions_formed words [] reads h = tt
    conditions_formed words (e ∷ es) reads h =
        let p = and_parts (reads_assigned w.body xs e) (list_all (reads_assigned w.body xs) es) reads in
        let q = and_parts (is_condition cs w.body words e) (list_all (is_condition cs w.body words) es) h in
        (condition_formed words e p.0 q.0, conditions_formed words es p.1 q.1)

    pub test_formed : (e : ExprTree) → reads_assigned w.body xs e ≡ true → is_condition cs w.body in_code e ≡ true → F cs [] (said (meant_at w e k))
    test_formed e reads h =
        let m = meaning_sorted e reads (bool_some (code_type cs w.body e) h) in
        said_formed cs [] (meant_at w e k) (subst (λ s. C cs [] s (meant_at w e k)) (bool_sort (code_type cs w.body e) h) m)

  pub evaluated_all : (es : List ExprTree) (k : Position) → list_all (reads_assigned w.body xs) es ≡ true → list_all (λ e. is_some (code_type cs w.body e)) es ≡ true → IsFormedAt w k → HaveTerms xs k.locals → IsFormedAt w (evaluate_all w es k)
  evaluated_all [] k reads types is have = is
  evaluated_all (e ∷ es) k reads types is have =
      let p = and_parts (reads_assigned w.body xs e) (list_all (reads_assigned w.body xs) es) reads in
      let q = and_parts (is_some (code_type cs w.body e)) (list_all (λ x. is_some (code_type cs w.body x)) es) types in
      let k' = evaluate w e k in
      evaluated_all es k' p.1 q.1 (evaluated k is have e p.0 q.0) (terms_like xs k k' (same_evaluate w e k).like have)
