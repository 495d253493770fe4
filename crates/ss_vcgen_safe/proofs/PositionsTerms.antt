-- Terms for what is meant: a new constant that has the value, or the one term.
use Rattle.std.proofs.Common.{◌≡◌, List, [], Bool, true, false, refl, sym, ◌∙◌}
use Rattle.std.proofs.lemmas.Bool.{false≢true}
use Rattle.ss_core.specs.Tree.{ClassTree}
use Rattle.ss_store_rules.specs.Store.{Object}
use Rattle.ss_store_rules.specs.declared.Value.{Value as ObjectValue}
use Rattle.ss_store_rules.specs.declared.Value.TheVariants as value
use Rattle.ss_logic.specs.declared.Sort.{Sort}
use Rattle.ss_logic.specs.declared.Sort.TheVariants as sort
use Rattle.ss_logic.specs.Values.{IsNumbered, Table, Value, whole, truth, thing, store, as_store, sort_of_value, Structure}
use Rattle.ss_logic.specs.Terms.{Term, value_of}
use Rattle.ss_logic.specs.Formulas.{True}
use Rattle.ss_logic.proofs.Truth.{neg_true, closed_value}
use Rattle.ss_logic.specs.Shapes.{equal}
use Rattle.ss_logic.specs.Express.{Meant, One, Either, Says, choices, over, said}
use Rattle.ss_logic_means.specs.Means.{standing, Denotes}
use Rattle.ss_logic_means.specs.Sorts.{HasSort, HaveSort}
use Rattle.ss_logic_means.proofs.Denoting.{over_means, said_means}
use Rattle.ss_vcgen_heaps.specs.Positions.{Position, Walk, raised, has_truth_of, has_value, new_term, with_new, define, with_term, term_for}
use Rattle.ss_sound_outcomes.specs.Points.{Point}
use Rattle.ss_vcgen_safe.specs.At.{IsAlike, Stays, HasValue, Agrees}
use Rattle.ss_vcgen_safe.proofs.Alike.{rises_new, alike_self, alike_twice, alike_lower, none_numbered, new_agrees}
use Rattle.ss_vcgen_safe.proofs.Keeps.{assumed}

-- ---- values of runs

-- no value of a run is a store
pub standing_numbered : (v : ObjectValue) → IsNumbered (as_store (standing v))
standing_numbered (value.Int n) = none_numbered
standing_numbered (value.Bool b) = none_numbered
standing_numbered (value.Obj o) = none_numbered
standing_numbered value.Null = none_numbered

-- ---- a constant with the value

module _ (cs : List ClassTree) (m : Structure) (c : Term) (x : Meant) where
  equal_true : (v : Value) → value_of cs m [] c ≡ v → Denotes cs m [] x v → True cs m [] (over x (λ t. equal c t))
  equal_true v is d = (over_means cs m [] x (λ t. equal c t) v true d (λ t h. (λ y. refl, λ y. is ∙ sym h))).1 refl

  truth_true : (b : Bool) → value_of cs m [] c ≡ truth b → Denotes cs m [] x (truth b) → True cs m [] (has_truth_of c (said x))
  truth_true true is d = λ none. none.0 (is, ((said_means cs m [] x true d).1 refl, tt))
  truth_true false is d = λ none. none.1.0 (is, (neg_true cs m [] (said x) (λ t. false≢true ((said_means cs m [] x false d).0 t)), tt))

  -- what is assumed of a constant with the value of what is meant is true
  pub value_true : (s : Sort) (v : Value) → sort_of_value v ≡ s → value_of cs m [] c ≡ v → Denotes cs m [] x v → True cs m [] (has_value s c x)
  value_true sort.Truth (truth b) e is d = truth_true b is d
  value_true sort.Truth (whole n) e is d = let no : ⊥ = cc in absurd no
  value_true sort.Truth (thing t) e is d = let no : ⊥ = cc in absurd no
  value_true sort.Truth (store h) e is d = let no : ⊥ = cc in absurd no
  value_true sort.Store v e is d = equal_true v is d
  value_true sort.Whole v e is d = equal_true v is d
  value_true sort.Rest v e is d = equal_true v is d

-- ---- at a position

-- In some structure that is alike the position k' agrees, and the term has the value there.
pub record HasTerm (w : Walk) (before : List Object) (table : Table) (m : Structure) (k k' : Position) (p : Point) (s : Sort) (t : Term) (v : Value) : Type 0 where
  pub m' : Structure
  pub alike : IsAlike k.next m m'
  pub agrees : Agrees w before table m' k' p
  pub is : Stays k'.next m' (HasValue w.program.classes t v)
  pub sorted : HasSort w.program.classes [] s t

module _ (w : Walk) (before : List Object) (table : Table) (m : Structure) (k : Position) (p : Point) (s : Sort) (v : Value) (numbered : IsNumbered (as_store v)) (of : sort_of_value v ≡ s) (g : Agrees w before table m k p) where
  pub defined_at : (x : Meant) → Stays k.next m (λ m'. Denotes w.program.classes m' [] x v) → HasTerm w before table m k (define s x k) p s (new_term s k) v
  defined_at x d =
      let z = new_agrees w before table m s k v p numbered of g in
      record {
        m' = z.m';
        alike = z.alike;
        agrees =
            assumed w before table z.m' p (has_value s (new_term s k) x) (with_new s k)
            (λ m'' a. value_true w.program.classes m'' (new_term s k) x s v of (z.is m'' a [])
            (d m'' (alike_twice k.next m z.m' m'' z.alike (alike_lower k.next (raised s k.next) z.m' m'' (rises_new s k.next) a))))
            z.agrees;
        is = z.is;
        sorted = (refl, refl);
      }

  -- what is meant has a term with its value
  pub term_at : (x : Meant) → HaveSort w.program.classes [] s (choices x) → Stays k.next m (λ m'. Denotes w.program.classes m' [] x v) → HasTerm w before table m k (with_term s x k) p s (term_for s x k) v
  term_at (One t) h d = record {
    m' = m;
    alike = alike_self k.next m;
    agrees = g;
    is = λ m' a e. closed_value w.program.classes m' e t h.1.1 ∙ (d m' a).agree.0 tt;
    sorted = h.1;
  }
  term_at (Either xs) h d = defined_at (Either xs) d
  term_at (Says f) h d = defined_at (Says f) d
