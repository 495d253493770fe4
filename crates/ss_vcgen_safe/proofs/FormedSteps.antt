-- Premises, checks, new constants, locals and stores: a position stays as it is to be.
use Rattle.std.proofs.Common.{◌≡◌, ℕ, zero, suc, ◌+◌, List, [], ◌∷◌, ◌++◌, Bool, true, false, ◌⊎◌, inl, inr, ⊎_elim, refl, sym, ◌∙◌, ap, subst}
use Rattle.std.specs.Prelude.{Option, Some, slice_get, slice_set}
use Rattle.ss_core.specs.declared.names.Kind.{Kind}
use Rattle.ss_core.specs.declared.names.Place.{Place}
use Rattle.ss_core.specs.declared.names.Ty.{Ty}
use Rattle.ss_core.specs.Tree.{ClassTree}
use Rattle.ss_store_rules.specs.Locals.{local_types}
use Rattle.ss_store_rules.specs.NonNull.{Known}
use Rattle.ss_logic.specs.declared.Sort.{Sort}
use Rattle.ss_logic.specs.declared.Sort.TheVariants as sort
use Rattle.ss_logic.specs.Terms.{Term, sort_of_type}
use Rattle.ss_logic.specs.Formulas.{Good, Formula, neg}
use Rattle.ss_logic.specs.Shapes.{equal}
use Rattle.ss_logic.specs.Express.{and_of, truth_term, Meant, One, Either, Says, said}
use Rattle.ss_logic_means.specs.Sorts.{HasSort, AreWellFormed}
use Rattle.ss_logic_means.proofs.Sorting.{formed_one, equal_formed, more_formed}
use Rattle.ss_logic_means.proofs.Forming.{F, C, and_two, or_two, negation, over_formed, said_formed}
use Rattle.ss_vcgen_heaps.specs.Parts.{Part}
use Rattle.ss_vcgen_heaps.specs.Positions.{Obligation, Guard, Always, When, Never, Position, Walk, is_true, good, guard_term, under, side, assume, assume_all, check, check_all, check_unless, check_parts, new_term, with_new, set_local, set_store, with_store, ended, has_value, define, with_term, term_for, first_side, second_side}
use Rattle.ss_vcgen_safe.specs.Reading.{formulas_of}
use Rattle.ss_vcgen_safe.proofs.Leads.{length_set}
use Rattle.ss_vcgen_safe.proofs.Paths.{other_term}
use Rattle.ss_vcgen_safe.specs.Formed.{AreFormed}
use Rattle.ss_vcgen_safe.specs.Places.{IsFormedAt}

-- ---- lists

pub listed_more : (cs : List ClassTree) (os others : List Obligation) → AreFormed cs os → AreFormed cs others → AreFormed cs (os ++ others)
listed_more cs [] others h k = k
listed_more cs (o ∷ os) others h k = (h.0, listed_more cs os others h.1 k)

-- a local is the one that was set, or what it was
set_or_old : (ls : List (Option Term)) (x : ℕ) (t : Term) (y : ℕ) (u : Term) → slice_get (slice_set ls x (Some t)) y ≡ Some (Some u) → ((x ≡ y) × (t ≡ u)) ⊎ (slice_get ls y ≡ Some (Some u))
set_or_old [] x t y u e = inr e
set_or_old (l ∷ ls) zero t zero u e = let same : t ≡ u = cc in inl (refl, same)
set_or_old (l ∷ ls) zero t (suc y) u e = inr e
set_or_old (l ∷ ls) (suc x) t zero u e = inr e
set_or_old (l ∷ ls) (suc x) t (suc y) u e = ⊎_elim (λ h. inl (ap suc h.0, h.1)) (λ h. inr h) (set_or_old ls x t y u e)

-- ---- formulas under guards

module _ (cs : List ClassTree) where
  pub under_guard : (g : Guard) (f : Formula) → F cs [] f → F cs [] (under g f)
  under_guard Always f h = h
  under_guard (When n) f h = or_two cs [] (neg (is_true (guard_term n))) f refl h
  under_guard Never f h = refl

  side_formed : (g : Guard) (n : ℕ) (f : Formula) → F cs [] f → F cs [] (side g n f)
  side_formed Always n f h = or_two cs [] (neg (is_true (guard_term n))) f refl h
  side_formed (When g) n f h = or_two cs [] (neg (is_true (guard_term n))) (and_of (is_true (guard_term g) ∷ f ∷ [])) refl (and_two cs [] (is_true (guard_term g)) f refl h)
  side_formed Never n f h = refl

  -- the term has the value of what is meant
  value_formed : (s : Sort) (t : Term) (m : Meant) → HasSort cs [] s t → C cs [] s m → F cs [] (has_value s t m)
  value_formed sort.Truth t m h k =
      let f = said_formed cs [] m k in
      or_two cs [] (and_of (is_true t ∷ said m ∷ [])) (and_of (equal t (truth_term false) ∷ neg (said m) ∷ []))
      (and_two cs [] (is_true t) (said m) (equal_formed cs [] true sort.Truth t (truth_term true) h (refl, refl)) f)
      (and_two cs [] (equal t (truth_term false)) (neg (said m)) (equal_formed cs [] true sort.Truth t (truth_term false) h (refl, refl)) (negation cs [] (said m) f))
  value_formed sort.Store t m h k = over_formed cs [] sort.Store (λ x. equal t x) (λ x i. equal_formed cs [] true sort.Store t x h i) m k
  value_formed sort.Whole t m h k = over_formed cs [] sort.Whole (λ x. equal t x) (λ x i. equal_formed cs [] true sort.Whole t x h i) m k
  value_formed sort.Rest t m h k = over_formed cs [] sort.Rest (λ x. equal t x) (λ x i. equal_formed cs [] true sort.Rest t x h i) m k

-- ---- positions

module _ (w : Walk) where
  abbrev cs : List ClassTree
  cs = w.program.classes

  pub assumed : (f : Formula) (k : Position) → F cs [] f → IsFormedAt w k → IsFormedAt w (assume f k)
  assumed f k h is = record {
    store = is.store;
    count = is.count;
    locals = is.locals;
    arguments = is.arguments;
    premises = more_formed cs [] k.premises (under k.guard f ∷ []) is.premises (under_guard cs k.guard f h, tt);
    listed = is.listed;
  }

  pub assumed_all : (fs : List Formula) (k : Position) → AreWellFormed cs [] fs → IsFormedAt w k → IsFormedAt w (assume_all fs k)
  assumed_all [] k h is = is
  assumed_all (f ∷ fs) k h is = assumed_all fs (assume f k) h.1 (assumed f k h.0 is)

  pub checked : (kind : Kind) (at : Place) (f : Formula) (k : Position) → F cs [] f → IsFormedAt w k → IsFormedAt w (check w kind at f k)
  checked kind at f k h is =
      let g = under_guard cs k.guard f h in
      record {
        store = is.store;
        count = is.count;
        locals = is.locals;
        arguments = is.arguments;
        premises = more_formed cs [] k.premises (under k.guard f ∷ []) is.premises (g, tt);
        listed = listed_more cs k.listed (record { premises = k.premises; goal = under k.guard f; kind = kind; place = at; body = w.number } ∷ []) is.listed (record { goal = g; premises = is.premises }, tt);
      }

  pub checked_all : (kind : Kind) (at : Place) (fs : List Formula) (k : Position) → AreWellFormed cs [] fs → IsFormedAt w k → IsFormedAt w (check_all w kind at fs k)
  checked_all kind at [] k h is = is
  checked_all kind at (f ∷ fs) k h is = checked_all kind at fs (check w kind at f k) h.1 (checked kind at f k h.0 is)

  pub checked_unless : (known : Bool) (kind : Kind) (at : Place) (f : Formula) (k : Position) → F cs [] f → IsFormedAt w k → IsFormedAt w (check_unless known w kind at f k)
  checked_unless true kind at f k h is = is
  checked_unless false kind at f k h is = checked kind at f k h is

  pub checked_parts : (ps : List Part) (k : Position) → AreWellFormed cs [] (formulas_of ps) → IsFormedAt w k → IsFormedAt w (check_parts w ps k)
  checked_parts [] k h is = is
  checked_parts (p ∷ ps) k h is = checked_parts ps (check w p.kind p.place p.formula k) h.1 (checked p.kind p.place p.formula k h.0 is)

  pub renewed_one : (s : Sort) (k : Position) → IsFormedAt w k → IsFormedAt w (with_new s k)
  renewed_one s k is = record { store = is.store; count = is.count; locals = is.locals; arguments = is.arguments; premises = is.premises; listed = is.listed }

  pub known_formed : (known : Known) (k : Position) → IsFormedAt w k → IsFormedAt w (record k { known = known })
  known_formed known k is = record { store = is.store; count = is.count; locals = is.locals; arguments = is.arguments; premises = is.premises; listed = is.listed }

  pub ended_formed : (k : Position) → IsFormedAt w k → IsFormedAt w (ended k)
  ended_formed k is = record { store = is.store; count = is.count; locals = is.locals; arguments = is.arguments; premises = is.premises; listed = is.listed }

  pub store_set : (s : Term) (k : Position) → HasSort cs [] sort.Store s → IsFormedAt w k → IsFormedAt w (set_store s k)
  store_set s k h is = record { store = h; count = is.count; locals = is.locals; arguments = is.arguments; premises = is.premises; listed = is.listed }

  pub good_formed : (s : Term) → HasSort cs [] sort.Store s → F cs [] (good s)
  good_formed s h = formed_one cs [] true Good sort.Store s refl h

  pub store_changed : (s : Term) (k : Position) → HasSort cs [] sort.Store s → IsFormedAt w k → IsFormedAt w (with_store s k)
  store_changed s k h is = assumed (good s) (set_store s k) (good_formed s h) (store_set s k h is)

  pub local_set : (x : ℕ) (t : Term) (k : Position) → ((a : Ty) → slice_get (local_types w.body) x ≡ Some a → HasSort cs [] (sort_of_type a) t) → IsFormedAt w k → IsFormedAt w (set_local x t k)
  local_set x t k h is = record {
    store = is.store;
    count = length_set k.locals x (Some t) ∙ is.count;
    locals = λ y a u typed there. ⊎_elim
        (λ same. subst (λ z. HasSort cs [] (sort_of_type a) z) same.1 (h a (subst (λ z. slice_get (local_types w.body) z ≡ Some a) (sym same.0) typed)))
        (λ old. is.locals y a u typed old)
        (set_or_old k.locals x t y u there);
    arguments = λ y asked. let o = is.arguments y asked in other_term k.locals x t y o.0 o.1;
    premises = is.premises;
    listed = is.listed;
  }

  -- ---- terms for what is meant

  pub new_sorted : (s : Sort) (k : Position) → HasSort cs [] s (new_term s k)
  new_sorted s k = (refl, refl)

  pub defined_formed : (s : Sort) (m : Meant) (k : Position) → C cs [] s m → IsFormedAt w k → IsFormedAt w (define s m k)
  defined_formed s m k h is = assumed (has_value s (new_term s k) m) (with_new s k) (value_formed cs s (new_term s k) m (new_sorted s k) h) (renewed_one s k is)

  pub termed : (s : Sort) (m : Meant) (k : Position) → C cs [] s m → IsFormedAt w k → IsFormedAt w (with_term s m k)
  termed s (One t) k h is = is
  termed s (Either xs) k h is = defined_formed s (Either xs) k h is
  termed s (Says f) k h is = defined_formed s (Says f) k h is

  pub term_sorted : (s : Sort) (m : Meant) (k : Position) → C cs [] s m → HasSort cs [] s (term_for s m k)
  term_sorted s (One t) k h = h.1
  term_sorted s (Either xs) k h = new_sorted s k
  term_sorted s (Says f) k h = new_sorted s k

  -- ---- branches

  pub first_formed : (f : Formula) (known : Known) (k : Position) → F cs [] f → IsFormedAt w k → IsFormedAt w (first_side f known k)
  first_formed f known k h is = record {
    store = is.store;
    count = is.count;
    locals = is.locals;
    arguments = is.arguments;
    premises =
        more_formed cs [] k.premises (side k.guard k.next.truths f ∷ side k.guard (k.next.truths + 1) (neg f) ∷ []) is.premises
        (side_formed cs k.guard k.next.truths f h, (side_formed cs k.guard (k.next.truths + 1) (neg f) (negation cs [] f h), tt));
    listed = is.listed;
  }

  -- the locals and the store are those at the test, and the rest goes on from the first side
  pub second_formed : (g : Guard) (known : Known) (k first : Position) → IsFormedAt w k → IsFormedAt w first → IsFormedAt w (second_side g known k first)
  second_formed g known k first is went = record { store = is.store; count = is.count; locals = is.locals; arguments = is.arguments; premises = went.premises; listed = went.listed }
