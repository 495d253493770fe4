-- Expressions at a position at which the run is: where their obligations are valid, they have values.
use Rattle.std.proofs.Common.{◌≡◌, ℕ, List, [], ◌∷◌, length, Bool, true, ◌||◌, Ok, refl, sym, ◌∙◌, ap, subst, ⊎_elim, arith}
use Rattle.std.specs.Prelude.{Option, Some, None, is_some, slice_get, unwrap_or}
use Rattle.std.specs.List.{list_all}
use Rattle.std.proofs.lemmas.Bool.{false≢true, and_parts, or_cases, leb-true}
use Rattle.std.proofs.lemmas.Option.{slice_get_past}
use Rattle.ss_core.specs.declared.names.Ty.{Ty}
use Rattle.ss_core.specs.Tree.{ClassTree, ExprTree}
use Rattle.ss_store_rules.specs.declared.Value.{Value as ObjectValue}
use Rattle.ss_store_rules.specs.declared.Value.TheVariants as value
use Rattle.ss_store_rules.specs.Numbers.{Outcome}
use Rattle.ss_store_rules.specs.Store.{Object}
use Rattle.ss_store_rules.specs.Good.{IsGood}
use Rattle.ss_store_rules.specs.Admissible.{invariants_hold}
use Rattle.ss_store_rules.specs.Assigned.{reads_assigned}
use Rattle.ss_store_rules.specs.Formed.{IsFormed}
use Rattle.ss_store_rules.specs.Locals.{local_types, is_bound}
use Rattle.ss_store_rules.specs.Types.{type_of, in_code, code_type, Words, is_condition}
use Rattle.ss_store_rules.specs.Values.{Setting, setting, local_value}
use Rattle.ss_store_rules.specs.Values as run
use Rattle.ss_machine_rules.specs.Steps.{values_of}
use Rattle.ss_machine_typed.specs.Settings.{IsGoodSetting}
use Rattle.ss_machine_typed.proofs.Sound.{value_sound}
use Rattle.ss_machine_good.specs.Known.{IsTrueOf, AreAssigned, WasReady}
use Rattle.ss_machine_good.proofs.Steps.{code_typed}
use Rattle.ss_logic.specs.Values.{Heap, Table, Structure}
use Rattle.ss_logic.specs.Formulas.{Formula, Hold, AllTrue, formulas_from}
use Rattle.ss_logic.specs.Objects.{objects_of}
use Rattle.ss_logic.specs.Express.{meant, choices, element_sort}
use Rattle.ss_logic_means.specs.Means.{standing, Denotes, Means}
use Rattle.ss_logic_means.specs.Scenes.{setting_of}
use Rattle.ss_logic_means.specs.Sorts.{HasSort, HaveSort, IsSortedAmong}
use Rattle.ss_logic_means.proofs.Contracts.{typed_without}
use Rattle.ss_logic_means.proofs.Everywhere.{plainly_from}
use Rattle.ss_logic_means.proofs.Expressed.{expressed}
use Rattle.ss_vcgen_heaps.specs.Parts.{parts}
use Rattle.ss_vcgen_heaps.specs.Positions.{Position, Walk, site, context_at, meant_at, evaluate, evaluate_all, holds_at}
use Rattle.ss_vcgen_heaps.specs.Obligations.{AreValid}
use Rattle.ss_vcgen_safe.specs.Reading.{formulas_of, IsRead}
use Rattle.ss_vcgen_safe.specs.Placed.{HaveValues, HaveSorts}
use Rattle.ss_vcgen_safe.proofs.Placed.{position_stands, position_sorted}
use Rattle.ss_vcgen_safe.proofs.Read.{read_value, condition_means}
use Rattle.ss_sound_outcomes.specs.Points.{Activation, Point, scene}
use Rattle.ss_vcgen_safe.specs.At.{IsAlike, Stays, activation, IsAt, Rises}
use Rattle.ss_vcgen_safe.proofs.Alike.{rises_self, rises_twice, alike_self, alike_twice, alike_lower}
use Rattle.ss_vcgen_safe.proofs.PositionsArguments.{context_like}
use Rattle.ss_vcgen_safe.proofs.Keeps.{checked_parts}
use Rattle.ss_vcgen_safe.proofs.Leads.{leads_evaluate, leads_evaluate_all}
use Rattle.ss_vcgen_safe.proofs.PositionsJoins.{typed_sort}
use Rattle.ss_vcgen_safe.proofs.Same.{IsLike, like_twice, same_evaluate, same_evaluate_all, at_like}
use Rattle.ss_vcgen_safe.specs.Values.{HasMeaning, HaveMeanings, IsEvaluated, AreEvaluated}

-- ---- small things

hold_all : (cs : List ClassTree) (m : Structure) (fs : List Formula) → Hold cs m fs → AllTrue cs m [] (formulas_from fs)
hold_all cs m [] h = tt
hold_all cs m (f ∷ fs) h = (h.0, hold_all cs m fs h.1)

is_some_type : (o : Option Ty) → is_some o ≡ true → (t : Ty) × (o ≡ Some t)
is_some_type None h = absurd (false≢true h)
is_some_type (Some t) h = (t, refl)

same_value_of : (o : Outcome) (u v : ObjectValue) → o ≡ Ok u → o ≡ Ok v → u ≡ v
same_value_of o u v e f = cc

-- ---- the same context

-- a meaning goes on at a position of the same context
pub meaning_on : (w : Walk) (m m' : Structure) (k k' : Position) (e : ExprTree) (v : ObjectValue) → IsLike k k' → Rises k.next k'.next → IsAlike k.next m m' → HasMeaning w m k e v → HasMeaning w m' k' e v
meaning_on w m m' k k' e v l r a h = record {
  is = λ m'' b. subst (λ c. Denotes w.program.classes m'' [] (meant e c) (standing v)) (sym (context_like w k k' l)) (h.is m'' (alike_twice k.next m m' m'' a (alike_lower k.next k'.next m' m'' r b)));
  sorted = subst (λ c. HaveSort w.program.classes [] (element_sort (code_type w.program.classes w.body e)) (choices (meant e c))) (sym (context_like w k k' l)) h.sorted;
  of = h.of;
}

pub meanings_on : (w : Walk) (m m' : Structure) (k k' : Position) (es : List ExprTree) (vs : List ObjectValue) → IsLike k k' → Rises k.next k'.next → IsAlike k.next m m' → HaveMeanings w m k es vs → HaveMeanings w m' k' es vs
meanings_on w m m' k k' [] [] l r a h = tt
meanings_on w m m' k k' [] (v ∷ vs) l r a h = absurd h
meanings_on w m m' k k' (e ∷ es) [] l r a h = absurd h
meanings_on w m m' k k' (e ∷ es) (v ∷ vs) l r a h = (meaning_on w m m' k k' e v l r a h.0, meanings_on w m m' k k' es vs l r a h.1)

-- ---- at a position

module _ (w : Walk) (before : List Object) (table : Table) (formed : IsFormed w.program) (xs : ℕ → Bool) (m : Structure) where
  abbrev cs : List ClassTree
  cs = w.program.classes

  abbrev a : Activation
  a = activation w before table

  abbrev among : ℕ → Bool
  among x = xs x || is_bound w.body x

  module _ (k : Position) (p : Point) (is : IsAt w before table xs m k p) where
    abbrev now : Heap
    now = is.agrees.store_is.heap

    abbrev former : Heap
    former = is.agrees.entry.heap

    pub setting_is : (m' : Structure) → IsAlike k.next m m' → setting_of m' (context_at w k) now former p.locals ≡ scene a p
    setting_is m' alike =
        ap (λ t. setting cs (objects_of cs t now) (objects_of cs t former) p.locals) (alike.table ∙ is.agrees.table_is)
        ∙ ap (λ s. setting cs s (objects_of cs table former) p.locals) is.agrees.store_is.objects
        ∙ ap (λ s. setting cs p.store s p.locals) is.agrees.entry.objects

    -- what the expressions of the body may rely on
    pub good_at : IsGoodSetting (scene a p) (local_types w.body) w.body.flags.ctor
    good_at = record {
      chain = formed.chain;
      beside = formed.beside;
      store = is.sound.store;
      entry = subst (λ s. IsGood cs (invariants_hold cs) s) is.agrees.entry.objects is.agrees.entry.good.objects;
      older = is.sound.grown.older;
      count = is.sound.locals.count;
      types = is.sound.locals.types;
      ready = is.sound.locals.ready;
    }

    no_bound : (x : ℕ) (v : ObjectValue) → is_bound w.body x ≡ true → slice_get p.locals x ≡ Some v → ⊥
    no_bound x v h there =
        let far = leb-true (length (local_types w.body)) x h in
        let count = is.sound.locals.count in
        let none = slice_get_past p.locals x (omega (arith, far, count)) in
        cc

    have_values : (m' : Structure) → IsAlike k.next m m' → HaveValues cs m' among k.locals p.locals
    have_values m' alike x v asked there = ⊎_elim
        (λ h.
        let t = is.terms x h in
        (t.0, t.1, λ e. (is.agrees.locals x t.0 t.1).is m' alike e ∙ ap (λ o. standing (unwrap_or o value.Null)) there))
        (λ h. absurd (no_bound x v h there))
        (or_cases (xs x) (is_bound w.body x) asked)

    pub reads_at : (m' : Structure) → IsAlike k.next m m' → IsRead w.body xs k.known m' (context_at w k) now former p.locals []
    reads_at m' alike =
        let same = sym (setting_is m' alike) in
        record {
          types = refl;
          good = subst (λ s. IsGoodSetting s (local_types w.body) w.body.flags.ctor) same good_at;
          was_ready = subst (λ s. WasReady w.body.flags.ctor s) same is.sound.was_ready;
          assigned_so = subst (λ s. AreAssigned w.body xs s) same is.assigned;
          known_so = subst (λ s. IsTrueOf w.body.flags.ctor k.known s) same is.known;
          stands =
              position_stands w k among m' now former p.locals (λ e. is.agrees.store_is.is m' alike e) (λ e. is.agrees.entry.is m' alike e) (is.agrees.count ∙ sym is.sound.locals.count)
              (have_values m' alike);
          bound = refl;
        }

    have_sorts : HaveSorts cs among k.locals (local_types w.body)
    have_sorts x t asked there = ⊎_elim
        (λ h.
        let u = is.terms x h in
        (u.0, u.1, subst (λ o. HasSort cs [] (element_sort o) u.0) there (is.agrees.locals x u.0 u.1).sorted))
        (λ h. absurd (let far = leb-true (length (local_types w.body)) x h in let none = slice_get_past (local_types w.body) x far in let no : ⊥ = cc in no))
        (or_cases (xs x) (is_bound w.body x) asked)

    pub sorted_at : IsSortedAmong among (context_at w k) []
    sorted_at = position_sorted w k among is.agrees.store_is.sorted is.agrees.entry.sorted is.agrees.count have_sorts

    meaning_sorted : (e : ExprTree) → reads_assigned w.body xs e ≡ true → is_some (code_type cs w.body e) ≡ true → HaveSort cs [] (element_sort (code_type cs w.body e)) (choices (meant_at w e k))
    meaning_sorted e reads typed =
        let plain = typed_without cs w.body in_code e typed in
        let t = is_some_type (code_type cs w.body e) typed in
        let same : type_of cs (local_types w.body) e ≡ code_type cs w.body e = code_typed cs w.body e t.0 t.1 ∙ sym t.1 in
        subst (λ o. HaveSort cs [] (element_sort o) (choices (meant_at w e k))) same (expressed among e (context_at w k) [] sorted_at (plainly_from among e reads plain.0) plain.1 (λ _. refl)).1

    -- an expression of code whose obligations are valid
    pub evaluated : (e : ExprTree) → reads_assigned w.body xs e ≡ true → is_some (code_type cs w.body e) ≡ true → AreValid cs (evaluate w e k).listed → IsEvaluated w before table xs m k p e
    evaluated e reads typed valid =
        let ps = parts e (site w) k.known (context_at w k) in
        let checked = checked_parts w before table m p ps k valid is.agrees in
        let plain = typed_without cs w.body in_code e typed in
        let read = λ (m' : Structure) (b : IsAlike k.next m m'). read_value w.body xs k.known m' (context_at w k) now former p.locals [] (reads_at m' b) e reads plain.0 plain.1 (hold_all cs m' (formulas_of ps) (checked.0 m' b)) in
        let self = alike_self k.next m in
        let first = read m self in
        let has : run.value_of e (scene a p) ≡ Ok first.0 = ap (run.value_of e) (sym (setting_is m self)) ∙ first.1 in
        let t = is_some_type (code_type cs w.body e) typed in
        record {
          value = first.0;
          is = has;
          at = at_like w before table xs m m k (evaluate w e k) p (same_evaluate w e k).like checked.1 is;
          means = record {
            is = λ m' b.
                let there = read m' b in
                subst (λ v. Denotes cs m' [] (meant_at w e k) (standing v)) (same_value_of (run.value_of e (scene a p)) there.0 first.0 (ap (run.value_of e) (sym (setting_is m' b)) ∙ there.1) has) there.2;
            sorted = meaning_sorted e reads typed;
            of = typed_sort cs p.store t.0 first.0 (value_sound e (scene a p) (local_types w.body) w.body.flags.ctor good_at t.0 first.0 (code_typed cs w.body e t.0 t.1) has) ∙ ap element_sort (sym t.1);
          };
        }

  -- expressions, one after the other
  pub evaluated_all : (es : List ExprTree) (k : Position) (p : Point) → IsAt w before table xs m k p → list_all (reads_assigned w.body xs) es ≡ true → list_all (λ e. is_some (code_type cs w.body e)) es ≡ true → AreValid cs (evaluate_all w es k).listed →
      AreEvaluated w before table xs m k p es
  evaluated_all [] k p is reads typed valid = record { values = []; are = refl; at = is; mean = tt; still = tt }
  evaluated_all (e ∷ es) k p is reads typed valid =
      let r = and_parts (reads_assigned w.body xs e) (list_all (reads_assigned w.body xs) es) reads in
      let t = and_parts (is_some (code_type cs w.body e)) (list_all (λ e. is_some (code_type cs w.body e)) es) typed in
      let k' = evaluate w e k in
      let first = evaluated k p is e r.0 t.0 ((leads_evaluate_all w es k').listed valid) in
      let rest = evaluated_all es k' p first.at r.1 t.1 valid in
      let same = same_evaluate w e k in
      let over = same_evaluate_all w es k' in
      let end = evaluate_all w es k' in
      let back : IsLike k' k = record { locals = sym same.like.locals; store = sym same.like.store; guard = sym same.like.guard; known = sym same.like.known } in
      record {
        values = first.value ∷ rest.values;
        are = ap (λ o. run.and_then o (λ v. run.and_then (values_of es (scene a p)) (λ vs. Ok (v ∷ vs)))) first.is ∙ ap (λ o. run.and_then o (λ vs. Ok (first.value ∷ vs))) rest.are;
        at = rest.at;
        mean = (first.means, meanings_on w m m k' k es rest.values back (subst (λ n. Rises n k.next) (sym same.next) (rises_self k.next)) (alike_self k'.next m) rest.mean);
        still = (meaning_on w m m k end e first.value (like_twice k k' end same.like over.like) (rises_twice k.next k'.next end.next (leads_evaluate w e k).rises (leads_evaluate_all w es k').rises) (alike_self k.next m) first.means, rest.still);
      }

  -- a condition of code is true exactly where it holds
  pub condition_at : (k : Position) (p : Point) → IsAt w before table xs m k p → (words : Words) (e : ExprTree) → is_condition cs w.body words e ≡ true → reads_assigned w.body xs e ≡ true →
      Stays k.next m (λ m'. Means cs m' [] (holds_at w k e) (run.holds e (scene a p)))
  condition_at k p is words e typed reads m' b =
      subst (λ s. Means cs m' [] (holds_at w k e) (run.holds e s)) (setting_is k p is m' b)
      (condition_means w.body xs k.known m' (context_at w k) (now k p is) (former k p is) p.locals [] (reads_at k p is m' b) words e typed reads)
