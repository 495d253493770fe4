-- The context of a contract stands for the locals of the body, at its entry and where it is left.
use Rattle.std.proofs.Common.{◌≡◌, ℕ, zero, suc, ◌+◌, List, [], ◌∷◌, ◌++◌, length, map, true, ◌&&◌, Option, Some, None, refl, sym, ◌∙◌, ap, subst, append_assoc, length-append, arith}
use Rattle.std.specs.Prelude.{slice_get, slice_set, option_to_list, is_some, if◌then◌else◌}
use Rattle.std.proofs.lemmas.Bool.{and_parts}
use Rattle.ss_core.specs.declared.names.Ty.{Ty}
use Rattle.ss_core.specs.Tree.{ClassTree, ExprTree, IntExpr, BoolExpr, NullExpr, LocalExpr, FieldExpr, ElementExpr, LengthExpr, NegateExpr, NotExpr, BinaryExpr, ImpliesExpr, IffExpr, IsExpr, AsExpr, CastExpr, OldExpr, QuantifiedExpr, StateExpr, OwnersExpr, DefaultExpr, LocalTree, BodyTree}
use Rattle.ss_store_rules.specs.declared.Value.{Value as ObjectValue}
use Rattle.ss_store_rules.specs.Store.{default_value}
use Rattle.ss_store_rules.specs.Values as run
use Rattle.ss_store_rules.specs.Locals.{types_of, argument_types, local_types, result_number}
use Rattle.ss_machine_rules.specs.States.{put}
use Rattle.ss_machine_typed.specs.Settings.{IsGoodSetting}
use Rattle.ss_logic.specs.Values.{Structure}
use Rattle.ss_logic.specs.Terms.{Term, sort_of_type, same_sort, sort_of, is_well_sorted, have_sorts, value_of}
use Rattle.ss_logic.specs.Formulas.{is_well_formed}
use Rattle.ss_logic.proofs.Truth.{closed_value, equal_sorts}
use Rattle.ss_logic.specs.Express.{Meant, One, Either, Says, choices, Context, meant_or_null, holds_formula}
use Rattle.ss_store_rules.specs.Values.{subject}
use Rattle.ss_logic_means.specs.Means.{standing, Means}
use Rattle.ss_logic_means.specs.Scenes.{setting_of, Stands, HaveValues, Stay, is_stated, Settled}
use Rattle.ss_logic_means.specs.Sorts.{HasSort, IsSorted}
use Rattle.ss_logic_means.proofs.Denoting.{one_denotes}
use Rattle.ss_logic_means.proofs.Everywhere.{all_locals, speaks_all}
use Rattle.ss_logic_means.proofs.Sorting.{sort_more}
use Rattle.ss_logic_means.proofs.Contexts.{sorted_among}
use Rattle.ss_logic_means.proofs.Contracts.{all_stated_mean}
use Rattle.ss_logic_means.proofs.Stated.{condition_formed}
use Rattle.ss_vcgen_heaps.specs.Contracts.{defaults_meant}
use Rattle.ss_sound_outcomes.specs.Outcomes.{locals_at_exit}
use Rattle.ss_logic_tables.specs.Spans.{IsArgument, AreArguments}
use Rattle.ss_logic_tables.specs.Conditions.{ContractTerms, ContractValues, contract_of, contract_setting_of, IsContract}
use Rattle.ss_logic_tables.proofs.Standing.{argument_value, argument_sort, as_many_values, as_many_types, more_arguments, map_more, front_arguments, sorted_store}

-- ---- arguments that are terms

pub term_argument : (cs : List ClassTree) (m : Structure) (t : Ty) (u : Term) (v : ObjectValue) → HasSort cs [] (sort_of_type t) u → value_of cs m [] u ≡ standing v → IsArgument cs m t (One u) v
term_argument cs m t u v h is = record {
  settled = tt;
  sorted = λ bound. (refl, sort_more cs [] bound (sort_of_type t) u h, tt);
  denotes = λ e. one_denotes cs m e u (standing v) (closed_value cs m e u h.1 ∙ is);
}

pub terms_arguments : (cs : List ClassTree) (m : Structure) (ts : List Ty) (us : List Term) (vs : List ObjectValue) → have_sorts cs (map sort_of_type ts) us ≡ true → HaveValues cs m us vs → AreArguments cs m ts (map One us) vs
terms_arguments cs m [] [] [] h k = tt
terms_arguments cs m (t ∷ ts) (u ∷ us) (v ∷ vs) h k =
    let p = and_parts (same_sort (sort_of cs [] u) (sort_of_type t) && is_well_sorted cs [] u) (have_sorts cs (map sort_of_type ts) us) h in
    let q = and_parts (same_sort (sort_of cs [] u) (sort_of_type t)) (is_well_sorted cs [] u) p.0 in
    (term_argument cs m t u v (equal_sorts (sort_of cs [] u) (sort_of_type t) q.0, k.0) k.1, terms_arguments cs m ts us vs p.1 k.2)
terms_arguments cs m [] (u ∷ us) vs h k = absurd (let no : ⊥ = cc in no)
terms_arguments cs m (t ∷ ts) [] vs h k = absurd (let no : ⊥ = cc in no)
terms_arguments cs m [] [] (v ∷ vs) h k = absurd k
terms_arguments cs m (t ∷ ts) (u ∷ us) [] h k = absurd k

-- what it means stays what it is after more bound names
argument_stays : (cs : List ClassTree) (m : Structure) (t : Ty) (x : Meant) (v : ObjectValue) → IsArgument cs m t x v → Stay cs m [] (choices x)
argument_stays cs m t (One u) v i = (λ vs. closed_value cs m vs u (i.sorted []).1.1, tt)
argument_stays cs m t (Either xs) v i = absurd i.settled
argument_stays cs m t (Says f) v i = (λ vs. refl, (λ vs. refl, tt))

arguments_stay : (cs : List ClassTree) (m : Structure) (ts : List Ty) (xs : List Meant) (vs : List ObjectValue) → AreArguments cs m ts xs vs → (k : ℕ) → Stay cs m [] (choices (meant_or_null (slice_get xs k)))
arguments_stay cs m [] [] [] a k = (λ vs. refl, tt)
arguments_stay cs m (t ∷ ts) (x ∷ xs) (v ∷ vs) a zero = argument_stays cs m t x v a.0
arguments_stay cs m (t ∷ ts) (x ∷ xs) (v ∷ vs) a (suc k) = arguments_stay cs m ts xs vs a.1 k
arguments_stay cs m ts xs vs a k = absurd a

-- ---- the result of a body

set_last : (xs : List ObjectValue) (n : ℕ) (u v : ObjectValue) → n ≡ length xs → slice_set (xs ++ u ∷ []) n v ≡ xs ++ v ∷ []
set_last [] zero u v e = refl
set_last [] (suc n) u v e = absurd (omega (arith, e))
set_last (x ∷ xs) zero u v e = absurd (omega (arith, e))
set_last (x ∷ xs) (suc n) u v e = ap (λ ys. x ∷ ys) (set_last xs n u v (omega (arith, e)))

same_length : (ts : List Ty) → length (map default_value ts) ≡ length ts
same_length [] = refl
same_length (t ∷ ts) = ap suc (same_length ts)

module _ (cs : List ClassTree) (m : Structure) (b : BodyTree) (xs : List Meant) (vs : List ObjectValue) (a : AreArguments cs m (argument_types b) xs vs) where
  abbrev L : List Ty
  L = types_of b.locals

  abbrev front : AreArguments cs m (argument_types b ++ L) (xs ++ defaults_meant L) (vs ++ map default_value L)
  front = front_arguments cs m b xs vs a

  -- where a body without a result is left
  pub plain_exit_arguments : b.result ≡ None → (v : ObjectValue) → AreArguments cs m (local_types b) (xs ++ defaults_meant L ++ []) (locals_at_exit b vs v)
  plain_exit_arguments none v =
      let base : AreArguments cs m ((argument_types b ++ L) ++ []) (xs ++ defaults_meant L ++ []) ((vs ++ map default_value L) ++ []) =
      more_arguments cs m (argument_types b ++ L) [] (xs ++ defaults_meant L) [] (vs ++ map default_value L) [] front tt in
      let apart : (vs ++ map default_value L) ++ [] ≡ vs ++ map default_value (L ++ []) = append_assoc vs (map default_value L) [] ∙ ap (λ ys. vs ++ ys) (sym (map_more L [])) in
      subst (λ (r : Option Ty). AreArguments cs m ((argument_types b ++ L) ++ option_to_list r) (xs ++ defaults_meant L ++ []) (put (if is_some r then Some (result_number b) else None) v (vs ++ map default_value (L ++ option_to_list r)))) (sym none)
      (subst (λ ys. AreArguments cs m ((argument_types b ++ L) ++ []) (xs ++ defaults_meant L ++ []) ys) apart base)

  -- and one with a result
  pub exit_arguments : (t : Ty) → b.result ≡ Some t → (x : Meant) (v : ObjectValue) → IsArgument cs m t x v → AreArguments cs m (local_types b) (xs ++ defaults_meant L ++ x ∷ []) (locals_at_exit b vs v)
  exit_arguments t is x v i =
      let P = vs ++ map default_value L in
      let base : AreArguments cs m ((argument_types b ++ L) ++ t ∷ []) (xs ++ defaults_meant L ++ x ∷ []) (P ++ v ∷ []) =
      more_arguments cs m (argument_types b ++ L) (t ∷ []) (xs ++ defaults_meant L) (x ∷ []) P (v ∷ []) front (i, tt) in
      let apart : P ++ default_value t ∷ [] ≡ vs ++ map default_value (L ++ t ∷ []) = append_assoc vs (map default_value L) (default_value t ∷ []) ∙ ap (λ ys. vs ++ ys) (sym (map_more L (t ∷ []))) in
      let many = as_many_values cs m (argument_types b) xs vs a in
      let kinds = as_many_types cs m (argument_types b) xs vs a in
      let others : length L ≡ length b.locals = local_count b.locals in
      let all : length P ≡ length vs + length (map default_value L) = length-append vs (map default_value L) in
      let rest = same_length L in
      let number : result_number b ≡ length P = omega (arith, many, kinds, others, all, rest) in
      let set : slice_set (vs ++ map default_value (L ++ t ∷ [])) (result_number b) v ≡ P ++ v ∷ [] = ap (λ ys. slice_set ys (result_number b) v) (sym apart) ∙ set_last P (result_number b) (default_value t) v number in
      subst (λ (r : Option Ty). AreArguments cs m ((argument_types b ++ L) ++ option_to_list r) (xs ++ defaults_meant L ++ x ∷ []) (put (if is_some r then Some (result_number b) else None) v (vs ++ map default_value (L ++ option_to_list r)))) (sym is)
      (subst (λ ys. AreArguments cs m ((argument_types b ++ L) ++ t ∷ []) (xs ++ defaults_meant L ++ x ∷ []) ys) (sym set) base)
    where
      local_count : (ls : List LocalTree) → length (types_of ls) ≡ length ls
      local_count [] = refl
      local_count (l ∷ ls) = ap suc (local_count ls)

-- ---- conditions

module _ (cs : List ClassTree) (m : Structure) (b : BodyTree) (t : ContractTerms) (v : ContractValues) (k : IsContract cs m b t v) where
  abbrev C : Context
  C = contract_of cs b t

  pub contract_stands : Stands m C v.now v.entry v.locals []
  contract_stands = record {
    now = λ vs. closed_value cs m vs t.now k.now.0 ∙ k.now.1;
    entry = λ vs. closed_value cs m vs t.entry k.entry.0 ∙ k.entry.1;
    count = as_many_values cs m (local_types b) C.locals v.locals k.meant;
    locals = λ x u there vs. argument_value cs m (local_types b) C.locals v.locals k.meant x u there vs;
  }

  contract_sorted : IsSorted C []
  contract_sorted = record {
    now = sorted_store cs m t.now v.now k.now;
    entry = sorted_store cs m t.entry v.entry k.entry;
    count = as_many_types cs m (local_types b) C.locals v.locals k.meant;
    locals = λ x a there more. argument_sort cs m (local_types b) C.locals v.locals k.meant x a there more;
  }

  contract_settled : (x : ExprTree) → Settled m [] C x
  contract_settled (DefaultExpr p d) = arguments_stay cs m (local_types b) C.locals v.locals k.meant (subject d)
  contract_settled (IntExpr p i) = tt
  contract_settled (BoolExpr p i) = tt
  contract_settled (NullExpr p) = tt
  contract_settled (LocalExpr p x) = tt
  contract_settled (FieldExpr p e f) = tt
  contract_settled (ElementExpr p e i) = tt
  contract_settled (LengthExpr p e) = tt
  contract_settled (NegateExpr p e) = tt
  contract_settled (NotExpr p e) = tt
  contract_settled (BinaryExpr p o x y) = tt
  contract_settled (ImpliesExpr p x y) = tt
  contract_settled (IffExpr p x y) = tt
  contract_settled (IsExpr p e t) = tt
  contract_settled (AsExpr p e t) = tt
  contract_settled (CastExpr p t n e) = tt
  contract_settled (OldExpr p e) = tt
  contract_settled (QuantifiedExpr p q n l k e) = tt
  contract_settled (StateExpr p w e) = tt
  contract_settled (OwnersExpr p w x y) = tt

  -- each stated condition is a well formed formula
  pub contract_formed : (x : ExprTree) → is_stated cs (local_types b) x ≡ true → is_well_formed cs [] (holds_formula x C) ≡ true
  contract_formed x is = condition_formed all_locals C [] (sorted_among all_locals C [] contract_sorted) refl x (speaks_all x) is

  contract_setting : IsGoodSetting (setting_of m C v.now v.entry v.locals) (local_types b) b.flags.ctor
  contract_setting = record {
    chain = k.chain;
    beside = k.beside;
    store = k.good_now;
    entry = k.good_entry;
    older = k.older;
    count = k.locals.count;
    types = k.locals.types;
    ready = k.locals.ready;
  }

  -- and it is true exactly where the condition holds
  pub contract_means : (x : ExprTree) → is_stated cs (local_types b) x ≡ true → Means cs m [] (holds_formula x C) (run.holds x (contract_setting_of cs m v))
  contract_means x is = all_stated_mean m v.now v.entry x C v.locals b.flags.ctor contract_setting [] contract_stands refl is (contract_settled x)
