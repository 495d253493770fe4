-- Locals at the entry of a body and where one is assigned, and state 0.
use Rattle.std.proofs.Common.{◌≡◌, ℕ, zero, suc, ℤ, List, [], ◌∷◌, ◌++◌, map, length, true, false, ◌+◌, Some, set, refl, sym, ◌∙◌, ap, subst, arith, inl, inr, ◌⊎◌, ⊎_elim, length-append, append_assoc}
use Rattle.std.specs.Prelude.{slice_get, slice_set, option_to_list}
use Rattle.std.specs.List.{list_all}
use Rattle.std.proofs.lemmas.Bool.{false≢true, true≢false, and_parts, or_right, eqb-true}
use Rattle.std.proofs.lemmas.List.{length-map, length-set}
use Rattle.ss_core.specs.declared.names.Ty.{Ty}
use Rattle.ss_core.specs.declared.names.Ty.TheVariants as ty
use Rattle.ss_core.specs.Tree.{ClassTree, LocalTree, BodyTree}
use Rattle.ss_core.specs.Chain.{is_declared, IsChain}
use Rattle.ss_core.proofs.Chains.{below_self, sub_self}
use Rattle.ss_store_rules.specs.declared.Value.{Value}
use Rattle.ss_store_rules.specs.declared.Value.TheVariants as value
use Rattle.ss_store_rules.specs.declared.Owner.TheVariants as owner
use Rattle.ss_store_rules.specs.Store.{Object, default_value}
use Rattle.ss_store_rules.specs.Numbers.{fits}
use Rattle.ss_store_rules.specs.Changes.{is_array}
use Rattle.ss_store_rules.specs.Good.{has_type, IsReady, numbers, IsFine, IsGood}
use Rattle.ss_store_rules.specs.Admissible.{invariants_hold}
use Rattle.ss_store_rules.specs.States.{AreGoodLocals}
use Rattle.ss_store_rules.specs.Locals.{types_of, argument_types, local_types}
use Rattle.ss_store_rules.specs.Admitted.{input_array, first_store, main_arguments, first_locals}
use Rattle.ss_store_rules.specs.Formed.{is_int_array, are_main_params, IsMain}
use Rattle.ss_store_rules.proofs.Admissible.{IsFree-invariants}
use Rattle.ss_store_rules.proofs.Arrays.{below_array, array_not_declared}
use Rattle.ss_store_rules.proofs.Defaults.{default_typed, default_ready, no_fields}
use Rattle.ss_machine_typed.specs.Inputs.{IsInput}
use Rattle.ss_machine_typed.specs.Settings.{AreGoodArguments}

-- ---- locals at entry

default_at : (us : List Ty) (x : ℕ) (t : Ty) (v : Value) → slice_get us x ≡ Some t → slice_get (map default_value us) x ≡ Some v → v ≡ default_value t
default_at [] x t v e h = absurd (let no : ⊥ = cc in no)
default_at (u ∷ us) zero t v e h = let a : u ≡ t = cc in let b : default_value u ≡ v = cc in sym b ∙ ap default_value a
default_at (u ∷ us) (suc x) t v e h = default_at us x t v e h

-- each value is an argument, or a default of its type
either_default : (ts us : List Ty) (vs : List Value) → length vs ≡ length ts → (x : ℕ) (t : Ty) (v : Value) → slice_get (ts ++ us) x ≡ Some t → slice_get (vs ++ map default_value us) x ≡ Some v →
    ((slice_get ts x ≡ Some t) × (slice_get vs x ≡ Some v)) ⊎ (v ≡ default_value t)
either_default [] us [] n x t v e h = inr (default_at us x t v e h)
either_default [] us (w ∷ vs) n x t v e h = absurd (omega (arith, n))
either_default (u ∷ ts) us [] n x t v e h = absurd (omega (arith, n))
either_default (u ∷ ts) us (w ∷ vs) n zero t v e h = inl (e, h)
either_default (u ∷ ts) us (w ∷ vs) n (suc x) t v e h = either_default ts us vs (omega (arith, n)) x t v e h

either_ready : (us : List Ty) (vs : List Value) (x : ℕ) (v : Value) → slice_get (vs ++ map default_value us) x ≡ Some v → (slice_get vs x ≡ Some v) ⊎ ((t : Ty) × (v ≡ default_value t))
either_ready [] [] x v h = absurd (let no : ⊥ = cc in no)
either_ready (u ∷ us) [] zero v h = let a : default_value u ≡ v = cc in inr (u, sym a)
either_ready (u ∷ us) [] (suc x) v h = either_ready us [] x v h
either_ready us (w ∷ vs) zero v h = inl h
either_ready us (w ∷ vs) (suc x) v h = either_ready us vs x v h

-- the locals of a body at its entry are good where its arguments are
pub entered_locals : (cs : List ClassTree) (s : List Object) (b : BodyTree) (arguments : List Value) → AreGoodArguments cs s b arguments → AreGoodLocals cs s b (arguments ++ map default_value (types_of b.locals ++ option_to_list b.result))
entered_locals cs s b arguments good = record {
  count = length-append arguments (map default_value others) ∙ count_sum ∙ sym (length-append (argument_types b) others) ∙ ap length (sym grouped);
  types = λ x t v et ev. ⊎_elim (λ a. good.types x t v a.0 a.1) (λ d. rw d (default_typed cs s t)) (either_default (argument_types b) others arguments good.count x t v (subst (λ ts. slice_get ts x ≡ Some t) grouped et) ev);
  ready = λ x v no ev. ⊎_elim (λ a. good.ready x v no a) (λ d. default_ready s d.0 v d.1) (either_ready others arguments x v ev);
}
  where
    others : List Ty
    others = types_of b.locals ++ option_to_list b.result

    grouped : local_types b ≡ argument_types b ++ (types_of b.locals ++ option_to_list b.result)
    grouped = append_assoc (argument_types b) (types_of b.locals) (option_to_list b.result)

    count_sum : length arguments + length (map default_value (types_of b.locals ++ option_to_list b.result)) ≡ length (argument_types b) + length (types_of b.locals ++ option_to_list b.result)
    count_sum = let n = good.count in let m = length-map (types_of b.locals ++ option_to_list b.result) default_value in omega (arith, n, m)

-- ---- an assigned local

set_either : (xs : List Value) (i : ℕ) (v : Value) (j : ℕ) (u : Value) → slice_get (set xs i v) j ≡ Some u → (slice_get xs j ≡ Some u) ⊎ ((j ≡ i) × (v ≡ u))
set_either [] i v j u e = inl e
set_either (x ∷ xs) zero v zero u e = inr (refl, let is : v ≡ u = cc in is)
set_either (x ∷ xs) zero v (suc j) u e = inl e
set_either (x ∷ xs) (suc i) v zero u e = inl e
set_either (x ∷ xs) (suc i) v (suc j) u e = ⊎_elim (λ a. inl a) (λ b. inr (ap suc b.0, b.1)) (set_either xs i v j u e)

-- good locals stay so where one is assigned a ready value of its type
pub put_locals : (cs : List ClassTree) (s : List Object) (b : BodyTree) (locals : List Value) (x : ℕ) (t : Ty) (v : Value) → AreGoodLocals cs s b locals → slice_get (local_types b) x ≡ Some t → has_type cs s t v ≡ true → IsReady s v →
    AreGoodLocals cs s b (slice_set locals x v)
put_locals cs s b locals x t v good at typed ready = record {
  count = length-set locals x v ∙ good.count;
  types = λ y u w et ew. ⊎_elim
      (λ old. good.types y u w et old)
      (λ new. let same : Some t ≡ Some u = sym at ∙ subst (λ i. slice_get (local_types b) i ≡ Some u) new.0 et in
      let is : t ≡ u = cc in
      subst (λ z. has_type cs s z w ≡ true) is (subst (λ z. has_type cs s t z ≡ true) new.1 typed))
      (set_either locals x v y w ew);
  ready = λ y w no ew. ⊎_elim (λ old. good.ready y w no old) (λ new. subst (IsReady s) new.1 ready) (set_either locals x v y w ew);
}

-- ---- state 0

input_typed : (cs : List ClassTree) (s : List Object) (input : List ℤ) → list_all fits input ≡ true → (i : ℕ) (v : Value) → slice_get (map value.Int input) i ≡ Some v → (n : ℤ) × (v ≡ value.Int n) × (fits n ≡ true)
input_typed cs s [] h i v e = absurd (let no : ⊥ = cc in no)
input_typed cs s (n ∷ ns) h zero v e = let is : value.Int n ≡ v = cc in (n, sym is, (and_parts (fits n) (list_all fits ns) h).0)
input_typed cs s (n ∷ ns) h (suc i) v e = input_typed cs s ns (and_parts (fits n) (list_all fits ns) h).1 i v e

input_fine : (cs : List ClassTree) → IsChain cs → (input : List ℤ) → IsInput input → IsFine cs (invariants_hold cs) (first_store input) 0 (input_array input)
input_fine cs chain input is = record {
  invariants = λ u su. IsFree-invariants cs (first_store input) 0 u
      (⊎_elim
      (λ e. subst (λ k. is_declared cs k ≡ false) (sym e) (array_not_declared cs 1 refl))
      (λ e. subst (λ k. is_declared cs k ≡ false) (sym e) refl)
      (below_array cs chain 1 u refl su));
  full = λ e. absurd (false≢true e);
  owned = λ p u own. cc;
  grouped = λ g own. refl;
  reps = λ f v field. cc;
  peers = λ f v field. cc;
  level = below_self cs 1;
  array = λ _. refl;
  owner_allocated = λ p u own. cc;
  group_number = λ g own. let z : 0 ≡ g = group_same own in omega (arith, z);
  values = record {
    class = or_right (is_declared cs 1) (is_array cs 1) refl;
    slots = ap numbers (sym (no_fields cs 1 refl));
    plain = λ no. absurd (true≢false no);
    short = rw (length-map input value.Int) is.short;
    fields = λ f v e. cc;
    elements = λ i v e. let r = input_typed cs (first_store input) input is.numbers i v e in rw (r.1) r.2;
    non_null = λ r f e. cc;
    ready_fields = λ f v e. cc;
    ready_elements = λ i v e. let r = input_typed cs (first_store input) input is.numbers i v e in not_object r.0 v r.1;
  };
}
  where
    group_same : {g : ℕ} → owner.Group 0 ≡ owner.Group g → 0 ≡ g
    group_same {g} e = cc

    not_object : (n : ℤ) (v : Value) → v ≡ value.Int n → IsReady (first_store input) v
    not_object n v e o x is ex = absurd (let no : ⊥ = cc in no)

-- the first store is good
pub first_good : (cs : List ClassTree) → IsChain cs → (input : List ℤ) → IsInput input → IsGood cs (invariants_hold cs) (first_store input)
first_good cs chain input is zero x e = let same : input_array input ≡ x = cc in subst (λ y. IsFine cs (invariants_hold cs) (first_store input) 0 y) same (input_fine cs chain input is)
first_good cs chain input is (suc o) x e = absurd (let no : ⊥ = cc in no)

-- so are the arguments of Main
main_typed : (cs : List ClassTree) (input : List ℤ) (t : Ty) → is_int_array t ≡ true → has_type cs (first_store input) t (value.Obj 0) ≡ true
main_typed cs input ty.Int h = absurd (false≢true h)
main_typed cs input ty.Bool h = absurd (false≢true h)
main_typed cs input ty.Null h = absurd (false≢true h)
main_typed cs input (ty.Ref t n) h = let is = eqb-true t.0 1 h in rw is (sub_self cs 1)

main_arguments_good : (cs : List ClassTree) (input : List ℤ) (params : List LocalTree) → are_main_params params ≡ true → (length (main_arguments params) ≡ length (types_of params))
    × ((x : ℕ) (t : Ty) (v : Value) → slice_get (types_of params) x ≡ Some t → slice_get (main_arguments params) x ≡ Some v → has_type cs (first_store input) t v ≡ true)
    × ((x : ℕ) (v : Value) → slice_get (main_arguments params) x ≡ Some v → IsReady (first_store input) v)
main_arguments_good cs input [] h = (refl, λ x t v et ev. cc, λ x v ev. cc)
main_arguments_good cs input (l ∷ []) h = (refl, typed, ready)
  where
    typed : (x : ℕ) (t : Ty) (v : Value) → slice_get (types_of (l ∷ [])) x ≡ Some t → slice_get (main_arguments (l ∷ [])) x ≡ Some v → has_type cs (first_store input) t v ≡ true
    typed zero t v et ev = let a : l.ty ≡ t = cc in let b : value.Obj 0 ≡ v = cc in rw (← a, ← b) (main_typed cs input l.ty h)
    typed (suc x) t v et ev = absurd (let no : ⊥ = cc in no)

    first_ready : (v : Value) → value.Obj 0 ≡ v → IsReady (first_store input) v
    first_ready v e o x is ex =
        let z : 0 ≡ o = cc in
        let at : slice_get (first_store input) 0 ≡ Some x = subst (λ n. slice_get (first_store input) n ≡ Some x) (sym z) ex in
        let same : input_array input ≡ x = cc in
        ap (λ (y : Object). y.ready) (sym same)

    ready : (x : ℕ) (v : Value) → slice_get (main_arguments (l ∷ [])) x ≡ Some v → IsReady (first_store input) v
    ready zero v ev = first_ready v (let b : value.Obj 0 ≡ v = cc in b)
    ready (suc x) v ev = absurd (let no : ⊥ = cc in no)
main_arguments_good cs input (l ∷ m ∷ ls) h = absurd (false≢true h)

static_arguments : (b : BodyTree) → b.flags.is_static ≡ true → argument_types b ≡ types_of b.params
static_arguments b h = rw h refl

pub main_locals : (cs : List ClassTree) (input : List ℤ) (b : BodyTree) → IsMain b → AreGoodLocals cs (first_store input) b (first_locals b)
main_locals cs input b main =
    let good = main_arguments_good cs input b.params main.params in
    let are = static_arguments b main.static in
    entered_locals cs (first_store input) b (main_arguments b.params) (record {
      count = good.0 ∙ ap length (sym are);
      types = λ x t v et ev. good.1 x t v (subst (λ ts. slice_get ts x ≡ Some t) are et) ev;
      ready = λ x v no ev. good.2 x v ev;
    })
