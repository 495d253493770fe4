-- The context of a frame condition stands for its stores and for the locals of the body at its entry.
use Rattle.std.proofs.Common.{◌≡◌, ℕ, zero, suc, List, [], ◌∷◌, ◌++◌, length, map, true, Some, refl, sym, ◌∙◌, ap, subst, append_assoc}
use Rattle.std.specs.Prelude.{slice_get, option_to_list, Option, None, is_some}
use Rattle.std.proofs.lemmas.Bool.{false≢true}
use Rattle.ss_core.specs.declared.names.Ty.{Ty}
use Rattle.ss_core.specs.declared.names.Ty.TheVariants as ty
use Rattle.ss_core.specs.Tree.{ClassTree, ExprTree, BodyTree}
use Rattle.ss_store_rules.specs.declared.Value.{Value as ObjectValue}
use Rattle.ss_store_rules.specs.Store.{Object, default_value}
use Rattle.ss_store_rules.specs.States.{AreGoodLocals}
use Rattle.ss_store_rules.specs.Types.{is_reference, type_of}
use Rattle.ss_store_rules.specs.Values as run
use Rattle.ss_store_rules.specs.Numbers.{Outcome}
use Rattle.ss_store_rules.specs.Locals.{types_of, argument_types, local_types}
use Rattle.ss_machine_rules.specs.States.{locals_at_entry}
use Rattle.ss_machine_typed.specs.Settings.{IsGoodSetting}
use Rattle.ss_machine_typed.proofs.Older.{locals-older}
use Rattle.ss_machine_typed.proofs.First.{entered_locals}
use Rattle.ss_logic.specs.declared.Sort.{Sort}
use Rattle.ss_logic.specs.declared.Sort.TheVariants as sort
use Rattle.ss_logic.specs.Values.{Heap, Value, Structure, sort_of_value}
use Rattle.ss_logic.specs.Terms.{Term, sort_of_type}
use Rattle.ss_logic.specs.Objects.{objects_of}
use Rattle.ss_logic.proofs.Truth.{closed_value, value_sorted}
use Rattle.ss_logic.specs.Express.{Meant, One, choices, Context, default_of_sort, element_sort, meant_or_null, meant, defined}
use Rattle.ss_logic_means.specs.Means.{standing, Denotes, Reads}
use Rattle.ss_logic_means.specs.Scenes.{setting_of, Stands, IsStoreTerm, has_no_default}
use Rattle.ss_logic_means.specs.Sorts.{HasSort, HaveSort, IsWellExpressed, IsSorted}
use Rattle.ss_logic_means.proofs.Denoting.{one_denotes}
use Rattle.ss_logic_means.proofs.Everywhere.{all_locals, plainly_all}
use Rattle.ss_logic_means.proofs.Standing.{stands_among}
use Rattle.ss_logic_means.proofs.Contexts.{sorted_among}
use Rattle.ss_logic_means.proofs.Translating.{translated}
use Rattle.ss_logic_means.proofs.Expressed.{expressed}
use Rattle.ss_logic_means.proofs.Typed.{gives_reference}
use Rattle.ss_logic_means.proofs.Operations.{Gives}
use Rattle.ss_logic_means.proofs.Classes.{IsReferenceOf}
use Rattle.ss_vcgen_heaps.specs.Contracts.{defaults_meant, no_result}
use Rattle.ss_logic_tables.specs.Spans.{IsArgument, AreArguments, SpanTerms, SpanValues, IsSpan}
use Rattle.ss_logic_tables.proofs.Old.{Inside, old_same}

module _ (cs : List ClassTree) (m : Structure) where
  pub argument_value : (ts : List Ty) (xs : List Meant) (vs : List ObjectValue) → AreArguments cs m ts xs vs → (k : ℕ) (v : ObjectValue) → slice_get vs k ≡ Some v → (e : List Value) →
      Denotes cs m e (meant_or_null (slice_get xs k)) (standing v)
  argument_value [] [] [] a k v is e = absurd (let no : ⊥ = cc in no)
  argument_value (t ∷ ts) (x ∷ xs) (u ∷ vs) a zero v is e = let same : u ≡ v = cc in subst (λ w. Denotes cs m e x (standing w)) same (a.0.denotes e)
  argument_value (t ∷ ts) (x ∷ xs) (u ∷ vs) a (suc k) v is e = argument_value ts xs vs a.1 k v is e
  argument_value ts xs vs a k v is e = absurd a

  pub argument_sort : (ts : List Ty) (xs : List Meant) (vs : List ObjectValue) → AreArguments cs m ts xs vs → (k : ℕ) (t : Ty) → slice_get ts k ≡ Some t → (bound : List Sort) →
      HaveSort cs bound (sort_of_type t) (choices (meant_or_null (slice_get xs k)))
  argument_sort [] [] [] a k t is bound = absurd (let no : ⊥ = cc in no)
  argument_sort (u ∷ ts) (x ∷ xs) (v ∷ vs) a zero t is bound = let same : u ≡ t = cc in subst (λ w. HaveSort cs bound (sort_of_type w) (choices x)) same (a.0.sorted bound)
  argument_sort (u ∷ ts) (x ∷ xs) (v ∷ vs) a (suc k) t is bound = argument_sort ts xs vs a.1 k t is bound
  argument_sort ts xs vs a k t is bound = absurd a

  pub as_many_values : (ts : List Ty) (xs : List Meant) (vs : List ObjectValue) → AreArguments cs m ts xs vs → length xs ≡ length vs
  as_many_values [] [] [] a = refl
  as_many_values (t ∷ ts) (x ∷ xs) (v ∷ vs) a = ap suc (as_many_values ts xs vs a.1)
  as_many_values ts xs vs a = absurd a

  pub as_many_types : (ts : List Ty) (xs : List Meant) (vs : List ObjectValue) → AreArguments cs m ts xs vs → length xs ≡ length ts
  as_many_types [] [] [] a = refl
  as_many_types (t ∷ ts) (x ∷ xs) (v ∷ vs) a = ap suc (as_many_types ts xs vs a.1)
  as_many_types ts xs vs a = absurd a

  pub sorted_store : (s : Term) (h : Heap) → IsStoreTerm cs m s h → HasSort cs [] sort.Store s
  sorted_store s h i = (sym (value_sorted cs m s i.0) ∙ ap sort_of_value i.1, i.0)

  pub more_arguments : (ts us : List Ty) (xs ys : List Meant) (vs ws : List ObjectValue) → AreArguments cs m ts xs vs → AreArguments cs m us ys ws → AreArguments cs m (ts ++ us) (xs ++ ys) (vs ++ ws)
  more_arguments [] us [] ys [] ws a b = b
  more_arguments (t ∷ ts) us (x ∷ xs) ys (v ∷ vs) ws a b = (a.0, more_arguments ts us xs ys vs ws a.1 b)
  more_arguments ts us xs ys vs ws a b = absurd a

  default_argument : (t : Ty) → IsArgument cs m t (One (default_of_sort (sort_of_type t))) (default_value t)
  default_argument ty.Int = record { settled = tt; sorted = λ bound. (refl, (refl, refl), tt); denotes = λ e. one_denotes cs m e _ _ refl }
  default_argument ty.Bool = record { settled = tt; sorted = λ bound. (refl, (refl, refl), tt); denotes = λ e. one_denotes cs m e _ _ refl }
  default_argument ty.Null = record { settled = tt; sorted = λ bound. (refl, (refl, refl), tt); denotes = λ e. one_denotes cs m e _ _ refl }
  default_argument (ty.Ref t n) = record { settled = tt; sorted = λ bound. (refl, (refl, refl), tt); denotes = λ e. one_denotes cs m e _ _ refl }

  pub default_arguments : (ts : List Ty) → AreArguments cs m ts (defaults_meant ts) (map default_value ts)
  default_arguments [] = tt
  default_arguments (t ∷ ts) = (default_argument t, default_arguments ts)

pub map_more : (ts us : List Ty) → map default_value (ts ++ us) ≡ map default_value ts ++ map default_value us
map_more [] us = refl
map_more (t ∷ ts) us = ap (λ vs. default_value t ∷ vs) (map_more ts us)

module _ (cs : List ClassTree) (m : Structure) (b : BodyTree) (xs : List Meant) (vs : List ObjectValue) (a : AreArguments cs m (argument_types b) xs vs) where
  -- the arguments, and the locals at their defaults
  pub front_arguments : AreArguments cs m (argument_types b ++ types_of b.locals) (xs ++ defaults_meant (types_of b.locals)) (vs ++ map default_value (types_of b.locals))
  front_arguments = more_arguments cs m (argument_types b) (types_of b.locals) xs (defaults_meant (types_of b.locals)) vs (map default_value (types_of b.locals)) a (default_arguments cs m (types_of b.locals))

  pub entry_arguments : AreArguments cs m (local_types b) (xs ++ defaults_meant (types_of b.locals) ++ no_result b) (locals_at_entry b vs)
  entry_arguments =
      let L = types_of b.locals in
      let R = option_to_list b.result in
      let apart : (vs ++ map default_value L) ++ map default_value R ≡ locals_at_entry b vs =
      append_assoc vs (map default_value L) (map default_value R) ∙ ap (λ ys. vs ++ ys) (sym (map_more L R)) in
      subst (λ ys. AreArguments cs m (local_types b) (xs ++ defaults_meant L ++ no_result b) ys) apart
      (more_arguments cs m (argument_types b ++ L) R (xs ++ defaults_meant L) (no_result b) (vs ++ map default_value L) (map default_value R) front_arguments (default_arguments cs m R))

module _ (cs : List ClassTree) (m : Structure) (b : BodyTree) (t : SpanTerms) (v : SpanValues) (sp : IsSpan cs m b t v) where
  abbrev pub Locals : List Meant
  Locals = t.arguments ++ defaults_meant (types_of b.locals) ++ no_result b

  abbrev pub Values : List ObjectValue
  Values = locals_at_entry b v.arguments

  -- the context inside `old`, whose store now may be any
  abbrev pub ContextOf : Term → Context
  ContextOf now = Inside cs t.before now (local_types b) Locals 0

  all_arguments : AreArguments cs m (local_types b) Locals Values
  all_arguments = entry_arguments cs m b t.arguments v.arguments sp.arguments

  pub context_stands : Stands m (ContextOf t.after) v.after v.before Values []
  context_stands = record {
    now = λ vs. closed_value cs m vs t.after sp.after.0 ∙ sp.after.1;
    entry = λ vs. closed_value cs m vs t.before sp.before.0 ∙ sp.before.1;
    count = as_many_values cs m (local_types b) Locals Values all_arguments;
    locals = λ x u there vs. argument_value cs m (local_types b) Locals Values all_arguments x u there vs;
  }

  abbrev Given : List Object
  Given = objects_of cs m.table v.before

  abbrev Now : List Object
  Now = objects_of cs m.table v.after

  locals_now : AreGoodLocals cs Now b Values
  locals_now = locals-older cs Given Now sp.older b Values (entered_locals cs Given b v.arguments sp.passed)

  pub span_setting : IsGoodSetting (setting_of m (ContextOf t.after) v.after v.before Values) (local_types b) b.flags.ctor
  span_setting = record {
    chain = sp.chain;
    beside = sp.beside;
    store = sp.good_after;
    entry = sp.good_before;
    older = sp.older;
    count = locals_now.count;
    types = locals_now.types;
    ready = locals_now.ready;
  }

  some_reference : (a : Option Ty) → is_reference a ≡ true → is_some a ≡ true
  some_reference None h = absurd (false≢true h)
  some_reference (Some a) h = refl

  reference_sort : (a : Option Ty) → is_reference a ≡ true → element_sort a ≡ sort.Rest
  reference_sort None h = absurd (false≢true h)
  reference_sort (Some ty.Int) h = absurd (false≢true h)
  reference_sort (Some ty.Bool) h = absurd (false≢true h)
  reference_sort (Some ty.Null) h = refl
  reference_sort (Some (ty.Ref k n)) h = refl

  module _ (x : ExprTree) (none : has_no_default x ≡ true) (is : is_reference (type_of cs (local_types b) x) ≡ true) where
    abbrev pub Outcome_of : Outcome
    Outcome_of = run.value_of x (setting_of m (ContextOf t.after) v.after v.before Values)

    -- what an expression means at the entry is its value there
    pub entry_reads : Reads cs m [] (defined x (ContextOf t.before)) (meant x (ContextOf t.before)) Outcome_of
    entry_reads =
        let same = old_same cs t.before t.after t.before x (local_types b) Locals 0 none in
        let read = translated all_locals m v.after v.before x (ContextOf t.after) Values b.flags.ctor span_setting [] (stands_among all_locals m (ContextOf t.after) v.after v.before Values [] context_stands) (plainly_all x none) (some_reference (type_of cs (local_types b) x) is) (λ _. refl) in
        subst (λ ps. Reads cs m [] ps (meant x (ContextOf t.before)) Outcome_of) same.1 (subst (λ y. Reads cs m [] (defined x (ContextOf t.after)) y Outcome_of) same.0 read)

    pub entry_refers : Gives (IsReferenceOf v.after) Outcome_of
    entry_refers = gives_reference m (setting_of m (ContextOf t.after) v.after v.before Values) v.after refl (local_types b) b.flags.ctor span_setting x is

  pub context_sorted : IsSorted (ContextOf t.before) []
  context_sorted = record {
    now = sorted_store cs m t.before v.before sp.before;
    entry = sorted_store cs m t.before v.before sp.before;
    count = as_many_types cs m (local_types b) Locals Values all_arguments;
    locals = λ x a there more. argument_sort cs m (local_types b) Locals Values all_arguments x a there more;
  }

  pub stores_sorted : (HasSort cs [] sort.Store t.before) × HasSort cs [] sort.Store t.after
  stores_sorted = (sorted_store cs m t.before v.before sp.before, sorted_store cs m t.after v.after sp.after)

  -- its formulas are well formed, and it means objects
  pub entry_expressed : (x : ExprTree) → has_no_default x ≡ true → is_reference (type_of cs (local_types b) x) ≡ true → IsWellExpressed cs [] sort.Rest (defined x (ContextOf t.before)) (meant x (ContextOf t.before))
  entry_expressed x none is =
      subst (λ s. IsWellExpressed cs [] s (defined x (ContextOf t.before)) (meant x (ContextOf t.before))) (reference_sort (type_of cs (local_types b) x) is)
      (expressed all_locals x (ContextOf t.before) [] (sorted_among all_locals (ContextOf t.before) [] context_sorted) (plainly_all x none) (some_reference (type_of cs (local_types b) x) is) (λ _. refl))
