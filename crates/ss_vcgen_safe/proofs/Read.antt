-- What is asked of a body's expressions is what the proofs about parts ask.
use Rattle.std.proofs.Common.{◌≡◌, ℕ, List, [], ◌∷◌, map, length, Bool, true, ◌||◌, Ok, Err, refl, sym, ◌∙◌, ap, subst, ⊎_elim}
use Rattle.std.specs.Prelude.{is_some, slice_get, Result}
use Rattle.std.specs.List.{list_all}
use Rattle.std.proofs.lemmas.Bool.{false≢true, and_parts, or_cases, leb-true}
use Rattle.std.proofs.lemmas.Option.{slice_get_past}
use Rattle.ss_core.specs.Tree.{ExprTree, BodyTree}
use Rattle.ss_store_rules.specs.declared.Value.{Value as ObjectValue}
use Rattle.ss_store_rules.specs.declared.Undefined.{Undefined}
use Rattle.ss_store_rules.specs.Numbers.{Outcome}
use Rattle.ss_store_rules.specs.Assigned.{reads_assigned}
use Rattle.ss_store_rules.specs.Locals.{local_types, is_bound}
use Rattle.ss_store_rules.specs.NonNull.{Known, is_non_null_type}
use Rattle.ss_store_rules.specs.Types.{is_bool, type_of, Words, is_condition}
use Rattle.ss_store_rules.specs.Values.{local_value}
use Rattle.ss_store_rules.specs.Values as run
use Rattle.ss_machine_rules.specs.Steps.{values_of}
use Rattle.ss_machine_good.specs.Known.{IsNotNull}
use Rattle.ss_logic.specs.declared.Sort.{Sort}
use Rattle.ss_logic.specs.Values.{Heap, Value, Structure}
use Rattle.ss_logic.specs.Formulas.{True, is_well_formed}
use Rattle.ss_logic.specs.Express.{Context, meant, defined, holds_formula}
use Rattle.ss_logic_means.specs.Means.{standing, Means, Denotes}
use Rattle.ss_logic_means.specs.Scenes.{setting_of, has_no_default}
use Rattle.ss_logic_means.specs.Sorts.{IsSortedAmong}
use Rattle.ss_logic_means.proofs.Denoting.{R, All}
use Rattle.ss_logic_means.proofs.Everywhere.{plainly_from}
use Rattle.ss_logic_means.proofs.Translating.{translated}
use Rattle.ss_logic_means.proofs.Invariants as plain
use Rattle.ss_logic_means.proofs.Contracts.{condition_typed}
use Rattle.ss_logic_means.proofs.Stated.{plain_condition_formed}
use Rattle.ss_vcgen_heaps.specs.Parts.{parts}
use Rattle.ss_vcgen_safe.specs.Reading.{formulas_of, site_in, HasTrueParts, AllHaveTrueParts, IsRead, AllDenote}
use Rattle.ss_vcgen_safe.proofs.ValuesOfParts.{each_true, true_each, value_of_all}
use Rattle.ss_vcgen_safe.proofs.Among.{parts_among}
use Rattle.ss_vcgen_safe.proofs.KnownParts.{Sees}
use Rattle.ss_vcgen_safe.proofs.Enough.{enough}

module _ (b : BodyTree) (assigned : ℕ → Bool) (k : Known) (m : Structure) (c : Context) (now entry : Heap) (locals : List ObjectValue) (e : List Value) (r : IsRead b assigned k m c now entry locals e) where
  abbrev S : run.Setting
  S = setting_of m c now entry locals

  abbrev among : ℕ → Bool
  among x = assigned x || is_bound b x

  -- a bound name has no type among those of the body
  filled : (x : ℕ) → among x ≡ true → is_non_null_type (slice_get (local_types b) x) ≡ true → IsNotNull (local_value S x)
  filled x asked typed =
      ⊎_elim
      (λ is. r.assigned_so x is typed)
      (λ bound. let past = slice_get_past (local_types b) x (leb-true (length (local_types b)) x bound) in absurd (false≢true (sym (ap is_non_null_type past) ∙ typed)))
      (or_cases (assigned x) (is_bound b x) asked)

  sees : Sees (local_types b) b.flags.ctor among k S c.types
  sees = record {
    good = r.good;
    was_ready = r.was_ready;
    filled = λ x asked typed. filled x asked (subst (λ ts. is_non_null_type (slice_get ts x) ≡ true) r.types typed);
    known = r.known_so;
    fits = λ x typed. subst (λ ts. is_non_null_type (slice_get ts x) ≡ true) (sym r.types) typed;
  }

  pub all_parts : (x : ExprTree) → reads_assigned b assigned x ≡ true → has_no_default x ≡ true → is_some (type_of c.classes c.types x) ≡ true → HasTrueParts b k m e c x → All c.classes m e (defined x c)
  all_parts x reads none is a = enough b (local_types b) b.flags.ctor among m now entry x c locals k sees e r.stands r.bound (plainly_from among x reads none) is a

  pub read_value : (x : ExprTree) → reads_assigned b assigned x ≡ true → has_no_default x ≡ true → is_some (type_of c.classes c.types x) ≡ true → HasTrueParts b k m e c x →
      (v : ObjectValue) × (run.value_of x S ≡ Ok v) × Denotes c.classes m e (meant x c) (standing v)
  read_value x reads none is a =
      value_of_all c.classes m e (defined x c) (meant x c) (run.value_of x S) (translated among m now entry x c locals b.flags.ctor r.good e r.stands (plainly_from among x reads none) is (λ _. r.bound)) (all_parts x reads none is a)

  pub read_values : (xs : List ExprTree) → list_all (reads_assigned b assigned) xs ≡ true → list_all has_no_default xs ≡ true → list_all (λ x. is_some (type_of c.classes c.types x)) xs ≡ true → AllHaveTrueParts b k m e c xs →
      (vs : List ObjectValue) × (values_of xs S ≡ Ok vs) × AllDenote c.classes m e (map (λ x. meant x c) xs) vs
  read_values [] reads none is a = ([], refl, tt)
  read_values (x ∷ xs) reads none is a =
      let p = and_parts (reads_assigned b assigned x) (list_all (reads_assigned b assigned) xs) reads in
      let q = and_parts (has_no_default x) (list_all has_no_default xs) none in
      let t = and_parts (is_some (type_of c.classes c.types x)) (list_all (λ y. is_some (type_of c.classes c.types y)) xs) is in
      let first = read_value x p.0 q.0 t.0 a.0 in
      let rest = read_values xs p.1 q.1 t.1 a.1 in (
        first.0 ∷ rest.0,
        ap (λ o. run.and_then o (λ v. run.and_then (values_of xs S) (λ vs. Ok (v ∷ vs)))) first.1 ∙ ap (λ o. run.and_then o (λ vs. Ok (first.0 ∷ vs))) rest.1,
        (first.2, rest.2),
      )

  -- ---- and back

  pub value_parts : (x : ExprTree) → reads_assigned b assigned x ≡ true → has_no_default x ≡ true → is_some (type_of c.classes c.types x) ≡ true → (v : ObjectValue) → run.value_of x S ≡ Ok v →
      HasTrueParts b k m e c x × Denotes c.classes m e (meant x c) (standing v)
  value_parts x reads none is v has =
      let whole = subst (λ o. R c.classes m e (defined x c) (meant x c) o) has (translated among m now entry x c locals b.flags.ctor r.good e r.stands (plainly_from among x reads none) is (λ _. r.bound)) in
      let site = site_in c.classes b in (
        true_each c.classes m e (formulas_of (parts x site k c)) (parts_among site x k c (λ f. True c.classes m e f) (each_true c.classes m e (defined x c) whole.0)),
        whole.1,
      )

  split : (o : Outcome) (os : Result (List ObjectValue) Undefined) (ws : List ObjectValue) → run.and_then o (λ v. run.and_then os (λ vs. Ok (v ∷ vs))) ≡ Ok ws →
      (v : ObjectValue) × (vs : List ObjectValue) × (o ≡ Ok v) × (os ≡ Ok vs) × (v ∷ vs ≡ ws)
  split (Ok v) (Ok vs) ws h = (v, vs, refl, refl, cc)
  split (Ok v) (Err u) ws h = absurd (let no : ⊥ = cc in no)
  split (Err u) os ws h = absurd (let no : ⊥ = cc in no)

  pub values_parts : (xs : List ExprTree) → list_all (reads_assigned b assigned) xs ≡ true → list_all has_no_default xs ≡ true → list_all (λ x. is_some (type_of c.classes c.types x)) xs ≡ true → (vs : List ObjectValue) → values_of xs S ≡ Ok vs →
      AllHaveTrueParts b k m e c xs × AllDenote c.classes m e (map (λ x. meant x c) xs) vs
  values_parts [] reads none is [] h = (tt, tt)
  values_parts [] reads none is (v ∷ vs) h = absurd (let no : ⊥ = cc in no)
  values_parts (x ∷ xs) reads none is ws h =
      let p = and_parts (reads_assigned b assigned x) (list_all (reads_assigned b assigned) xs) reads in
      let q = and_parts (has_no_default x) (list_all has_no_default xs) none in
      let t = and_parts (is_some (type_of c.classes c.types x)) (list_all (λ y. is_some (type_of c.classes c.types y)) xs) is in
      let each = split (run.value_of x S) (values_of xs S) ws h in
      let first = value_parts x p.0 q.0 t.0 each.0 each.2 in
      let rest = values_parts xs p.1 q.1 t.1 each.1 each.3 in
      ((first.0, rest.0), subst (λ vs. AllDenote c.classes m e (map (λ y. meant y c) (x ∷ xs)) vs) each.4 (first.1, rest.1))

  -- ---- conditions of code

  pub condition_means : (w : Words) (x : ExprTree) → is_condition c.classes b w x ≡ true → reads_assigned b assigned x ≡ true → Means c.classes m e (holds_formula x c) (run.holds x S)
  condition_means w x is reads =
      let stated = condition_typed c.classes b w x is in
      plain.condition_means among m now entry x c locals b.flags.ctor r.good e r.stands (plainly_from among x reads stated.0) (subst (λ ts. is_bool (type_of c.classes ts x) ≡ true) (sym r.types) stated.1) r.bound

-- the formula of a condition of code is well formed
pub condition_sorted : (b : BodyTree) (assigned : ℕ → Bool) (c : Context) (bound : List Sort) → c.types ≡ local_types b → IsSortedAmong (λ x. assigned x || is_bound b x) c bound → length bound ≡ c.bound → (w : Words) (x : ExprTree) → is_condition c.classes b w x ≡ true → reads_assigned b assigned x ≡ true →
    is_well_formed c.classes bound (holds_formula x c) ≡ true
condition_sorted b assigned c bound types st at w x is reads =
    let stated = condition_typed c.classes b w x is in
    let typed = subst (λ ts. is_bool (type_of c.classes ts x) ≡ true) (sym types) stated.1 in
    plain_condition_formed (λ y. assigned y || is_bound b y) c bound st at x reads stated.0 typed
