-- At both ends of a call: what is passed to the method that serves it, what that asks, and what it promises.
use Rattle.std.proofs.Common.{◌≡◌, ℕ, zero, suc, ◌+◌, ◌<◌, List, [], ◌∷◌, ◌++◌, map, length, drop, Bool, true, false, not, ◌&&◌, ◌||◌, Option, Some, eqb, inl, inr, ◌⊎◌, refl, sym, ◌∙◌, ap, subst, arith, ⊎_elim}
use Rattle.std.specs.Prelude.{slice_get, unwrap_or, flat_map, is_some, if◌then◌else◌, nat_lt, option_to_list}
use Rattle.std.specs.List.{list_all, list_any}
use Rattle.std.proofs.lemmas.Bool.{true≢false, and_parts, ltb-true, or_cases, or_left, or_right}
use Rattle.std.proofs.lemmas.List.{length-append, length-map}
use Rattle.std.proofs.lemmas.List.Folds.{list_any-append}
use Rattle.std.proofs.lemmas.List.Concat.{flat_map-cons}
use Rattle.ss_core.specs.declared.names.Ty.{Ty}
use Rattle.ss_core.specs.declared.names.Ty.TheVariants as ty
use Rattle.ss_core.specs.Tree.{ExprTree, LocalTree, NamedTree, FieldOf, AllOf, ElementsOf, UptoOf, BodyTree, CoreTree}
use Rattle.ss_core.specs.Chain.{below, NoAlso}
use Rattle.ss_core.proofs.Chains.{sub-below}
use Rattle.ss_store_rules.specs.declared.Value.{Value}
use Rattle.ss_store_rules.specs.declared.Value.TheVariants as value
use Rattle.ss_store_rules.specs.Store.{Object}
use Rattle.ss_store_rules.specs.Reads.{no_object, object_at, is_object_with, is_pair_upto}
use Rattle.ss_store_rules.specs.Values.{setting}
use Rattle.ss_store_rules.specs.Locals.{types_of, this_types, argument_types, local_types, argument_count, result_number, is_argument, is_result, is_bound}
use Rattle.ss_store_rules.specs.Types.{in_requires, in_ensures}
use Rattle.ss_store_rules.specs.Typed.{is_named}
use Rattle.ss_store_rules.specs.Tables.{normal_named, is_at_level, is_shared}
use Rattle.ss_store_rules.specs.Good.{has_type}
use Rattle.ss_store_rules.specs.NonNull.{is_non_null_type}
use Rattle.ss_store_rules.proofs.Owners.{not_true}
use Rattle.ss_machine_rules.specs.declared.Named.{Named}
use Rattle.ss_machine_rules.specs.declared.Named.TheVariants as named
use Rattle.ss_machine_rules.specs.Frame.{value_at_entry, subject_of, named_by, captured_values, is_in_group_with, is_owned_by_new, this_of, is_kept}
use Rattle.ss_machine_rules.specs.States.{ToCall, locals_at_entry}
use Rattle.ss_machine_rules.specs.Steps.{all_hold}
use Rattle.ss_machine_typed.specs.Older.{IsOlder}
use Rattle.ss_machine_good.specs.LaterFrames.{IsAnswer}
use Rattle.ss_vcgen_heaps.specs.Contracts.{seen, seen_name}
use Rattle.ss_sound_outcomes.specs.Points.{Activation, ArePassed}
use Rattle.ss_sound_outcomes.specs.Outcomes.{locals_at_exit, IsReturn}
use Rattle.ss_sound_runs.specs.Served.{Serves, IsCalledOn, HasArguments}
use Rattle.ss_sound_runs.proofs.Reading.{local_in}
use Rattle.ss_sound_runs.proofs.Locals.{get_left, AreRead, reads_outside, reads_all}
use Rattle.ss_sound_runs.proofs.Passed.{passed_at_entry, passed_at_exit, result_rest, read_with, result_given}
use Rattle.ss_sound_runs.proofs.Follows.{IsWide, span_of, kept_follows}
use Rattle.ss_sound_runs.proofs.Naming.{normal_subject, subject_normal, captured_same, captured_in, free_same}
use Rattle.ss_sound_runs.proofs.Conditions.{this_argument}
use Rattle.ss_sound_runs.proofs.Overriding.{same_conditions, first_conditions}

this_count : (static : Bool) (t u : Ty) → length (if static then [] else t ∷ []) ≡ length (if static then [] else u ∷ [])
this_count true t u = refl
this_count false t u = refl

-- ---- arguments

pub passed_as_seen : (c : CoreTree) (b : BodyTree) (s : List Object) (arguments : List Value) → ArePassed c b s arguments → ArePassed c (seen b) s arguments
passed_as_seen c b s arguments are = record {
  good = record { count = are.good.count; types = are.good.types; ready = are.good.ready };
  assigned = are.assigned;
}

-- the type of an argument
argument_type : (b : BodyTree) (x : ℕ) → x < argument_count b → slice_get (local_types b) x ≡ slice_get (argument_types b) x
argument_type b x h =
    let l = length-append (argument_types b) (types_of b.locals) in
    get_left (argument_types b ++ types_of b.locals) (option_to_list b.result) x (omega (arith, h, l)) ∙ get_left (argument_types b) (types_of b.locals) x h

module _ (c : CoreTree) (D : ℕ) (from to : BodyTree) (serves : Serves c D from to) where
  same_this_count : length (this_types to) ≡ length (this_types from)
  same_this_count = this_count to.flags.is_static _ _ ∙ ap (λ t. length (if t then [] else ty.Ref (record { 0 = from.class }) true ∷ [])) serves.stands.static

  pub same_count : argument_count to ≡ argument_count from
  same_count =
      length-append (this_types to) (types_of to.params) ∙ ap (λ n. n + length (types_of to.params)) same_this_count
      ∙ ap (λ ts. length (this_types from) + length ts) serves.stands.params ∙ sym (length-append (this_types from) (types_of from.params))

  to_instance : to.flags.is_static ≡ false
  to_instance = serves.stands.static ∙ serves.instance

  to_arguments : argument_types to ≡ ty.Ref (record { 0 = to.class }) true ∷ types_of to.params
  to_arguments = ap (λ t. (if t then [] else ty.Ref (record { 0 = to.class }) true ∷ []) ++ types_of to.params) to_instance

  from_arguments : argument_types from ≡ ty.Ref (record { 0 = from.class }) true ∷ types_of from.params
  from_arguments = ap (λ t. (if t then [] else ty.Ref (record { 0 = from.class }) true ∷ []) ++ types_of from.params) serves.instance

  -- but for `this`, the arguments have the same types
  later_types : (x : ℕ) → slice_get (argument_types to) (suc x) ≡ slice_get (argument_types from) (suc x)
  later_types x = ap (λ ts. slice_get ts (suc x)) to_arguments ∙ ap (λ ts. slice_get ts x) serves.stands.params ∙ sym (ap (λ ts. slice_get ts (suc x)) from_arguments)

  to_argument : (x : ℕ) → is_argument from x ≡ true → is_argument to x ≡ true
  to_argument x h = ap (λ n. nat_lt x n) same_count ∙ h

  from_argument : (x : ℕ) → is_argument to x ≡ true → is_argument from x ≡ true
  from_argument x h = ap (λ n. nat_lt x n) (sym same_count) ∙ h

  module _ (arguments : List Value) (passed : length arguments ≡ argument_count from) where
    to_passed : length arguments ≡ argument_count to
    to_passed = passed ∙ sym same_count

    from_has : HasArguments from arguments (locals_at_entry from arguments)
    from_has = passed_at_entry from arguments passed

    to_has : HasArguments to arguments (locals_at_entry to arguments)
    to_has = passed_at_entry to arguments to_passed

    entry_agrees : (x : ℕ) → is_argument from x ≡ true → local_in (locals_at_entry from arguments) x ≡ local_in (locals_at_entry to arguments) x
    entry_agrees x h = ap (λ o. unwrap_or o value.Null) (from_has.same x h ∙ sym (to_has.same x (to_argument x h)))

  pub passed_on_to : NoAlso c.classes → (s : List Object) (arguments : List Value) → IsCalledOn s D arguments → ArePassed c from s arguments → ArePassed c to s arguments
  passed_on_to beside s arguments on are = record {
    good = record {
      count = to_passed arguments are.good.count;
      types = types_;
      ready = λ x v apart ev. are.good.ready x v (ap (λ t. t && eqb x 0) serves.from_plain) ev;
    };
    assigned = assigned_;
  }
    where
      first_is : (vs : List Value) (v : Value) → slice_get vs 0 ≡ Some v → v ≡ local_in vs 0
      first_is vs v e = sym (ap (λ o. unwrap_or o value.Null) e)

      this_typed : has_type c.classes s (ty.Ref (record { 0 = to.class }) true) (value.Obj on.position) ≡ true
      this_typed = rw on.there (sub-below c.classes beside on.object.class to.class ∙ subst (λ n. below c.classes n to.class ≡ true) (sym on.class) serves.class)

      types_ : (x : ℕ) (t : Ty) (v : Value) → slice_get (argument_types to) x ≡ Some t → slice_get arguments x ≡ Some v → has_type c.classes s t v ≡ true
      types_ zero t v et ev =
          let e : Some (ty.Ref (record { 0 = to.class }) true) ≡ Some t = sym (ap (λ ts. slice_get ts 0) to_arguments) ∙ et in
          let a : ty.Ref (record { 0 = to.class }) true ≡ t = cc in
          let d : v ≡ value.Obj on.position = first_is arguments v ev ∙ on.this in
          rw (← a, d) this_typed
      types_ (suc x) t v et ev = are.good.types (suc x) t v (sym (later_types x) ∙ et) ev

      not_null : (v : Value) (o : ℕ) → v ≡ value.Obj o → v ≡ value.Null → ⊥
      not_null v o e f = cc

      assigned_ : (x : ℕ) → is_argument to x ≡ true → is_non_null_type (slice_get (local_types to) x) ≡ true → local_in (locals_at_entry to arguments) x ≡ value.Null → ⊥
      assigned_ zero h k e =
          let first = from_argument zero h in
          not_null (local_in (locals_at_entry to arguments) zero) on.position
          (sym (entry_agrees arguments are.good.count zero first) ∙ ap (λ o. unwrap_or o value.Null) ((from_has arguments are.good.count).same zero first) ∙ on.this) e
      assigned_ (suc x) h k e =
          let here = from_argument (suc x) h in
          let n = ltb-true (suc x) (argument_count to) h in
          let m = ltb-true (suc x) (argument_count from) here in
          let same = argument_type to (suc x) n ∙ later_types x ∙ sym (argument_type from (suc x) m) in
          are.assigned (suc x) here (ap is_non_null_type (sym same) ∙ k) (entry_agrees arguments are.good.count (suc x) here ∙ e)

  -- ---- entry

  object_class : (s : List Object) (o : ℕ) (x : Object) → slice_get s o ≡ Some x → x.class ≡ D → (object_at s o).class ≡ D
  object_class s o x e h = ap (λ y. (unwrap_or y no_object).class) e ∙ h

  own_entry : (to.class ≡ D) ⊎ (is_shared to ≡ true) → (to.class ≡ D) ⊎ (list_any is_at_level to.entry ≡ false)
  own_entry (inl is) = inl is
  own_entry (inr h) = inr (not_true (list_any is_at_level to.entry) (and_parts (not (list_any is_at_level to.entry)) (not (list_any is_at_level to.exit)) h).0)

  own_exit : (to.class ≡ D) ⊎ (is_shared to ≡ true) → (to.class ≡ D) ⊎ (list_any is_at_level to.exit ≡ false)
  own_exit (inl is) = inl is
  own_exit (inr h) = inr (not_true (list_any is_at_level to.exit) (and_parts (not (list_any is_at_level to.entry)) (not (list_any is_at_level to.exit)) h).1)

  -- the locals of `to`, read beside the result of `from`
  read_to : (arguments locals : List Value) (v : Value) → HasArguments to arguments locals → AreRead to arguments (result_rest from v) locals
  read_to arguments locals v has = subst (λ o. AreRead to arguments (if is_some o then v ∷ [] else []) locals) serves.stands.result (read_with to arguments locals v has)

  module _ (s : List Object) (arguments : List Value) (on : IsCalledOn s D arguments) (passed : length arguments ≡ argument_count from) where
    this_at_entry : local_in (locals_at_entry from arguments) 0 ≡ value.Obj on.position
    this_at_entry = ap (λ o. unwrap_or o value.Null) ((from_has arguments passed).same 0 (this_argument from (ap not serves.instance))) ∙ on.this

    pub entered : all_hold (seen from).entry (setting c.classes s s (locals_at_entry (seen from) arguments)) ≡ true → all_hold to.entry (setting c.classes s s (locals_at_entry to arguments)) ≡ true
    entered h =
        sym (same_conditions c.classes s s D from to in_requires (λ x. is_argument from x || is_bound from x) (λ x. is_argument to x || is_bound to x) (locals_at_entry from arguments) (locals_at_entry to arguments) (arguments ++ result_rest from value.Null)
        (reads_outside from arguments (result_rest from value.Null) (locals_at_entry from arguments) (read_with from arguments (locals_at_entry from arguments) value.Null (from_has arguments passed)))
        (reads_outside to arguments (result_rest from value.Null) (locals_at_entry to arguments) (read_to arguments (locals_at_entry to arguments) value.Null (to_has arguments passed)))
        (entry_agrees arguments passed) on.position this_at_entry
        (object_class s on.position on.object on.there on.class)
        from.entry to.entry serves.stands.entry serves.from_formed.entry serves.to_formed.entry (own_entry serves.own))
        ∙ h

    -- ---- exit

    module _ (z : List Object) (v : Value) where
      from_left : HasArguments from arguments (locals_at_exit from arguments v)
      from_left = passed_at_exit from arguments (locals_at_entry from arguments) v (from_has arguments passed)

      to_left : HasArguments to arguments (locals_at_exit to arguments v)
      to_left = passed_at_exit to arguments (locals_at_entry to arguments) v (to_has arguments passed)

      exit_agrees : (x : ℕ) → is_argument from x ≡ true → local_in (locals_at_exit from arguments v) x ≡ local_in (locals_at_exit to arguments v) x
      exit_agrees x h = ap (λ o. unwrap_or o value.Null) (from_left.same x h ∙ sym (to_left.same x (to_argument x h)))

      this_at_exit : local_in (locals_at_exit from arguments v) 0 ≡ value.Obj on.position
      this_at_exit = ap (λ o. unwrap_or o value.Null) (from_left.same 0 (this_argument from (ap not serves.instance))) ∙ on.this

      to_given : is_some to.result ≡ true → slice_get (locals_at_exit to arguments v) (result_number to) ≡ slice_get (result_rest from v) 0
      to_given h = result_given to arguments (locals_at_entry to arguments) v (to_has arguments passed) h ∙ ap (λ o. slice_get (if is_some o then v ∷ [] else []) 0) serves.stands.result

      pub left_as_seen : IsOlder s z → all_hold to.exit (setting c.classes z s (locals_at_exit to arguments v)) ≡ true → all_hold (seen from).exit (setting c.classes z s (locals_at_exit (seen from) arguments v)) ≡ true
      left_as_seen older h =
          let still = older on.position on.object on.there in
          first_conditions c.classes z s D from to in_ensures (λ x. is_argument from x || is_result from x || is_bound from x) (λ x. is_argument to x || is_result to x || is_bound to x) (locals_at_exit from arguments v) (locals_at_exit to arguments v) (arguments ++ result_rest from v)
          (reads_all from arguments (result_rest from v) (locals_at_exit from arguments v) (read_with from arguments (locals_at_exit from arguments v) v from_left) (result_given from arguments (locals_at_entry from arguments) v (from_has arguments passed)))
          (reads_all to arguments (result_rest from v) (locals_at_exit to arguments v) (read_to arguments (locals_at_exit to arguments v) v to_left) to_given)
          exit_agrees on.position this_at_exit
          (object_class z on.position still.object still.there (still.class ∙ on.class))
          from.exit to.exit serves.stands.more serves.stands.exit serves.from_formed.exit serves.to_formed.exit (own_exit serves.own) h

    -- ---- the frame condition

    module _ (z : List Object) (outside : List Value) where
      abbrev L : List Value
      L = locals_at_entry from arguments

      abbrev M : List Value
      M = locals_at_entry to arguments

      abbrev rest : List Value
      rest = result_rest from value.Null

      from_read : AreRead from arguments rest L
      from_read = read_with from arguments L value.Null (from_has arguments passed)

      to_read : AreRead to arguments rest M
      to_read = read_to arguments M value.Null (to_has arguments passed)

      abbrev of_to : NamedTree → List Named
      of_to n = named_by n (value_at_entry (span_of c.classes s z outside to M) (subject_of n))

      abbrev of_from : NamedTree → List Named
      of_from n = named_by n (value_at_entry (span_of c.classes s z outside (seen from) L) (subject_of n))

      module _ (p : Named → Bool) (wide : IsWide p) where
        upto_all : (v : Value) (e f : ExprTree) (t : ℕ) → list_any p (named_by (UptoOf e t) v) ≡ true → list_any p (named_by (AllOf f) v) ≡ true
        upto_all (value.Obj o) e f t h = ⊎_elim (λ k. or_left (p (named.All o)) false (wide o (record { 0 = t }) k)) (λ k. absurd (true≢false (sym k))) (or_cases (p (named.Upto o (record { 0 = t }))) false h)
        upto_all (value.Int n) e f t h = h
        upto_all (value.Bool b) e f t h = h
        upto_all value.Null e f t h = h

        field_names : (v : Value) (e d : ExprTree) (f g : ℕ) → f ≡ g → list_any p (named_by (FieldOf e f) v) ≡ true → list_any p (named_by (FieldOf d g) v) ≡ true
        field_names v e d f g same h = subst (λ n. list_any p (named_by (FieldOf d n) v) ≡ true) same (field_any v h)
          where
            field_any : (v : Value) → list_any p (named_by (FieldOf e f) v) ≡ true → list_any p (named_by (FieldOf d f) v) ≡ true
            field_any (value.Obj o) h = h
            field_any (value.Int n) h = h
            field_any (value.Bool b) h = h
            field_any value.Null h = h

        all_names : (v : Value) (e d : ExprTree) → list_any p (named_by (AllOf e) v) ≡ true → list_any p (named_by (AllOf d) v) ≡ true
        all_names (value.Obj o) e d h = h
        all_names (value.Int n) e d h = h
        all_names (value.Bool b) e d h = h
        all_names value.Null e d h = h

        element_names : (v : Value) (e d : ExprTree) → list_any p (named_by (ElementsOf e) v) ≡ true → list_any p (named_by (ElementsOf d) v) ≡ true
        element_names (value.Obj o) e d h = h
        element_names (value.Int n) e d h = h
        element_names (value.Bool b) e d h = h
        element_names value.Null e d h = h

        pair_names : (n m : NamedTree) → normal_named to n ≡ normal_named from m → (v : Value) → list_any p (named_by n v) ≡ true → list_any p (named_by (seen_name m) v) ≡ true
        pair_names (FieldOf e f) (FieldOf d g) same v h = field_names v e d f g (let k : f ≡ g = cc in k) h
        pair_names (AllOf e) (AllOf d) same v h = all_names v e d h
        pair_names (ElementsOf e) (ElementsOf d) same v h = element_names v e d h
        pair_names (UptoOf e t) (UptoOf d u) same v h = upto_all v e d t h
        pair_names n m same v h = absurd (let none : ⊥ = cc in none)

        seen_subject : (m : NamedTree) → subject_of (seen_name m) ≡ subject_of m
        seen_subject (FieldOf d g) = refl
        seen_subject (AllOf d) = refl
        seen_subject (ElementsOf d) = refl
        seen_subject (UptoOf d u) = refl

        one_name : (n m : NamedTree) → normal_named to n ≡ normal_named from m → is_named c.classes to n ≡ true → is_named c.classes from m ≡ true → list_any p (of_to n) ≡ true → list_any p (of_from (seen_name m)) ≡ true
        one_name n m same h k held =
            let a = subject_normal c.classes s z outside to arguments rest M to_read n h in
            let b = subject_normal c.classes s z outside from arguments rest L from_read m k in
            let both = a ∙ ap (normal_subject c.classes s z outside to arguments rest M to_read) same ∙ sym b ∙ ap (value_at_entry (span_of c.classes s z outside from L)) (sym (seen_subject m)) in
            subst (λ v. list_any p (named_by (seen_name m) v) ≡ true) both (pair_names n m same (value_at_entry (span_of c.classes s z outside to M) (subject_of n)) held)

        any_first : (f : NamedTree → List Named) (n : NamedTree) (ns : List NamedTree) → list_any p (flat_map f (n ∷ ns)) ≡ (list_any p (f n) || list_any p (flat_map f ns))
        any_first f n ns = ap (list_any p) (flat_map-cons f n ns) ∙ list_any-append p (f n) (flat_map f ns)

        all_names_follow : (ns ms : List NamedTree) → map (normal_named to) ns ≡ map (normal_named from) ms → list_all (is_named c.classes to) ns ≡ true → list_all (is_named c.classes from) ms ≡ true → list_any p (flat_map of_to ns) ≡ true → list_any p (flat_map of_from (map seen_name ms)) ≡ true
        all_names_follow [] [] same h k held = held
        all_names_follow [] (m ∷ ms) same h k held = absurd (let none : ⊥ = cc in none)
        all_names_follow (n ∷ ns) [] same h k held = absurd (let none : ⊥ = cc in none)
        all_names_follow (n ∷ ns) (m ∷ ms) same h k held =
            let hs = and_parts (is_named c.classes to n) (list_all (is_named c.classes to) ns) h in
            let ks = and_parts (is_named c.classes from m) (list_all (is_named c.classes from) ms) k in
            let here : normal_named to n ≡ normal_named from m = cc in
            let there : map (normal_named to) ns ≡ map (normal_named from) ms = cc in
            any_first of_from (seen_name m) (map seen_name ms)
            ∙ ⊎_elim
            (λ a. or_left (list_any p (of_from (seen_name m))) (list_any p (flat_map of_from (map seen_name ms))) (one_name n m here hs.0 ks.0 a))
            (λ a. or_right (list_any p (of_from (seen_name m))) (list_any p (flat_map of_from (map seen_name ms))) (all_names_follow ns ms there hs.1 ks.1 a))
            (or_cases (list_any p (of_to n)) (list_any p (flat_map of_to ns)) (sym (any_first of_to n ns) ∙ held))

      same_params : length to.params ≡ length from.params
      same_params = sym (length-map to.params (λ (l : LocalTree). l.captured)) ∙ ap length serves.stands.captured ∙ length-map from.params (λ (l : LocalTree). l.captured)

      same_captured : captured_values (span_of c.classes s z outside to M) ≡ captured_values (span_of c.classes s z outside (seen from) L)
      same_captured =
          captured_in c.classes s z outside to arguments rest M to_read
          ∙ captured_same to.params from.params (drop (length (this_types to)) arguments) (drop (length (this_types from)) arguments) serves.stands.captured (λ i l. ap (λ n. slice_get (drop n arguments) i) same_this_count)
          ∙ sym (captured_in c.classes s z outside from arguments rest L from_read)

      same_owned : (x : Object) → is_owned_by_new (span_of c.classes s z outside to M) x ≡ is_owned_by_new (span_of c.classes s z outside (seen from) L) x
      same_owned x =
          ap (λ t. t && is_object_with (this_of M) (λ o. is_pair_upto c.classes o to.class x.owner)) serves.to_plain
          ∙ sym (ap (λ t. t && is_object_with (this_of L) (λ o. is_pair_upto c.classes o from.class x.owner)) serves.from_plain)

      pub kept_as_seen : is_kept (span_of c.classes s z outside to M) ≡ true → is_kept (span_of c.classes s z outside (seen from) L) ≡ true
      kept_as_seen =
          kept_follows c.classes s z outside to (seen from) M L
          (λ p wide h. all_names_follow p wide to.named from.named serves.stands.named serves.to_formed.named serves.from_formed.named h)
          (λ x. free_same x.committed (is_in_group_with (span_of c.classes s z outside to M) x) (captured_values (span_of c.classes s z outside to M)) (captured_values (span_of c.classes s z outside (seen from) L))
          (is_owned_by_new (span_of c.classes s z outside to M) x) (is_owned_by_new (span_of c.classes s z outside (seen from) L) x) same_captured (same_owned x))

  -- ---- what is given back

  pub answered_as_seen : (x : Option ℕ) (this : Value) (z : List Object) (v : Value) → IsAnswer c to (ToCall x) this z v → IsAnswer c (seen from) (ToCall x) this z v
  answered_as_seen x this z v are = record {
    types = λ t e. are.types t (serves.stands.result ∙ e);
    ready = are.ready;
    non_null = λ h. are.non_null (ap is_non_null_type serves.stands.result ∙ h);
    fields = λ ctor. absurd (true≢false (sym ctor ∙ serves.from_plain));
    whole = λ ctor. absurd (true≢false (sym ctor ∙ serves.from_plain));
  }

pub returned_as_seen : (a : Activation) (D : ℕ) (from to : BodyTree) → Serves a.program D from to → (x : Option ℕ) (s z : List Object) (arguments : List Value) (v : Value) → IsCalledOn s D arguments → length arguments ≡ argument_count from → IsReturn a to (ToCall x) arguments s z v → IsReturn a (seen from) (ToCall x) arguments s z v
returned_as_seen a D from to serves x s z arguments v on passed is = record {
  good = is.good;
  grown = is.grown;
  later = is.later;
  kept = kept_as_seen a.program D from to serves s arguments on passed z [] is.kept;
  exit = left_as_seen a.program D from to serves s arguments on passed z v is.grown.older is.exit;
  answer = answered_as_seen a.program D from to serves x (this_of arguments) z v is.answer;
}
