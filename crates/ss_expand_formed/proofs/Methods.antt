-- The methods and constructors that names mean are the bodies that the tables of the resolved program have.
use Rattle.std.proofs.Common.{◌≡◌, ℕ, ◌+◌, List, [], ◌∷◌, ◌++◌, length, map, Bool, true, false, Option, Some, None, refl, sym, ◌∙◌, ap, subst, ⊎_elim}
use Rattle.std.specs.Prelude.{not, slice_get, option_map, option_and_then, option_to_list, find, filter, if◌then◌else◌}
use Rattle.std.specs.List.{list_all, list_any}
use Rattle.std.specs.Str.{bytes_eq}
use Rattle.std.proofs.lemmas.Bool.{and_parts, false≢true, cases_Bool}
use Rattle.std.proofs.lemmas.Option.{same_Some}
use Rattle.std.proofs.lemmas.Slice.Eq.{bytes_eq-Decides}
use Rattle.std.specs.Option.{option_or}
use Rattle.ss_core.specs.Tree as core
use Rattle.ss_core.specs.Tree.{EntryTree}
use Rattle.ss_core.specs.Chain.{is_type}
use Rattle.ss_ast.specs.Expressions.{TypeTree}
use Rattle.ss_ast.specs.Programs.{ParamTree, ClassTree, ProgramTree}
use Rattle.ss_tables.specs.Members.{MethodTree, ConstructorTree, methods_in, constructors_in, method_in}
use Rattle.ss_tables.specs.Classes.{Declared, declared_in, members_in, members_at, first_method, method_of, chain, class_number}
use Rattle.ss_tables.specs.Statics.{result_type, params_of_first, constructor_params}
use Rattle.ss_typed.specs.Tree.{BodyTree}
use Rattle.ss_typed.specs.Tree as typed
use Rattle.ss_resolver_names_rules.specs.Programs.{program_faults}
use Rattle.ss_resolver_rules.specs.Names.{Env}
use Rattle.ss_resolver_names_rules.specs.Faults.{is_listed}
use Rattle.ss_resolver_rules.specs.Numbers.{type_id, names_of, method_names, declared_entry, overridden, added, table_along, table, table_place, method_place, method_id, constructor_id}
use Rattle.ss_resolver_rules.specs.Programs.{param, method_env, param_env, method_body, constructor_body, written_constructor, resolved}
use Rattle.ss_expand_rules.specs.Program.{table_of}
use Rattle.ss_typed.specs.Lookups.{body_at, constructor_in, constructor_of, param_types_in}
use Rattle.ss_expand_rules.specs.Program as program
use Rattle.ss_tables.specs.Members as tables
use Rattle.ss_expand_formed.specs.Laws.{core_of}
use Rattle.ss_expand_formed.proofs.Facts.{all_at}
use Rattle.ss_expand_formed.proofs.Places.{members_at as members_there, class_at, method_at_place, constructor_at, listed_methods}
use Rattle.ss_expand_formed.proofs.TypesKnown.{known, are_known, all_known, env_of}
use Rattle.ss_expand_formed.proofs.Classes.{found_place, find_passes, type_there}

-- ---- searching

find_front : {X : Type 0} (test : X → Bool) (xs ys : List X) (x : X) → find test xs ≡ Some x → find test (xs ++ ys) ≡ Some x
find_front test [] ys x h = absurd (let z : ⊥ = cc in z)
find_front test (y ∷ xs) ys x h =
    ⊎_elim (λ here. rw here (rw here at h)) (λ other. rw other (find_front test xs ys x (rw other at h))) (cases_Bool (test y))

find_back : {X : Type 0} (test : X → Bool) (xs ys : List X) → find test xs ≡ None → find test (xs ++ ys) ≡ find test ys
find_back test [] ys h = refl
find_back test (y ∷ xs) ys h =
    ⊎_elim (λ here. absurd (let g : Some y ≡ None = rw here at h in let z : ⊥ = cc in z)) (λ other. rw other (find_back test xs ys (rw other at h))) (cases_Bool (test y))

find_any : {X : Type 0} (test : X → Bool) (xs : List X) → find test xs ≡ None → list_any test xs ≡ false
find_any test [] h = refl
find_any test (y ∷ xs) h =
    ⊎_elim (λ here. absurd (let g : Some y ≡ None = rw here at h in let z : ⊥ = cc in z)) (λ other. rw other (find_any test xs (rw other at h))) (cases_Bool (test y))

any_found : {X : Type 0} (test : X → Bool) (xs : List X) (x : X) → find test xs ≡ Some x → list_any test xs ≡ true
any_found test [] x h = absurd (let z : ⊥ = cc in z)
any_found test (y ∷ xs) x h =
    ⊎_elim (λ here. rw here refl) (λ other. rw other (any_found test xs x (rw other at h))) (cases_Bool (test y))

-- the names of entries
listed_entries : (es : List EntryTree) (n : List ℕ) → is_listed (names_of es) n ≡ list_any (λ (e : EntryTree). bytes_eq n e.name) es
listed_entries [] n = refl
listed_entries (e ∷ es) n = rw (listed_entries es n) refl

module _ (p : ProgramTree) (n : List ℕ) where
  abbrev cs : List ClassTree
  cs = p.classes

  abbrev is_n : EntryTree → Bool
  is_n e = bytes_eq n e.name

  same_name : (m : List ℕ) → bytes_eq n m ≡ true → m ≡ n
  same_name m h = sym ((bytes_eq-Decides n m).0 h)

  -- ---- one class more

  overridden_name : (k : ℕ) (e : EntryTree) → (overridden cs k e).name ≡ e.name
  overridden_name k e = by (is_listed (method_names (members_at cs k)) e.name)
    where
      by : (b : Bool) → (if b then declared_entry cs k e.name else e).name ≡ e.name
      by true = refl
      by false = refl

  overridden_none : (k : ℕ) (es : List EntryTree) → find is_n es ≡ None → find is_n (map (overridden cs k) es) ≡ None
  overridden_none k [] h = refl
  overridden_none k (e ∷ es) h =
      ⊎_elim
      (λ here. absurd (let g : Some e ≡ None = rw here at h in let z : ⊥ = cc in z))
      (λ other. let apart : bytes_eq n (overridden cs k e).name ≡ false = ap (bytes_eq n) (overridden_name k e) ∙ other in rw apart (overridden_none k es (rw other at h)))
      (cases_Bool (is_n e))

  overridden_some : (k : ℕ) (es : List EntryTree) (e : EntryTree) → find is_n es ≡ Some e → find is_n (map (overridden cs k) es) ≡ Some (overridden cs k e)
  overridden_some k [] e h = absurd (let z : ⊥ = cc in z)
  overridden_some k (d ∷ es) e h =
      ⊎_elim
      (λ here. let same : bytes_eq n (overridden cs k d).name ≡ true = ap (bytes_eq n) (overridden_name k d) ∙ here in rw same (ap (λ z. Some (overridden cs k z)) (same_Some _ _ (rw here at h))))
      (λ other. let apart : bytes_eq n (overridden cs k d).name ≡ false = ap (bytes_eq n) (overridden_name k d) ∙ other in rw apart (overridden_some k es e (rw other at h)))
      (cases_Bool (is_n d))

  added_found : (k : ℕ) (old : List (List ℕ)) (ms : List (List ℕ)) → is_listed old n ≡ false → list_any (bytes_eq n) ms ≡ true → find is_n (map (declared_entry cs k) (filter (λ (m : List ℕ). not (is_listed old m)) ms)) ≡ Some (declared_entry cs k n)
  added_found k old [] new h = absurd (false≢true h)
  added_found k old (m ∷ ms) new h =
      ⊎_elim
      (λ here.
      let same = same_name m here in
      let fresh : is_listed old m ≡ false = ap (is_listed old) same ∙ new in
      rw fresh (rw here (ap (λ z. Some (declared_entry cs k z)) same)))
      (λ other.
      let later : list_any (bytes_eq n) ms ≡ true = rw other at h in
      ⊎_elim
      (λ listed. rw listed (added_found k old ms new later))
      (λ fresh. rw fresh (rw other (added_found k old ms new later)))
      (cases_Bool (is_listed old m)))
      (cases_Bool (bytes_eq n m))

  abbrev entry_of : ℕ → EntryTree
  entry_of k = record { name = n; body = method_id cs k n }

  -- the class has a method of the name
  own_entry : (k : ℕ) (rest : List EntryTree) (m : MethodTree) → method_in (members_at cs k) n ≡ Some m → find is_n (map (overridden cs k) rest ++ added cs k rest) ≡ Some (entry_of k)
  own_entry k rest m h = by (find is_n rest) refl
    where
      listed : is_listed (method_names (members_at cs k)) n ≡ true
      listed = listed_methods (members_at cs k) n ∙ any_found (λ (z : MethodTree). bytes_eq n z.name.text) (methods_in (members_at cs k)) m h

      by : (o : Option EntryTree) → find is_n rest ≡ o → find is_n (map (overridden cs k) rest ++ added cs k rest) ≡ Some (entry_of k)
      by (Some e) g =
          let same = same_name e.name (find_passes is_n rest e g) in
          let here : overridden cs k e ≡ entry_of k = ap (λ z. if is_listed (method_names (members_at cs k)) z then declared_entry cs k z else e) same ∙ (rw listed refl) in
          find_front is_n (map (overridden cs k) rest) (added cs k rest) (entry_of k) (overridden_some k rest e g ∙ ap Some here)
      by None g =
          find_back is_n (map (overridden cs k) rest) (added cs k rest) (overridden_none k rest g)
          ∙ added_found k (names_of rest) (method_names (members_at cs k)) (listed_entries rest n ∙ find_any is_n rest g) listed

  -- the class has none, but one above has
  other_entry : (k j : ℕ) (rest : List EntryTree) → method_in (members_at cs k) n ≡ None → find is_n rest ≡ Some (entry_of j) → find is_n (map (overridden cs k) rest ++ added cs k rest) ≡ Some (entry_of j)
  other_entry k j rest h g =
      let none : is_listed (method_names (members_at cs k)) n ≡ false = listed_methods (members_at cs k) n ∙ find_any (λ (z : MethodTree). bytes_eq n z.name.text) (methods_in (members_at cs k)) h in
      let here : overridden cs k (entry_of j) ≡ entry_of j = rw none refl in
      find_front is_n (map (overridden cs k) rest) (added cs k rest) (entry_of j) (overridden_some k rest (entry_of j) g ∙ ap Some here)

  -- the table of a class has the nearest method of the name
  entry_first : (k : ℕ) (ks : List ℕ) (m : Declared MethodTree) (o : Option MethodTree) → method_in (members_at cs k) n ≡ o → (first_method cs n ks ≡ Some m → find is_n (table_along cs ks) ≡ Some (entry_of m.class)) → option_or (declared_in k o) (first_method cs n ks) ≡ Some m →
      find is_n (table_along cs (k ∷ ks)) ≡ Some (entry_of m.class)
  entry_first k ks m None e rest h = other_entry k m.class (table_along cs ks) e (rest h)
  entry_first k ks m (Some d) e rest h = own_entry k (table_along cs ks) d e ∙ ap (λ (z : Declared MethodTree). Some (entry_of z.class)) (same_Some _ _ h)

  entry_along : (ks : List ℕ) (m : Declared MethodTree) → first_method cs n ks ≡ Some m → find is_n (table_along cs ks) ≡ Some (entry_of m.class)
  entry_along [] m h = absurd (let z : ⊥ = cc in z)
  entry_along (k ∷ ks) m h = entry_first k ks m (method_in (members_at cs k) n) refl (entry_along ks m) h

  -- ---- the method itself

  method_of_first : (m : Declared MethodTree) (k : ℕ) (ks : List ℕ) (o : Option MethodTree) → method_in (members_at cs k) n ≡ o → (first_method cs n ks ≡ Some m → method_in (members_at cs m.class) n ≡ Some m.member) → option_or (declared_in k o) (first_method cs n ks) ≡ Some m → method_in (members_at cs m.class) n ≡ Some m.member
  method_of_first m k ks None e rest g = rest g
  method_of_first m k ks (Some d) e rest g =
      let same = same_Some _ _ g in
      ap (λ (z : Declared MethodTree). method_in (members_at cs z.class) n) (sym same) ∙ e ∙ ap (λ (z : Declared MethodTree). Some z.member) same

  method_first : (m : Declared MethodTree) (ks : List ℕ) → first_method cs n ks ≡ Some m → method_in (members_at cs m.class) n ≡ Some m.member
  method_first m [] h = absurd (let z : ⊥ = cc in z)
  method_first m (k ∷ ks) h = method_of_first m k ks (method_in (members_at cs k) n) refl (method_first m ks) h

  method_class : (m : MethodTree) (o : Option ClassTree) → method_in (members_in o) n ≡ Some m → (c : ClassTree) × (o ≡ Some c)
  method_class m None e = absurd (let z : ⊥ = cc in z)
  method_class m (Some c) e = (c, refl)

  body_by_number : (m : Declared MethodTree) → method_in (members_at cs m.class) n ≡ Some m.member → body_at (resolved p) (method_id cs m.class n) ≡ Some (method_body cs m.class m.member)
  body_by_number m own =
      let c = method_class m.member (slice_get cs m.class) own in
      let at : slice_get (methods_in (members_at cs m.class)) (method_place (members_at cs m.class) n) ≡ Some m.member = found_place (λ (z : MethodTree). bytes_eq n z.name.text) (methods_in (members_at cs m.class)) m.member own in
      let in_class : slice_get (methods_in c.0.members) (method_place c.0.members n) ≡ Some m.member = subst (λ o. slice_get (methods_in (members_in o)) (method_place (members_in o) n) ≡ Some m.member) c.1 at in
      ap (λ ms. body_at (resolved p) (constructor_id cs m.class + (length (constructors_in ms) + method_place ms n))) (ap members_in c.1) ∙ method_at_place p m.class c.0 c.1 (method_place c.0.members n) m.member in_class

-- what a method of a class is in the resolved program
pub record HasMethod (p : ProgramTree) (k : ℕ) (m : Declared MethodTree) : Type 0 where
  pub by_number : body_at (resolved p) (method_id p.classes m.class m.member.name.text) ≡ Some (method_body p.classes m.class m.member)
  pub by_table : program.method_at (resolved p) (class_number k) (table_place p.classes k m.member.name.text) ≡ Some (method_body p.classes m.class m.member)
  pub params : list_all (λ (q : ParamTree). is_type (core_of p).classes (type_id p.classes q.ty)) m.member.params ≡ true
  pub result : result_type p.classes m.member.result ≡ option_map (type_id p.classes) m.member.result

module _ (p : ProgramTree) (faultless : program_faults p ≡ []) where
  abbrev C : List core.ClassTree
  C = (core_of p).classes

  all_params : (e : Env) → e.scope.classes ≡ p.classes → (ps : List ParamTree) → list_all (λ (q : typed.ParamTree). is_type C q.ty) (map (param e) ps) ≡ true → list_all (λ (q : ParamTree). is_type C (type_id p.classes q.ty)) ps ≡ true
  all_params e same [] h = refl
  all_params e same (q ∷ ps) h =
      let both = and_parts (is_type C (type_id e.scope.classes q.ty)) _ h in
      rw (ap (λ cs. is_type C (type_id cs q.ty)) (sym same) ∙ both.0) (all_params e same ps both.1)

  result_known : (r : Option TypeTree) → list_all (is_type C) (option_to_list (option_map (type_id p.classes) r)) ≡ true → result_type p.classes r ≡ option_map (type_id p.classes) r
  result_known None h = refl
  result_known (Some t) h = type_there p faultless t (and_parts (is_type C (type_id p.classes t)) true h).0

  -- the method that a name means in a class
  pub method_has : (k : ℕ) (c : ClassTree) → slice_get p.classes k ≡ Some c → (n : List ℕ) (m : Declared MethodTree) → method_of p.classes k n ≡ Some m → HasMethod p k m
  method_has k c at n m h =
      let own = method_first p n m (chain p.classes k) h in
      let named : n ≡ m.member.name.text = (bytes_eq-Decides n m.member.name.text).0 (find_passes (λ (z : MethodTree). bytes_eq n z.name.text) (methods_in (members_at p.classes m.class)) m.member own) in
      let number = body_by_number p n m own in
      let entry = found_place (λ (e : EntryTree). bytes_eq n e.name) (table p.classes k) _ (entry_along p n (chain p.classes k) m h) in
      let by_table : program.method_at (resolved p) (class_number k) (table_place p.classes k n) ≡ Some (method_body p.classes m.class m.member) =
      ap (λ o. option_and_then (λ (e : EntryTree). body_at (resolved p) e.body) (slice_get (table_of o) (table_place p.classes k n))) (class_at p k c at)
      ∙ ap (option_and_then (λ (e : EntryTree). body_at (resolved p) e.body)) entry ∙ number in
      let all = and_parts (list_all (known p faultless) (option_to_list (option_map (type_id p.classes) m.member.result))) _ (all_at (are_known p faultless) (resolved p).bodies (method_id p.classes m.class n) (method_body p.classes m.class m.member) (all_known p faultless) number) in
      record {
        by_number = subst (λ z. body_at (resolved p) (method_id p.classes m.class z) ≡ Some (method_body p.classes m.class m.member)) named number;
        by_table = subst (λ z. program.method_at (resolved p) (class_number k) (table_place p.classes k z) ≡ Some (method_body p.classes m.class m.member)) named by_table;
        params = all_params (method_env p.classes m.class m.member) (env_of p faultless m.class (tables.is_static m.member) m.member.params) m.member.params all.1;
        result = result_known m.member.result all.0;
      }

  -- ---- constructors

  pub record HasConstructor (k : ℕ) : Type 0 where
    pub types : param_types_in (constructor_of (resolved p) (class_number k)) ≡ map (λ (q : ParamTree). type_id p.classes q.ty) (constructor_params p.classes k)
    pub params : list_all (λ (q : ParamTree). is_type C (type_id p.classes q.ty)) (constructor_params p.classes k) ≡ true

  pub types_map : (e : Env) → e.scope.classes ≡ p.classes → (ps : List ParamTree) → map (λ (q : typed.ParamTree). q.ty) (map (param e) ps) ≡ map (λ (q : ParamTree). type_id p.classes q.ty) ps
  types_map e same [] = refl
  types_map e same (q ∷ ps) = ap (λ cs. type_id cs q.ty ∷ map (λ (z : typed.ParamTree). z.ty) (map (param e) ps)) same ∙ ap (λ ts. type_id p.classes q.ty ∷ ts) (types_map e same ps)

  pub constructor_has : (k : ℕ) (c : ClassTree) → slice_get p.classes k ≡ Some c → HasConstructor k
  constructor_has k c at = by (constructors_in c.members) refl
    where
      found : constructor_of (resolved p) (class_number k) ≡ option_and_then (body_at (resolved p)) (written_constructor p.classes k (constructors_in c.members))
      found = ap (constructor_in (resolved p)) (members_there p k c at)

      written : constructor_params p.classes k ≡ params_of_first (slice_get (constructors_in c.members) 0)
      written = ap (λ o. params_of_first (slice_get (constructors_in (members_in o)) 0)) at

      by : (ds : List ConstructorTree) → constructors_in c.members ≡ ds → HasConstructor k
      by [] e =
          let none : constructor_params p.classes k ≡ [] = written ∙ ap (λ ds. params_of_first (slice_get ds 0)) e in
          record {
            types = ap param_types_in (found ∙ ap (λ ds. option_and_then (body_at (resolved p)) (written_constructor p.classes k ds)) e) ∙ ap (map (λ (q : ParamTree). type_id p.classes q.ty)) (sym none);
            params = ap (list_all (λ (q : ParamTree). is_type C (type_id p.classes q.ty))) none;
          }
      by (d ∷ ds) e =
          let some : constructor_params p.classes k ≡ d.params = written ∙ ap (λ xs. params_of_first (slice_get xs 0)) e in
          let body = constructor_at p k c at d ds e in
          let here : constructor_of (resolved p) (class_number k) ≡ Some (constructor_body p.classes k d) = found ∙ ap (λ xs. option_and_then (body_at (resolved p)) (written_constructor p.classes k xs)) e ∙ body in
          let all = (and_parts (list_all (known p faultless) []) _ (all_at (are_known p faultless) (resolved p).bodies (constructor_id p.classes k) (constructor_body p.classes k d) (all_known p faultless) body)).1 in
          let env = param_env p.classes k false d.params in
          record {
            types = ap param_types_in here ∙ types_map env (env_of p faultless k false d.params) d.params ∙ ap (map (λ (q : ParamTree). type_id p.classes q.ty)) (sym some);
            params = ap (list_all (λ (q : ParamTree). is_type C (type_id p.classes q.ty))) some ∙ all_params env (env_of p faultless k false d.params) d.params all;
          }
