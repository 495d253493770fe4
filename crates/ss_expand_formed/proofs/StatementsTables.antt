-- What the calls of elaborated code name: the methods in the tables of the classes of a program.
use Rattle.std.proofs.Common.{◌≡◌, ℕ, zero, suc, ◌+◌, ◌*◌, ◌<◌, List, [], ◌∷◌, length, map, Bool, true, false, Option, Some, None, refl, sym, ◌∙◌, ap, subst, arith, ⊎_elim}
use Rattle.std.specs.Prelude.{not, ◌==◌, ◌&&◌, slice_get, filter, option_and_then, option_to_list, if◌then◌else◌}
use Rattle.std.specs.List.{list_any}
use Rattle.std.specs.Str.{bytes_eq}
use Rattle.std.proofs.lemmas.Slice.Eq.{bytes_eq-Decides}
use Rattle.std.proofs.lemmas.Option.{same_Some, slice_get_within}
use Rattle.std.proofs.lemmas.Bool.{and_from, cases_Bool, eq-eqb, false≢true}
use Rattle.ss_core.specs.declared.names.Ty.{Ty}
use Rattle.ss_core.specs.declared.names.Ty.TheVariants as ty
use Rattle.ss_core.specs.Tree as core
use Rattle.ss_core.specs.Tree.{Base}
use Rattle.ss_core.specs.Chain as chain
use Rattle.ss_core.proofs.Declared.{declared_at}
use Rattle.ss_ast.specs.Programs.{ClassTree, ProgramTree}
use Rattle.ss_tables.specs.Classes.{members_in, members_at, chain_from}
use Rattle.ss_typed.specs.Tree.{BodyTree, TypedTree}
use Rattle.ss_resolver_names_rules.specs.Programs.{program_faults}
use Rattle.ss_resolver_names_rules.specs.Faults.{is_listed}
use Rattle.ss_resolver_rules.specs.Numbers.{method_id, names_of, method_names, declared_entry, overridden, added, table_along, table}
use Rattle.ss_resolver_rules.specs.Programs.{method_body, resolved}
use Rattle.ss_expand_rules.specs.Program as program
use Rattle.ss_expand_rules.specs.Program.{method_at, Origin, Constructor, Method, is_own, number_of, number_of_written, entry_number, entries_from, number_in_table, entry_number_in}
use Rattle.ss_typed.specs.Lookups.{body_at, param_types_in}
use Rattle.ss_expand_rules.specs.Contracts.{declarations}
use Rattle.ss_expand_rules.specs.Bodies.{written_body}
use Rattle.ss_store_rules.specs.Locals.{types_of}
use Rattle.ss_store_rules.specs.Typed.{are_declared, where_body, is_instance_method, table_of, stands_in_table, callee_of}
use Rattle.ss_store_rules.specs.Typed as store
use Rattle.ss_expand_formed.specs.Laws.{core_of}
use Rattle.ss_expand_formed.proofs.Searching.{any_at, filtered_from}
use Rattle.ss_expand_formed.proofs.Places.{source_of, class_at, named_method, listed_methods}
use Rattle.ss_expand_formed.proofs.Resolved.{entry_is, method_declared}
use Rattle.ss_expand_formed.proofs.Entries.{map_from, append_from}
use Rattle.ss_expand_formed.proofs.Bodies.{IsMade, WrittenConstructor, ImplicitConstructor, WrittenMethod, Wrapper, made}
use Rattle.ss_expand_formed.proofs.Numbered.{IsOrigin, OfMethod, there, numbered}
use Rattle.ss_expand_formed.proofs.MainBody.{class_faultless, class_once, mains_one, numbered_body}
use Rattle.ss_expand_formed.proofs.ChainLaw.{written_at, there_at}
use Rattle.ss_expand_formed.proofs.TypesKnown.{have_result_types}
use Rattle.ss_expand_formed.proofs.Numbers.{param_types, params_types}
use Rattle.ss_expand_formed.proofs.Fit.{IsCallee}
use Rattle.ss_expand_formed.proofs.Values.{Takes}

-- ---- entries

-- the entry names a method of this class
record IsEntry (cs : List ClassTree) (e : core.EntryTree) : Type 0 where
  class : ℕ
  tree : ClassTree
  at : slice_get cs class ≡ Some tree
  number : e.body ≡ method_id cs class e.name
  listed : is_listed (method_names tree.members) e.name ≡ true

entry_of : (cs : List ClassTree) (k : ℕ) (n : List ℕ) (o : Option ClassTree) → slice_get cs k ≡ o → is_listed (method_names (members_in o)) n ≡ true → IsEntry cs (declared_entry cs k n)
entry_of cs k n None is h = absurd (false≢true h)
entry_of cs k n (Some c) is h = record { class = k; tree = c; at = is; number = refl; listed = h }

entries_of : (cs : List ClassTree) (ks : List ℕ) (m : ℕ) (e : core.EntryTree) → slice_get (table_along cs ks) m ≡ Some e → IsEntry cs e
entries_of cs [] m e h = absurd (let z : ⊥ = cc in z)
entries_of cs (k ∷ ks) m e h =
    let over = table_along cs ks in
    let names = method_names (members_at cs k) in
    let test = λ (x : List ℕ). not (is_listed (names_of over) x) in
    ⊎_elim
    (λ l. let q = map_from (overridden cs k) over l.0 e l.1 in subst (IsEntry cs) q.2 (replaced q.0 (entries_of cs ks l.0 q.0 q.1)))
    (λ r. let q = map_from (declared_entry cs k) (filter test names) r.0 e r.1 in
    let f = filtered_from test names r.0 q.0 q.1 in
    subst (IsEntry cs) q.2 (entry_of cs k q.0 (slice_get cs k) refl (any_at (bytes_eq q.0) names f.0 q.0 f.1 ((bytes_eq-Decides q.0 q.0).1 refl))))
    (append_from (map (overridden cs k) over) (added cs k over) m e h)
  where
    replaced : (e : core.EntryTree) → IsEntry cs e → IsEntry cs (overridden cs k e)
    replaced e x = ⊎_elim (λ yes. rw yes (entry_of cs k e.name (slice_get cs k) refl yes)) (λ other. rw other x) (cases_Bool (is_listed (method_names (members_at cs k)) e.name))

entries_at : (p : TypedTree) (t j : ℕ) (es : List core.EntryTree) (m : ℕ) (e : core.EntryTree) → slice_get es m ≡ Some e → slice_get (entries_from p t j es) m ≡ Some (record { name = e.name; body = entry_number p t (j + m) e.body })
entries_at p t j [] m e h = absurd (let z : ⊥ = cc in z)
entries_at p t j (x ∷ es) zero e h = let z : j + 0 ≡ j = omega arith in rw z (ap (λ (y : core.EntryTree). Some (record { name = y.name; body = entry_number p t j y.body })) (same_Some _ _ h))
entries_at p t j (x ∷ es) (suc m) e h = let s : j + suc m ≡ j + 1 + m = omega arith in rw s (entries_at p t (j + 1) es m e h)

-- ---- methods

-- the core body takes and gives what the written method does
record IsMethodOf (o : Option core.BodyTree) (b : BodyTree) : Type 0 where
  body : core.BodyTree
  there : o ≡ Some body
  params : types_of body.params ≡ param_types b.params
  result : body.result ≡ b.result
  instance_method : is_instance_method body ≡ true

written_is : (p : TypedTree) (x b : BodyTree) (bs : List BodyTree) → x ≡ b → b.flags.ctor ≡ false → b.flags.is_static ≡ false → IsMethodOf (Some (written_body p x bs)) b
written_is p x b bs same method moving = record {
  body = written_body p x bs;
  there = refl;
  params = params_types x.params ∙ ap (λ (z : BodyTree). param_types z.params) same;
  result = ap (λ (z : BodyTree). z.result) same;
  instance_method = ap (λ (z : BodyTree). not z.flags.is_static && not z.flags.ctor) same ∙ rw (moving, method) refl;
}

made_is_method : (p : TypedTree) (t m : ℕ) (b : BodyTree) → method_at p t m ≡ Some b → b.flags.ctor ≡ false → b.flags.is_static ≡ false → (o : Origin) → o ≡ Method t m → (y : core.BodyTree) → IsMade p o y → IsMethodOf (Some y) b
made_is_method p t m b h method moving o is y (WrittenConstructor eo em en eb) = absurd (let e : Constructor _ ≡ Method t m = sym eo ∙ is in let z : ⊥ = cc in z)
made_is_method p t m b h method moving o is y (ImplicitConstructor eo ec em none) = absurd (let e : Constructor _ ≡ Method t m = sym eo ∙ is in let z : ⊥ = cc in z)
made_is_method p t m b h method moving o is y (WrittenMethod {t = u} {m = n} {b = x} eo eb own) =
    let e : Method u n ≡ Method t m = sym eo ∙ is in
    let tu : u ≡ t = cc in
    let mn : n ≡ m = cc in
    let same : x ≡ b = same_Some _ _ (sym eb ∙ ap (λ k. method_at p k n) tu ∙ ap (method_at p t) mn ∙ h) in
    written_is p x b (declarations p u n) same method moving
made_is_method p t m b h method moving o is y (Wrapper {t = u} {m = n} {b = x} eo eb own em) =
    let e : Method u n ≡ Method t m = sym eo ∙ is in
    let tu : u ≡ t = cc in
    let mn : n ≡ m = cc in
    let same : x ≡ b = same_Some _ _ (sym eb ∙ ap (λ k. method_at p k n) tu ∙ ap (method_at p t) mn ∙ h) in
    record { body = y; there = refl; params = params_types x.params ∙ ap (λ (z : BodyTree). param_types z.params) same; result = ap (λ (z : BodyTree). z.result) same; instance_method = refl }

module _ (p : ProgramTree) (faultless : program_faults p ≡ []) where
  abbrev P : TypedTree
  P = resolved p

  abbrev at_number : ℕ → Option core.BodyTree
  at_number n = store.body_at (core_of p) n

  entry_names : (k : ℕ) (c : ClassTree) → slice_get p.classes k ≡ Some c → (m : ℕ) (e : core.EntryTree) → slice_get (table p.classes k) m ≡ Some e → (b : BodyTree) → body_at P e.body ≡ Some b → b.flags.ctor ≡ false → b.flags.is_static ≡ false →
      IsMethodOf (at_number (entry_number P (4 + 2 * k) m e.body)) b
  entry_names k c at m e h b is method moving =
      let t = 4 + 2 * k in
      let d = class_at p k c at in
      let in_table : slice_get (program.table P t) m ≡ Some e = ap (λ (o : Option core.ClassTree). slice_get (table_of o) m) d ∙ h in
      let here : method_at P t m ≡ Some b = ap (option_and_then (λ (z : core.EntryTree). body_at P z.body)) in_table ∙ is in
      let choice = λ (z : Bool). at_number (if z then number_of P (Method t m) else number_of_written P e.body) in
      ⊎_elim
      (λ own.
      let origin : IsOrigin P (Method t m) = OfMethod {t = t} {m = m} {e = e} d in_table own in
      let y = there p (Method t m) origin in
      let r = made_is_method P t m b here method moving (Method t m) refl y.0 (made P (Method t m) y.0 y.1) in
      subst (λ o. IsMethodOf o b) (sym (ap choice own ∙ numbered p (Method t m) origin ∙ y.1)) r)
      (λ other.
      let x = entries_of p.classes (chain_from p.classes (length p.classes) (Some k)) m e h in
      let r = named_method p x.class x.tree x.at e.name (sym (listed_methods x.tree.members e.name) ∙ x.listed) in
      let w = method_body p.classes x.class r.0 in
      let same_name : e.name ≡ r.0.name.text = (bytes_eq-Decides e.name r.0.name.text).0 r.2 in
      let body : body_at P e.body ≡ Some w = ap (body_at P) x.number ∙ r.3 in
      let once = class_once p.classes (0 + x.class) x.tree (class_faultless p.classes 0 p.classes x.class x.tree (mains_one p faultless).1 x.at) in
      let q = numbered_body p x.class x.tree x.at r.0 _ r.1 once in
      let number : number_of_written P e.body ≡ number_of_written P (method_id p.classes x.class r.0.name.text) = ap (number_of_written P) (x.number ∙ ap (method_id p.classes x.class) same_name) in
      subst (λ o. IsMethodOf o b) (sym (ap choice other ∙ ap at_number number ∙ q.1)) (written_is P w b q.0 (same_Some _ _ (sym body ∙ is)) method moving))
      (cases_Bool (is_own t (body_at P e.body)))

  pub not_null : (n : ℕ) (y : core.BodyTree) → at_number n ≡ Some y → y.result ≡ Some ty.Null → ⊥
  not_null n y h e = (let r = have_result_types p faultless n y h in let z : false ≡ true = sym (ap (λ o. are_declared (core_of p).classes (option_to_list o)) e) ∙ r in false≢true z)

  in_core_table : (k : ℕ) → k < length p.classes → (m : ℕ) (e : core.EntryTree) → slice_get (table p.classes k) m ≡ Some e → slice_get (store.table (core_of p).classes (4 + 2 * k)) m ≡ Some (record { name = e.name; body = entry_number P (4 + 2 * k) m e.body })
  in_core_table k l m e h =
      let y = there_at p k l in
      let w = written_at p k y.0 y.1 in
      let z : 0 + m ≡ m = omega arith in
      ap (λ es. slice_get es m) (ap table_of (declared_at (core_of p).classes k ∙ y.1) ∙ w.table)
      ∙ entries_at P (4 + 2 * k) 0 (table p.classes k) m e h ∙ ap (λ i. Some (record { name = e.name; body = entry_number P (4 + 2 * k) i e.body })) z

  -- a call of a method by its place in a table enters one that takes and gives the same
  pub method_takes : (t m : ℕ) (r : Option Ty) → IsCallee (method_at P t m) false r → Takes (where_body is_instance_method (store.method_at (core_of p) t m)) (param_types_in (method_at P t m)) r
  method_takes t m r callee =
      let d = method_declared P t m callee.body callee.is in
      let s = source_of p t d.0 d.1 in
      let x = entry_is P (slice_get (program.table P t) m) callee.body callee.is in
      let k = s.place in
      let e = x.0 in
      let here : slice_get (table p.classes k) m ≡ Some e = sym (ap (λ (o : Option core.ClassTree). slice_get (table_of o) m) (class_at p k s.tree s.there)) ∙ sym (ap (λ u. slice_get (program.table P u) m) s.number) ∙ x.1 in
      let body : body_at P e.body ≡ Some callee.body = sym (ap (option_and_then (λ (z : core.EntryTree). body_at P z.body)) x.1) ∙ callee.is in
      let q = entry_names k s.tree s.there m e here callee.body body callee.no_constructor callee.static_as in
      let l = slice_get_within p.classes k s.tree s.there in
      let number = entry_number P (4 + 2 * k) m e.body in
      let at : store.method_at (core_of p) t m ≡ Some q.body = ap (λ u. store.method_at (core_of p) u m) s.number ∙ ap (option_and_then (λ (z : core.EntryTree). at_number z.body)) (in_core_table k l m e here) ∙ q.there in
      record {
        body = q.body;
        is = ap (where_body is_instance_method) at ∙ ap (λ c. if c then Some q.body else None) q.instance_method;
        params = q.params ∙ sym (ap param_types_in callee.is);
        result = q.result ∙ callee.result;
        no_null = λ n. not_null number q.body q.there (q.result ∙ callee.result ∙ n);
      }

  -- a call of a method of the class above enters one that takes and gives the same
  pub base_takes : (y : core.BodyTree) (u m : ℕ) (r : Option Ty) → chain.above (core_of p).classes y.class ≡ u → y.flags.is_static ≡ false → IsCallee (method_at P u m) false r →
      Takes (callee_of (core_of p) y (Base (number_in_table P u m))) (param_types_in (method_at P u m)) r
  base_takes y u m r over moving callee =
      let d = method_declared P u m callee.body callee.is in
      let s = source_of p u d.0 d.1 in
      let x = entry_is P (slice_get (program.table P u) m) callee.body callee.is in
      let k = s.place in
      let e = x.0 in
      let here : slice_get (table p.classes k) m ≡ Some e = sym (ap (λ (o : Option core.ClassTree). slice_get (table_of o) m) (class_at p k s.tree s.there)) ∙ sym (ap (λ v. slice_get (program.table P v) m) s.number) ∙ x.1 in
      let body : body_at P e.body ≡ Some callee.body = sym (ap (option_and_then (λ (z : core.EntryTree). body_at P z.body)) x.1) ∙ callee.is in
      let q = entry_names k s.tree s.there m e here callee.body body callee.no_constructor callee.static_as in
      let l = slice_get_within p.classes k s.tree s.there in
      let number = entry_number P (4 + 2 * k) m e.body in
      let is_number : number_in_table P u m ≡ number = ap (entry_number_in P u m) x.1 ∙ ap (λ v. entry_number P v m e.body) s.number in
      let listed : list_any (λ (z : core.EntryTree). z.body == number) (store.table (core_of p).classes (4 + 2 * k)) ≡ true = any_at (λ (z : core.EntryTree). z.body == number) (store.table (core_of p).classes (4 + 2 * k)) m (record { name = e.name; body = number }) (in_core_table k l m e here) (eq-eqb number number refl) in
      let stands : stands_in_table (core_of p) (chain.above (core_of p).classes y.class) number ≡ true = ap (λ v. stands_in_table (core_of p) v number) (over ∙ s.number) ∙ listed in
      let whole : (is_instance_method q.body && not y.flags.is_static && stands_in_table (core_of p) (chain.above (core_of p).classes y.class) number) ≡ true = and_from _ _ (and_from _ _ q.instance_method (ap not moving)) stands in
      record {
        body = q.body;
        is = ap (λ n. callee_of (core_of p) y (Base n)) is_number
            ∙ ap (where_body (λ (z : core.BodyTree). is_instance_method z && not y.flags.is_static && stands_in_table (core_of p) (chain.above (core_of p).classes y.class) number)) q.there
            ∙ ap (λ c. if c then Some q.body else None) whole;
        params = q.params ∙ sym (ap param_types_in callee.is);
        result = q.result ∙ callee.result;
        no_null = λ n. not_null number q.body q.there (q.result ∙ callee.result ∙ n);
      }
