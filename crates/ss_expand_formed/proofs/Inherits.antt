-- What a wrapper calls: the method that the class inherits stands at the same place of the table of the class above.
use Rattle.std.proofs.Common.{◌≡◌, ℕ, ◌+◌, ◌*◌, ◌<◌, List, [], length, map, true, false, Option, Some, None, refl, sym, ◌∙◌, ap, subst, ⊎_elim}
use Rattle.std.specs.Prelude.{not, ◌==◌, ◌&&◌, ◌||◌, slice_get, filter, option_and_then}
use Rattle.std.specs.Str.{bytes_eq}
use Rattle.std.proofs.lemmas.Slice.Eq.{bytes_eq-Decides}
use Rattle.std.proofs.lemmas.Option.{same_Some, slice_get_within}
use Rattle.std.proofs.lemmas.Bool.{and_parts, cases_Bool, eq-eqb, false≢true}
use Rattle.ss_core.specs.Tree as core
use Rattle.ss_ast.specs.Programs.{ClassTree, ProgramTree}
use Rattle.ss_tables.specs.Classes.{members_in, members_at, above}
use Rattle.ss_typed.specs.Tree.{BodyTree, TypedTree}
use Rattle.ss_resolver_names_rules.specs.Programs.{program_faults}
use Rattle.ss_resolver_names_rules.specs.Faults.{is_listed}
use Rattle.ss_resolver_rules.specs.Numbers.{number_or_object, method_id, names_of, method_names, declared_entry, overridden, added, table}
use Rattle.ss_resolver_rules.specs.Programs.{resolved}
use Rattle.ss_expand_rules.specs.Program as program
use Rattle.ss_expand_rules.specs.Program.{method_at, above_of, table_of, Method, is_declared_by, is_wrapped, is_own, number_in_table}
use Rattle.ss_typed.specs.Lookups.{body_at, param_types_in}
use Rattle.ss_store_rules.specs.Typed.{callee_of}
use Rattle.ss_expand_formed.specs.Laws.{core_of}
use Rattle.ss_expand_formed.proofs.Facts.{not_true}
use Rattle.ss_expand_formed.proofs.Searching.{any_at, filtered_from}
use Rattle.ss_expand_formed.proofs.Places.{source_of, class_at, named_method, listed_methods}
use Rattle.ss_expand_formed.proofs.Entries.{map_from, method_entry}
use Rattle.ss_expand_formed.proofs.Cycles.{above_within}
use Rattle.ss_expand_formed.proofs.Numbered.{IsOrigin, OfMethod}
use Rattle.ss_expand_formed.proofs.Levels.{above_at, above_stays}
use Rattle.ss_expand_formed.proofs.Inherited.{table_of_below, table_of_first}
use Rattle.ss_expand_formed.proofs.Numbers.{param_types}
use Rattle.ss_expand_formed.proofs.Fit.{IsCallee}
use Rattle.ss_expand_formed.proofs.Values.{Takes}
use Rattle.ss_expand_formed.proofs.Callees.{tree_at}
use Rattle.ss_expand_formed.proofs.StatementsTables.{base_takes}
use Rattle.ss_expand_formed.proofs.StatementsStatics.{append_place}

module _ (p : ProgramTree) (faultless : program_faults p ≡ []) where
  abbrev P : TypedTree
  P = resolved p

  own_class : (k : ℕ) (c : ClassTree) → slice_get p.classes k ≡ Some c → (n : List ℕ) → is_listed (method_names c.members) n ≡ true → (b : BodyTree) → body_at P (method_id p.classes k n) ≡ Some b → b.class ≡ 4 + 2 * k
  own_class k c at n listed b is =
      let r = named_method p k c at n (sym (listed_methods c.members n) ∙ listed) in
      ap (λ (x : BodyTree). x.class) (same_Some _ _ (sym is ∙ r.3))

  module _ (k : ℕ) (c : ClassTree) (at : slice_get p.classes k ≡ Some c) (m : ℕ) (e : core.EntryTree) (h : slice_get (table p.classes k) m ≡ Some e) (b : BodyTree) (is : body_at P e.body ≡ Some b) (other : (b.class == 4 + 2 * k) ≡ false) where
    within : k < length p.classes
    within = slice_get_within p.classes k c at

    declared_not : (n : List ℕ) → is_listed (method_names (members_at p.classes k)) n ≡ true → declared_entry p.classes k n ≡ e → ⊥
    declared_not n listed same =
        let body : body_at P (method_id p.classes k n) ≡ Some b = ap (λ (x : core.EntryTree). body_at P x.body) same ∙ is in
        let here : is_listed (method_names c.members) n ≡ true = subst (λ ms. is_listed (method_names ms) n ≡ true) (ap members_in at) listed in
        false≢true (sym other ∙ eq-eqb b.class (4 + 2 * k) (own_class k c at n here b body))

    added_not : (es : List core.EntryTree) (i : ℕ) → slice_get (added p.classes k es) i ≡ Some e → ⊥
    added_not es i g =
        let names = method_names (members_at p.classes k) in
        let test = λ (x : List ℕ). not (is_listed (names_of es) x) in
        let w = map_from (declared_entry p.classes k) (filter test names) i e g in
        let f = filtered_from test names i w.0 w.1 in
        declared_not w.0 (any_at (bytes_eq w.0) names f.0 w.0 f.1 ((bytes_eq-Decides w.0 w.0).1 refl)) w.2

    -- the class above has the same entry at this place
    record IsAbove : Type 0 where
      class : ℕ
      over : above p.classes k ≡ Some class
      entry : slice_get (table p.classes class) m ≡ Some e

    above_by : (o : Option ℕ) → above p.classes k ≡ o → IsAbove
    above_by None over = absurd (added_not [] m (sym (ap (λ es. slice_get es m) (table_of_first p faultless k within over)) ∙ h))
    above_by (Some j) over =
        let es = table p.classes j in
        ⊎_elim
        (λ front.
        let w = map_from (overridden p.classes k) es m e front in
        ⊎_elim
        (λ yes. absurd (declared_not w.0.name yes (rw yes at w.2)))
        (λ no. let same : w.0 ≡ e = rw no at w.2 in record { class = j; over = over; entry = w.1 ∙ ap Some same })
        (cases_Bool (is_listed (method_names (members_at p.classes k)) w.0.name)))
        (λ behind. absurd (added_not es behind.0 behind.2))
        (append_place (map (overridden p.classes k) es) (added p.classes k es) m e (sym (ap (λ xs. slice_get xs m) (table_of_below p faultless k j within over)) ∙ h))

    is_above : IsAbove
    is_above = above_by (above p.classes k) refl

  -- the class above has the method too
  base_there : (t m : ℕ) (b : BodyTree) → IsOrigin P (Method t m) → method_at P t m ≡ Some b → is_declared_by t (Some b) ≡ false → method_at P (above_of P t) m ≡ Some b
  base_there t m b (OfMethod {c = c} {e = e} d there own) at other =
      let body : body_at P e.body ≡ Some b = sym (ap (option_and_then (λ (z : core.EntryTree). body_at P z.body)) there) ∙ at in
      let s = source_of p t c d in
      let k = s.place in
      let here : slice_get (table p.classes k) m ≡ Some e = sym (ap (λ (o : Option core.ClassTree). slice_get (table_of o) m) (class_at p k s.tree s.there)) ∙ sym (ap (λ u. slice_get (program.table P u) m) s.number) ∙ there in
      let a = is_above k s.tree s.there m e here b body (subst (λ u. (b.class == u) ≡ false) s.number other) in
      let up : above_of P t ≡ 4 + 2 * a.class = ap (above_of P) s.number ∙ above_at p faultless k (slice_get_within p.classes k s.tree s.there) ∙ ap number_or_object a.over in
      let z = tree_at p.classes a.class (above_within p.classes k a.class a.over) in
      let in_table : slice_get (program.table P (4 + 2 * a.class)) m ≡ Some e = ap (λ (o : Option core.ClassTree). slice_get (table_of o) m) (class_at p a.class z.0 z.1) ∙ a.entry in
      ap (λ u. method_at P u m) up ∙ ap (option_and_then (λ (x : core.EntryTree). body_at P x.body)) in_table ∙ body

  -- what has a wrapper is no static method
  base_callee : (t m : ℕ) (b : BodyTree) → IsOrigin P (Method t m) → method_at P t m ≡ Some b → is_declared_by t (Some b) ≡ false → IsCallee (method_at P (above_of P t) m) false b.result
  base_callee t m b (OfMethod {c = c} {e = e} d there own) at other =
      let body : body_at P e.body ≡ Some b = sym (ap (option_and_then (λ (z : core.EntryTree). body_at P z.body)) there) ∙ at in
      let wrapped : is_wrapped (Some b) ≡ true = sym (ap (λ z. z || is_wrapped (Some b)) other) ∙ sym (ap (is_own t) body) ∙ own in
      let instance_method = and_parts (not b.flags.is_static && not b.flags.pure) (not b.flags.no_default_contract) wrapped in
      let i = method_entry p t m e there in
      record {
        body = b;
        is = base_there t m b (OfMethod {c = c} {e = e} d there own) at other;
        static_as = not_true b.flags.is_static (and_parts (not b.flags.is_static) (not b.flags.pure) instance_method.0).0;
        no_constructor = ap (λ (x : BodyTree). x.flags.ctor) (same_Some _ _ (sym body ∙ i.is));
        result = refl;
      }

  -- the call in a wrapper enters what takes and gives the same
  pub inherited_takes : (t m : ℕ) (b : BodyTree) → IsOrigin P (Method t m) → method_at P t m ≡ Some b → is_declared_by t (Some b) ≡ false → (y : core.BodyTree) → y.class ≡ t → y.flags.is_static ≡ false →
      Takes (callee_of (core_of p) y (core.Base (number_in_table P (above_of P t) m))) (param_types b.params) b.result
  inherited_takes t m b origin at other y class moving =
      let callee = base_callee t m b origin at other in
      let over = sym (above_stays p faultless y.class) ∙ ap (above_of P) class in
      subst (λ ts. Takes (callee_of (core_of p) y (core.Base (number_in_table P (above_of P t) m))) ts b.result) (ap param_types_in (base_there t m b origin at other)) (base_takes p faultless y (above_of P t) m b.result over moving callee)
