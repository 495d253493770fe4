-- The translation law: the parts of an expression are true exactly where it has a value, and what it means has that value.
use Rattle.std.proofs.Common.{◌≡◌, ℕ, List, [], ◌∷◌, ◌++◌, length, Bool, true, ◌&&◌, Option, Some, None, Ok, refl, sym, subst, append-nil, arith}
use Rattle.std.specs.Prelude.{slice_get, nat_lt, is_some, option_map, unwrap_or}
use Rattle.std.proofs.lemmas.Bool.{false≢true, and_parts}
use Rattle.std.proofs.lemmas.Option.{slice_get_within}
use Rattle.ss_core.specs.declared.names.Ty.{Ty}
use Rattle.ss_core.specs.declared.names.Ty.TheVariants as ty
use Rattle.ss_core.specs.Tree.{ExprTree, IntExpr, BoolExpr, NullExpr, LocalExpr, FieldExpr, ElementExpr, LengthExpr, NegateExpr, NotExpr, BinaryExpr, ImpliesExpr, IffExpr, IsExpr, AsExpr, CastExpr, OldExpr, QuantifiedExpr, StateExpr, OwnersExpr, DefaultExpr}
use Rattle.ss_core.specs.Chain.{below, is_class, all_fields}
use Rattle.ss_core.specs.Types.{nullable}
use Rattle.ss_store_rules.specs.declared.Value.{Value as ObjectValue}
use Rattle.ss_store_rules.specs.declared.Value.TheVariants as value
use Rattle.ss_store_rules.specs.Numbers.{fits}
use Rattle.ss_store_rules.specs.Reads.{as_int}
use Rattle.ss_store_rules.specs.Types.{class_type, is_int, is_bool, is_reference, has_class, is_word, is_owners_word, element_of, type_of}
use Rattle.ss_store_rules.specs.Changes.{is_array}
use Rattle.ss_store_rules.specs.Good.{AreValues}
use Rattle.ss_store_rules.specs.Values as run
use Rattle.ss_logic.specs.Values.{Heap, Value, whole, truth, thing, store, null, Structure}
use Rattle.ss_logic.specs.Terms.{value_of}
use Rattle.ss_logic.specs.Objects.{object_in, objects_of}
use Rattle.ss_logic.specs.Shapes.{number, null_term}
use Rattle.ss_logic.specs.Express.{truth_term, Context, at_entry, with_bound, local_meant, element_sort, meant, defined}
use Rattle.ss_machine_typed.specs.Settings.{IsGoodSetting}
use Rattle.ss_machine_typed.proofs.Outcomes.{int_typed}
use Rattle.ss_machine_typed.proofs.Sound.{old_setting}
use Rattle.ss_logic_means.specs.Means.{standing}
use Rattle.ss_logic_means.specs.Scenes.{setting_of, StandsAmong}
use Rattle.ss_logic_means.proofs.Denoting.{V, D, R, one_denotes}
use Rattle.ss_logic_means.proofs.Operations.{not_reads, implies_reads}
use Rattle.ss_logic_means.proofs.Arithmetic.{negate_reads, iff_reads}
use Rattle.ss_logic_means.proofs.Classes.{is_reads, as_reads}
use Rattle.ss_logic_means.proofs.Reading.{cast_reads, length_reads}
use Rattle.ss_logic_means.proofs.States.{field_reads}
use Rattle.ss_logic_means.proofs.Elements.{element_reads}
use Rattle.ss_logic_means.proofs.Owners.{HasOwners}
use Rattle.ss_logic_means.proofs.Typed as typed
use Rattle.ss_logic_means.proofs.Operands.{three_parts, where_some, where_bool, int_some, bool_some, reference_some, class_reference, int_or_bool, reference_or_bool, field_from, elements_from, element_reference, are_operands, operation_reads}
use Rattle.ss_logic_means.proofs.Everywhere.{reads_plainly}
use Rattle.ss_logic_means.proofs.Standing.{old_stands, more_stands, bound_stands, bound_good, range_fits, get_found, length_more}
use Rattle.ss_logic_means.proofs.Asking.{word_read, owners_word_read, quantifier_read}

module _ (among : ℕ → Bool) (m : Structure) (now entry : Heap) where
  -- ---- what a context gives
  module _ (c : Context) (locals : List ObjectValue) (k : Bool) (good : IsGoodSetting (setting_of m c now entry locals) c.types k) (e : List Value) (st : StandsAmong among m c now entry locals e) where
    is_now : V c.classes m e c.now ≡ store now
    is_now = subst (λ w. value_of c.classes m w c.now ≡ store now) (append-nil e) (st.now [])

    is_entry : V c.classes m e c.entry ≡ store entry
    is_entry = subst (λ w. value_of c.classes m w c.entry ≡ store entry) (append-nil e) (st.entry [])

    values_now : (o : ℕ) → nat_lt o now.next ≡ true → AreValues c.classes (objects_of c.classes m.table now) (object_in c.classes m.table now o)
    values_now = typed.good_values c.classes m.table now good.store

    values_then : (o : ℕ) → nat_lt o entry.next ≡ true → AreValues c.classes (objects_of c.classes m.table entry) (object_in c.classes m.table entry o)
    values_then = typed.good_values c.classes m.table entry good.entry

    owners_now : HasOwners now
    owners_now = typed.good_owners c.classes m.table now good.store

    owners_then : HasOwners entry
    owners_then = typed.good_owners c.classes m.table entry good.entry

    still : (o : ℕ) → nat_lt o entry.next ≡ true → nat_lt o now.next ≡ true
    still = typed.still_allocated c.classes m.table now entry good.older

    typed_local : (a : Option Ty) → is_some (option_map nullable a) ≡ true → (t : Ty) × (a ≡ Some t)
    typed_local None h = absurd (false≢true h)
    typed_local (Some t) h = (t, refl)

    local_reads : (x : ℕ) → among x ≡ true → is_some (option_map nullable (slice_get c.types x)) ≡ true → R c.classes m e [] (local_meant c x) (Ok (run.local_value (setting_of m c now entry locals) x))
    local_reads x asked h =
        let t = typed_local (slice_get c.types x) h in
        let within = slice_get_within c.types x t.0 t.1 in
        let count = good.count in
        let v = get_found locals x (omega (arith, within, count)) in
        let there = subst (λ w. D c.classes m w (local_meant c x) (standing v.0)) (append-nil e) (st.locals x v.0 asked v.1 []) in
        (tt, subst (λ o. D c.classes m e (local_meant c x) (standing (unwrap_or o value.Null))) (sym v.1) there)

    -- a number of 32 bits
    int_fits : (x : ExprTree) → is_int (type_of c.classes c.types x) ≡ true → (u : ObjectValue) → run.value_of x (setting_of m c now entry locals) ≡ Ok u → fits (as_int u) ≡ true
    int_fits x h u is = int_typed c.classes (objects_of c.classes m.table now) u (typed.gives_int m (setting_of m c now entry locals) now refl c.types k good x h u is)

  -- The premise on the values of the bound names: an expression of another type than that of truth values may stand after more of them.
  pub translated : (x : ExprTree) (c : Context) (locals : List ObjectValue) (k : Bool) → IsGoodSetting (setting_of m c now entry locals) c.types k → (e : List Value) → StandsAmong among m c now entry locals e →
      reads_plainly among x ≡ true → is_some (type_of c.classes c.types x) ≡ true → (is_bool (type_of c.classes c.types x) ≡ true → length e ≡ c.bound) →
      R c.classes m e (defined x c) (meant x c) (run.value_of x (setting_of m c now entry locals))
  translated (IntExpr p n) c locals k good e st none is at = (tt, one_denotes c.classes m e (number n) (whole n) refl)
  translated (BoolExpr p b) c locals k good e st none is at = (tt, one_denotes c.classes m e (truth_term b) (truth b) refl)
  translated (NullExpr p) c locals k good e st none is at = (tt, one_denotes c.classes m e null_term (thing null) refl)
  translated (LocalExpr p x) c locals k good e st none is at = local_reads c locals k good e st x none is
  translated (FieldExpr p x f) c locals k good e st none is at =
      let s = setting_of m c now entry locals in
      let a = type_of c.classes c.types x in
      let d = field_from c.classes a (slice_get (all_fields c.classes) f) is in
      let r = class_reference (λ u. below c.classes u d.0.class) a d.2 in
      field_reads c.classes m e now entry c.entry (is_entry c locals k good e st) c.now (is_now c locals k good e st) (values_now c locals k good e st) (values_then c locals k good e st) c.inside_old p
      (defined x c) (meant x c) (run.value_of x s) f (typed.field_has c.classes f d.0 d.1) (typed.field_not_null c.classes good.chain f d.0 d.1) (typed.gives_field m s now refl c.types k good x f d.0 d.1 d.2)
      (translated x c locals k good e st none (reference_some a r) (λ b. absurd (reference_or_bool a r b)))
  translated (ElementExpr p x i) c locals k good e st none is at =
      let s = setting_of m c now entry locals in
      let a = type_of c.classes c.types x in
      let n = type_of c.classes c.types i in
      let both = elements_from c.classes a n is in
      let r = element_reference c.classes a both.1 in
      let parts = and_parts (reads_plainly among x) (reads_plainly among i) none in
      element_reads c.classes m e now entry c.now c.entry (is_now c locals k good e st) (is_entry c locals k good e st) (values_now c locals k good e st) (values_then c locals k good e st) c.inside_old p (element_sort (element_of c.classes a))
      (defined x c) (defined i c) (meant x c) (meant i c) (run.value_of x s) (run.value_of i s) (typed.gives_elements m s now refl c.types k good x both.1) (typed.gives_whole m s now refl c.types k good i both.0)
      (translated x c locals k good e st parts.0 (reference_some a r) (λ b. absurd (reference_or_bool a r b)))
      (translated i c locals k good e st parts.1 (int_some n both.0) (λ b. absurd (int_or_bool n both.0 b)))
  translated (LengthExpr p x) c locals k good e st none is at =
      let s = setting_of m c now entry locals in
      let a = type_of c.classes c.types x in
      let array = where_some (has_class (is_array c.classes) a) ty.Int is in
      let r = class_reference (is_array c.classes) a array in
      length_reads c.classes m e now p (defined x c) (meant x c) (run.value_of x s) (typed.gives_array m s now refl c.types k good x array)
      (translated x c locals k good e st none (reference_some a r) (λ b. absurd (reference_or_bool a r b)))
  translated (NegateExpr p x) c locals k good e st none is at =
      let s = setting_of m c now entry locals in
      let a = type_of c.classes c.types x in
      let n = where_some (is_int a) ty.Int is in
      negate_reads c.classes m e p (defined x c) (meant x c) (run.value_of x s) (typed.gives_whole m s now refl c.types k good x n)
      (translated x c locals k good e st none (int_some a n) (λ b. absurd (int_or_bool a n b)))
  translated (NotExpr p x) c locals k good e st none is at =
      let s = setting_of m c now entry locals in
      let a = type_of c.classes c.types x in
      let b = where_some (is_bool a) ty.Bool is in
      not_reads c.classes m e (defined x c) (meant x c) (run.value_of x s) (typed.gives_bool m s now refl c.types k good x b)
      (translated x c locals k good e st none (bool_some a b) (λ _. at (where_bool (is_bool a) b)))
  translated (BinaryExpr p o x y) c locals k good e st none is at =
      let s = setting_of m c now entry locals in
      let a = type_of c.classes c.types x in
      let b = type_of c.classes c.types y in
      let parts = and_parts (reads_plainly among x) (reads_plainly among y) none in
      let operands = are_operands o a b is in
      operation_reads c.classes m e p (defined x c) (defined y c) (meant x c) (meant y c) (run.value_of x s) (run.value_of y s)
      (translated x c locals k good e st parts.0 operands.left (λ h. at (operands.left_bool h)))
      (translated y c locals k good e st parts.1 operands.right (λ h. at (operands.right_bool h)))
      a b (typed.gives_bool m s now refl c.types k good x) (typed.gives_bool m s now refl c.types k good y) (typed.gives_whole m s now refl c.types k good x) (typed.gives_whole m s now refl c.types k good y) o is
  translated (ImpliesExpr p x y) c locals k good e st none is at =
      let s = setting_of m c now entry locals in
      let a = type_of c.classes c.types x in
      let b = type_of c.classes c.types y in
      let parts = and_parts (reads_plainly among x) (reads_plainly among y) none in
      let holds = where_some (is_bool a && is_bool b) ty.Bool is in
      let both = and_parts (is_bool a) (is_bool b) holds in
      implies_reads c.classes m e (defined x c) (defined y c) (meant x c) (meant y c) (run.value_of x s) (run.value_of y s) (typed.gives_bool m s now refl c.types k good x both.0) (typed.gives_bool m s now refl c.types k good y both.1)
      (translated x c locals k good e st parts.0 (bool_some a both.0) (λ _. at (where_bool (is_bool a && is_bool b) holds)))
      (translated y c locals k good e st parts.1 (bool_some b both.1) (λ _. at (where_bool (is_bool a && is_bool b) holds)))
  translated (IffExpr p x y) c locals k good e st none is at =
      let s = setting_of m c now entry locals in
      let a = type_of c.classes c.types x in
      let b = type_of c.classes c.types y in
      let parts = and_parts (reads_plainly among x) (reads_plainly among y) none in
      let holds = where_some (is_bool a && is_bool b) ty.Bool is in
      let both = and_parts (is_bool a) (is_bool b) holds in
      iff_reads c.classes m e (defined x c) (defined y c) (meant x c) (meant y c) (run.value_of x s) (run.value_of y s)
      (translated x c locals k good e st parts.0 (bool_some a both.0) (λ _. at (where_bool (is_bool a && is_bool b) holds)))
      (translated y c locals k good e st parts.1 (bool_some b both.1) (λ _. at (where_bool (is_bool a && is_bool b) holds)))
      (typed.gives_bool m s now refl c.types k good x both.0) (typed.gives_bool m s now refl c.types k good y both.1)
  translated (IsExpr p x t) c locals k good e st none is at =
      let s = setting_of m c now entry locals in
      let a = type_of c.classes c.types x in
      let r = (and_parts (is_reference a) (is_class c.classes t) (where_some (is_reference a && is_class c.classes t) ty.Bool is)).0 in
      is_reads c.classes m e now (defined x c) (meant x c) (run.value_of x s) (typed.gives_reference m s now refl c.types k good x r)
      (translated x c locals k good e st none (reference_some a r) (λ b. absurd (reference_or_bool a r b))) t
  translated (AsExpr p x t) c locals k good e st none is at =
      let s = setting_of m c now entry locals in
      let a = type_of c.classes c.types x in
      let r = (and_parts (is_reference a) (is_class c.classes t) (where_some (is_reference a && is_class c.classes t) (class_type t) is)).0 in
      as_reads c.classes m e now (defined x c) (meant x c) (run.value_of x s) (typed.gives_reference m s now refl c.types k good x r)
      (translated x c locals k good e st none (reference_some a r) (λ b. absurd (reference_or_bool a r b))) t
  translated (CastExpr p t non_null x) c locals k good e st none is at =
      let s = setting_of m c now entry locals in
      let a = type_of c.classes c.types x in
      let r = (and_parts (is_reference a) (is_class c.classes t) (where_some (is_reference a && is_class c.classes t) (class_type t) is)).0 in
      cast_reads c.classes m e now p t non_null (defined x c) (meant x c) (run.value_of x s) (typed.gives_reference m s now refl c.types k good x r)
      (translated x c locals k good e st none (reference_some a r) (λ b. absurd (reference_or_bool a r b)))
  translated (OldExpr p x) c locals k good e st none is at =
      translated x (at_entry c) locals k (old_setting (setting_of m c now entry locals) c.types k good) e (old_stands among m now entry c locals e st) none is at
  translated (QuantifiedExpr p q name low high x) c locals k good e st none is at =
      let s = setting_of m c now entry locals in
      let a = type_of c.classes c.types low in
      let b = type_of c.classes c.types high in
      let t = type_of c.classes (c.types ++ ty.Int ∷ []) x in
      let parts = three_parts (reads_plainly among low) (reads_plainly among high) (reads_plainly among x) none in
      let holds = where_some (is_int a && is_int b && is_bool t) ty.Bool is in
      let all = and_parts (is_int a && is_int b) (is_bool t) holds in
      let ints = and_parts (is_int a) (is_int b) all.0 in
      let placed = at (where_bool (is_int a && is_int b && is_bool t) holds) in
      let whole_low = typed.gives_whole m s now refl c.types k good low ints.0 in
      let whole_high = typed.gives_whole m s now refl c.types k good high ints.1 in
      quantifier_read m c e placed (defined low c) (defined high c) (meant low c) (meant high c) (run.value_of low s) (run.value_of high s) whole_low whole_high
      (translated low c locals k good e st parts.0 (int_some a ints.0) (λ h. absurd (int_or_bool a ints.0 h)))
      (translated high c locals k good e st parts.1 (int_some b ints.1) (λ h. absurd (int_or_bool b ints.1 h)))
      (λ i. translated low c locals k good (e ++ whole i ∷ []) (more_stands among m now entry c locals e st i) parts.0 (int_some a ints.0) (λ h. absurd (int_or_bool a ints.0 h)))
      (λ i. translated high c locals k good (e ++ whole i ∷ []) (more_stands among m now entry c locals e st i) parts.1 (int_some b ints.1) (λ h. absurd (int_or_bool b ints.1 h)))
      q (defined x (with_bound c)) (meant x (with_bound c)) (λ i. run.value_of x (run.with_bound s i)) (λ u w is_low is_high i from to.
      let fit = range_fits (as_int u) (as_int w) i (int_fits c locals k good e st low ints.0 u is_low) (int_fits c locals k good e st high ints.1 w is_high) from to in
      let inner = bound_good s c.types k good i fit in (
        translated x (with_bound c) (locals ++ value.Int i ∷ []) k inner (e ++ whole i ∷ []) (bound_stands among m now entry c locals e st i placed) parts.2 (bool_some t all.1) (λ _. let more = length_more e (whole i) in omega (arith, more, placed)),
        typed.gives_bool m (run.with_bound s i) now refl (c.types ++ ty.Int ∷ []) k inner x all.1,
      ))
  translated (StateExpr p w x) c locals k good e st none is at =
      let s = setting_of m c now entry locals in
      let a = type_of c.classes c.types x in
      let r = (and_parts (is_reference a) (is_word c.classes w) (where_some (is_reference a && is_word c.classes w) ty.Bool is)).0 in
      word_read m now entry c locals e (is_now c locals k good e st) (is_entry c locals k good e st) (still c locals k good e st) p (defined x c) (meant x c) (run.value_of x s) (typed.gives_reference m s now refl c.types k good x r)
      (translated x c locals k good e st none (reference_some a r) (λ b. absurd (reference_or_bool a r b))) w
  translated (OwnersExpr p w x y) c locals k good e st none is at =
      let s = setting_of m c now entry locals in
      let a = type_of c.classes c.types x in
      let b = type_of c.classes c.types y in
      let parts = and_parts (reads_plainly among x) (reads_plainly among y) none in
      let both = and_parts (is_reference a) (is_reference b) (and_parts (is_reference a && is_reference b) (is_owners_word c.classes w) (where_some (is_reference a && is_reference b && is_owners_word c.classes w) ty.Bool is)).0 in
      owners_word_read m now entry c locals e (is_now c locals k good e st) (is_entry c locals k good e st) (still c locals k good e st) (owners_now c locals k good e st) (owners_then c locals k good e st) p
      (defined x c) (defined y c) (meant x c) (meant y c) (run.value_of x s) (run.value_of y s) (typed.gives_reference m s now refl c.types k good x both.0) (typed.gives_reference m s now refl c.types k good y both.1)
      (translated x c locals k good e st parts.0 (reference_some a both.0) (λ h. absurd (reference_or_bool a both.0 h)))
      (translated y c locals k good e st parts.1 (reference_some b both.1) (λ h. absurd (reference_or_bool b both.1 h))) w
  translated (DefaultExpr p d) c locals k good e st none is at = absurd (false≢true none)
