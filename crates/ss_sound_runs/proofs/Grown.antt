-- Stores that grow: nothing goes away, and an owner that is a pair stays.
use Rattle.std.proofs.Common.{◌≡◌, ℕ, ℤ, pos, negsuc, List, [], ◌∷◌, ◌++◌, length, Bool, true, false, not, ◌==◌, Option, Ok, Err, refl, sym, ◌∙◌, ap, subst}
use Rattle.std.specs.Prelude.{if◌then◌else◌, Result, nat_lt}
use Rattle.std.specs.List.{list_all}
use Rattle.std.proofs.lemmas.Bool.{true≢false}
use Rattle.ss_core.specs.declared.names.Place.{Place}
use Rattle.ss_core.specs.declared.names.Kind.{Kind}
use Rattle.ss_core.specs.declared.names.Kind.TheVariants as kind
use Rattle.ss_core.specs.declared.names.Mark.{Mark}
use Rattle.ss_core.specs.declared.names.Mark.TheVariants as mark
use Rattle.ss_core.specs.Tree.{ClassTree, ExprTree, CalleeTree, Dispatched, Static, Base, BaseConstructor, StmtTree, AssignStmt, WriteStmt, WriteElementStmt, NewStmt, NewArrayStmt, CallStmt, ReadyStmt, IfStmt, LoopStmt, UnpackStmt, PackStmt, AssertStmt, AssumeStmt, PrintStmt, PrintTextStmt, ReturnStmt, BodyTree, CoreTree}
use Rattle.ss_core.specs.Chain.{above}
use Rattle.ss_store_rules.specs.declared.Value.{Value}
use Rattle.ss_store_rules.specs.declared.Value.TheVariants as value
use Rattle.ss_store_rules.specs.declared.Owner.{Owner}
use Rattle.ss_store_rules.specs.declared.Owner.TheVariants as owner
use Rattle.ss_store_rules.specs.Store.{Object}
use Rattle.ss_store_rules.specs.Reads.{as_int, is_group, is_in_group, is_pair, same_owner, object_at}
use Rattle.ss_store_rules.specs.Values.{local_value, value_of, holds}
use Rattle.ss_store_rules.specs.Admissible.{invariants_hold}
use Rattle.ss_store_rules.specs.Typed.{body_at, constructor_of, method_at}
use Rattle.ss_store_rules.specs.Changes.{packed, field_class, field_mark, check, at_object, changed, unpacked, unpacking, unpack_of, repacked, may_be_committed, packing, pack_of, regrouped, captured, joined, joined_apart, owned_by, written, owners_for, with_owners, then_written, writing, write_of, element_written, writing_element, write_element_of, new_object, new_object_of, new_array, new_array_of, made_ready, ready_of}
use Rattle.ss_store_rules.specs.Good.{Invariants}
use Rattle.ss_store_rules.proofs.Objects.{becomes, old_get, same_object}
use Rattle.ss_store_rules.proofs.Owners.{check_ok, at_object_ok, on_object_ok}
use Rattle.ss_machine_rules.specs.Frame.{this_of}
use Rattle.ss_machine_rules.specs.States.{Due, Statement, Test, dues, Target, ToCall, ToNew, Frame, Goes, scene}
use Rattle.ss_machine_rules.specs.Steps as steps
use Rattle.ss_machine_typed.specs.Older.{IsOlder}
use Rattle.ss_machine_typed.specs.Changes.{IsChanged, Unpack, Pack, Write, WriteElement, NewObject, NewArray, Ready}
use Rattle.ss_machine_typed.proofs.Older.{older_self, older_trans, older_unpack, older_pack, older_write_element, older_new_object, older_new_array, older_ready}
use Rattle.ss_sound_outcomes.specs.Points.{HasGrown}
use Rattle.ss_sound_runs.proofs.Goes.{GoesTo, goes_to, value_goes, values_goes, change_goes, array_goes, assume_goes, holds_goes, head_goes, enter_goes, print_goes, exit_goes}

-- ---- an order

pub grown_self : (s : List Object) → HasGrown s s
grown_self s = record { older = older_self s; owners = λ o x y ex ey pair. ap (λ (u : Object). u.owner) (same_object s o y x ey ex) }

pub grown_trans : (r s t : List Object) → HasGrown r s → HasGrown s t → HasGrown r t
grown_trans r s t h k = record {
  older = older_trans r s t h.older k.older;
  owners = λ o x y ex ey pair.
      let m = h.older o x ex in
      let first = h.owners o x m.object ex m.there pair in
      k.owners o m.object y m.there ey (ap is_group first ∙ pair) ∙ first;
}

grown_is : (s a b : List Object) → HasGrown s a → a ≡ b → HasGrown s b
grown_is s a b h e = subst (HasGrown s) e h

-- ---- objects changed one by one, and one more

grown_changed : (g : ℕ → Object → Object) → ((q : ℕ) (x : Object) → is_group x.owner ≡ false → (g q x).owner ≡ x.owner) → (s : List Object) → IsOlder s (changed g s) → HasGrown s (changed g s)
grown_changed g h s older = record {
  older = older;
  owners = λ o x y ex ey pair. ap (λ (u : Object). u.owner) (same_object (changed g s) o y (g o x) ey (becomes g s o x ex)) ∙ h o x pair;
}

grown_pushed : (s : List Object) (z : Object) → IsOlder s (s ++ z ∷ []) → HasGrown s (s ++ z ∷ [])
grown_pushed s z older = record { older = older; owners = λ o x y ex ey pair. ap (λ (u : Object). u.owner) (same_object (s ++ z ∷ []) o y x ey (old_get s z o x ex)) }

-- ---- changes

pub grown_unpack : (cs : List ClassTree) (s : List Object) (v : Value) (t : ℕ) (z : List Object) → unpack_of cs s v t ≡ Ok z → HasGrown s z
grown_unpack cs s v t z h =
    let r = on_object_ok s v (unpacking cs s t) z h in
    let o = r.0 in
    let x = r.2.0 in
    let a = check_ok (x.level == t) kind.UnpackLevel (check (not x.committed) kind.UnpackCommitted (Ok (changed (unpacked cs o t) s))) z r.2.2 in
    let b = check_ok (not x.committed) kind.UnpackCommitted (Ok (changed (unpacked cs o t) s)) z a.1 in
    let same : changed (unpacked cs o t) s ≡ z = let e = b.1 in cc in
    grown_is s (changed (unpacked cs o t) s) z (grown_changed (unpacked cs o t) (λ q y pair. refl) s (subst (IsOlder s) (sym same) (older_unpack cs s v t z h))) same

pub grown_pack : (cs : List ClassTree) (holds : Invariants) (s : List Object) (v : Value) (t : ℕ) (z : List Object) → pack_of cs holds s v t ≡ Ok z → HasGrown s z
grown_pack cs holds s v t z h =
    let r = on_object_ok s v (packing cs holds s t) z h in
    let o = r.0 in
    let x = r.2.0 in
    let a = check_ok (x.level == above cs t) kind.PackLevel (check (holds s o t) kind.Invariant (check (list_all (may_be_committed o t) s) kind.PackOwned (Ok (changed (repacked o t) s)))) z r.2.2 in
    let b = check_ok (holds s o t) kind.Invariant (check (list_all (may_be_committed o t) s) kind.PackOwned (Ok (changed (repacked o t) s))) z a.1 in
    let c = check_ok (list_all (may_be_committed o t) s) kind.PackOwned (Ok (changed (repacked o t) s)) z b.1 in
    let same : changed (repacked o t) s ≡ z = let e = c.1 in cc in
    grown_is s (changed (repacked o t) s) z (grown_changed (repacked o t) (λ q y pair. refl) s (subst (IsOlder s) (sym same) (older_pack cs holds s v t z h))) same

-- ---- owners: a group alone may get another

unmoved : (g : ℕ) (w v : Owner) → is_group v ≡ false → (if is_in_group g v then w else v) ≡ v
unmoved g w (owner.Group h) e = absurd (true≢false e)
unmoved g w (owner.Owned o t) e = refl

grown_regrouped : (s : List Object) (g : ℕ) (w : Owner) → HasGrown s (changed (regrouped g w) s)
grown_regrouped s g w = grown_changed (regrouped g w) (λ q y pair. unmoved g w y.owner pair) s older_
  where
    older_ : IsOlder s (changed (regrouped g w) s)
    older_ o x e = record { object = regrouped g w o x; there = becomes (regrouped g w) s o x e; class = refl; size = refl; ready = λ r. r }

grown_captured : (s : List Object) (o t : ℕ) (w : Owner) (z : List Object) → captured s o t w ≡ Ok z → HasGrown s z
grown_captured s o t (owner.Group g) z h = grown_is s (changed (regrouped g (owned_by o t)) s) z (grown_regrouped s g (owned_by o t)) cc
grown_captured s o t (owner.Owned p u) z h = let a = check_ok (is_pair o t (owner.Owned p u)) kind.RepOwner (Ok s) z h in let same = a.1 in grown_is s s z (grown_self s) cc

grown_apart : (s : List Object) (w v : Owner) (committed : Bool) (z : List Object) → joined_apart s w v committed ≡ Ok z → HasGrown s z
grown_apart s w (owner.Group g) committed z h = grown_is s (changed (regrouped g w) s) z (grown_regrouped s g w) cc
grown_apart s (owner.Group g) (owner.Owned p u) committed z h =
    let a = check_ok (not committed) kind.PeerOwner (Ok (changed (regrouped g (owner.Owned p u)) s)) z h in
    let same = a.1 in
    grown_is s (changed (regrouped g (owner.Owned p u)) s) z (grown_regrouped s g (owner.Owned p u)) cc
grown_apart s (owner.Owned o t) (owner.Owned p u) committed z h = cc

grown_joined : (s : List Object) (w v : Owner) (committed same : Bool) (z : List Object) → (if same then Ok s else joined_apart s w v committed) ≡ Ok z → HasGrown s z
grown_joined s w v committed true z h = grown_is s s z (grown_self s) cc
grown_joined s w v committed false z h = grown_apart s w v committed z h

grown_owners : (m : Mark) (s : List Object) (o t e : ℕ) (z : List Object) → owners_for m s o t e ≡ Ok z → HasGrown s z
grown_owners mark.Plain s o t e z h = grown_is s s z (grown_self s) cc
grown_owners mark.Rep s o t e z h = let r = at_object_ok s e (λ _ y. captured s o t y.owner) z h in grown_captured s o t r.0.owner z r.2
grown_owners mark.Peer s o t e z h =
    let a = at_object_ok s o (λ _ x. at_object s e (λ _ y. joined s x.owner y.owner y.committed)) z h in
    let b = at_object_ok s e (λ _ y. joined s a.0.owner y.owner y.committed) z a.2 in
    grown_joined s a.0.owner b.0.owner b.0.committed (same_owner a.0.owner b.0.owner) z b.2

grown_with_owners : (m : Mark) (s : List Object) (o t : ℕ) (v : Value) (z : List Object) → with_owners m s o t v ≡ Ok z → HasGrown s z
grown_with_owners m s o t (value.Obj e) z h = grown_owners m s o t e z h
grown_with_owners m s o t (value.Int i) z h = grown_is s s z (grown_self s) cc
grown_with_owners m s o t (value.Bool b) z h = grown_is s s z (grown_self s) cc
grown_with_owners m s o t value.Null z h = grown_is s s z (grown_self s) cc

-- ---- writes

grown_written : (s : List Object) (o f : ℕ) (v : Value) → HasGrown s (changed (written o f v) s)
grown_written s o f v = grown_changed (written o f v) (λ q y pair. refl) s older_
  where
    older_ : IsOlder s (changed (written o f v) s)
    older_ q x e = record { object = written o f v q x; there = becomes (written o f v) s q x e; class = refl; size = refl; ready = λ r. r }

grown_then_written : (s : List Object) (o f : ℕ) (v : Value) (r : Result (List Object) Kind) → ((y : List Object) → r ≡ Ok y → HasGrown s y) → (z : List Object) → then_written o f v r ≡ Ok z → HasGrown s z
grown_then_written s o f v (Ok y) k z h = grown_is s (changed (written o f v) y) z (grown_trans s y (changed (written o f v) y) (k y refl) (grown_written y o f v)) cc
grown_then_written s o f v (Err e) k z h = cc

pub grown_write : (cs : List ClassTree) (s : List Object) (w : Value) (f : ℕ) (v : Value) (z : List Object) → write_of cs s w f v ≡ Ok z → HasGrown s z
grown_write cs s w f v z h =
    let r = on_object_ok s w (writing cs s f v) z h in
    let o = r.0 in
    let x = r.2.0 in
    let owners = with_owners (field_mark cs f) s o (field_class cs f) v in
    let a = check_ok (not (packed cs x (field_class cs f))) kind.WriteLevel (then_written o f v owners) z r.2.2 in
    grown_then_written s o f v owners (grown_with_owners (field_mark cs f) s o (field_class cs f) v) z a.1

grown_writing_element : (s : List Object) (i : ℤ) (v : Value) (a : ℕ) (x : Object) (z : List Object) → IsOlder s z → writing_element s i v a x ≡ Ok z → HasGrown s z
grown_writing_element s (pos i) v a x z older h =
    let p = check_ok (nat_lt i (length x.elements)) kind.Index (check (not x.committed) kind.WriteCommitted (Ok (changed (element_written a i v) s))) z h in
    let q = check_ok (not x.committed) kind.WriteCommitted (Ok (changed (element_written a i v) s)) z p.1 in
    let same : changed (element_written a i v) s ≡ z = let e = q.1 in cc in
    grown_is s (changed (element_written a i v) s) z (grown_changed (element_written a i v) (λ k y pair. refl) s (subst (IsOlder s) (sym same) older)) same
grown_writing_element s (negsuc i) v a x z older h = cc

pub grown_write_element : (s : List Object) (w : Value) (i : ℤ) (v : Value) (z : List Object) → write_element_of s w i v ≡ Ok z → HasGrown s z
grown_write_element s w i v z h = let r = on_object_ok s w (writing_element s i v) z h in grown_writing_element s i v r.0 r.2.0 z (older_write_element s w i v z h) r.2.2

-- ---- new objects, and readiness

pub grown_new_object : (cs : List ClassTree) (s : List Object) (t : ℕ) → HasGrown s (new_object_of cs s t)
grown_new_object cs s t = grown_pushed s (new_object cs t (length s)) (older_new_object cs s t)

pub grown_new_array : (s : List Object) (t : ℕ) (i : ℤ) (z : List Object) → new_array_of s t i ≡ Ok z → HasGrown s z
grown_new_array s t (pos i) z h =
    let same : s ++ new_array t i (length s) ∷ [] ≡ z = cc in
    grown_is s (s ++ new_array t i (length s) ∷ []) z (grown_pushed s (new_array t i (length s)) (subst (IsOlder s) (sym same) (older_new_array s t (pos i) z h))) same
grown_new_array s t (negsuc i) z h = cc

pub grown_ready : (s : List Object) (o : ℕ) → HasGrown s (ready_of s o)
grown_ready s o = grown_changed (made_ready o) (λ q y pair. refl) s (older_ready s o)

pub grown_change : (cs : List ClassTree) (holds : Invariants) (s s' : List Object) → IsChanged cs holds s s' → HasGrown s s'
grown_change cs holds s s' (Unpack v t h) = grown_unpack cs s v t s' h
grown_change cs holds s s' (Pack v t h) = grown_pack cs holds s v t s' h
grown_change cs holds s s' (Write w f v h) = grown_write cs s w f v s' h
grown_change cs holds s s' (WriteElement a i v h) = grown_write_element s a i v s' h
grown_change cs holds s s' (NewObject t h) = subst (HasGrown s) (sym h) (grown_new_object cs s t)
grown_change cs holds s s' (NewArray t n h) = grown_new_array s t n s' h
grown_change cs holds s s' (Ready o h) = subst (HasGrown s) (sym h) (grown_ready s o)

-- ---- steps

module _ (c : CoreTree) (s : List Object) where
  abbrev Grows : List Frame → List Object → Type 0
  Grows fs z = HasGrown s z

  with_ready_grown : (v : Value) → HasGrown s (steps.with_ready s v)
  with_ready_grown (value.Obj o) = grown_ready s o
  with_ready_grown (value.Int n) = grown_self s
  with_ready_grown (value.Bool b) = grown_self s
  with_ready_grown value.Null = grown_self s

  entered_grown : (o : Option BodyTree) (at : Place) (into : Target) (vs : List Value) (f : Frame) (fs : List Frame) → GoesTo Grows (steps.enter c o at into vs f fs s)
  entered_grown o at into vs f fs = enter_goes Grows c o at into vs f fs s (λ none. grown_self s) (λ b is. grown_self s)

  -- in a store that has the new object
  new_grown : (o : Option BodyTree) (at : Place) (into : Target) (vs : List Value) (f : Frame) (fs : List Frame) (z : List Object) → HasGrown s z → GoesTo Grows (steps.enter c o at into vs f fs z)
  new_grown o at into vs f fs z h = enter_goes Grows c o at into vs f fs z (λ none. h) (λ b is. h)

  dispatched_grown : (m : ℕ) (at : Place) (x : Option ℕ) (v : Value) (vs : List Value) (f : Frame) (fs : List Frame) → GoesTo Grows (steps.dispatch c m at x v vs f fs s)
  dispatched_grown m at x (value.Obj o) vs f fs = entered_grown (method_at c (object_at s o).class m) at (ToCall x) (value.Obj o ∷ vs) f fs
  dispatched_grown m at x (value.Int n) vs f fs = tt
  dispatched_grown m at x (value.Bool b) vs f fs = tt
  dispatched_grown m at x value.Null vs f fs = tt

  called_grown : (callee : CalleeTree) (at : Place) (x : Option ℕ) (es : List ExprTree) (f : Frame) (fs : List Frame) → GoesTo Grows (steps.call c callee at x es f fs s)
  called_grown (Dispatched e t m) at x es f fs = value_goes Grows (value_of e (scene c f s)) _ (λ v ev. values_goes Grows (steps.values_of es (scene c f s)) _ (λ vs h. dispatched_grown m at x v vs f fs))
  called_grown (Static n) at x es f fs = values_goes Grows (steps.values_of es (scene c f s)) _ (λ vs h. entered_grown (body_at c n) at (ToCall x) vs f fs)
  called_grown (Base n) at x es f fs = values_goes Grows (steps.values_of es (scene c f s)) _ (λ vs h. entered_grown (body_at c n) at (ToCall x) (this_of f.locals ∷ vs) f fs)
  called_grown (BaseConstructor n) at x es f fs = values_goes Grows (steps.values_of es (scene c f s)) _ (λ vs h. entered_grown (body_at c n) at (ToCall x) (this_of f.locals ∷ vs) f fs)

  back_grown : (into : Target) (v this : Value) (f : Frame) (fs : List Frame) → GoesTo Grows (steps.back into v this f fs s)
  back_grown (ToCall x) v this f fs = grown_self s
  back_grown (ToNew x) v this f fs = with_ready_grown this

  left_grown : (v : Value) (f : Frame) (fs : List Frame) → GoesTo Grows (steps.leave v f fs s)
  left_grown v f [] = tt
  left_grown v f (caller ∷ fs) = back_grown f.into v (this_of f.locals) caller fs

  exit_grown : (at : Place) (v : Value) (f : Frame) (fs : List Frame) → GoesTo Grows (steps.exit c at v f fs s)
  exit_grown at v f fs = exit_goes Grows c at v f fs s (left_grown v (steps.with_local (steps.result_local f.body) v f) fs)

  acted_grown : (st : StmtTree) (f : Frame) (fs : List Frame) → GoesTo Grows (steps.act c st f fs s)
  acted_grown (AssignStmt at x e) f fs = value_goes Grows (value_of e (scene c f s)) _ (λ v ev. grown_self s)
  acted_grown (WriteStmt at o g m t e) f fs =
      value_goes Grows (value_of o (scene c f s)) _ (λ v ev. value_goes Grows (value_of e (scene c f s)) _ (λ w ew. change_goes Grows (write_of c.classes s v g w) at f fs (λ z h. grown_write c.classes s v g w z h)))
  acted_grown (WriteElementStmt at a i e) f fs =
      value_goes Grows (value_of a (scene c f s)) _ (λ v ev. value_goes Grows (value_of i (scene c f s)) _ (λ n en. value_goes Grows (value_of e (scene c f s)) _ (λ w ew.
      change_goes Grows (write_element_of s v (as_int n) w) at f fs (λ z h. grown_write_element s v (as_int n) w z h))))
  acted_grown (NewStmt at x t es) f fs =
      values_goes Grows (steps.values_of es (scene c f s)) _ (λ vs h. new_grown (constructor_of c t) at (ToNew x) (value.Obj (length s) ∷ vs) f fs (new_object_of c.classes s t) (grown_new_object c.classes s t))
  acted_grown (NewArrayStmt at x t e) f fs = value_goes Grows (value_of e (scene c f s)) _ (λ n en. array_goes Grows (new_array_of s t (as_int n)) (length s) at x f fs (λ z h. grown_new_array s t (as_int n) z h))
  acted_grown (CallStmt at x callee es) f fs = called_grown callee at x es f fs
  acted_grown (ReadyStmt at) f fs = with_ready_grown (this_of f.locals)
  acted_grown (IfStmt at e one other) f fs = value_goes Grows (value_of e (scene c f s)) _ (λ v ev. grown_self s)
  acted_grown (LoopStmt at invariants prelude e body exposes) f fs =
      head_goes Grows c at invariants exposes f fs s (steps.goes (steps.go_into (dues prelude ++ Test e body (LoopStmt at invariants prelude e body exposes) ∷ []) f) fs s) (grown_self s)
  acted_grown (UnpackStmt at x t) f fs = change_goes Grows (unpack_of c.classes s (local_value (scene c f s) x) t) at f fs (λ z h. grown_unpack c.classes s (local_value (scene c f s) x) t z h)
  acted_grown (PackStmt at x t) f fs =
      change_goes Grows (pack_of c.classes (invariants_hold c.classes) s (local_value (scene c f s) x) t) at f fs (λ z h. grown_pack c.classes (invariants_hold c.classes) s (local_value (scene c f s) x) t z h)
  acted_grown (AssertStmt at e) f fs = holds_goes Grows (holds e (scene c f s)) kind.Assert at (steps.goes f fs s) (grown_self s)
  acted_grown (AssumeStmt at e) f fs = assume_goes Grows (holds e (scene c f s)) at (steps.goes f fs s) (grown_self s)
  acted_grown (PrintStmt at e newline) f fs = print_goes Grows e newline c f fs s (grown_self s)
  acted_grown (PrintTextStmt at text newline) f fs = grown_self s
  acted_grown (ReturnStmt at e) f fs = value_goes Grows (steps.result_value e (scene c f s)) _ (λ v ev. exit_grown at v f fs)

  first_grown : (l : List Due) (f : Frame) (fs : List Frame) → GoesTo Grows (steps.act_first c l f fs s)
  first_grown [] f fs = exit_grown f.body.place value.Null f fs
  first_grown (Statement st ∷ ds) f fs = acted_grown st (record f { left = ds }) fs
  first_grown (Test e body loop ∷ ds) f fs = value_goes Grows (value_of e (scene c f s)) _ (λ v ev. grown_self s)

  next_grown : (fs : List Frame) → GoesTo Grows (steps.next c fs s)
  next_grown [] = tt
  next_grown (f ∷ fs) = first_grown f.left f fs

pub grown_step : (c : CoreTree) (fs : List Frame) (s : List Object) (gs : List Frame) (z : List Object) (piece : List ℕ) → steps.next c fs s ≡ Goes gs z piece → HasGrown s z
grown_step c fs s gs z piece e = goes_to (Grows c s) (steps.next c fs s) (next_grown c s fs) gs z piece e
