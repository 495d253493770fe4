-- What holds where a step goes on, through the parts of a step.
use Rattle.std.proofs.Common.{◌≡◌, ℕ, List, [], ◌∷◌, map, Bool, true, false, Option, Some, None, Ok, Err, refl, subst}
use Rattle.std.specs.Prelude.{if◌then◌else◌, Result}
use Rattle.ss_core.specs.declared.names.Place.{Place}
use Rattle.ss_core.specs.declared.names.Kind.{Kind}
use Rattle.ss_core.specs.declared.names.Kind.TheVariants as kind
use Rattle.ss_core.specs.Tree.{ExprTree, ExposedTree, BodyTree, CoreTree}
use Rattle.ss_store_rules.specs.declared.Value.{Value}
use Rattle.ss_store_rules.specs.declared.Value.TheVariants as value
use Rattle.ss_store_rules.specs.declared.Undefined.{Undefined}
use Rattle.ss_store_rules.specs.Store.{Object}
use Rattle.ss_store_rules.specs.Numbers.{Outcome}
use Rattle.ss_store_rules.specs.Values.{setting}
use Rattle.ss_machine_rules.specs.Frame.{is_kept}
use Rattle.ss_machine_rules.specs.States.{Target, Frame, Next, Goes, Over, Fails, Stops, locals_at_entry, frame_at_entry, scene, span}
use Rattle.ss_machine_rules.specs.Steps as steps

-- where it goes on, this holds of the frames and the store
abbrev pub GoesTo : (List Frame → List Object → Type 0) → Next → Type 0
GoesTo P (Goes fs z piece) = P fs z
GoesTo P (Over z) = Unit {0}
GoesTo P (Fails k at) = Unit {0}
GoesTo P (Stops at) = Unit {0}

module _ (P : List Frame → List Object → Type 0) where
  pub goes_to : (n : Next) → GoesTo P n → (fs : List Frame) (z : List Object) (piece : List ℕ) → n ≡ Goes fs z piece → P fs z
  goes_to n h fs z piece e = subst (GoesTo P) e h

  pub value_goes : (r : Outcome) (k : Value → Next) → ((v : Value) → r ≡ Ok v → GoesTo P (k v)) → GoesTo P (steps.with_value r k)
  value_goes (Ok v) k h = h v refl
  value_goes (Err u) k h = tt

  pub values_goes : (r : Result (List Value) Undefined) (k : List Value → Next) → ((vs : List Value) → r ≡ Ok vs → GoesTo P (k vs)) → GoesTo P (steps.with_values r k)
  values_goes (Ok vs) k h = h vs refl
  values_goes (Err u) k h = tt

  pub change_goes : (r : Result (List Object) Kind) (at : Place) (f : Frame) (fs : List Frame) → ((z : List Object) → r ≡ Ok z → P (f ∷ fs) z) → GoesTo P (steps.changes r at f fs)
  change_goes (Ok z) at f fs h = h z refl
  change_goes (Err k) at f fs h = tt

  pub array_goes : (r : Result (List Object) Kind) (o : ℕ) (at : Place) (x : Option ℕ) (f : Frame) (fs : List Frame) → ((z : List Object) → r ≡ Ok z → P (steps.with_local x (value.Obj o) f ∷ fs) z) → GoesTo P (steps.made_array r o at x f fs)
  array_goes (Ok z) o at x f fs h = h z refl
  array_goes (Err k) o at x f fs h = tt

  pub assume_goes : (b : Bool) (at : Place) (n : Next) → GoesTo P n → GoesTo P (if b then n else Stops at)
  assume_goes true at n h = h
  assume_goes false at n h = tt

  pub holds_goes : (b : Bool) (k : Kind) (at : Place) (n : Next) → GoesTo P n → GoesTo P (steps.where_holds b k at n)
  holds_goes true k at n h = h
  holds_goes false k at n h = tt

  pub head_goes : (c : CoreTree) (at : Place) (invariants : List ExprTree) (exposes : List ExposedTree) (f : Frame) (fs : List Frame) (s : List Object) (n : Next) → GoesTo P n → GoesTo P (steps.at_head c at invariants exposes f fs s n)
  head_goes c at invariants exposes f fs s n h =
      let level = steps.where_holds (steps.are_exposed c.classes s f exposes) kind.LoopLevel at n in
      let frame = steps.where_holds (is_kept (span c f s (map (steps.held_by f) exposes))) kind.LoopFrame at level in
      holds_goes (steps.all_hold invariants (scene c f s)) kind.LoopInvariant at frame
      (holds_goes (is_kept (span c f s (map (steps.held_by f) exposes))) kind.LoopFrame at level (holds_goes (steps.are_exposed c.classes s f exposes) kind.LoopLevel at n h))

  pub enter_goes : (c : CoreTree) (o : Option BodyTree) (at : Place) (into : Target) (vs : List Value) (f : Frame) (fs : List Frame) (s : List Object) → (o ≡ None → P (f ∷ fs) s) →
      ((b : BodyTree) → o ≡ Some b → P (frame_at_entry b (locals_at_entry b vs) s into ∷ f ∷ fs) s) → GoesTo P (steps.enter c o at into vs f fs s)
  enter_goes c None at into vs f fs s passed entered = passed refl
  enter_goes c (Some b) at into vs f fs s passed entered =
      holds_goes (steps.all_hold b.entry (setting c.classes s s (locals_at_entry b vs))) kind.Precondition at (Goes (frame_at_entry b (locals_at_entry b vs) s into ∷ f ∷ fs) s []) (entered b refl)

  pub print_goes : (e : Option ExprTree) (newline : Bool) (c : CoreTree) (f : Frame) (fs : List Frame) (s : List Object) → P (f ∷ fs) s → GoesTo P (steps.print e newline c f fs s)
  print_goes None newline c f fs s h = h
  print_goes (Some e) newline c f fs s h = value_goes (steps.result_value (Some e) (scene c f s)) _ (λ v ev. h)

  pub exit_goes : (c : CoreTree) (at : Place) (v : Value) (f : Frame) (fs : List Frame) (s : List Object) → GoesTo P (steps.leave v (steps.with_local (steps.result_local f.body) v f) fs s) → GoesTo P (steps.exit c at v f fs s)
  exit_goes c at v f fs s h =
      let g = steps.with_local (steps.result_local f.body) v f in
      holds_goes (steps.all_hold g.body.exit (scene c g s)) kind.Postcondition at (steps.where_holds (is_kept (span c g s [])) kind.Frame at (steps.leave v g fs s))
      (holds_goes (is_kept (span c g s [])) kind.Frame at (steps.leave v g fs s) h)
