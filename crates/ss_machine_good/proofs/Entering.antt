-- A formed body is entered with a good frame.
use Rattle.std.proofs.Common.{◌≡◌, ℕ, zero, suc, List, [], ◌∷◌, ◌++◌, map, length, true, false, Some, sym, ◌∙◌, ap, subst, arith}
use Rattle.std.specs.Prelude.{slice_get, unwrap_or, option_to_list}
use Rattle.std.proofs.lemmas.Bool.{false≢true, ltb-true}
use Rattle.ss_core.specs.declared.names.Ty.{Ty}
use Rattle.ss_core.specs.Tree.{BodyTree, CoreTree}
use Rattle.ss_store_rules.specs.declared.Value.{Value}
use Rattle.ss_store_rules.specs.declared.Value.TheVariants as value
use Rattle.ss_store_rules.specs.Store.{Object, default_value}
use Rattle.ss_store_rules.specs.Values.{setting, local_value}
use Rattle.ss_store_rules.specs.Locals.{types_of, argument_types, local_types, argument_count, is_argument}
use Rattle.ss_store_rules.specs.Typed.{has_exposable}
use Rattle.ss_store_rules.specs.Good.{is_non_null}
use Rattle.ss_store_rules.specs.NonNull.{known_at_entry, known_flow, is_non_null_type}
use Rattle.ss_store_rules.specs.Formed.{IsFormed, IsFormedBody}
use Rattle.ss_machine_rules.specs.Frame.{this_of}
use Rattle.ss_machine_rules.specs.Good.{IsGoodStore}
use Rattle.ss_machine_rules.specs.States.{Target, locals_at_entry, frame_at_entry}
use Rattle.ss_machine_typed.specs.Settings.{AreGoodArguments}
use Rattle.ss_machine_typed.proofs.Older.{there_is}
use Rattle.ss_machine_typed.proofs.First.{entered_locals}
use Rattle.ss_machine_good.specs.Known.{IsNotNull, IsTrueOf, AreAssigned}
use Rattle.ss_machine_good.proofs.Flows.{known_entered}
use Rattle.ss_machine_good.proofs.Frames.{entry_known, dues_left, entered_frame}
use Rattle.ss_store_rules.specs.States.{AreGoodLocals}
use Rattle.ss_machine_good.specs.Checks.{fields_check, ready_flow, ready_check, IsThisReady}
use Rattle.ss_machine_good.proofs.Fields.{fields_along}
use Rattle.ss_machine_good.proofs.This.{ready_along}
use Rattle.ss_machine_good.specs.LaterFrames.{IsToNew, IsConstructing, IsGoodFrame}

pub first_get : {X : Type 0} (xs ys : List X) (i : ℕ) (v : X) → slice_get xs i ≡ Some v → slice_get (xs ++ ys) i ≡ Some v
first_get [] ys i v e = absurd (let none : ⊥ = cc in none)
first_get (x ∷ xs) ys zero v e = e
first_get (x ∷ xs) ys (suc i) v e = first_get xs ys i v e

-- arguments of non-null types aren't null
abbrev pub AreNotNullArguments : BodyTree → List Value → Type 0
AreNotNullArguments b vs = (i : ℕ) (t : Ty) (v : Value) → slice_get (argument_types b) i ≡ Some t → slice_get vs i ≡ Some v → is_non_null t ≡ true → IsNotNull v

pub arguments_assigned : (c : CoreTree) (b : BodyTree) (s : List Object) (vs : List Value) → length vs ≡ argument_count b → AreNotNullArguments b vs → AreAssigned b (is_argument b) (setting c.classes s s (locals_at_entry b vs))
arguments_assigned c b s vs count not_null x arg typed =
    let l = ltb-true x (argument_count b) arg in
    let v = there_is vs x (omega (arith, l, count)) in
    let t = there_is (argument_types b) x l in
    let t_local : slice_get (local_types b) x ≡ Some t.0 = first_get (argument_types b ++ types_of b.locals) (option_to_list b.result) x t.0 (first_get (argument_types b) (types_of b.locals) x t.0 t.1) in
    let nn : is_non_null t.0 ≡ true = sym (ap is_non_null_type t_local) ∙ typed in
    let at : local_value (setting c.classes s s (locals_at_entry b vs)) x ≡ v.0 = ap (λ o. unwrap_or o value.Null) (first_get vs (map default_value (types_of b.locals ++ option_to_list b.result)) x v.0 v.1) in
    subst IsNotNull (sym at) (not_null x t.0 v.0 t.1 v.1 nn)

-- with these locals
pub entered_with : (c : CoreTree) → IsFormed c → (b : BodyTree) → IsFormedBody c b → (locals : List Value) (s : List Object) (into : Target) → IsGoodStore c s → AreGoodLocals c.classes s b locals → AreAssigned b (is_argument b) (setting c.classes s s locals) →
    (b.flags.ctor ≡ true → IsConstructing c (frame_at_entry b locals s into) s) → (b.flags.is_static ≡ false → (o : ℕ) × (this_of locals ≡ value.Obj o)) → (IsToNew into → b.flags.ctor ≡ true) → IsGoodFrame c (frame_at_entry b locals s into) s
entered_with c formed b fb locals s into good are assigned constructs instance_ new_ = record {
  formed = fb;
  sound = entered_frame c b locals s into formed.chain formed.beside fb good are assigned;
  exposed = dues_left (has_exposable c.classes b) (λ e. true) b.code fb.exposed;
  fields = known_entered (known_flow c b) (fields_check c b) (IsTrueOf b.flags.ctor) b.code (known_at_entry b) (setting c.classes s s locals) (fields_along c formed b fb) fb.returns (entry_known b (setting c.classes s s locals));
  ready = known_entered (ready_flow c) (ready_check b) (IsThisReady b.flags.ctor) b.code false (setting c.classes s s locals) (ready_along c formed b fb) fb.returns (λ ctor h. absurd (false≢true h));
  constructs = constructs;
  instance = instance_;
  new = new_;
}

pub entered_good : (c : CoreTree) → IsFormed c → (b : BodyTree) → IsFormedBody c b → (vs : List Value) (s : List Object) (into : Target) → IsGoodStore c s → AreGoodArguments c.classes s b vs → AreNotNullArguments b vs →
    (b.flags.ctor ≡ true → IsConstructing c (frame_at_entry b (locals_at_entry b vs) s into) s) → (b.flags.is_static ≡ false → (o : ℕ) × (this_of (locals_at_entry b vs) ≡ value.Obj o)) → (IsToNew into → b.flags.ctor ≡ true) → IsGoodFrame c (frame_at_entry b (locals_at_entry b vs) s into) s
entered_good c formed b fb vs s into good arguments not_null constructs instance_ new_ =
    entered_with c formed b fb (locals_at_entry b vs) s into good (entered_locals c.classes s b vs arguments) (arguments_assigned c b s vs arguments.count not_null) constructs instance_ new_
