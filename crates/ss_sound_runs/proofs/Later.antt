-- Each step of a good stack leads to a store that is later for each of its frames.
use Rattle.std.proofs.Common.{◌≡◌, ℕ, ◌≤◌, List, [], ◌∷◌, ◌++◌, length, true, Option, Some, None, refl, sym, ◌∙◌, ap, subst, arith, ⊎_elim}
use Rattle.std.specs.Prelude.{if◌then◌else◌, is_some}
use Rattle.std.proofs.lemmas.Bool.{cases_Bool}
use Rattle.ss_core.specs.declared.names.Place.{Place}
use Rattle.ss_core.specs.declared.names.Kind.TheVariants as kind
use Rattle.ss_core.specs.declared.names.Ty.{Ty}
use Rattle.ss_core.specs.Tree.{ExprTree, CalleeTree, Dispatched, Static, Base, BaseConstructor, StmtTree, AssignStmt, WriteStmt, WriteElementStmt, NewStmt, NewArrayStmt, CallStmt, ReadyStmt, IfStmt, LoopStmt, UnpackStmt, PackStmt, AssertStmt, AssumeStmt, PrintStmt, PrintTextStmt, ReturnStmt, BodyTree, CoreTree}
use Rattle.ss_store_rules.specs.declared.Value.{Value}
use Rattle.ss_store_rules.specs.declared.Value.TheVariants as value
use Rattle.ss_store_rules.specs.Store.{Object}
use Rattle.ss_store_rules.specs.Reads.{as_int, object_at}
use Rattle.ss_store_rules.specs.Values.{local_value, value_of, holds}
use Rattle.ss_store_rules.specs.Changes.{unpack_of, pack_of, write_of, write_element_of, new_object_of, new_array_of}
use Rattle.ss_store_rules.specs.Admissible.{invariants_hold}
use Rattle.ss_store_rules.specs.Locals.{result_number}
use Rattle.ss_store_rules.specs.Typed.{body_at, constructor_of, method_at}
use Rattle.ss_store_rules.specs.Formed.{IsFormed}
use Rattle.ss_machine_rules.specs.Frame.{this_of}
use Rattle.ss_machine_rules.specs.States.{Due, Statement, Test, dues, Target, ToCall, ToNew, Frame, Goes, put, scene}
use Rattle.ss_machine_rules.specs.Steps as steps
use Rattle.ss_machine_good.specs.Later.{IsLater}
use Rattle.ss_machine_good.specs.LaterFrames.{IsToNew, IsGoodFrame, entry_size, constructed, IsNewTo}
use Rattle.ss_machine_good.proofs.Later.{later_self, later_unpack, later_pack, later_write, later_write_element, later_new_object, later_new_array, later_ready}
use Rattle.ss_machine_good.proofs.Statements.{all_given, written_not_null}
use Rattle.ss_machine_good.specs.Stacks.{IsGoodStack}
use Rattle.ss_machine_good.proofs.CallsOfRuns.{constructs_this}
use Rattle.ss_machine_good.proofs.Returns.{constructor_result}
use Rattle.ss_sound_runs.specs.Frames.{AreLater}
use Rattle.ss_sound_runs.proofs.Goes.{GoesTo, goes_to, value_goes, values_goes, change_goes, array_goes, assume_goes, holds_goes, head_goes, enter_goes, print_goes, exit_goes}

no_result : (b : BodyTree) (r : Option Ty) → r ≡ None → (if is_some r then Some (result_number b) else None) ≡ None
no_result b None h = refl
no_result b (Some t) h = absurd (let no_one : ⊥ = cc in no_one)

module _ (c : CoreTree) (formed : IsFormed c) (f : Frame) (s : List Object) (is : IsGoodFrame c f s) where
  -- the store is later for as many positions as don't hold what is constructed
  abbrev Leads : List Frame → List Object → Type 0
  Leads fs z = (n : ℕ) → ((o : ℕ) → constructed f ≡ value.Obj o → n ≤ o) → IsLater c.classes n s z

  stays : Leads [] s
  stays n low = later_self c.classes n s

  entered_leads : (o : Option BodyTree) (at : Place) (into : Target) (vs : List Value) (g : Frame) (fs : List Frame) → GoesTo Leads (steps.enter c o at into vs g fs s)
  entered_leads o at into vs g fs = enter_goes Leads c o at into vs g fs s (λ none. stays) (λ b there. stays)

  dispatched_leads : (m : ℕ) (at : Place) (x : Option ℕ) (v : Value) (vs : List Value) (g : Frame) (fs : List Frame) → GoesTo Leads (steps.dispatch c m at x v vs g fs s)
  dispatched_leads m at x (value.Obj o) vs g fs = entered_leads (method_at c (object_at s o).class m) at (ToCall x) (value.Obj o ∷ vs) g fs
  dispatched_leads m at x (value.Int n) vs g fs = tt
  dispatched_leads m at x (value.Bool b) vs g fs = tt
  dispatched_leads m at x value.Null vs g fs = tt

  called_leads : (callee : CalleeTree) (at : Place) (x : Option ℕ) (es : List ExprTree) (g : Frame) (fs : List Frame) → GoesTo Leads (steps.call c callee at x es g fs s)
  called_leads (Dispatched e t m) at x es g fs = value_goes Leads (value_of e (scene c g s)) _ (λ v ev. values_goes Leads (steps.values_of es (scene c g s)) _ (λ vs h. dispatched_leads m at x v vs g fs))
  called_leads (Static n) at x es g fs = values_goes Leads (steps.values_of es (scene c g s)) _ (λ vs h. entered_leads (body_at c n) at (ToCall x) vs g fs)
  called_leads (Base n) at x es g fs = values_goes Leads (steps.values_of es (scene c g s)) _ (λ vs h. entered_leads (body_at c n) at (ToCall x) (this_of g.locals ∷ vs) g fs)
  called_leads (BaseConstructor n) at x es g fs = values_goes Leads (steps.values_of es (scene c g s)) _ (λ vs h. entered_leads (body_at c n) at (ToCall x) (this_of g.locals ∷ vs) g fs)

  -- what a constructor constructs may become ready
  ready_leads : f.body.flags.ctor ≡ true → (u : Value) → u ≡ this_of f.locals → Leads [] (steps.with_ready s u)
  ready_leads ctor u same n low =
      let k = is.constructs ctor in
      subst (λ w. IsLater c.classes n s (steps.with_ready s w)) (sym (same ∙ k.this)) (later_ready c.classes n s k.position (low k.position (constructs_this f ctor ∙ k.this)))

  this_at_end : (v : Value) → f.body.flags.ctor ≡ true → this_of (put (steps.result_local f.body) v f.locals) ≡ this_of f.locals
  this_at_end v ctor = ap (λ x. this_of (put x v f.locals)) (no_result f.body f.body.result (constructor_result f.body is.sound.flags ctor))

  back_leads : (into : Target) → f.into ≡ into → (v u : Value) → (f.body.flags.ctor ≡ true → u ≡ this_of f.locals) → (g : Frame) (fs : List Frame) → GoesTo Leads (steps.back into v u g fs s)
  back_leads (ToCall x) e v u same g fs = stays
  back_leads (ToNew x) e v u same g fs = let ctor = is.new (subst IsToNew (sym e) tt) in ready_leads ctor u (same ctor)

  left_leads : (v w : Value) (ds : List Due) (fs : List Frame) → GoesTo Leads (steps.leave v (steps.with_local (steps.result_local f.body) w (record f { left = ds })) fs s)
  left_leads v w ds [] = tt
  left_leads v w ds (g ∷ fs) = back_leads f.into refl v (this_of (put (steps.result_local f.body) w f.locals)) (this_at_end w) g fs

  exit_leads : (at : Place) (v : Value) (ds : List Due) (fs : List Frame) → GoesTo Leads (steps.exit c at v (record f { left = ds }) fs s)
  exit_leads at v ds fs = exit_goes Leads c at v (record f { left = ds }) fs s (left_leads v v ds fs)

  acted_leads : (st : StmtTree) (ds : List Due) → f.left ≡ Statement st ∷ ds → (fs : List Frame) → GoesTo Leads (steps.act c st (record f { left = ds }) fs s)
  acted_leads (AssignStmt p x e) ds at fs = value_goes Leads (value_of e (scene c f s)) _ (λ v ev. stays)
  acted_leads (WriteStmt p o g m t e) ds at fs =
      value_goes Leads (value_of o (scene c f s)) _ (λ v ev. value_goes Leads (value_of e (scene c f s)) _ (λ w ew. change_goes Leads (write_of c.classes s v g w) p (record f { left = ds }) fs
      (λ z h n low. later_write c.classes n s v g w z (written_not_null c formed f s ds is p o g m t e w at ew) h)))
  acted_leads (WriteElementStmt p a i e) ds at fs =
      value_goes Leads (value_of a (scene c f s)) _ (λ v ev. value_goes Leads (value_of i (scene c f s)) _ (λ n en. value_goes Leads (value_of e (scene c f s)) _ (λ w ew.
      change_goes Leads (write_element_of s v (as_int n) w) p (record f { left = ds }) fs (λ z h k low. later_write_element c.classes k s v (as_int n) w z h))))
  acted_leads (NewStmt p x t es) ds at fs =
      values_goes Leads (steps.values_of es (scene c f s)) _ (λ vs h. enter_goes Leads c (constructor_of c t) p (ToNew x) (value.Obj (length s) ∷ vs) (record f { left = ds }) fs (new_object_of c.classes s t)
      (λ none n low. later_new_object c.classes n s t) (λ b there n low. later_new_object c.classes n s t))
  acted_leads (NewArrayStmt p x t e) ds at fs =
      value_goes Leads (value_of e (scene c f s)) _ (λ n en. array_goes Leads (new_array_of s t (as_int n)) (length s) p x (record f { left = ds }) fs (λ z h k low. later_new_array c.classes k s t (as_int n) z h))
  acted_leads (CallStmt p x callee es) ds at fs = called_leads callee p x es (record f { left = ds }) fs
  acted_leads (ReadyStmt p) ds at fs = ready_leads (all_given c f s (ReadyStmt p) ds refl at is p refl).0 (this_of f.locals) refl
  acted_leads (IfStmt p e one other) ds at fs = value_goes Leads (value_of e (scene c f s)) _ (λ v ev. stays)
  acted_leads (LoopStmt p invariants prelude e body exposes) ds at fs =
      head_goes Leads c p invariants exposes (record f { left = ds }) fs s (steps.goes (steps.go_into (dues prelude ++ Test e body (LoopStmt p invariants prelude e body exposes) ∷ []) (record f { left = ds })) fs s) stays
  acted_leads (UnpackStmt p x t) ds at fs =
      change_goes Leads (unpack_of c.classes s (local_value (scene c f s) x) t) p (record f { left = ds }) fs (λ z h n low. later_unpack c.classes n s (local_value (scene c f s) x) t z h)
  acted_leads (PackStmt p x t) ds at fs =
      change_goes Leads (pack_of c.classes (invariants_hold c.classes) s (local_value (scene c f s) x) t) p (record f { left = ds }) fs
      (λ z h n low. later_pack c.classes n (invariants_hold c.classes) s (local_value (scene c f s) x) t z h)
  acted_leads (AssertStmt p e) ds at fs = holds_goes Leads (holds e (scene c f s)) kind.Assert p (steps.goes (record f { left = ds }) fs s) stays
  acted_leads (AssumeStmt p e) ds at fs = assume_goes Leads (holds e (scene c f s)) p (steps.goes (record f { left = ds }) fs s) stays
  acted_leads (PrintStmt p e newline) ds at fs = print_goes Leads e newline c (record f { left = ds }) fs s stays
  acted_leads (PrintTextStmt p text newline) ds at fs = stays
  acted_leads (ReturnStmt p e) ds at fs = value_goes Leads (steps.result_value e (scene c f s)) _ (λ v ev. exit_leads p v ds fs)

  first_leads : (l : List Due) → f.left ≡ l → (fs : List Frame) → GoesTo Leads (steps.act_first c l f fs s)
  first_leads [] at fs = exit_leads f.body.place value.Null f.left fs
  first_leads (Statement st ∷ ds) at fs = acted_leads st ds at fs
  first_leads (Test e body loop ∷ ds) at fs = value_goes Leads (value_of e (scene c f s)) _ (λ v ev. stays)

  -- it is later for the frame itself, and for those to which what is constructed is new
  here : (o : ℕ) → constructed f ≡ value.Obj o → entry_size f ≤ o
  here o e = ⊎_elim
      (λ ctor. subst (λ n. n ≤ o) (sym (ap (λ k. if k then 0 else length f.entry) ctor)) (omega arith))
      (λ plain. absurd (let both : value.Null ≡ value.Obj o = sym (ap (λ k. if k then this_of f.locals else value.Null) plain) ∙ e in let no_one : ⊥ = cc in no_one))
      (cases_Bool f.body.flags.ctor)

  below_later : (fs : List Frame) (z : List Object) → Leads [] z → IsNewTo (constructed f) fs → AreLater c.classes s z fs
  below_later [] z leads new = tt
  below_later (g ∷ fs) z leads new = (leads (entry_size g) new.0, below_later fs z leads new.1)

  pub later_all : (fs : List Frame) → IsNewTo (constructed f) fs → (gs : List Frame) (z : List Object) (piece : List ℕ) → steps.next c (f ∷ fs) s ≡ Goes gs z piece → AreLater c.classes s z (f ∷ fs)
  later_all fs new gs z piece e =
      let leads = goes_to Leads (steps.next c (f ∷ fs) s) (first_leads f.left refl fs) gs z piece e in
      (leads (entry_size f) here, below_later fs z leads new)

pub step_later : (c : CoreTree) → IsFormed c → (fs : List Frame) (s : List Object) → IsGoodStack c fs s → (gs : List Frame) (z : List Object) (piece : List ℕ) → steps.next c fs s ≡ Goes gs z piece → AreLater c.classes s z fs
step_later c formed [] s is gs z piece e = tt
step_later c formed (f ∷ fs) s is gs z piece e = later_all c formed f s is.0 fs is.2.0 gs z piece e
