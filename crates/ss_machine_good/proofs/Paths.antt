-- A frame after an `if`, at the head of a loop and after its test.
use Rattle.std.proofs.Common.{◌≡◌, List, [], ◌∷◌, ◌++◌, Bool, true, false, ◌&&◌, Ok, refl, sym, ◌∙◌, subst, ⊎_elim, append_assoc}
use Rattle.std.specs.Prelude.{if◌then◌else◌}
use Rattle.std.proofs.lemmas.Bool.{true≢false, and_parts, and_from, cases_Bool}
use Rattle.ss_core.specs.declared.names.Place.{Place}
use Rattle.ss_core.specs.declared.names.Ty.TheVariants as ty
use Rattle.ss_core.specs.Tree.{ExprTree, StmtTree, IfStmt, CodeTree, CoreTree}
use Rattle.ss_store_rules.specs.declared.Value.{Value}
use Rattle.ss_store_rules.specs.Store.{Object}
use Rattle.ss_store_rules.specs.Reads.{as_bool}
use Rattle.ss_store_rules.specs.Values.{value_of}
use Rattle.ss_store_rules.specs.Types.{in_code, is_condition, code_type}
use Rattle.ss_store_rules.specs.Locals.{local_types, each, each_inside}
use Rattle.ss_store_rules.specs.Paths.{is_literal_true}
use Rattle.ss_store_rules.specs.Typed.{is_typed, has_exposable}
use Rattle.ss_store_rules.specs.NonNull.{known_tested, known_flow}
use Rattle.ss_machine_rules.specs.States.{Due, Statement, Test, dues, Frame, scene}
use Rattle.ss_machine_rules.specs.Steps.{go_into}
use Rattle.ss_machine_good.specs.Flows.{Loop, stmt_of, IsKnown, IsTested}
use Rattle.ss_machine_good.specs.Known.{IsTrueOf}
use Rattle.ss_machine_good.specs.Frames.{all_left, IsSoundFrame}
use Rattle.ss_machine_good.proofs.Flows.{known_fork, known_head, known_test}
use Rattle.ss_machine_good.proofs.Meets.{known_sound}
use Rattle.ss_machine_good.proofs.Tests.{bool_type_is, tested_true}
use Rattle.ss_machine_good.proofs.Steps.{code_typed}
use Rattle.ss_machine_good.proofs.Frames.{literal_value, left_dues, either_code, frame_setting, forked_frame, looping_frame, tested_frame}
use Rattle.ss_machine_good.specs.Checks.{fields_check, ready_flow, ready_check, IsThisReady}
use Rattle.ss_machine_good.proofs.Ready.{ready_sound}
use Rattle.ss_machine_good.specs.LaterFrames.{IsGoodFrame}

module _ (c : CoreTree) (f : Frame) (s : List Object) (is : IsGoodFrame c f s) where
  -- the frame with other pieces left
  with_left : (ds : List Due) → IsSoundFrame c (record f { left = ds }) s → all_left (has_exposable c.classes f.body) (λ e. true) ds ≡ true →
      IsKnown (known_flow c f.body) (fields_check c f.body) (IsTrueOf f.body.flags.ctor) ds (scene c f s) → IsKnown (ready_flow c) (ready_check f.body) (IsThisReady f.body.flags.ctor) ds (scene c f s) → IsGoodFrame c (record f { left = ds }) s
  with_left ds sound exposed fields ready = record {
    formed = is.formed;
    sound = sound;
    exposed = exposed;
    fields = fields;
    ready = ready;
    constructs = λ ctor. let k = is.constructs ctor in record { position = k.position; this = k.this; object = k.object; there = k.there; class = k.class; exact = k.exact; given = k.given };
    instance = is.instance;
    new = is.new;
  }

  pub forked_good : (p : Place) (e : ExprTree) (a b : CodeTree) (ds : List Due) (v : Value) → f.left ≡ Statement (IfStmt p e a b) ∷ ds → value_of e (scene c f s) ≡ Ok v → IsGoodFrame c (go_into (dues (if as_bool v then a else b)) (record f { left = ds })) s
  forked_good p e a b ds v at ev =
      let body = f.body in
      let stmt = IfStmt p e a b in
      let P = has_exposable c.classes body in
      let t = and_parts (each_inside (is_typed c body) stmt) _ (subst (λ l. all_left (is_typed c body) (is_condition c.classes body in_code) l ≡ true) at is.sound.typed) in
      let t2 = and_parts (is_typed c body stmt && each (is_typed c body) a) (each (is_typed c body) b) t.0 in
      let t3 = and_parts (is_typed c body stmt) (each (is_typed c body) a) t2.0 in
      let g = and_parts (each_inside P stmt) _ (subst (λ l. all_left P (λ d. true) l ≡ true) at is.exposed) in
      let g2 = and_parts (each P a) (each P b) g.0 in
      let e_typed = code_typed c.classes body e ty.Bool (bool_type_is (code_type c.classes body e) t3.0) in
      let fields_ = known_fork (known_flow c body) (fields_check c body) (IsTrueOf body.flags.ctor) (known_sound c body (fields_check c body) body.flags.ctor) p e a b ds (scene c f s)
      (subst (λ l. IsKnown (known_flow c body) (fields_check c body) (IsTrueOf body.flags.ctor) l (scene c f s)) at is.fields) in
      let ready_ = known_fork (ready_flow c) (ready_check body) (IsThisReady body.flags.ctor) (ready_sound c (ready_check body) body.flags.ctor) p e a b ds (scene c f s)
      (subst (λ l. IsKnown (ready_flow c) (ready_check body) (IsThisReady body.flags.ctor) l (scene c f s)) at is.ready) in
      with_left (dues (if as_bool v then a else b) ++ ds) (forked_frame c f s is.sound p e a b ds v at ev)
      (left_dues P (λ d. true) (if as_bool v then a else b) ds (either_code P a b (as_bool v) g2.0 g2.1) g.1)
      (fields_.goes_on (as_bool v) (scene c f s) (tested_true (scene c f s) (local_types body) body.flags.ctor (frame_setting c f s is.sound) fields_.known fields_.so e (as_bool v) e_typed (v, ev, refl)))
      (ready_.goes_on (as_bool v) (scene c f s) ready_.so)

  pub looping_good : (l : Loop) (ds : List Due) → f.left ≡ Statement (stmt_of l) ∷ ds → IsGoodFrame c (go_into (dues l.prelude ++ Test l.test l.body (stmt_of l) ∷ []) (record f { left = ds })) s
  looping_good l ds at =
      let body = f.body in
      let stmt = stmt_of l in
      let P = has_exposable c.classes body in
      let here = Test l.test l.body stmt in
      let g = and_parts (each_inside P stmt) _ (subst (λ z. all_left P (λ d. true) z ≡ true) at is.exposed) in
      let g2 = and_parts (P stmt && each P l.prelude) (each P l.body) g.0 in
      let g3 = and_parts (P stmt) (each P l.prelude) g2.0 in
      let fields_ = known_head (known_flow c body) (fields_check c body) (IsTrueOf body.flags.ctor) (known_sound c body (fields_check c body) body.flags.ctor) l ds (scene c f s)
      (subst (λ z. IsKnown (known_flow c body) (fields_check c body) (IsTrueOf body.flags.ctor) z (scene c f s)) at is.fields) in
      let ready_ = known_head (ready_flow c) (ready_check body) (IsThisReady body.flags.ctor) (ready_sound c (ready_check body) body.flags.ctor) l ds (scene c f s)
      (subst (λ z. IsKnown (ready_flow c) (ready_check body) (IsThisReady body.flags.ctor) z (scene c f s)) at is.ready) in
      let whole = append_assoc (dues l.prelude) (here ∷ []) ds in
      with_left ((dues l.prelude ++ here ∷ []) ++ ds) (looping_frame c f s is.sound l ds at)
      (subst (λ z. all_left P (λ d. true) z ≡ true) (sym whole) (left_dues P (λ d. true) l.prelude (here ∷ ds) g3.1 (and_from (each P l.body && each_inside P stmt) _ (and_from (each P l.body) (each_inside P stmt) g2.1 g.0) g.1)))
      (subst (λ z. IsKnown (known_flow c body) (fields_check c body) (IsTrueOf body.flags.ctor) z (scene c f s)) (sym whole) fields_.goes_on)
      (subst (λ z. IsKnown (ready_flow c) (ready_check body) (IsThisReady body.flags.ctor) z (scene c f s)) (sym whole) ready_.goes_on)

  tested_to : (e : ExprTree) (code : CodeTree) (st : StmtTree) (ds : List Due) (v : Value) → f.left ≡ Test e code st ∷ ds → value_of e (scene c f s) ≡ Ok v → (w : Bool) → as_bool v ≡ w →
      IsSoundFrame c (if w then go_into (dues code ++ Statement st ∷ []) (record f { left = ds }) else record f { left = ds }) s → IsGoodFrame c (if w then go_into (dues code ++ Statement st ∷ []) (record f { left = ds }) else record f { left = ds }) s
  tested_to e code st ds v at ev w is_w sound =
      let body = f.body in
      let P = has_exposable c.classes body in
      let t = and_parts (is_condition c.classes body in_code e && each (is_typed c body) code && each_inside (is_typed c body) st) _ (subst (λ z. all_left (is_typed c body) (is_condition c.classes body in_code) z ≡ true) at is.sound.typed) in
      let t2 = and_parts (is_condition c.classes body in_code e && each (is_typed c body) code) (each_inside (is_typed c body) st) t.0 in
      let t3 = and_parts (is_condition c.classes body in_code e) (each (is_typed c body) code) t2.0 in
      let g = and_parts (each P code && each_inside P st) _ (subst (λ z. all_left P (λ d. true) z ≡ true) at is.exposed) in
      let g2 = and_parts (each P code) (each_inside P st) g.0 in
      let e_typed = code_typed c.classes body e ty.Bool (bool_type_is (code_type c.classes body e) t3.0) in
      let fields_ = known_test (known_flow c body) (fields_check c body) (IsTrueOf body.flags.ctor) e code st ds (scene c f s) (subst (λ z. IsKnown (known_flow c body) (fields_check c body) (IsTrueOf body.flags.ctor) z (scene c f s)) at is.fields) in
      let ready_ = known_test (ready_flow c) (ready_check body) (IsThisReady body.flags.ctor) e code st ds (scene c f s) (subst (λ z. IsKnown (ready_flow c) (ready_check body) (IsThisReady body.flags.ctor) z (scene c f s)) at is.ready) in
      let told = tested_true (scene c f s) (local_types body) body.flags.ctor (frame_setting c f s is.sound) fields_.known fields_.so e w e_typed (v, ev, is_w) in
      side w is_w sound fields_ ready_ told g.1 g2.0 g2.1
    where
      side : (w : Bool) → as_bool v ≡ w → IsSoundFrame c (if w then go_into (dues code ++ Statement st ∷ []) (record f { left = ds }) else record f { left = ds }) s →
          (fields_ : IsTested (known_flow c f.body) (fields_check c f.body) (IsTrueOf f.body.flags.ctor) e code st ds (scene c f s)) (ready_ : IsTested (ready_flow c) (ready_check f.body) (IsThisReady f.body.flags.ctor) e code st ds (scene c f s)) →
          IsTrueOf f.body.flags.ctor (known_tested e w fields_.known) (scene c f s) → all_left (has_exposable c.classes f.body) (λ d. true) ds ≡ true → each (has_exposable c.classes f.body) code ≡ true → each_inside (has_exposable c.classes f.body) st ≡ true →
          IsGoodFrame c (if w then go_into (dues code ++ Statement st ∷ []) (record f { left = ds }) else record f { left = ds }) s
      side true is_w sound fields_ ready_ told rest inside again =
          let P = has_exposable c.classes f.body in
          let whole = append_assoc (dues code) (Statement st ∷ []) ds in
          with_left ((dues code ++ Statement st ∷ []) ++ ds) sound
          (subst (λ z. all_left P (λ d. true) z ≡ true) (sym whole) (left_dues P (λ d. true) code (Statement st ∷ ds) inside (and_from (each_inside P st) _ again rest)))
          (subst (λ z. IsKnown (known_flow c f.body) (fields_check c f.body) (IsTrueOf f.body.flags.ctor) z (scene c f s)) (sym whole) (fields_.into (scene c f s) told))
          (subst (λ z. IsKnown (ready_flow c) (ready_check f.body) (IsThisReady f.body.flags.ctor) z (scene c f s)) (sym whole) (ready_.into (scene c f s) ready_.so))
      side false is_w sound fields_ ready_ told rest inside again =
          let unending = ⊎_elim (λ literal. absurd (true≢false (sym (literal_value e (scene c f s) v literal ev) ∙ is_w))) (λ no_literal. no_literal) (cases_Bool (is_literal_true e)) in
          with_left ds sound rest (fields_.out unending (scene c f s) told) (ready_.out unending (scene c f s) ready_.so)

  pub tested_good : (e : ExprTree) (code : CodeTree) (st : StmtTree) (ds : List Due) (v : Value) → f.left ≡ Test e code st ∷ ds → value_of e (scene c f s) ≡ Ok v →
      IsGoodFrame c (if as_bool v then go_into (dues code ++ Statement st ∷ []) (record f { left = ds }) else record f { left = ds }) s
  tested_good e code st ds v at ev = tested_to e code st ds v at ev (as_bool v) refl (tested_frame c f s is.sound e code st ds v at ev)
