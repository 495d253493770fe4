-- Frames that wait go on in later stores.
use Rattle.std.proofs.Common.{◌≡◌, ℕ, ◌≤◌, List, [], ◌∷◌, length, Bool, true, false, ◌||◌, Some, refl, sym, ◌∙◌, ap, subst, arith}
use Rattle.std.specs.Prelude.{slice_get, if◌then◌else◌}
use Rattle.std.proofs.lemmas.Option.{slice_get_within}
use Rattle.std.proofs.lemmas.Bool.{eq-eqb}
use Rattle.ss_core.specs.Tree.{StmtTree, BodyTree, CoreTree}
use Rattle.ss_store_rules.specs.declared.Value.{Value}
use Rattle.ss_store_rules.specs.declared.Value.TheVariants as value
use Rattle.ss_store_rules.specs.Store.{Object}
use Rattle.ss_store_rules.specs.Locals.{local_types, is_kept_in, is_target}
use Rattle.ss_store_rules.specs.Typed.{fits_kept}
use Rattle.ss_store_rules.specs.NonNull.{Known, known_after, is_non_null_type}
use Rattle.ss_machine_rules.specs.Frame.{this_of}
use Rattle.ss_machine_rules.specs.States.{Due, Statement, Target, Frame, scene}
use Rattle.ss_machine_rules.specs.Steps.{with_local}
use Rattle.ss_machine_typed.specs.Older.{IsOlder}
use Rattle.ss_machine_typed.proofs.Older.{there_is, locals-older}
use Rattle.ss_machine_good.specs.Flows.{is_simple}
use Rattle.ss_machine_good.specs.Known.{IsTrueOf}
use Rattle.ss_machine_good.specs.Checks.{makes_ready, IsThisReady}
use Rattle.ss_machine_good.specs.Later.{IsLater}
use Rattle.ss_machine_good.specs.LaterFrames.{IsGoodFrame, entry_size, constructed, given_back, is_given_back, kept_in, IsAnswer, IsWaiting, AreWaiting, IsNewTo}
use Rattle.ss_machine_good.proofs.Later.{later_trans}
use Rattle.ss_machine_good.proofs.Behind.{put_this, variable_apart, MayBePut, target_variable, after_frame}
use Rattle.ss_machine_good.proofs.Statements.{kept_may}

-- an older store isn't longer
pub older_size : (s z : List Object) → IsOlder s z → length s ≤ length z
older_size [] z h = omega arith
older_size (x ∷ s) z h =
    let last = there_is (x ∷ s) (length s) (omega arith) in
    let r = h (length s) last.0 last.1 in
    let within = slice_get_within z (length s) r.object r.there in
    omega (arith, within)

module _ (c : CoreTree) (s z : List Object) where
  pub waiting_later : (b : BodyTree) (into : Target) (this : Value) (f : Frame) → IsLater c.classes (entry_size f) s z → IsWaiting c s b into this f → IsWaiting c z b into this f
  waiting_later b into this f later is = record {
    locals = locals-older c.classes s z later.older f.body f.locals is.locals;
    size = let longer = older_size s z later.older in let size = is.size in omega (arith, longer, size);
    keeps = is.keeps;
    goes_on = λ y v more good answer. is.goes_on y v (later_trans c.classes (entry_size f) s z y later more) good answer;
  }

  pub all_waiting : ((n : ℕ) → IsLater c.classes n s z) → (g : Frame) (fs : List Frame) → AreWaiting c s g fs → AreWaiting c z g fs
  all_waiting later g [] are = tt
  all_waiting later g (f ∷ fs) are = (waiting_later g.body g.into (constructed g) f (later (entry_size f)) are.0, all_waiting later f fs are.1)

  pub all_waiting_ready : (o : ℕ) → ((n : ℕ) → n ≤ o → IsLater c.classes n s z) → (g : Frame) (fs : List Frame) → IsNewTo (value.Obj o) fs → AreWaiting c s g fs → AreWaiting c z g fs
  all_waiting_ready o later g [] new are = tt
  all_waiting_ready o later g (f ∷ fs) new are = (waiting_later g.body g.into (constructed g) f (later (entry_size f) (new.0 o refl)) are.0, all_waiting_ready o later f fs new.1 are.1)

-- the frames below wait for the frame on top, as long as that constructs the same
pub same_waiting : (c : CoreTree) (s : List Object) (g h : Frame) (fs : List Frame) → h.body ≡ g.body → h.into ≡ g.into → constructed h ≡ constructed g → AreWaiting c s g fs → AreWaiting c s h fs
same_waiting c s g h [] body into same are = tt
same_waiting c s g h (f ∷ fs) body into same are = (subst (λ b. IsWaiting c s b h.into (constructed h) f) (sym body) (subst (λ i. IsWaiting c s g.body i (constructed h) f) (sym into) (subst (λ u. IsWaiting c s g.body g.into u f) (sym same) are.0)), are.1)

pub same_constructed : (f g : Frame) → g.body ≡ f.body → (f.body.flags.ctor ≡ true → this_of g.locals ≡ this_of f.locals) → constructed g ≡ constructed f
same_constructed f g body same = ap (λ (b : BodyTree). if b.flags.ctor then this_of g.locals else value.Null) body ∙ here f.body.flags.ctor same
  where
    here : (k : Bool) → (k ≡ true → this_of g.locals ≡ this_of f.locals) → (if k then this_of g.locals else value.Null) ≡ (if k then this_of f.locals else value.Null)
    here true e = e refl
    here false e = refl

-- ---- after a call

module _ (c : CoreTree) (f : Frame) (s : List Object) (st : StmtTree) (ds : List Due) (simple : is_simple st ≡ true) (at : f.left ≡ Statement st ∷ ds) (is : IsGoodFrame c f s) where
  -- the frame waits for what the body b gives back
  pub waits : (s1 : List Object) (b : BodyTree) (into : Target) (this : Value) → ((n : ℕ) → IsLater c.classes n s s1) → ((y : ℕ) → is_target st y ≡ is_kept_in (kept_in into) y) → fits_kept c.classes f.body (kept_in into) (given_back b into) ≡ true →
      ((y : ℕ) → kept_in into ≡ Some y → is_non_null_type (slice_get (local_types f.body) y) ≡ true → is_given_back b into ≡ true) →
      ((z : List Object) (v : Value) → IsLater c.classes (entry_size f) s z → IsAnswer c b into this z v → MayBePut c f.body st z (kept_in into) v → (k : Known) → IsTrueOf f.body.flags.ctor k (scene c f z) →
      IsTrueOf f.body.flags.ctor (known_after c f.body st k) (scene c (with_local (kept_in into) v (record f { left = ds })) z)) →
      ((z : List Object) (v : Value) → IsLater c.classes (entry_size f) s z → IsAnswer c b into this z v → MayBePut c f.body st z (kept_in into) v → (r : Bool) → IsThisReady f.body.flags.ctor r (scene c f z) →
      IsThisReady f.body.flags.ctor (r || makes_ready c st) (scene c (with_local (kept_in into) v (record f { left = ds })) z)) →
      IsWaiting c s1 b into this (record f { left = ds })
  waits s1 b into this later targets fits non_null known ready = record {
    locals = locals-older c.classes s s1 (later 0).older f.body f.locals is.sound.locals;
    size = let longer = older_size s s1 (later 0).older in let size = older_size f.entry s is.sound.older in omega (arith, longer, size);
    keeps = λ v. same_constructed (record f { left = ds }) (with_local (kept_in into) v (record f { left = ds })) refl (λ ctor. put_this f.locals (kept_in into) v
        (λ y e. variable_apart f.body y is.sound.flags (target_variable c f s st ds simple at is y (targets y ∙ subst (λ x. is_kept_in x y ≡ true) (sym e) (eq-eqb y y refl))) ctor));
    goes_on = λ z v more good answer.
        let on = later_trans c.classes (entry_size f) s s1 z (later (entry_size f)) more in
        let may = kept_may c f s st ds simple at is z (kept_in into) v (given_back b into) targets fits answer.types answer.ready (λ y e nn. answer.non_null (non_null y e nn)) in
        after_frame c f s st ds simple at is z (kept_in into) v on good may (known z v on answer may) (ready z v on answer may);
  }
