-- What goes on safely from a point, where more is known of the points after: they are reached, and locals that the code doesn't assign
-- keep their values.
use Rattle.std.proofs.Common.{◌≡◌, ◌≢◌, ℕ, zero, suc, List, [], ◌∷◌, length, Bool, true, false, not, eqb, Option, Some, None, refl, sym, ◌∙◌, ap}
use Rattle.std.specs.Prelude.{slice_get, set, Result, Ok, Err}
use Rattle.std.proofs.lemmas.List.{length-set}
use Rattle.std.proofs.lemmas.Bool.{false≢true, true≢false, and_parts, eq-eqb}
use Rattle.ss_core.specs.declared.names.Place.{Place}
use Rattle.ss_core.specs.declared.names.Kind.{Kind}
use Rattle.ss_core.specs.Tree.{ExprTree, CalleeTree, Dispatched, Static, Base, BaseConstructor, ExposedTree, StmtTree, AssignStmt, WriteStmt, WriteElementStmt, NewStmt, NewArrayStmt, CallStmt, ReadyStmt, IfStmt, LoopStmt, UnpackStmt, PackStmt, AssertStmt, AssumeStmt, PrintStmt, PrintTextStmt, ReturnStmt, CodeTree, NoCode, Then, BodyTree}
use Rattle.ss_store_rules.specs.declared.Value.{Value}
use Rattle.ss_store_rules.specs.declared.Value.TheVariants as value
use Rattle.ss_store_rules.specs.Store.{Object}
use Rattle.ss_store_rules.specs.Reads.{as_int}
use Rattle.ss_store_rules.specs.Values.{local_value, value_of}
use Rattle.ss_store_rules.specs.Changes.{unpack_of, pack_of, write_of, write_element_of, new_object_of, new_array_of}
use Rattle.ss_store_rules.specs.Admissible.{invariants_hold}
use Rattle.ss_store_rules.specs.Locals.{is_kept_in, is_target, each_inside, each}
use Rattle.ss_store_rules.specs.Typed.{constructor_of}
use Rattle.ss_machine_rules.specs.Frame.{this_of}
use Rattle.ss_machine_rules.specs.States.{put}
use Rattle.ss_machine_rules.specs.Steps.{values_of, with_ready}
use Rattle.ss_machine_good.proofs.Later.{later_self, later_trans, later_new_object}
use Rattle.ss_vcgen_heaps.specs.Contracts.{called}
use Rattle.ss_sound_outcomes.specs.Points.{Activation, Point, scene, IsSound, entry_size, IsReached}
use Rattle.ss_sound_outcomes.specs.Outcomes.{Has, GoesOn, with_local, with_store, Changes, CallsSafely, Calls, ConstructsSafely, Constructs, IsTurn, Safely, AllSafely}
use Rattle.ss_sound_runs.specs.Stacks.{TestedSafely}

pub has_weaker : {A E : Type 0} (r : Result A E) (P Q : A → Type 0) → ((x : A) → P x → Q x) → Has r P → Has r Q
has_weaker (Ok x) P Q w h = w x h
has_weaker (Err e) P Q w h = absurd h

-- ---- locals that aren't assigned

-- no statement here assigns the local
abbrev pub keeps_local : StmtTree → ℕ → Bool
keeps_local s x = each_inside (λ u. not (is_target u x)) s

abbrev pub all_keep_local : CodeTree → ℕ → Bool
all_keep_local code x = each (λ u. not (is_target u x)) code

-- The point q is reached from p, and of the locals these have kept their values.
pub record HasGone (a : Activation) (kept : ℕ → Bool) (p q : Point) : Type 0 where
  pub reached : IsReached a p q
  pub count : length q.locals ≡ length p.locals
  pub same : (x : ℕ) → kept x ≡ true → slice_get q.locals x ≡ slice_get p.locals x

get_apart : (xs : List Value) (x y : ℕ) (v : Value) → x ≢ y → slice_get (set xs x v) y ≡ slice_get xs y
get_apart [] x y v ne = refl
get_apart (z ∷ xs) zero zero v ne = absurd (ne refl)
get_apart (z ∷ xs) zero (suc y) v ne = refl
get_apart (z ∷ xs) (suc x) zero v ne = refl
get_apart (z ∷ xs) (suc x) (suc y) v ne = get_apart xs x y v (λ e. ne (ap suc e))

not_kept_here : (x y : ℕ) → not (eqb x y) ≡ true → x ≢ y
not_kept_here x y h e = absurd (false≢true (sym (ap not (eq-eqb x y e)) ∙ h))

pub put_count : (x : Option ℕ) (v : Value) (locals : List Value) → length (put x v locals) ≡ length locals
put_count None v locals = refl
put_count (Some x) v locals = length-set locals x v

pub put_apart : (x : Option ℕ) (v : Value) (locals : List Value) (y : ℕ) → not (is_kept_in x y) ≡ true → slice_get (put x v locals) y ≡ slice_get locals y
put_apart None v locals y h = refl
put_apart (Some x) v locals y h = get_apart locals x y v (not_kept_here x y h)

module _ (a : Activation) where
  reached_self : (p : Point) → IsReached a p p
  reached_self p = record { later = later_self a.program.classes (entry_size a) p.store; stays = λ x t h. h }

  reached_trans : (p q r : Point) → IsReached a p q → IsReached a q r → IsReached a p r
  reached_trans p q r one two = record {
    later = later_trans a.program.classes (entry_size a) p.store q.store r.store one.later two.later;
    stays = λ x t h. two.stays x t (one.stays x t h);
  }

  gone_self : (kept : ℕ → Bool) (p : Point) → HasGone a kept p p
  gone_self kept p = record { reached = reached_self p; count = refl; same = λ x h. refl }

  gone_trans : (one two all : ℕ → Bool) (p q r : Point) → ((x : ℕ) → all x ≡ true → (one x ≡ true) × (two x ≡ true)) → HasGone a one p q → HasGone a two q r → HasGone a all p r
  gone_trans one two all p q r parts g h = record {
    reached = reached_trans p q r g.reached h.reached;
    count = h.count ∙ g.count;
    same = λ x k. h.same x (parts x k).1 ∙ g.same x (parts x k).0;
  }

  gone_less : (one all : ℕ → Bool) (p q : Point) → ((x : ℕ) → all x ≡ true → one x ≡ true) → HasGone a one p q → HasGone a all p q
  gone_less one all p q part g = record { reached = g.reached; count = g.count; same = λ x k. g.same x (part x k) }

  -- ---- turns of loops

  turned_not : (k : Bool) → not k ≡ false → k ≡ true
  turned_not true h = refl
  turned_not false h = absurd (true≢false h)

  not_turned : (k : Bool) → k ≡ true → not k ≡ false
  not_turned true h = refl
  not_turned false h = absurd (false≢true h)

  turn_of : (s : StmtTree) (p q : Point) → HasGone a (keeps_local s) p q → IsTurn a s p q
  turn_of s p q g = record { reached = g.reached; count = g.count; same = λ x h. g.same x (turned_not (keeps_local s x) h) }

  of_turn : (s : StmtTree) (p q : Point) → IsTurn a s p q → HasGone a (keeps_local s) p q
  of_turn s p q t = record { reached = t.reached; count = t.count; same = λ x h. t.same x (not_turned (keeps_local s x) h) }

  -- ---- statements

  -- what holds after the statement, and that the point after it is reached
  abbrev Follows : (ℕ → Bool) → Point → (Point → Type 0) → (Point → Type 0) → Type 0
  Follows kept p P Q = (q : Point) → P q → HasGone a kept p q → Q q

  goes_stronger : (u : StmtTree) (x : Option ℕ) (v : Value) (z : List Object) (p : Point) (P Q : Point → Type 0) → ((y : ℕ) → keeps_local u y ≡ true → not (is_kept_in x y) ≡ true) → Follows (keeps_local u) p P Q →
      GoesOn a u P p (with_local x v (with_store z p)) → GoesOn a u Q p (with_local x v (with_store z p))
  goes_stronger u x v z p P Q kept w h sound behind =
      w (with_local x v (with_store z p)) (h sound behind) (record { reached = behind.reached; count = put_count x v p.locals; same = λ y k. put_apart x v p.locals y (kept y k) })

  changes_stronger : (u : StmtTree) (r : Result (List Object) Kind) (p : Point) (P Q : Point → Type 0) → Follows (keeps_local u) p P Q → Changes a u P p r → Changes a u Q p r
  changes_stronger u r p P Q w h =
      has_weaker r (λ s. GoesOn a u P p (with_store s p)) (λ s. GoesOn a u Q p (with_store s p)) (λ s g. goes_stronger u None value.Null s p P Q (λ y k. refl) w g) h

  calls_safely_stronger : (u : StmtTree) (x : Option ℕ) (o : Option BodyTree) (arguments : List Value) (p : Point) (P Q : Point → Type 0) → ((y : ℕ) → keeps_local u y ≡ true → not (is_kept_in x y) ≡ true) → Follows (keeps_local u) p P Q →
      CallsSafely a u P p x o arguments → CallsSafely a u Q p x o arguments
  calls_safely_stronger u x None arguments p P Q kept w h = w p h (gone_self (keeps_local u) p)
  calls_safely_stronger u x (Some b) arguments p P Q kept w h = λ passed. ((h passed).0, λ z v r. goes_stronger u x v z p P Q kept w ((h passed).1 z v r))

  calls_stronger : (u : StmtTree) (x : Option ℕ) (callee : CalleeTree) (es : List ExprTree) (p : Point) (P Q : Point → Type 0) → ((y : ℕ) → keeps_local u y ≡ true → not (is_kept_in x y) ≡ true) → Follows (keeps_local u) p P Q →
      Calls a u P p x callee es → Calls a u Q p x callee es
  calls_stronger u x (Dispatched e t m) es p P Q kept w h =
      let o = called a.program a.body (Dispatched e t m) in
      has_weaker (value_of e (scene a p)) _ _ (λ v g. has_weaker (values_of es (scene a p)) _ _ (λ vs k. (k.0, calls_safely_stronger u x o (v ∷ vs) p P Q kept w k.1)) g) h
  calls_stronger u x (Static n) es p P Q kept w h =
      has_weaker (values_of es (scene a p)) _ _ (λ vs k. calls_safely_stronger u x (called a.program a.body (Static n)) vs p P Q kept w k) h
  calls_stronger u x (Base n) es p P Q kept w h =
      has_weaker (values_of es (scene a p)) _ _ (λ vs k. calls_safely_stronger u x (called a.program a.body (Base n)) (this_of p.locals ∷ vs) p P Q kept w k) h
  calls_stronger u x (BaseConstructor n) es p P Q kept w h =
      has_weaker (values_of es (scene a p)) _ _ (λ vs k. calls_safely_stronger u x (called a.program a.body (BaseConstructor n)) (this_of p.locals ∷ vs) p P Q kept w k) h

  new_gone : (kept : ℕ → Bool) (t : ℕ) (p : Point) → HasGone a kept p (with_store (new_object_of a.program.classes p.store t) p)
  new_gone kept t p = record {
    reached = record { later = later_new_object a.program.classes (entry_size a) p.store t; stays = λ x n h. h };
    count = refl;
    same = λ x h. refl;
  }

  constructs_safely_stronger : (u : StmtTree) (x : Option ℕ) (t : ℕ) (o : Option BodyTree) (this : Value) (vs : List Value) (p : Point) (P Q : Point → Type 0) → ((y : ℕ) → keeps_local u y ≡ true → not (is_kept_in x y) ≡ true) →
      Follows (keeps_local u) p P Q → ConstructsSafely a u P p x o this vs (new_object_of a.program.classes p.store t) → ConstructsSafely a u Q p x o this vs (new_object_of a.program.classes p.store t)
  constructs_safely_stronger u x t None this vs p P Q kept w h = w (with_store (new_object_of a.program.classes p.store t) p) h (new_gone (keeps_local u) t p)
  constructs_safely_stronger u x t (Some b) this vs p P Q kept w h = λ passed. ((h passed).0, λ z v fits r. goes_stronger u x this (with_ready z this) p P Q kept w ((h passed).1 z v fits r))

  constructs_stronger : (u : StmtTree) (x : Option ℕ) (t : ℕ) (es : List ExprTree) (p : Point) (P Q : Point → Type 0) → ((y : ℕ) → keeps_local u y ≡ true → not (is_kept_in x y) ≡ true) → Follows (keeps_local u) p P Q →
      Constructs a u P p x t es → Constructs a u Q p x t es
  constructs_stronger u x t es p P Q kept w h =
      has_weaker (values_of es (scene a p)) _ _ (λ vs k good fits. constructs_safely_stronger u x t (constructor_of a.program t) (value.Obj (length p.store)) vs p P Q kept w (k good fits)) h

  -- ---- code

  mutual
    -- more may be asked after a statement
    pub stronger : (s : StmtTree) (p : Point) (P Q : Point → Type 0) → ((q : Point) → P q → HasGone a (keeps_local s) p q → Q q) → Safely a s p P → Safely a s p Q
    stronger (AssignStmt at x e) p P Q w h =
        has_weaker (value_of e (scene a p)) _ _ (λ v g. goes_stronger (AssignStmt at x e) (Some x) v p.store p P Q (λ y k. k) w g) h
    stronger (WriteStmt at o g m t e) p P Q w h =
        has_weaker (value_of o (scene a p)) _ _ (λ v h1. has_weaker (value_of e (scene a p)) _ _ (λ n h2. changes_stronger (WriteStmt at o g m t e) (write_of a.program.classes p.store v g n) p P Q w h2) h1) h
    stronger (WriteElementStmt at e i value) p P Q w h =
        has_weaker (value_of e (scene a p)) _ _ (λ v h1. has_weaker (value_of i (scene a p)) _ _ (λ n h2. has_weaker (value_of value (scene a p)) _ _
        (λ u h3. changes_stronger (WriteElementStmt at e i value) (write_element_of p.store v (as_int n) u) p P Q w h3) h2) h1) h
    stronger (NewStmt at x t es) p P Q w h = constructs_stronger (NewStmt at x t es) x t es p P Q (λ y k. k) w h
    stronger (NewArrayStmt at x t e) p P Q w h =
        has_weaker (value_of e (scene a p)) _ _ (λ n h1. has_weaker (new_array_of p.store t (as_int n)) _ _
        (λ s g. goes_stronger (NewArrayStmt at x t e) x (value.Obj (length p.store)) s p P Q (λ y k. k) w g) h1) h
    stronger (CallStmt at x callee es) p P Q w h = calls_stronger (CallStmt at x callee es) x callee es p P Q (λ y k. k) w h
    stronger (ReadyStmt at) p P Q w h = goes_stronger (ReadyStmt at) None value.Null (with_ready p.store (this_of p.locals)) p P Q (λ y k. refl) w h
    stronger (IfStmt at e one other) p P Q w h =
        has_weaker (value_of e (scene a p)) _ _ (λ v both. (
          λ t. all_stronger one p P Q (λ q k g. w q k (gone_less (all_keep_local one) (keeps_local (IfStmt at e one other)) p q (λ x i. (and_parts (all_keep_local one x) (all_keep_local other x) i).0) g)) (both.0 t),
          λ t. all_stronger other p P Q (λ q k g. w q k (gone_less (all_keep_local other) (keeps_local (IfStmt at e one other)) p q (λ x i. (and_parts (all_keep_local one x) (all_keep_local other x) i).1) g)) (both.1 t),
        )) h
    stronger (LoopStmt at asked prelude e body exposes) p P Q w h =
        let s = LoopStmt at asked prelude e body exposes in (
          h.0,
          λ q turn at_head sound. all_stronger prelude q _ _
              (λ r tested g. has_weaker (value_of e (scene a r)) _ _
              (λ v both. (both.0, λ t. w r (both.1 t) (gone_trans (keeps_local s) (all_keep_local prelude) (keeps_local s) p q r (λ x i. (i, (and_parts (all_keep_local prelude x) (all_keep_local body x) i).0)) (of_turn s p q turn) g)))
              tested)
              (h.1 q turn at_head sound),
        )
    stronger (UnpackStmt at x t) p P Q w h = changes_stronger (UnpackStmt at x t) (unpack_of a.program.classes p.store (local_value (scene a p) x) t) p P Q w h
    stronger (PackStmt at x t) p P Q w h = changes_stronger (PackStmt at x t) (pack_of a.program.classes (invariants_hold a.program.classes) p.store (local_value (scene a p) x) t) p P Q w h
    stronger (AssertStmt at e) p P Q w h = (h.0, w p h.1 (gone_self _ p))
    stronger (AssumeStmt at e) p P Q w h = λ t. w p (h t) (gone_self _ p)
    stronger (PrintStmt at None newline) p P Q w h = w p h (gone_self _ p)
    stronger (PrintStmt at (Some e) newline) p P Q w h = has_weaker (value_of e (scene a p)) _ _ (λ v k. w p k (gone_self _ p)) h
    stronger (PrintTextStmt at text newline) p P Q w h = w p h (gone_self _ p)
    stronger (ReturnStmt at e) p P Q w h = h

    -- and after code
    pub all_stronger : (code : CodeTree) (p : Point) (P Q : Point → Type 0) → ((q : Point) → P q → HasGone a (all_keep_local code) p q → Q q) → AllSafely a code p P → AllSafely a code p Q
    all_stronger NoCode p P Q w h = w p h (gone_self _ p)
    all_stronger (Then s code) p P Q w h =
        stronger s p (λ q. AllSafely a code q P) (λ q. AllSafely a code q Q)
        (λ q k g. all_stronger code q P Q (λ r j more. w r j (gone_trans (keeps_local s) (all_keep_local code) (all_keep_local (Then s code)) p q r (λ x i. and_parts (keeps_local s x) (all_keep_local code x) i) g more)) k) h

  pub weaker : (s : StmtTree) (p : Point) (P Q : Point → Type 0) → ((q : Point) → P q → Q q) → Safely a s p P → Safely a s p Q
  weaker s p P Q w h = stronger s p P Q (λ q k g. w q k) h

  -- ---- a loop that is reached again

  -- from the head of a loop
  pub turns_safely : (at : Place) (asked : List ExprTree) (prelude : CodeTree) (e : ExprTree) (body : CodeTree) (exposes : List ExposedTree) (p : Point) (Q : Point → Type 0) → IsSound a p →
      Safely a (LoopStmt at asked prelude e body exposes) p Q → AllSafely a prelude p (λ q. TestedSafely a e body (LoopStmt at asked prelude e body exposes) q Q)
  turns_safely at asked prelude e body exposes p Q sound h =
      let s = LoopStmt at asked prelude e body exposes in
      all_stronger prelude p _ _
      (λ r tested g. has_weaker (value_of e (scene a r)) _ _
      (λ v both. (
        λ t. all_stronger body r _ _
            (λ z at_head more. (
              at_head,
              λ q turn holds is_sound.
                  let here : HasGone a (keeps_local s) p z = gone_trans (all_keep_local prelude) (all_keep_local body) (keeps_local s) p r z (λ x i. and_parts (all_keep_local prelude x) (all_keep_local body x) i) g more in
                  h.1 q (turn_of s p q (gone_trans (keeps_local s) (keeps_local s) (keeps_local s) p z q (λ x i. (i, i)) here (of_turn s z q turn))) holds is_sound,
            ))
            (both.0 t),
        both.1,
      ))
      tested)
      (h.1 p (turn_of s p p (gone_self (keeps_local s) p)) h.0 sound)
