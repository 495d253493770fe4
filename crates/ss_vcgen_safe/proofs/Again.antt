-- What stays so from where a loop begins to where a turn begins.
use Rattle.std.proofs.Common.{◌≡◌, ℕ, zero, suc, ◌<◌, List, [], ◌∷◌, length, Bool, true, false, not, ◌&&◌, refl, sym, ◌∙◌, ap, subst, ⊎_elim, arith}
use Rattle.std.specs.Prelude.{Option, Some, None, option_map, unwrap_or, slice_get, nat_le, if◌then◌else◌}
use Rattle.std.proofs.lemmas.Bool.{false≢true, true≢false, and_parts, and_from, cases_Bool, ltb-true, leb-true, eqb-true}
use Rattle.ss_core.specs.declared.names.Ty.{Ty}
use Rattle.ss_core.specs.declared.names.Ty.TheVariants as ty
use Rattle.ss_core.specs.Tree.{ClassTree, StmtTree, AssignStmt, NewStmt, NewArrayStmt, CallStmt, IfStmt, LoopStmt, CodeTree, NoCode, Then, BodyTree}
use Rattle.ss_store_rules.specs.declared.Value.{Value}
use Rattle.ss_store_rules.specs.declared.Value.TheVariants as value
use Rattle.ss_store_rules.specs.Store.{Object}
use Rattle.ss_store_rules.specs.Good.{has_type, is_of_class}
use Rattle.ss_store_rules.specs.Locals.{local_types, argument_count, is_argument, is_variable, each, each_inside, is_kept_in, is_kept_among, is_target, assigns, targets_only}
use Rattle.ss_store_rules.specs.NonNull.{Facts, no_facts, Known, known_head}
use Rattle.ss_store_rules.specs.Values.{Setting, local_value}
use Rattle.ss_machine_good.specs.Known.{AreNotNull, IsSide, IsTrueOf}
use Rattle.ss_machine_good.proofs.Behind.{later_given}
use Rattle.ss_sound_outcomes.specs.Points.{Activation, Point, scene, entry_size, IsSound}
use Rattle.ss_sound_outcomes.specs.Outcomes.{IsTurn}
use Rattle.ss_vcgen_safe.proofs.PositionsJoins.{get_below}

-- ---- arguments aren't assigned

kept_among : (among : ℕ → Bool) (x : Option ℕ) (y : ℕ) → is_kept_among among x ≡ true → among y ≡ false → not (is_kept_in x y) ≡ true
kept_among among None y h off = refl
kept_among among (Some x) y h off =
    ⊎_elim (λ e. absurd (true≢false (sym (subst (λ n. among n ≡ true) (eqb-true x y e) h) ∙ off))) (λ e. ap not e) (cases_Bool (is_kept_in (Some x) y))

not_target : (among : ℕ → Bool) (y : ℕ) → among y ≡ false → (s : StmtTree) → targets_only among s ≡ true → not (is_target s y) ≡ true
not_target among y off (AssignStmt p x e) h = kept_among among (Some x) y h off
not_target among y off (NewStmt p x t es) h = kept_among among x y h off
not_target among y off (NewArrayStmt p x t e) h = kept_among among x y h off
not_target among y off (CallStmt p x callee es) h = kept_among among x y h off
not_target among y off s h = refl

mutual
  none_inside : (among : ℕ → Bool) (y : ℕ) → among y ≡ false → (s : StmtTree) → each_inside (targets_only among) s ≡ true → each_inside (λ u. not (is_target u y)) s ≡ true
  none_inside among y off (IfStmt p e a b) h =
      let q = and_parts (targets_only among (IfStmt p e a b) && each (targets_only among) a) (each (targets_only among) b) h in
      and_from (each (λ u. not (is_target u y)) a) (each (λ u. not (is_target u y)) b) (none_of among y off a q.0) (none_of among y off b q.1)
  none_inside among y off (LoopStmt p invariants prelude e body exposes) h =
      let q = and_parts (targets_only among (LoopStmt p invariants prelude e body exposes) && each (targets_only among) prelude) (each (targets_only among) body) h in
      and_from (each (λ u. not (is_target u y)) prelude) (each (λ u. not (is_target u y)) body) (none_of among y off prelude q.0) (none_of among y off body q.1)
  none_inside among y off s h = not_target among y off s h

  none_of : (among : ℕ → Bool) (y : ℕ) → among y ≡ false → (code : CodeTree) → each (targets_only among) code ≡ true → each (λ u. not (is_target u y)) code ≡ true
  none_of among y off NoCode h = refl
  none_of among y off (Then s code) h =
      let q = and_parts (each_inside (targets_only among) s) (each (targets_only among) code) h in
      and_from (each_inside (λ u. not (is_target u y)) s) (each (λ u. not (is_target u y)) code) (none_inside among y off s q.0) (none_of among y off code q.1)

-- an argument is no variable
not_variable : (b : BodyTree) (x : ℕ) → is_argument b x ≡ true → is_variable b x ≡ false
not_variable b x h =
    let low = ltb-true x (argument_count b) h in
    ⊎_elim (λ e. absurd (let far = leb-true (argument_count b) x (and_parts (nat_le (argument_count b) x) _ e).0 in omega (arith, far, low))) (λ e. e) (cases_Bool (is_variable b x))

pub argument_unassigned : (b : BodyTree) (s : StmtTree) (x : ℕ) → each_inside (targets_only (is_variable b)) s ≡ true → is_argument b x ≡ true → assigns s x ≡ false
argument_unassigned b s x h is = ap not (none_inside (is_variable b) x (not_variable b x is) s h)

-- ---- what is known of null

pub not_true : (b : Bool) → not b ≡ true → b ≡ false
not_true true h = absurd (false≢true h)
not_true false h = refl

kept_facts : (s : StmtTree) (f : Facts) (c d : Setting) → ((y : ℕ) → assigns s y ≡ false → local_value d y ≡ local_value c y) → AreNotNull f c → AreNotNull (λ y. f y && not (assigns s y)) d
kept_facts s f c d same so y h e = let r = and_parts (f y) (not (assigns s y)) h in so y r.0 (sym (same y (not_true (assigns s y) r.1)) ∙ e)

abbrev but_assigned : StmtTree → Option Facts → Option Facts
but_assigned s o = option_map (λ f y. f y && not (assigns s y)) o

side_at : (s : StmtTree) (known : Known) (c d : Setting) (x : ℕ) (v : Bool) → ((y : ℕ) → assigns s y ≡ false → local_value d y ≡ local_value c y) → (b : Bool) → (b ≡ false → IsSide known c x v) →
    (f : Facts) × ((if b then Some no_facts else but_assigned s (known.sides x v)) ≡ Some f) × AreNotNull f d
side_at s known c d x v same true side = (no_facts, refl, λ y h. absurd (false≢true h))
side_at s known c d x v same false side =
    let r = side refl in
    let left : Facts → Facts = λ g y. g y && not (assigns s y) in
    (left r.facts, ap (but_assigned s) r.there, kept_facts s r.facts c d same r.so)

-- ---- the object of a local

pub get_there : {A : Type 0} (xs : List A) (i : ℕ) → i < length xs → (x : A) × (slice_get xs i ≡ Some x)
get_there [] i h = absurd (omega (arith, h))
get_there (x ∷ xs) zero h = (x, refl)
get_there (x ∷ xs) (suc i) h = get_there xs i (omega (arith, h))

some_object : (cs : List ClassTree) (t : ℕ) (o : Option Object) → is_of_class cs t o ≡ true → (y : Object) × (o ≡ Some y)
some_object cs t None h = absurd (false≢true h)
some_object cs t (Some y) h = (y, refl)

object_there : (cs : List ClassTree) (s : List Object) (t : Ty) (o : ℕ) → has_type cs s t (value.Obj o) ≡ true → (y : Object) × (slice_get s o ≡ Some y)
object_there cs s ty.Int o h = absurd (false≢true h)
object_there cs s ty.Bool o h = absurd (false≢true h)
object_there cs s ty.Null o h = absurd (false≢true h)
object_there cs s (ty.Ref t n) o h = some_object cs t.0 (slice_get s o) h

value_there : (v : Option Value) (o : ℕ) → unwrap_or v value.Null ≡ value.Obj o → v ≡ Some (value.Obj o)
value_there None o e = let no : ⊥ = cc in absurd no
value_there (Some v) o e = ap Some e

module _ (a : Activation) (p : Point) (sound : IsSound a p) where
  local_object : (x o : ℕ) → local_value (scene a p) x ≡ value.Obj o → (y : Object) × (slice_get p.store o ≡ Some y)
  local_object x o e =
      let there = value_there (slice_get p.locals x) o e in
      let low = get_below p.locals x (value.Obj o) there in
      let count = sound.locals.count in
      let t = get_there (local_types a.body) x (omega (arith, low, count)) in
      object_there a.program.classes p.store t.0 o (sound.locals.types x t.0 (value.Obj o) t.1 there)

  module _ (s : StmtTree) (q : Point) (turn : IsTurn a s p q) where
    pub same_value : (x : ℕ) → assigns s x ≡ false → local_value (scene a q) x ≡ local_value (scene a p) x
    same_value x off = ap (λ v. unwrap_or v value.Null) (turn.same x off)

    -- What is known at a loop is known at its head again, but for what the loop may undo.
    pub known_again : (a.body.flags.ctor ≡ true → assigns s 0 ≡ false) → (known : Known) → IsTrueOf a.body.flags.ctor known (scene a p) → IsTrueOf a.body.flags.ctor (known_head s known) (scene a q)
    known_again this known so = record {
      facts = kept_facts s known.facts (scene a p) (scene a q) same_value so.facts;
      sides = λ x v e.
          let r = side_at s known (scene a p) (scene a q) x v same_value (assigns s x) (λ off. so.sides x v (sym (same_value x off) ∙ e)) in
          record { facts = r.0; there = r.1; so = r.2 };
      fields = λ ctor f h o x at ex null.
          let here : local_value (scene a p) 0 ≡ value.Obj o = sym (same_value 0 (this ctor)) ∙ at in
          let y = local_object 0 o here in
          later_given a.program (entry_size a) p.store q.store turn.reached.later (local_value (scene a p) 0) o y.0 here y.1 f (so.fields ctor f h) o x here ex null;
    }
