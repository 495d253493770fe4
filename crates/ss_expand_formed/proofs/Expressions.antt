-- Each expression that fits: what is lifted out of it keeps nulls out, and its value is known as the phase of null knows it.
use Rattle.std.proofs.Common.{◌≡◌, ℕ, ◌+◌, List, [], ◌∷◌, length, Bool, true, false, Option, Some, refl, sym, ◌∙◌, ap, arith}
use Rattle.std.specs.Prelude.{not, ◌&&◌, ◌||◌, if◌then◌else◌, is_some, nat_le}
use Rattle.std.proofs.lemmas.Bool.{and_parts, and_from, or_right, false≢true}
use Rattle.ss_core.specs.declared.names.Place.{Place}
use Rattle.ss_core.specs.declared.names.Ty.{Ty}
use Rattle.ss_core.specs.Tree as core
use Rattle.ss_core.specs.View.{code_of}
use Rattle.ss_core.specs.Chain.{above}
use Rattle.ss_typed.specs.Tree.{ExprTree, QuantifiedOf, StateOf, OwnersOf, IffOf, ImpliesOf, BinaryOf, IsOf, AsOf, NegateOf, NotOf, CastOf, FieldOf, ElementOf, LengthOf, OldOf, NewOf, NewArrayOf, CallOf, StaticOf, BaseOf, Arguments, NoMore, Argument}
use Rattle.ss_typed.specs.Types.{type_of}
use Rattle.ss_paths.specs.Fields as fields
use Rattle.ss_typed.specs.Shapes.{is_this}
use Rattle.ss_nonnull_rules.specs.NonNull as source
use Rattle.ss_nonnull_rules.specs.Facts.{says, the_local, is_null}
use Rattle.ss_nonnull_rules.specs.Faults.{inside, handed, parameters, body_in_table, class_of, method_of, constructor_parameters}
use Rattle.ss_expand_rules.specs.Numbers.{plain, plain_arguments}
use Rattle.ss_expand_rules.specs.Calls.{has_call, have_call, is_lazy}
use Rattle.ss_expand_rules.specs.Program.{above_of, number_of_written}
use Rattle.ss_expand_rules.specs.Lifting.{Opened, unlifted, Source, Created, CreatedArray, Called, Valued, Listed, any_object, operand, first_type, other_types, operands_of, and_operands, no_operands, called, only_of, dispatched, static_class, base_number, types_of_constructor, types_of_written, types_of_method, lifted, in_temporaries, right_side, value, arguments_of}
use Rattle.ss_store_rules.specs.Changes.{field_type}
use Rattle.ss_store_rules.specs.Good.{is_non_null}
use Rattle.ss_store_rules.specs.Locals.{each, targets_only}
use Rattle.ss_store_rules.specs.Typed.{constructor_of, callee_of}
use Rattle.ss_store_rules.specs.NonNull.{Known, is_non_null_type, is_this_object, result_of, arguments_may_stand, may_enter}
use Rattle.ss_expand_formed.proofs.Facts.{none_left, or_false}
use Rattle.ss_expand_formed.proofs.Shaped.{in_temporaries_go}
use Rattle.ss_expand_formed.proofs.Truths.{and_more}
use Rattle.ss_expand_formed.specs.Fitting.{Frame, implied, is_own_local, wants_no_more, enters_with, gives, reads_set, fits, all_fit, Agrees, Covers, HasMade}
use Rattle.ss_expand_formed.proofs.Growing.{Begins, begins_itself, in_temporaries_begin, valued_from_begins}
use Rattle.ss_expand_formed.proofs.New.{assigns_new}
use Rattle.ss_expand_formed.proofs.NullsPlain.{not_none, implied_true, on_set, set_field}
use Rattle.ss_expand_formed.proofs.Putting.{source_never, source_enters, runs_nothing, runs_join}
use Rattle.ss_expand_formed.proofs.Lifted.{ns, never_in, Lifts, Values, made_before, valued_known, lifted_of_known, operand_known, unary_known}
use Rattle.ss_expand_formed.proofs.Operations.{wants_of, wants_of_entered, wants_others, local_calls, s, Lists, handed_parts, stand_with, plain_stand, may_enter_with, held_later, pair_known, operation_known, implies_known, Rec}

module _ (z : Frame) (agrees : Agrees z) (os : List Opened) where
  -- the code of the other arguments assigns none of the temporaries made so far
  others_new : (ts : List Ty) (es : Arguments) (made : List Ty) → each (targets_only (nat_le ((ns z agrees).first_temporary + length made))) (code_of (in_temporaries (s z agrees os) ts es made).code) ≡ true
  others_new ts es made =
      let first = (ns z agrees).first_temporary in
      let d = in_temporaries (s z agrees os) ts es made in
      assigns_new (s z agrees os).body.class first (first + length made) (s z agrees os).exposes (length made) d.code (length d.made) (omega arith) (in_temporaries_go first (s z agrees os) ts es made)

  -- operands in temporaries or, where none has a call, as they are
  operands_known : (k : source.Known) (l : Known) (us : List Ty) (es : Arguments) (f : List Ty → Listed) (made : List Ty) →
      (have_call es ≡ true → HasMade z (f made).made → Lists z agrees os k l us (f made)) → (have_call es ≡ false → Lists z agrees os k l us (record { code = []; values = plain_arguments (ns z agrees) es; made = made })) →
      HasMade z (operands_of (ns z agrees) es f made).made → Lists z agrees os k l us (operands_of (ns z agrees) es f made)
  operands_known k l us es f made one other m = by (have_call es) refl m
    where
      by : (b : Bool) → have_call es ≡ b → HasMade z (if b then f made else record { code = []; values = plain_arguments (ns z agrees) es; made = made }).made →
          Lists z agrees os k l us (if b then f made else record { code = []; values = plain_arguments (ns z agrees) es; made = made })
      by true i m = one i m
      by false i m = other i

  plain_known : (k : source.Known) (l : Known) → Covers z k l → (us ts : List Ty) (es : Arguments) (made : List Ty) → all_fit z es ≡ true → have_call es ≡ false → handed z.context (Some k) es ts ≡ [] → wants_no_more us ts ≡ true →
      Lists z agrees os k l us (record { code = []; values = plain_arguments (ns z agrees) es; made = made })
  plain_known k l c us ts es made f n h w = record { now = l; runs = runs_nothing z l; covers = c; stand = plain_stand z agrees os k l c es f n us ts h w }

  -- what a call makes
  call_lifts : (k : source.Known) (l : Known) (us : List Ty) (e : ExprTree) (f : List core.ExprTree → Source) (d : Listed) → (h : Lists z agrees os k l us d) → ((u : Bool) (x : ℕ) → says e u x ≡ true → ⊥) → is_lazy e ≡ false →
      ((m : Known) → never_in z agrees k e ≡ true → source_never z m (f d.values) ≡ true) → ((m : Known) → arguments_may_stand z.program z.body m d.values us ≡ true → source_enters z m (f d.values) ≡ true) →
      Lifts z agrees k l e (called f d)
  call_lifts k l us e f d h nothing plain never enters = record {
    now = h.now;
    runs = h.runs;
    covers = h.covers;
    told = λ u x i. absurd (nothing u x i);
    never = never h.now;
    enters = enters h.now h.stand;
    other = λ i c. absurd (false≢true (sym plain ∙ i));
  }

  unlifted_known : (k : source.Known) (l : Known) (e : ExprTree) (v : core.ExprTree) (made : List Ty) → Covers z k l → ((u : Bool) (x : ℕ) → says e u x ≡ true → ⊥) → never_in z agrees k e ≡ false → is_lazy e ≡ false → Lifts z agrees k l e (unlifted v made)
  unlifted_known k l e v made c nothing maybe plain = record {
    now = l;
    runs = runs_nothing z l;
    covers = c;
    told = λ u x i. absurd (nothing u x i);
    never = λ i. absurd (false≢true (sym maybe ∙ i));
    enters = refl;
    other = λ i g. absurd (false≢true (sym plain ∙ i));
  }

  arguments_with : (us ts wanted : List Ty) (es : Arguments) → all_fit z es ≡ true → (k : source.Known) (l : Known) (made : List Ty) → Covers z k l → handed z.context (Some k) es ts ≡ [] → wants_no_more us ts ≡ true →
      (HasMade z (in_temporaries (s z agrees os) wanted es made).made → Lists z agrees os k l us (in_temporaries (s z agrees os) wanted es made)) →
      HasMade z (operands_of (ns z agrees) es (in_temporaries (s z agrees os) wanted es) made).made → Lists z agrees os k l us (operands_of (ns z agrees) es (in_temporaries (s z agrees os) wanted es) made)
  arguments_with us ts wanted es f k l made c h w rec m = operands_known k l us es (in_temporaries (s z agrees os) wanted es) made (λ i g. rec g) (λ n. plain_known k l c us ts es made f n h w) m

  -- an object of which nothing is asked, and arguments after it
  receiver_with : (k : source.Known) (l : Known) (us : List Ty) (e : ExprTree) (es : Arguments) (others : List Ty → Listed) (made : List Ty) → Covers z k l → fits z e ≡ true → ((ms : List Ty) → Begins ms (others ms).made) →
      HasMade z (operands_of (ns z agrees) (Argument e es) (λ q. and_operands (operand (ns z agrees) any_object e (lifted (s z agrees os) e) q) others) made).made →
      (has_call e ≡ true → HasMade z (lifted (s z agrees os) e made).made → Lifts z agrees k l e (lifted (s z agrees os) e made)) →
      ((v : Valued) (n : Known) → Covers z k n → HasMade z (others v.made).made → Lists z agrees os k n us (others v.made)) →
      (have_call es ≡ false → arguments_may_stand z.program z.body l (plain_arguments (ns z agrees) es) us ≡ true) →
      Lists z agrees os k l (any_object ∷ us) (operands_of (ns z agrees) (Argument e es) (λ q. and_operands (operand (ns z agrees) any_object e (lifted (s z agrees os) e) q) others) made)
  receiver_with k l us e es others made c f begins m one rest plainly =
      operands_known k l (any_object ∷ us) (Argument e es) (λ q. and_operands (operand (ns z agrees) any_object e (lifted (s z agrees os) e) q) others) made
      (λ i g.
      let v = operand (ns z agrees) any_object e (lifted (s z agrees os) e) made in
      let first = operand_known z agrees k l any_object e (lifted (s z agrees os) e) made c f (made_before z agrees v.made (others v.made).made (begins v.made) g) one in
      let second = rest v first.values.now first.values.covers g in
      record {
        now = second.now;
        runs = runs_join z l first.values.now second.now v.code (others v.made).code first.values.runs second.runs;
        covers = second.covers;
        stand = and_from _ _ refl second.stand;
      })
      (λ n. record { now = l; runs = runs_nothing z l; covers = c; stand = and_from _ _ refl (plainly (or_false (has_call e) (have_call es) n).1) }) m

  -- of an operand alone nothing is asked
  forget_last : (k : source.Known) (l : Known) (d : Listed) → Lists z agrees os k l (any_object ∷ []) d → Lists z agrees os k l [] d
  forget_last k l d h = record { now = h.now; runs = h.runs; covers = h.covers; stand = nothing_asked d.values }
    where
      nothing_asked : (vs : List core.ExprTree) → arguments_may_stand z.program z.body h.now vs [] ≡ true
      nothing_asked [] = refl
      nothing_asked (v ∷ vs) = refl

  dispatched_never : (p : Place) (t n : ℕ) (u : Option Ty) (o : Option core.BodyTree) → callee_of z.program z.body (core.Dispatched (core.NullExpr p) t n) ≡ o → (m : Known) (vs : List core.ExprTree) → gives u o ≡ true → source.is_non_null_type u ≡ true → source_never z m (dispatched p t n vs) ≡ true
  dispatched_never p t n u o is m [] g h = ap (λ x. is_non_null_type (result_of x)) is ∙ implied_true (source.is_non_null_type u) _ g h
  dispatched_never p t n u o is m (v ∷ vs) g h = ap (λ x. is_non_null_type (result_of x)) is ∙ implied_true (source.is_non_null_type u) _ g h

  dispatched_enters : (p : Place) (t n : ℕ) (o : Option core.BodyTree) → callee_of z.program z.body (core.Dispatched (core.NullExpr p) t n) ≡ o → (m : Known) (vs : List core.ExprTree) → arguments_may_stand z.program z.body m vs (any_object ∷ wants_of o) ≡ true → source_enters z m (dispatched p t n vs) ≡ true
  dispatched_enters p t n o is m [] h = ap (may_enter z.program z.body m []) is ∙ may_enter_with z agrees os o m [] refl
  dispatched_enters p t n o is m (v ∷ vs) h = ap (may_enter z.program z.body m vs) is ∙ may_enter_with z agrees os o m vs (and_parts true (arguments_may_stand z.program z.body m vs (wants_of o)) h).1

  mutual
    pub lifted_known : (e : ExprTree) → fits z e ≡ true → Rec z agrees os e
    lifted_known (IffOf p a b) f k l made c i h m =
        let both = and_parts (fits z a) (fits z b) f in
        let parts = none_left (inside z.context (Some k) a) (inside z.context (Some k) b) i in
        pair_known z agrees os k l (IffOf p a b) a b (core.IffExpr p) made c both.0 both.1 (λ u x e. not_none x e) refl refl m (λ q r. lifted_known a both.0 k l made c parts.0 q r) (λ n ms d q r. lifted_known b both.1 k n ms d parts.1 q r)
    lifted_known (ElementOf p a b) f k l made c i h m =
        let both = and_parts (fits z a) (fits z b) f in
        let parts = none_left (inside z.context (Some k) a) (inside z.context (Some k) b) i in
        pair_known z agrees os k l (ElementOf p a b) a b (core.ElementExpr p) made c both.0 both.1 (λ u x e. not_none x e) refl refl m (λ q r. lifted_known a both.0 k l made c parts.0 q r) (λ n ms d q r. lifted_known b both.1 k n ms d parts.1 q r)
    lifted_known (ImpliesOf p a b) f k l made c i h m =
        let both = and_parts (fits z a) (fits z b) f in
        let parts = none_left (inside z.context (Some k) a) (inside z.context (Some k) b) i in
        implies_known z agrees os p a b k l made c both.0 both.1 parts.0 parts.1 m (lifted_known a both.0) (lifted_known b both.1)
    lifted_known (BinaryOf p o a b) f k l made c i h m =
        let both = and_parts (implied (is_null b) (is_own_local z a) && fits z a) (fits z b) f in
        let left = (and_parts (implied (is_null b) (is_own_local z a)) (fits z a) both.0).1 in
        operation_known z agrees os p o a b k l made c left both.1 i h m (lifted_known a left) (lifted_known b both.1)
    lifted_known (IsOf p e t) f k l made c i h m =
        let fit = (and_parts (is_own_local z e) (fits z e) f).1 in
        let v = operand_known z agrees k l any_object e (lifted (s z agrees os) e) made c fit m (λ q r. lifted_known e fit k l made c i q r) in
        unary_known z agrees k l (IsOf p e t) e (operand (ns z agrees) any_object e (lifted (s z agrees os) e) made) (λ v. core.IsExpr p v t) v.values (λ u x j. absurd (false≢true (sym (local_calls e x (on_set u (the_local e) x j).1) ∙ h))) (λ j. absurd (false≢true j)) (λ j g. absurd (false≢true j))
    lifted_known (AsOf p e t) f k l made c i h m =
        let v = operand_known z agrees k l any_object e (lifted (s z agrees os) e) made c f m (λ q r. lifted_known e f k l made c i q r) in
        unary_known z agrees k l (AsOf p e t) e (operand (ns z agrees) any_object e (lifted (s z agrees os) e) made) (λ v. core.AsExpr p v t) v.values (λ u x j. not_none x j) (λ j. absurd (false≢true j)) (λ j g. absurd (false≢true j))
    lifted_known (NegateOf p e) f k l made c i h m =
        let v = operand_known z agrees k l any_object e (lifted (s z agrees os) e) made c f m (λ q r. lifted_known e f k l made c i q r) in
        unary_known z agrees k l (NegateOf p e) e (operand (ns z agrees) any_object e (lifted (s z agrees os) e) made) (core.NegateExpr p) v.values (λ u x j. not_none x j) (λ j. absurd (false≢true j)) (λ j g. absurd (false≢true j))
    lifted_known (NotOf p e) f k l made c i h m =
        let v = operand_known z agrees k l any_object e (lifted (s z agrees os) e) made c f m (λ q r. lifted_known e f k l made c i q r) in
        unary_known z agrees k l (NotOf p e) e (operand (ns z agrees) any_object e (lifted (s z agrees os) e) made) (core.NotExpr p) v.values (λ u x j. v.values.told (not u) x j) (λ j. absurd (false≢true j)) (λ j g. absurd (false≢true j))
    lifted_known (CastOf p t non_null e) f k l made c i h m =
        let v = operand_known z agrees k l any_object e (lifted (s z agrees os) e) made c f m (λ q r. lifted_known e f k l made c i q r) in
        unary_known z agrees k l (CastOf p t non_null e) e (operand (ns z agrees) any_object e (lifted (s z agrees os) e) made) (core.CastExpr p t non_null) v.values (λ u x j. not_none x j) (λ j. j) (λ j g. absurd (false≢true j))
    lifted_known (LengthOf p e) f k l made c i h m =
        let v = operand_known z agrees k l any_object e (lifted (s z agrees os) e) made c f m (λ q r. lifted_known e f k l made c i q r) in
        unary_known z agrees k l (LengthOf p e) e (operand (ns z agrees) any_object e (lifted (s z agrees os) e) made) (core.LengthExpr p) v.values (λ u x j. not_none x j) (λ j. absurd (false≢true j)) (λ j g. absurd (false≢true j))
    lifted_known (FieldOf p e g t) f k l made c i h m =
        let parts = and_parts (implied (fields.is_non_null t) (is_non_null (field_type z.program.classes g))) (reads_set z e g && fits z e) f in
        let both = and_parts (reads_set z e g) (fits z e) parts.1 in
        let v = operand_known z agrees k l any_object e (lifted (s z agrees os) e) made c both.1 m (λ q r. lifted_known e both.1 k l made c i q r) in
        let d = operand (ns z agrees) any_object e (lifted (s z agrees os) e) made in
        unary_known z agrees k l (FieldOf p e g t) e d (λ v. core.FieldExpr p v g) v.values (λ u x j. not_none x j)
        (λ j. and_more (fields.is_non_null t) _ _ _ (implied_true (fields.is_non_null t) _ parts.0) (set_field z agrees k v.values.now v.values.covers d.value e g (another z.body.flags.ctor (is_this e && z.fields g) d.value v.other)) j) (λ j g. absurd (false≢true j))
      where
        another : (b own : Bool) (v : core.ExprTree) → (b ≡ true → is_this_object v ≡ false) → (not b || own || z.free || not (is_this_object v)) ≡ true
        another false own v h = refl
        another true own v h = rw (h refl) (or_right (own || z.free) true refl)
    lifted_known (NewOf p t es) f k l made c i h m =
        let both = and_parts (enters_with (constructor_of z.program t) (constructor_parameters z.context.program t)) (all_fit z es) f in
        let o = constructor_of z.program t in
        let ts = constructor_parameters z.context.program t in
        let d = operands_of (ns z agrees) es (in_temporaries (s z agrees os) (types_of_constructor (s z agrees os) t) es) made in
        call_lifts k l (wants_of o) (NewOf p t es) (Created p t) d (arguments_with (wants_of o) ts (types_of_constructor (s z agrees os) t) es both.1 k l made c i (wants_of_entered o ts both.0) (λ g. in_temporaries_known (wants_of o) ts (types_of_constructor (s z agrees os) t) es both.1 k l made c i (wants_of_entered o ts both.0) g) m)
        (λ u x j. not_none x j) refl (λ n j. refl) (λ n j. may_enter_with z agrees os o n d.values j)
    lifted_known (NewArrayOf p t e) f k l made c i h m =
        let d = operands_of (ns z agrees) (Argument e NoMore) (λ n. and_operands (operand (ns z agrees) any_object e (lifted (s z agrees os) e) n) no_operands) made in
        call_lifts k l [] (NewArrayOf p t e) (λ vs. CreatedArray p t (only_of p vs)) d
        (forget_last k l d (receiver_with k l [] e NoMore no_operands made c f begins_itself m (λ q r. lifted_known e f k l made c i q r) (λ v n g r. record { now = n; runs = runs_nothing z n; covers = g; stand = refl }) (λ q. refl)))
        (λ u x j. not_none x j) refl (λ n j. refl) (λ n j. refl)
    lifted_known (CallOf p e n t es) f k l made c i h m =
        let o = callee_of z.program z.body (core.Dispatched (core.NullExpr p) (static_class e) n) in
        let ts = parameters z.context.program (method_of z.context.program (class_of (type_of e)) n) in
        let one = and_parts (enters_with o ts) (gives t o && (fits z e && all_fit z es)) f in
        let two = and_parts (gives t o) (fits z e && all_fit z es) one.1 in
        let three = and_parts (fits z e) (all_fit z es) two.1 in
        let parts = none_left (inside z.context (Some k) e) (handed z.context (Some k) es ts) i in
        let wanted = types_of_method (s z agrees os) (static_class e) n in
        let d = operands_of (ns z agrees) (Argument e es) (λ q. and_operands (operand (ns z agrees) any_object e (lifted (s z agrees os) e) q) (in_temporaries (s z agrees os) wanted es)) made in
        call_lifts k l (any_object ∷ wants_of o) (CallOf p e n t es) (dispatched p (static_class e) n) d
        (receiver_with k l (wants_of o) e es (in_temporaries (s z agrees os) wanted es) made c three.0 (in_temporaries_begin (s z agrees os) wanted es) m (λ q r. lifted_known e three.0 k l made c parts.0 q r)
        (λ v q g r. in_temporaries_known (wants_of o) ts wanted es three.1 k q v.made g parts.1 (wants_of_entered o ts one.0) r)
        (λ q. plain_stand z agrees os k l c es three.1 q (wants_of o) ts parts.1 (wants_of_entered o ts one.0)))
        (λ u x j. not_none x j) refl (λ q j. dispatched_never p (static_class e) n t o refl q d.values two.0 j) (λ q j. dispatched_enters p (static_class e) n o refl q d.values j)
    lifted_known (StaticOf p n t es) f k l made c i h m =
        let o = callee_of z.program z.body (core.Static (number_of_written (s z agrees os).program n)) in
        let ts = parameters z.context.program (Some n) in
        let one = and_parts (enters_with o ts) (gives t o && all_fit z es) f in
        let two = and_parts (gives t o) (all_fit z es) one.1 in
        let d = operands_of (ns z agrees) es (in_temporaries (s z agrees os) (types_of_written (s z agrees os) n) es) made in
        call_lifts k l (wants_of o) (StaticOf p n t es) (Called p (core.Static (number_of_written (s z agrees os).program n))) d
        (arguments_with (wants_of o) ts (types_of_written (s z agrees os) n) es two.1 k l made c i (wants_of_entered o ts one.0) (λ g. in_temporaries_known (wants_of o) ts (types_of_written (s z agrees os) n) es two.1 k l made c i (wants_of_entered o ts one.0) g) m)
        (λ u x j. not_none x j) refl (λ n j. implied_true (source.is_non_null_type t) _ two.0 j) (λ n j. may_enter_with z agrees os o n d.values j)
    lifted_known (BaseOf p n t es) f k l made c i h m =
        let o = callee_of z.program z.body (core.Base (base_number (s z agrees os) n)) in
        let ts = parameters z.context.program (body_in_table z.context.program (above z.context.program.classes z.context.class) n) in
        let one = and_parts (enters_with o ts) (gives t o && all_fit z es) f in
        let two = and_parts (gives t o) (all_fit z es) one.1 in
        let wanted = types_of_method (s z agrees os) (above_of (s z agrees os).program (s z agrees os).body.class) n in
        let d = operands_of (ns z agrees) es (in_temporaries (s z agrees os) wanted es) made in
        call_lifts k l (wants_of o) (BaseOf p n t es) (Called p (core.Base (base_number (s z agrees os) n))) d
        (arguments_with (wants_of o) ts wanted es two.1 k l made c i (wants_of_entered o ts one.0) (λ g. in_temporaries_known (wants_of o) ts wanted es two.1 k l made c i (wants_of_entered o ts one.0) g) m)
        (λ u x j. not_none x j) refl (λ n j. implied_true (source.is_non_null_type t) _ two.0 j) (λ n j. may_enter_with z agrees os o n d.values j)
    lifted_known (OldOf p e) f k l made c i h m = absurd (false≢true f)
    lifted_known (QuantifiedOf p q name low high e) f k l made c i h m = unlifted_known k l (QuantifiedOf p q name low high e) (plain (ns z agrees) (QuantifiedOf p q name low high e)) made c (λ u x j. not_none x j) refl refl
    lifted_known (StateOf p w e) f k l made c i h m = unlifted_known k l (StateOf p w e) (plain (ns z agrees) (StateOf p w e)) made c (λ u x j. not_none x j) refl refl
    lifted_known (OwnersOf p w a b) f k l made c i h m = unlifted_known k l (OwnersOf p w a b) (plain (ns z agrees) (OwnersOf p w a b)) made c (λ u x j. not_none x j) refl refl
    lifted_known e f k l made c i h m = absurd (false≢true h)

    in_temporaries_known : (us ts wanted : List Ty) (es : Arguments) → all_fit z es ≡ true → (k : source.Known) (l : Known) (made : List Ty) → Covers z k l → handed z.context (Some k) es ts ≡ [] → wants_no_more us ts ≡ true →
        HasMade z (in_temporaries (s z agrees os) wanted es made).made → Lists z agrees os k l us (in_temporaries (s z agrees os) wanted es made)
    in_temporaries_known us ts wanted NoMore f k l made c h w m = record { now = l; runs = runs_nothing z l; covers = c; stand = refl }
    in_temporaries_known us ts wanted (Argument e es) f k l made c h w m =
        let fit = and_parts (is_some (type_of e)) (fits z e && all_fit z es) f in
        let both = and_parts (fits z e) (all_fit z es) fit.1 in
        let parts = handed_parts z agrees os k e es ts h in
        let v = operand (ns z agrees) (first_type wanted) e (lifted (s z agrees os) e) made in
        let d = in_temporaries (s z agrees os) (other_types wanted) es v.made in
        let first = operand_known z agrees k l (first_type wanted) e (lifted (s z agrees os) e) made c both.0 (made_before z agrees v.made d.made (in_temporaries_begin (s z agrees os) (other_types wanted) es v.made) m) (λ q r. lifted_known e both.0 k l made c parts.0 q r) in
        let rest = in_temporaries_known (other_types us) (other_types ts) (other_types wanted) es both.1 k first.values.now v.made first.values.covers parts.1 (wants_others us ts w) m in
        record {
          now = rest.now;
          runs = runs_join z l first.values.now rest.now v.code d.code first.values.runs rest.runs;
          covers = rest.covers;
          stand = stand_with z agrees os k e es us ts rest.now v.value d.values (λ n. held_later z agrees os v first.values.now rest.now d.code (first.held n) rest.runs (others_new (other_types wanted) es v.made)) fit.0 h w rest.stand;
        }

  -- any expression, as the right side of an assignment and as a value
  pub right_known : (e : ExprTree) → fits z e ≡ true → (k : source.Known) (l : Known) (made : List Ty) → Covers z k l → inside z.context (Some k) e ≡ [] → HasMade z (right_side (s z agrees os) e made).made → Lifts z agrees k l e (right_side (s z agrees os) e made)
  right_known e f k l made c i m = lifted_of_known z agrees k l e (lifted (s z agrees os) e) made c f m (λ h g. lifted_known e f k l made c i h g)

  pub value_known : (e : ExprTree) → fits z e ≡ true → (k : source.Known) (l : Known) (made : List Ty) → Covers z k l → inside z.context (Some k) e ≡ [] → HasMade z (value (s z agrees os) e made).made → Values z agrees k l e (value (s z agrees os) e made)
  value_known e f k l made c i m =
      let d = right_side (s z agrees os) e made in
      valued_known z agrees k l e d (right_known e f k l made c i (made_before z agrees d.made (value (s z agrees os) e made).made (valued_from_begins (ns z agrees) e d d.source) m)) m

  pub arguments_known : (us ts wanted : List Ty) (es : Arguments) → all_fit z es ≡ true → (k : source.Known) (l : Known) (made : List Ty) → Covers z k l → handed z.context (Some k) es ts ≡ [] → wants_no_more us ts ≡ true → HasMade z (arguments_of (s z agrees os) wanted es made).made →
      Lists z agrees os k l us (arguments_of (s z agrees os) wanted es made)
  arguments_known us ts wanted es f k l made c h w m = arguments_with us ts wanted es f k l made c h w (λ g. in_temporaries_known us ts wanted es f k l made c h w g) m
