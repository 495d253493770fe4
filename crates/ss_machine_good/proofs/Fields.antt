-- The fields of `this` have their values where a constructor says so.
use Rattle.std.proofs.Common.{◌≡◌, ℕ, zero, suc, ◌+◌, List, [], ◌∷◌, Bool, true, false, not, ◌==◌, ◌&&◌, ◌||◌, Option, Some, None, eqb, refl, sym, ◌∙◌, ap, subst, arith, ⊎_elim}
use Rattle.std.specs.Prelude.{slice_get, is_some}
use Rattle.std.proofs.lemmas.Bool.{false≢true, true≢false, and_parts, and_from, or_left, or_right, or_cases, cases_Bool, eqb-true, eq-eqb}
use Rattle.ss_core.specs.declared.names.Place.{Place}
use Rattle.ss_core.specs.Tree.{ClassTree, ExprTree, BaseConstructor, StmtTree, AssignStmt, WriteStmt, NewStmt, NewArrayStmt, CallStmt, ReadyStmt, ReturnStmt, CodeTree, Then, BodyTree, CoreTree}
use Rattle.ss_core.specs.Chain.{is_declared, above, below, DeclaredField, all_fields, IsChain}
use Rattle.ss_core.proofs.Chains.{below_up, object_below}
use Rattle.ss_core.proofs.Declared.{is_declared-declared}
use Rattle.ss_core.proofs.Fields.{field_declared}
use Rattle.ss_store_rules.proofs.Arrays.{declared_not_object}
use Rattle.ss_store_rules.specs.Good.{is_non_null}
use Rattle.ss_store_rules.specs.Locals.{each}
use Rattle.ss_store_rules.specs.Paths.{at_end, where_reached, holds_along}
use Rattle.ss_store_rules.specs.NonNull.{Known, known_at_entry, known_flow, known_after, with_kept, is_field_above}
use Rattle.ss_store_rules.specs.Construction.{is_base_or_ready, has_no_base_or_ready, opening, after_opening, begins_with, is_below_object, wants_base, wants_ready, is_return, writes_own, has_fields_from, has_own_fields, has_all_fields, complete_check, is_ready_with_fields, returns_with_fields}
use Rattle.ss_store_rules.specs.Formed.{IsFormed, IsFormedBody}
use Rattle.ss_machine_good.specs.Checks.{fields_asked, fields_check}
use Rattle.ss_machine_good.proofs.Along.{IsEnough, along_from, along_each, along_where, nothing_reached}
use Rattle.ss_machine_good.proofs.Openings.{each_both, each_so, each_of_parts, along_parts, wants_one}

-- ---- lists of fields

-- with all fields, each test holds
all_had : (classes fields : ℕ → Bool) → ((f : ℕ) → fields f ≡ true) → (n : ℕ) (ds : List DeclaredField) → has_fields_from classes fields n ds ≡ true
all_had classes fields all n [] = refl
all_had classes fields all n (d ∷ ds) = and_from (not (classes d.class && is_non_null d.field.ty) || fields n) (has_fields_from classes fields (n + 1) ds) (or_right (not (classes d.class && is_non_null d.field.ty)) (fields n) (all n)) (all_had classes fields all (n + 1) ds)

-- a field that is asked is there
pub field_had : (classes fields : ℕ → Bool) (n : ℕ) (ds : List DeclaredField) → has_fields_from classes fields n ds ≡ true → (i : ℕ) (d : DeclaredField) → slice_get ds i ≡ Some d → classes d.class ≡ true → is_non_null d.field.ty ≡ true → fields (n + i) ≡ true
field_had classes fields n [] h i d e is nn = absurd (let no : ⊥ = cc in no)
field_had classes fields n (x ∷ ds) h zero d e is nn =
    let same : x ≡ d = cc in
    let p = and_parts (not (classes x.class && is_non_null x.field.ty) || fields n) (has_fields_from classes fields (n + 1) ds) h in
    let both : (classes x.class && is_non_null x.field.ty) ≡ true = subst (λ (z : DeclaredField). (classes z.class && is_non_null z.field.ty) ≡ true) (sym same) (and_from (classes d.class) (is_non_null d.field.ty) is nn) in
    let n0 : n + 0 ≡ n = omega arith in
    subst (λ k. fields k ≡ true) (sym n0) (⊎_elim (λ u. absurd (false≢true (sym (ap not both) ∙ u))) (λ u. u) (or_cases (not (classes x.class && is_non_null x.field.ty)) (fields n) p.0))
field_had classes fields n (x ∷ ds) h (suc i) d e is nn =
    let p = and_parts (not (classes x.class && is_non_null x.field.ty) || fields n) (has_fields_from classes fields (n + 1) ds) h in
    let on : n + suc i ≡ n + 1 + i = omega arith in
    subst (λ k. fields k ≡ true) (sym on) (field_had classes fields (n + 1) ds p.1 i d e is nn)

fewer_had : (more fewer fields : ℕ → Bool) (n : ℕ) (ds : List DeclaredField) → ((i : ℕ) (d : DeclaredField) → slice_get ds i ≡ Some d → fewer d.class ≡ true → more d.class ≡ true) → has_fields_from more fields n ds ≡ true → has_fields_from fewer fields n ds ≡ true
fewer_had more fewer fields n [] so h = refl
fewer_had more fewer fields n (d ∷ ds) so h =
    let p = and_parts (not (more d.class && is_non_null d.field.ty) || fields n) (has_fields_from more fields (n + 1) ds) h in
    and_from (not (fewer d.class && is_non_null d.field.ty) || fields n) (has_fields_from fewer fields (n + 1) ds)
    (one (fewer d.class) (is_non_null d.field.ty) (fields n) (λ z y. ⊎_elim (λ u. absurd (false≢true (sym (ap not (and_from (more d.class) (is_non_null d.field.ty) (so 0 d refl z) y)) ∙ u))) (λ u. u) (or_cases (not (more d.class && is_non_null d.field.ty)) (fields n) p.0)))
    (fewer_had more fewer fields (n + 1) ds (λ i e at z. so (suc i) e at z) p.1)
  where
    one : (a b g : Bool) → (a ≡ true → b ≡ true → g ≡ true) → (not (a && b) || g) ≡ true
    one false b g k = refl
    one true false g k = refl
    one true true g k = k refl refl

-- a class directly below `object` has no fields above its own
own_are_all : (cs : List ClassTree) → IsChain cs → (t : ℕ) → is_declared cs t ≡ true → above cs t ≡ 0 → (k : Known) → has_own_fields cs t k ≡ true → has_all_fields cs t k ≡ true
own_are_all cs chain t declared top k h =
    fewer_had (λ u. u == t) (below cs t) k.fields 0 (all_fields cs) only h
  where
    only : (i : ℕ) (d : DeclaredField) → slice_get (all_fields cs) i ≡ Some d → below cs t d.class ≡ true → (d.class == t) ≡ true
    only i d at b =
        let by = field_declared cs i d at in
        let is : is_declared cs d.class ≡ true = is_declared-declared cs d.class ∙ ap is_some by.is_class in
        let nz = declared_not_object cs d.class is in
        ⊎_elim
        (λ e. subst (λ z. (d.class == z) ≡ true) (sym (eqb-true t d.class e)) (eq-eqb d.class d.class refl))
        (λ up. absurd (nz (object_below cs d.class (subst (λ z. below cs z d.class ≡ true) top up))))
        (or_cases (eqb t d.class) (below cs (above cs t) d.class) (sym (below_up cs chain t d.class (declared_not_object cs t declared)) ∙ b))

-- ---- statements

kept_fields : (x : Option ℕ) (non_null : Bool) (k : Known) (f : ℕ) → (with_kept x non_null k).fields f ≡ k.fields f
kept_fields None non_null k f = refl
kept_fields (Some x) non_null k f = refl

-- after `base(..)` a constructor that isn't delayed has all fields
base_all : (c : CoreTree) (b : BodyTree) (p : Place) (x : Option ℕ) (n : ℕ) (es : List ExprTree) (k : Known) → b.flags.delayed ≡ false → (f : ℕ) → (known_after c b (CallStmt p x (BaseConstructor n) es) k).fields f ≡ true
base_all c b p x n es k undelayed f = or_left _ (is_field_above c b f) (or_right _ (not b.flags.delayed) (ap not undelayed))

not_asked : (c : CoreTree) (b : BodyTree) (s : StmtTree) (k : Known) → not (is_base_or_ready s) ≡ true → not (is_return s) ≡ true → fields_asked c b s k ≡ true
not_asked c b (ReturnStmt p e) k h g = absurd (false≢true g)
not_asked c b (CallStmt p x (BaseConstructor n) es) k h g = absurd (false≢true h)
not_asked c b (ReadyStmt p) k h g = absurd (false≢true h)
not_asked c b s k h g = refl

-- the statement isn't `ready this`
abbrev is_unready : StmtTree → Bool
is_unready (ReadyStmt p) = false
is_unready s = true

unready : (s : StmtTree) → not (is_base_or_ready s) ≡ true → is_unready s ≡ true
unready (ReadyStmt p) h = absurd (false≢true h)
unready s h = refl

module _ (c : CoreTree) (b : BodyTree) (ctor : b.flags.ctor ≡ true) where
  asked : (s : StmtTree) (k : Known) → fields_asked c b s k ≡ true → (fields_check c b).statement s k ≡ true
  asked s k h = rw ctor h

  -- ---- one that isn't delayed

  module _ (undelayed : b.flags.delayed ≡ false) where
    full_asked : (s : StmtTree) (k : Known) → ((f : ℕ) → k.fields f ≡ true) → fields_asked c b s k ≡ true
    full_asked (ReturnStmt p e) k all = rw undelayed (all_had (λ t. true) k.fields all 0 (all_fields c.classes))
    full_asked (CallStmt p x (BaseConstructor n) es) k all = or_right b.flags.delayed (has_own_fields c.classes b.class k) (all_had (λ u. u == b.class) k.fields all 0 (all_fields c.classes))
    full_asked (ReadyStmt p) k all = and_from (not b.flags.delayed) (has_all_fields c.classes b.class k) (ap not undelayed) (all_had (below c.classes b.class) k.fields all 0 (all_fields c.classes))
    full_asked s k all = refl

    -- all fields stay known
    after_full : (s : StmtTree) (k : Known) → ((f : ℕ) → k.fields f ≡ true) → (f : ℕ) → (known_after c b s k).fields f ≡ true
    after_full (AssignStmt p x e) k all f = all f
    after_full (WriteStmt p o g m t e) k all f = or_left (k.fields f) _ (all f)
    after_full (NewStmt p x t es) k all f = kept_fields x true k f ∙ all f
    after_full (NewArrayStmt p x t e) k all f = kept_fields x true k f ∙ all f
    after_full (CallStmt p x (BaseConstructor n) es) k all f = base_all c b p x n es k undelayed f
    after_full (CallStmt p x callee es) k all f = kept_fields x _ k f ∙ all f
    after_full (ReadyStmt p) k all f = refl
    after_full s k all f = all f

    full : IsEnough (known_flow c b) (fields_check c b) (λ k. (f : ℕ) → k.fields f ≡ true)
    full = record {
      after = after_full;
      tested = λ e v k all f. all f;
      meet = λ k l all also f. and_from (k.fields f) (l.fields f) (all f) (also f);
      head = λ s k all f. all f;
      statement = λ s k all. asked s k (full_asked s k all);
      test = λ e k. refl;
    }

    behind_fields : (wb wr : Bool) (code : CodeTree) (k : Known) → begins_with wb wr code ≡ true → (wb || wr) ≡ true → has_own_fields c.classes b.class k ≡ true → (wb ≡ false → has_all_fields c.classes b.class k ≡ true) →
        holds_along (known_flow c b) (fields_check c b) code (Some k) ≡ true
    behind_fields false false code k h w own top = absurd (false≢true w)
    behind_fields true true (Then (CallStmt p x (BaseConstructor n) es) (Then (ReadyStmt q) code)) k h w own top =
        let f = known_flow c b in
        let d = fields_check c b in
        let s = CallStmt p x (BaseConstructor n) es in
        let k1 = known_after c b s k in
        and_from (d.statement s k) (holds_along f d (Then (ReadyStmt q) code) (Some k1)) (asked s k (or_right b.flags.delayed (has_own_fields c.classes b.class k) own))
        (along_where f d (λ z. (g : ℕ) → z.fields g ≡ true) full (Then (ReadyStmt q) code) (Some k1) (base_all c b p x n es k undelayed))
    behind_fields true false (Then (CallStmt p x (BaseConstructor n) es) code) k h w own top =
        let f = known_flow c b in
        let d = fields_check c b in
        let s = CallStmt p x (BaseConstructor n) es in
        let k1 = known_after c b s k in
        and_from (d.statement s k) (holds_along f d code (Some k1)) (asked s k (or_right b.flags.delayed (has_own_fields c.classes b.class k) own))
        (along_where f d (λ z. (g : ℕ) → z.fields g ≡ true) full code (Some k1) (base_all c b p x n es k undelayed))
    behind_fields false true (Then (ReadyStmt q) code) k h w own top =
        let f = known_flow c b in
        let d = fields_check c b in
        let k1 = known_after c b (ReadyStmt q) k in
        and_from (d.statement (ReadyStmt q) k) (holds_along f d code (Some k1))
        (asked (ReadyStmt q) k (and_from (not b.flags.delayed) (has_all_fields c.classes b.class k) (ap not undelayed) (top refl)))
        (along_where f d (λ z. (g : ℕ) → z.fields g ≡ true) full code (Some k1) (λ g. refl))
    behind_fields true true (Then (CallStmt p x (BaseConstructor n) es) code) k h w own top = absurd (false≢true h)
    behind_fields true wr code k h w own top = absurd (false≢true h)
    behind_fields false true code k h w own top = absurd (false≢true h)

  -- ---- one that is

  module _ (delayed : b.flags.delayed ≡ true) where
    delayed_asked : (s : StmtTree) (k : Known) → is_unready s ≡ true → (complete_check c b).statement s k ≡ true → fields_asked c b s k ≡ true
    delayed_asked (ReturnStmt p e) k h held = rw delayed held
    delayed_asked (CallStmt p x (BaseConstructor n) es) k h held = or_left b.flags.delayed (has_own_fields c.classes b.class k) delayed
    delayed_asked (ReadyStmt p) k h held = absurd (false≢true h)
    delayed_asked s k h held = refl

begins_unready : (wb wr : Bool) (code : CodeTree) → wr ≡ false → begins_with wb wr code ≡ true → each is_unready code ≡ true
begins_unready wb true code unwanted h = absurd (true≢false unwanted)
begins_unready false false code unwanted h = each_so (λ s. not (is_base_or_ready s)) is_unready unready code h
begins_unready true false (Then (CallStmt p x (BaseConstructor n) es) code) unwanted h = each_so (λ s. not (is_base_or_ready s)) is_unready unready code h
begins_unready true false code unwanted h = absurd (false≢true h)

unwanted_if : (ctor delayed other : Bool) → delayed ≡ true → (ctor && not delayed && other) ≡ false
unwanted_if ctor false other h = absurd (false≢true h)
unwanted_if true true other h = refl
unwanted_if false true other h = refl

plain_unwanted : (ctor delayed below_object other : Bool) (code : CodeTree) → ctor ≡ false → begins_with (ctor && not below_object) (ctor && not delayed && other) code ≡ true → has_no_base_or_ready code ≡ true
plain_unwanted true delayed below_object other code plain h = absurd (true≢false plain)
plain_unwanted false delayed below_object other code plain h = h

module _ (c : CoreTree) (formed : IsFormed c) (b : BodyTree) (fb : IsFormedBody c b) where
  order : (has_no_base_or_ready (opening b.code) ≡ true) × (begins_with (wants_base c b) (wants_ready c b) (after_opening b.code) ≡ true)
  order = and_parts (has_no_base_or_ready (opening b.code)) (begins_with (wants_base c b) (wants_ready c b) (after_opening b.code)) fb.order

  -- a class whose constructor wants no base stands directly below `object`
  no_base : (ctor below_object : Bool) → ctor ≡ true → (ctor && not below_object) ≡ false → below_object ≡ true
  no_base true true h e = refl
  no_base true false h e = absurd (true≢false e)
  no_base false below_object h e = absurd (false≢true h)

  undelayed_fields : b.flags.ctor ≡ true → b.flags.delayed ≡ false → holds_along (known_flow c b) (fields_check c b) b.code (Some (known_at_entry b)) ≡ true
  undelayed_fields ctor undelayed =
      let f = known_flow c b in
      let d = fields_check c b in
      let wants = wants_one c b ctor undelayed in
      let open_ = ⊎_elim (λ h. absurd (false≢true (sym (ap not wants) ∙ h))) (λ z. z) (or_cases (not (wants_base c b || wants_ready c b)) (each (λ s. not (is_return s) && writes_own b.class s) (opening b.code)) fb.opening) in
      let both = each_both (λ s. not (is_base_or_ready s)) (λ s. not (is_return s) && writes_own b.class s) (λ s. not (is_base_or_ready s) && not (is_return s))
      (λ s u v. and_from (not (is_base_or_ready s)) (not (is_return s)) u (and_parts (not (is_return s)) (writes_own b.class s) v).0) (opening b.code) order.0 open_ in
      let own = ⊎_elim (λ h. absurd (⊎_elim (λ z. false≢true (sym (ap not ctor) ∙ z)) (λ z. false≢true (sym undelayed ∙ z)) (or_cases (not b.flags.ctor) b.flags.delayed h))) (λ z. z) (or_cases (not b.flags.ctor || b.flags.delayed) (is_ready_with_fields c b) fb.undelayed_fields) in
      along_parts f d b.code (Some (known_at_entry b))
      (along_each f d (λ s. not (is_base_or_ready s) && not (is_return s)) (λ s k h. let p = and_parts (not (is_base_or_ready s)) (not (is_return s)) h in asked c b ctor s k (not_asked c b s k p.0 p.1)) (λ e k. refl) (opening b.code) (Some (known_at_entry b)) both)
      (after_part (at_end f (opening b.code) (Some (known_at_entry b))) wants own)
    where
      after_part : (o : Option Known) → (wants_base c b || wants_ready c b) ≡ true → where_reached (has_own_fields c.classes b.class) o ≡ true → holds_along (known_flow c b) (fields_check c b) (after_opening b.code) o ≡ true
      after_part None w own = nothing_reached (known_flow c b) (fields_check c b) (after_opening b.code)
      after_part (Some k) w own =
          behind_fields c b ctor undelayed (wants_base c b) (wants_ready c b) (after_opening b.code) k order.1 w own
          (λ none. own_are_all c.classes formed.chain b.class fb.class (eqb-true (above c.classes b.class) 0 (no_base b.flags.ctor (is_below_object c b) ctor none)) k own)

  delayed_fields : b.flags.ctor ≡ true → b.flags.delayed ≡ true → holds_along (known_flow c b) (fields_check c b) b.code (Some (known_at_entry b)) ≡ true
  delayed_fields ctor delayed =
      let complete = ⊎_elim (λ h. absurd (false≢true (sym (ap not delayed) ∙ h))) (λ z. z) (or_cases (not b.flags.delayed) (returns_with_fields c b) fb.delayed_fields) in
      let unready_ = each_of_parts is_unready b.code (each_so (λ s. not (is_base_or_ready s)) is_unready unready (opening b.code) order.0)
      (begins_unready (wants_base c b) (wants_ready c b) (after_opening b.code) (unwanted_if b.flags.ctor b.flags.delayed _ delayed) order.1) in
      along_from (known_flow c b) (complete_check c b) (fields_check c b) is_unready (λ s k h held. asked c b ctor s k (delayed_asked c b ctor delayed s k h held)) (λ e k. refl) b.code (Some (known_at_entry b)) unready_ complete

  plain_fields : b.flags.ctor ≡ false → holds_along (known_flow c b) (fields_check c b) b.code (Some (known_at_entry b)) ≡ true
  plain_fields plain =
      along_each (known_flow c b) (fields_check c b) (λ s. not (is_base_or_ready s)) (λ s k h. rw plain h) (λ e k. refl) b.code (Some (known_at_entry b))
      (each_of_parts (λ s. not (is_base_or_ready s)) b.code order.0 (plain_unwanted b.flags.ctor b.flags.delayed (is_below_object c b) _ (after_opening b.code) plain order.1))

  -- the check on fields holds along each formed body
  pub fields_along : holds_along (known_flow c b) (fields_check c b) b.code (Some (known_at_entry b)) ≡ true
  fields_along = ⊎_elim
      (λ ctor. ⊎_elim (λ delayed. delayed_fields ctor delayed) (λ undelayed. undelayed_fields ctor undelayed) (cases_Bool b.flags.delayed))
      (λ plain. plain_fields plain)
      (cases_Bool b.flags.ctor)
