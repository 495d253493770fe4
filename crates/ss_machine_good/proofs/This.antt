-- The `this` of a constructor is passed on only where it is ready.
use Rattle.std.proofs.Common.{◌≡◌, ℕ, List, [], ◌∷◌, Bool, true, false, not, ◌&&◌, ◌||◌, Option, Some, None, refl, sym, ◌∙◌, ap, subst, ⊎_elim}
use Rattle.std.specs.List.{list_all}
use Rattle.std.proofs.lemmas.Bool.{false≢true, true≢false, and_parts, and_from, or_left, or_right, or_cases, cases_Bool}
use Rattle.ss_core.specs.declared.names.Place.{Place}
use Rattle.ss_core.specs.Tree.{ExprTree, LocalExpr, AsExpr, CastExpr, OldExpr, Dispatched, Static, Base, BaseConstructor, StmtTree, AssignStmt, WriteStmt, WriteElementStmt, NewStmt, CallStmt, ReadyStmt, UnpackStmt, PackStmt, ReturnStmt, CodeTree, Then, BodyTree, CoreTree}
use Rattle.ss_core.specs.Chain.{above}
use Rattle.ss_store_rules.specs.Admissible.{is_this}
use Rattle.ss_store_rules.specs.Locals.{each, all_evaluated}
use Rattle.ss_store_rules.specs.Typed.{body_at, constructor_of, is_typed}
use Rattle.ss_store_rules.specs.Paths.{at_end, holds_along}
use Rattle.ss_store_rules.specs.NonNull.{is_this_object}
use Rattle.ss_store_rules.specs.Construction.{is_without_this, has_this_in_fields, keeps_this_in, only_writes_this, writes_own, has_no_base_or_ready, opening, after_opening, begins_with, is_below_object, is_delayed_constructor, wants_base, wants_ready, is_return, has_base_without_this, writes_this_first}
use Rattle.ss_store_rules.specs.Formed.{IsFormed, IsFormedBody}
use Rattle.ss_store_rules.proofs.Owners.{not_true}
use Rattle.ss_machine_good.specs.Checks.{is_undelayed, makes_ready, ready_flow, enters_base, keeps_this, ready_asked, ready_check}
use Rattle.ss_machine_good.proofs.Along.{IsEnough, along_each, along_where, nothing_reached}
use Rattle.ss_machine_good.proofs.Openings.{each_both, each_after, along_parts, wants_one}
use Rattle.ss_machine_good.proofs.Bases.{base_of}

-- ---- expressions that aren't `this`

in_fields : (e : ExprTree) → has_this_in_fields e ≡ true → not (is_this_object e) ≡ true
in_fields (LocalExpr p x) h = h
in_fields (AsExpr p e t) h = in_fields e h
in_fields (CastExpr p t n e) h = in_fields e h
in_fields (OldExpr p e) h = in_fields e h
in_fields e h = refl

without : (e : ExprTree) → is_without_this e ≡ true → not (is_this_object e) ≡ true
without (LocalExpr p x) h = h
without (AsExpr p e t) h = without e (and_parts true (is_without_this e) h).1
without (CastExpr p t n e) h = without e (and_parts true (is_without_this e) h).1
without (OldExpr p e) h = without e (and_parts true (is_without_this e) h).1
without e h = refl

all_weaker : (P Q : ExprTree → Bool) → ((e : ExprTree) → P e ≡ true → Q e ≡ true) → (es : List ExprTree) → list_all P es ≡ true → list_all Q es ≡ true
all_weaker P Q so [] h = refl
all_weaker P Q so (e ∷ es) h = let p = and_parts (P e) (list_all P es) h in and_from (Q e) (list_all Q es) (so e p.0) (all_weaker P Q so es p.1)

-- ---- statements

abbrev no_this : ExprTree → Bool
no_this e = not (is_this_object e)

module _ (P : ExprTree → Bool) (so : (e : ExprTree) → P e ≡ true → no_this e ≡ true) where
  keeps_from : (s : StmtTree) → all_evaluated P s ≡ true → enters_base s ≡ false → keeps_this s ≡ true
  keeps_from (AssignStmt p x e) h n = all_weaker P no_this so (e ∷ []) (and_parts (list_all P (e ∷ [])) true h).0
  keeps_from (WriteStmt p o f m t e) h n =
      let a = and_parts (list_all P (o ∷ e ∷ [])) true h in all_weaker P no_this so (e ∷ []) (and_parts (P o) (list_all P (e ∷ [])) a.0).1
  keeps_from (WriteElementStmt p a i e) h n =
      let x = and_parts (list_all P (a ∷ i ∷ e ∷ [])) true h in
      let y = and_parts (P a) (list_all P (i ∷ e ∷ [])) x.0 in
      all_weaker P no_this so (e ∷ []) (and_parts (P i) (list_all P (e ∷ [])) y.1).1
  keeps_from (NewStmt p x t es) h n = all_weaker P no_this so es (and_parts (list_all P es) true h).0
  keeps_from (CallStmt p x (Dispatched e t m) es) h n = all_weaker P no_this so (e ∷ es) (and_parts (list_all P (e ∷ es)) true h).0
  keeps_from (CallStmt p x (Static m) es) h n = all_weaker P no_this so es (and_parts (list_all P es) true h).0
  keeps_from (CallStmt p x (BaseConstructor m) es) h n = all_weaker P no_this so es (and_parts (list_all P es) true h).0
  keeps_from (CallStmt p x (Base m) es) h n = absurd (true≢false n)
  keeps_from s h n = refl

in_keeps : (s : StmtTree) → keeps_this_in s ≡ true → keeps_this s ≡ true
in_keeps (WriteStmt p o f m t e) h = and_from (no_this e) true (in_fields e (and_parts (is_this o || has_this_in_fields o) (has_this_in_fields e) h).1) refl
in_keeps (CallStmt p x (Base n) es) h = absurd (false≢true h)
in_keeps (CallStmt p x (Dispatched e t m) es) h = keeps_from has_this_in_fields in_fields (CallStmt p x (Dispatched e t m) es) h refl
in_keeps (CallStmt p x (Static m) es) h = keeps_from has_this_in_fields in_fields (CallStmt p x (Static m) es) h refl
in_keeps (CallStmt p x (BaseConstructor m) es) h = keeps_from has_this_in_fields in_fields (CallStmt p x (BaseConstructor m) es) h refl
in_keeps (UnpackStmt p x t) h = refl
in_keeps s h = keeps_from has_this_in_fields in_fields s h refl

only_keeps : (t : ℕ) (s : StmtTree) → only_writes_this t s ≡ true → keeps_this s ≡ true
only_keeps t (WriteStmt p o f m u e) h = and_from (no_this e) true (without e (and_parts _ (is_without_this e) h).1) refl
only_keeps t (CallStmt p x (Base n) es) h = absurd (false≢true h)
only_keeps t (CallStmt p x (Dispatched e u m) es) h = keeps_from is_without_this without (CallStmt p x (Dispatched e u m) es) h refl
only_keeps t (CallStmt p x (Static m) es) h = keeps_from is_without_this without (CallStmt p x (Static m) es) h refl
only_keeps t (CallStmt p x (BaseConstructor m) es) h = keeps_from is_without_this without (CallStmt p x (BaseConstructor m) es) h refl
only_keeps t (UnpackStmt p x u) h = refl
only_keeps t (PackStmt p x u) h = refl
only_keeps t s h = keeps_from is_without_this without s h refl

-- ---- what is asked

asked_delayed : (b : BodyTree) (s : StmtTree) (r : Bool) → b.flags.delayed ≡ true → keeps_this s ≡ true → ready_asked b s r ≡ true
asked_delayed b (ReturnStmt p e) r delayed h = or_left b.flags.delayed r delayed
asked_delayed b s r delayed h = or_right r (keeps_this s) h

asked_inside : (b : BodyTree) (s : StmtTree) (r : Bool) → is_return s ≡ false → keeps_this s ≡ true → ready_asked b s r ≡ true
asked_inside b (ReturnStmt p e) r inside h = absurd (true≢false inside)
asked_inside b s r inside h = or_right r (keeps_this s) h

asked_ready : (b : BodyTree) (s : StmtTree) (r : Bool) → r ≡ true → ready_asked b s r ≡ true
asked_ready b (ReturnStmt p e) r ready = or_right b.flags.delayed r ready
asked_ready b s r ready = or_left r (keeps_this s) ready

module _ (c : CoreTree) (b : BodyTree) where
  -- where `this` is ready, everything may be done
  once_ready : IsEnough (ready_flow c) (ready_check b) (λ r. r ≡ true)
  once_ready = record {
    after = λ s r h. or_left r (makes_ready c s) h;
    tested = λ e v r h. h;
    meet = λ q r h g. and_from q r h g;
    head = λ s r h. h;
    statement = λ s r h. or_right (not b.flags.ctor) (ready_asked b s r) (asked_ready b s r h);
    test = λ e r. refl;
  }

  no_constructor : b.flags.ctor ≡ false → IsEnough (ready_flow c) (ready_check b) (λ r. Unit {0})
  no_constructor plain = record {
    after = λ s r h. tt;
    tested = λ e v r h. tt;
    meet = λ q r h g. tt;
    head = λ s r h. tt;
    statement = λ s r h. or_left (not b.flags.ctor) (ready_asked b s r) (ap not plain);
    test = λ e r. refl;
  }

  after_ready : (wb wr : Bool) (code : CodeTree) (r : Bool) → begins_with wb wr code ≡ true → (wb || wr) ≡ true → has_base_without_this code ≡ true →
      (wr ≡ false → (p : Place) (x : Option ℕ) (n : ℕ) (es : List ExprTree) (rest : CodeTree) → code ≡ Then (CallStmt p x (BaseConstructor n) es) rest → is_undelayed (body_at c n) ≡ true) → holds_along (ready_flow c) (ready_check b) code (Some r) ≡ true
  after_ready false false code r h w args base = absurd (false≢true w)
  after_ready true true (Then (CallStmt p x (BaseConstructor n) es) (Then (ReadyStmt q) code)) r h w args base =
      let r1 = r || is_undelayed (body_at c n) in
      and_from (not b.flags.ctor || ready_asked b (CallStmt p x (BaseConstructor n) es) r) _
      (or_right (not b.flags.ctor) (ready_asked b (CallStmt p x (BaseConstructor n) es) r) (or_right r _ (all_weaker is_without_this no_this without es args)))
      (and_from (not b.flags.ctor || ready_asked b (ReadyStmt q) r1) _ (or_right (not b.flags.ctor) (ready_asked b (ReadyStmt q) r1) (or_right r1 true refl))
      (along_where (ready_flow c) (ready_check b) (λ z. z ≡ true) once_ready code (Some (r1 || true)) (or_right r1 true refl)))
  after_ready true false (Then (CallStmt p x (BaseConstructor n) es) code) r h w args base =
      and_from (not b.flags.ctor || ready_asked b (CallStmt p x (BaseConstructor n) es) r) _
      (or_right (not b.flags.ctor) (ready_asked b (CallStmt p x (BaseConstructor n) es) r) (or_right r _ (all_weaker is_without_this no_this without es args)))
      (along_where (ready_flow c) (ready_check b) (λ z. z ≡ true) once_ready code (Some (r || is_undelayed (body_at c n))) (or_right r (is_undelayed (body_at c n)) (base refl p x n es code refl)))
  after_ready false true (Then (ReadyStmt q) code) r h w args base =
      and_from (not b.flags.ctor || ready_asked b (ReadyStmt q) r) _ (or_right (not b.flags.ctor) (ready_asked b (ReadyStmt q) r) (or_right r true refl))
      (along_where (ready_flow c) (ready_check b) (λ z. z ≡ true) once_ready code (Some (r || true)) (or_right r true refl))
  after_ready true true (Then (CallStmt p x (BaseConstructor n) es) code) r h w args base = absurd (false≢true h)
  after_ready true wr code r h w args base = absurd (false≢true h)
  after_ready false true code r h w args base = absurd (false≢true h)

undelayed_if : (ctor delayed below_object other : Bool) → ctor ≡ true → delayed ≡ false → (ctor && not delayed && (below_object || other)) ≡ false → other ≡ false
undelayed_if true false true other h g e = absurd (true≢false e)
undelayed_if true false false other h g e = e
undelayed_if true true below_object other h g e = absurd (true≢false g)
undelayed_if false delayed below_object other h g e = absurd (false≢true h)

module _ (c : CoreTree) (formed : IsFormed c) (b : BodyTree) (fb : IsFormedBody c b) where
  -- where `ready this` isn't wanted, the base has made `this` ready
  base_undelayed : b.flags.ctor ≡ true → b.flags.delayed ≡ false → wants_ready c b ≡ false → (p : Place) (x : Option ℕ) (n : ℕ) (es : List ExprTree) (rest : CodeTree) → after_opening b.code ≡ Then (CallStmt p x (BaseConstructor n) es) rest → is_undelayed (body_at c n) ≡ true
  base_undelayed ctor undelayed unwanted p x n es rest is =
      let typed = subst (λ z. each (is_typed c b) z ≡ true) is (each_after (is_typed c b) b.code fb.typed) in
      let base = base_of c formed b p x n es (and_parts (is_typed c b (CallStmt p x (BaseConstructor n) es)) (each (is_typed c b) rest) typed).0 in
      let not_delayed = undelayed_if b.flags.ctor b.flags.delayed (is_below_object c b) (is_delayed_constructor (constructor_of c (above c.classes b.class))) ctor undelayed unwanted in
      let plain : base.body.flags.delayed ≡ false = subst (λ o. is_delayed_constructor o ≡ false) base.is_the not_delayed in
      subst (λ o. is_undelayed o ≡ true) (sym base.at) (ap not plain)

  undelayed_along : b.flags.ctor ≡ true → b.flags.delayed ≡ false → holds_along (ready_flow c) (ready_check b) b.code (Some false) ≡ true
  undelayed_along ctor undelayed =
      let f = ready_flow c in
      let d = ready_check b in
      let first = and_parts (each (only_writes_this b.class) (opening b.code)) (has_base_without_this (after_opening b.code))
      (⊎_elim (λ h. absurd (⊎_elim (λ z. false≢true (sym (ap not ctor) ∙ z)) (λ z. false≢true (sym undelayed ∙ z)) (or_cases (not b.flags.ctor) b.flags.delayed h)))
      (λ z. z) (or_cases (not b.flags.ctor || b.flags.delayed) (writes_this_first b) fb.undelayed_this)) in
      let wants = wants_one c b ctor undelayed in
      let open_ = ⊎_elim (λ h. absurd (false≢true (sym (ap not wants) ∙ h))) (λ z. z) (or_cases (not (wants_base c b || wants_ready c b)) (each (λ s. not (is_return s) && writes_own b.class s) (opening b.code)) fb.opening) in
      let both = each_both (only_writes_this b.class) (λ s. not (is_return s) && writes_own b.class s) (λ s. not (is_return s) && keeps_this s)
      (λ s u v. and_from (not (is_return s)) (keeps_this s) (and_parts (not (is_return s)) (writes_own b.class s) v).0 (only_keeps b.class s u)) (opening b.code) first.0 open_ in
      along_parts f d b.code (Some false)
      (along_each f d (λ s. not (is_return s) && keeps_this s)
      (λ s r h. let p = and_parts (not (is_return s)) (keeps_this s) h in or_right (not b.flags.ctor) (ready_asked b s r) (asked_inside b s r (not_true (is_return s) p.0) p.1)) (λ e r. refl) (opening b.code) (Some false) both)
      (after_part (at_end f (opening b.code) (Some false)) wants first.1)
    where
      after_part : (o : Option Bool) → (wants_base c b || wants_ready c b) ≡ true → has_base_without_this (after_opening b.code) ≡ true → holds_along (ready_flow c) (ready_check b) (after_opening b.code) o ≡ true
      after_part None w args = nothing_reached (ready_flow c) (ready_check b) (after_opening b.code)
      after_part (Some r) w args =
          after_ready c b (wants_base c b) (wants_ready c b) (after_opening b.code) r (and_parts (has_no_base_or_ready (opening b.code)) _ fb.order).1 w args (λ unwanted. base_undelayed ctor undelayed unwanted)

  delayed_along : b.flags.delayed ≡ true → holds_along (ready_flow c) (ready_check b) b.code (Some false) ≡ true
  delayed_along delayed =
      let keeps = ⊎_elim (λ h. absurd (false≢true (sym (ap not delayed) ∙ h))) (λ z. z) (or_cases (not b.flags.delayed) (each keeps_this_in b.code) fb.delayed_this) in
      along_each (ready_flow c) (ready_check b) keeps_this_in (λ s r h. or_right (not b.flags.ctor) (ready_asked b s r) (asked_delayed b s r delayed (in_keeps s h))) (λ e r. refl) b.code (Some false) keeps

  -- the check on `this` holds along each formed body
  pub ready_along : holds_along (ready_flow c) (ready_check b) b.code (Some false) ≡ true
  ready_along = ⊎_elim
      (λ ctor. ⊎_elim (λ delayed. delayed_along delayed) (λ undelayed. undelayed_along ctor undelayed) (cases_Bool b.flags.delayed))
      (λ plain. along_where (ready_flow c) (ready_check b) (λ r. Unit {0}) (no_constructor c b plain) b.code (Some false) tt)
      (cases_Bool b.flags.ctor)
