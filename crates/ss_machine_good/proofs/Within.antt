-- What the head of a loop leaves known isn't undone in the loop.
use Rattle.std.proofs.Common.{◌≡◌, ℕ, Bool, true, false, ◌&&◌, ◌||◌, not, Option, Some, None, eqb, refl, sym, ◌∙◌, ap, subst, inl, inr, ◌⊎◌, ⊎_elim}
use Rattle.std.specs.Prelude.{if◌then◌else◌, option_map, ◌==◌}
use Rattle.std.proofs.lemmas.Bool.{false≢true, true≢false, and_parts, and_from, or_left, or_right, or_cases, cases_Bool, cases_eq, eq-eqb, ne_eqb}
use Rattle.ss_core.specs.Tree.{ExprTree, StmtTree, AssignStmt, WriteStmt, WriteElementStmt, NewStmt, NewArrayStmt, CallStmt, ReadyStmt, IfStmt, LoopStmt, UnpackStmt, PackStmt, AssertStmt, AssumeStmt, PrintStmt, PrintTextStmt, ReturnStmt, CodeTree, NoCode, Then, CalleeTree, Dispatched, Static, Base, BaseConstructor, BodyTree, CoreTree}
use Rattle.ss_store_rules.specs.declared.Value.TheVariants as value
use Rattle.ss_store_rules.specs.Values.{Setting, local_value}
use Rattle.ss_store_rules.specs.Locals.{each, each_inside, is_kept_in, is_target, assigns}
use Rattle.ss_store_rules.specs.Paths.{is_literal_true, met, behind, at_end, in_body}
use Rattle.ss_store_rules.specs.NonNull.{Facts, no_facts, both, Known, learned, tells, known_tested, with_local, with_kept, with_base, is_never_null, is_field_above, says_nothing, known_after, at_this_end, side_met, known_met, known_head, known_flow, site_of, is_non_null_type, result_of}
use Rattle.ss_store_rules.specs.Typed.{callee_of}
use Rattle.ss_store_rules.specs.Admissible.{is_this}
use Rattle.ss_machine_good.specs.Flows.{Loop, stmt_of, known_at_test, known_at_end}
use Rattle.ss_machine_good.specs.Known.{IsSide, IsTrueOf}
use Rattle.ss_store_rules.proofs.Owners.{not_true}

-- all that h says follows from k
pub record IsWithin (h k : Known) : Type 0 where
  pub facts : (x : ℕ) → h.facts x ≡ true → k.facts x ≡ true
  pub sides : (x : ℕ) (v : Bool) (g : Facts) → h.sides x v ≡ Some g → (k.sides x v ≡ None) ⊎ ((f : Facts) × (k.sides x v ≡ Some f) × ((y : ℕ) → g y ≡ true → (f y || k.facts y) ≡ true))
  pub none : (x : ℕ) (v : Bool) → h.sides x v ≡ None → k.sides x v ≡ None
  pub fields : (f : ℕ) → h.fields f ≡ true → k.fields f ≡ true

pub within_self : (k : Known) → IsWithin k k
within_self k = record { facts = λ x h. h; sides = λ x v g e. inr (g, e, λ y h. or_left (g y) (k.facts y) h); none = λ x v e. e; fields = λ f h. h }

side_of : (constructs : Bool) (h k : Known) (c : Setting) → IsWithin h k → IsTrueOf constructs k c → (x : ℕ) (v : Bool) → local_value c x ≡ value.Bool v → (o : Option Facts) → h.sides x v ≡ o → IsSide h c x v
side_of constructs h k c w true_ x v is None e = let s = true_.sides x v is in let a = w.none x v e in let b = s.there in absurd (let none : ⊥ = cc in none)
side_of constructs h k c w true_ x v is (Some g) e =
    let s = true_.sides x v is in
    record {
      facts = g;
      there = e;
      so = λ y gy. ⊎_elim
          (λ a. let b = s.there in absurd (let none : ⊥ = cc in none))
          (λ r. let b = s.there in
          let d = r.1 in
          let same : r.0 ≡ s.facts = cc in
          ⊎_elim (λ fy. s.so y (subst (λ (z : Facts). z y ≡ true) same fy)) (λ ky. true_.facts y ky) (or_cases (r.0 y) (k.facts y) (r.2 y gy)))
          (w.sides x v g e);
    }

-- so it is true where k is
pub within_true : (constructs : Bool) (h k : Known) (c : Setting) → IsWithin h k → IsTrueOf constructs k c → IsTrueOf constructs h c
within_true constructs h k c w true_ = record {
  facts = λ x hx. true_.facts x (w.facts x hx);
  sides = λ x v is. side_of constructs h k c w true_ x v is (h.sides x v) refl;
  fields = λ ctor f hf. true_.fields ctor f (w.fields f hf);
}

-- what a side says but of one local, and but of those that a statement assigns
abbrev pub but_local : ℕ → Option Facts → Option Facts
but_local x o = option_map (λ f z. f z && not (x == z)) o

abbrev pub but_assigned : StmtTree → Option Facts → Option Facts
but_assigned s o = option_map (λ f y. f y && not (assigns s y)) o

abbrev with_facts : Known → Option Facts → Option Facts
with_facts k o = option_map (both k.facts) o

-- It says nothing of these locals.
pub record Forgets (A : ℕ → Bool) (h : Known) : Type 0 where
  pub facts : (y : ℕ) → h.facts y ≡ true → A y ≡ false
  pub sides : (x : ℕ) (v : Bool) (g : Facts) (y : ℕ) → h.sides x v ≡ Some g → g y ≡ true → A y ≡ false
  pub reset : (x : ℕ) (v : Bool) → A x ≡ true → h.sides x v ≡ Some no_facts

module _ (A : ℕ → Bool) (h : Known) (forgets : Forgets A h) where
  apart : (x y : ℕ) → A x ≡ true → A y ≡ false → eqb x y ≡ false
  apart x y ax ay = ⊎_elim (λ is. absurd (true≢false (sym ax ∙ ap A is ∙ ay))) (λ other. ne_eqb x y other) (cases_eq x y)

  -- ---- an assignment of such a local

  local_sides : (x : ℕ) (non_null : Bool) (says : Bool → Facts) (k : Known) → A x ≡ true → IsWithin h k → (y : ℕ) (v : Bool) (g : Facts) → h.sides y v ≡ Some g →
      ((with_local x non_null says k).sides y v ≡ None) ⊎ ((f : Facts) × ((with_local x non_null says k).sides y v ≡ Some f) × ((z : ℕ) → g z ≡ true → (f z || (with_local x non_null says k).facts z) ≡ true))
  local_sides x non_null says k ax w y v g e =
      ⊎_elim
      (λ is.
      let at = forgets.reset x v ax in
      let at' : h.sides y v ≡ Some no_facts = subst (λ n. h.sides n v ≡ Some no_facts) is at in
      let nothing : g ≡ no_facts = cc in
      inr (says v, rw (eq-eqb x y is) refl, λ z gz. absurd (false≢true (sym (ap (λ (u : Facts). u z) nothing) ∙ gz))))
      (λ other. ⊎_elim
      (λ a. inl (rw (ne_eqb x y other) (ap (but_local x) a)))
      (λ r. inr (
        (λ z. r.0 z && not (x == z)),
        rw (ne_eqb x y other) (ap (but_local x) r.1),
        λ z gz.
            let ne = apart x z ax (forgets.sides y v g z e gz) in
            ⊎_elim
            (λ fz. or_left (r.0 z && not (eqb x z)) _ (and_from (r.0 z) (not (eqb x z)) fz (rw ne refl)))
            (λ kz. or_right (r.0 z && not (eqb x z)) _ (rw ne kz))
            (or_cases (r.0 z) (k.facts z) (r.2 z gz)),
      ))
      (w.sides y v g e))
      (cases_eq x y)

  local_none : (x : ℕ) (non_null : Bool) (says : Bool → Facts) (k : Known) → A x ≡ true → IsWithin h k → (y : ℕ) (v : Bool) → h.sides y v ≡ None → (with_local x non_null says k).sides y v ≡ None
  local_none x non_null says k ax w y v e =
      ⊎_elim
      (λ is.
      let at : h.sides y v ≡ Some no_facts = subst (λ n. h.sides n v ≡ Some no_facts) is (forgets.reset x v ax) in
      absurd (let none : ⊥ = cc in none))
      (λ other. rw (ne_eqb x y other) (ap (but_local x) (w.none y v e)))
      (cases_eq x y)

  within_local : (x : ℕ) (non_null : Bool) (says : Bool → Facts) (k : Known) → A x ≡ true → IsWithin h k → IsWithin h (with_local x non_null says k)
  within_local x non_null says k ax w = record {
    facts = λ y hy. rw (apart x y ax (forgets.facts y hy)) (w.facts y hy);
    sides = local_sides x non_null says k ax w;
    none = local_none x non_null says k ax w;
    fields = w.fields;
  }

  within_kept : (x : Option ℕ) (non_null : Bool) (k : Known) → ((y : ℕ) → is_kept_in x y ≡ true → A y ≡ true) → IsWithin h k → IsWithin h (with_kept x non_null k)
  within_kept None non_null k a w = w
  within_kept (Some x) non_null k a w = within_local x non_null says_nothing k (a x (eq-eqb x x refl)) w

  -- more fields
  within_fields : (k : Known) (fields : ℕ → Bool) → ((f : ℕ) → k.fields f ≡ true → fields f ≡ true) → IsWithin h k → IsWithin h (record k { fields = fields })
  within_fields k fields more w = record { facts = w.facts; sides = w.sides; none = w.none; fields = λ f hf. more f (w.fields f hf) }

  within_base : (c : CoreTree) (b : BodyTree) (callee : CalleeTree) (k : Known) → IsWithin h k → IsWithin h (with_base c b callee k)
  within_base c b (Dispatched e t m) k w = w
  within_base c b (Static n) k w = w
  within_base c b (Base n) k w = w
  within_base c b (BaseConstructor n) k w = within_fields k (λ f. k.fields f || not b.flags.delayed || is_field_above c b f) (λ f kf. or_left _ _ (or_left _ _ kf)) w

  within_after : (c : CoreTree) (b : BodyTree) (s : StmtTree) (k : Known) → ((y : ℕ) → is_target s y ≡ true → A y ≡ true) → IsWithin h k → IsWithin h (known_after c b s k)
  within_after c b (AssignStmt p x e) k a w = within_local x (is_never_null (site_of c b) k false e) (learned k e) k (a x (eq-eqb x x refl)) w
  within_after c b (WriteStmt p o f m t e) k a w = within_fields k (λ g. k.fields g || is_this o && g == f) (λ g kg. or_left _ _ kg) w
  within_after c b (WriteElementStmt p x i e) k a w = w
  within_after c b (NewStmt p x t es) k a w = within_kept x true k a w
  within_after c b (NewArrayStmt p x t e) k a w = within_kept x true k a w
  within_after c b (CallStmt p x callee es) k a w = within_base c b callee (with_kept x (is_non_null_type (result_of (callee_of c b callee))) k) (within_kept x (is_non_null_type (result_of (callee_of c b callee))) k a w)
  within_after c b (ReadyStmt p) k a w = within_fields k (λ f. true) (λ f kf. refl) w
  within_after c b (IfStmt p e x y) k a w = w
  within_after c b (LoopStmt p invariants prelude e body exposes) k a w = w
  within_after c b (UnpackStmt p x t) k a w = w
  within_after c b (PackStmt p x t) k a w = w
  within_after c b (AssertStmt p e) k a w = w
  within_after c b (AssumeStmt p e) k a w = w
  within_after c b (PrintStmt p e newline) k a w = w
  within_after c b (PrintTextStmt p text newline) k a w = w
  within_after c b (ReturnStmt p e) k a w = w

  -- ---- tests

  if_none : {X : Type 0} (b : Bool) (o : Option X) → (b ≡ true) ⊎ (b ≡ false) → ((if b then None else o) ≡ None) ⊎ ((if b then None else o) ≡ o)
  if_none b o cases = ⊎_elim (λ t. inl (rw t refl)) (λ f. inr (rw f refl)) cases

  within_tested : (e : ExprTree) (v : Bool) (k : Known) → IsWithin h k → IsWithin h (known_tested e v k)
  within_tested e v k w = record {
    facts = λ x hx. or_left (k.facts x) _ (w.facts x hx);
    sides = λ x u g eg. ⊎_elim
        (λ nothing. inl nothing)
        (λ same. ⊎_elim
        (λ a. inl (same ∙ a))
        (λ r. inr (r.0, same ∙ r.1, λ y gy. ⊎_elim (λ fy. or_left (r.0 y) _ fy) (λ ky. or_right (r.0 y) _ (or_left (k.facts y) _ ky)) (or_cases (r.0 y) (k.facts y) (r.2 y gy))))
        (w.sides x u g eg))
        (if_none (tells e v x (not u)) (k.sides x u) (cases_Bool (tells e v x (not u))));
    none = λ x u eh. ⊎_elim (λ nothing. nothing) (λ same. same ∙ w.none x u eh) (if_none (tells e v x (not u)) (k.sides x u) (cases_Bool (tells e v x (not u))));
    fields = w.fields;
  }

  -- ---- where paths meet

  -- what a side says with the facts of its end
  end_side : (k : Known) → IsWithin h k → (x : ℕ) (v : Bool) (g : Facts) → h.sides x v ≡ Some g → (at_this_end k x v ≡ None) ⊎ ((f : Facts) × (at_this_end k x v ≡ Some f) × ((y : ℕ) → g y ≡ true → f y ≡ true))
  end_side k w x v g e = ⊎_elim
      (λ a. inl (ap (with_facts k) a))
      (λ r. inr (both k.facts r.0, ap (with_facts k) r.1, λ y gy. ⊎_elim (λ fy. or_right (k.facts y) (r.0 y) fy) (λ ky. or_left (k.facts y) (r.0 y) ky) (or_cases (r.0 y) (k.facts y) (r.2 y gy))))
      (w.sides x v g e)

  side_together : (g : Facts) (o q : Option Facts) (more : Facts) → ((o ≡ None) ⊎ ((f : Facts) × (o ≡ Some f) × ((y : ℕ) → g y ≡ true → f y ≡ true))) → ((q ≡ None) ⊎ ((f : Facts) × (q ≡ Some f) × ((y : ℕ) → g y ≡ true → f y ≡ true))) →
      (side_met o q ≡ None) ⊎ ((f : Facts) × (side_met o q ≡ Some f) × ((y : ℕ) → g y ≡ true → (f y || more y) ≡ true))
  side_together g o q more (inl a) (inl b) = inl (ap (λ z. side_met z q) a ∙ b)
  side_together g o q more (inl a) (inr s) = inr (s.0, ap (λ z. side_met z q) a ∙ s.1, λ y gy. or_left (s.0 y) (more y) (s.2 y gy))
  side_together g o q more (inr r) (inl b) = inr (r.0, ap (λ z. side_met z q) r.1 ∙ ap (λ z. side_met (Some r.0) z) b, λ y gy. or_left (r.0 y) (more y) (r.2 y gy))
  side_together g o q more (inr r) (inr s) = inr ((λ y. r.0 y && s.0 y), ap (λ z. side_met z q) r.1 ∙ ap (λ z. side_met (Some r.0) z) s.1, λ y gy. or_left (r.0 y && s.0 y) (more y) (and_from (r.0 y) (s.0 y) (r.2 y gy) (s.2 y gy)))

  within_met : (k l : Known) → IsWithin h k → IsWithin h l → IsWithin h (known_met k l)
  within_met k l w u = record {
    facts = λ x hx. and_from (k.facts x) (l.facts x) (w.facts x hx) (u.facts x hx);
    sides = λ x v g e. side_together g (at_this_end k x v) (at_this_end l x v) (known_met k l).facts (end_side k w x v g e) (end_side l u x v g e);
    none = λ x v e. ap (λ z. side_met (with_facts k z) (at_this_end l x v)) (w.none x v e) ∙ ap (with_facts l) (u.none x v e);
    fields = λ f hf. and_from (k.fields f) (l.fields f) (w.fields f hf) (u.fields f hf);
  }

  -- ---- a loop inside

  head_sides : (s : StmtTree) (k : Known) → ((y : ℕ) → A y ≡ false → assigns s y ≡ false) → IsWithin h k → (x : ℕ) (v : Bool) (g : Facts) → h.sides x v ≡ Some g → (b : Bool) → assigns s x ≡ b →
      ((if b then Some no_facts else option_map (λ f y. f y && not (assigns s y)) (k.sides x v)) ≡ None)
      ⊎ ((f : Facts) × ((if b then Some no_facts else option_map (λ f y. f y && not (assigns s y)) (k.sides x v)) ≡ Some f) × ((y : ℕ) → g y ≡ true → (f y || (known_head s k).facts y) ≡ true))
  head_sides s k a w x v g e true is =
      let ax : A x ≡ true = ⊎_elim (λ t. t) (λ f. absurd (false≢true (sym (a x f) ∙ is))) (cases_Bool (A x)) in
      let at = forgets.reset x v ax in
      let nothing : g ≡ no_facts = cc in
      inr (no_facts, refl, λ y gy. absurd (false≢true (sym (ap (λ (u : Facts). u y) nothing) ∙ gy)))
  head_sides s k a w x v g e false is = ⊎_elim
      (λ n. inl (ap (but_assigned s) n))
      (λ r. inr (
        (λ y. r.0 y && not (assigns s y)),
        ap (but_assigned s) r.1,
        λ y gy.
            let no_target : not (assigns s y) ≡ true = ap not (a y (forgets.sides x v g y e gy)) in
            ⊎_elim
            (λ fy. or_left (r.0 y && not (assigns s y)) _ (and_from (r.0 y) (not (assigns s y)) fy no_target))
            (λ ky. or_right (r.0 y && not (assigns s y)) _ (and_from (k.facts y) (not (assigns s y)) ky no_target))
            (or_cases (r.0 y) (k.facts y) (r.2 y gy)),
      ))
      (w.sides x v g e)

  head_none : (s : StmtTree) (k : Known) → ((y : ℕ) → A y ≡ false → assigns s y ≡ false) → IsWithin h k → (x : ℕ) (v : Bool) → h.sides x v ≡ None → (b : Bool) → assigns s x ≡ b →
      (if b then Some no_facts else option_map (λ (f : Facts) y. f y && not (assigns s y)) (k.sides x v)) ≡ None
  head_none s k a w x v e true is =
      let ax : A x ≡ true = ⊎_elim (λ t. t) (λ f. absurd (false≢true (sym (a x f) ∙ is))) (cases_Bool (A x)) in
      let at = forgets.reset x v ax in
      absurd (let none : ⊥ = cc in none)
  head_none s k a w x v e false is = ap (but_assigned s) (w.none x v e)

  within_head : (s : StmtTree) (k : Known) → ((y : ℕ) → A y ≡ false → assigns s y ≡ false) → IsWithin h k → IsWithin h (known_head s k)
  within_head s k a w = record {
    facts = λ x hx. and_from (k.facts x) (not (assigns s x)) (w.facts x hx) (ap not (a x (forgets.facts x hx)));
    sides = λ x v g e. head_sides s k a w x v g e (assigns s x) refl;
    none = λ x v e. head_none s k a w x v e (assigns s x) refl;
    fields = w.fields;
  }

  -- ---- along paths

  pub WithinAll : Option Known → Type 0
  WithinAll None = Unit {0}
  WithinAll (Some k) = IsWithin h k

  all_met : (c : CoreTree) (b : BodyTree) (o q : Option Known) → WithinAll o → WithinAll q → WithinAll (met (known_flow c b) o q)
  unfolding WithinAll
  all_met c b None q w u = u
  all_met c b (Some k) None w u = w
  all_met c b (Some k) (Some l) w u = within_met k l w u

  all_tested : (c : CoreTree) (b : BodyTree) (e : ExprTree) (v : Bool) (o : Option Known) → WithinAll o → WithinAll (option_map ((known_flow c b).tested e v) o)
  unfolding WithinAll
  all_tested c b e v None w = tt
  all_tested c b e v (Some k) w = within_tested e v k w

  all_left : (c : CoreTree) (b : BodyTree) (e : ExprTree) (literal : Bool) (o : Option Known) → WithinAll o → WithinAll (if literal then None else option_map ((known_flow c b).tested e false) o)
  unfolding WithinAll
  all_left c b e true o w = tt
  all_left c b e false o w = all_tested c b e false o w

  -- what isn't among these locals isn't assigned here
  abbrev Spares : StmtTree → Type 0
  Spares s = (y : ℕ) → A y ≡ false → each_inside (λ u. not (is_target u y)) s ≡ true

  abbrev SparesAll : CodeTree → Type 0
  SparesAll code = (y : ℕ) → A y ≡ false → each (λ u. not (is_target u y)) code ≡ true

  targets : (s : StmtTree) → ((y : ℕ) → A y ≡ false → not (is_target s y) ≡ true) → (y : ℕ) → is_target s y ≡ true → A y ≡ true
  targets s a y is = ⊎_elim (λ t. t) (λ f. absurd (false≢true (sym (ap not is) ∙ a y f))) (cases_Bool (A y))

  mutual
    unfolding WithinAll

    pub within_behind : (c : CoreTree) (b : BodyTree) (s : StmtTree) (k : Known) → Spares s → IsWithin h k → WithinAll (behind (known_flow c b) s k)
    within_behind c b (AssignStmt p x e) k a w = within_after c b (AssignStmt p x e) k (targets (AssignStmt p x e) a) w
    within_behind c b (WriteStmt p o f m t e) k a w = within_after c b (WriteStmt p o f m t e) k (targets (WriteStmt p o f m t e) a) w
    within_behind c b (WriteElementStmt p x i e) k a w = w
    within_behind c b (NewStmt p x t es) k a w = within_after c b (NewStmt p x t es) k (targets (NewStmt p x t es) a) w
    within_behind c b (NewArrayStmt p x t e) k a w = within_after c b (NewArrayStmt p x t e) k (targets (NewArrayStmt p x t e) a) w
    within_behind c b (CallStmt p x callee es) k a w = within_after c b (CallStmt p x callee es) k (targets (CallStmt p x callee es) a) w
    within_behind c b (ReadyStmt p) k a w = within_after c b (ReadyStmt p) k (targets (ReadyStmt p) a) w
    within_behind c b (IfStmt p e x y) k a w =
        all_met c b (at_end (known_flow c b) x (Some (known_tested e true k))) (at_end (known_flow c b) y (Some (known_tested e false k)))
        (within_end c b x (Some (known_tested e true k)) (λ z az. (and_parts (each (λ u. not (is_target u z)) x) (each (λ u. not (is_target u z)) y) (a z az)).0) (within_tested e true k w))
        (within_end c b y (Some (known_tested e false k)) (λ z az. (and_parts (each (λ u. not (is_target u z)) x) (each (λ u. not (is_target u z)) y) (a z az)).1) (within_tested e false k w))
    within_behind c b (LoopStmt p invariants prelude e body exposes) k a w =
        all_left c b e (is_literal_true e) (at_end (known_flow c b) prelude (Some (known_head (LoopStmt p invariants prelude e body exposes) k)))
        (within_end c b prelude (Some (known_head (LoopStmt p invariants prelude e body exposes) k)) (λ z az. (and_parts (each (λ u. not (is_target u z)) prelude) (each (λ u. not (is_target u z)) body) (a z az)).0)
        (within_head (LoopStmt p invariants prelude e body exposes) k (λ z az. ap not (a z az)) w))
    within_behind c b (UnpackStmt p x t) k a w = w
    within_behind c b (PackStmt p x t) k a w = w
    within_behind c b (AssertStmt p e) k a w = w
    within_behind c b (AssumeStmt p e) k a w = w
    within_behind c b (PrintStmt p e newline) k a w = w
    within_behind c b (PrintTextStmt p text newline) k a w = w
    within_behind c b (ReturnStmt p e) k a w = tt

    pub within_end : (c : CoreTree) (b : BodyTree) (code : CodeTree) (o : Option Known) → SparesAll code → WithinAll o → WithinAll (at_end (known_flow c b) code o)
    within_end c b NoCode o a w = w
    within_end c b (Then s code) None a w = tt
    within_end c b (Then s code) (Some k) a w =
        within_end c b code (behind (known_flow c b) s k) (λ z az. (and_parts (each_inside (λ u. not (is_target u z)) s) (each (λ u. not (is_target u z)) code) (a z az)).1)
        (within_behind c b s k (λ z az. (and_parts (each_inside (λ u. not (is_target u z)) s) (each (λ u. not (is_target u z)) code) (a z az)).0) w)

-- ---- the head of a loop

head_forgets_side : (s : StmtTree) (k : Known) (x : ℕ) (v : Bool) (g : Facts) (y : ℕ) (b : Bool) (o : Option Facts) → (if b then Some no_facts else option_map (λ (f : Facts) z. f z && not (assigns s z)) o) ≡ Some g → g y ≡ true → assigns s y ≡ false
head_forgets_side s k x v g y true o e gy = let nothing : no_facts ≡ g = cc in absurd (false≢true (ap (λ (u : Facts). u y) nothing ∙ gy))
head_forgets_side s k x v g y false None e gy = absurd (let none : ⊥ = cc in none)
head_forgets_side s k x v g y false (Some f) e gy =
    let is : (λ z. f z && not (assigns s z)) ≡ g = cc in
    not_true (assigns s y) (and_parts (f y) (not (assigns s y)) (ap (λ (u : Facts). u y) is ∙ gy)).1

pub head_forgets : (s : StmtTree) (k : Known) → Forgets (assigns s) (known_head s k)
head_forgets s k = record {
  facts = λ y hy. not_true (assigns s y) (and_parts (k.facts y) (not (assigns s y)) hy).1;
  sides = λ x v g y e gy. head_forgets_side s k x v g y (assigns s x) (k.sides x v) e gy;
  reset = λ x v is. rw is refl;
}

-- what is known at the head of a loop follows from what is known at the end of its body
pub within_again : (c : CoreTree) (b : BodyTree) (l : Loop) (k : Known) → WithinAll (assigns (stmt_of l)) (known_head (stmt_of l) k) (head_forgets (stmt_of l) k) (known_at_end (known_flow c b) l k)
unfolding WithinAll
within_again c b l k =
    let A = assigns (stmt_of l) in
    let h = known_head (stmt_of l) k in
    let g = head_forgets (stmt_of l) k in
    within_end A h g c b l.body (in_body (known_flow c b) l.test (known_at_test (known_flow c b) l k)) (λ z az. (parts z az).1)
    (all_tested A h g c b l.test true (known_at_test (known_flow c b) l k)
    (within_end A h g c b l.prelude (Some h) (λ z az. (parts z az).0) (within_self h)))
  where
    not_is : (b : Bool) → not b ≡ false → b ≡ true
    not_is true h = refl
    not_is false h = absurd (false≢true (sym h))

    parts : (z : ℕ) → assigns (stmt_of l) z ≡ false → (each (λ u. not (is_target u z)) l.prelude ≡ true) × (each (λ u. not (is_target u z)) l.body ≡ true)
    parts z az = and_parts (each (λ u. not (is_target u z)) l.prelude) (each (λ u. not (is_target u z)) l.body) (not_is (each (λ u. not (is_target u z)) l.prelude && each (λ u. not (is_target u z)) l.body) az)

pub again_true : (c : CoreTree) (b : BodyTree) (constructs : Bool) (l : Loop) (k m : Known) (x : Setting) → known_at_end (known_flow c b) l k ≡ Some m → IsTrueOf constructs m x → IsTrueOf constructs (known_head (stmt_of l) k) x
unfolding WithinAll
again_true c b constructs l k m x is so =
    within_true constructs (known_head (stmt_of l) k) m x
    (subst (λ o. WithinAll (assigns (stmt_of l)) (known_head (stmt_of l) k) (head_forgets (stmt_of l) k) o) is (within_again c b l k)) so
