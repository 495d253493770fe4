-- What the store admits of an invariant is not refused.
use Rattle.std.proofs.Common.{◌≡◌, ℕ, zero, suc, ◌+◌, ◌*◌, List, [], ◌∷◌, ◌++◌, Bool, true, false, Some, refl, sym, ◌∙◌, ap, subst, arith, ⊎_elim}
use Rattle.std.specs.Prelude.{◌&&◌, ◌||◌, slice_get}
use Rattle.std.specs.List.{list_all}
use Rattle.std.proofs.lemmas.Option.{same_Some}
use Rattle.std.proofs.lemmas.List.Folds.{list_all-append}
use Rattle.std.proofs.lemmas.Bool.{and_parts, and_from, or_cases, or_parts, or_left, or_right, ne_eqb, false≢true}
use Rattle.ss_core.specs.declared.names.Place.{Place}
use Rattle.ss_core.specs.declared.names.Mark.{Mark}
use Rattle.ss_ast.specs.Expressions.{NameTree}
use Rattle.ss_ast.specs.Programs.{MemberKindTree, FieldsOf, InvariantOf, MethodOf, ConstructorOf, MemberTree, ClassTree, ProgramTree}
use Rattle.ss_typed.specs.Tree.{ExprTree, ThisOf, LocalOf, BoundOf, IffOf, ImpliesOf, BinaryOf, IsOf, AsOf, NegateOf, NotOf, CastOf, FieldOf, ElementOf, LengthOf, OldOf, QuantifiedOf, StateOf, OwnersOf, NewOf, NewArrayOf, CallOf, StaticOf, BaseOf, InvariantTree, MembersTree}
use Rattle.ss_typed.specs.Shapes.{is_this}
use Rattle.ss_core.specs.Marks.{is_rep, is_rep_or_peer}
use Rattle.ss_owners_rules.specs.Admissible as written
use Rattle.ss_owners_rules.specs.Admissible.{field_marks, smallest, inadmissible}
use Rattle.ss_resolver_rules.specs.Names.{Env, class_env}
use Rattle.ss_resolver_rules.specs.Expressions.{expr}
use Rattle.ss_resolver_rules.specs.Programs.{each, members, invariants_of_kind, invariants_in, resolved}
use Rattle.ss_expand_rules.specs.Calls.{has_call}
use Rattle.ss_expand_rules.specs.Numbers.{plain}
use Rattle.ss_expand_rules.specs.Elaborated.{invariant_numbers}
use Rattle.ss_store_rules.specs.Changes.{field_mark}
use Rattle.ss_store_rules.specs.Admissible as store
use Rattle.ss_store_rules.specs.Admissible.{is_own_field, is_admissible}
use Rattle.ss_expand_formed.specs.Admissible.{RefusesNoMore}
use Rattle.ss_expand_formed.proofs.AdmissibleClasses.{classes}
use Rattle.ss_expand_formed.proofs.Elaborations.{is_field_of, mark_stays}
use Rattle.ss_expand_formed.proofs.Bare.{is_bare, HasNoLocal, expr_bare}

this_was : (x : ExprTree) → is_bare x ≡ true → store.is_this (plain invariant_numbers x) ≡ true → is_this x ≡ true
this_was (ThisOf p t) b h = refl
this_was (LocalOf p x t) b h = absurd (false≢true b)
this_was (BoundOf p n) b h = absurd (false≢true (sym (ne_eqb (1 + n) 0 (λ e. omega arith)) ∙ h))
this_was x b h = absurd (false≢true h)

both_none : (xs ys : List Place) → xs ≡ [] → ys ≡ [] → xs ++ ys ≡ []
both_none xs ys h g = ap (λ zs. zs ++ ys) h ∙ g

small_none : (b : Bool) (p : Place) (ps : List Place) → b ≡ true → ps ≡ [] → smallest b p ps ≡ []
small_none true p [] h g = refl
small_none false p [] h g = absurd (false≢true h)
small_none b p (q ∷ ps) h g = absurd (let x : ⊥ = cc in x)

this_none : (ms : List Mark) (x : ExprTree) → is_this x ≡ true → inadmissible ms x ≡ []
this_none ms (ThisOf p t) h = refl
this_none ms x h = absurd (false≢true h)

path_none : (ms : List Mark) (x : ExprTree) → written.is_owned_path ms x ≡ true → inadmissible ms x ≡ []
path_none ms (FieldOf p e f t) h =
    ⊎_elim
    (λ first. let this = (and_parts (is_this e) (is_rep (written.field_mark ms f)) first).0 in
    small_none (is_this e || written.is_owned_path ms e) p (inadmissible ms e) (or_left (is_this e) (written.is_owned_path ms e) this) (this_none ms e this))
    (λ further. let path = (and_parts (written.is_owned_path ms e) (is_rep_or_peer (written.field_mark ms f)) further).0 in
    small_none (is_this e || written.is_owned_path ms e) p (inadmissible ms e) (or_right (is_this e) (written.is_owned_path ms e) path) (path_none ms e path))
    (or_cases (is_this e && is_rep (written.field_mark ms f)) (written.is_owned_path ms e && is_rep_or_peer (written.field_mark ms f)) h)
path_none ms x h = absurd (false≢true h)

module _ (p : ProgramTree) (t : ℕ) where
  abbrev marks : List Mark
  marks = field_marks (resolved p).classes

  path_was : (x : ExprTree) → is_bare x ≡ true → store.is_owned_path (classes p) t (plain invariant_numbers x) ≡ true → written.is_owned_path marks x ≡ true
  path_was (FieldOf q e f u) b h =
      let m = field_mark (classes p) f in
      let own = is_own_field (classes p) t (plain invariant_numbers e) f in
      let path = store.is_owned_path (classes p) t (plain invariant_numbers e) in
      let same = mark_stays p t invariant_numbers f in
      let first = is_this e && is_rep (written.field_mark marks f) in
      let further = written.is_owned_path marks e && is_rep_or_peer (written.field_mark marks f) in
      ⊎_elim
      (λ one. let both = and_parts own (is_rep m) one in
      or_left first further (and_from (is_this e) _ (this_was e b (and_parts (store.is_this (plain invariant_numbers e)) (is_field_of p t f) both.0).0) (ap is_rep same ∙ both.1)))
      (λ more. let both = and_parts path (is_rep_or_peer m) more in
      or_right first further (and_from (written.is_owned_path marks e) _ (path_was e b both.0) (ap is_rep_or_peer same ∙ both.1)))
      (or_cases (own && is_rep m) (path && is_rep_or_peer m) h)
  path_was x b h = absurd (false≢true h)

  abbrev IsKept : ExprTree → Type 0
  IsKept x = is_bare x ≡ true → has_call x ≡ false → is_admissible (classes p) t (plain invariant_numbers x) ≡ true → inadmissible marks x ≡ []

  both_kept : (a b : ExprTree) → IsKept a → IsKept b → (is_bare a && is_bare b) ≡ true → (has_call a || has_call b) ≡ false → (is_admissible (classes p) t (plain invariant_numbers a) && is_admissible (classes p) t (plain invariant_numbers b)) ≡ true →
      inadmissible marks a ++ inadmissible marks b ≡ []
  both_kept a b kept other r c h =
      let bare = and_parts (is_bare a) (is_bare b) r in
      let calls = or_parts (has_call a) (has_call b) c in
      let sides = and_parts (is_admissible (classes p) t (plain invariant_numbers a)) (is_admissible (classes p) t (plain invariant_numbers b)) h in
      both_none _ _ (kept bare.0 calls.0 sides.0) (other bare.1 calls.1 sides.1)

  kept : (x : ExprTree) → is_bare x ≡ true → has_call x ≡ false → is_admissible (classes p) t (plain invariant_numbers x) ≡ true → inadmissible marks x ≡ []
  kept (FieldOf q e f u) b c h =
      ⊎_elim
      (λ own. let this = this_was e b (and_parts (store.is_this (plain invariant_numbers e)) (is_field_of p t f) own).0 in
      small_none (is_this e || written.is_owned_path marks e) q (inadmissible marks e) (or_left (is_this e) (written.is_owned_path marks e) this) (this_none marks e this))
      (λ path. let was = path_was e b path in
      small_none (is_this e || written.is_owned_path marks e) q (inadmissible marks e) (or_right (is_this e) (written.is_owned_path marks e) was) (path_none marks e was))
      (or_cases (is_own_field (classes p) t (plain invariant_numbers e) f) (store.is_owned_path (classes p) t (plain invariant_numbers e)) h)
  kept (ElementOf q a i) b c h =
      let bare = and_parts (is_bare a) (is_bare i) b in
      let calls = or_parts (has_call a) (has_call i) c in
      let sides = and_parts (store.is_owned_path (classes p) t (plain invariant_numbers a)) (is_admissible (classes p) t (plain invariant_numbers i)) h in
      let was = path_was a bare.0 sides.0 in
      small_none (written.is_untyped a || written.is_owned_path marks a) q (inadmissible marks a ++ inadmissible marks i) (or_right (written.is_untyped a) (written.is_owned_path marks a) was)
      (both_none _ _ (path_none marks a was) (kept i bare.1 calls.1 sides.1))
  kept (LengthOf q e) b c h = kept e b c h
  kept (NegateOf q e) b c h = kept e b c h
  kept (NotOf q e) b c h = kept e b c h
  kept (BinaryOf q o x y) b c h = both_kept x y (kept x) (kept y) b c h
  kept (ImpliesOf q x y) b c h = both_kept x y (kept x) (kept y) b c h
  kept (IffOf q x y) b c h = both_kept x y (kept x) (kept y) b c h
  kept (IsOf q e u) b c h = kept e b c h
  kept (AsOf q e u) b c h = kept e b c h
  kept (CastOf q u non_null e) b c h = kept e b c h
  kept (QuantifiedOf q by name low high e) b c h =
      let bare = and_parts (is_bare low) (is_bare high && is_bare e) b in
      let more_bare = and_parts (is_bare high) (is_bare e) bare.1 in
      let calls = or_parts (has_call low || has_call high) (has_call e) c in
      let low_calls = or_parts (has_call low) (has_call high) calls.0 in
      let parts = and_parts (is_admissible (classes p) t (plain invariant_numbers low)) (is_admissible (classes p) t (plain invariant_numbers high) && is_admissible (classes p) t (plain invariant_numbers e)) h in
      let more = and_parts (is_admissible (classes p) t (plain invariant_numbers high)) (is_admissible (classes p) t (plain invariant_numbers e)) parts.1 in
      both_none _ _ (both_none _ _ (kept low bare.0 low_calls.0 parts.0) (kept high more_bare.0 low_calls.1 more.0)) (kept e more_bare.1 calls.1 more.1)
  kept (OldOf q e) b c h = absurd (false≢true h)
  kept (StateOf q w e) b c h = absurd (false≢true h)
  kept (OwnersOf q w x y) b c h = absurd (false≢true h)
  kept (NewOf q u es) b c h = absurd (false≢true (sym c))
  kept (NewArrayOf q u e) b c h = absurd (false≢true (sym c))
  kept (CallOf q e m u es) b c h = absurd (false≢true (sym c))
  kept (StaticOf q n u es) b c h = absurd (false≢true (sym c))
  kept (BaseOf q m u es) b c h = absurd (false≢true (sym c))
  kept x b c h = refl

-- ---- the invariants of a class

kind_bare : (e : Env) → HasNoLocal e → (attributes : List NameTree) (kind : MemberKindTree) → list_all (λ (i : InvariantTree). is_bare i.condition) (invariants_of_kind e attributes kind) ≡ true
kind_bare e none attributes (InvariantOf a) = and_from (is_bare (expr e a)) true (expr_bare e a none) refl
kind_bare e none attributes (FieldsOf d) = refl
kind_bare e none attributes (MethodOf r n ps cs b) = refl
kind_bare e none attributes (ConstructorOf n ps base cs b) = refl

members_bare : (e : Env) → HasNoLocal e → (ms : List MemberTree) → list_all (λ (i : InvariantTree). is_bare i.condition) (invariants_in e ms) ≡ true
members_bare e none [] = refl
members_bare e none (m ∷ ms) =
    list_all-append (λ (i : InvariantTree). is_bare i.condition) (invariants_of_kind e m.attributes m.kind) (invariants_in e ms) ∙ and_from _ _ (kind_bare e none m.attributes m.kind) (members_bare e none ms)

all_at : {A : Type 0} (test : A → Bool) (xs : List A) (n : ℕ) (x : A) → list_all test xs ≡ true → slice_get xs n ≡ Some x → test x ≡ true
all_at test [] n x h e = absurd (let z : ⊥ = cc in z)
all_at test (y ∷ ys) zero x h e = ap test (sym (same_Some _ _ e)) ∙ (and_parts (test y) (list_all test ys) h).0
all_at test (y ∷ ys) (suc n) x h e = all_at test ys n x (and_parts (test y) (list_all test ys) h).1 e

made_from : (f : ℕ → ClassTree → MembersTree) (j : ℕ) (cs : List ClassTree) (k : ℕ) (m : MembersTree) → slice_get (each f j cs) k ≡ Some m → (i : ℕ) × (c : ClassTree) × (f i c ≡ m)
made_from f j [] k m h = absurd (let x : ⊥ = cc in x)
made_from f j (c ∷ cs) zero m h = (j, c, same_Some _ _ h)
made_from f j (c ∷ cs) (suc k) m h = made_from f (j + 1) cs k m h

pub refuses_no_more : (p : ProgramTree) → RefusesNoMore p
refuses_no_more p k n m i there at calls h =
    let w = made_from (members p.classes) 0 p.classes k m there in
    let all = members_bare (class_env p.classes w.0) (λ x. refl) w.1.members in
    let bare : list_all (λ (x : InvariantTree). is_bare x.condition) m.invariants ≡ true = subst (λ (x : MembersTree). list_all (λ (y : InvariantTree). is_bare y.condition) x.invariants ≡ true) w.2 all in
    kept p (4 + 2 * k) i.condition (all_at (λ (x : InvariantTree). is_bare x.condition) m.invariants n i bare at) calls h
