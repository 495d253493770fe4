-- Where the code of a constructor begins with `base(..)` and `ready this`.
use Rattle.std.proofs.Common.{◌≡◌, ℕ, List, [], ◌∷◌, ◌++◌, Bool, true, false, None, refl, ap, ◌⊎◌, ⊎_elim}
use Rattle.std.specs.Prelude.{◌&&◌, not, if◌then◌else◌}
use Rattle.std.specs.List.{list_all}
use Rattle.std.proofs.lemmas.Bool.{and_parts, and_from, false≢true}
use Rattle.ss_core.specs.declared.names.Place.{Place}
use Rattle.ss_core.specs.Tree as core
use Rattle.ss_core.specs.Tree.{IfStmt, LoopStmt, CallStmt, BaseConstructor, ReadyStmt, CodeTree, NoCode, Then}
use Rattle.ss_core.specs.View.{code_of}
use Rattle.ss_store_rules.specs.Locals.{each, each_inside}
use Rattle.ss_store_rules.specs.Construction.{is_base_or_ready, has_no_base_or_ready, opening, after_opening, begins_with, has_base_without_this, is_without_this}
use Rattle.ss_expand_formed.proofs.Facts.{not_true}
use Rattle.ss_expand_formed.proofs.Shape.{Code, each-append}

-- neither stands in it
abbrev pub has_none : Code → Bool
has_none xs = has_no_base_or_ready (code_of xs)

self_passes : (test : core.StmtTree → Bool) (s : core.StmtTree) → each_inside test s ≡ true → test s ≡ true
self_passes test (IfStmt p e a b) h = (and_parts (test (IfStmt p e a b)) (each test a) (and_parts (test (IfStmt p e a b) && each test a) (each test b) h).0).0
self_passes test (LoopStmt p invariants prelude e body exposes) h =
    let s = LoopStmt p invariants prelude e body exposes in
    (and_parts (test s) (each test prelude) (and_parts (test s && each test prelude) (each test body) h).0).0
self_passes test s h = h

other_first : (s : core.StmtTree) → each_inside (λ x. not (is_base_or_ready x)) s ≡ true → is_base_or_ready s ≡ false
other_first s h = not_true (is_base_or_ready s) (self_passes (λ x. not (is_base_or_ready x)) s h)

-- ---- before the first of the two

pub opening_before : (xs : Code) (s : core.StmtTree) (ys : Code) → has_none xs ≡ true → is_base_or_ready s ≡ true → opening (code_of (xs ++ s ∷ ys)) ≡ code_of xs
opening_before [] s ys h g = rw g refl
opening_before (x ∷ xs) s ys h g =
    let both = and_parts (each_inside (λ z. not (is_base_or_ready z)) x) (has_none xs) h in
    rw (other_first x both.0) (ap (Then x) (opening_before xs s ys both.1 g))

pub after_before : (xs : Code) (s : core.StmtTree) (ys : Code) → has_none xs ≡ true → is_base_or_ready s ≡ true → after_opening (code_of (xs ++ s ∷ ys)) ≡ Then s (code_of ys)
after_before [] s ys h g = rw g refl
after_before (x ∷ xs) s ys h g =
    let both = and_parts (each_inside (λ z. not (is_base_or_ready z)) x) (has_none xs) h in
    rw (other_first x both.0) (after_before xs s ys both.1 g)

opening_whole : (xs : Code) → has_none xs ≡ true → opening (code_of xs) ≡ code_of xs
opening_whole [] h = refl
opening_whole (x ∷ xs) h =
    let both = and_parts (each_inside (λ z. not (is_base_or_ready z)) x) (has_none xs) h in
    rw (other_first x both.0) (ap (Then x) (opening_whole xs both.1))

after_whole : (xs : Code) → has_none xs ≡ true → after_opening (code_of xs) ≡ NoCode
after_whole [] h = refl
after_whole (x ∷ xs) h =
    let both = and_parts (each_inside (λ z. not (is_base_or_ready z)) x) (has_none xs) h in
    rw (other_first x both.0) (after_whole xs both.1)

-- ---- the order of the two

-- `base(..)` and `ready this`, each where it is wanted
abbrev pub base_where : Bool → Place → ℕ → List core.ExprTree → Code
base_where wanted p n es = if wanted then CallStmt p None (BaseConstructor n) es ∷ [] else []

abbrev pub ready_where : Bool → Place → Code
ready_where wanted p = if wanted then ReadyStmt p ∷ [] else []

abbrev pub IsInOrder : CodeTree → Bool → Bool → Type 0
IsInOrder code base ready = (has_no_base_or_ready (opening code) && begins_with base ready (after_opening code)) ≡ true

pub none_in_order : (xs : Code) → has_none xs ≡ true → IsInOrder (code_of xs) false false
none_in_order xs h = rw (opening_whole xs h, after_whole xs h) (and_from _ _ h refl)

module _ (front rest : Code) (p : Place) (n : ℕ) (es : List core.ExprTree) (h : has_none front ≡ true) (g : has_none rest ≡ true) where
  abbrev pub whole : Bool → Bool → Code
  whole base ready = front ++ (base_where base p n es ++ (ready_where ready p ++ rest))

  pub in_order : (base ready : Bool) → IsInOrder (code_of (whole base ready)) base ready
  in_order false false = none_in_order (front ++ rest) (each-append (λ s. not (is_base_or_ready s)) front rest h g)
  in_order true false = let s = CallStmt p None (BaseConstructor n) es in rw (opening_before front s rest h refl, after_before front s rest h refl) (and_from _ _ h g)
  in_order false true = rw (opening_before front (ReadyStmt p) rest h refl, after_before front (ReadyStmt p) rest h refl) (and_from _ _ h g)
  in_order true true = let s = CallStmt p None (BaseConstructor n) es in rw (opening_before front s (ReadyStmt p ∷ rest) h refl, after_before front s (ReadyStmt p ∷ rest) h refl) (and_from _ _ h g)

  -- where one is wanted the front is what stands before them
  pub front_is_opening : (base ready : Bool) → (base ≡ true) ⊎ (ready ≡ true) → opening (code_of (whole base ready)) ≡ code_of front
  front_is_opening true ready w = opening_before front (CallStmt p None (BaseConstructor n) es) (ready_where ready p ++ rest) h refl
  front_is_opening false true w = opening_before front (ReadyStmt p) rest h refl
  front_is_opening false false w = absurd (⊎_elim false≢true false≢true w)

  pub arguments_are_without : (base ready : Bool) → list_all is_without_this es ≡ true → has_base_without_this (after_opening (code_of (whole base ready))) ≡ true
  arguments_are_without true ready w = rw (after_before front (CallStmt p None (BaseConstructor n) es) (ready_where ready p ++ rest) h refl) w
  arguments_are_without false true w = rw (after_before front (ReadyStmt p) rest h refl) refl
  arguments_are_without false false w = rw (after_whole (front ++ rest) (each-append (λ s. not (is_base_or_ready s)) front rest h g)) refl
