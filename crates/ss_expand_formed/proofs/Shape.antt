-- The shape of elaborated code: which locals it assigns, and which exposes are open in it.
use Rattle.std.proofs.Common.{◌≡◌, ℕ, suc, ◌+◌, ◌≤◌, ◌<◌, List, [], ◌∷◌, ◌++◌, map, Bool, true, false, Option, Some, None, refl, arith}
use Rattle.std.specs.Prelude.{◌==◌, ◌&&◌, reverse, nat_le, nat_lt}
use Rattle.std.proofs.lemmas.Bool.{and_parts, and_from, eqb-true, ltb-true, le-leb, lt-ltb, false≢true}
use Rattle.ss_core.specs.declared.names.Place.{Place}
use Rattle.ss_core.specs.Tree as core
use Rattle.ss_core.specs.Tree.{ExprTree, AssignStmt, WriteStmt, WriteElementStmt, NewStmt, NewArrayStmt, CallStmt, ReadyStmt, IfStmt, LoopStmt, UnpackStmt, PackStmt, AssertStmt, AssumeStmt, PrintStmt, PrintTextStmt, ReturnStmt, CodeTree, NoCode, Then}
use Rattle.ss_core.specs.View.{code_of}
use Rattle.ss_expand_rules.specs.Lifting.{Opened}
use Rattle.ss_expand_rules.specs.Statements.{exposed, pack_of}
use Rattle.ss_store_rules.specs.Locals.{each, each_inside, is_kept_among, targets_only}

abbrev pub Code : Type 0
Code = List core.StmtTree

-- neither an `if`, a loop, a return, an unpack nor a pack
abbrev pub is_step : core.StmtTree → Bool
is_step (IfStmt p e a b) = false
is_step (LoopStmt p invariants prelude e body exposes) = false
is_step (UnpackStmt p x t) = false
is_step (PackStmt p x t) = false
is_step (ReturnStmt p e) = false
is_step x = true

-- no statement, or a pack of `this` as the class t
abbrev pub is_this_pack : ℕ → Code → Bool
is_this_pack t [] = true
is_this_pack t (PackStmt p x u ∷ []) = x == 0 && u == t
is_this_pack t xs = false

-- from the first number to below the second
abbrev pub is_from : ℕ → ℕ → ℕ → Bool
is_from low high x = nat_le low x && nat_lt x high

-- the pack at the end of an `expose`, where that is reached
abbrev pub closing : Opened → Bool → Code
closing o false = []
closing o true = pack_of o ∷ []

-- Code of a body of the class t within some exposes, before which so many temporaries are made and after which so many. The locals that the
-- body declares and its copies stand from `low` on, and the temporaries from `first` on.
pub data Shape (t low first : ℕ) : List Opened → ℕ → Code → ℕ → Type 0 where
  Nothing : {os : List Opened} {n : ℕ} → Shape t low first os n [] n
  Join : {os : List Opened} {n m k : ℕ} {xs ys : Code} → Shape t low first os n xs m → Shape t low first os m ys k → Shape t low first os n (xs ++ ys) k
  -- it assigns none but these locals
  Step : {os : List Opened} {n : ℕ} (x : core.StmtTree) → is_step x ≡ true → targets_only (is_from low first) x ≡ true → Shape t low first os n (x ∷ []) n
  -- it assigns a new temporary
  Temporary : {os : List Opened} {n m : ℕ} (x : core.StmtTree) → is_step x ≡ true → targets_only (λ y. first + n == y) x ≡ true → m ≡ suc n → Shape t low first os n (x ∷ []) m
  -- a new temporary is assigned, and once more after the code in an `if`
  Lazily : {os : List Opened} {n m : ℕ} {xs : Code} (p : Place) (e : ExprTree) (x y : core.StmtTree) → is_step x ≡ true → is_step y ≡ true → targets_only (λ z. first + n == z) x ≡ true → targets_only (λ z. first + n == z) y ≡ true →
      Shape t low first os (suc n) xs m → Shape t low first os n (x ∷ IfStmt p e (code_of (xs ++ y ∷ [])) NoCode ∷ []) m
  Branch : {os : List Opened} {n m k : ℕ} {xs ys : Code} (p : Place) (e : ExprTree) → Shape t low first os n xs m → Shape t low first os m ys k → Shape t low first os n (IfStmt p e (code_of xs) (code_of ys) ∷ []) k
  Loop : {os : List Opened} {n m k : ℕ} {xs ys : Code} (p : Place) (is : List ExprTree) (e : ExprTree) → Shape t low first os n xs m → Shape t low first os m ys k →
      Shape t low first os n (LoopStmt p is (code_of xs) e (code_of ys) (map exposed os) ∷ []) k
  -- a return after the packs of the exposes and of `this`
  Leave : {os : List Opened} {n : ℕ} (p : Place) (e : Option ExprTree) (xs : Code) → is_this_pack t xs ≡ true → Shape t low first os n ((map pack_of (reverse os) ++ xs) ++ ReturnStmt p e ∷ []) n
  -- an object in a new temporary is exposed
  Expose : {os : List Opened} {n m : ℕ} {xs : Code} (x : core.StmtTree) (o : Opened) (ends : Bool) → is_step x ≡ true → targets_only (λ y. first + n == y) x ≡ true → o.local ≡ first + n →
      Shape t low first (os ++ o ∷ []) (suc n) xs m → Shape t low first os n (x ∷ UnpackStmt o.place o.local o.class ∷ (xs ++ closing o ends)) m

module _ (t low first : ℕ) where
  pub grows : (os : List Opened) (n : ℕ) (xs : Code) (m : ℕ) → Shape t low first os n xs m → n ≤ m
  grows os n xs m Nothing = omega arith
  grows os n xs k (Join {m = m} {xs = ys} {ys = zs} a b) = let h = grows os n ys m a in let g = grows os m zs k b in omega arith
  grows os n xs m (Step x h g) = omega arith
  grows os n xs m (Temporary x h g e) = omega arith
  grows os n xs m (Lazily {xs = ys} p e x y h i g j a) = let l = grows os (suc n) ys m a in omega arith
  grows os n xs k (Branch {m = m} {xs = ys} {ys = zs} p e a b) = let h = grows os n ys m a in let g = grows os m zs k b in omega arith
  grows os n xs k (Loop {m = m} {xs = ys} {ys = zs} p is e a b) = let h = grows os n ys m a in let g = grows os m zs k b in omega arith
  grows os n xs m (Leave p e ys h) = omega arith
  grows os n xs m (Expose {xs = ys} x o ends h g i a) = let l = grows (os ++ o ∷ []) (suc n) ys m a in omega arith

-- ---- what holds of each statement

pub each-append : (test : core.StmtTree → Bool) (xs ys : Code) → each test (code_of xs) ≡ true → each test (code_of ys) ≡ true → each test (code_of (xs ++ ys)) ≡ true
each-append test [] ys h g = g
each-append test (x ∷ xs) ys h g = let both = and_parts (each_inside test x) (each test (code_of xs)) h in and_from _ _ both.0 (each-append test xs ys both.1 g)

-- a step has no statements inside
pub step_inside : (test : core.StmtTree → Bool) (x : core.StmtTree) → is_step x ≡ true → test x ≡ true → each_inside test x ≡ true
step_inside test (IfStmt p e a b) h g = absurd (false≢true h)
step_inside test (LoopStmt p invariants prelude e body exposes) h g = absurd (false≢true h)
step_inside test x h g = g

-- ---- which locals are assigned

kept_more : (f g : ℕ → Bool) → ((y : ℕ) → f y ≡ true → g y ≡ true) → (x : Option ℕ) → is_kept_among f x ≡ true → is_kept_among g x ≡ true
kept_more f g more None h = refl
kept_more f g more (Some x) h = more x h

pub targets_more : (f g : ℕ → Bool) → ((y : ℕ) → f y ≡ true → g y ≡ true) → (x : core.StmtTree) → targets_only f x ≡ true → targets_only g x ≡ true
targets_more f g more (AssignStmt p x e) h = more x h
targets_more f g more (NewStmt p x t es) h = kept_more f g more x h
targets_more f g more (NewArrayStmt p x t e) h = kept_more f g more x h
targets_more f g more (CallStmt p x callee es) h = kept_more f g more x h
targets_more f g more x h = refl

pub from_more : (low a high : ℕ) → a ≤ high → (y : ℕ) → is_from low a y ≡ true → is_from low high y ≡ true
from_more low a high l y h = let both = and_parts (nat_le low y) (nat_lt y a) h in let less = ltb-true y a both.1 in and_from _ _ both.0 (lt-ltb y high (omega arith))

one_from : (low at high : ℕ) → low ≤ at → at < high → (y : ℕ) → (at == y) ≡ true → is_from low high y ≡ true
one_from low at high l m y h = let e = eqb-true at y h in and_from _ _ (le-leb low y (omega arith)) (lt-ltb y high (omega arith))

module _ (t low first : ℕ) (order : low ≤ first) (high : ℕ) where
  abbrev test : core.StmtTree → Bool
  test x = targets_only (is_from low high) x

  step_passes : (x : core.StmtTree) → is_step x ≡ true → first ≤ high → targets_only (is_from low first) x ≡ true → each_inside test x ≡ true
  step_passes x is l h = step_inside test x is (targets_more _ _ (from_more low first high l) x h)

  new_passes : (n : ℕ) (x : core.StmtTree) → is_step x ≡ true → first + n < high → targets_only (λ y. first + n == y) x ≡ true → each_inside test x ≡ true
  new_passes n x is l h = step_inside test x is (targets_more _ _ (one_from low (first + n) high (omega arith) l) x h)

  packs_pass : (os : List Opened) → each test (code_of (map pack_of os)) ≡ true
  packs_pass [] = refl
  packs_pass (o ∷ os) = packs_pass os

  this_passes : (xs : Code) → is_this_pack t xs ≡ true → each test (code_of xs) ≡ true
  this_passes [] h = refl
  this_passes (PackStmt p x u ∷ []) h = refl
  this_passes (x ∷ xs) h = absurd (false≢true h)

  leaves_pass : (os : List Opened) (xs : Code) (p : Place) (e : Option ExprTree) → is_this_pack t xs ≡ true → each test (code_of ((map pack_of os ++ xs) ++ ReturnStmt p e ∷ [])) ≡ true
  leaves_pass os xs p e h = each-append test (map pack_of os ++ xs) (ReturnStmt p e ∷ []) (each-append test (map pack_of os) xs (packs_pass os) (this_passes xs h)) refl

  closing_passes : (o : Opened) (ends : Bool) → each test (code_of (closing o ends)) ≡ true
  closing_passes o false = refl
  closing_passes o true = refl

  -- each statement assigns none but the locals that the body declares, its copies and the temporaries
  pub assigns_own : (os : List Opened) (n : ℕ) (xs : Code) (m : ℕ) → first + m ≤ high → Shape t low first os n xs m → each test (code_of xs) ≡ true
  assigns_own os n xs m l Nothing = refl
  assigns_own os n xs k l (Join {m = m} {xs = ys} {ys = zs} a b) =
      let g = grows t low first os m zs k b in
      each-append test ys zs (assigns_own os n ys m (omega arith) a) (assigns_own os m zs k l b)
  assigns_own os n xs m l (Step x is h) = and_from _ _ (step_passes x is (omega arith) h) refl
  assigns_own os n xs m l (Temporary x is h e) = and_from _ _ (new_passes n x is (omega arith) h) refl
  assigns_own os n xs m l (Lazily {xs = ys} p e x y is also h i a) =
      let g = grows t low first os (suc n) ys m a in
      let second = and_from _ _ (new_passes n y also (omega arith) i) refl in
      and_from _ _ (new_passes n x is (omega arith) h) (and_from _ _ (and_from _ _ (each-append test ys (y ∷ []) (assigns_own os (suc n) ys m l a) second) refl) refl)
  assigns_own os n xs k l (Branch {m = m} {xs = ys} {ys = zs} p e a b) =
      let g = grows t low first os m zs k b in
      and_from _ _ (and_from _ _ (assigns_own os n ys m (omega arith) a) (assigns_own os m zs k l b)) refl
  assigns_own os n xs k l (Loop {m = m} {xs = ys} {ys = zs} p is e a b) =
      let g = grows t low first os m zs k b in
      and_from _ _ (and_from _ _ (assigns_own os n ys m (omega arith) a) (assigns_own os m zs k l b)) refl
  assigns_own os n xs m l (Leave p e ys h) = leaves_pass (reverse os) ys p e h
  assigns_own os n xs m l (Expose {xs = ys} x o ends is h e a) =
      let g = grows t low first (os ++ o ∷ []) (suc n) ys m a in
      and_from _ _ (new_passes n x is (omega arith) h) (each-append test ys (closing o ends) (assigns_own (os ++ o ∷ []) (suc n) ys m l a) (closing_passes o ends))
