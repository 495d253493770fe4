-- What is lifted out of an expression assigns new temporaries alone.
use Rattle.std.proofs.Common.{◌≡◌, ℕ, suc, ◌+◌, ◌<◌, ◌≤◌, List, [], ◌∷◌, ◌++◌, map, Bool, true, false, Option, Some, None, refl, sym, ◌∙◌, ap, arith, ⊎_elim}
use Rattle.std.specs.Prelude.{not, ◌==◌, ◌&&◌, reverse, nat_le, nat_lt}
use Rattle.std.proofs.lemmas.Bool.{and_parts, and_from, cases_Bool, eqb-true, leb-true, ltb-true, le-leb, false≢true}
use Rattle.ss_core.specs.Tree.{StmtTree, AssignStmt, NewStmt, NewArrayStmt, CallStmt, IfStmt, LoopStmt, PackStmt, ReturnStmt, CodeTree, NoCode, Then}
use Rattle.ss_core.specs.View.{code_of}
use Rattle.ss_expand_rules.specs.Lifting.{Opened}
use Rattle.ss_expand_rules.specs.Statements.{pack_of}
use Rattle.ss_store_rules.specs.Locals.{each, each_inside, is_kept_in, is_kept_among, targets_only}
use Rattle.ss_expand_formed.proofs.Shape.{Code, is_step, is_this_pack, is_from, closing, Shape, Nothing, Join, Step, Temporary, Lazily, Branch, Loop, Leave, Expose, grows, each-append, step_inside, targets_more}
use Rattle.ss_expand_formed.proofs.Kept.{spares}

-- ---- statements that pass

mutual
  inside_more : (f g : StmtTree → Bool) → ((s : StmtTree) → f s ≡ true → g s ≡ true) → (s : StmtTree) → each_inside f s ≡ true → each_inside g s ≡ true
  inside_more f g more (IfStmt p e a b) h =
      let both = and_parts (f (IfStmt p e a b) && each f a) (each f b) h in
      let front = and_parts (f (IfStmt p e a b)) (each f a) both.0 in
      and_from _ _ (and_from _ _ (more (IfStmt p e a b) front.0) (each_more f g more a front.1)) (each_more f g more b both.1)
  inside_more f g more (LoopStmt p is a e b os) h =
      let both = and_parts (f (LoopStmt p is a e b os) && each f a) (each f b) h in
      let front = and_parts (f (LoopStmt p is a e b os)) (each f a) both.0 in
      and_from _ _ (and_from _ _ (more (LoopStmt p is a e b os) front.0) (each_more f g more a front.1)) (each_more f g more b both.1)
  inside_more f g more s h = more s h

  pub each_more : (f g : StmtTree → Bool) → ((s : StmtTree) → f s ≡ true → g s ≡ true) → (code : CodeTree) → each f code ≡ true → each g code ≡ true
  each_more f g more NoCode h = refl
  each_more f g more (Then s code) h = let both = and_parts (each_inside f s) (each f code) h in and_from _ _ (inside_more f g more s both.0) (each_more f g more code both.1)

-- ---- a local that isn't among those that are assigned

apart : (f : ℕ → Bool) (x y : ℕ) → f x ≡ true → f y ≡ false → not (x == y) ≡ true
apart f x y h g = ⊎_elim (λ same. absurd (false≢true (sym g ∙ ap f (sym (eqb-true x y same)) ∙ h))) (λ other. ap not other) (cases_Bool (x == y))

kept_apart : (f : ℕ → Bool) (x : Option ℕ) (y : ℕ) → is_kept_among f x ≡ true → f y ≡ false → not (is_kept_in x y) ≡ true
kept_apart f None y h g = refl
kept_apart f (Some x) y h g = apart f x y h g

pub spared : (f : ℕ → Bool) (y : ℕ) → f y ≡ false → (s : StmtTree) → targets_only f s ≡ true → spares y s ≡ true
spared f y g (AssignStmt p x e) h = apart f x y h g
spared f y g (NewStmt p x t es) h = kept_apart f x y h g
spared f y g (NewArrayStmt p x t e) h = kept_apart f x y h g
spared f y g (CallStmt p x callee es) h = kept_apart f x y h g
spared f y g s h = refl

pub too_low : (low y : ℕ) → y < low → nat_le low y ≡ false
too_low low y h = ⊎_elim (λ i. let l = leb-true low y i in absurd (omega arith)) (λ i. i) (cases_Bool (nat_le low y))

-- ---- new temporaries

module _ (t first low : ℕ) where
  abbrev test : StmtTree → Bool
  test x = targets_only (nat_le low) x

  none_own : (y : ℕ) → is_from first first y ≡ true → nat_le low y ≡ true
  none_own y h =
      let both = and_parts (nat_le first y) (nat_lt y first) h in
      let l = leb-true first y both.0 in
      let m = ltb-true y first both.1 in
      absurd (omega arith)

  new_one : (n : ℕ) → low ≤ first + n → (y : ℕ) → (first + n == y) ≡ true → nat_le low y ≡ true
  new_one n l y h = let e = eqb-true (first + n) y h in le-leb low y (omega arith)

  new_step : (n : ℕ) → low ≤ first + n → (x : StmtTree) → is_step x ≡ true → targets_only (λ y. first + n == y) x ≡ true → each_inside test x ≡ true
  new_step n l x is h = step_inside test x is (targets_more _ _ (new_one n l) x h)

  packs_pass : (os : List Opened) → each test (code_of (map pack_of os)) ≡ true
  packs_pass [] = refl
  packs_pass (o ∷ os) = packs_pass os

  this_passes : (xs : Code) → is_this_pack t xs ≡ true → each test (code_of xs) ≡ true
  this_passes [] h = refl
  this_passes (PackStmt p x u ∷ []) h = refl
  this_passes (x ∷ xs) h = absurd (false≢true h)

  closing_passes : (o : Opened) (ends : Bool) → each test (code_of (closing o ends)) ≡ true
  closing_passes o false = refl
  closing_passes o true = refl

  -- code that assigns no local of the body's own assigns temporaries from the next one on
  pub assigns_new : (os : List Opened) (n : ℕ) (xs : Code) (m : ℕ) → low ≤ first + n → Shape t first first os n xs m → each (targets_only (nat_le low)) (code_of xs) ≡ true
  assigns_new os n xs m l Nothing = refl
  assigns_new os n xs k l (Join {m = m} {xs = ys} {ys = zs} a b) =
      let g = grows t first first os n ys m a in
      each-append test ys zs (assigns_new os n ys m l a) (assigns_new os m zs k (omega arith) b)
  assigns_new os n xs m l (Step x is h) = and_from _ _ (step_inside test x is (targets_more _ _ none_own x h)) refl
  assigns_new os n xs m l (Temporary x is h e) = and_from _ _ (new_step n l x is h) refl
  assigns_new os n xs m l (Lazily {xs = ys} p e x y is also h i a) =
      let second = and_from _ _ (new_step n l y also i) refl in
      and_from _ _ (new_step n l x is h) (and_from _ _ (and_from _ _ (each-append test ys (y ∷ []) (assigns_new os (suc n) ys m (omega arith) a) second) refl) refl)
  assigns_new os n xs k l (Branch {m = m} {xs = ys} {ys = zs} p e a b) =
      let g = grows t first first os n ys m a in
      and_from _ _ (and_from _ _ (assigns_new os n ys m l a) (assigns_new os m zs k (omega arith) b)) refl
  assigns_new os n xs k l (Loop {m = m} {xs = ys} {ys = zs} p is e a b) =
      let g = grows t first first os n ys m a in
      and_from _ _ (and_from _ _ (assigns_new os n ys m l a) (assigns_new os m zs k (omega arith) b)) refl
  assigns_new os n xs m l (Leave p e ys h) = each-append test (map pack_of (reverse os) ++ ys) (ReturnStmt p e ∷ []) (each-append test (map pack_of (reverse os)) ys (packs_pass (reverse os)) (this_passes ys h)) refl
  assigns_new os n xs m l (Expose {xs = ys} x o ends is h e a) =
      and_from _ _ (new_step n l x is h) (each-append test ys (closing o ends) (assigns_new (os ++ o ∷ []) (suc n) ys m (omega arith) a) (closing_passes o ends))
