-- Elaborated code packs `this` only directly before a return.
use Rattle.std.proofs.Common.{◌≡◌, ℕ, suc, ◌+◌, ◌<◌, List, [], ◌∷◌, ◌++◌, map, Bool, true, false, Option, refl, sym, ap, subst, arith, append_assoc, ⊎_elim}
use Rattle.std.specs.Prelude.{not, reverse, ◌==◌, ◌&&◌, ◌||◌, nat_le, nat_lt, is_none}
use Rattle.std.proofs.lemmas.Bool.{and_parts, and_from, cases_Bool, or_left, or_right, or_cases, ne_eqb, leb-true, false≢true}
use Rattle.ss_core.specs.declared.names.Place.{Place}
use Rattle.ss_core.specs.Tree as core
use Rattle.ss_core.specs.Tree.{BodyTree, IfStmt, LoopStmt, UnpackStmt, PackStmt, ReturnStmt}
use Rattle.ss_core.specs.View.{code_of}
use Rattle.ss_ast.specs.Programs.{ProgramTree}
use Rattle.ss_expand_rules.specs.Lifting.{Opened}
use Rattle.ss_expand_rules.specs.Statements.{pack_of}
use Rattle.ss_store_rules.specs.Locals.{argument_count}
use Rattle.ss_store_rules.specs.Construction.{begins_with_return, packs_at_returns, packs_at_returns_inside, is_pack_before}
use Rattle.ss_expand_formed.specs.Laws.{core_of}
use Rattle.ss_expand_formed.proofs.Heads.{have_flags}
use Rattle.ss_expand_formed.specs.Locals.{PackAtReturns}
use Rattle.ss_expand_formed.proofs.Choosing.{all_three, three_parts, all_reverse}
use Rattle.ss_expand_formed.proofs.Shape.{Code, is_step, is_this_pack, is_from, closing, Shape, Nothing, Join, Step, Temporary, Lazily, Branch, Loop, Leave, Expose, grows}
use Rattle.ss_expand_formed.proofs.Opens.{are_bounded, later, bounded_within}
use Rattle.ss_expand_formed.proofs.LocalsBodies.{shape_of}

module _ (t : ℕ) where
  begins-append : (xs ys : Code) → begins_with_return (code_of xs) ≡ true → begins_with_return (code_of (xs ++ ys)) ≡ true
  begins-append [] ys h = absurd (false≢true h)
  begins-append (x ∷ xs) ys h = h

  before-append : (x : core.StmtTree) (xs ys : Code) → is_pack_before t (code_of xs) x ≡ true → is_pack_before t (code_of (xs ++ ys)) x ≡ true
  before-append (PackStmt p x u) xs ys h =
      ⊎_elim
      (λ other. or_left (not (x == 0)) _ other)
      (λ this. let both = and_parts (u == t) (begins_with_return (code_of xs)) this in or_right (not (x == 0)) _ (and_from _ _ both.0 (begins-append xs ys both.1)))
      (or_cases (not (x == 0)) (u == t && begins_with_return (code_of xs)) h)
  before-append x xs ys h = refl

  packs-append : (xs ys : Code) → packs_at_returns t (code_of xs) ≡ true → packs_at_returns t (code_of ys) ≡ true → packs_at_returns t (code_of (xs ++ ys)) ≡ true
  packs-append [] ys h g = g
  packs-append (x ∷ xs) ys h g =
      let parts = three_parts (is_pack_before t (code_of xs) x) (packs_at_returns_inside t x) (packs_at_returns t (code_of xs)) h in
      all_three _ _ _ (before-append x xs ys parts.0) parts.1 (packs-append xs ys parts.2 g)

  step_passes : (x : core.StmtTree) → is_step x ≡ true → packs_at_returns t (code_of (x ∷ [])) ≡ true
  step_passes (IfStmt p e a b) h = absurd (false≢true h)
  step_passes (LoopStmt p invariants prelude e body exposes) h = absurd (false≢true h)
  step_passes (UnpackStmt p x u) h = absurd (false≢true h)
  step_passes (PackStmt p x u) h = absurd (false≢true h)
  step_passes (ReturnStmt p e) h = absurd (false≢true h)
  step_passes x h = refl

  -- a pack of another local than `this`
  other_passes : (o : Opened) → 0 < o.local → packs_at_returns t (code_of (pack_of o ∷ [])) ≡ true
  other_passes o l = let other = ne_eqb o.local 0 (λ e. omega arith) in rw other refl

  this_passes : (xs : Code) (p : Place) (e : Option core.ExprTree) → is_this_pack t xs ≡ true → packs_at_returns t (code_of (xs ++ ReturnStmt p e ∷ [])) ≡ true
  this_passes [] p e h = refl
  this_passes (PackStmt q x u ∷ []) p e h = let both = and_parts (x == 0) (u == t) h in rw (both.0, both.1) refl
  this_passes (x ∷ xs) p e h = absurd (false≢true h)

  module _ (low first : ℕ) (order : 0 < first) where
    local_positive : (n : ℕ) (o : Opened) → is_from first (first + n) o.local ≡ true → 0 < o.local
    local_positive n o h = let both = and_parts (nat_le first o.local) (nat_lt o.local (first + n)) h in let l = leb-true first o.local both.0 in omega arith

    packs_pass : (n : ℕ) (os : List Opened) → are_bounded t low first os n ≡ true → packs_at_returns t (code_of (map pack_of os)) ≡ true
    packs_pass n [] h = refl
    packs_pass n (o ∷ os) h =
        let both = and_parts (is_from first (first + n) o.local) (are_bounded t low first os n) h in
        packs-append (pack_of o ∷ []) (map pack_of os) (other_passes o (local_positive n o both.0)) (packs_pass n os both.1)

    closing_passes : (o : Opened) (ends : Bool) → 0 < o.local → packs_at_returns t (code_of (closing o ends)) ≡ true
    closing_passes o false l = refl
    closing_passes o true l = other_passes o l

    -- what holds of each holds the other way round
    reverse_bounded : (os : List Opened) (n : ℕ) → are_bounded t low first os n ≡ true → are_bounded t low first (reverse os) n ≡ true
    reverse_bounded os n b = all_reverse (λ (o : Opened). is_from first (first + n) o.local) os b

    one_inside : (p : Place) (e : core.ExprTree) (xs ys : Code) → packs_at_returns t (code_of xs) ≡ true → packs_at_returns t (code_of ys) ≡ true → packs_at_returns t (code_of (IfStmt p e (code_of xs) (code_of ys) ∷ [])) ≡ true
    one_inside p e xs ys h g = rw (h, g) refl

    pub returns_after_packs : (os : List Opened) (n : ℕ) (xs : Code) (m : ℕ) → are_bounded t low first os n ≡ true → Shape t low first os n xs m → packs_at_returns t (code_of xs) ≡ true
    returns_after_packs os n xs m b Nothing = refl
    returns_after_packs os n xs i b (Join {m = m} {xs = ys} {ys = zs} a c) =
        packs-append ys zs (returns_after_packs os n ys m b a) (returns_after_packs os m zs i (later t low first n m (grows t low first os n ys m a) os b) c)
    returns_after_packs os n xs m b (Step x is h) = step_passes x is
    returns_after_packs os n xs m b (Temporary x is h e) = step_passes x is
    returns_after_packs os n xs m b (Lazily {xs = ys} p e x y is also h i a) =
        let inside = packs-append ys (y ∷ []) (returns_after_packs os (suc n) ys m (later t low first n (suc n) (omega arith) os b) a) (step_passes y also) in
        packs-append (x ∷ []) (IfStmt p e (code_of (ys ++ y ∷ [])) core.NoCode ∷ []) (step_passes x is) (one_inside p e (ys ++ y ∷ []) [] inside refl)
    returns_after_packs os n xs i b (Branch {m = m} {xs = ys} {ys = zs} p e a c) =
        one_inside p e ys zs (returns_after_packs os n ys m b a) (returns_after_packs os m zs i (later t low first n m (grows t low first os n ys m a) os b) c)
    returns_after_packs os n xs i b (Loop {m = m} {xs = ys} {ys = zs} p is e a c) =
        let front = returns_after_packs os n ys m b a in
        let turn = returns_after_packs os m zs i (later t low first n m (grows t low first os n ys m a) os b) c in
        rw (front, turn) refl
    returns_after_packs os n xs m b (Leave p e ys h) =
        let last = packs-append (map pack_of (reverse os)) (ys ++ ReturnStmt p e ∷ []) (packs_pass n (reverse os) (reverse_bounded os n b)) (this_passes ys p e h) in
        subst (λ code. packs_at_returns t (code_of code) ≡ true) (sym (append_assoc (map pack_of (reverse os)) ys (ReturnStmt p e ∷ []))) last
    returns_after_packs os n xs m b (Expose {xs = ys} x o ends is h e a) =
        let inside = returns_after_packs (os ++ o ∷ []) (suc n) ys m (bounded_within t low first os o n e b) a in
        let block = packs-append ys (closing o ends) inside (closing_passes o ends (omega arith)) in
        packs-append (x ∷ []) (UnpackStmt o.place o.local o.class ∷ (ys ++ closing o ends)) (step_passes x is) block

delayed_not_static : (ctor static none delayed : Bool) → ((not ctor || not static && none) && (not delayed || ctor)) ≡ true → delayed ≡ true → static ≡ false
delayed_not_static true true none delayed h d = absurd (false≢true h)
delayed_not_static true false none delayed h d = refl
delayed_not_static false static none true h d = absurd (false≢true h)
delayed_not_static false static none false h d = absurd (false≢true d)

has_this : (b : BodyTree) → b.flags.is_static ≡ false → 0 < argument_count b
has_this b h = rw h (omega arith)

pub pack_at_returns : (p : ProgramTree) → PackAtReturns (core_of p)
pack_at_returns p n y at =
    let s = shape_of p n y at in
    ⊎_elim
    (λ yes.
    let has = has_this y (delayed_not_static y.flags.ctor y.flags.is_static (is_none y.result) y.flags.delayed (have_flags p n y at) yes) in
    let order = s.order in
    let packs = returns_after_packs y.class (argument_count y) s.first (omega arith) [] 0 s.code s.count refl s.shape in
    or_right (not y.flags.delayed) _ (subst (λ code. packs_at_returns y.class code ≡ true) s.is_code packs))
    (λ no. or_left (not y.flags.delayed) _ (ap not no))
    (cases_Bool y.flags.delayed)
