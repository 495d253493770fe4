-- The exposes around elaborated code are open wherever a loop in it is reached, and after it.
use Rattle.std.proofs.Common.{◌≡◌, ℕ, suc, ◌+◌, ◌≤◌, List, [], ◌∷◌, ◌++◌, map, Bool, true, false, Option, Some, None, refl, sym, ◌∙◌, ap, arith, ⊎_elim}
use Rattle.std.specs.Prelude.{not, reverse, ◌==◌, ◌&&◌, ◌||◌, nat_le, nat_lt, if◌then◌else◌, option_map}
use Rattle.std.specs.List.{list_all}
use Rattle.std.proofs.lemmas.Bool.{and_parts, and_from, cases_Bool, or_left, or_right, eq-eqb, eqb-true, ne_eqb, leb-true, ltb-true, le-leb, le-ltb, lt-ltb, false≢true}
use Rattle.std.proofs.lemmas.List.Folds.{list_all-append}
use Rattle.ss_core.specs.declared.names.Place.{Place}
use Rattle.ss_core.specs.Tree as core
use Rattle.ss_core.specs.Tree.{ExprTree, ExposedTree, AssignStmt, NewStmt, NewArrayStmt, CallStmt, IfStmt, LoopStmt, UnpackStmt, PackStmt, ReturnStmt}
use Rattle.ss_core.specs.View.{code_of}
use Rattle.ss_expand_rules.specs.Lifting.{Opened}
use Rattle.ss_expand_rules.specs.Statements.{exposed, pack_of}
use Rattle.ss_store_rules.specs.Locals.{is_kept_in, is_kept_among, is_target, targets_only}
use Rattle.ss_store_rules.specs.Paths.{is_literal_true, met, left, behind, at_end, where_reached, in_body, holds_at, holds_along}
use Rattle.ss_store_rules.specs.Assigned.{Open, is_exposed_in, open_flow, open_check}
use Rattle.ss_expand_formed.proofs.Choosing.{all_more, all_both, all_five}
use Rattle.ss_expand_formed.proofs.Along.{at_none, holds_none, at_end-append, holds-append}
use Rattle.ss_expand_formed.proofs.Shape.{Code, is_step, is_this_pack, is_from, closing, Shape, Nothing, Join, Step, Temporary, Lazily, Branch, Loop, Leave, Expose, grows}

-- ---- what is open

abbrev pub all_open : List Opened → Open → Bool
all_open os k = list_all (λ (o : Opened). k o.local o.class) os

abbrev IsOpen : List Opened → Option Open → Type 0
IsOpen os k = where_reached (all_open os) k ≡ true

-- what a loop names is open, and so are the exposes after the code
abbrev pub Keeps : List Opened → Code → Type 0
Keeps os xs = (k : Open) → all_open os k ≡ true → (holds_along open_flow open_check (code_of xs) (Some k) ≡ true) × IsOpen os (at_end open_flow (code_of xs) (Some k))

keeps_from : (os : List Opened) (xs : Code) → Keeps os xs → (k : Option Open) → IsOpen os k → (holds_along open_flow open_check (code_of xs) k ≡ true) × IsOpen os (at_end open_flow (code_of xs) k)
keeps_from os xs keeps None h = (holds_none open_flow open_check (code_of xs), ap (where_reached (all_open os)) (at_none open_flow (code_of xs)))
keeps_from os xs keeps (Some k) h = keeps k h

join : (os : List Opened) (xs ys : Code) → Keeps os xs → Keeps os ys → Keeps os (xs ++ ys)
join os xs ys a b k h =
    let first = a k h in
    let second = keeps_from os ys b (at_end open_flow (code_of xs) (Some k)) first.1 in
    (holds-append open_flow open_check xs ys (Some k) first.0 second.0, ap (where_reached (all_open os)) (at_end-append open_flow xs ys (Some k)) ∙ second.1)

-- ---- steps

step_after : (x : core.StmtTree) (k : Open) → is_step x ≡ true → behind open_flow x k ≡ Some (λ y u. not (is_target x y) && k y u)
step_after (IfStmt p e a b) k h = absurd (false≢true h)
step_after (LoopStmt p invariants prelude e body exposes) k h = absurd (false≢true h)
step_after (UnpackStmt p x t) k h = absurd (false≢true h)
step_after (PackStmt p x t) k h = absurd (false≢true h)
step_after (ReturnStmt p e) k h = absurd (false≢true h)
step_after x k h = refl

step_holds : (x : core.StmtTree) (k : Open) → is_step x ≡ true → holds_at open_flow open_check x k ≡ true
step_holds (IfStmt p e a b) k h = absurd (false≢true h)
step_holds (LoopStmt p invariants prelude e body exposes) k h = absurd (false≢true h)
step_holds (UnpackStmt p x t) k h = absurd (false≢true h)
step_holds (PackStmt p x t) k h = absurd (false≢true h)
step_holds (ReturnStmt p e) k h = absurd (false≢true h)
step_holds x k h = refl

-- one that passes isn't one that doesn't
apart : (f : ℕ → Bool) (x y : ℕ) → f x ≡ true → f y ≡ false → not (x == y) ≡ true
apart f x y h g = ⊎_elim (λ same. absurd (false≢true (sym g ∙ ap f (sym (eqb-true x y same)) ∙ h))) (λ other. ap not other) (cases_Bool (x == y))

kept_apart : (f : ℕ → Bool) (x : Option ℕ) (y : ℕ) → is_kept_among f x ≡ true → f y ≡ false → not (is_kept_in x y) ≡ true
kept_apart f None y h g = refl
kept_apart f (Some x) y h g = apart f x y h g

-- a local that doesn't pass isn't assigned where those that are assigned do
not_assigned : (f : ℕ → Bool) (x : core.StmtTree) (y : ℕ) → targets_only f x ≡ true → f y ≡ false → not (is_target x y) ≡ true
not_assigned f (AssignStmt p x e) y h g = apart f x y h g
not_assigned f (NewStmt p x t es) y h g = kept_apart f x y h g
not_assigned f (NewArrayStmt p x t e) y h g = kept_apart f x y h g
not_assigned f (CallStmt p x callee es) y h g = kept_apart f x y h g
not_assigned f x y h g = refl

step_keeps : (f g : ℕ → Bool) → ((y : ℕ) → g y ≡ true → f y ≡ false) → (os : List Opened) → list_all (λ (o : Opened). g o.local) os ≡ true → (x : core.StmtTree) → is_step x ≡ true → targets_only f x ≡ true → Keeps os (x ∷ [])
step_keeps f g other os around x is h k open_there =
    let free = all_more (λ (o : Opened). g o.local) (λ (o : Opened). not (is_target x o.local)) (λ o i. not_assigned f x o.local h (other o.local i)) os around in (
      and_from _ _ (step_holds x k is) (holds_any (behind open_flow x k)),
      ap (where_reached (all_open os)) (step_after x k is) ∙ all_both (λ (o : Opened). not (is_target x o.local)) (λ (o : Opened). k o.local o.class) os free open_there,
    )
  where
    holds_any : (k : Option Open) → holds_along open_flow open_check core.NoCode k ≡ true
    holds_any k = refl

-- ---- branches and loops

met_open : (os : List Opened) (k l : Option Open) → IsOpen os k → IsOpen os l → IsOpen os (met open_flow k l)
met_open os None l h g = g
met_open os (Some k) None h g = h
met_open os (Some k) (Some l) h g = all_both (λ (o : Opened). k o.local o.class) (λ (o : Opened). l o.local o.class) os h g

branch : (os : List Opened) (p : Place) (e : ExprTree) (xs ys : Code) → Keeps os xs → Keeps os ys → Keeps os (IfStmt p e (code_of xs) (code_of ys) ∷ [])
branch os p e xs ys a b k h =
    let one = a k h in
    let other = b k h in
    (and_from _ _ (and_from _ _ one.0 other.0) refl, met_open os (at_end open_flow (code_of xs) (Some k)) (at_end open_flow (code_of ys) (Some k)) one.1 other.1)

all_exposed : (os : List Opened) (k : Open) → list_all (λ (x : ExposedTree). k x.local x.class) (map exposed os) ≡ all_open os k
all_exposed [] k = refl
all_exposed (o ∷ os) k = ap (λ b. k o.local o.class && b) (all_exposed os k)

-- those that a loop names are open at its head
named : (os : List Opened) → all_open os (is_exposed_in (map exposed os)) ≡ true
named [] = refl
named (o ∷ os) =
    and_from _ _ (or_left _ _ (and_from _ _ (eq-eqb o.local o.local refl) (eq-eqb o.class o.class refl)))
    (all_more (λ (q : Opened). is_exposed_in (map exposed os) q.local q.class) (λ (q : Opened). is_exposed_in (exposed o ∷ map exposed os) q.local q.class) (λ q h. or_right _ _ h) os (named os))

in_body_open : (os : List Opened) (e : ExprTree) (k : Option Open) → IsOpen os k → IsOpen os (in_body open_flow e k)
in_body_open os e None h = refl
in_body_open os e (Some k) h = h

left_open : (os : List Opened) (e : ExprTree) (k : Option Open) → IsOpen os k → IsOpen os (left open_flow e k)
left_open os e k h = by (is_literal_true e) k h
  where
    by : (b : Bool) (k : Option Open) → IsOpen os k → IsOpen os (if b then None else option_map (λ x. x) k)
    by true k h = refl
    by false None h = refl
    by false (Some k) h = h

any_reached : (k : Option Open) → where_reached (λ (x : Open). true) k ≡ true
any_reached None = refl
any_reached (Some k) = refl

names_reached : (os : List Opened) (k : Option Open) → IsOpen os k → where_reached (λ (x : Open). list_all (λ (y : ExposedTree). x y.local y.class) (map exposed os)) k ≡ true
names_reached os None h = refl
names_reached os (Some k) h = all_exposed os k ∙ h

loop : (os : List Opened) (p : Place) (is : List ExprTree) (e : ExprTree) (xs ys : Code) → Keeps os xs → Keeps os ys → Keeps os (LoopStmt p is (code_of xs) e (code_of ys) (map exposed os) ∷ [])
loop os p is e xs ys a b k h =
    let head = is_exposed_in (map exposed os) in
    let front = a head (named os) in
    let tested = at_end open_flow (code_of xs) (Some head) in
    let inside = in_body open_flow e tested in
    let turn = keeps_from os ys b inside (in_body_open os e tested front.1) in
    (and_from _ _ (all_five _ _ _ _ _ (all_exposed os k ∙ h) front.0 (any_reached tested) turn.0 (names_reached os (at_end open_flow (code_of ys) inside) turn.1)) refl, left_open os e tested front.1)

-- ---- returns

abbrev is_pack : core.StmtTree → Bool
is_pack (PackStmt p x t) = true
is_pack x = false

all_packs : (t : ℕ) (os : List Opened) (xs : Code) → is_this_pack t xs ≡ true → list_all is_pack (map pack_of os ++ xs) ≡ true
all_packs t [] [] h = refl
all_packs t [] (PackStmt p x u ∷ []) h = refl
all_packs t [] (x ∷ xs) h = absurd (false≢true h)
all_packs t (o ∷ os) xs h = all_packs t os xs h

leaves : (os : List Opened) (p : Place) (e : Option ExprTree) (xs : Code) → list_all is_pack xs ≡ true → (k : Open) →
    (holds_along open_flow open_check (code_of (xs ++ ReturnStmt p e ∷ [])) (Some k) ≡ true) × (at_end open_flow (code_of (xs ++ ReturnStmt p e ∷ [])) (Some k) ≡ None)
leaves os p e [] h k = (refl, refl)
leaves os p e (PackStmt q x t ∷ xs) h k = leaves os p e xs h (λ y u. not (x == y && t == u) && k y u)
leaves os p e (x ∷ xs) h k = absurd (false≢true (and_parts false (list_all is_pack xs) h).0)

-- ---- exposes

module _ (t low first : ℕ) where
  -- the exposes have these temporaries
  abbrev pub are_bounded : List Opened → ℕ → Bool
  are_bounded os n = list_all (λ (o : Opened). is_from first (first + n) o.local) os

  pub later : (n m : ℕ) → n ≤ m → (os : List Opened) → are_bounded os n ≡ true → are_bounded os m ≡ true
  later n m l os h =
      all_more (λ (o : Opened). is_from first (first + n) o.local) (λ (o : Opened). is_from first (first + m) o.local)
      (λ o i. let both = and_parts (nat_le first o.local) (nat_lt o.local (first + n)) i in let less = ltb-true o.local (first + n) both.1 in and_from _ _ both.0 (lt-ltb o.local (first + m) (omega arith))) os h

  own_apart : (n y : ℕ) → is_from first (first + n) y ≡ true → is_from low first y ≡ false
  own_apart n y h =
      let both = and_parts (nat_le first y) (nat_lt y (first + n)) h in
      let l = leb-true first y both.0 in
      rw (le-ltb y first l) (and_none (nat_le low y))
    where
      and_none : (b : Bool) → (b && false) ≡ false
      and_none true = refl
      and_none false = refl

  new_apart : (n y : ℕ) → is_from first (first + n) y ≡ true → (first + n == y) ≡ false
  new_apart n y h =
      let both = and_parts (nat_le first y) (nat_lt y (first + n)) h in
      let l = ltb-true y (first + n) both.1 in
      ne_eqb (first + n) y (λ e. omega arith)

  own_keeps : (os : List Opened) (n : ℕ) → are_bounded os n ≡ true → (x : core.StmtTree) → is_step x ≡ true → targets_only (is_from low first) x ≡ true → Keeps os (x ∷ [])
  own_keeps os n b x is h = step_keeps (is_from low first) (is_from first (first + n)) (own_apart n) os b x is h

  new_keeps : (os : List Opened) (n : ℕ) → are_bounded os n ≡ true → (x : core.StmtTree) → is_step x ≡ true → targets_only (λ y. first + n == y) x ≡ true → Keeps os (x ∷ [])
  new_keeps os n b x is h = step_keeps (λ y. first + n == y) (is_from first (first + n)) (new_apart n) os b x is h

  pub bounded_within : (os : List Opened) (o : Opened) (n : ℕ) → o.local ≡ first + n → are_bounded os n ≡ true → are_bounded (os ++ o ∷ []) (suc n) ≡ true
  bounded_within os o n e b =
      let last = and_from _ _ (le-leb first o.local (omega arith)) (lt-ltb o.local (first + suc n) (omega arith)) in
      list_all-append (λ (q : Opened). is_from first (first + suc n) q.local) os (o ∷ []) ∙ rw (later n (suc n) (omega arith) os b, last) refl

  closes : (os : List Opened) (o : Opened) (n : ℕ) (ends : Bool) → o.local ≡ first + n → are_bounded os n ≡ true → (k : Option Open) → IsOpen (os ++ o ∷ []) k →
      (holds_along open_flow open_check (code_of (closing o ends)) k ≡ true) × IsOpen os (at_end open_flow (code_of (closing o ends)) k)
  closes os o n false e b None h = (refl, refl)
  closes os o n true e b None h = (refl, refl)
  closes os o n false e b (Some k) h = (refl, (and_parts (all_open os k) (all_open (o ∷ []) k) (sym (list_all-append (λ (q : Opened). k q.local q.class) os (o ∷ [])) ∙ h)).0)
  closes os o n true e b (Some k) h =
      let there = (and_parts (all_open os k) (all_open (o ∷ []) k) (sym (list_all-append (λ (q : Opened). k q.local q.class) os (o ∷ [])) ∙ h)).0 in
      let other = all_more (λ (q : Opened). is_from first (first + n) q.local) (λ (q : Opened). not (o.local == q.local && o.class == q.class))
      (λ q i. let no = new_apart n q.local i in let differ : (o.local == q.local) ≡ false = ap (λ x. x == q.local) e ∙ no in rw differ refl) os b in
      (refl, all_both (λ (q : Opened). not (o.local == q.local && o.class == q.class)) (λ (q : Opened). k q.local q.class) os other there)

  unpacked : (os : List Opened) (o : Opened) (k : Open) → all_open os k ≡ true → all_open (os ++ o ∷ []) (λ y u. o.local == y && o.class == u || k y u) ≡ true
  unpacked os o k h =
      let old = all_more (λ (q : Opened). k q.local q.class) (λ (q : Opened). o.local == q.local && o.class == q.class || k q.local q.class) (λ q i. or_right _ _ i) os h in
      let new = or_left _ (k o.local o.class) (and_from _ _ (eq-eqb o.local o.local refl) (eq-eqb o.class o.class refl)) in
      list_all-append (λ (q : Opened). o.local == q.local && o.class == q.class || k q.local q.class) os (o ∷ []) ∙ rw (old, new) refl

  expose : (os : List Opened) (o : Opened) (n : ℕ) (ends : Bool) (xs : Code) → o.local ≡ first + n → are_bounded os n ≡ true → Keeps (os ++ o ∷ []) xs → Keeps os (UnpackStmt o.place o.local o.class ∷ (xs ++ closing o ends))
  expose os o n ends xs e b a k h =
      let opened : Open = λ y u. o.local == y && o.class == u || k y u in
      let inside = a opened (unpacked os o k h) in
      let last = closes os o n ends e b (at_end open_flow (code_of xs) (Some opened)) inside.1 in
      (and_from _ _ refl (holds-append open_flow open_check xs (closing o ends) (Some opened) inside.0 last.0), ap (where_reached (all_open os)) (at_end-append open_flow xs (closing o ends) (Some opened)) ∙ last.1)

  pub keeps_open : (os : List Opened) (n : ℕ) (xs : Code) (m : ℕ) → are_bounded os n ≡ true → Shape t low first os n xs m → Keeps os xs
  keeps_open os n xs m b Nothing = λ k h. (refl, h)
  keeps_open os n xs i b (Join {m = m} {xs = ys} {ys = zs} a c) = join os ys zs (keeps_open os n ys m b a) (keeps_open os m zs i (later n m (grows t low first os n ys m a) os b) c)
  keeps_open os n xs m b (Step x is h) = own_keeps os n b x is h
  keeps_open os n xs m b (Temporary x is h e) = new_keeps os n b x is h
  keeps_open os n xs m b (Lazily {xs = ys} p e x y is also h i a) =
      let inside = join os ys (y ∷ []) (keeps_open os (suc n) ys m (later n (suc n) (omega arith) os b) a) (new_keeps os n b y also i) in
      join os (x ∷ []) (IfStmt p e (code_of (ys ++ y ∷ [])) core.NoCode ∷ []) (new_keeps os n b x is h) (branch os p e (ys ++ y ∷ []) [] inside (λ k g. (refl, g)))
  keeps_open os n xs i b (Branch {m = m} {xs = ys} {ys = zs} p e a c) = branch os p e ys zs (keeps_open os n ys m b a) (keeps_open os m zs i (later n m (grows t low first os n ys m a) os b) c)
  keeps_open os n xs i b (Loop {m = m} {xs = ys} {ys = zs} p is e a c) = loop os p is e ys zs (keeps_open os n ys m b a) (keeps_open os m zs i (later n m (grows t low first os n ys m a) os b) c)
  keeps_open os n xs m b (Leave p e ys h) = λ k g. let r = leaves os p e (map pack_of (reverse os) ++ ys) (all_packs t (reverse os) ys h) k in (r.0, ap (where_reached (all_open os)) r.1)
  keeps_open os n xs m b (Expose {xs = ys} x o ends is h e a) =
      join os (x ∷ []) (UnpackStmt o.place o.local o.class ∷ (ys ++ closing o ends)) (new_keeps os n b x is h)
      (expose os o n ends ys e (later n n (omega arith) os b) (keeps_open (os ++ o ∷ []) (suc n) ys m (bounded_within os o n e b) a))
