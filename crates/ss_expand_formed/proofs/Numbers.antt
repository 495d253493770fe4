-- The numbers and the types of the locals of a written body.
use Rattle.std.proofs.Common.{◌≡◌, ℕ, zero, suc, ◌+◌, ◌-◌, ◌<◌, ◌≤◌, List, [], ◌∷◌, ◌++◌, length, map, Bool, true, false, Some, refl, sym, ◌∙◌, ap, arith, ⊎_elim, inl, inr, ◌⊎◌}
use Rattle.std.specs.Prelude.{nat_le, nat_lt, slice_get, unwrap_or, if◌then◌else◌}
use Rattle.std.proofs.lemmas.Bool.{and_parts, cases_Bool, cases_lt, leb-true, ltb-true}
use Rattle.std.proofs.lemmas.Option.{slice_get_past}
use Rattle.ss_core.specs.declared.names.Ty.{Ty}
use Rattle.ss_core.specs.Tree as core
use Rattle.ss_typed.specs.Tree.{BlockTree, ParamTree, BodyTree}
use Rattle.ss_expand_rules.specs.Numbers.{number}
use Rattle.ss_expand_rules.specs.Contracts.{first_param}
use Rattle.ss_expand_rules.specs.Bodies.{block_assigns, assigned_from, assigned_params, meant_from, first_copy, meant, numbers, param_of, copy_of, temporaries_from}
use Rattle.ss_store_rules.specs.Locals.{types_of}
use Rattle.ss_expand_formed.proofs.Shape.{is_from}
use Rattle.ss_expand_formed.proofs.Growing.{begins_append}

-- ---- lists

append_right : (xs ys : List Ty) (i : ℕ) → slice_get (xs ++ ys) (length xs + i) ≡ slice_get ys i
append_right [] ys i = let e : 0 + i ≡ i = omega arith in ap (slice_get ys) e
append_right (x ∷ xs) ys i = let e : suc (length xs) + i ≡ suc (length xs + i) = omega arith in ap (slice_get (x ∷ (xs ++ ys))) e ∙ append_right xs ys i

-- what stands in the second of three lists
pub in_middle : (xs ys zs : List Ty) (n i : ℕ) (t : Ty) → n ≡ length xs → slice_get ys i ≡ Some t → slice_get (xs ++ (ys ++ zs)) (n + i) ≡ Some t
in_middle xs ys zs n i t e h = ap (λ k. slice_get (xs ++ (ys ++ zs)) (k + i)) e ∙ append_right xs (ys ++ zs) i ∙ begins_append ys zs i t h

pub types_append : (xs ys : List core.LocalTree) → types_of (xs ++ ys) ≡ types_of xs ++ types_of ys
types_append [] ys = refl
types_append (x ∷ xs) ys = ap (λ ts. x.ty ∷ ts) (types_append xs ys)

abbrev pub param_types : List ParamTree → List Ty
param_types qs = map (λ (q : ParamTree). q.ty) qs

pub params_types : (qs : List ParamTree) → types_of (map param_of qs) ≡ param_types qs
params_types [] = refl
params_types (q ∷ qs) = ap (λ ts. q.ty ∷ ts) (params_types qs)

pub copies_types : (qs : List ParamTree) → types_of (map copy_of qs) ≡ param_types qs
copies_types [] = refl
copies_types (q ∷ qs) = ap (λ ts. q.ty ∷ ts) (copies_types qs)

pub temporaries_types : (i : ℕ) (ts : List Ty) → types_of (temporaries_from i ts) ≡ ts
temporaries_types i [] = refl
temporaries_types i (t ∷ ts) = ap (λ us. t ∷ us) (temporaries_types (i + 1) ts)

-- ---- what a parameter is meant by

-- it keeps its number, or it has that of a copy
pub record Meant (block : BlockTree) (copy x : ℕ) (qs : List ParamTree) (i : ℕ) : Type 0 where
  pub by : ℕ
  pub at : slice_get (meant_from block copy x qs) i ≡ Some by
  pub kind : (by ≡ x + i) ⊎ ((copy ≤ by) × (by < copy + length (assigned_from block x qs)))

module _ (block : BlockTree) where
  meant_is : (copy x : ℕ) (qs : List ParamTree) (i : ℕ) → i < length qs → Meant block copy x qs i
  meant_is copy x [] i l = absurd (omega arith)
  meant_is copy x (q ∷ qs) zero l =
      ⊎_elim
      (λ yes. record { by = copy; at = rw yes refl; kind = inr (omega arith, rw yes (omega arith)) })
      (λ no. record { by = x; at = rw no refl; kind = inl (omega arith) })
      (cases_Bool (block_assigns x block))
  meant_is copy x (q ∷ qs) (suc i) l =
      ⊎_elim
      (λ yes. let r = meant_is (copy + 1) (x + 1) qs i (omega arith) in record { by = r.by; at = rw yes r.at; kind = ⊎_elim (λ e. inl (omega arith)) (λ h. let low = h.0 in let high = h.1 in inr (omega arith, rw yes (omega arith))) r.kind })
      (λ no. let r = meant_is copy (x + 1) qs i (omega arith) in record { by = r.by; at = rw no r.at; kind = ⊎_elim (λ e. inl (omega arith)) (λ h. let low = h.0 in let high = h.1 in inr (low, rw no high)) r.kind })
      (cases_Bool (block_assigns x block))

  -- two parameters are meant by two numbers
  meant_apart : (copy x : ℕ) (qs : List ParamTree) (i j m : ℕ) → x + length qs ≤ copy → i < j → slice_get (meant_from block copy x qs) i ≡ Some m → slice_get (meant_from block copy x qs) j ≡ Some m → j < length qs → ⊥
  meant_apart copy x [] i j m l o h g k = omega arith
  meant_apart copy x (q ∷ qs) i zero m l o h g k = omega arith
  meant_apart copy x (q ∷ qs) zero (suc j) m l o h g k =
      ⊎_elim
      (λ yes.
      let first : Some copy ≡ Some m = rw yes at h in
      let second : slice_get (meant_from block (copy + 1) (x + 1) qs) j ≡ Some m = rw yes at g in
      let r = meant_is (copy + 1) (x + 1) qs j (omega arith) in
      let same : Some r.by ≡ Some m = sym r.at ∙ second in
      ⊎_elim (λ e. clash copy r.by m first same (λ d. omega arith)) (λ b. let low = b.0 in clash copy r.by m first same (λ d. omega arith)) r.kind)
      (λ no.
      let first : Some x ≡ Some m = rw no at h in
      let second : slice_get (meant_from block copy (x + 1) qs) j ≡ Some m = rw no at g in
      let r = meant_is copy (x + 1) qs j (omega arith) in
      let same : Some r.by ≡ Some m = sym r.at ∙ second in
      ⊎_elim (λ e. clash x r.by m first same (λ d. omega arith)) (λ b. let low = b.0 in clash x r.by m first same (λ d. omega arith)) r.kind)
      (cases_Bool (block_assigns x block))
    where
      clash : (a b m : ℕ) → Some a ≡ Some m → Some b ≡ Some m → (a ≡ b → ⊥) → ⊥
      clash a b m h g differ = differ cc
  meant_apart copy x (q ∷ qs) (suc i) (suc j) m l o h g k =
      ⊎_elim
      (λ yes. meant_apart (copy + 1) (x + 1) qs i j m (omega arith) (omega arith) (rw yes at h) (rw yes at g) (omega arith))
      (λ no. meant_apart copy (x + 1) qs i j m (omega arith) (omega arith) (rw no at h) (rw no at g) (omega arith))
      (cases_Bool (block_assigns x block))

  meant_length : (copy x : ℕ) (qs : List ParamTree) → length (meant_from block copy x qs) ≡ length qs
  meant_length copy x [] = refl
  meant_length copy x (q ∷ qs) =
      ⊎_elim
      (λ yes. rw yes (ap suc (meant_length (copy + 1) (x + 1) qs)))
      (λ no. rw no (ap suc (meant_length copy (x + 1) qs)))
      (cases_Bool (block_assigns x block))

after_this : (static : Bool) (ms : List ℕ) (i : ℕ) → slice_get ((if static then [] else 0 ∷ []) ++ ms) ((if static then 0 else 1) + i) ≡ slice_get ms i
after_this true ms i = let e : 0 + i ≡ i = omega arith in ap (slice_get ms) e
after_this false ms i = let e : 1 + i ≡ suc i = omega arith in ap (slice_get (0 ∷ ms)) e

module _ (b : BodyTree) (n : ℕ) where
  abbrev pub after_copies : ℕ
  after_copies = first_copy b + length (assigned_params b)

  abbrev ms : List ℕ
  ms = meant_from b.block (first_copy b) (first_param b) b.params

  -- the parameters and the declared locals
  abbrev pub is_own : ℕ → Bool
  is_own x = is_from (first_param b) (first_copy b) x

  bounds : (x : ℕ) → is_own x ≡ true → (first_param b ≤ x) × (x < first_copy b)
  bounds x h = let both = and_parts (nat_le (first_param b) x) (nat_lt x (first_copy b)) h in (leb-true (first_param b) x both.0, ltb-true x (first_copy b) both.1)

  looked : (i : ℕ) → slice_get (meant b) (first_param b + i) ≡ slice_get ms i
  looked i = after_this b.flags.is_static ms i

  -- a local of the body has its number, or that of a copy
  record Number (x : ℕ) : Type 0 where
    place : ℕ
    is : first_param b + place ≡ x
    kind : ((place < length b.params) × (slice_get ms place ≡ Some (number (numbers b n) x))) ⊎ ((length b.params ≤ place) × (number (numbers b n) x ≡ x))
    bound : (number (numbers b n) x ≡ x) ⊎ ((first_copy b ≤ number (numbers b n) x) × (number (numbers b n) x < after_copies))

  number_of : (x : ℕ) → is_own x ≡ true → Number x
  number_of x h =
      let l = bounds x h in
      let low = l.0 in
      let i = x - first_param b in
      let e : first_param b + i ≡ x = omega arith in
      let at : slice_get (meant b) x ≡ slice_get ms i = ap (slice_get (meant b)) (sym e) ∙ looked i in
      ⊎_elim
      (λ less.
      let r = meant_is b.block (first_copy b) (first_param b) b.params i less in
      let there = r.at in
      let m : number (numbers b n) x ≡ r.by = ap (λ o. unwrap_or o x) (at ∙ r.at) in
      record { place = i; is = e; kind = inl (less, there ∙ ap Some (sym m)); bound = ⊎_elim (λ k. inl (m ∙ k ∙ e)) (λ k. let one = k.0 in let two = k.1 in inr (omega arith, omega arith)) r.kind })
      (λ past.
      let size = meant_length b.block (first_copy b) (first_param b) b.params in
      let m : number (numbers b n) x ≡ x = ap (λ o. unwrap_or o x) (at ∙ slice_get_past ms i (omega arith)) in
      record { place = i; is = e; kind = inr (past, m); bound = inl m })
      (cases_lt i (length b.params))

  pub own_below : (x : ℕ) → is_own x ≡ true → number (numbers b n) x < after_copies
  own_below x h = let l = (bounds x h).1 in ⊎_elim (λ e. omega arith) (λ k. k.1) (number_of x h).bound

  pub own_within : (x : ℕ) → is_own x ≡ true → x < after_copies
  own_within x h = let l = (bounds x h).1 in omega arith

  pub past_all : (x : ℕ) → after_copies ≤ x → number (numbers b n) x ≡ x
  past_all x h =
      let i = x - first_param b in
      let e : first_param b + i ≡ x = omega arith in
      let size = meant_length b.block (first_copy b) (first_param b) b.params in
      ap (λ o. unwrap_or o x) (ap (slice_get (meant b)) (sym e) ∙ looked i ∙ slice_get_past ms i (omega arith))

  before : (x y : ℕ) → x < y → is_own x ≡ true → is_own y ≡ true → number (numbers b n) x ≡ number (numbers b n) y → ⊥
  before x y l h g e =
      let one = number_of x h in
      let two = number_of y g in
      let is_one = one.is in
      let is_two = two.is in
      let high = (bounds y g).1 in
      ⊎_elim
      (λ param.
      ⊎_elim
      (λ also. meant_apart b.block (first_copy b) (first_param b) b.params one.place two.place (number (numbers b n) y) (omega arith) (omega arith) (param.1 ∙ ap Some e) also.1 also.0)
      (λ own. let same = own.1 in ⊎_elim (λ k. omega arith) (λ k. let low = k.0 in omega arith) one.bound)
      two.kind)
      (λ own. let far = own.0 in let same = own.1 in ⊎_elim (λ param. let near = param.0 in omega arith) (λ also. let kept = also.1 in omega arith) two.kind)
      one.kind

  pub own_apart : (x y : ℕ) → is_own x ≡ true → is_own y ≡ true → number (numbers b n) x ≡ number (numbers b n) y → x ≡ y
  own_apart x y h g e =
      ⊎_elim (λ less. absurd (before x y less h g e)) (λ more. ⊎_elim (λ less. absurd (before y x less g h (sym e))) (λ also. omega arith) (cases_lt y x)) (cases_lt x y)
