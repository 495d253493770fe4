-- Tests that hold of an expression and of each part of it.
use Rattle.std.proofs.Common.{◌≡◌, ℕ, Bool, true, false, not, ◌&&◌, refl}
use Rattle.std.proofs.lemmas.Bool.{and_parts, and_from}
use Rattle.ss_core.specs.Tree.{DefaultTree, Captured, ExprTree, IntExpr, BoolExpr, NullExpr, LocalExpr, FieldExpr, ElementExpr, LengthExpr, NegateExpr, NotExpr, BinaryExpr, ImpliesExpr, IffExpr, IsExpr, AsExpr, CastExpr, OldExpr, QuantifiedExpr, StateExpr, OwnersExpr, DefaultExpr}
use Rattle.ss_store_rules.specs.Locals.{everywhere, is_default, is_local_among, reads_only}
use Rattle.ss_logic_means.specs.Scenes.{has_no_default, speaks_of, speaks_only}

-- a test that holds where two others do
module _ (t u w : ExprTree → Bool) (both : (y : ExprTree) → t y ≡ true → u y ≡ true → w y ≡ true) where
  abbrev E : (ExprTree → Bool) → ExprTree → Bool
  E test x = everywhere test x

  one : (y x : ExprTree) → (t y && E t x) ≡ true → (u y && E u x) ≡ true → (E t x ≡ true → E u x ≡ true → E w x ≡ true) → (w y && E w x) ≡ true
  one y x h k next =
      let p = and_parts (t y) (E t x) h in
      let q = and_parts (u y) (E u x) k in
      and_from (w y) (E w x) (both y p.0 q.0) (next p.1 q.1)

  two : (y x z : ExprTree) → (t y && E t x && E t z) ≡ true → (u y && E u x && E u z) ≡ true → (E t x ≡ true → E u x ≡ true → E w x ≡ true) → (E t z ≡ true → E u z ≡ true → E w z ≡ true) → (w y && E w x && E w z) ≡ true
  two y x z h k next last =
      let p = and_parts (t y && E t x) (E t z) h in
      let q = and_parts (u y && E u x) (E u z) k in
      and_from (w y && E w x) (E w z) (one y x p.0 q.0 next) (last p.1 q.1)

  pub everywhere_both : (x : ExprTree) → everywhere t x ≡ true → everywhere u x ≡ true → everywhere w x ≡ true
  everywhere_both (IntExpr p n) h k = both (IntExpr p n) h k
  everywhere_both (BoolExpr p b) h k = both (BoolExpr p b) h k
  everywhere_both (NullExpr p) h k = both (NullExpr p) h k
  everywhere_both (LocalExpr p x) h k = both (LocalExpr p x) h k
  everywhere_both (FieldExpr p x f) h k = one (FieldExpr p x f) x h k (everywhere_both x)
  everywhere_both (ElementExpr p x i) h k = two (ElementExpr p x i) x i h k (everywhere_both x) (everywhere_both i)
  everywhere_both (LengthExpr p x) h k = one (LengthExpr p x) x h k (everywhere_both x)
  everywhere_both (NegateExpr p x) h k = one (NegateExpr p x) x h k (everywhere_both x)
  everywhere_both (NotExpr p x) h k = one (NotExpr p x) x h k (everywhere_both x)
  everywhere_both (BinaryExpr p o x y) h k = two (BinaryExpr p o x y) x y h k (everywhere_both x) (everywhere_both y)
  everywhere_both (ImpliesExpr p x y) h k = two (ImpliesExpr p x y) x y h k (everywhere_both x) (everywhere_both y)
  everywhere_both (IffExpr p x y) h k = two (IffExpr p x y) x y h k (everywhere_both x) (everywhere_both y)
  everywhere_both (IsExpr p x c) h k = one (IsExpr p x c) x h k (everywhere_both x)
  everywhere_both (AsExpr p x c) h k = one (AsExpr p x c) x h k (everywhere_both x)
  everywhere_both (CastExpr p c n x) h k = one (CastExpr p c n x) x h k (everywhere_both x)
  everywhere_both (OldExpr p x) h k = one (OldExpr p x) x h k (everywhere_both x)
  everywhere_both (QuantifiedExpr p q name low high x) h k =
      let a = and_parts (t (QuantifiedExpr p q name low high x) && E t low && E t high) (E t x) h in
      let b = and_parts (u (QuantifiedExpr p q name low high x) && E u low && E u high) (E u x) k in
      and_from (w (QuantifiedExpr p q name low high x) && E w low && E w high) (E w x) (two (QuantifiedExpr p q name low high x) low high a.0 b.0 (everywhere_both low) (everywhere_both high)) (everywhere_both x a.1 b.1)
  everywhere_both (StateExpr p v x) h k = one (StateExpr p v x) x h k (everywhere_both x)
  everywhere_both (OwnersExpr p v x y) h k = two (OwnersExpr p v x y) x y h k (everywhere_both x) (everywhere_both y)
  everywhere_both (DefaultExpr p d) h k = both (DefaultExpr p d) h k

everywhere_true : (x : ExprTree) → everywhere (λ y. true) x ≡ true
everywhere_true (FieldExpr p x f) = everywhere_true x
everywhere_true (ElementExpr p x i) = and_from (everywhere (λ y. true) x) (everywhere (λ y. true) i) (everywhere_true x) (everywhere_true i)
everywhere_true (LengthExpr p x) = everywhere_true x
everywhere_true (NegateExpr p x) = everywhere_true x
everywhere_true (NotExpr p x) = everywhere_true x
everywhere_true (BinaryExpr p o x y) = and_from (everywhere (λ y. true) x) (everywhere (λ y. true) y) (everywhere_true x) (everywhere_true y)
everywhere_true (ImpliesExpr p x y) = and_from (everywhere (λ y. true) x) (everywhere (λ y. true) y) (everywhere_true x) (everywhere_true y)
everywhere_true (IffExpr p x y) = and_from (everywhere (λ y. true) x) (everywhere (λ y. true) y) (everywhere_true x) (everywhere_true y)
everywhere_true (IsExpr p x c) = everywhere_true x
everywhere_true (AsExpr p x c) = everywhere_true x
everywhere_true (CastExpr p c n x) = everywhere_true x
everywhere_true (OldExpr p x) = everywhere_true x
everywhere_true (QuantifiedExpr p q name low high x) =
    and_from (everywhere (λ y. true) low && everywhere (λ y. true) high) (everywhere (λ y. true) x)
    (and_from (everywhere (λ y. true) low) (everywhere (λ y. true) high) (everywhere_true low) (everywhere_true high)) (everywhere_true x)
everywhere_true (StateExpr p v x) = everywhere_true x
everywhere_true (OwnersExpr p v x y) = and_from (everywhere (λ y. true) x) (everywhere (λ y. true) y) (everywhere_true x) (everywhere_true y)
everywhere_true x = refl

-- ---- expressions without a default condition that read certain locals alone

-- no part of it is a default condition, and it reads no other locals than these
abbrev pub reads_plainly : (ℕ → Bool) → ExprTree → Bool
reads_plainly among x = everywhere (λ y. not (is_default y) && is_local_among among y) x

module _ (among : ℕ → Bool) where
  pub plainly_from : (x : ExprTree) → reads_only among x ≡ true → has_no_default x ≡ true → reads_plainly among x ≡ true
  plainly_from x reads none =
      everywhere_both (is_local_among among) (λ y. not (is_default y)) (λ y. not (is_default y) && is_local_among among y) (λ y h k. and_from (not (is_default y)) (is_local_among among y) k h) x reads none

  pub reads_fewer : (more : ℕ → Bool) → ((y : ℕ) → among y ≡ true → more y ≡ true) → (x : ExprTree) → reads_only among x ≡ true → reads_only more x ≡ true
  reads_fewer more h x reads = everywhere_both (is_local_among among) (is_local_among among) (is_local_among more) wider x reads reads
    where
      wider : (y : ExprTree) → is_local_among among y ≡ true → is_local_among among y ≡ true → is_local_among more y ≡ true
      wider (LocalExpr p x) k l = h x k
      wider y k l = refl

abbrev pub all_locals : ℕ → Bool
all_locals x = true

any_local : (y : ExprTree) → is_local_among all_locals y ≡ true
any_local (LocalExpr p x) = refl
any_local y = refl

pub plainly_all : (x : ExprTree) → has_no_default x ≡ true → reads_plainly all_locals x ≡ true
plainly_all x none =
    everywhere_both (λ y. not (is_default y)) (λ y. not (is_default y)) (λ y. not (is_default y) && is_local_among all_locals y) (λ y h k. and_from (not (is_default y)) (is_local_among all_locals y) k (any_local y)) x none none

reads_all : (x : ExprTree) → reads_only all_locals x ≡ true
reads_all x = everywhere_both (λ y. true) (λ y. true) (is_local_among all_locals) (λ y h k. any_local y) x (everywhere_true x) (everywhere_true x)

pub speaks_of_all : (d : DefaultTree) → speaks_of all_locals d ≡ true
speaks_of_all (Captured x true) = refl
speaks_of_all (Captured x false) = refl
speaks_of_all d = refl

pub speaks_all : (x : ExprTree) → speaks_only all_locals x ≡ true
speaks_all (DefaultExpr p d) = speaks_of_all d
speaks_all x = reads_all x
