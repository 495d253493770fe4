-- Conditions of contracts: each is a default condition, or reads what its normal form reads.
use Rattle.std.proofs.Common.{◌≡◌, ℕ, suc, List, [], ◌∷◌, ◌++◌, length, Bool, true, false, not, ◌&&◌, ◌||◌, Option, None, eqb, inl, inr, ◌⊎◌, refl, sym, ◌∙◌, ap, subst, arith, ⊎_elim}
use Rattle.std.specs.Prelude.{slice_get, nat_lt, if◌then◌else◌}
use Rattle.std.specs.List.{list_all}
use Rattle.std.proofs.lemmas.Bool.{false≢true, and_parts, lt-ltb}
use Rattle.std.proofs.lemmas.List.{append-nil}
use Rattle.ss_core.specs.declared.names.Place.{Place}
use Rattle.ss_core.specs.declared.names.Ty.{Ty}
use Rattle.ss_core.specs.Tree.{ClassTree, DefaultTree, AtLevel, Unpacked, ThisUnowned, Defaults, OwnedFull, Full, ConsistentArgument, FullArgument, Captured, ExprTree, DefaultExpr, BodyTree}
use Rattle.ss_store_rules.specs.declared.Value.{Value}
use Rattle.ss_store_rules.specs.Store.{Object}
use Rattle.ss_store_rules.specs.Reads.{is_null_or, object_at}
use Rattle.ss_store_rules.specs.Values.{is_met_by, may_be_captured, default_holds, value_of, is_true, holds}
use Rattle.ss_store_rules.specs.Locals.{types_of, everywhere, is_local_among, reads_only, is_default, is_argument}
use Rattle.ss_store_rules.specs.Types.{is_bool, has_class, type_of, Words, is_allowed, is_condition}
use Rattle.ss_store_rules.specs.Locals.{local_types}
use Rattle.ss_store_rules.specs.Typed.{is_reference_argument, is_default_of, is_contract}
use Rattle.ss_store_rules.specs.Tables.{normal_condition}
use Rattle.ss_sound_runs.proofs.Reading.{local_in, ReadsSame, read_at, normal_value}

-- ---- default conditions

first_argument : (static : Bool) (t : Ty) (ts : List Ty) → not static ≡ true → nat_lt 0 (length ((if static then [] else t ∷ []) ++ ts)) ≡ true
first_argument true t ts h = absurd (false≢true h)
first_argument false t ts h = lt-ltb 0 (suc (length ts)) (omega arith)

pub this_argument : (b : BodyTree) → not b.flags.is_static ≡ true → is_argument b 0 ≡ true
this_argument b h = first_argument b.flags.is_static _ (types_of b.params) h

module _ (cs : List ClassTree) (s entry : List Object) where
  -- a default condition of a body speaks of arguments alone
  module _ (b : BodyTree) (old : Bool) (L M : List Value) (agree : (x : ℕ) → is_argument b x ≡ true → local_in L x ≡ local_in M x) where
    of_this : (d : DefaultTree) → not b.flags.is_static ≡ true → is_null_or (local_in L 0) (is_met_by (read_at cs s entry old L) d) ≡ is_null_or (local_in M 0) (is_met_by (read_at cs s entry old L) d)
    of_this d h = ap (λ v. is_null_or v (is_met_by (read_at cs s entry old L) d)) (agree 0 (this_argument b h))

    of_argument : (x : ℕ) (d : DefaultTree) → is_reference_argument b x ≡ true → is_null_or (local_in L x) (is_met_by (read_at cs s entry old L) d) ≡ is_null_or (local_in M x) (is_met_by (read_at cs s entry old L) d)
    of_argument x d h =
        let first = (and_parts (is_argument b x && (b.flags.is_static || not (eqb x 0))) (has_class (λ c. true) (slice_get (local_types b) x)) h).0 in
        ap (λ v. is_null_or v (is_met_by (read_at cs s entry old L) d)) (agree x (and_parts (is_argument b x) (b.flags.is_static || not (eqb x 0)) first).0)

    apart_of : (apart : Bool) → (not apart || not b.flags.is_static) ≡ true → (v : Value) →
        is_null_or v (λ o. may_be_captured (read_at cs s entry old L) apart (object_at s o).owner) ≡ is_null_or v (λ o. may_be_captured (read_at cs s entry old M) apart (object_at s o).owner)
    apart_of false h v = refl
    apart_of true h v = ap (λ u. is_null_or v (λ o. may_be_captured (read_at cs s entry old (u ∷ [])) true (object_at s o).owner)) (agree 0 (this_argument b h))

    pub default_agrees : (d : DefaultTree) → is_default_of b d ≡ true → default_holds (read_at cs s entry old L) d ≡ default_holds (read_at cs s entry old M) d
    default_agrees (AtLevel t) h = of_this (AtLevel t) (and_parts (not b.flags.is_static) (eqb t b.class) h).0
    default_agrees Unpacked h = of_this Unpacked h
    default_agrees ThisUnowned h = of_this ThisUnowned h
    default_agrees (Defaults t) h = of_this (Defaults t) (and_parts (not b.flags.is_static) (eqb t b.class) h).0
    default_agrees (OwnedFull t) h = of_this (OwnedFull t) (and_parts (not b.flags.is_static) (eqb t b.class) h).0
    default_agrees Full h = of_this Full h
    default_agrees (ConsistentArgument x) h = of_argument x (ConsistentArgument x) h
    default_agrees (FullArgument x) h = of_argument x (FullArgument x) h
    default_agrees (Captured x apart) h =
        let p = and_parts (is_reference_argument b x) (not apart || not b.flags.is_static) h in
        of_argument x (Captured x apart) p.0 ∙ apart_of apart p.1 (local_in M x)

-- ---- conditions

-- A written condition: it has these words and reads these locals alone.
pub record Written (b : BodyTree) (w : Words) (among : ℕ → Bool) (e : ExprTree) : Type 0 where
  pub default : is_default e ≡ false
  pub allowed : everywhere (is_allowed b w) e ≡ true
  pub reads : everywhere (is_local_among among) e ≡ true

-- A default condition.
pub record IsDefault (b : BodyTree) (e : ExprTree) : Type 0 where
  pub place : Place
  pub tree : DefaultTree
  pub is : e ≡ DefaultExpr place tree
  pub of : is_default_of b tree ≡ true

typed_allowed : (t : Bool) (o : Option Ty) → is_bool (if t then o else None) ≡ true → t ≡ true
typed_allowed true o h = refl
typed_allowed false o h = absurd (false≢true h)

written : (cs : List ClassTree) (b : BodyTree) (w : Words) (among : ℕ → Bool) (e : ExprTree) → is_default e ≡ false → (is_condition cs b w e && reads_only among e) ≡ true → Written b w among e
written cs b w among e plain h =
    let p = and_parts (is_condition cs b w e) (reads_only among e) h in
    record {
      default = plain;
      allowed = typed_allowed (everywhere (is_allowed b w) e) (type_of cs (local_types b) e) p.0;
      reads = p.1;
    }

pub contract_parts : (cs : List ClassTree) (b : BodyTree) (w : Words) (among : ℕ → Bool) (e : ExprTree) → is_contract cs b w among e ≡ true → Written b w among e ⊎ IsDefault b e
contract_parts cs b w among (DefaultExpr p d) h = inr (record { place = p; tree = d; is = refl; of = h })
contract_parts cs b w among e h = inl (written cs b w among e refl h)

-- a normal form is a default condition exactly where the condition is
pub normal_is_default : (b : BodyTree) (e : ExprTree) → is_default (normal_condition b e) ≡ is_default e
normal_is_default b (DefaultExpr p d) = refl
normal_is_default b e = refl

-- outside of `old` and of quantifiers
pub plain_value : (cs : List ClassTree) (s entry : List Object) (b : BodyTree) (w : Words) (among : ℕ → Bool) (L N : List Value) → ReadsSame b among L N → (old : Bool) (e : ExprTree) → everywhere (is_allowed b w) e ≡ true → everywhere (is_local_among among) e ≡ true →
    value_of e (read_at cs s entry old L) ≡ value_of (normal_condition b e) (read_at cs s entry old N)
plain_value cs s entry b w among L N same old e g h =
    ap (λ l. value_of e (read_at cs s entry old l)) (sym (append-nil L))
    ∙ normal_value cs s entry b w among L N same e g h old []
    ∙ ap (λ l. value_of (normal_condition b e) (read_at cs s entry old l)) (append-nil N)

-- ---- one body, whose locals are read twice
module _ (cs : List ClassTree) (s entry : List Object) (b : BodyTree) (w : Words) (among : ℕ → Bool) (L M N : List Value) (left_ : ReadsSame b among L N) (right_ : ReadsSame b among M N)
    (agree : (x : ℕ) → is_argument b x ≡ true → local_in L x ≡ local_in M x) where
  pub same_holds : (e : ExprTree) → is_contract cs b w among e ≡ true → holds e (read_at cs s entry false L) ≡ holds e (read_at cs s entry false M)
  same_holds e h =
      ⊎_elim
      (λ is. ap is_true (plain_value cs s entry b w among L N left_ false e is.allowed is.reads ∙ sym (plain_value cs s entry b w among M N right_ false e is.allowed is.reads)))
      (λ is. subst (λ x. holds x (read_at cs s entry false L) ≡ holds x (read_at cs s entry false M)) (sym is.is) (default_agrees cs s entry b false L M agree is.tree is.of))
      (contract_parts cs b w among e h)

  pub same_all_hold : (es : List ExprTree) → list_all (is_contract cs b w among) es ≡ true → list_all (λ e. holds e (read_at cs s entry false L)) es ≡ list_all (λ e. holds e (read_at cs s entry false M)) es
  same_all_hold [] h = refl
  same_all_hold (e ∷ es) h =
      let p = and_parts (is_contract cs b w among e) (list_all (is_contract cs b w among) es) h in
      rw (same_holds e p.0, same_all_hold es p.1) refl
