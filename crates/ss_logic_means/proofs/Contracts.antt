-- The conditions of contracts: each is stated as the laws ask, and its formula is true exactly where it holds.
use Rattle.std.proofs.Common.{◌≡◌, ℕ, List, [], ◌∷◌, ◌++◌, length, Bool, true, false, not, ◌&&◌, ◌||◌, eqb, arith, Option, Some, None, refl, ◌∙◌, ap, subst}
use Rattle.std.specs.Prelude.{slice_get, nat_lt, if◌then◌else◌, option_to_list, is_some}
use Rattle.std.proofs.lemmas.Bool.{false≢true, and_parts, and_from, eqb-true, lt-ltb}
use Rattle.ss_core.specs.declared.names.Ty.{Ty}
use Rattle.ss_core.specs.declared.names.Ty.TheVariants as ty
use Rattle.ss_core.specs.Tree.{ClassTree, BodyTree, DefaultTree, AtLevel, Unpacked, ThisUnowned, Defaults, OwnedFull, Full, ConsistentArgument, FullArgument, Captured, ExprTree, IntExpr, BoolExpr, NullExpr, LocalExpr, FieldExpr, ElementExpr, LengthExpr, NegateExpr, NotExpr, BinaryExpr, ImpliesExpr, IffExpr, IsExpr, AsExpr, CastExpr, OldExpr, QuantifiedExpr, StateExpr, OwnersExpr, DefaultExpr}
use Rattle.ss_core.specs.Chain.{below}
use Rattle.ss_core.proofs.Chains.{below_self}
use Rattle.ss_store_rules.specs.declared.Value.{Value as ObjectValue}
use Rattle.ss_store_rules.specs.Locals.{types_of, local_types, everywhere, is_argument, reads_only}
use Rattle.ss_store_rules.specs.Types.{is_bool, is_reference, has_class, type_of, Words, is_allowed, typed, is_condition}
use Rattle.ss_store_rules.specs.Typed.{is_reference_argument, is_default_of, is_contract}
use Rattle.ss_store_rules.specs.Values as run
use Rattle.ss_logic.specs.Values.{Heap, Value, Structure}
use Rattle.ss_logic.specs.Express.{Context, default_said, holds_formula}
use Rattle.ss_machine_typed.specs.Settings.{IsGoodSetting}
use Rattle.ss_logic_means.specs.Means.{Means}
use Rattle.ss_logic_means.specs.Scenes.{setting_of, Stands, StandsAmong, has_subject, has_no_default, speaks_of, speaks_only, is_stated, Settled}
use Rattle.ss_logic_means.proofs.Operands.{class_reference}
use Rattle.ss_logic_means.proofs.Invariants.{condition_means}
use Rattle.ss_logic_means.proofs.Listed.{and_one}
use Rattle.ss_logic_means.proofs.Everywhere.{all_locals, plainly_from, speaks_all}
use Rattle.ss_logic_means.proofs.Standing.{stands_among}
use Rattle.ss_logic_means.proofs.Defaults.{default_means}

-- ---- default conditions of a body

this_first : (s : Bool) (t : Ty) (xs ys zs : List Ty) → not s ≡ true → slice_get ((if s then [] else t ∷ []) ++ xs ++ ys ++ zs) 0 ≡ Some t
this_first true t xs ys zs h = absurd (false≢true h)
this_first false t xs ys zs h = refl

first_within : (s : Bool) (t : Ty) (xs : List Ty) → not s ≡ true → nat_lt 0 (length ((if s then [] else t ∷ []) ++ xs)) ≡ true
first_within true t xs h = absurd (false≢true h)
first_within false t xs h = lt-ltb 0 (length (t ∷ xs)) (omega arith)

module _ (cs : List ClassTree) (b : BodyTree) where
  this_type : not b.flags.is_static ≡ true → slice_get (local_types b) 0 ≡ Some (ty.Ref (record { 0 = b.class }) true)
  this_type h = this_first b.flags.is_static (ty.Ref (record { 0 = b.class }) true) (types_of b.params) (types_of b.locals) (option_to_list b.result) h

  this_reference : not b.flags.is_static ≡ true → is_reference (slice_get (local_types b) 0) ≡ true
  this_reference h = ap is_reference (this_type h)

  this_below : (t : ℕ) → (not b.flags.is_static && eqb t b.class) ≡ true → has_class (λ c. below cs c t) (slice_get (local_types b) 0) ≡ true
  this_below t h =
      let p = and_parts (not b.flags.is_static) (eqb t b.class) h in
      ap (has_class (λ c. below cs c t)) (this_type p.0) ∙ subst (λ c. below cs c t ≡ true) (eqb-true t b.class p.1) (below_self cs t)

  argument_reference : (x : ℕ) → is_reference_argument b x ≡ true → is_reference (slice_get (local_types b) x) ≡ true
  argument_reference x h = class_reference (λ c. true) (slice_get (local_types b) x) (and_parts (is_argument b x && (b.flags.is_static || not (eqb x 0))) (has_class (λ c. true) (slice_get (local_types b) x)) h).1

  this_apart : (apart : Bool) → (not apart || not b.flags.is_static) ≡ true → (not apart || is_reference (slice_get (local_types b) 0)) ≡ true
  this_apart true h = this_reference h
  this_apart false h = refl

  default_subject : (d : DefaultTree) → is_default_of b d ≡ true → has_subject cs (local_types b) d ≡ true
  default_subject (AtLevel t) h = this_reference (and_parts (not b.flags.is_static) (eqb t b.class) h).0
  default_subject Unpacked h = this_reference h
  default_subject ThisUnowned h = this_reference h
  default_subject (Defaults t) h = this_below t h
  default_subject (OwnedFull t) h = this_reference (and_parts (not b.flags.is_static) (eqb t b.class) h).0
  default_subject Full h = this_reference h
  default_subject (ConsistentArgument x) h = argument_reference x h
  default_subject (FullArgument x) h = argument_reference x h
  default_subject (Captured x apart) h =
      let p = and_parts (is_reference_argument b x) (not apart || not b.flags.is_static) h in
      and_from (is_reference (slice_get (local_types b) x)) (not apart || is_reference (slice_get (local_types b) 0)) (argument_reference x p.0) (this_apart apart p.1)

  -- ---- the locals of which contracts speak

  module _ (among : ℕ → Bool) (arguments : (y : ℕ) → is_argument b y ≡ true → among y ≡ true) where
    this_among : not b.flags.is_static ≡ true → among 0 ≡ true
    this_among h = arguments 0 (first_within b.flags.is_static (ty.Ref (record { 0 = b.class }) true) (types_of b.params) h)

    argument_among : (x : ℕ) → is_reference_argument b x ≡ true → among x ≡ true
    argument_among x h =
        let p = and_parts (is_argument b x && (b.flags.is_static || not (eqb x 0))) (has_class (λ c. true) (slice_get (local_types b) x)) h in
        arguments x (and_parts (is_argument b x) (b.flags.is_static || not (eqb x 0)) p.0).0

    apart_among : (apart : Bool) → (not apart || not b.flags.is_static) ≡ true → (not apart || among 0) ≡ true
    apart_among true h = this_among h
    apart_among false h = refl

    pub default_speaks : (d : DefaultTree) → is_default_of b d ≡ true → speaks_of among d ≡ true
    default_speaks (AtLevel t) h = this_among (and_parts (not b.flags.is_static) (eqb t b.class) h).0
    default_speaks Unpacked h = this_among h
    default_speaks ThisUnowned h = this_among h
    default_speaks (Defaults t) h = this_among (and_parts (not b.flags.is_static) (eqb t b.class) h).0
    default_speaks (OwnedFull t) h = this_among (and_parts (not b.flags.is_static) (eqb t b.class) h).0
    default_speaks Full h = this_among h
    default_speaks (ConsistentArgument x) h = argument_among x h
    default_speaks (FullArgument x) h = argument_among x h
    default_speaks (Captured x apart) h =
        let p = and_parts (is_reference_argument b x) (not apart || not b.flags.is_static) h in
        and_from (among x) (not apart || among 0) (argument_among x p.0) (apart_among apart p.1)

  -- a condition of a contract speaks of the arguments, and of what else it may read
  pub contract_speaks : (w : Words) (among : ℕ → Bool) (x : ExprTree) → is_contract cs b w among x ≡ true → ((y : ℕ) → is_argument b y ≡ true → among y ≡ true) → speaks_only among x ≡ true
  contract_speaks w among (DefaultExpr p d) h arguments = default_speaks among arguments d h
  contract_speaks w among x h arguments = (and_parts (is_condition cs b w x) (reads_only among x) h).1

  -- ---- written conditions

  module _ (w : Words) where
    abbrev allowed : ExprTree → Bool
    allowed x = is_allowed b w x

    -- what a body may state has no default condition as a part
    allowed_no_default : (x : ExprTree) → everywhere (is_allowed b w) x ≡ true → has_no_default x ≡ true
    allowed_no_default (IntExpr p n) h = refl
    allowed_no_default (BoolExpr p v) h = refl
    allowed_no_default (NullExpr p) h = refl
    allowed_no_default (LocalExpr p x) h = refl
    allowed_no_default (FieldExpr p x f) h = allowed_no_default x (and_parts (allowed (FieldExpr p x f)) (everywhere (is_allowed b w) x) h).1
    allowed_no_default (ElementExpr p x y) h =
        let parts = and_parts (everywhere (is_allowed b w) x) (everywhere (is_allowed b w) y) h in
        and_from (has_no_default x) (has_no_default y) (allowed_no_default x parts.0) (allowed_no_default y parts.1)
    allowed_no_default (LengthExpr p x) h = allowed_no_default x h
    allowed_no_default (NegateExpr p x) h = allowed_no_default x h
    allowed_no_default (NotExpr p x) h = allowed_no_default x h
    allowed_no_default (BinaryExpr p o x y) h =
        let parts = and_parts (everywhere (is_allowed b w) x) (everywhere (is_allowed b w) y) h in
        and_from (has_no_default x) (has_no_default y) (allowed_no_default x parts.0) (allowed_no_default y parts.1)
    allowed_no_default (ImpliesExpr p x y) h =
        let parts = and_parts (everywhere (is_allowed b w) x) (everywhere (is_allowed b w) y) h in
        and_from (has_no_default x) (has_no_default y) (allowed_no_default x parts.0) (allowed_no_default y parts.1)
    allowed_no_default (IffExpr p x y) h =
        let parts = and_parts (everywhere (is_allowed b w) x) (everywhere (is_allowed b w) y) h in
        and_from (has_no_default x) (has_no_default y) (allowed_no_default x parts.0) (allowed_no_default y parts.1)
    allowed_no_default (IsExpr p x t) h = allowed_no_default x h
    allowed_no_default (AsExpr p x t) h = allowed_no_default x h
    allowed_no_default (CastExpr p t n x) h = allowed_no_default x h
    allowed_no_default (OldExpr p x) h = allowed_no_default x (and_parts w.entry (everywhere (is_allowed b w) x) h).1
    allowed_no_default (QuantifiedExpr p q name low high x) h =
        let all = and_parts (everywhere (is_allowed b w) low && everywhere (is_allowed b w) high) (everywhere (is_allowed b w) x) h in
        let bounds = and_parts (everywhere (is_allowed b w) low) (everywhere (is_allowed b w) high) all.0 in
        and_from (has_no_default low && has_no_default high) (has_no_default x)
        (and_from (has_no_default low) (has_no_default high) (allowed_no_default low bounds.0) (allowed_no_default high bounds.1)) (allowed_no_default x all.1)
    allowed_no_default (StateExpr p k x) h = allowed_no_default x (and_parts (allowed (StateExpr p k x)) (everywhere (is_allowed b w) x) h).1
    allowed_no_default (OwnersExpr p k x y) h =
        let all = and_parts (w.states && everywhere (is_allowed b w) x) (everywhere (is_allowed b w) y) h in
        and_from (has_no_default x) (has_no_default y) (allowed_no_default x (and_parts w.states (everywhere (is_allowed b w) x) all.0).1) (allowed_no_default y all.1)
    allowed_no_default (DefaultExpr p d) h = absurd (false≢true h)

    typed_parts : (c : Bool) (o : Option Ty) → is_bool (if c then o else None) ≡ true → (c ≡ true) × (is_bool o ≡ true)
    typed_parts true o h = (refl, h)
    typed_parts false o h = absurd (false≢true h)

    condition_stated : (x : ExprTree) → is_condition cs b w x ≡ true → (has_no_default x && is_bool (type_of cs (local_types b) x)) ≡ true
    condition_stated x h =
        let parts = typed_parts (everywhere (is_allowed b w) x) (type_of cs (local_types b) x) h in
        and_from (has_no_default x) (is_bool (type_of cs (local_types b) x)) (allowed_no_default x parts.0) parts.1

    -- a condition is a truth value without a default condition
    pub condition_typed : (x : ExprTree) → is_condition cs b w x ≡ true → (has_no_default x ≡ true) × (is_bool (type_of cs (local_types b) x) ≡ true)
    condition_typed x h = and_parts (has_no_default x) (is_bool (type_of cs (local_types b) x)) (condition_stated x h)

    some_parts : (c : Bool) (o : Option Ty) → is_some (if c then o else None) ≡ true → (c ≡ true) × (is_some o ≡ true)
    some_parts true o h = (refl, h)
    some_parts false o h = absurd (false≢true h)

    -- an expression of the body has no default condition
    pub typed_without : (x : ExprTree) → is_some (typed cs b w x) ≡ true → (has_no_default x ≡ true) × (is_some (type_of cs (local_types b) x) ≡ true)
    typed_without x h =
        let parts = some_parts (everywhere (is_allowed b w) x) (type_of cs (local_types b) x) h in
        (allowed_no_default x parts.0, parts.1)

    -- each condition of its code is stated
    pub code_stated : (x : ExprTree) → is_condition cs b w x ≡ true → is_stated cs (local_types b) x ≡ true
    code_stated (DefaultExpr p d) h = absurd (false≢true (condition_stated (DefaultExpr p d) h))
    code_stated x h = condition_stated x h

    -- each condition of a contract is stated
    pub contract_stated : (among : ℕ → Bool) (x : ExprTree) → is_contract cs b w among x ≡ true → is_stated cs (local_types b) x ≡ true
    contract_stated among (DefaultExpr p d) h = default_subject d h
    contract_stated among x h = condition_stated x (and_parts (is_condition cs b w x) (reads_only among x) h).0

-- ---- what stated conditions say

pub stated_means : (among : ℕ → Bool) (m : Structure) (now entry : Heap) (x : ExprTree) (c : Context) (locals : List ObjectValue) (k : Bool) → IsGoodSetting (setting_of m c now entry locals) c.types k → (e : List Value) → StandsAmong among m c now entry locals e → length e ≡ c.bound →
    speaks_only among x ≡ true → is_stated c.classes c.types x ≡ true → Settled m e c x → Means c.classes m e (holds_formula x c) (run.holds x (setting_of m c now entry locals))
stated_means among m now entry (DefaultExpr p d) c locals k good e st at speaks is stay =
    and_one c.classes m e (default_said c d) (run.default_holds (setting_of m c now entry locals) d) (default_means among m now entry c locals k good e st at d speaks is stay)
stated_means among m now entry x c locals k good e st at speaks is stay =
    let parts = and_parts (has_no_default x) (is_bool (type_of c.classes c.types x)) is in
    condition_means among m now entry x c locals k good e st (plainly_from among x speaks parts.0) parts.1 at

-- where the context stands for all its locals
pub all_stated_mean : (m : Structure) (now entry : Heap) (x : ExprTree) (c : Context) (locals : List ObjectValue) (k : Bool) → IsGoodSetting (setting_of m c now entry locals) c.types k → (e : List Value) → Stands m c now entry locals e → length e ≡ c.bound →
    is_stated c.classes c.types x ≡ true → Settled m e c x → Means c.classes m e (holds_formula x c) (run.holds x (setting_of m c now entry locals))
all_stated_mean m now entry x c locals k good e st at is stay = stated_means all_locals m now entry x c locals k good e (stands_among all_locals m c now entry locals e st) at (speaks_all x) is stay
