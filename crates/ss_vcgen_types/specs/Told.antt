-- What a test tells of locals where it has come out so, as a list.
use Rattle.std.specs.Prelude.{ℕ, List, [], ◌∷◌, ◌++◌, Bool, true, false, not, ◌==◌, ◌&&◌, ◌||◌, if◌then◌else◌, Option, Some, None}
use Rattle.std.specs.Bool.{beq}
use Rattle.ss_core.specs.declared.expr.Operator.{Operator}
use Rattle.ss_core.specs.declared.expr.Operator.TheVariants as op
use Rattle.ss_core.specs.Tree.{ExprTree, LocalExpr, NotExpr, BinaryExpr, IsExpr}
use Rattle.ss_store_rules.specs.NonNull.{Facts, no_facts, both, Known, is_null_literal, side_facts}
use Rattle.ss_vcgen_types.specs.declared.told.Told.{Told}
use Rattle.ss_vcgen_types.specs.declared.told.Told.TheVariants as told

-- the local that the expression is, if it is one
abbrev pub local_of : ExprTree → Option ℕ
local_of (LocalExpr p x) = Some x
local_of e = None

abbrev pub not_null : Option ℕ → List Told
not_null None = []
not_null (Some x) = told.NotNull x ∷ []

abbrev pub told_where : Bool → List Told → List Told
told_where condition ts = if condition then ts else []

abbrev pub told_by_operation : Operator → Bool → ExprTree → ExprTree → (Bool → List Told) → (Bool → List Told) → List Told
told_by_operation op.And v a b f g = if v then f true ++ g true else []
told_by_operation op.Or v a b f g = if v then [] else f false ++ g false
told_by_operation op.NotEqual v a b f g = told_where (v && is_null_literal b) (not_null (local_of a))
told_by_operation op.Equal v a b f g = told_where (not v && is_null_literal b) (not_null (local_of a))
told_by_operation o v a b f g = []

-- what the expression tells where it has this truth value
abbrev pub told_by : ExprTree → Bool → List Told
told_by (LocalExpr p x) v = told.Truth x v ∷ []
told_by (NotExpr p e) v = told_by e (not v)
told_by (BinaryExpr p o a b) v = told_by_operation o v a b (told_by a) (told_by b)
told_by (IsExpr p e t) v = told_where v (not_null (local_of e))
told_by e v = []

-- ---- what is known with it

abbrev pub facts_of : Known → Told → Facts
facts_of k (told.NotNull x) y = x == y
facts_of k (told.Truth x v) y = side_facts (k.sides x v) y

abbrev pub all_facts : Known → List Told → Facts
all_facts k [] = no_facts
all_facts k (t ∷ ts) = both (facts_of k t) (all_facts k ts)

-- the local x has the truth value u
abbrev pub tells_of : Told → ℕ → Bool → Bool
tells_of (told.NotNull y) x u = false
tells_of (told.Truth y v) x u = x == y && beq u v

abbrev pub all_tell : List Told → ℕ → Bool → Bool
all_tell [] x u = false
all_tell (t ∷ ts) x u = tells_of t x u || all_tell ts x u

-- what is known where all this is told
abbrev pub with_told : List Told → Known → Known
with_told ts k = record k {
  facts = both k.facts (all_facts k ts);
  sides = λ x u. if all_tell ts x (not u) then None else k.sides x u;
}
