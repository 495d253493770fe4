-- The parts of a formed core program on contracts, which the elaboration of an accepted program has.
use Rattle.std.specs.Prelude.{◌≡◌, ℕ, Bool, true}
use Rattle.std.specs.List.{list_all}
use Rattle.ss_core.specs.Tree.{BodyTree, CoreTree, ExprTree, DefaultExpr}
use Rattle.ss_store_rules.specs.Typed.{is_default_of, is_entry, is_exit, is_named, is_invariant}
use Rattle.ss_store_rules.specs.Admissible.{invariants}
use Rattle.ss_expand_formed.specs.Laws.{OfEach}

-- where it is a default condition, it is one of the body
abbrev pub has_own_default : BodyTree → ExprTree → Bool
has_own_default b (DefaultExpr p d) = is_default_of b d
has_own_default b e = true

-- the default conditions of a body speak of `this` where it has one, of its class, and of arguments that are references
abbrev pub HaveDefaults : CoreTree → Type 0
HaveDefaults c = OfEach c (λ b. (list_all (has_own_default b) b.entry ≡ true) × (list_all (has_own_default b) b.exit ≡ true))

-- conditions at entry are truth values over the arguments
abbrev pub HaveEntries : CoreTree → Type 0
HaveEntries c = OfEach c (λ b. list_all (is_entry c.classes b) b.entry ≡ true)

-- conditions at exit are truth values over the arguments and the result
abbrev pub HaveExits : CoreTree → Type 0
HaveExits c = OfEach c (λ b. list_all (is_exit c.classes b) b.exit ≡ true)

-- what a body may change is over its arguments, and of the types that it takes
abbrev pub HaveNamed : CoreTree → Type 0
HaveNamed c = OfEach c (λ b. list_all (is_named c.classes b) b.named ≡ true)

-- invariants are truth values over `this`
abbrev pub HaveInvariants : CoreTree → Type 0
HaveInvariants c = (t : ℕ) → list_all (is_invariant c.classes t) (invariants c.classes t) ≡ true
