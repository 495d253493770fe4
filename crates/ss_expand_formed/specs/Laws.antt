-- The parts of a formed core program that the elaboration of a program has.
use Rattle.std.specs.Prelude.{◌≡◌, ℕ, true, false, Some, option_to_list, map, length, take, drop, count_by}
use Rattle.std.specs.List.{list_all}
use Rattle.ss_ast.specs.Programs.{ProgramTree}
use Rattle.ss_core.specs.Tree.{BodyTree, CoreTree}
use Rattle.ss_core.specs.Chain.{is_declared, IsChain, NoAlso, IsWithinLimits}
use Rattle.ss_resolver_rules.specs.Programs.{resolved}
use Rattle.ss_expand_rules.specs.Elaborated.{elaborated}
use Rattle.ss_store_rules.specs.Locals.{types_of}
use Rattle.ss_store_rules.specs.Typed.{are_declared, is_constructor_of, body_at, table}
use Rattle.ss_store_rules.specs.Construction.{if_delayed, has_delayed_base}
use Rattle.ss_store_rules.specs.Tables.{is_method, is_method_of, table_above}
use Rattle.ss_store_rules.specs.Paths.{reaches_end}
use Rattle.ss_store_rules.specs.Formed.{has_flags, IsMain}

-- the core program that a program means
abbrev pub core_of : ProgramTree → CoreTree
core_of p = elaborated (resolved p)

-- it holds of each body
abbrev pub OfEach : CoreTree → (BodyTree → Type 0) → Type 0
OfEach c P = (n : ℕ) (b : BodyTree) → body_at c n ≡ Some b → P b

-- the end of its code can't be reached
abbrev pub EndsInReturn : CoreTree → Type 0
EndsInReturn c = OfEach c (λ b. reaches_end b.code ≡ false)

-- the classes above a class are in range and end in `object`
abbrev pub HasChain : CoreTree → Type 0
HasChain c = IsChain c.classes

-- no type stands beside the classes above
abbrev pub HasNothingBeside : CoreTree → Type 0
HasNothingBeside c = NoAlso c.classes

-- there are not too many classes, nor fields of one object
abbrev pub HasLimits : CoreTree → Type 0
HasLimits c = IsWithinLimits c.classes

-- it is of a declared class
abbrev pub HaveClasses : CoreTree → Type 0
HaveClasses c = OfEach c (λ b. is_declared c.classes b.class ≡ true)

-- a constructor has a `this` and no result, and constructors alone are delayed
abbrev pub HaveFlags : CoreTree → Type 0
HaveFlags c = OfEach c (λ b. has_flags b ≡ true)

-- its parameters and its result have types of the table, and none has that of null
abbrev pub HaveParamTypes : CoreTree → Type 0
HaveParamTypes c = OfEach c (λ b. are_declared c.classes (types_of b.params) ≡ true)

abbrev pub HaveResultTypes : CoreTree → Type 0
HaveResultTypes c = OfEach c (λ b. are_declared c.classes (option_to_list b.result) ≡ true)

-- each class has one constructor
abbrev pub HaveConstructors : CoreTree → Type 0
HaveConstructors c = (t : ℕ) → is_declared c.classes t ≡ true → count_by (is_constructor_of t) c.bodies ≡ 1

-- the number of Main is that of a body, which is static, has no parameter or one for the input, and no result
abbrev pub HasMain : CoreTree → Type 0
HasMain c = (b : BodyTree) × (body_at c c.main ≡ Some b) × IsMain b

-- The table of each class:

-- it names methods of its names, of the class and of those above it
abbrev pub HaveTableMethods : CoreTree → Type 0
HaveTableMethods c = (t : ℕ) → is_declared c.classes t ≡ true → list_all (λ e. is_method c.classes t e (body_at c e.body)) (table c.classes t) ≡ true

-- it begins with the names of the table above, in their order
abbrev pub HaveTableNames : CoreTree → Type 0
HaveTableNames c = (t : ℕ) → is_declared c.classes t ≡ true → map (λ e. e.name) (take (length (table_above c t)) (table c.classes t)) ≡ map (λ e. e.name) (table_above c t)

-- after them stand methods of the class itself
abbrev pub HaveOwnMethods : CoreTree → Type 0
HaveOwnMethods c = (t : ℕ) → is_declared c.classes t ≡ true → list_all (λ e. is_method_of t (body_at c e.body)) (drop (length (table_above c t)) (table c.classes t)) ≡ true

-- the constructor above a delayed one is delayed
abbrev pub HaveDelayedBase : CoreTree → Type 0
HaveDelayedBase c = OfEach c (λ b. if_delayed b (has_delayed_base c b) ≡ true)
