-- What holds of the `this` of constructors along their paths: which of its fields have their values, and whether it is ready.
use Rattle.std.specs.Prelude.{◌≡◌, List, [], ◌∷◌, ◌++◌, Bool, true, false, not, ◌&&◌, ◌||◌, if◌then◌else◌, Option, Some, None}
use Rattle.std.specs.List.{list_all}
use Rattle.ss_core.specs.Tree.{ClassTree, ExprTree, Base, BaseConstructor, StmtTree, AssignStmt, WriteStmt, WriteElementStmt, NewStmt, CallStmt, ReadyStmt, ReturnStmt, BodyTree, CoreTree}
use Rattle.ss_core.specs.Chain.{all_fields}
use Rattle.ss_store_rules.specs.Values.{Setting, local_value}
use Rattle.ss_store_rules.specs.Locals.{receiver}
use Rattle.ss_store_rules.specs.Typed.{body_at}
use Rattle.ss_store_rules.specs.Good.{IsReady}
use Rattle.ss_store_rules.specs.Paths.{Flow, Check}
use Rattle.ss_store_rules.specs.NonNull.{Known, is_this_object}
use Rattle.ss_store_rules.specs.Construction.{is_base_or_ready, has_fields_from, has_own_fields, has_all_fields}

-- ---- fields that have their values

abbrev pub has_every_field : List ClassTree → Known → Bool
has_every_field cs k = has_fields_from (λ t. true) k.fields 0 (all_fields cs)

-- At a return those of the class and those above it, or all where it isn't delayed; one that isn't delayed has those of the class before
-- `base(..)`, and those above too before `ready this`.
abbrev pub fields_asked : CoreTree → BodyTree → StmtTree → Known → Bool
fields_asked c b (ReturnStmt p e) k = if b.flags.delayed then has_all_fields c.classes b.class k else has_every_field c.classes k
fields_asked c b (CallStmt p x (BaseConstructor n) es) k = b.flags.delayed || has_own_fields c.classes b.class k
fields_asked c b (ReadyStmt p) k = not b.flags.delayed && has_all_fields c.classes b.class k
fields_asked c b s k = true

-- in constructors alone `base(..)` and `ready this` stand
abbrev pub fields_check : CoreTree → BodyTree → Check Known
fields_check c b = record {
  statement = λ s k. if b.flags.ctor then fields_asked c b s k else not (is_base_or_ready s);
  test = λ e k. true;
}

-- ---- whether `this` is ready

abbrev pub is_undelayed : Option BodyTree → Bool
is_undelayed None = false
is_undelayed (Some b) = not b.flags.delayed

-- after it `this` is ready
abbrev pub makes_ready : CoreTree → StmtTree → Bool
makes_ready c (ReadyStmt p) = true
makes_ready c (CallStmt p x (BaseConstructor n) es) = is_undelayed (body_at c n)
makes_ready c s = false

abbrev pub ready_flow : CoreTree → Flow Bool
ready_flow c = record {
  after = λ s r. r || makes_ready c s;
  tested = λ e v r. r;
  meet = λ q r. q && r;
  head = λ s r. r;
}

-- the expressions whose values the statement passes on
abbrev pub passed_on : StmtTree → List ExprTree
passed_on (AssignStmt p x e) = e ∷ []
passed_on (WriteStmt p o f m t e) = e ∷ []
passed_on (WriteElementStmt p a i e) = e ∷ []
passed_on (NewStmt p x t es) = es
passed_on (CallStmt p x callee es) = receiver callee ++ es
passed_on s = []

-- a method of the class above gets `this`
abbrev pub enters_base : StmtTree → Bool
enters_base (CallStmt p x (Base n) es) = true
enters_base s = false

abbrev pub keeps_this : StmtTree → Bool
keeps_this s = not (enters_base s) && list_all (λ e. not (is_this_object e)) (passed_on s)

-- `this` is passed on only where it is ready, and one that isn't delayed has made it ready at each return
abbrev pub ready_asked : BodyTree → StmtTree → Bool → Bool
ready_asked b (ReturnStmt p e) r = b.flags.delayed || r
ready_asked b s r = r || keeps_this s

abbrev pub ready_check : BodyTree → Check Bool
ready_check b = record { statement = λ s r. not b.flags.ctor || ready_asked b s r; test = λ e r. true }

-- where it is known to be so, the `this` of a constructor is ready
abbrev pub IsThisReady : Bool → Bool → Setting → Type 0
IsThisReady constructs r x = constructs ≡ true → r ≡ true → IsReady x.store (local_value x 0)
