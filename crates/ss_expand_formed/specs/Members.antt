-- The parts of a formed core program on what classes and bodies declare, which the elaboration of an accepted program has.
use Rattle.std.specs.Prelude.{◌≡◌, true}
use Rattle.std.specs.List.{list_all}
use Rattle.ss_core.specs.Tree.{CoreTree}
use Rattle.ss_store_rules.specs.Typed.{is_field, is_local}
use Rattle.ss_store_rules.specs.Construction.{requires_nothing_of_this}
use Rattle.ss_ast.specs.Programs.{ProgramTree}
use Rattle.ss_resolver_rules.specs.Programs.{resolved}
use Rattle.ss_expand_formed.specs.Laws.{core_of, OfEach}

-- fields are never of the type of null, and those of references alone are marked
abbrev pub HaveFields : CoreTree → Type 0
HaveFields c = list_all (λ t. list_all (is_field c.classes) t.fields) c.classes ≡ true

-- so are parameters, and those of references alone are captured
abbrev pub HaveParams : CoreTree → Type 0
HaveParams c = OfEach c (λ b. list_all (is_local c.classes) b.params ≡ true)

-- a written condition at entry says nothing of the `this` of a constructor
abbrev pub RequireNothingOfThis : CoreTree → Type 0
RequireNothingOfThis c = OfEach c (λ b. requires_nothing_of_this b ≡ true)

-- the locals that a body declares have types of the table, and none has that of null
abbrev pub HaveDeclaredTypes : ProgramTree → Type 0
HaveDeclaredTypes p = list_all (λ b. list_all (is_local (core_of p).classes) b.locals) (resolved p).bodies ≡ true
