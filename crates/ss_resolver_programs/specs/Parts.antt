-- What a body has besides its heading.
use Rattle.std.specs.Prelude.{◌≡◌, List, map, codes}
use Rattle.ss_ast.specs.Statements.{BlockTree}
use Rattle.ss_ast.specs.Programs.{ParamTree, ClauseTree, ClassTree}
use Rattle.ss_core.specs.View.{local_of}
use Rattle.ss_tables.specs.Members.{has_attribute}
use Rattle.ss_typed.specs.Tree as typed
use Rattle.ss_typed.specs.View as view
use Rattle.ss_resolver_rules.specs.Numbers.{type_id}
use Rattle.ss_resolver_rules.specs.Names.{Env}
use Rattle.ss_resolver_rules.specs.Statements as resolved
use Rattle.ss_resolver_rules.specs.Programs.{param, locals, entry_in, exit_in, modifies_in}
use Rattle.ss_resolver_programs.specs.declared.bodies.Parts.{Parts}
use Rattle.ss_resolver_programs.specs.Terms.{terms_of}

-- a parameter, within the classes of a program
abbrev pub param_in : List ClassTree → ParamTree → typed.ParamTree
param_in cs p = record {
  name = p.name.text;
  place = p.name.place;
  ty = type_id cs p.ty;
  captured = has_attribute (codes "Captured") p.attributes;
  attributes = p.attributes;
}

-- the parts of a body with these parameters, clauses and statements, in this environment
pub record AreParts (e : Env) (ps : List ParamTree) (cs : List ClauseTree) (b : BlockTree) (p : Parts) : Type 0 where
  pub params : map view.param p.params.items ≡ map (param e) ps
  pub locals : map local_of p.locals.items ≡ locals e b
  pub entry : view.exprs p.entry.items ≡ entry_in e cs
  pub exit : view.exprs p.exit.items ≡ exit_in e cs
  pub modifies : terms_of p.modifies ≡ modifies_in e cs
  pub block : view.block p.block ≡ resolved.block e b
