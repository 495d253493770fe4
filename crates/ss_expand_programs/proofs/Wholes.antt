-- Bodies of equal parts.
use Rattle.std.proofs.Common.{◌≡◌, ℕ, List, Option, ap, ◌∙◌}
use Rattle.ss_core.specs.declared.names.Place.{Place}
use Rattle.ss_core.specs.declared.names.Ty.{Ty}
use Rattle.ss_core.specs.declared.body.BodyFlags.{BodyFlags}
use Rattle.ss_core.specs.Tree as core

abbrev pub body_with : ℕ → List ℕ → List core.LocalTree → List core.LocalTree → Option Ty → List core.ExprTree → List core.ExprTree → List core.NamedTree → BodyFlags → core.CodeTree → Place → core.BodyTree
body_with class name params locals result entry exit named flags code place = record {
  class = class;
  name = name;
  params = params;
  locals = locals;
  result = result;
  entry = entry;
  exit = exit;
  named = named;
  flags = flags;
  code = code;
  place = place;
}

pub same_body : (class : ℕ) (name name' : List ℕ) (params params' locals locals' : List core.LocalTree) (result : Option Ty) (entry entry' exit exit' : List core.ExprTree)
    (named named' : List core.NamedTree) (flags flags' : BodyFlags) (code code' : core.CodeTree) (place : Place)
    → name ≡ name' → params ≡ params' → locals ≡ locals' → entry ≡ entry' → exit ≡ exit' → named ≡ named' → flags ≡ flags' → code ≡ code'
    → body_with class name params locals result entry exit named flags code place ≡ body_with class name' params' locals' result entry' exit' named' flags' code' place
same_body class name name' params params' locals locals' result entry entry' exit exit' named named' flags flags' code code' place e1 e2 e3 e4 e5 e6 e7 e8 =
    ap (λ x. body_with class x params locals result entry exit named flags code place) e1
    ∙ ap (λ x. body_with class name' x locals result entry exit named flags code place) e2
    ∙ ap (λ x. body_with class name' params' x result entry exit named flags code place) e3
    ∙ ap (λ x. body_with class name' params' locals' result x exit named flags code place) e4
    ∙ ap (λ x. body_with class name' params' locals' result entry' x named flags code place) e5
    ∙ ap (λ x. body_with class name' params' locals' result entry' exit' x flags code place) e6
    ∙ ap (λ x. body_with class name' params' locals' result entry' exit' named' x code place) e7
    ∙ ap (λ x. body_with class name' params' locals' result entry' exit' named' flags' x place) e8
