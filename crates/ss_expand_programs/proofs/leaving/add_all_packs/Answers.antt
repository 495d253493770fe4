use Rattle.std.proofs.Common.{◌++◌, List, map, refl, ap, ◌∙◌, append_assoc}
use Rattle.std.specs.Prelude.{reverse}
use Rattle.ss_core.specs.Tree as core
use Rattle.ss_expand_rules.specs.Statements.{pack_of, pack_this}
use Rattle.ss_expand_expressions.specs.Sources.{stmts_of}
use Rattle.ss_expand_bodies.specs.Exposes.{opened_of}
use Rattle.ss_expand_lifting.specs.Contexts.{context_of}
use Rattle.ss_expand_programs.proofs.leaving.add_all_packs.Goals as goal

pub returns : goal.returns
returns c =
    let s = context_of c.args.context.now in
    let before = stmts_of c.args.code.now.statements in
    let last = pack_this s c.args.place in
    c.in_ok-add_pack_this.ensures s refl
    ∙ ap (λ (x : List core.StmtTree). x ++ last) (c.in_ok-add_packs.ensures ∙ ap (λ os. before ++ map pack_of (reverse (map opened_of os))) c.deref.ensures.value)
    ∙ append_assoc before (map pack_of (reverse s.exposes)) last
