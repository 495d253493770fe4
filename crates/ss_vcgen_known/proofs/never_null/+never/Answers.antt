use Rattle.std.proofs.Common.{false, length, refl, sym}
use Rattle.ss_core.specs.View.{expr}
use Rattle.ss_store_rules.specs.NonNull.{is_never_null}
use Rattle.ss_vcgen_known.specs.Views.{type_context_of, known_of, tested}
use Rattle.ss_vcgen_types.proofs.Forms.{link_may}
use Rattle.ss_vcgen_types.proofs.Grouping.{chain_some}
use Rattle.ss_vcgen_known.proofs.never_null.+never.Goals as goal

pub chain_never_null-returns-else-is_empty : goal.chain_never_null-returns-else-is_empty
chain_never_null-returns-else-is_empty t c = λ p.
    let typing = type_context_of c.args.typing in
    let known = tested c.args.tests.now (known_of c.args.known.now) in
    sym (chain_some (is_never_null typing known c.args.old) false (link_may typing known c.args.old) p (expr c.args.first.now) c.args.links.now (length c.args.links.now) refl c.if-is_empty.ensures)
