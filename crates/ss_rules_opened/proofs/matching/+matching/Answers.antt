use Rattle.std.proofs.Common.{arith, sym, ◌∙◌, ◌<◌, length}
use Rattle.ss_core.specs.View as view
use Rattle.ss_terms.specs.Forms.{term_at, terms_at}
use Rattle.ss_terms.proofs.Tested.{AreTermsBelow-get}
use Rattle.ss_rules_opened.proofs.Finding.{closed_match, other_count, arguments_there}
use Rattle.ss_rules_opened.proofs.matching.+matching.Goals as goal

pub all_matched-returns-then-patterns-ts : goal.all_matched-returns-then-patterns-ts
all_matched-returns-then-patterns-ts t c = other_count c.args.context.now.bank.now c.args.found.now c.args.patterns.now c.args.ts.now c.requires.found c.if-patterns-ts.true

pub all_matched-matched-requires : goal.all_matched-matched-requires
all_matched-matched-requires t c =
    let small = AreTermsBelow-get c.args.bound c.args.patterns.now c.loop-i.i (record { 0 = 0 }) c.requires.below c.loop-i-test.true in
    let room = c.requires.in_bank in
    let within : c.loop-i.i < length c.args.ts.now = omega (arith, c.if-patterns-ts.false, c.loop-i-test.true) in
    let d = c.decreases in
    (omega arith, (c.requires.bank, (c.loop-i.invariant.has, (omega arith, AreTermsBelow-get _ c.args.ts.now c.loop-i.i (record { 0 = 0 }) c.requires.terms within))))

pub matched-returns-then-is_well_sorted : goal.matched-returns-then-is_well_sorted
matched-returns-then-is_well_sorted t c =
    closed_match (view.classes c.args.context.now.classes.now) c.args.context.now.bank.now c.args.found.now (term_at c.args.context.now.bank.now c.args.pattern) (term_at c.args.context.now.bank.now c.args.t) c.is_same_term.result c.requires.found
    (sym (c.is_well_sorted.ensures (view.classes c.args.context.now.classes.now) c.requires.bank) ∙ c.if-is_well_sorted.true) c.is_same_term.ensures

pub matched_at-all_matched-requires : goal.matched_at-all_matched-requires
matched_at-all_matched-requires t c =
    let d = c.decreases in
    (omega arith, (c.requires.bank, (c.requires.found, (c.requires.below, (c.requires.in_bank, arguments_there c.args.context.now.bank.now c.args.t c.in-App.g c.in-App.us c.deref.result.now c.deref.ensures.value c.requires.term (rw c.in-App.is at c.term_node.ensures))))))
