use Rattle.std.proofs.Common.{ap, sym, ◌∙◌, Some}
use Rattle.ss_terms.specs.Forms.{term_at}
use Rattle.ss_rules_basic.proofs.Shapes.{split_other, split_sorted}
use Rattle.ss_rules_basic.proofs.owners.split_two.Goals as goal

pub returns-then-number-ne1-clause-at : goal.returns-then-number-ne1-clause-at
returns-then-number-ne1-clause-at c cs bank =
    let b = c.args.b.now in
    let l = c.in-Some.left in
    let r = c.in-Some-pair_parts.right in
    split_other cs c.args.number (term_at b c.args.p) (term_at b c.args.q) (term_at b l.0) (term_at b l.1) (term_at b r.0) (term_at b r.1) c.in-Some.ensures.2 c.in-Some-pair_parts.ensures.2 c.if-number-ne1.true

pub returns-then-not-have_sorts-clause-at : goal.returns-then-not-have_sorts-clause-at
returns-then-not-have_sorts-clause-at c cs bank =
    let b = c.args.b.now in
    let l = c.in-Some.left in
    let r = c.in-Some-pair_parts.right in
    split_sorted cs c.args.number (term_at b c.args.p) (term_at b c.args.q) (term_at b l.0) (term_at b l.1) (term_at b r.0) (term_at b r.1) c.in-Some.ensures.2 c.in-Some-pair_parts.ensures.2 _ c.if-number-ne1.false (c.if-not-have_sorts.ensures cs bank)

pub returns-clause-at : goal.returns-clause-at
returns-clause-at c cs bank =
    let b = c.args.b.now in
    let l = c.in-Some.left in
    let r = c.in-Some-pair_parts.right in
    let same = split_sorted cs c.args.number (term_at b c.args.p) (term_at b c.args.q) (term_at b l.0) (term_at b l.1) (term_at b r.0) (term_at b r.1) c.in-Some.ensures.2 c.in-Some-pair_parts.ensures.2 _ c.if-number-ne1.false (c.if-not-have_sorts.ensures cs bank) in
    (c.in_ok-f.ensures.at.0, same ∙ sym (ap Some c.in_ok-f.ensures.at.1))
