use Rattle.std.proofs.Common.{◌-◌, length, take, reverse, ap, subst, sym, ◌∙◌}
use Rattle.ss_journal.specs.Undo.{joined}
use Rattle.ss_journal.specs.Marks.{segments, AreWithin}
use Rattle.ss_journal.proofs.Marks.{left_segments, left_within}
use Rattle.ss_journal.proofs.journal.Journal.leave.Goals as goal

pub invariant_of-self : goal.invariant_of-self
invariant_of-self c =
    let j = c.self.inside in
    record {
      within = subst (λ ms. AreWithin (reverse ms) (length j.headers.items) (length j.contents.items)) (sym (c.pop.ensures.rest ∙ ap (λ n. take (n - 1) j.marks.items) j.marks.ok.0)) (left_within j.marks.items (length j.headers.items) (length j.contents.items) c.self.invariant.within);
      headers = c.self.invariant.headers;
      contents = c.self.invariant.contents;
    }

pub returns : goal.returns
returns c =
    let j = c.self.inside in
    ap (λ ms. segments (reverse ms) j.headers.items j.contents.items) (c.pop.ensures.rest ∙ ap (λ n. take (n - 1) j.marks.items) j.marks.ok.0)
    ∙ left_segments j.marks.items j.headers.items j.contents.items c.self.invariant.within
    ∙ ap joined c.self.view_is
