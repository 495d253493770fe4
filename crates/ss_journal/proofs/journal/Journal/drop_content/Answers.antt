use Rattle.std.proofs.Common.{◌≡◌, true, ◌-◌, length, take, reverse, ap, subst, sym, ◌∙◌, arith}
use Rattle.std.specs.Prelude.{not, nat_lt, is_some, ◌||◌}
use Rattle.ss_journal.specs.Shapes.{OldContent}
use Rattle.ss_journal.specs.Undo.{content_of, count_of, contents_of}
use Rattle.ss_journal.specs.Marks.{segments}
use Rattle.ss_journal.specs.Saved.{AreSame}
use Rattle.ss_journal.proofs.Marks.{content_trimmed}
use Rattle.ss_journal.proofs.Running.{last_split, new_or, or_has, content_less}
use Rattle.ss_journal.proofs.journal.Journal.drop_content.Goals.{else-last-count-via-then-last-count+else-not-repeats_content, else-last-count-via-else-last-count}
use Rattle.ss_journal.proofs.journal.Journal.drop_content.Goals as goal

pub invariant_of-self : goal.invariant_of-self
invariant_of-self c =
    let j = c.self.inside in
    let old = c.in-Some.last.now in
    let these = c.contents.result.now in
    let before = take (length these - 1) these in
    let all = sym c.contents.ensures ∙ last_split these old c.in-Some.ensures.value in
    let has : (not (nat_lt old.position c.count.result) || is_some (content_of before old.position)) ≡ true =
    elim c.else-last-count.branch [
      | else-last-count-via-then-last-count+else-not-repeats_content w ↦ or_has (not (nat_lt old.position c.count.result)) (is_some (content_of before old.position)) (sym (w.if-not-repeats_content.ensures before old all))
      | else-last-count-via-else-last-count w ↦ new_or old.position c.count.result (is_some (content_of before old.position)) (let l = w.if-last-count.false in let e = ap (λ (o : OldContent). o.position) c.last-2.view_is in omega (arith, l, e))
    ] in
    let trimmed = content_trimmed (reverse j.marks.items) j.headers.items j.contents.items c.pop.new.self.items before old c.count.result (ap contents_of c.self.view_is ∙ all) (c.count.ensures ∙ ap count_of (sym c.self.view_is)) c.self.invariant.within has (c.pop.ensures.rest ∙ ap (λ n. take (n - 1) j.contents.items) j.contents.ok.0) in
    record {
      within = trimmed.0;
      contents = content_less j.contents.items c.pop.new.self.items j.content_places c.pop-2.new.self (c.pop.ensures.rest ∙ ap (λ n. take (n - 1) j.contents.items) j.contents.ok.0) c.self.invariant.contents c.pop-2.ensures;
      headers = c.self.invariant.headers;
    }

pub returns : goal.returns
returns c =
    let j = c.self.inside in
    let old = c.in-Some.last.now in
    let these = c.contents.result.now in
    let before = take (length these - 1) these in
    let all = sym c.contents.ensures ∙ last_split these old c.in-Some.ensures.value in
    let has : (not (nat_lt old.position c.count.result) || is_some (content_of before old.position)) ≡ true =
    elim c.else-last-count.branch [
      | else-last-count-via-then-last-count+else-not-repeats_content w ↦ or_has (not (nat_lt old.position c.count.result)) (is_some (content_of before old.position)) (sym (w.if-not-repeats_content.ensures before old all))
      | else-last-count-via-else-last-count w ↦ new_or old.position c.count.result (is_some (content_of before old.position)) (let l = w.if-last-count.false in let e = ap (λ (o : OldContent). o.position) c.last-2.view_is in omega (arith, l, e))
    ] in
    let trimmed = content_trimmed (reverse j.marks.items) j.headers.items j.contents.items c.pop.new.self.items before old c.count.result (ap contents_of c.self.view_is ∙ all) (c.count.ensures ∙ ap count_of (sym c.self.view_is)) c.self.invariant.within has (c.pop.ensures.rest ∙ ap (λ n. take (n - 1) j.contents.items) j.contents.ok.0) in
    subst (λ gs. AreSame gs (segments (reverse j.marks.items) j.headers.items c.pop.new.self.items)) c.self.view_is trimmed.1
