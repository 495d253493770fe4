use Rattle.std.proofs.Common.{◌≡◌, true, ◌-◌, length, take, reverse, ap, subst, sym, ◌∙◌, arith}
use Rattle.std.specs.Prelude.{not, nat_lt, is_some, ◌||◌}
use Rattle.ss_journal.specs.Undo.{header_of, count_of, headers_of}
use Rattle.ss_journal.specs.Marks.{segments}
use Rattle.ss_journal.specs.Saved.{AreSame}
use Rattle.ss_journal.proofs.Marks.{header_trimmed}
use Rattle.ss_journal.proofs.Running.{last_split, new_or, or_has, header_less}
use Rattle.ss_journal.proofs.journal.Journal.drop_header.Goals.{else-last-count-via-then-last-count+else-not-repeats_header, else-last-count-via-else-last-count}
use Rattle.ss_journal.proofs.journal.Journal.drop_header.Goals as goal

pub invariant_of-self : goal.invariant_of-self
invariant_of-self c =
    let j = c.self.inside in
    let old = c.in-Some.last.now in
    let these = c.headers.result.now in
    let before = take (length these - 1) these in
    let all = sym c.headers.ensures ∙ last_split these old c.in-Some.ensures.value in
    let has : (not (nat_lt old.position c.count.result) || is_some (header_of before old.position)) ≡ true =
    elim c.else-last-count.branch [
      | else-last-count-via-then-last-count+else-not-repeats_header w ↦ or_has (not (nat_lt old.position c.count.result)) (is_some (header_of before old.position)) (sym (w.if-not-repeats_header.ensures before old all))
      | else-last-count-via-else-last-count w ↦ new_or old.position c.count.result (is_some (header_of before old.position)) (let l = w.if-last-count.false in omega (arith, l))
    ] in
    let trimmed = header_trimmed (reverse j.marks.items) j.headers.items c.pop.new.self.items j.contents.items before old c.count.result (ap headers_of c.self.view_is ∙ all) (c.count.ensures ∙ ap count_of (sym c.self.view_is)) c.self.invariant.within has (c.pop.ensures.rest ∙ ap (λ n. take (n - 1) j.headers.items) j.headers.ok.0) in
    record {
      within = trimmed.0;
      headers = header_less j.headers.items c.pop.new.self.items j.header_places c.pop-2.new.self (c.pop.ensures.rest ∙ ap (λ n. take (n - 1) j.headers.items) j.headers.ok.0) c.self.invariant.headers c.pop-2.ensures;
      contents = c.self.invariant.contents;
    }

pub returns : goal.returns
returns c =
    let j = c.self.inside in
    let old = c.in-Some.last.now in
    let these = c.headers.result.now in
    let before = take (length these - 1) these in
    let all = sym c.headers.ensures ∙ last_split these old c.in-Some.ensures.value in
    let has : (not (nat_lt old.position c.count.result) || is_some (header_of before old.position)) ≡ true =
    elim c.else-last-count.branch [
      | else-last-count-via-then-last-count+else-not-repeats_header w ↦ or_has (not (nat_lt old.position c.count.result)) (is_some (header_of before old.position)) (sym (w.if-not-repeats_header.ensures before old all))
      | else-last-count-via-else-last-count w ↦ new_or old.position c.count.result (is_some (header_of before old.position)) (let l = w.if-last-count.false in omega (arith, l))
    ] in
    let trimmed = header_trimmed (reverse j.marks.items) j.headers.items c.pop.new.self.items j.contents.items before old c.count.result (ap headers_of c.self.view_is ∙ all) (c.count.ensures ∙ ap count_of (sym c.self.view_is)) c.self.invariant.within has (c.pop.ensures.rest ∙ ap (λ n. take (n - 1) j.headers.items) j.headers.ok.0) in
    subst (λ gs. AreSame gs (segments (reverse j.marks.items) c.pop.new.self.items j.contents.items)) c.self.view_is trimmed.1
