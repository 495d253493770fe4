use Rattle.std.proofs.Common.{◌∙◌, arith}
use Rattle.std.proofs.lemmas.List.{length_push}
use Rattle.ss_deriv.specs.Drafts.{place_of}
use Rattle.ss_deriv.proofs.Places.{place_after-push}
use Rattle.ss_deriv.proofs.draft.Draft.add.Goals as goal

pub after-cases-requires-clause-place : goal.after-cases-requires-clause-place
after-cases-requires-clause-place c =
    rw (← c.self.view_is, place_after-push c.self.inside.lines.items c.args.line (place_of c.self.inside.cases) c.self.invariant.0) at c.requires

pub invariant_of-self-2 : goal.invariant_of-self-2
invariant_of-self-2 c = (
  rw c.in_ok-push.ensures.items (place_after-push c.self.inside.lines.items c.args.line (place_of c.self.inside.cases) c.self.invariant.0 ∙ c.after-cases.ensures.place),
  rw (c.in_ok-push.ensures.items, length_push c.self.inside.lines.items c.args.line) (omega arith),
)
