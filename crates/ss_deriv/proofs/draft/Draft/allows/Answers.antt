use Rattle.ss_deriv.specs.Drafts.{place_of}
use Rattle.ss_deriv.proofs.Places.{place_after-push}
use Rattle.ss_deriv.proofs.draft.Draft.allows.Goals as goal

pub returns : goal.returns
returns c = rw (← c.self.view_is, place_after-push c.self.inside.lines.items c.args.line.now (place_of c.self.inside.cases) c.self.invariant.0) c.allow.ensures
