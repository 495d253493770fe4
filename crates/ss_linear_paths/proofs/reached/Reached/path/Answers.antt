use Rattle.std.proofs.Common.{ℕ, ◌∙◌, ap}
use Rattle.std.specs.Prelude.{Vec}
use Rattle.std.specs.declared.alloc.Global.{Global}
use Rattle.ss_linear_paths.proofs.Walking.{there}
use Rattle.ss_linear_paths.proofs.reached.Reached.path.Goals as goal

pub returns : goal.returns
returns c = c.deref.ensures.value ∙ ap (λ (w : Vec ℕ Global). w.items) c.index.ensures ∙ there c.args.self.now.paths.items c.args.v c.index.result.now c.requires
