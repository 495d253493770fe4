use Rattle.ss_core.specs.View.{classes, field_of}
use Rattle.ss_core.specs.Chain.{in_class}
use Rattle.ss_store.proofs.Numbers.{not_no_class}
use Rattle.ss_store.proofs.writes.declaration.Goals as goal

pub returns-in-Some-clause-told : goal.returns-in-Some-clause-told
returns-in-Some-clause-told c = not_no_class (classes c.args.k.now) c.args.f.0 (in_class c.in-Some.t.0 (field_of c.in-Some.field.now)) c.requires c.in-Some.ensures
