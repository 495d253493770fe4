use Rattle.std.proofs.Common.{◌≡◌, ◌+◌, ◌<◌, ◌++◌, length, vec_capacity, OnOk, OnErr, subst}
use Rattle.ss_core.specs.View.{classes}
use Rattle.ss_store.proofs.NewSlots.{new_fields-upto}
use Rattle.ss_store.proofs.fields.push_fields.Goals as goal

pub returns-clause-pushed : goal.returns-clause-pushed
returns-clause-pushed c = subst (λ xs. OnOk c.push_levels.result (c.push_levels.new.slots.items ≡ c.args.slots.now.items ++ xs)) (new_fields-upto (classes c.args.k.now) c.args.c.0) c.push_levels.ensures.pushed

pub returns-clause-full : goal.returns-clause-full
returns-clause-full c = subst (λ xs. OnErr c.push_levels.result (vec_capacity c.args.slots.now < length c.args.slots.now.items + length xs)) (new_fields-upto (classes c.args.k.now) c.args.c.0) c.push_levels.ensures.full
