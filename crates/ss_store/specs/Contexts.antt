-- What an expression is read in, as the definitions see it.
use Rattle.std.specs.Prelude.{List}
use Rattle.ss_core.specs.View.{classes}
use Rattle.ss_store_rules.specs.Store.{Object}
use Rattle.ss_store_rules.specs.Values.{Setting}
use Rattle.ss_store.specs.Names.{values}
use Rattle.ss_store.specs.declared.context.Context.{Context}

-- `told` is the store that what was before stands for
abbrev pub setting_of : {B : Type 0} → (B → List Object) → Context B → Setting
setting_of told x = record {
  classes = classes x.classes.now;
  store = x.store.now.objects;
  entry = told x.entry.now;
  inside_old = x.inside_old;
  locals = values x.names.now;
}
