-- What the values of the code stand for.
use Rattle.std.specs.Prelude.{option_map}
use Rattle.ss_tables_lookup.specs.Classes.{trees}
use Rattle.ss_tables_lookup.specs.Views.{type_of, declared_method}
use Rattle.ss_tables.specs.Scopes.{Scope}
use Rattle.ss_tables.specs.Statics as statics
use Rattle.ss_tables_scopes.specs.declared.class_context.ClassContext.{ClassContext}
use Rattle.ss_tables_scopes.specs.declared.statics.Receiver.{Receiver}
use Rattle.ss_tables_scopes.specs.declared.statics.Receiver.TheVariants as before
use Rattle.ss_tables_scopes.specs.declared.statics.Callee.{Callee}
use Rattle.ss_tables_scopes.specs.declared.statics.Callee.TheVariants as callee
use Rattle.ss_tables_scopes.specs.Names.{Names, scope_with}

-- the scope of a place with these locals
abbrev pub scope_of : ClassContext → Names → Scope
scope_of w names = scope_with (trees w.tables.now) w.class w.refuses_members w.refuses_this (option_map type_of w.outcome) names

abbrev pub receiver_of : Receiver → statics.Receiver
receiver_of before.Console = statics.TheConsole
receiver_of before.Owner = statics.TheOwner
receiver_of before.Base = statics.TheBase
receiver_of (before.Class k) = statics.AClass k
receiver_of (before.Value t) = statics.AValue (option_map type_of t)

abbrev pub callee_of : Callee → statics.Callee
callee_of (callee.Method k m) = statics.AMethod (declared_method (k, m))
callee_of (callee.Print is_line) = statics.APrint is_line
callee_of (callee.Word n) = statics.AWord n
callee_of callee.Base = statics.ABase
callee_of callee.Nothing = statics.NoCallee
