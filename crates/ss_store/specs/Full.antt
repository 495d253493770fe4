-- Which objects are asked to be at their full level.
use Rattle.std.specs.Prelude.{ℕ, Bool, not, ◌||◌}
use Rattle.ss_core.specs.View.{classes}
use Rattle.ss_store_rules.specs.Store.{Object}
use Rattle.ss_store_rules.specs.Reads.{is_full, is_in_group, is_pair_upto}
use Rattle.ss_store.specs.declared.defaults.Those.{Those}
use Rattle.ss_store.specs.declared.defaults.Those.TheVariants as those

-- the object isn't one of those, or is at its full level
abbrev pub is_full_among : Those → Object → Bool
is_full_among (those.OwnedUpto table o t) x = not (is_pair_upto (classes table.now) o t.0 x.owner) || is_full x
is_full_among (those.Members g) x = not (is_in_group g x.owner) || is_full x

-- the position of the object that holds them
abbrev pub holder_of : Those → ℕ
holder_of (those.OwnedUpto table o t) = o
holder_of (those.Members g) = g
