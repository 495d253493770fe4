-- What the values of the code stand for.
use Rattle.std.specs.Prelude.{Option, option_map}
use Rattle.ss_bit_set.specs.Marked.{marked}
use Rattle.ss_paths_assigned.specs.Codes.{numbers_of, assigned_of}
use Rattle.ss_typed.specs.View.{typed}
use Rattle.ss_nonnull_rules.specs.NonNull.{NullContext, Known}
use Rattle.ss_paths.specs.Sets.{among}
use Rattle.ss_nonnull_seen.specs.declared.known.Known.{Known as CodeKnown}
use Rattle.ss_nonnull_seen.specs.declared.context.NullContext.{NullContext as CodeContext}
use Rattle.ss_nonnull_seen.specs.declared.seen.Seen.{Seen as CodeSeen}
use Rattle.ss_nonnull_seen.specs.Seen.{Seen}

abbrev pub known_of : CodeKnown → Known
known_of k = record { facts = marked k.facts; fields = assigned_of k.fields }

abbrev pub path_of : Option CodeKnown → Option Known
path_of k = option_map known_of k

abbrev pub context_of : CodeContext → NullContext
context_of s = record {
  program = typed s.program.now;
  class = s.class;
  numbers = numbers_of s.numbers;
  constructs = s.constructs;
  in_old = s.in_old;
  result = s.result;
}

abbrev pub seen_of : CodeSeen → Seen
seen_of v = record {
  place = v.place;
  ty = v.ty;
  is_this = v.is_this;
  is_null = v.is_null;
  is_true = v.is_true;
  never_null = v.never_null;
  local = v.local;
  holds = among v.holds.items;
  fails = among v.fails.items;
}
