use Rattle.std.proofs.Common.{◌≡◌, ◌++◌, map, drop}
use Rattle.std.specs.Prelude.{option_map}
use Rattle.std.specs.Borrow.{Bor}
use Rattle.ss_core.specs.declared.class.Class.{Class}
use Rattle.ss_core.specs.View.{class_of}
use Rattle.ss_core.specs.Chain.{fields_of}
use Rattle.ss_typed.specs.View.{field}
use Rattle.ss_nonnull_seen.specs.Codes.{path_of, context_of}
use Rattle.ss_nonnull.specs.Initial.{begun_with, begun_below, each_initial}
use Rattle.ss_nonnull.proofs.initializers.check_initials.Given as goal

abbrev pub invariant-loop-place : goal.invariant-loop-place
invariant-loop-place l = record {
  known : path_of l.known ≡ begun_with (begun_below (map field l.fields) l.place);
  noted : l.found.items ++ each_initial (context_of l.context) (map field l.fields) l.place (map field (drop l.place l.fields)) (drop l.place (fields_of (option_map (λ (c : Bor Class). class_of c.now) l.class)))
      ≡ l.fn.found.items ++ each_initial (context_of l.context) (map field l.fields) 0 (map field l.fields) (fields_of (option_map (λ (c : Bor Class). class_of c.now) l.class));
}
