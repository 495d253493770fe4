-- What the values of the code stand for.
use Rattle.std.specs.Prelude.{List, ℕ, Option, map, option_map, string_bytes, String}
use Rattle.std.specs.Borrow.{Bor}
use Rattle.std.specs.declared.alloc.Global.{Global}
use Rattle.ss_ast.specs.Expressions.{name_tree}
use Rattle.ss_tables_lookup.specs.Views.{type_of}
use Rattle.ss_tables_scopes.specs.Views.{receiver_of}
use Rattle.ss_resolver_scoping.specs.declared.prefix.Prefix.{Prefix as PrefixCode}
use Rattle.ss_resolver_scoping.specs.declared.prefix.Prefix.TheVariants as prefix
use Rattle.ss_resolver_names_rules.specs.Prefixes.{Prefix, ABareName, ABaseWord, AMember, AnOther}

abbrev pub prefix_view : PrefixCode → Prefix
prefix_view (prefix.Name p n) = ABareName p (string_bytes n.now)
prefix_view prefix.Base = ABaseWord
prefix_view (prefix.Member b r n) = AMember b (receiver_of r) (name_tree n.now)
prefix_view (prefix.Value t) = AnOther (option_map type_of t)

abbrev pub names_of : List (String Global) → List (List ℕ)
names_of ns = map (λ (n : String Global). string_bytes n) ns

-- a borrowed name
abbrev pub text_of : Option (Bor (String Global)) → Option (List ℕ)
text_of n = option_map (λ (s : Bor (String Global)). string_bytes s.now) n
