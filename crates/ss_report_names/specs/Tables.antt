-- Tables that are made once: the names of all fields, and the texts of a body's locals.
use Rattle.std.specs.Prelude.{◌≡◌, ℕ, List, [], ◌∷◌, ◌++◌, map, string_bytes, bytes_eq}
use Rattle.std.specs.Borrow.{Bor}
use Rattle.std.specs.HashSet.{contains_by}
use Rattle.ss_core.specs.Tree.{ClassTree}
use Rattle.ss_report_names.specs.Names.{is_among, texts_from}
use Rattle.ss_report_names.specs.declared.locals.Table.{Table}

abbrev pub texts : List (Bor (List ℕ)) → List (List ℕ)
texts ns = map (λ n. n.now) ns

-- the names of the fields of these classes, in order of declaration
abbrev pub field_names : List ClassTree → List (List ℕ)
field_names [] = []
field_names (k ∷ ks) = map (λ f. f.name) k.fields ++ field_names ks

-- the table has the texts of these names, and knows these names
pub record IsTable (names : List (List ℕ)) (t : Table) : Type 0 where
  pub texts : map string_bytes t.texts.items ≡ texts_from [] names
  pub known : (q : List ℕ) → contains_by (λ k. bytes_eq q k.now) t.known ≡ is_among names q
