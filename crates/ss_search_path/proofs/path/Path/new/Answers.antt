use Rattle.ss_search_path.specs.declared.path.Path.{Path}
use Rattle.ss_search_path.proofs.Going.{path_starts}
use Rattle.ss_search_path.proofs.path.Path.new.Goals as goal

pub returns-clause-path : goal.returns-clause-path
returns-clause-path c = λ cs premises goal b.
    let p : Path = record { before = c.new-before.result; behind = c.new-behind.result; known = c.new-known.result } in
    path_starts cs premises goal b p c.new-before.ensures.items c.new-behind.ensures.items c.new-known.ensures.items
