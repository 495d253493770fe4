use Rattle.ss_search_path.proofs.path.Path.undo.Goals as goal

pub returns : goal.returns
returns c = record { before = c.truncate.ensures.items; behind = c.truncate-2.ensures.items; known = c.truncate-3.ensures.items }
