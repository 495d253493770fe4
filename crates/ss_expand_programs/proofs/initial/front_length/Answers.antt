use Rattle.std.proofs.Common.{◌≡◌, map, take, drop, sym, ap, ◌∙◌}
use Rattle.std.specs.Prelude.{if◌then◌else◌}
use Rattle.std.specs.List.{prefix_len}
use Rattle.std.proofs.lemmas.List.{take-map, drop-map}
use Rattle.ss_typed.specs.Tree.{Before, stmt_trees, TypedTree}
use Rattle.ss_typed.specs.View as typed
use Rattle.ss_paths.specs.Opening.{is_first}
use Rattle.ss_expand_rules.specs.Constructors.{after_initial, before_all}
use Rattle.ss_expand_rules.specs.Ends.{all_can_end}
use Rattle.ss_expand_programs.proofs.Lists.{split_initial, front_ends}
use Rattle.ss_expand_programs.proofs.initial.front_length.Goals as goal

pub returns : goal.returns
returns c =
    let p = typed.typed c.args.program.now in
    let b = typed.body c.args.body.now in
    let ss = c.args.stmts.now in
    let trees = map typed.stmt_of ss in
    let n = c.count_first-count.result in
    let counted : n ≡ prefix_len (is_first p b.class) trees =
    c.count_first-count.ensures.counted ∙ ap (λ (q : TypedTree). prefix_len (is_first q b.class) trees) c.in_ok-fields.ensures in
    record {
      within = c.count_first-count.ensures.within;
      split = λ s.
          ap (λ d. if d then Before s (stmt_trees trees) else after_initial p b.class s (stmt_trees trees)) c.if-body.false
          ∙ split_initial p b.class s trees
          ∙ ap (λ k. before_all (stmt_trees (take k trees)) (Before s (stmt_trees (drop k trees)))) (sym counted)
          ∙ ap (λ xs. before_all (stmt_trees xs) (Before s (stmt_trees (drop n trees)))) (take-map typed.stmt_of n ss)
          ∙ ap (λ xs. before_all (stmt_trees (map typed.stmt_of (take n ss))) (Before s (stmt_trees xs))) (drop-map typed.stmt_of n ss);
      ends =
          ap (λ xs. all_can_end (stmt_trees xs)) (sym (take-map typed.stmt_of n ss))
          ∙ ap (λ k. all_can_end (stmt_trees (take k trees))) counted
          ∙ front_ends p b.class trees;
    }
