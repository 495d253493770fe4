use Rattle.std.proofs.Common.{ap, ◌∙◌, map, string_bytes, arith}
use Rattle.std.proofs.lemmas.List.{map-append, length-map}
use Rattle.ss_report_names.proofs.LocalTexts.{one_more, one_more_known}
use Rattle.ss_report_names.proofs.locals.Table.add.Goals as goal

pub returns : goal.returns
returns c = λ earlier before. record {
  texts = ap (map string_bytes) c.in_ok-push.ensures.items
      ∙ map-append string_bytes c.args.self.now.texts.items _
      ∙ one_more earlier _ c.args.name.now _ _ _ before.texts (c.contains-repeated.ensures ∙ before.known c.args.name.now) (simp length-map (omega arith)) c.in_ok-text.ensures;
  known = λ q. one_more_known earlier c.args.name.now q _ _ (c.in_ok-insert.ensures.updates.0 (record { ref_ptr = (0, 0); now = q })) (before.known q);
}
