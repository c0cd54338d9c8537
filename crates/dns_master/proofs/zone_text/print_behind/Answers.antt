use Rattle.std.proofs.Common.{◌∙◌, ◌++◌, ◌+◌, ap, refl, subst, drop, List, ℕ}
use Rattle.std.specs.List.{flat_map}
use Rattle.std.specs.Option.{option_map}
use Rattle.std.specs.Prelude.{string_bytes}
use Rattle.std.proofs.lemmas.Result.{err_from_is_err_and}
use Rattle.dns_master.specs.ZoneText.{line_in}
use Rattle.dns_master.proofs.DeviceLemmas.{IsLeft, left_more, left_drained, cut_written, rest_written}
use Rattle.dns_master.proofs.ZoneTextLemmas.{text_next, text_cut, text_all}
use Rattle.dns_master.proofs.zone_text.print_behind.Goals as goal

pub returns-in_err-put_line : goal.returns-in_err-put_line
returns-in_err-put_line g c =
    let l = c.loop-rr in
    let xs = c.args.records.now in
    let p = err_from_is_err_and c.from_residual.result c.from_residual.ensures.1 in
    let gathered = left_more _ _ _ _ (line_in (option_map (λ f. f.now) c.args.form) c.rr-item.result) _ refl l.invariant.left in
    rw (p.1, p.2) (cut_written _ _ _ _ _ _ _ c.in_err-put_line.field-0.0 _ _ _
    (text_cut (line_in (option_map (λ f. f.now) c.args.form)) (string_bytes c.args.text) xs (l.rr-index + 1) ∙ ap (λ (t : List ℕ). t ++ flat_map (line_in (option_map (λ f. f.now) c.args.form)) (drop (l.rr-index + 1) xs)) (text_next (line_in (option_map (λ f. f.now) c.args.form)) (string_bytes c.args.text) xs l.rr-index c.rr-item.result c.loop-rr-test.true c.rr-item.is))
    gathered l.invariant.fine c.in_err-put_line.ensures)

pub loop-rr-preserved : goal.loop-rr-preserved
loop-rr-preserved g c =
    let l = c.loop-rr in
    let gathered = left_more _ _ _ _ (line_in (option_map (λ f. f.now) c.args.form) c.rr-item.result) _ refl l.invariant.left in
    let drained = c.in_ok-put_line.ensures in
    record {
      left = rw (text_next (line_in (option_map (λ f. f.now) c.args.form)) (string_bytes c.args.text) c.args.records.now l.rr-index c.rr-item.result c.loop-rr-test.true c.rr-item.is) (left_drained _ _ _ _ (string_bytes l.text ++ line_in (option_map (λ f. f.now) c.args.form) c.rr-item.result) _ _ drained.1 drained.2 gathered);
      fine = drained.3 ∙ l.invariant.fine;
    }

pub returns : goal.returns
returns g c =
    let l = c.loop-rr in
    let whole = text_all (line_in (option_map (λ f. f.now) c.args.form)) (string_bytes c.args.text) c.args.records.now l.rr-index c.loop-rr-test.false in
    let left = subst (λ (t : List ℕ). IsLeft (g.W.Sink.contents c.args.writer.now) (g.W.Sink.contents l.writer) t (string_bytes l.text)) whole l.invariant.left in
    rest_written _ _ _ _ _ c.write_text.result _ _ _ left l.invariant.fine (rw c.as_bytes.ensures.value at c.write_text.ensures)
