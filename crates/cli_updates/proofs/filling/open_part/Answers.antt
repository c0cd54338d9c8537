use Rattle.std.proofs.Common.{◌∙◌, ◌++◌, ap, sym, map, [], ◌∷◌}
use Rattle.std.proofs.lemmas.List.{map-append}
use Rattle.cli_updates.specs.Filling.{piece_view, part_view}
use Rattle.cli_updates.proofs.FillingLemmas.{filled_on, filled_fresh}
use Rattle.cli_updates.proofs.filling.open_part.Goals as goal

pub returns-then-takes : goal.returns-then-takes
returns-then-takes c = λ rest.
    ap (λ ps. map part_view c.args.parts.now.items ++ ps)
    (filled_on c.args.frame c.args.part.octets (part_view c.args.part) (piece_view c.args.piece.now) rest (sym c.takes.ensures ∙ c.if-takes.true))

pub returns : goal.returns
returns c = λ rest.
    let parts = c.args.parts.now.items in
    let items = ap (map part_view) c.in_ok-push.ensures.items ∙ map-append part_view parts (c.args.part ∷ []) in
    filled_fresh (map part_view parts) (map part_view c.push.new.self.items) c.args.frame c.args.part.octets c.new.result.octets (part_view c.args.part) (part_view c.new.result)
    (piece_view c.args.piece.now) rest (sym c.takes.ensures ∙ c.if-takes.false) items c.new.ensures.items c.new.ensures.octets
