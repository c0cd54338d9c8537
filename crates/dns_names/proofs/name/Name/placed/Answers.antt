use Rattle.std.proofs.Common.{◌≡◌, ◌++◌, ◌<◌, List, ℕ, length, ap, ◌∙◌, subst, sym, arith}
use Rattle.dns_names.specs.Labels.{IsName}
use Rattle.dns_names.specs.Reading.{fitting}
use Rattle.dns_names.specs.Rows.{with_dot}
use Rattle.dns_names.specs.Faults.{Reads}
use Rattle.dns_names.proofs.ReadLemmas.{bytes_from_fits}
use Rattle.dns_names.proofs.KeptLemmas.{counts_dot}
use Rattle.dns_names.proofs.PlacedLemmas.{root_is, whole_ended, whole_name, placed_whole, dotted_ended, dotted_name, placed_dotted}
use Rattle.dns_names.proofs.name.Name.placed.Goals as goal

pub of_pieces-requires-clause-name : goal.of_pieces-requires-clause-name
of_pieces-requires-clause-name c =
    let bytes = bytes_from_fits c.args.text.now (λ i. omega (arith, c.type_inv.text i)) in
    let p = c.in_ok-read.ensures.exact in
    let none : length p.0.last ≡ 0 = omega (arith, p.2.last, c.if-pieces-eq0.true) in
    (p.0, p.2, whole_ended c.args.text.now bytes p.0 p.1 none, whole_name c.args.text.now bytes p.0 p.1 none c.of_root.result (subst IsName (sym c.of_root.ensures) root_is))

pub returns-then-pieces-eq0 : goal.returns-then-pieces-eq0
returns-then-pieces-eq0 c =
    let bytes = bytes_from_fits c.args.text.now (λ i. omega (arith, c.type_inv.text i)) in
    let p = c.in_ok-read.ensures.exact in
    let none : length p.0.last ≡ 0 = omega (arith, p.2.last, c.if-pieces-eq0.true) in
    subst (Reads (λ name. name) c.of_pieces.result) (ap (λ (t : List (List ℕ)). fitting (p.0.ended ++ t)) c.of_root.ensures ∙ sym (placed_whole c.args.text.now bytes p.0 p.1 none c.args.origin.now)) (c.of_pieces.ensures p.0 p.2 (whole_ended c.args.text.now bytes p.0 p.1 none))

pub of_pieces-requires-2-clause-fits : goal.of_pieces-requires-2-clause-fits
of_pieces-requires-2-clause-fits c =
    let p = c.in_ok-read.ensures.exact in
    omega (arith, counts_dot c.read.new.self c.end_label.new.self p.0 p.2 (c.end_label.ensures p.0 p.2), c.in_ok-read.ensures.fits)

pub of_pieces-requires-2-clause-name : goal.of_pieces-requires-2-clause-name
of_pieces-requires-2-clause-name c =
    let bytes = bytes_from_fits c.args.text.now (λ i. omega (arith, c.type_inv.text i)) in
    let p = c.in_ok-read.ensures.exact in
    let some : 0 < length p.0.last = omega (arith, p.2.last, c.if-pieces-eq0.false) in
    (with_dot p.0, c.end_label.ensures p.0 p.2, dotted_ended c.args.text.now bytes p.0 p.1 some, dotted_name c.args.text.now bytes p.0 p.1 some c.rows.result (subst IsName (sym c.rows.ensures.rows) c.rows.ensures.name))

pub returns : goal.returns
returns c =
    let bytes = bytes_from_fits c.args.text.now (λ i. omega (arith, c.type_inv.text i)) in
    let p = c.in_ok-read.ensures.exact in
    let some : 0 < length p.0.last = omega (arith, p.2.last, c.if-pieces-eq0.false) in
    subst (Reads (λ name. name) c.of_pieces-2.result) (ap (λ (t : List (List ℕ)). fitting ((with_dot p.0).ended ++ t)) c.rows.ensures.rows ∙ sym (placed_dotted c.args.text.now bytes p.0 p.1 some c.args.origin.now)) (c.of_pieces-2.ensures (with_dot p.0) (c.end_label.ensures p.0 p.2) (dotted_ended c.args.text.now bytes p.0 p.1 some))
