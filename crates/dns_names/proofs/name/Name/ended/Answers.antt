use Rattle.std.proofs.Common.{◌≡◌, ◌++◌, List, ℕ, length, ap, ◌∙◌, subst, sym, arith}
use Rattle.dns_names.specs.Labels.{IsName}
use Rattle.dns_names.specs.Reading.{fitting}
use Rattle.dns_names.specs.Faults.{Reads}
use Rattle.dns_names.proofs.ReadLemmas.{bytes_from_fits}
use Rattle.dns_names.proofs.PlacedLemmas.{root_is, whole_ended, whole_name, ended_whole, ended_refuses}
use Rattle.dns_names.proofs.name.Name.ended.Goals as goal

pub returns-then-pieces-gt0 : goal.returns-then-pieces-gt0
returns-then-pieces-gt0 c =
    let bytes = bytes_from_fits c.args.text.now (λ i. omega (arith, c.type_inv.text i)) in
    let p = c.in_ok-read.ensures.exact in
    ended_refuses c.args.text.now bytes p.0 p.1 (omega (arith, p.2.last, c.if-pieces-gt0.true))

pub of_pieces-requires-clause-name : goal.of_pieces-requires-clause-name
of_pieces-requires-clause-name c =
    let bytes = bytes_from_fits c.args.text.now (λ i. omega (arith, c.type_inv.text i)) in
    let p = c.in_ok-read.ensures.exact in
    let none : length p.0.last ≡ 0 = omega (arith, p.2.last, c.if-pieces-gt0.false) in
    (p.0, p.2, whole_ended c.args.text.now bytes p.0 p.1 none, whole_name c.args.text.now bytes p.0 p.1 none c.of_root.result (subst IsName (sym c.of_root.ensures) root_is))

pub returns : goal.returns
returns c =
    let bytes = bytes_from_fits c.args.text.now (λ i. omega (arith, c.type_inv.text i)) in
    let p = c.in_ok-read.ensures.exact in
    let none : length p.0.last ≡ 0 = omega (arith, p.2.last, c.if-pieces-gt0.false) in
    subst (Reads (λ name. name) c.of_pieces.result) (ap (λ (t : List (List ℕ)). fitting (p.0.ended ++ t)) c.of_root.ensures ∙ sym (ended_whole c.args.text.now bytes p.0 p.1 none)) (c.of_pieces.ensures p.0 p.2 (whole_ended c.args.text.now bytes p.0 p.1 none))
