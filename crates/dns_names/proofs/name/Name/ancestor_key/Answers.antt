use Rattle.std.proofs.Common.{◌≡◌, ap, ◌∙◌, arith}
use Rattle.dns_names.specs.Keys.{ancestor_key}
use Rattle.dns_names.proofs.KeyLaws.{rest_fits, ancestor_front, ancestor_more, ancestor_stops, ancestor_begins}
use Rattle.dns_names.proofs.name.Name.ancestor_key.Goals as goal

pub returns-in_err-rest-clause-key : goal.returns-in_err-rest-clause-key
returns-in_err-rest-clause-key c =
    let l = c.loop in
    rw c.from_residual.ensures (ancestor_stops c.args.self.now l.counter l.rest.now l.invariant.0 l.invariant.1 c.args.labels c.in_err-rest.ensures c.loop-test.true)

pub returns-in_err-rest-clause-begins : goal.returns-in_err-rest-clause-begins
returns-in_err-rest-clause-begins c = ancestor_begins c.args.self.now c.args.labels

pub loop-preserved : goal.loop-preserved
loop-preserved c =
    let l = c.loop in
    ancestor_more c.args.self.now l.counter l.rest.now l.invariant.0 l.invariant.1 c.in_ok-rest.rest.now c.in_ok-rest.ensures

pub slice_bounds-result-count : goal.slice_bounds-result-count
slice_bounds-result-count c =
    let l = c.loop in
    rw c.key-key.ensures.key (rest_fits c.args.self.now l.counter l.rest.now l.invariant.0 l.invariant.1)

pub returns-clause-key : goal.returns-clause-key
returns-clause-key c =
    let l = c.loop in
    let n : l.counter ≡ c.args.labels = omega (arith, c.loop-test.false, l.auto.counter-end) in
    rw c.key-key.ensures.key (ancestor_front c.args.self.now l.counter l.rest.now l.invariant.0 l.invariant.1 ∙ ap (ancestor_key c.args.self.now) n)

pub returns-clause-begins : goal.returns-clause-begins
returns-clause-begins c = ancestor_begins c.args.self.now c.args.labels
