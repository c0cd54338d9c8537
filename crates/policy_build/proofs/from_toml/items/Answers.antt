use Rattle.std.proofs.Common.{◌≡◌, ◌+◌, ◌<◌, ◌∙◌, ◌∷◌, [], Ok, length, drop, ap, sym, arith, length-append}
use Rattle.std.proofs.lemmas.Result.{err_from_is_err_and}
use Rattle.toml.specs.View.{view, items_view}
use Rattle.policy_build.specs.Places.{nth_of}
use Rattle.policy_build.specs.Reading.{items_from}
use Rattle.policy_build.proofs.LoopLemmas.{Refuses-on}
use Rattle.policy_build.proofs.ReadingLemmas.{items_more, items_stop, items_done}
use Rattle.policy_build.proofs.from_toml.items.Goals as goal

pub loop-i-preserved : goal.loop-i-preserved
loop-i-preserved g c =
    let read = g.T.FromToml.read_of in
    let values = c.args.values.now in
    let i = c.loop-i.i in
    let v = c.index-values-i.result in
    let done = c.loop-i.items.items in
    let x = c.in_ok-read.field-0 in
    let pushed = c.in_ok-push.ensures.items in
    let lt : i < length values = omega arith in
    let e : read (nth_of c.args.place (i + 1)) (view v) ≡ Ok x = ap (λ q. read q (view v)) (sym c.nth.ensures) ∙ c.in_ok-read.ensures in
    record {
      count = omega (arith, ap length pushed, length-append done (x ∷ []), c.loop-i.invariant.count);
      read = c.loop-i.invariant.read ∙ items_more read c.args.place values done i v x lt c.index-values-i.is c.loop-i.invariant.count e ∙ ap (λ l. items_from read c.args.place l (items_view (drop (i + 1) values))) (sym pushed);
    }

pub returns-in_err-read : goal.returns-in_err-read
returns-in_err-read g c =
    let p = err_from_is_err_and c.from_residual.result c.from_residual.ensures.1 in
    let read = g.T.FromToml.read_of in
    let values = c.args.values.now in
    let i = c.loop-i.i in
    let v = c.index-values-i.result in
    let lt : i < length values = omega arith in
    rw (p.1, p.2) (Refuses-on _ _ _ (λ fault e. c.loop-i.invariant.read ∙ items_stop read c.args.place values c.loop-i.items.items i v fault lt c.index-values-i.is c.loop-i.invariant.count (ap (λ q. read q (view v)) (sym c.nth.ensures) ∙ e)) c.in_err-read.ensures)

pub returns : goal.returns
returns g c = c.loop-i.invariant.read ∙ items_done g.T.FromToml.read_of c.args.place c.args.values.now c.loop-i.items.items c.loop-i.i (omega arith)
