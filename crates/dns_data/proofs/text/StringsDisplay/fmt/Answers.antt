use Rattle.std.proofs.Common.{true, ◌-◌, List, ℕ, length, take, drop, refl, sym, ◌∙◌, arith}
use Rattle.std.proofs.Output.{has_written_append, has_written_of_eq}
use Rattle.std.proofs.lemmas.List.{append-nil}
use Rattle.dns_data.proofs.TextLemmas.{first_and_rest, quoted, one_more, all_written}
use Rattle.dns_data.proofs.text.StringsDisplay.fmt.Goals as goal

pub loop-string-init : goal.loop-string-init
loop-string-init g c =
    let strings = c.as_slice.result.now in
    let first = c.first-item.result in
    (first, sym c.as_slice.ensures.strings ∙ first_and_rest strings first (omega (arith, c.in-len1-up.len_at_least)) c.first-item.is, λ plain. has_written_of_eq _ _ _ _ _ (sym (append-nil (quoted first))) (c.in_ok-write.ensures.writes plain (refl {a = true})))

pub loop-string-preserved : goal.loop-string-preserved
loop-string-preserved g c =
    let l = c.loop-string in
    let strings = c.as_slice.result.now in
    let others : List (List ℕ) = take (length strings - 1) (drop 1 strings) in
    let text = one_more l.invariant.0 others l.string-index c.string-item.result c.loop-string-test.true c.string-item.is in
    (l.invariant.0, l.invariant.1, λ plain. let now = l.invariant.2 plain in has_written_of_eq _ _ _ _ _ text (has_written_append _ _ _ _ _ _ now (c.in_ok-write-2.ensures.writes now.plain (refl {a = true}))))

pub returns-clause-writes : goal.returns-clause-writes
returns-clause-writes g c = λ plain ok.
    let l = c.loop-string in
    let strings = c.as_slice.result.now in
    let others : List (List ℕ) = take (length strings - 1) (drop 1 strings) in
    has_written_of_eq _ _ _ _ _ (all_written l.invariant.0 others l.string-index c.args.self.now c.loop-string-test.false l.invariant.1) (l.invariant.2 plain)
