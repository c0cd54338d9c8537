use Rattle.std.proofs.Common.{◌≡◌, ◌++◌, map, take}
use Rattle.refusals.specs.Tables.{row_of}
use Rattle.refusals.proofs.number.push_rows.Given as goal

abbrev pub invariant-loop-line : goal.invariant-loop-line
invariant-loop-line l =
    map row_of l.all.items ≡ map row_of l.initial.all.items ++ map (λ r. record { number = r.0.now; kind = r.1; name = r.2.now; words = r.3.now; meaning = r.4.now; advice = r.5.now; source = r.6.now }) (take l.line-index l.table)
