use Rattle.std.proofs.Common.{◌≡◌, ℕ, List, take, ◌∷◌, ◌++◌}
use Rattle.std.specs.List.{flat_map}
use Rattle.std.specs.Fmt.{HasWritten, IsPlainFormatter}
use Rattle.dns_data.proofs.TextLemmas.{quoted, behind}
use Rattle.dns_data.proofs.text.StringsDisplay.fmt.Given as goal

abbrev pub invariant-loop-string : goal.invariant-loop-string
invariant-loop-string g l =
    (first : List ℕ) × (l.self ≡ first ∷ l.others) × (IsPlainFormatter l.fn.f → HasWritten g.W.Write.write_str_gives l.fn.f (quoted first ++ flat_map behind (take l.string-index l.others)) l.f)
