use Rattle.std.proofs.Common.{◌≡◌, List, ℕ, ◌++◌}
use Rattle.std.specs.List.{flat_map}
use Rattle.std.specs.Fmt.{HasWritten, IsPlainFormatter}
use Rattle.dns_names.specs.Spelling.{label_text}
use Rattle.dns_names.proofs.text.write_labels.Given as goal

-- the first labels were written
abbrev pub invariant-loop-label : goal.invariant-loop-label
invariant-loop-label g l =
    IsPlainFormatter l.initial.f → (done : List (List ℕ)) × HasWritten g.W.Write.write_str_gives l.initial.f (flat_map label_text done) l.f × (done ++ l.label-iterator ≡ l.fn.labels)
