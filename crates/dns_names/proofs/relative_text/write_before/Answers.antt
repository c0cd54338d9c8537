use Rattle.std.proofs.Common.{sym, ap, refl}
use Rattle.std.proofs.Output.{has_written_append, has_written_of_eq}
use Rattle.dns_names.specs.Spelling.{dotted_text}
use Rattle.dns_names.proofs.relative_text.write_before.Goals as goal

pub returns-in_default : goal.returns-in_default
returns-in_default g c = λ plain ok. has_written_of_eq _ _ _ _ _ (ap dotted_text (sym c.in_default.ensures.steps.0)) (c.write_str.ensures.writes plain ok)

pub returns : goal.returns
returns g c = λ plain ok.
    let first = c.in_ok-write_octets.ensures plain refl in
    has_written_of_eq _ _ _ _ _ (ap dotted_text (sym c.in-Some.ensures.steps)) (has_written_append _ _ _ _ _ _ first (c.write_dotted.ensures first.plain ok))
