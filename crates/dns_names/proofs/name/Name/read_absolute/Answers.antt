use Rattle.std.proofs.Common.{subst, arith}
use Rattle.dns_names.specs.Faults.{Reads}
use Rattle.dns_names.specs.Labels.{IsName}
use Rattle.dns_names.specs.Spelling.{SpellsAbsolute}
use Rattle.dns_names.specs.Reading.{absolute_name}
use Rattle.dns_names.proofs.ReadingLaws.{absolute_found, absolute_only}
use Rattle.dns_names.proofs.ReadLemmas.{bytes_from_fits, found_of}
use Rattle.dns_names.proofs.name.Name.read_absolute.Goals as goal

pub returns-clause-found : goal.returns-clause-found
returns-clause-found c =
    let text = c.args.text.now in
    let bytes = bytes_from_fits text (λ i. omega (arith, c.type_inv.text i)) in
    found_of (λ name. IsName name × SpellsAbsolute name text) c.absolute.result (absolute_name text) c.absolute.ensures (λ name e. absolute_found text name bytes e)

pub returns-clause-only : goal.returns-clause-only
returns-clause-only c = λ name is spelled. subst (Reads (λ read. read) c.absolute.result) (absolute_only name c.args.text.now is spelled) c.absolute.ensures
