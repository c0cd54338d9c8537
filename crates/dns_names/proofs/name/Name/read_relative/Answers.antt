use Rattle.std.proofs.Common.{subst, arith}
use Rattle.dns_names.specs.Faults.{Reads}
use Rattle.dns_names.specs.Labels.{IsName}
use Rattle.dns_names.specs.Spelling.{SpellsRelative}
use Rattle.dns_names.specs.Reading.{relative_name}
use Rattle.dns_names.proofs.ReadingLaws.{relative_found, relative_only}
use Rattle.dns_names.proofs.ReadLemmas.{bytes_from_fits, found_of}
use Rattle.dns_names.proofs.name.Name.read_relative.Goals as goal

pub returns-clause-found : goal.returns-clause-found
returns-clause-found c =
    let origin = c.args.origin.now in
    let text = c.args.text.now in
    let is = subst IsName c.origin.view_is c.origin.invariant.name in
    let bytes = bytes_from_fits text (λ i. omega (arith, c.type_inv.text i)) in
    found_of (λ name. IsName name × SpellsRelative origin name text) c.relative.result (relative_name origin text) c.relative.ensures (λ name e. relative_found origin text name is bytes e)

pub returns-clause-only : goal.returns-clause-only
returns-clause-only c =
    let is = subst IsName c.origin.view_is c.origin.invariant.name in
    λ name fits spelled. subst (Reads (λ read. read) c.relative.result) (relative_only c.args.origin.now name c.args.text.now is fits spelled) c.relative.ensures
