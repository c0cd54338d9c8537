use Rattle.std.proofs.Common.{subst, arith}
use Rattle.dns_names.proofs.ReadLemmas.{bytes_from_fits}
use Rattle.dns_data.specs.Faults.{Reads}
use Rattle.dns_data.specs.Strings.{IsString, SpellsString, string_of}
use Rattle.dns_data.proofs.EachLemmas.{found_of}
use Rattle.dns_data.proofs.StringLaws.{string_found, string_only}
use Rattle.dns_data.proofs.strings.CharacterString.read.Goals as goal

pub returns-clause-found : goal.returns-clause-found
returns-clause-found c =
    let raw = c.args.raw.now in
    found_of (λ string. IsString string × SpellsString string raw) c.read_exact.result (string_of raw) c.read_exact.ensures (λ string e. string_found raw string (bytes_from_fits raw (λ i. omega (arith, c.type_inv.raw i))) e)

pub returns-clause-only : goal.returns-clause-only
returns-clause-only c = λ string is h. subst (λ read. Reads (λ s. s) c.read_exact.result read) (string_only string c.args.raw.now is h) c.read_exact.ensures
