use Rattle.std.proofs.Common.{subst}
use Rattle.dns_master.specs.Faults.{Gives}
use Rattle.dns_master.specs.Files.{file_of}
use Rattle.dns_master.specs.FileGrammar.{IsFile}
use Rattle.dns_master.proofs.FileLaws.{text_found, text_only, given}
use Rattle.dns_master.proofs.file.read_file.Goals as goal

pub returns-clause-found : goal.returns-clause-found
returns-clause-found c =
    let text = c.args.text.now in
    let origin = c.args.origin.now in
    given (λ v. v.items) (IsFile text origin) c.file_of.result (file_of text origin) (λ rs e. text_found text origin rs c.labels.ensures.name c.reveal_octets.ensures e) c.file_of.ensures

pub returns-clause-only : goal.returns-clause-only
returns-clause-only c = λ rs h short.
    let text = c.args.text.now in
    let origin = c.args.origin.now in
    subst (Gives (λ v. v.items) c.file_of.result) (text_only text origin rs c.labels.ensures.name h short) c.file_of.ensures
