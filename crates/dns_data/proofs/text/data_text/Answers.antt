use Rattle.std.proofs.Common.{◌≡◌, ◌∙◌}
use Rattle.std.specs.Prelude.{string_bytes}
use Rattle.std.proofs.lemmas.Result.{IfOk-weaker}
use Rattle.dns_data.specs.Text.{data_text}
use Rattle.dns_data.specs.Again.{ReadsBack, IsTextOfOnly}
use Rattle.dns_data.proofs.DataLaws.{data_again}
use Rattle.dns_data.proofs.ApartLaws.{one_text}
use Rattle.dns_data.proofs.text.data_text.Goals as goal

pub returns-clause-apart : goal.returns-clause-apart
returns-clause-apart c =
    let rdata = c.args.rdata.now in
    IfOk-weaker c.to_string.result (λ text. string_bytes text ≡ data_text rdata) (λ text. IsTextOfOnly (string_bytes text) rdata) (λ text same other is types texts. one_text other rdata is c.record_type.ensures.rdata types (texts ∙ same)) c.to_string.ensures.ok

pub returns-clause-again : goal.returns-clause-again
returns-clause-again c = IfOk-weaker c.to_string.result (λ text. string_bytes text ≡ data_text c.args.rdata.now) (λ text. ReadsBack c.args.rdata.now) (λ text same. data_again c.args.rdata.now c.record_type.ensures.rdata) c.to_string.ensures.ok
